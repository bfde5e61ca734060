-- What the value of a field says. A value is given by its tokens and by the place e where it ends.
use Rattle.std.specs.Prelude.{ℕ, Bool, true, false, cond, List, [], ◌∷◌, ◌++◌, Ok, Err, Result}
use Rattle.refusals.specs.declared.Refusal.TheVariants.{BadLine, BadName}
use Rattle.texts.specs.declared.faults.Layer.TheVariants as layer
use Rattle.texts.specs.Faults.{fault}
use Rattle.texts.specs.declared.faults.Fault.{Fault}
use Rattle.stanzas.specs.Tokens.{Mention, Token, Named, Misnamed, Comma, Bar, place_of}
use Rattle.stanzas.specs.Notes.{NotesModel, and_then, name_added, added}
use Rattle.stanzas.specs.declared.lines.Relation.{Relation}
use Rattle.stanzas.specs.declared.lines.Relation.TheVariants.{Depends, Conflicts}

-- a name that breaks the rule, or is missing
abbrev pub no_name : ℕ → Fault
no_name p = fault BadName layer.Name p

-- a second name without a separator, or a separator that the field does not have
abbrev pub misplaced : ℕ → Fault
misplaced p = fault BadLine layer.Field p

-- whether the field has bars
abbrev pub bars : Relation → Bool
bars Depends = true
bars Conflicts = false

-- nothing may follow the name of a Package
abbrev pub alone : List Token → NotesModel → Result NotesModel Fault
alone [] n = Ok n
alone (t ∷ ts) n = Err (misplaced (place_of t))

-- the value of Package: one name, which is added before what follows it is looked at
abbrev pub single : ℕ → NotesModel → List Token → Result NotesModel Fault
single e n [] = Err (no_name e)
single e n (Misnamed p ∷ ts) = Err (no_name p)
single e n (Comma p ∷ ts) = Err (misplaced p)
single e n (Bar p ∷ ts) = Err (misplaced p)
single e n (Named m ∷ ts) = and_then (name_added n m) (alone ts)

-- a value of Depends or Conflicts from a place on where a name is due; front has the names of the clause at hand
abbrev pub listed : Relation → ℕ → NotesModel → List Mention → List Token → Result NotesModel Fault
listed r e n front [] = Err (no_name e)
listed r e n front (Misnamed p ∷ ts) = Err (no_name p)
listed r e n front (Comma p ∷ ts) = Err (no_name p)
listed r e n front (Bar p ∷ ts) = Err (cond (bars r) (no_name p) (misplaced p))
listed r e n front (Named m ∷ []) = added r n (front ++ m ∷ [])
listed r e n front (Named m ∷ Named o ∷ ts) = Err (misplaced o.place)
listed r e n front (Named m ∷ Misnamed p ∷ ts) = Err (misplaced p)
listed r e n front (Named m ∷ Comma p ∷ ts) = and_then (added r n (front ++ m ∷ [])) (λ o. listed r e o [] ts)
listed r e n front (Named m ∷ Bar p ∷ ts) = cond (bars r) (listed r e n (front ++ m ∷ []) ts) (Err (misplaced p))

-- the value of Depends or Conflicts: an empty one says nothing
abbrev pub related : Relation → ℕ → NotesModel → List Token → Result NotesModel Fault
related r e n [] = Ok n
related r e n (t ∷ ts) = listed r e n [] (t ∷ ts)
