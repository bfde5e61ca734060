-- What a file has said so far, and how a name, a clause or a conflict is added to it.
use Rattle.std.specs.Prelude.{ℕ, ◌-◌, false, cond, List, [], ◌∷◌, ◌++◌, map, length, is_some, Some, None, Option, Ok, Err, Result, nat_lt}
use Rattle.sets.specs.Limit.{limit}
use Rattle.refusals.specs.declared.Refusal.TheVariants.{NameTwice, TooMany, TableFull}
use Rattle.sheets.specs.Limits.{max_clauses}
use Rattle.texts.specs.Spans.{look_up}
use Rattle.texts.specs.Faults.{fault}
use Rattle.texts.specs.declared.faults.Layer.TheVariants as layer
use Rattle.texts.specs.declared.faults.Fault.{Fault}
use Rattle.stanzas.specs.Tokens.{Mention}
use Rattle.stanzas.specs.declared.lines.Relation.{Relation}
use Rattle.stanzas.specs.declared.lines.Relation.TheVariants.{Depends, Conflicts}
use Rattle.stanzas.specs.declared.lines.Stanza.{Stanza}

-- a clause as it is written: the component in whose stanza it stands, and the names between which there is a choice
pub record NeedModel : Type 0 where
  pub owner : ℕ
  pub names : List (List ℕ)

-- a conflict as it is written: the component in whose stanza it stands, and a name
pub record ClashModel : Type 0 where
  pub owner : ℕ
  pub name : List ℕ

-- the names of the components, the clauses and conflicts in file order, and what the stanza at hand has had so far; between two stanzas there is none at hand
pub record NotesModel : Type 0 where
  pub names : List (List ℕ)
  pub needs : List NeedModel
  pub clashes : List ClashModel
  pub stanza : Option Stanza

-- before the first line
abbrev pub start : NotesModel
start = record { names = []; needs = []; clashes = []; stanza = None }

abbrev pub with_stanza : NotesModel → Option Stanza → NotesModel
with_stanza n s = record { names = n.names; needs = n.needs; clashes = n.clashes; stanza = s }

-- go on with what was read, or give its fault
abbrev pub and_then : {X Y : Type 0} → Result X Fault → (X → Result Y Fault) → Result Y Fault
and_then (Ok x) f = f x
and_then (Err e) f = Err e

-- ---- names

-- a stanza that has had its Package, and nothing else
abbrev pub fresh : Stanza
fresh = record { depends = false; conflicts = false; skipping = false }

-- a stanza begins, and its component has this name
abbrev pub with_name : NotesModel → List ℕ → NotesModel
with_name n x = record { names = n.names ++ x ∷ []; needs = n.needs; clashes = n.clashes; stanza = Some fresh }

-- a name that a stanza before has, then one component too many
abbrev pub name_added : NotesModel → Mention → Result NotesModel Fault
name_added n m =
    cond (is_some (look_up 0 n.names m.name)) (Err (fault NameTwice layer.File m.place))
    (cond (nat_lt (length n.names) limit) (Ok (with_name n m.name)) (Err (fault TooMany layer.File m.place)))

-- ---- clauses and conflicts

-- the component of the stanza at hand
abbrev pub owner_of : NotesModel → ℕ
owner_of n = length n.names - 1

abbrev pub first_place : List Mention → ℕ
first_place [] = 0
first_place (m ∷ ms) = m.place

abbrev pub with_need : NotesModel → List Mention → NotesModel
with_need n clause = record { names = n.names; needs = n.needs ++ (record { owner = owner_of n; names = map (λ m. m.name) clause }) ∷ []; clashes = n.clashes; stanza = n.stanza }

abbrev pub with_clashes : NotesModel → List Mention → NotesModel
with_clashes n clause = record { names = n.names; needs = n.needs; clashes = n.clashes ++ map (λ m. record { owner = owner_of n; name = m.name }) clause; stanza = n.stanza }

-- what stands between two commas is whole: a clause, unless the file has its full number, or conflicts
abbrev pub added : Relation → NotesModel → List Mention → Result NotesModel Fault
added Depends n clause = cond (nat_lt (length n.needs) max_clauses) (Ok (with_need n clause)) (Err (fault TableFull layer.Field (first_place clause)))
added Conflicts n clause = Ok (with_clashes n clause)
