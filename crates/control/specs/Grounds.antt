-- The ground that a control file describes. Its components are the stanzas, numbered in file order, and a name means the component whose stanza has it.
use Rattle.std.specs.Prelude.{ℕ, Bool, false, cond, not, ◌&&◌, ◌||◌, List, [], ◌∷◌, map, length, Some, None, Ok, Err, Option, Result, ◌==◌, nat_lt, slice_index_or}
use Rattle.std.specs.List.{range_with_len}
use Rattle.sets.specs.Sets.{with_member, collect}
use Rattle.refusals.specs.declared.Refusal.{Refusal}
use Rattle.refusals.specs.declared.Refusal.TheVariants.{NoComponent}
use Rattle.sheets.specs.Sheets.{SheetModel}
use Rattle.sheets.specs.declared.clause.Clause.{Clause}
use Rattle.catalogue.specs.Drafts.{Draft, closed}
use Rattle.texts.specs.Spans.{look_up}
use Rattle.texts.specs.declared.faults.Fault.{Fault}
use Rattle.stanzas.specs.Files.{reading}
use Rattle.stanzas.specs.Notes.{NeedModel, ClashModel, NotesModel, and_then}

-- ---- clauses

-- a set with one component more, if there is one
abbrev pub with_found : ℕ → Option ℕ → ℕ
with_found s (Some i) = with_member s i
with_found s None = s

-- the components that these names mean: a name that no stanza has means none
abbrev pub known : List (List ℕ) → List (List ℕ) → ℕ
known names [] = 0
known names (n ∷ ns) = with_found (known names ns) (look_up 0 names n)

-- a clause with the components that its names mean. It stays a clause where they mean none: then nothing meets it.
abbrev pub clause_of : List (List ℕ) → NeedModel → Clause
clause_of names n = record { owner = n.owner; members = known names n.names }

-- ---- conflicts

-- whether the component that was found is q
abbrev pub is_found : Option ℕ → ℕ → Bool
is_found (Some i) q = i == q
is_found None q = false

-- whether one of these conflicts stands in p's stanza, and its name means q; by cases, since it grows with the file
abbrev pub against : List (List ℕ) → List ClashModel → ℕ → ℕ → Bool
against names [] p q = false
against names (c ∷ cs) p q = (c.owner == p && is_found (look_up 0 names c.name) q) || against names cs p q

-- p opposes q: so says p's stanza, and q is another component. A stanza's own name among its conflicts says nothing.
abbrev pub opposes : List (List ℕ) → List ClashModel → ℕ → ℕ → Bool
opposes names cs p q = not (p == q) && against names cs p q

-- the record of p: what it opposes
abbrev pub record_of : List (List ℕ) → List ClashModel → ℕ → ℕ
record_of names cs p = collect (opposes names cs p) (length names)

-- one for each component
abbrev pub records_of : List (List ℕ) → List ClashModel → List ℕ
records_of names cs = map (record_of names cs) (range_with_len 0 (length names))

-- ---- the whole file

-- the catalogue that the stanzas fill: a component for each name, and the clauses in file order
abbrev pub draft_of : NotesModel → Draft
draft_of n = record { clauses = map (clause_of n.names) n.needs; records = records_of n.names n.clashes }

-- what a control file holds: the name of each component, and the sheet of its ground
pub record Contents : Type 0 where
  pub names : List (List ℕ)
  pub sheet : SheetModel

-- what the notes describe
abbrev pub described : NotesModel → Contents
described n = record { names = n.names; sheet = closed (draft_of n) }

-- what a whole file holds, or the first fault in it
abbrev pub contents : List ℕ → Result Contents Fault
contents file = and_then (reading file) (λ n. Ok (described n))

-- what the look-up of a component's name answers
abbrev pub name_at : Contents → ℕ → Result (List ℕ) Refusal
name_at c i = cond (nat_lt i (length c.names)) (Ok (slice_index_or c.names i [])) (Err NoComponent)
