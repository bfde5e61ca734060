-- How a sheet is built: what each call makes of it, or the refusal that it gives.
use Rattle.std.specs.Prelude.{◌≡◌, ℕ, ◌+◌, ◌^◌, cond, ◌&&◌, List, [], ◌∷◌, ◌++◌, map, length, Ok, Err, Result, ◌==◌, bit_or, nat_lt}
use Rattle.std.specs.List.{range_with_len}
use Rattle.sets.specs.Limit.{limit}
use Rattle.sets.specs.Sets.{has, within, with_member}
use Rattle.refusals.specs.declared.Refusal.{Refusal}
use Rattle.refusals.specs.declared.Refusal.TheVariants.{TooMany, TableFull, NoComponent, SelfClash}
use Rattle.sheets.specs.Limits.{max_clauses}
use Rattle.sheets.specs.Clauses.{row}
use Rattle.sheets.specs.Sheets.{SheetModel}
use Rattle.sheets.specs.declared.clause.Clause.{Clause}

-- A call that gives a new value or refuses: it answers u and leaves that value, or it answers the refusal and leaves the old one.
abbrev pub Goes : {X E U : Type 0} → Result X E → U → Result U E → X → X → Type 0
Goes (Ok x) u r old new = (r ≡ Ok u) × (new ≡ x)
Goes (Err e) u r old new = (r ≡ Err e) × (new ≡ old)

-- the sheet without components
abbrev pub blank : SheetModel
blank = record { size = 0; present = 0; clauses = []; conflicts = [] }

abbrev pub with_clauses : SheetModel → List Clause → SheetModel
with_clauses m cs = record { size = m.size; present = m.present; clauses = cs; conflicts = m.conflicts }

abbrev pub with_conflicts : SheetModel → List ℕ → SheetModel
with_conflicts m table = record { size = m.size; present = m.present; clauses = m.clauses; conflicts = table }

-- one more component, numbered by the size, without needs and conflicts
abbrev pub grown : SheetModel → SheetModel
grown m = record { size = m.size + 1; present = bit_or m.present (2 ^ m.size); clauses = m.clauses; conflicts = m.conflicts ++ 0 ∷ [] }

abbrev pub component_added : SheetModel → Result SheetModel Refusal
component_added m = cond (nat_lt m.size limit) (Ok (grown m)) (Err TooMany)

-- one more clause, at the end of the list
abbrev pub clause_added : SheetModel → Clause → Result SheetModel Refusal
clause_added m c =
    cond (has m.present c.owner && within c.members m.present)
    (cond (nat_lt (length m.clauses) max_clauses) (Ok (with_clauses m (m.clauses ++ c ∷ []))) (Err TableFull))
    (Err NoComponent)

-- a conflict set s of i once p conflicts with each member of qs
abbrev pub opposed_set : ℕ → ℕ → ℕ → ℕ → ℕ
opposed_set s p qs i = cond (i == p) (bit_or s qs) (cond (has qs i) (with_member s p) s)

abbrev pub opposed_row : List ℕ → ℕ → ℕ → ℕ → ℕ
opposed_row table p qs i = opposed_set (row table i) p qs i

abbrev pub opposed : List ℕ → ℕ → ℕ → List ℕ
opposed table p qs = map (opposed_row table p qs) (range_with_len 0 (length table))

-- p conflicts with each member of qs, both ways
abbrev pub conflicts_added : SheetModel → ℕ → ℕ → Result SheetModel Refusal
conflicts_added m p qs =
    cond (has m.present p && within qs m.present)
    (cond (has qs p) (Err SelfClash) (Ok (with_conflicts m (opposed m.conflicts p qs))))
    (Err NoComponent)
