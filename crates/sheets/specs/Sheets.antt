-- What a sheet says: its model.
use Rattle.std.specs.Prelude.{◌≡◌, ℕ, ◌^◌, ◌<◌, ◌≤◌, cond, List, length, Ok, Err, vec_items, vec_len, Result, nat_lt}
use Rattle.sets.specs.Limit.{limit}
use Rattle.sets.specs.Sets.{has}
use Rattle.refusals.specs.declared.Refusal.{Refusal}
use Rattle.refusals.specs.declared.Refusal.TheVariants.{NoClause, NoComponent}
use Rattle.sheets.specs.Limits.{max_clauses}
use Rattle.sheets.specs.Clauses.{clause_at, row, Owned, Known, Among, Mutual, Irreflexive}
use Rattle.sheets.specs.declared.clause.Clause.{Clause}
use Rattle.sheets.specs.declared.sheet.Sheet.{Sheet}

-- a size, the set of the components that are present, the clauses in list order, and a conflict set for each number below the size
pub record SheetModel : Type 0 where
  pub size : ℕ
  pub present : ℕ
  pub clauses : List Clause
  pub conflicts : List ℕ

abbrev pub model : Sheet → SheetModel
model s = record { size = vec_len s.conflicts; present = s.present; clauses = vec_items s.clauses; conflicts = vec_items s.conflicts }

-- the components that i conflicts with
abbrev pub conflicts_of : SheetModel → ℕ → ℕ
conflicts_of m i = row m.conflicts i

-- what every sheet keeps
pub record Formed (m : SheetModel) : Type 0 where
  pub small : m.size ≤ limit
  pub bounded : m.present < 2 ^ m.size
  pub rows : length m.conflicts ≡ m.size
  pub few : length m.clauses ≤ max_clauses
  pub owned : Owned m.present m.clauses
  pub known : Known m.present m.clauses
  pub among : Among m.present m.conflicts
  pub mutuals : Mutual m.conflicts
  pub irreflexive : Irreflexive m.conflicts

-- what a look-up at a place answers: f of the clause there
abbrev pub found : {X : Type 0} → SheetModel → (Clause → X) → ℕ → Result X Refusal
found m f k = cond (nat_lt k (length m.clauses)) (Ok (f (clause_at m.clauses k))) (Err NoClause)

-- what the look-up of a component's conflict set answers
abbrev pub opponents : SheetModel → ℕ → Result ℕ Refusal
opponents m i = cond (has m.present i) (Ok (conflicts_of m i)) (Err NoComponent)
