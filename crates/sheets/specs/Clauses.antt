-- Clauses and conflict tables, and what those of a sheet keep: the invariants of the type `Sheet`.
use Rattle.std.specs.Prelude.{◌≡◌, ℕ, ◌<◌, true, false, List, length, slice_index_or}
use Rattle.sets.specs.Sets.{has, Has, within}
use Rattle.sheets.specs.declared.clause.Clause.{Clause}

-- the clause that a look-up past the end of a list falls back to
abbrev pub no_clause : Clause
no_clause = record { owner = 0; members = 0 }

-- the clause at a place
abbrev pub clause_at : List Clause → ℕ → Clause
clause_at cs k = slice_index_or cs k no_clause

-- the conflict set of a component, from the table of conflict sets; empty past its end
abbrev pub row : List ℕ → ℕ → ℕ
row table i = slice_index_or table i 0

-- the owner of each clause is present
abbrev pub Owned : ℕ → List Clause → Type 0
Owned present cs = (k : ℕ) → k < length cs → Has present (clause_at cs k).owner

-- the members of each clause are present
abbrev pub Known : ℕ → List Clause → Type 0
Known present cs = (k : ℕ) → k < length cs → within (clause_at cs k).members present ≡ true

-- what conflicts with a component is present
abbrev pub Among : ℕ → List ℕ → Type 0
Among present table = (i : ℕ) → within (row table i) present ≡ true

-- conflicts run both ways
abbrev pub Mutual : List ℕ → Type 0
Mutual table = (i j : ℕ) → Has (row table i) j → Has (row table j) i

-- nothing conflicts with itself
abbrev pub Irreflexive : List ℕ → Type 0
Irreflexive table = (i : ℕ) → has (row table i) i ≡ false
