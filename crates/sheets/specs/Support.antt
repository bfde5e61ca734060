-- The support of a set x: the greatest set of clear components each of whose clauses has a member in x or in that set.
-- It is found from all clear components downwards. Grown from nothing it would miss the rings, whose components need one another.
use Rattle.std.specs.Prelude.{ℕ, zero, suc, ◌^◌, cond, List, [], ◌∷◌, bit_or}
use Rattle.sets.specs.Sets.{Subset, meets, minus}
use Rattle.sheets.specs.declared.clause.Clause.{Clause}
use Rattle.sheets.specs.Sheets.{SheetModel}
use Rattle.sheets.specs.Health.{Fed, clear}

-- q is closed under needs beside x: each clause that a component of q owns has a member in x or in q
abbrev pub ClosedUnderNeeds : SheetModel → ℕ → ℕ → Type 0
ClosedUnderNeeds m x q = Fed m.clauses q (bit_or x q)

-- q is one of the sets of which the support of x is the greatest
pub record Supported (m : SheetModel) (x q : ℕ) : Type 0 where
  pub clears : Subset q (clear m)
  pub closed : ClosedUnderNeeds m x q

-- the owners of the clauses that have no member in s
unfoldable pub unmet : List Clause → ℕ → ℕ
unmet [] s = 0
unmet (c ∷ cs) s = bit_or (cond (meets c.members s) 0 (2 ^ c.owner)) (unmet cs s)

-- q without the components that own a clause with no member in x or q
unfoldable pub narrowed : List Clause → ℕ → ℕ → ℕ
narrowed cs x q = minus q (unmet cs (bit_or x q))

-- q narrowed k times
unfoldable pub rounds : ℕ → List Clause → ℕ → ℕ → ℕ
rounds zero cs x q = q
rounds (suc k) cs x q = rounds k cs x (narrowed cs x q)

-- as many rounds as there are components: each round that changes anything takes one away
unfoldable pub support : SheetModel → ℕ → ℕ
support m x = rounds m.size m.clauses x (clear m)

-- the free set: what is supported by nothing
unfoldable pub free : SheetModel → ℕ
free m = support m 0
