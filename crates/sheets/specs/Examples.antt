-- Worked examples, computed from the definitions.
use Rattle.std.specs.Prelude.{◌≡◌, ℕ, [], ◌∷◌}
use Rattle.sheets.specs.Sheets.{SheetModel}
use Rattle.sheets.specs.Health.{Healthy}
use Rattle.sheets.specs.Support.{free}
use Rattle.sheets.specs.Changes.{blank}
use Rattle.sheets.specs.declared.clause.Clause.{Clause}

-- p needs one of d
abbrev pub need_of : ℕ → ℕ → Clause
need_of p d = record { owner = p; members = d }

-- 0 needs {1}, 1 needs {0}, and nothing conflicts
abbrev pub ring : SheetModel
ring = record { size = 2; present = 0b11; clauses = need_of 0 0b10 ∷ need_of 1 0b01 ∷ []; conflicts = 0 ∷ 0 ∷ [] }

-- the same ring, and 1 conflicts with 2
abbrev pub opposed_ring : SheetModel
opposed_ring = record { size = 3; present = 0b111; clauses = need_of 0 0b010 ∷ need_of 1 0b001 ∷ []; conflicts = 0 ∷ 0b100 ∷ 0b010 ∷ [] }

pub record Examples : Type 0 where
  pub blank_free : free blank ≡ 0
  pub blank_healthy : Healthy blank 0
  pub ring_free : free ring ≡ 0b11
  pub opposed_free : free opposed_ring ≡ 0
