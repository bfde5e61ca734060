-- Which components can stand together.
use Rattle.std.specs.Prelude.{ℕ, ◌^◌, Bool, ◌&&◌, List, ◌==◌}
use Rattle.std.specs.List.{AllByRecursion}
use Rattle.sets.specs.Sets.{has, Has, Subset, Meet, collect}
use Rattle.sheets.specs.Clauses.{row}
use Rattle.sheets.specs.declared.clause.Clause.{Clause}
use Rattle.sheets.specs.Sheets.{SheetModel, conflicts_of}

-- an installation is a set of components that are present
abbrev pub Installation : SheetModel → ℕ → Type 0
Installation m x = Subset x m.present

-- each clause that a component of w owns has a member in x
abbrev pub Fed : List Clause → ℕ → ℕ → Type 0
Fed cs w x = AllByRecursion (λ c. Has w c.owner → Meet c.members x) cs

-- an installation in which every need is met and no two components conflict
pub record Healthy (m : SheetModel) (x : ℕ) : Type 0 where
  pub installation : Installation m x
  pub fed : Fed m.clauses x x
  pub quiet : (i j : ℕ) → Has x i → Has x j → Has (conflicts_of m i) j → ⊥

-- some healthy installation holds all of x
pub record Coinstallable (m : SheetModel) (x : ℕ) : Type 0 where
  pub installed : ℕ
  pub healthy : Healthy m installed
  pub holds : Subset x installed

-- a component that is present and stands in no healthy installation
abbrev pub Broken : SheetModel → ℕ → Type 0
Broken m i = Has m.present i × (Coinstallable m (2 ^ i) → ⊥)

-- whether i is present and conflicts with none
abbrev pub is_clear : ℕ → List ℕ → ℕ → Bool
is_clear present table i = has present i && row table i == 0

-- the clear components
unfoldable pub clear : SheetModel → ℕ
clear m = collect (is_clear m.present m.conflicts) m.size
