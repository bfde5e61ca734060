-- The clashes that the records of an open catalogue note: the invariant of the type `OpenCatalogue`.
use Rattle.std.specs.Prelude.{◌≡◌, ℕ, List, length}
use Rattle.sets.specs.Sets.{below}
use Rattle.sheets.specs.Clauses.{row, Among, Irreflexive}
use Rattle.sheets.specs.Sheets.{SheetModel}

-- nothing conflicts yet
abbrev pub Unopposed : List ℕ → Type 0
Unopposed table = (i : ℕ) → row table i ≡ 0

-- a sheet whose components are all present and have no conflicts, with a record for each of them, which names others that are present
pub record Filled (m : SheetModel) (rs : List ℕ) : Type 0 where
  pub counted : length rs ≡ m.size
  pub whole : m.present ≡ below m.size
  pub unopposed : Unopposed m.conflicts
  pub known : Among m.present rs
  pub foreign : Irreflexive rs
