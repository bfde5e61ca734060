-- What everything that is read keeps.
use Rattle.std.specs.Prelude.{◌≡◌, ◌≤◌, true, length, nat_lt}
use Rattle.std.specs.List.{list_all}
use Rattle.sets.specs.Limit.{limit}
use Rattle.sheets.specs.Limits.{max_clauses}
use Rattle.stanzas.specs.Notes.{NeedModel, ClashModel, NotesModel}

-- few enough components and clauses; the owners of the clauses and of the conflicts are components
pub record Sound (n : NotesModel) : Type 0 where
  pub few : length n.names ≤ limit
  pub room : length n.needs ≤ max_clauses
  pub needs_have_owners : list_all (λ (d : NeedModel). nat_lt d.owner (length n.names)) n.needs ≡ true
  pub clashes_have_owners : list_all (λ (c : ClashModel). nat_lt c.owner (length n.names)) n.clashes ≡ true
