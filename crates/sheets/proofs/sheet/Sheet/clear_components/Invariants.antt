use Rattle.std.proofs.Common.{◌≡◌, vec_items}
use Rattle.sets.specs.Sets.{collect}
use Rattle.sheets.specs.Health.{is_clear}
use Rattle.sheets.proofs.sheet.Sheet.clear_components.Given as goal

abbrev pub invariant-loop-i : goal.invariant-loop-i
invariant-loop-i l = l.clear ≡ collect (is_clear l.self.present (vec_items l.self.conflicts)) l.i
