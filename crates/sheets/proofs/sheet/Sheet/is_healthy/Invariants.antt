use Rattle.std.proofs.Common.{ℕ, ◌<◌, vec_items}
use Rattle.sets.specs.Sets.{Has, Apart}
use Rattle.sheets.specs.Clauses.{row}
use Rattle.sheets.proofs.sheet.Sheet.is_healthy.Given as goal

abbrev pub invariant-loop-i : goal.invariant-loop-i
invariant-loop-i l = (i : ℕ) → i < l.i → Has l.set i → Apart l.set (row (vec_items l.self.conflicts) i)
