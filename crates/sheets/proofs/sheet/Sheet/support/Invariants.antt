use Rattle.sheets.specs.Sheets.{model}
use Rattle.sheets.proofs.Supports.{Narrowing}
use Rattle.sheets.proofs.sheet.Sheet.support.Given as goal

abbrev pub invariant-loop-set : goal.invariant-loop-set
invariant-loop-set l = Narrowing (model l.self) l.set l.supported

abbrev pub decreases-loop-set : goal.decreases-loop-set
decreases-loop-set l = l.supported
