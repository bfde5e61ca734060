use Rattle.sheets.specs.Sheets.{model}
use Rattle.catalogue.proofs.Closing.{Closing}
use Rattle.catalogue.proofs.opened.calls.complete.Given as goal

abbrev pub invariant-loop-component : goal.invariant-loop-component
invariant-loop-component l = Closing (model l.initial.sheet) (model l.sheet) l.records l.component
