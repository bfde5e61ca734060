use Rattle.std.proofs.Common.{◌≡◌}
use Rattle.stanzas.specs.Views.{notes_of}
use Rattle.control.proofs.Filling.{needs_up_to, clashes_up_to}
use Rattle.control.proofs.resolve.resolve.Given as goal

abbrev pub invariant-loop-need : goal.invariant-loop-need
invariant-loop-need l = l.catalogue ≡ needs_up_to (notes_of l.text l.notes) l.need-index

abbrev pub invariant-loop-clash : goal.invariant-loop-clash
invariant-loop-clash l = l.catalogue ≡ clashes_up_to (notes_of l.text l.notes) l.clash-index
