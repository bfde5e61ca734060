use Rattle.std.proofs.Common.{◌≡◌, map, take}
use Rattle.texts.specs.Spans.{stretch}
use Rattle.stanzas.specs.Views.{notes_of}
use Rattle.control.specs.Grounds.{known}
use Rattle.control.proofs.resolve.members.Given as goal

abbrev pub invariant-loop-name : goal.invariant-loop-name
invariant-loop-name l = l.members ≡ known (notes_of l.text l.notes).names (map (stretch l.text) (take l.name-index l.choice))
