use Rattle.std.proofs.Common.{◌≡◌, drop}
use Rattle.sets.specs.Sets.{with_members}
use Rattle.sets.proofs.ComponentSetFromArrayUsize.from.Given as goal

-- the numbers that are still to come make of the set what all of them make of nothing
abbrev pub invariant-loop-component : goal.invariant-loop-component
invariant-loop-component g l = with_members l.set (drop l.component-index l.fn.components) ≡ with_members 0 l.fn.components
