use Rattle.std.proofs.Common.{◌+◌, ◌≤◌, ap, sym, ◌∙◌, arith, drop, length}
use Rattle.std.proofs.Math.ListN.{drop_of_length-le}
use Rattle.sets.specs.Sets.{with_members}
use Rattle.sets.proofs.Loops.{with_next, made_of}
use Rattle.sets.proofs.ComponentSetFromArrayUsize.from.Goals as goal

pub loop-component-preserved : goal.loop-component-preserved
loop-component-preserved g c =
    ap (λ s. with_members s (drop (c.loop-component.component-index + 1) c.args.components)) c.with-set.ensures.value
    ∙ sym (with_next c.loop-component.set c.args.components c.loop-component.component-index (omega arith))
    ∙ c.loop-component.invariant

pub returns : goal.returns
returns g c =
    let past : length c.args.components ≤ c.loop-component.component-index = omega arith in
    made_of c.args.components c.loop-component.set (ap (with_members c.loop-component.set) (sym (drop_of_length-le c.args.components past)) ∙ c.loop-component.invariant)
