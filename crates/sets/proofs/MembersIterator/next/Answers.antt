use Rattle.std.proofs.Common.{◌<◌, ap, arith, rules}
use lib.Count.{ones}
use Rattle.sets.proofs.Counts.{ones_without}
use Rattle.sets.proofs.MembersIterator.next.Goals as goal
use Rattle.std.proofs.iter.Next.{firm}

pub returns : goal.returns
returns c =
    let fewer : ones c.without-self-inside.result < ones c.args.self.now =
    omega (arith, ap ones c.self.view_is, ap ones c.without-self-inside.ensures.value, ones_without c.self.inside.rest c.in_ok-component.component c.in_ok-component.ensures.1.0) in
    record { steps = search rules; goes = firm ((tt, tt, fewer)) (λ h. search rules) }
