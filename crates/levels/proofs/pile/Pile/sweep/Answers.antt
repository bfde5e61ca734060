use Rattle.std.proofs.Common.{rules}
use Rattle.levels.specs.Runs.{sweep}
use Rattle.levels.proofs.Keeping.{made_after}
use Rattle.levels.proofs.pile.Pile.sweep.Goals as goal

pub invariant_of-self : goal.invariant_of-self
invariant_of-self g c = made_after _ _ sweep c.self.invariant (search rules)

pub returns-clause-kept : goal.returns-clause-kept
returns-clause-kept g c = made_after _ _ sweep c.self.invariant (search rules)
