use Rattle.std.proofs.Common.{rules}
use Rattle.levels.specs.Laws.{Sound}
use Rattle.levels.specs.Runs.{raise}
use Rattle.levels.proofs.Keeping.{made_after, sound_from}
use Rattle.levels.proofs.pile.Pile.raise.Given.{Over}
use Rattle.levels.proofs.pile.Pile.raise.Goals as goal

sound : (g : Over) → Sound g.R.Reduction.rules
sound g = let m = g.met.R.Reduction in sound_from g.R.Reduction.rules g.R.Reduction.keeps m.begins m.starts m.steps m.sweeps m.gives

pub invariant_of-result : goal.invariant_of-result
invariant_of-result g c = made_after _ _ (raise g.R.Reduction.rules (sound g)) c.below.invariant (search rules)

pub returns-in-Ok-clause-kept : goal.returns-in-Ok-clause-kept
returns-in-Ok-clause-kept g c = made_after _ _ (raise g.R.Reduction.rules (sound g)) c.below.invariant (search rules)

pub returns-in-Ok-clause-sound : goal.returns-in-Ok-clause-sound
returns-in-Ok-clause-sound g c = sound g

pub returns-in-Err-clause-sound : goal.returns-in-Err-clause-sound
returns-in-Err-clause-sound g c = sound g
