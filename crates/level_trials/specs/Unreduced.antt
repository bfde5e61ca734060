-- The smallest reduction: it starts with the sheet below, leaves components and sets as they are, declines every step, and its sweep does nothing.
use Rattle.std.specs.Prelude.{Ok, Err}
use Rattle.refusals.specs.declared.Refusal.TheVariants.{NoClause}
use Rattle.levels.specs.Piles.{Rules, unchanged}

abbrev pub unreduced_rules : Rules
unreduced_rules = record { start = unchanged; moved = λ b o u v. Err NoClause; swept = λ b o. record { left = o; answer = Ok tt } }
