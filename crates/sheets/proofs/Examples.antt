-- The worked examples of the specs, by computing.
use Rattle.std.proofs.Common.{refl}
use Rattle.std.proofs.lemmas.Bool.{both_ways}
use Rattle.sets.specs.Sets.{has, meets, minus, collect}
use Rattle.sets.proofs.Membership.{has_empty}
use Rattle.sheets.specs.Health.{clear}
use Rattle.sheets.specs.Support.{unmet, narrowed, rounds, support, free}
use Rattle.sheets.specs.Examples.{Examples}

pub examples : Examples
unfolding has meets minus collect clear unmet narrowed rounds support free
examples = record {
  blank_free = refl;
  blank_healthy = record { installation = λ i h. h; fed = tt; quiet = λ i j h k o. both_ways (has 0 i) (has_empty i) h };
  ring_free = refl;
  opposed_free = refl;
}
