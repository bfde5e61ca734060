-- The worked examples of the specs, by computing.
use Rattle.std.proofs.Common.{refl}
use Rattle.sets.specs.Sets.{has, with_member, meets, minus, collect, below, members, count}
use Rattle.sheets.specs.Health.{clear}
use Rattle.sheets.specs.Support.{unmet, narrowed, rounds, support, free}
use Rattle.control.specs.Examples.{Examples}

pub examples : Examples
unfolding has with_member meets minus collect below members count clear unmet narrowed rounds support free
examples = record { eight_read = refl; eight_free = refl; empty_read = refl; unknown_name = refl; short_name = refl; name_twice = refl }
