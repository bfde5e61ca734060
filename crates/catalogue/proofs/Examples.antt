-- The worked examples of the specs, by computing.
use Rattle.std.proofs.Common.{refl}
use Rattle.sets.specs.Sets.{has, meets, minus, collect, below, members, count}
use Rattle.sheets.specs.Health.{clear}
use Rattle.sheets.specs.Support.{unmet, narrowed, rounds, support, free}
use Rattle.catalogue.specs.Examples.{Examples}

pub examples : Examples
unfolding has meets minus collect below members count clear unmet narrowed rounds support free
examples = record { components = refl; clauses = refl; timeline_against = refl; codec_against = refl; clear_set = refl; free_set = refl }
