-- The eight exhibits as a catalogue, and what they close to, computed from the definitions.
use Rattle.std.specs.Prelude.{◌≡◌, [], ◌∷◌, length}
use Rattle.sets.specs.Sets.{count}
use Rattle.sheets.specs.Examples.{need_of}
use Rattle.sheets.specs.Health.{clear}
use Rattle.sheets.specs.Sheets.{conflicts_of}
use Rattle.sheets.specs.Support.{free}
use Rattle.catalogue.specs.Drafts.{Draft, closed}

-- 0 map, 1 timeline, 2 font, 3 font-lite, 4 loop, 5 player, 6 codec-a, 7 codec-b
abbrev pub eight : Draft
eight = record {
  clauses = need_of 0 0b10 ∷ need_of 0 0b1100 ∷ need_of 1 0b1 ∷ need_of 4 0b100000 ∷ need_of 5 0b11000000 ∷ [];
  records = 0 ∷ 0 ∷ 0 ∷ 0 ∷ 0b10 ∷ 0 ∷ 0b10000000 ∷ 0 ∷ [];
}

pub record Examples : Type 0 where
  pub components : count (closed eight).present ≡ 8
  pub clauses : length (closed eight).clauses ≡ 5
  pub timeline_against : conflicts_of (closed eight) 1 ≡ 0b10000
  pub codec_against : conflicts_of (closed eight) 7 ≡ 0b1000000
  pub clear_set : clear (closed eight) ≡ 0b101101
  pub free_set : free (closed eight) ≡ 0b1100
