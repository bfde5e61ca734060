-- How a file is read from line to line.
use Rattle.std.proofs.Common.{◌≡◌, ◌≤◌, false, List, ℕ, length}
use Rattle.std.proofs.lemmas.Bool.{le-ltb, cond-false}
use Rattle.stanzas.specs.Notes.{start}
use Rattle.stanzas.specs.Lines.{lines}
use Rattle.stanzas.specs.Files.{max_bytes, stanzas, reading}

pub by_lines : (text : List ℕ) → length text ≤ max_bytes → reading text ≡ stanzas start (lines false 0 text)
by_lines text h = cond-false _ _ _ (le-ltb max_bytes (length text) h)
