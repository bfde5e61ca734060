use Rattle.std.proofs.Common.{◌≡◌, false}
use Rattle.stanzas.specs.Notes.{start}
use Rattle.stanzas.specs.Lines.{lines}
use Rattle.stanzas.specs.Files.{stanzas}
use Rattle.stanzas.specs.Views.{lines_left, said_of}
use Rattle.stanzas.proofs.notes.Notes.read.Given as goal

-- the lines that are left say, over the notes so far, what all of them say
abbrev pub invariant-loop-line : goal.invariant-loop-line
invariant-loop-line l = record {
  same : l.line-iterator.text.now ≡ l.text;
  text : l.reading.text.now ≡ l.text;
  says : stanzas start (lines false 0 l.text) ≡ stanzas (said_of l.reading) (lines_left l.line-iterator);
}
