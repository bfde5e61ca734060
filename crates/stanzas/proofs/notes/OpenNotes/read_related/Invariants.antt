use Rattle.std.proofs.Common.{◌≡◌, [], map, length, vec_items}
use Rattle.stanzas.specs.Cursors.{rest, onward}
use Rattle.stanzas.specs.Spans.{IsFront, mention}
use Rattle.stanzas.specs.Views.{said_of}
use Rattle.stanzas.proofs.notes.OpenNotes.read_related.Given as goal

-- what is left says, over the notes and the clause so far, what the whole value says
abbrev pub invariant-loop-clause : goal.invariant-loop-clause
invariant-loop-clause l = record {
  front : IsFront l.cursor.text.now l.self.text.now;
  text : l.self.text.now ≡ l.initial.self.text.now;
  says : onward l.relation l.initial.cursor (said_of l.initial.self) [] ≡ onward l.relation l.cursor (said_of l.self) (map (mention l.self.text.now) (vec_items l.clause));
}

abbrev pub decreases-loop-clause : goal.decreases-loop-clause
decreases-loop-clause l = length (rest l.cursor)
