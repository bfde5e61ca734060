-- What the code's values mean: lines, notes, and answers that may also be want of memory.
use Rattle.std.specs.Prelude.{◌≡◌, ℕ, false, List, [], ◌∷◌, map, drop, Some, None, Option, Ok, Err, vec_items, Result}
use Rattle.texts.specs.Spans.{stretch}
use Rattle.texts.specs.declared.faults.Fault.{Fault}
use Rattle.texts.specs.declared.faults.ReadError.{ReadError}
use Rattle.texts.specs.declared.faults.ReadError.TheVariants.{Faulty, OutOfMemory}
use Rattle.texts.specs.declared.spans.Span.{Span}
use Rattle.stanzas.specs.Spans.{IsFront}
use Rattle.stanzas.specs.Lines.{LineModel, lines}
use Rattle.stanzas.specs.Notes.{NeedModel, ClashModel, NotesModel}
use Rattle.stanzas.specs.declared.lines.Line.{Line}
use Rattle.stanzas.specs.declared.lines.Lines.{Lines}
use Rattle.stanzas.specs.declared.notes.Need.{Need}
use Rattle.stanzas.specs.declared.notes.Clash.{Clash}
use Rattle.stanzas.specs.declared.notes.Notes.{Notes}
use Rattle.stanzas.specs.declared.notes.OpenNotes.{OpenNotes}

-- ---- lines

abbrev pub line_of : Line → LineModel
line_of l = record { place = l.start; text = drop l.start l.text.now }

-- the lines that are still to come
abbrev pub lines_left : Lines → List LineModel
lines_left ls = lines false ls.at (drop ls.at ls.text.now)

-- r is the first of the lines that a has left, and b has the others
abbrev pub GivesLine : Lines → Option Line → Lines → Type 0
GivesLine a None b = lines_left a ≡ []
GivesLine a (Some l) b = (lines_left a ≡ line_of l ∷ lines_left b) × IsFront l.text.now a.text.now × (b.text.now ≡ a.text.now)

-- ---- notes

abbrev pub need_of : List ℕ → Need → NeedModel
need_of text n = record { owner = n.owner; names = map (stretch text) (vec_items n.names) }

abbrev pub clash_of : List ℕ → Clash → ClashModel
clash_of text c = record { owner = c.owner; name = stretch text c.name }

-- the clash of a component with the name at a span
abbrev pub clash_with : ℕ → Span → Clash
clash_with p s = record { owner = p; name = s }

-- what the notes say where they were taken from this text
abbrev pub notes_of : List ℕ → Notes → NotesModel
notes_of text n = record {
  names = map (stretch text) (vec_items n.names);
  needs = map (need_of text) (vec_items n.needs);
  clashes = map (clash_of text) (vec_items n.clashes);
  stanza = n.stanza;
}

-- what was said so far, in notes beside their text
abbrev pub said_of : OpenNotes → NotesModel
said_of o = notes_of o.text.now o.notes

-- ---- answers

-- an error is the fault that is due, unless it is want of memory
abbrev pub Stops : {X : Type 0} → ReadError → Result X Fault → Type 0
Stops (Faulty x) want = want ≡ Err x
Stops OutOfMemory want = Unit {0}

-- a call gives what is due, as view sees it, or it stops
abbrev pub Answers : {A X : Type 0} → (A → X) → Result A ReadError → Result X Fault → Type 0
Answers view (Ok a) want = want ≡ Ok (view a)
Answers view (Err e) want = Stops e want

-- a call that reads on does what is due and leaves the notes b, or it stops; the text is the same
abbrev pub Leaves : Result (Unit {0}) ReadError → Result NotesModel Fault → OpenNotes → OpenNotes → Type 0
Leaves r want a b = Answers (λ u. said_of b) r want × (b.text.now ≡ a.text.now)
