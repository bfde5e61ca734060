-- The laws above the definition of reading.
use Rattle.std.specs.Prelude.{◌≡◌, ℕ, ◌<◌, ◌||◌, List, length, Ok}
use Rattle.sets.specs.Sets.{has}
use Rattle.sheets.specs.Sheets.{conflicts_of}
use Rattle.stanzas.specs.Notes.{NotesModel}
use Rattle.stanzas.specs.Plain.{Entry, written_all, told, Plain}
use Rattle.control.specs.Grounds.{opposes, described, contents}

-- components with good and distinct names, within the limits and written out plainly, are held as exactly what was written: their names, their clauses in order, and their conflicts
abbrev pub HoldsWritten : Type 0
HoldsWritten = (es : List Entry) → Plain es → contents (written_all es) ≡ Ok (described (told es))

-- two components conflict exactly when the stanza of one of them names the other
abbrev pub ConflictsNamed : Type 0
ConflictsNamed =
    (n : NotesModel) (p q : ℕ) → p < length n.names → q < length n.names
    → has (conflicts_of (described n).sheet p) q ≡ (opposes n.names n.clashes p q || opposes n.names n.clashes q p)
