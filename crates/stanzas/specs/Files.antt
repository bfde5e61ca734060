-- What a whole file says, or the first fault in it.
use Rattle.std.specs.Prelude.{ℕ, Bool, true, false, cond, List, [], ◌∷◌, length, Some, None, Option, Ok, Err, Result, nat_lt}
use Rattle.refusals.specs.declared.Refusal.TheVariants.{BadLine, StrayField, TooLong}
use Rattle.texts.specs.Faults.{fault}
use Rattle.texts.specs.declared.faults.Layer.TheVariants as layer
use Rattle.texts.specs.declared.faults.Fault.{Fault}
use Rattle.stanzas.specs.Notes.{NotesModel, start, with_stanza, and_then}
use Rattle.stanzas.specs.Values.{single, related}
use Rattle.stanzas.specs.Lines.{LineModel, lines, heading_of, value_of, end_of}
use Rattle.stanzas.specs.declared.lines.Heading.{Heading}
use Rattle.stanzas.specs.declared.lines.Heading.TheVariants.{Empty, Continued, Package, Related, Skipped, Malformed}
use Rattle.stanzas.specs.declared.lines.Relation.{Relation}
use Rattle.stanzas.specs.declared.lines.Relation.TheVariants.{Depends, Conflicts}
use Rattle.stanzas.specs.declared.lines.Stanza.{Stanza}

-- a file may have this many bytes
abbrev pub max_bytes : ℕ
max_bytes = 65535

-- no empty line, no field line and no continuation
abbrev pub malformed : ℕ → Fault
malformed p = fault BadLine layer.File p

-- a stanza does not begin with Package, or a field that is read occurs in it again
abbrev pub stray : ℕ → Fault
stray p = fault StrayField layer.File p

-- whether the field has occurred in the stanza
abbrev pub has : Stanza → Relation → Bool
has s Depends = s.depends
has s Conflicts = s.conflicts

-- the stanza once the field has occurred; it has no continuation
abbrev pub with : Stanza → Relation → Stanza
with s Depends = record { depends = true; conflicts = s.conflicts; skipping = false }
with s Conflicts = record { depends = s.depends; conflicts = true; skipping = false }

-- the stanza once a field was skipped: continuations may follow
abbrev pub skips : Stanza → Stanza
skips s = record { depends = s.depends; conflicts = s.conflicts; skipping = true }

-- what a line adds between two stanzas
abbrev pub between_stanzas : NotesModel → LineModel → Heading → Result NotesModel Fault
between_stanzas n l Empty = Ok (with_stanza n None)
between_stanzas n l Continued = Err (malformed l.place)
between_stanzas n l Package = single (end_of l) n (value_of l)
between_stanzas n l (Related r) = Err (stray l.place)
between_stanzas n l Skipped = Err (stray l.place)
between_stanzas n l Malformed = Err (malformed l.place)

-- what a line adds in a stanza
abbrev pub in_stanza : Stanza → NotesModel → LineModel → Heading → Result NotesModel Fault
in_stanza s n l Empty = Ok (with_stanza n None)
in_stanza s n l Continued = cond s.skipping (Ok n) (Err (malformed l.place))
in_stanza s n l Package = Err (stray l.place)
in_stanza s n l (Related r) = cond (has s r) (Err (stray l.place)) (related r (end_of l) (with_stanza n (Some (with s r))) (value_of l))
in_stanza s n l Skipped = Ok (with_stanza n (Some (skips s)))
in_stanza s n l Malformed = Err (malformed l.place)

-- what a line adds to what was said before it, by the stanza at hand
abbrev pub step_in : Option Stanza → NotesModel → LineModel → Heading → Result NotesModel Fault
step_in None = between_stanzas
step_in (Some s) = in_stanza s

abbrev pub step : NotesModel → LineModel → Heading → Result NotesModel Fault
step n = step_in n.stanza n

-- line after line
abbrev pub stanzas : NotesModel → List LineModel → Result NotesModel Fault
stanzas n [] = Ok n
stanzas n (l ∷ ls) = and_then (step n l (heading_of l.text)) (λ m. stanzas m ls)

-- a whole file
abbrev pub reading : List ℕ → Result NotesModel Fault
reading file = cond (nat_lt max_bytes (length file)) (Err (fault TooLong layer.File max_bytes)) (stanzas start (lines false 0 file))
