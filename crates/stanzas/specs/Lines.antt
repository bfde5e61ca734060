-- The lines of a file, and what each of them is.
use Rattle.std.specs.Prelude.{ℕ, ◌+◌, Bool, false, cond, ◌&&◌, List, [], ◌∷◌, ◌++◌, length, take, drop, codes, ◌==◌, slice_index}
use Rattle.std.specs.List.{prefix_len}
use Rattle.std.specs.Str.{bytes_eq}
use Rattle.texts.specs.Bytes.{blank, in_line, letter, in_label}
use Rattle.stanzas.specs.Tokens.{Token, tokens}
use Rattle.stanzas.specs.declared.lines.Heading.{Heading}
use Rattle.stanzas.specs.declared.lines.Heading.TheVariants.{Empty, Continued, Package, Related, Skipped, Malformed}
use Rattle.stanzas.specs.declared.lines.Relation.TheVariants.{Depends, Conflicts}

-- a line without its line feed, at its place in the file
pub record LineModel : Type 0 where
  pub place : ℕ
  pub text : List ℕ

-- the bytes up to the first line feed
abbrev pub first_line : List ℕ → List ℕ
first_line s = take (prefix_len in_line s) s

-- the lines of the bytes at p; inside: the first byte goes on with a line that began before it
abbrev pub lines : Bool → ℕ → List ℕ → List LineModel
lines inside p [] = []
lines inside p (b ∷ s) = cond inside [] (record { place = p; text = first_line (b ∷ s) } ∷ []) ++ lines (in_line b) (p + 1) s

-- how long the label at the front of a line is
abbrev pub label : List ℕ → ℕ
label s = prefix_len in_label s

-- the field that a label names
abbrev pub field_of : List ℕ → Heading
field_of l =
    cond (bytes_eq l (codes "Package")) Package
    (cond (bytes_eq l (codes "Depends")) (Related Depends)
    (cond (bytes_eq l (codes "Conflicts")) (Related Conflicts) Skipped))

-- what a line is: a field line has a label that begins with a letter, and a colon directly after it
abbrev pub heading_of : List ℕ → Heading
heading_of [] = Empty
heading_of (b ∷ s) = cond (blank b) Continued (cond (letter b && slice_index (b ∷ s) (label (b ∷ s)) == 58) (field_of (take (label (b ∷ s)) (b ∷ s))) Malformed)

-- the tokens after the colon
abbrev pub value_of : LineModel → List Token
value_of l = tokens false (l.place + (label l.text + 1)) (drop (label l.text + 1) l.text)

-- the place of its line feed, or the file's end
abbrev pub end_of : LineModel → ℕ
end_of l = l.place + length l.text
