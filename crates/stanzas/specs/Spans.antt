-- The names at stretches of a text.
use Rattle.std.specs.Prelude.{◌≡◌, ℕ, List, length, take}
use Rattle.texts.specs.Spans.{stretch}
use Rattle.texts.specs.declared.spans.Span.{Span}
use Rattle.stanzas.specs.Tokens.{Mention}

-- the text begins with the front
abbrev pub IsFront : List ℕ → List ℕ → Type 0
IsFront front text = front ≡ take (length front) text

-- the name at a span
abbrev pub mention : List ℕ → Span → Mention
mention text s = record { place = s.start; name = stretch text s }
