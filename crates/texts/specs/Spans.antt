-- Stretches of a text, and names looked up among them.
use Rattle.std.specs.Prelude.{ℕ, suc, ◌-◌, cond, List, [], ◌∷◌, take, drop, Some, None, Option}
use Rattle.std.specs.Str.{bytes_eq}
use Rattle.texts.specs.declared.spans.Span.{Span}

-- the bytes of a span, as far as the text goes
abbrev pub stretch : List ℕ → Span → List ℕ
stretch text s = take (s.end - s.start) (drop s.start text)

-- the number of the component with this name, where the names are those of the components from i on
abbrev pub look_up : ℕ → List (List ℕ) → List ℕ → Option ℕ
look_up i [] n = None
look_up i (m ∷ ms) n = cond (bytes_eq m n) (Some i) (look_up (suc i) ms n)
