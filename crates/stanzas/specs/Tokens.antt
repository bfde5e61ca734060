-- The tokens of a value: names, commas and bars, each with its place in the file, counted from 0.
use Rattle.std.specs.Prelude.{ℕ, ◌+◌, Bool, cond, ◌||◌, List, [], ◌∷◌, ◌++◌, take, ◌==◌}
use Rattle.std.specs.List.{prefix_len}
use Rattle.texts.specs.Bytes.{blank, in_run, good}

-- a good name, at its place
pub record Mention : Type 0 where
  pub place : ℕ
  pub name : List ℕ

pub data Token : Type 0 where
  Named : Mention → Token
  -- a run that is no good name
  Misnamed : ℕ → Token
  Comma : ℕ → Token
  Bar : ℕ → Token

abbrev pub place_of : Token → ℕ
place_of (Named m) = m.place
place_of (Misnamed p) = p
place_of (Comma p) = p
place_of (Bar p) = p

-- the longest run at the front of s
abbrev pub run : List ℕ → List ℕ
run s = take (prefix_len in_run s) s

-- the name that a run at p is, or is not
abbrev pub named : ℕ → List ℕ → Token
named p n = cond (good n) (Named (record { place = p; name = n })) (Misnamed p)

-- the token that begins with the byte b at p, before s; inside: b goes on with a run that began before it
abbrev pub begun : Bool → ℕ → ℕ → List ℕ → List Token
begun inside p b s = cond (b == 44) (Comma p ∷ []) (cond (b == 124) (Bar p ∷ []) (cond (blank b || inside) [] (named p (run (b ∷ s)) ∷ [])))

-- the tokens of the bytes at p
abbrev pub tokens : Bool → ℕ → List ℕ → List Token
tokens inside p [] = []
tokens inside p (b ∷ s) = begun inside p b s ++ tokens (in_run b) (p + 1) s
