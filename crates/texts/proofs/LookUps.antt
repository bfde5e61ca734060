-- Looking a name up is finding the first place where it stands.
use Rattle.std.proofs.Common.{◌≡◌, ℕ, suc, ◌+◌, List, [], ◌∷◌, map, Some, cond, Option, refl, ap, ◌∙◌, arith}
use Rattle.std.specs.Str.{bytes_eq}
use Rattle.std.specs.List.{position, position_from}
use Rattle.std.proofs.lemmas.Iterator.Adapters.{position_from-zero}
use Rattle.texts.specs.Spans.{look_up}

module _ {X : Type 0} (f : X → List ℕ) (n : List ℕ) where
  places : (i : ℕ) (xs : List X) → position_from (λ x. bytes_eq (f x) n) i xs ≡ look_up i (map f xs) n
  places i [] = refl
  places i (x ∷ xs) =
      let more : i + 1 ≡ suc i = omega arith in
      ap (cond (bytes_eq (f x) n) (Some i)) (places (i + 1) xs ∙ ap (λ k. look_up k (map f xs) n) more)

  pub look_up_from : (xs : List X) (r : Option ℕ) → r ≡ position (λ x. bytes_eq (f x) n) xs → r ≡ look_up 0 (map f xs) n
  look_up_from xs r e = e ∙ position_from-zero (λ x. bytes_eq (f x) n) xs ∙ places 0 xs
