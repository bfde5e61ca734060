-- Lists whose elements all pass a test.
use Rattle.std.proofs.Common.{◌≡◌, Bool, true, List, ◌++◌, ◌∙◌}
use Rattle.std.specs.List.{list_all}
use Rattle.std.proofs.lemmas.List.Elements.{All-weaker}
use Rattle.std.proofs.lemmas.List.Folds.{list_all-append}
use Rattle.std.proofs.lemmas.List.Sums.{AllPass-from_list_all, list_all-from_AllPass}
use Rattle.std.proofs.lemmas.Bool.{and_from}

module _ {X : Type 0} (t : X → Bool) where
  -- one after the other
  pub all_append : (xs ys : List X) → list_all t xs ≡ true → list_all t ys ≡ true → list_all t (xs ++ ys) ≡ true
  all_append xs ys h k = list_all-append t xs ys ∙ and_from _ _ h k

  -- they pass a weaker test
  pub all_weaker : (u : X → Bool) → ((x : X) → t x ≡ true → u x ≡ true) → (xs : List X) → list_all t xs ≡ true → list_all u xs ≡ true
  all_weaker u f xs h = list_all-from_AllPass u xs (All-weaker _ _ f xs (AllPass-from_list_all t xs h))
