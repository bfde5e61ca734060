-- The set of the images of a set, by its members.
use Rattle.std.proofs.Common.{◌≡◌, ℕ, zero, suc, ◌^◌, ◌<◌, Bool, true, false, cond, ◌&&◌, ◌||◌, eqb, sym, refl, ap, ◌∙◌, inl, inr, arith}
use Rattle.std.proofs.lemmas.Bool.{eqb-true, both_ways, or_cases, and_parts}
use Rattle.sets.specs.Sets.{has, Has, Subset}
use Rattle.sets.proofs.Membership.{has_single, has_empty, has_or}
use Rattle.sets.proofs.Order.{sub_antisym}
use Rattle.levels.specs.Piles.{image_set}

-- a member of x below n whose image is j
pub record From (f : ℕ → ℕ) (n x j : ℕ) : Type 0 where
  pub at : ℕ
  pub small : at < n
  pub inside : Has x at
  pub is : f at ≡ j

one_more : (f : ℕ → ℕ) (n x j : ℕ) → has (image_set f (suc n) x) j ≡ (has (image_set f n x) j || (has x n && eqb j (f n)))
unfolding image_set
one_more f n x j = has_or (image_set f n x) (cond (has x n) (2 ^ f n) 0) j ∙ ap (λ b. has (image_set f n x) j || b) (at (has x n))
  where
    at : (b : Bool) → has (cond b (2 ^ f n) 0) j ≡ (b && eqb j (f n))
    at true = has_single (f n) j
    at false = has_empty j

pub image_from : (f : ℕ → ℕ) (n x j : ℕ) → Has (image_set f n x) j → From f n x j
unfolding image_set
image_from f zero x j h = absurd (both_ways (has 0 j) (has_empty j) h)
image_from f (suc n) x j h = elim (or_cases _ _ (sym (one_more f n x j) ∙ h)) [
  | inl e ↦ (let r = image_from f n x j e in record { at = r.at; small = omega (arith, r.small); inside = r.inside; is = r.is })
  | inr e ↦ (let r = and_parts _ _ e in record { at = n; small = omega arith; inside = r.0; is = sym (eqb-true j (f n) r.1) })
]

pub image_has : (f : ℕ → ℕ) (n x i j : ℕ) → i < n → Has x i → f i ≡ j → Has (image_set f n x) j
image_has f zero x i j lt h e = absurd (omega arith)
image_has f (suc n) x i j lt h e = let ih = image_has f n x i j in grind (arith, one_more f n x j)

-- images of images
pub image_again : (f g : ℕ → ℕ) (n m x : ℕ) → ((i : ℕ) → i < n → Has x i → f i < m) → image_set (λ i. g (f i)) n x ≡ image_set g m (image_set f n x)
image_again f g n m x b = sub_antisym (image_set (λ i. g (f i)) n x) (image_set g m (image_set f n x)) there back
  where
    there : Subset (image_set (λ i. g (f i)) n x) (image_set g m (image_set f n x))
    there j h =
        let r = image_from (λ i. g (f i)) n x j h in
        image_has g m (image_set f n x) (f r.at) j (b r.at r.small r.inside) (image_has f n x r.at (f r.at) r.small r.inside refl) r.is

    back : Subset (image_set g m (image_set f n x)) (image_set (λ i. g (f i)) n x)
    back j h =
        let r = image_from g m (image_set f n x) j h in
        let q = image_from f n x r.at r.inside in
        image_has (λ i. g (f i)) n x q.at j q.small q.inside (ap g q.is ∙ r.is)

-- an image that leaves the members alone
pub image_same : (n x : ℕ) → ((i : ℕ) → Has x i → i < n) → image_set (λ i. i) n x ≡ x
image_same n x b =
    sub_antisym (image_set (λ i. i) n x) x
    (λ j h. let r = image_from (λ i. i) n x j h in cc)
    (λ j h. image_has (λ i. i) n x j j (b j h) h refl)
