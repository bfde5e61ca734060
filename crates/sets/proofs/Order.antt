-- The order of sets: subsets, sets that meet and sets that are apart, and what the tests decide.
use Rattle.std.proofs.Common.{◌≡◌, ℕ, suc, ◌%◌, ◌<◌, Bool, true, false, not, ◌&&◌, ◌||◌, eqb, ◌⊎◌, Decides, MatchBool, sym, refl, ap, ◌∙◌, subst, inl, inr, arith}
use lib.Arith.{bin_ind}
use lib.Bits.{bit_and, bit_or}
use Rattle.std.proofs.lemmas.Bool.{eqb-true, eqb-false, eq-eqb, cases_Bool, both_ways, and_from, and_parts, not-true, or_left, or_right, or_cases, not_from_false}
use Rattle.sets.specs.Sets.{has, Has, Subset, Apart, Meet, Beyond, within, meets, minus}
use Rattle.sets.proofs.Membership.{has_or, has_and, has_minus, has_empty, has_low, has_half, no_members, same_members, minus_split}

pub decides_sub : (a b : ℕ) → Decides (within a b) (Subset a b)
unfolding within
decides_sub a b = (
  λ e i h.
      let q : has (bit_and a b) i ≡ has a i = ap (λ (x : ℕ). has x i) (eqb-true (bit_and a b) a e) in
      let l : has (bit_and a b) i ≡ (has a i && has b i) = has_and a b i in
      grind arith,
  λ h. eq-eqb (bit_and a b) a (same_members (bit_and a b) a (λ i. has_and a b i ∙ ways i h (cases_Bool (has a i)))),
)
  where
    ways : (i : ℕ) → Subset a b → (has a i ≡ true) ⊎ (has a i ≡ false) → (has a i && has b i) ≡ has a i
    ways i h (inl e) = let q : has b i ≡ true = h i e in grind arith
    ways i h (inr e) = grind arith

pub decides_apart : (a b : ℕ) → Decides (eqb (bit_and a b) 0) (Apart a b)
decides_apart a b = (
  λ e i p q.
      let z : has (bit_and a b) i ≡ false = ap (λ (x : ℕ). has x i) (eqb-true (bit_and a b) 0 e) ∙ has_empty i in
      let l : has (bit_and a b) i ≡ (has a i && has b i) = has_and a b i in
      both_ways (has (bit_and a b) i) z (l ∙ and_from (has a i) (has b i) p q),
  λ h. eq-eqb (bit_and a b) 0 (no_members (bit_and a b) (λ i. has_and a b i ∙ ways i h (cases_Bool (has a i)) (cases_Bool (has b i)))),
)
  where
    ways : (i : ℕ) → Apart a b → (has a i ≡ true) ⊎ (has a i ≡ false) → (has b i ≡ true) ⊎ (has b i ≡ false) → (has a i && has b i) ≡ false
    ways i h (inl p) (inl q) = absurd (h i p q)
    ways i h (inl p) (inr q) = grind arith
    ways i h (inr p) q = grind arith

pub some_member : (a : ℕ) → 0 < a → (i : ℕ) × (has a i ≡ true)
some_member =
    bin_ind (λ (a : ℕ). 0 < a → (i : ℕ) × (has a i ≡ true)) (λ h. absurd (omega arith))
    (λ a ih h. elim (cases_Bool (eqb (a % 2) 1)) [
      | inl e ↦ (0, has_low a ∙ e)
      | inr e ↦ (let r = ih (omega (arith, eqb-false (a % 2) 1 e)) in (suc r.0, sym (has_half a r.0) ∙ r.1))
    ])

-- what `intersects` and `is_subset` answer
pub meets_cases : (a b : ℕ) → MatchBool (meets a b) (Meet a b) (Apart a b)
unfolding meets
meets_cases a b = go (eqb (bit_and a b) 0) refl
  where
    go : (t : Bool) → eqb (bit_and a b) 0 ≡ t → MatchBool (not t) (Meet a b) (Apart a b)
    go true e = (decides_apart a b).0 e
    go false e =
        let m = some_member (bit_and a b) (omega (arith, eqb-false (bit_and a b) 0 e)) in
        let q = and_parts (has a m.0) (has b m.0) (sym (has_and a b m.0) ∙ m.1) in
        record { at = m.0; one = q.0; other = q.1 }

pub within_cases : (a b : ℕ) → MatchBool (within a b) (Subset a b) (Beyond a b)
unfolding within
within_cases a b = go (eqb (bit_and a b) a) refl
  where
    go : (t : Bool) → eqb (bit_and a b) a ≡ t → MatchBool t (Subset a b) (Beyond a b)
    go true e = (decides_sub a b).0 e
    go false e =
        let some : (minus a b ≡ 0) → ⊥ = λ z. eqb-false (bit_and a b) a e (omega (arith, minus_split a b)) in
        let m = some_member (minus a b) (omega arith) in
        let q = and_parts (has a m.0) (not (has b m.0)) (sym (has_minus a b m.0) ∙ m.1) in
        record { at = m.0; inside = q.0; outside = not-true (has b m.0) q.1 }

pub decides_meet : (a b : ℕ) → Decides (meets a b) (Meet a b)
decides_meet a b = (λ e. subst (λ t. MatchBool t (Meet a b) (Apart a b)) e (meets_cases a b), λ m. go m (cases_Bool (meets a b)))
  where
    go : Meet a b → (meets a b ≡ true) ⊎ (meets a b ≡ false) → meets a b ≡ true
    go m (inl e) = e
    go m (inr e) = absurd (subst (λ t. MatchBool t (Meet a b) (Apart a b)) e (meets_cases a b) m.at m.one m.other)

pub not_meet : (a b : ℕ) → meets a b ≡ false → Apart a b
not_meet a b e = subst (λ t. MatchBool t (Meet a b) (Apart a b)) e (meets_cases a b)

pub meet_more : (m a b : ℕ) → Subset a b → Meet m a → Meet m b
meet_more m a b s h = record { at = h.at; one = h.one; other = s h.at h.other }

pub sub_refl : (a : ℕ) → Subset a a
sub_refl a i h = h

pub sub_none : (a : ℕ) → Subset 0 a
sub_none a i h = absurd (both_ways (has 0 i) (has_empty i) h)

pub sub_or_left : (a b : ℕ) → Subset a (bit_or a b)
sub_or_left a b i h = has_or a b i ∙ or_left (has a i) (has b i) h

pub sub_or_right : (a b : ℕ) → Subset b (bit_or a b)
sub_or_right a b i h = has_or a b i ∙ or_right (has a i) (has b i) h

pub sub_or : (a b c : ℕ) → Subset a c → Subset b c → Subset (bit_or a b) c
sub_or a b c p q i h = elim (or_cases (has a i) (has b i) (sym (has_or a b i) ∙ h)) [ inl e ↦ p i e | inr e ↦ q i e ]

pub sub_antisym : (a b : ℕ) → Subset a b → Subset b a → a ≡ b
sub_antisym a b p q = same_members a b (λ i. ways i (cases_Bool (has a i)) (cases_Bool (has b i)))
  where
    ways : (i : ℕ) → (has a i ≡ true) ⊎ (has a i ≡ false) → (has b i ≡ true) ⊎ (has b i ≡ false) → has a i ≡ has b i
    ways i (inl e) f = e ∙ sym (p i e)
    ways i (inr e) (inl f) = q i f ∙ sym f
    ways i (inr e) (inr f) = e ∙ sym f

pub sub_or_both : (a b c d : ℕ) → Subset a c → Subset b d → Subset (bit_or a b) (bit_or c d)
sub_or_both a b c d p q = sub_or a b (bit_or c d) (λ i h. sub_or_left c d i (p i h)) (λ i h. sub_or_right c d i (q i h))

pub in_or : (a b i : ℕ) → Has (bit_or a b) i → Has a i ⊎ Has b i
in_or a b i h = or_cases (has a i) (has b i) (sym (has_or a b i) ∙ h)

-- what is left of a set without the members of another
pub in_minus : (a b i : ℕ) → Has (minus a b) i → Has a i × (has b i ≡ false)
in_minus a b i h = let m = and_parts (has a i) (not (has b i)) (sym (has_minus a b i) ∙ h) in (m.0, not-true (has b i) m.1)

pub minus_in : (a b i : ℕ) → Has a i → has b i ≡ false → Has (minus a b) i
minus_in a b i h n = has_minus a b i ∙ and_from (has a i) (not (has b i)) h (not_from_false (has b i) n)

pub sub_minus : (a b : ℕ) → Subset (minus a b) a
sub_minus a b i h = (in_minus a b i h).0

pub or_assoc : (a b c : ℕ) → bit_or (bit_or a b) c ≡ bit_or a (bit_or b c)
or_assoc a b c =
    same_members (bit_or (bit_or a b) c) (bit_or a (bit_or b c))
    (λ i. has_or (bit_or a b) c i ∙ ap (λ t. t || has c i) (has_or a b i) ∙ ways (has a i) (has b i) (has c i) ∙ ap (λ t. has a i || t) (sym (has_or b c i)) ∙ sym (has_or a (bit_or b c) i))
  where
    ways : (x y z : Bool) → ((x || y) || z) ≡ (x || (y || z))
    ways true y z = refl
    ways false y z = refl
