-- How many members a set has, and the list of them.
use Rattle.std.proofs.Common.{◌≡◌, ℕ, zero, suc, ◌+◌, ◌*◌, ◌/◌, ◌%◌, ◌^◌, ◌<◌, Bool, true, false, cond, not, ◌&&◌, eqb, ◌⊎◌, [], ◌∷◌, ◌++◌, length, sym, refl, ap, ◌∙◌, ap₂, inl, inr, add-zero, mod-lt, mod-eq_of_lt, add_comm, one-mul, pow-suc, one-add, arith, length-append, pow_pos}
use mathlib.Core.Bool.{and-true, and-false}
use native.Mathlib.Nat.{mod-one}
use lib.Arith.{bin_ind}
use lib.Pow.{mod-pow-add}
use lib.Bits.{bit_and, bit_or, and_shr, and_mod, or_shr, or_mod, or_disjoint, or_add_and, and_comm}
use lib.Count.{ones, ones_in, ones_step, ones_cat, count_trailing_zeros, under}
use Rattle.std.proofs.lemmas.Bool.{eqb-true, eq-eqb, ne_eqb, cases_eq}
use Rattle.std.proofs.lemmas.Bool.Decides.{nat_tests}
use Rattle.sets.specs.Limit.{limit}
use Rattle.sets.specs.Sets.{has, Subset, First, minus, members, count, within}
use Rattle.sets.proofs.Membership.{two_pos, has_and, has_minus, has_single, has_low, has_half, no_members, same_members, minus_split, sets}
use Rattle.sets.proofs.Order.{decides_sub, some_member}

-- what two sets share is counted twice
pub ones_or_and : (a b : ℕ) → ones (bit_or a b) + ones (bit_and a b) ≡ ones a + ones b
ones_or_and =
    bin_ind (λ (a : ℕ). (b : ℕ) → ones (bit_or a b) + ones (bit_and a b) ≡ ones a + ones b) (λ b. add_comm (ones b) (ones 0))
    (λ a ih b.
    let o : ones (bit_or a b) ≡ bit_or (a % 2) (b % 2) + ones (bit_or (a / 2) (b / 2)) = ones_step (bit_or a b) ∙ ap₂ (λ (x y : ℕ). x + ones y) (or_mod a b 1) (or_shr a b 1) in
    let n : ones (bit_and a b) ≡ bit_and (a % 2) (b % 2) + ones (bit_and (a / 2) (b / 2)) = ones_step (bit_and a b) ∙ ap₂ (λ (x y : ℕ). x + ones y) (and_mod a b 1) (and_shr a b 1) in
    omega (arith, o, n, ih (b / 2), or_add_and (a % 2) (b % 2), ones_step a, ones_step b))

pub ones_single : (k : ℕ) → ones (2 ^ k) ≡ 1
unfolding ones ones_in
ones_single k = ap ones (sym (one-mul (2 ^ k)) ∙ sym (add-zero (1 * 2 ^ k))) ∙ ones_cat k 1 0 (pow_pos k)

pub ones_none : ones 0 ≡ 0
unfolding ones ones_in
ones_none = refl

-- taking b's members out leaves the others
pub ones_minus : (a b : ℕ) → ones (minus a b) + ones (bit_and a b) ≡ ones a
ones_minus a b =
    let z : bit_and (minus a b) (bit_and a b) ≡ 0 =
    no_members (bit_and (minus a b) (bit_and a b))
    (λ i. has_and (minus a b) (bit_and a b) i ∙ ap₂ ◌&&◌ (has_minus a b i) (has_and a b i) ∙ never (has a i) (has b i)) in
    let o : bit_or (minus a b) (bit_and a b) ≡ a = or_disjoint (minus a b) (bit_and a b) z ∙ minus_split a b in
    omega (arith, ones_or_and (minus a b) (bit_and a b), ap ones o, ap ones z, ones_none)
  where
    never : (x y : Bool) → ((x && not y) && (x && y)) ≡ false
    never true true = refl
    never true false = refl
    never false y = refl

pub and_single : (a i : ℕ) → has a i ≡ true → bit_and a (2 ^ i) ≡ 2 ^ i
and_single a i h =
    same_members (bit_and a (2 ^ i)) (2 ^ i)
    (λ j. has_and a (2 ^ i) j ∙ ap (λ t. has a j && t) (has_single i j) ∙ at j (cases_eq j i) ∙ sym (has_single i j))
  where
    at : (j : ℕ) → (j ≡ i) ⊎ (j ≡ i → ⊥) → (has a j && eqb j i) ≡ eqb j i
    at j (inl e) = let q : has a j ≡ true = ap (has a) e ∙ h in grind arith
    at j (inr n) = grind (arith, nat_tests)

pub ones_without : (a i : ℕ) → has a i ≡ true → ones (minus a (2 ^ i)) + 1 ≡ ones a
ones_without a i h = omega (arith, ones_minus a (2 ^ i), ap ones (and_single a i h), ones_single i)

-- ---- the first member: what `trailing_zeros` of a set that is not empty gives
pub first_member : (k a : ℕ) → 0 < a → a < 2 ^ k → (count_trailing_zeros k a < k) × First a (count_trailing_zeros k a)
unfolding count_trailing_zeros
first_member zero a p h = absurd (omega arith)
first_member (suc k) a p h = go (first_member k (a / 2)) (a % 2) refl
  where
    below : a % 2 ≡ 0 → ((j : ℕ) → j < count_trailing_zeros k (a / 2) → has (a / 2) j ≡ false) → (j : ℕ) → j < suc (count_trailing_zeros k (a / 2)) → has a j ≡ false
    below e f zero lt = has_low a ∙ ap (λ (x : ℕ). eqb x 1) e
    below e f (suc j) lt = sym (has_half a j) ∙ f j (omega arith)

    go : (0 < a / 2 → a / 2 < 2 ^ k → (count_trailing_zeros k (a / 2) < k) × First (a / 2) (count_trailing_zeros k (a / 2)))
        → (d : ℕ) → a % 2 ≡ d → (under d (count_trailing_zeros k (a / 2)) < suc k) × First a (under d (count_trailing_zeros k (a / 2)))
    go rest zero e =
        let ih = rest (omega arith) (omega (arith, pow-suc 2 k)) in
        (omega (arith, ih.0), (sym (has_half a (count_trailing_zeros k (a / 2))) ∙ ih.1.0, below e ih.1.1))
    go rest (suc d) e = (omega arith, (has_low a ∙ grind (arith, nat_tests), λ j lt. absurd (omega arith)))

-- ---- the list of members

pub members_same : (a b k : ℕ) → ((j : ℕ) → j < k → has a j ≡ has b j) → members a k ≡ members b k
unfolding members
members_same a b zero h = refl
members_same a b (suc k) h = ap₂ (λ xs t. xs ++ cond t (k ∷ []) []) (members_same a b k (λ j lt. h j (omega arith))) (h k (omega arith))

pub members_none : (a k : ℕ) → ((j : ℕ) → j < k → has a j ≡ false) → members a k ≡ []
unfolding members
members_none a zero h = refl
members_none a (suc k) h = ap₂ (λ xs t. xs ++ cond t (k ∷ []) []) (members_none a k (λ j lt. h j (omega arith))) (h k (omega arith))

-- the first member comes first
pub members_first : (a k i : ℕ) → First a i → i < k → members a k ≡ i ∷ members (minus a (2 ^ i)) k
unfolding members
members_first a zero i f lt = absurd (omega arith)
members_first a (suc k) i f lt = go (members_first a k i f) (cases_eq i k)
  where
    other : (j : ℕ) → (j ≡ i → ⊥) → has (minus a (2 ^ i)) j ≡ has a j
    other j n = let o : eqb j i ≡ false = ne_eqb j i n in simp sets (grind (arith, and-true (has a j)))

    gone : has (minus a (2 ^ i)) i ≡ false
    gone = let o : eqb i i ≡ true = eq-eqb i i refl in simp sets (grind (arith, and-false (has a i)))

    go : (i < k → members a k ≡ i ∷ members (minus a (2 ^ i)) k) → (i ≡ k) ⊎ (i ≡ k → ⊥)
        → members a k ++ cond (has a k) (k ∷ []) [] ≡ i ∷ (members (minus a (2 ^ i)) k ++ cond (has (minus a (2 ^ i)) k) (k ∷ []) [])
    go ih (inl e) =
        let l : members a k ≡ [] = members_none a k (λ j p. f.1 j (omega arith)) in
        let r : members (minus a (2 ^ i)) k ≡ [] = members_none (minus a (2 ^ i)) k (λ j p. other j (omega arith) ∙ f.1 j (omega arith)) in
        let t : has a k ≡ true = ap (has a) (sym e) ∙ f.0 in
        let u : has (minus a (2 ^ i)) k ≡ false = ap (has (minus a (2 ^ i))) (sym e) ∙ gone in
        grind arith
    go ih (inr n) =
        let l : members a k ≡ i ∷ members (minus a (2 ^ i)) k = ih (omega arith) in
        let t : has (minus a (2 ^ i)) k ≡ has a k = other k (λ e. n (sym e)) in
        ap₂ (λ xs b. xs ++ cond b (k ∷ []) []) l (sym t)

ones_digit : (k d : ℕ) → d < 2 → ones d ≡ length (cond (eqb d 1) (k ∷ []) [])
unfolding ones ones_in
ones_digit k zero h = refl
ones_digit k (suc zero) h = refl
ones_digit k (suc (suc d)) h = absurd (omega arith)

-- as many as there are digits set
pub ones_members : (a k : ℕ) → ones (a % 2 ^ k) ≡ length (members a k)
unfolding members has
ones_members a zero = ap ones (mod-one a) ∙ ones_none
ones_members a (suc k) =
    let cut : a % 2 ^ suc k ≡ (a / 2 ^ k % 2) * 2 ^ k + a % 2 ^ k = ap (λ (x : ℕ). a % 2 ^ x) (sym (one-add k)) ∙ mod-pow-add a 1 k in
    ap ones cut ∙ ones_cat k (a / 2 ^ k % 2) (a % 2 ^ k) (mod-lt a (pow_pos k))
    ∙ omega (arith, ones_digit k (a / 2 ^ k % 2) (mod-lt (a / 2 ^ k) two_pos), ones_members a k, length-append (members a k) (cond (has a k) (k ∷ []) []))

pub length_members : (k a : ℕ) → a < 2 ^ k → length (members a k) ≡ ones a
length_members k a h = sym (ones_members a k) ∙ ap ones (mod-eq_of_lt h)

-- what `count_ones` gives
pub ones_count : (a : ℕ) → a < 2 ^ limit → ones a ≡ count a
unfolding count
ones_count a h = sym (length_members limit a h)

pub ones_pos : (a : ℕ) → 0 < a → 0 < ones a
ones_pos a h = let m = some_member a h in omega (arith, ones_without a m.0 m.1)

shared_with : (a b : ℕ) → within a b ≡ true → bit_and a b ≡ a
unfolding within
shared_with a b e = eqb-true (bit_and a b) a e

-- a set that grows has more members
pub ones_grows : (a b : ℕ) → Subset a b → (a ≡ b → ⊥) → ones a < ones b
ones_grows a b h n =
    let shared : bit_and b a ≡ a = and_comm b a ∙ shared_with a b ((decides_sub a b).1 h) in
    let some : minus b a ≡ 0 → ⊥ = λ z. n (omega (arith, minus_split b a, shared, z)) in
    omega (arith, ones_minus b a, ap ones shared, ones_pos (minus b a) (omega arith))
