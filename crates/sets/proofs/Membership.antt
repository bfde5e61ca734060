-- Membership: the members of what each operation gives, and equality by members.
use Rattle.std.proofs.Common.{◌≡◌, ℕ, zero, suc, ◌+◌, ◌-◌, ◌/◌, ◌%◌, ◌^◌, ◌<◌, ◌≤◌, min, Bool, true, false, cond, not, ◌&&◌, ◌||◌, eqb, ltb, ◌⊎◌, sym, refl, ap, ◌∙◌, inl, inr, lt_of_lt_of_le, mod-lt, mod-eq_of_lt, zero-lt-suc, one-mul, pow-suc, zero-add, div-one, one-add, arith, pow_pos, pow_mono, shr-shr}
use mathlib.Core.Bool.{and_self_left, and-true}
use native.Mathlib.Nat.{zero-div, div-eq_of_lt}
use lib.Dec.{eqb-suc-zero, eqb-suc-suc}
use lib.Arith.{bin_ind}
use lib.Pow.{ones_lt}
use lib.Bits.{bit_and, bit_or, bit_xor, and_shr, and_mod, or_shr, or_mod, xor_shr, xor_mod, or_shifted, and_mask, xor_add_and}
use Rattle.std.proofs.lemmas.Bool.{le-ltb, lt-ltb, cases_lt, cases_Bool, cases_eq, both_ways, cond_both, cond-true, cond-false, ne_eqb}
use Rattle.std.proofs.lemmas.Bool.Decides.{nat_tests}
use Rattle.sets.specs.Limit.{limit}
use Rattle.sets.specs.Sets.{has, minus, collect, with_member, below}

pub two_pos : 0 < 2
two_pos = zero-lt-suc 1

-- two tests on binary digits that agree at the four pairs of digits
digits : (f g : ℕ → ℕ → Bool) → f 0 0 ≡ g 0 0 → f 0 1 ≡ g 0 1 → f 1 0 ≡ g 1 0 → f 1 1 ≡ g 1 1 → (x y : ℕ) → x < 2 → y < 2 → f x y ≡ g x y
digits f g a b c d zero zero hx hy = a
digits f g a b c d zero (suc zero) hx hy = b
digits f g a b c d (suc zero) zero hx hy = c
digits f g a b c d (suc zero) (suc zero) hx hy = d
digits f g a b c d zero (suc (suc y)) hx hy = absurd (omega arith)
digits f g a b c d (suc zero) (suc (suc y)) hx hy = absurd (omega arith)
digits f g a b c d (suc (suc x)) y hx hy = absurd (omega arith)

-- digit i of a, and of b
module _ (a b i : ℕ) where
  at_digits : (f g : ℕ → ℕ → Bool) → f 0 0 ≡ g 0 0 → f 0 1 ≡ g 0 1 → f 1 0 ≡ g 1 0 → f 1 1 ≡ g 1 1 → f (a / 2 ^ i % 2) (b / 2 ^ i % 2) ≡ g (a / 2 ^ i % 2) (b / 2 ^ i % 2)
  at_digits f g p q r s = digits f g p q r s (a / 2 ^ i % 2) (b / 2 ^ i % 2) (mod-lt (a / 2 ^ i) two_pos) (mod-lt (b / 2 ^ i) two_pos)

  pub has_or : has (bit_or a b) i ≡ (has a i || has b i)
  unfolding has
  has_or =
      ap (λ (x : ℕ). eqb x 1) (ap (λ (x : ℕ). x % 2) (or_shr a b i) ∙ or_mod (a / 2 ^ i) (b / 2 ^ i) 1)
      ∙ at_digits (λ x y. eqb (bit_or x y) 1) (λ x y. eqb x 1 || eqb y 1) refl refl refl refl

  pub has_and : has (bit_and a b) i ≡ (has a i && has b i)
  unfolding has
  has_and =
      ap (λ (x : ℕ). eqb x 1) (ap (λ (x : ℕ). x % 2) (and_shr a b i) ∙ and_mod (a / 2 ^ i) (b / 2 ^ i) 1)
      ∙ at_digits (λ x y. eqb (bit_and x y) 1) (λ x y. eqb x 1 && eqb y 1) refl refl refl refl

  has_xor : has (bit_xor a b) i ≡ cond (has a i) (not (has b i)) (has b i)
  unfolding has
  has_xor =
      ap (λ (x : ℕ). eqb x 1) (ap (λ (x : ℕ). x % 2) (xor_shr a b i) ∙ xor_mod (a / 2 ^ i) (b / 2 ^ i) 1)
      ∙ at_digits (λ x y. eqb (bit_xor x y) 1) (λ x y. cond (eqb x 1) (not (eqb y 1)) (eqb y 1)) refl refl refl refl

pub has_minus : (a b i : ℕ) → has (minus a b) i ≡ (has a i && not (has b i))
unfolding minus
has_minus a b i = has_xor a (bit_and a b) i ∙ ap (λ t. cond (has a i) (not t) t) (has_and a b i) ∙ ways (has a i) (has b i)
  where
    ways : (x y : Bool) → cond x (not (x && y)) (x && y) ≡ (x && not y)
    ways true y = refl
    ways false y = refl

pub has_empty : (i : ℕ) → has 0 i ≡ false
unfolding has
has_empty i = ap (λ (x : ℕ). eqb (x % 2) 1) (zero-div (2 ^ i))

-- ---- the lowest digit, and the rest

pub has_low : (a : ℕ) → has a 0 ≡ eqb (a % 2) 1
unfolding has
has_low a = ap (λ (x : ℕ). eqb (x % 2) 1) (div-one a)

pub has_half : (a i : ℕ) → has (a / 2) i ≡ has a (suc i)
unfolding has
has_half a i = ap (λ (x : ℕ). eqb (x % 2) 1) (shr-shr a 1 i ∙ ap (λ (x : ℕ). a / 2 ^ x) (one-add i))

same_digit : (x y : ℕ) → x < 2 → y < 2 → eqb x 1 ≡ eqb y 1 → x ≡ y
same_digit x y hx hy e = grind (arith, nat_tests)

-- a number with no member is 0
pub no_members : (a : ℕ) → ((i : ℕ) → has a i ≡ false) → a ≡ 0
no_members =
    bin_ind (λ (a : ℕ). ((i : ℕ) → has a i ≡ false) → a ≡ 0) (λ _. refl)
    (λ a ih h.
    let hi : a / 2 ≡ 0 = ih (λ i. has_half a i ∙ h (suc i)) in
    let lo : a % 2 ≡ 0 = same_digit (a % 2) 0 (mod-lt a two_pos) two_pos (sym (has_low a) ∙ h 0) in
    omega arith)

-- two numbers with the same members are equal
pub same_members : (a b : ℕ) → ((i : ℕ) → has a i ≡ has b i) → a ≡ b
same_members =
    bin_ind (λ (a : ℕ). (b : ℕ) → ((i : ℕ) → has a i ≡ has b i) → a ≡ b)
    (λ b h. sym (no_members b (λ i. sym (h i) ∙ has_empty i)))
    (λ a ih b h.
    let hi : a / 2 ≡ b / 2 = ih (b / 2) (λ i. has_half a i ∙ h (suc i) ∙ sym (has_half b i)) in
    let lo : a % 2 ≡ b % 2 = same_digit (a % 2) (b % 2) (mod-lt a two_pos) (mod-lt b two_pos) (sym (has_low a) ∙ h 0 ∙ has_low b) in
    omega arith)

-- ---- a set within k places

pub has_above : (k a i : ℕ) → a < 2 ^ k → k ≤ i → has a i ≡ false
unfolding has
has_above k a i h le =
    let z : a / 2 ^ i ≡ 0 = div-eq_of_lt (lt_of_lt_of_le h (pow_mono le)) in
    ap (λ (x : ℕ). eqb (x % 2) 1) z

-- a member of a set within k places is below k
pub has_below : (k a i : ℕ) → a < 2 ^ k → has a i ≡ true → i < k
has_below k a i h e = elim (cases_lt i k) [ inl lt ↦ lt | inr le ↦ absurd (both_ways (has a i) (has_above k a i h le) e) ]

pub same_below : (k a b : ℕ) → a < 2 ^ k → b < 2 ^ k → ((i : ℕ) → i < k → has a i ≡ has b i) → a ≡ b
same_below k a b ha hb h =
    same_members a b (λ i. elim (cases_lt i k) [ inl lt ↦ h i lt | inr le ↦ has_above k a i ha le ∙ sym (has_above k b i hb le) ])

-- ---- one place, the places below n, and those that a test picks

pub has_single : (k i : ℕ) → has (2 ^ k) i ≡ eqb i k
has_single zero zero = has_low 1
has_single zero (suc i) = sym (has_half 1 i) ∙ has_empty i ∙ sym (eqb-suc-zero i)
has_single (suc k) zero = has_low (2 ^ suc k) ∙ grind (arith, nat_tests, pow-suc 2 k)
has_single (suc k) (suc i) =
    let half : 2 ^ suc k / 2 ≡ 2 ^ k = omega (arith, pow-suc 2 k) in
    sym (has_half (2 ^ suc k) i) ∙ ap (λ (x : ℕ). has x i) half ∙ has_single k i ∙ sym (eqb-suc-suc i k)

-- one place above k others
pub has_on_top : (k a i : ℕ) → a < 2 ^ k → has (2 ^ k + a) i ≡ (eqb i k || has a i)
has_on_top k a i h =
    let e : bit_or (2 ^ k) a ≡ 2 ^ k + a = rw one-mul at (or_shifted 1 k a h) in
    ap (λ (x : ℕ). has x i) (sym e) ∙ has_or (2 ^ k) a i ∙ ap (λ b. b || has a i) (has_single k i)

pub has_full : (n i : ℕ) → has (2 ^ n - 1) i ≡ ltb i n
has_full zero i = has_empty i ∙ sym (le-ltb i 0 (omega arith))
has_full (suc n) i =
    let e : 2 ^ suc n - 1 ≡ 2 ^ n + (2 ^ n - 1) = omega (arith, pow-suc 2 n, pow_pos n) in
    ap (λ (x : ℕ). has x i) e ∙ has_on_top n (2 ^ n - 1) i (ones_lt n) ∙ ap (λ b. eqb i n || b) (has_full n i) ∙ grind (arith, nat_tests)

pub collect_lt : (p : ℕ → Bool) (n : ℕ) → collect p n < 2 ^ n
unfolding collect
collect_lt p zero = omega arith
collect_lt p (suc n) =
    cond_both (p n) (2 ^ n) 0 (λ x. x + collect p n < 2 ^ suc n)
    (λ _. omega (arith, pow-suc 2 n, collect_lt p n)) (λ _. omega (arith, pow-suc 2 n, collect_lt p n))

pub has_collect : (p : ℕ → Bool) (n i : ℕ) → has (collect p n) i ≡ (ltb i n && p i)
unfolding collect
has_collect p zero i = has_empty i ∙ grind (arith, nat_tests)
has_collect p (suc n) i =
    cond_both (p n) (2 ^ n) 0 (λ x. has (x + collect p n) i ≡ (ltb i (suc n) && p i))
    (λ e. has_on_top n (collect p n) i (collect_lt p n) ∙ ap (λ b. eqb i n || b) (has_collect p n i) ∙ picked e)
    (λ e. ap (λ (x : ℕ). has x i) (zero-add (collect p n)) ∙ has_collect p n i ∙ passed e)
  where
    picked : p n ≡ true → (eqb i n || (ltb i n && p i)) ≡ (ltb i (suc n) && p i)
    picked e = elim (cases_eq i n) [ inl h ↦ (let q : p i ≡ p n = ap p h in grind (arith, nat_tests)) | inr h ↦ grind (arith, nat_tests) ]

    passed : p n ≡ false → (ltb i n && p i) ≡ (ltb i (suc n) && p i)
    passed e = elim (cases_eq i n) [ inl h ↦ (let q : p i ≡ p n = ap p h in grind (arith, nat_tests)) | inr h ↦ grind (arith, nat_tests) ]

-- ---- what is left of a set, and the complement in k places

-- `!b` at k bits
pub has_not : (k b i : ℕ) → b < 2 ^ k → has (2 ^ k - 1 - b) i ≡ (ltb i k && not (has b i))
has_not k b i h =
    let m : bit_and b (2 ^ k - 1) ≡ b = and_mask b k ∙ mod-eq_of_lt h in
    let e : 2 ^ k - 1 - b ≡ bit_xor b (2 ^ k - 1) = omega (arith, xor_add_and b (2 ^ k - 1), m) in
    let f : has (2 ^ k - 1) i ≡ ltb i k = has_full k i in
    let x : has (bit_xor b (2 ^ k - 1)) i ≡ cond (has b i) (not (has (2 ^ k - 1) i)) (has (2 ^ k - 1) i) = has_xor b (2 ^ k - 1) i in
    ap (λ (n : ℕ). has n i) e ∙ x ∙ ap (λ t. cond (has b i) (not t) t) f ∙ last (cases_Bool (has b i))
  where
    last : (has b i ≡ true) ⊎ (has b i ≡ false) → cond (has b i) (not (ltb i k)) (ltb i k) ≡ (ltb i k && not (has b i))
    last (inl e) = let lt : i < k = has_below k b i h e in grind (arith, nat_tests)
    last (inr e) = grind (arith, nat_tests)

-- `a & !b` at k bits
pub and_not : (k a b : ℕ) → a < 2 ^ k → b < 2 ^ k → bit_and a (2 ^ k - 1 - b) ≡ minus a b
and_not k a b ha hb =
    same_members (bit_and a (2 ^ k - 1 - b)) (minus a b)
    (λ i. has_and a (2 ^ k - 1 - b) i ∙ ap (λ t. has a i && t) (has_not k b i hb) ∙ last i (cases_Bool (has a i)) ∙ sym (has_minus a b i))
  where
    last : (i : ℕ) → (has a i ≡ true) ⊎ (has a i ≡ false) → (has a i && (ltb i k && not (has b i))) ≡ (has a i && not (has b i))
    last i (inl e) = let lt : i < k = has_below k a i ha e in grind (arith, nat_tests)
    last i (inr e) = grind (arith, nat_tests)

pub minus_split : (a b : ℕ) → minus a b + bit_and a b ≡ a
unfolding minus
minus_split a b =
    let c : bit_and a (bit_and a b) ≡ bit_and a b =
    same_members (bit_and a (bit_and a b)) (bit_and a b)
    (λ i. has_and a (bit_and a b) i ∙ ap (λ t. has a i && t) (has_and a b i) ∙ and_self_left (has a i) (has b i) ∙ sym (has_and a b i)) in
    omega (arith, xor_add_and a (bit_and a b), c)

-- s with i: limit places are enough for it
pub has_with : (s i j : ℕ) → has (with_member s i) j ≡ (has s j || (eqb j i && ltb j limit))
unfolding with_member
has_with s i j =
    cond_both (ltb i limit) (bit_or s (2 ^ i)) s (λ r. has r j ≡ (has s j || (eqb j i && ltb j limit)))
    (λ e. has_or s (2 ^ i) j ∙ ap (λ t. has s j || t) (has_single i j ∙ inside e))
    (λ e. sym (outside e))
  where
    inside : ltb i limit ≡ true → eqb j i ≡ (eqb j i && ltb j limit)
    inside e = elim (cases_eq j i) [ inl h ↦ (let q : ltb j limit ≡ true = ap (λ n. ltb n limit) h ∙ e in grind (arith, nat_tests)) | inr h ↦ grind (arith, nat_tests) ]

    outside : ltb i limit ≡ false → (has s j || (eqb j i && ltb j limit)) ≡ has s j
    outside e = elim (cases_eq j i) [ inl h ↦ (let q : ltb j limit ≡ false = ap (λ n. ltb n limit) h ∙ e in at (has s j) (eqb j i) (ltb j limit) q) | inr h ↦ other (has s j) (eqb j i) (ltb j limit) (grind (arith, nat_tests)) ]
      where
        at : (x y z : Bool) → z ≡ false → (x || (y && z)) ≡ x
        at x y z q = grind arith

        other : (x y z : Bool) → y ≡ false → (x || (y && z)) ≡ x
        other x y z q = grind arith

pub has_below_all : (n i : ℕ) → has (below n) i ≡ (ltb i n && ltb i limit)
unfolding below
has_below_all n i = has_full (min n limit) i ∙ grind (arith, nat_tests)

-- what `full`, `with` and `without` give on each side of the limit
pub below_all : (n : ℕ) → limit ≤ n → 2 ^ limit - 1 ≡ below n
unfolding below
below_all n h = let e : min n limit ≡ limit = omega arith in ap (λ k. 2 ^ k - 1) (sym e)

pub below_some : (n : ℕ) → n < limit → 2 ^ n - 1 ≡ below n
unfolding below
below_some n h = let e : min n limit ≡ n = omega arith in ap (λ k. 2 ^ k - 1) (sym e)

pub with_past : (s i : ℕ) → limit ≤ i → s ≡ with_member s i
unfolding with_member
with_past s i h = sym (cond-false (ltb i limit) (bit_or s (2 ^ i)) s (le-ltb i limit h))

pub with_is : (s i : ℕ) → i < limit → bit_or s (2 ^ i) ≡ with_member s i
unfolding with_member
with_is s i h = sym (cond-true (ltb i limit) (bit_or s (2 ^ i)) s (lt-ltb i limit h))

pub without_past : (s i : ℕ) → s < 2 ^ limit → limit ≤ i → s ≡ minus s (2 ^ i)
without_past s i b h =
    same_members s (minus s (2 ^ i))
    (λ j. sym (has_minus s (2 ^ i) j ∙ ap (λ t. has s j && not t) (has_single i j) ∙ other j (cases_eq j i)))
  where
    other : (j : ℕ) → (j ≡ i) ⊎ (j ≡ i → ⊥) → (has s j && not (eqb j i)) ≡ has s j
    other j (inl e) = let q : has s j ≡ false = has_above limit s j b (omega arith) in grind arith
    other j (inr n) = let q : eqb j i ≡ false = ne_eqb j i n in grind (arith, and-true (has s j))

pub has_without : (s i j : ℕ) → has (minus s (2 ^ i)) j ≡ (has s j && not (eqb j i))
has_without s i j = has_minus s (2 ^ i) j ∙ ap (λ t. has s j && not t) (has_single i j)

-- `simp sets` turns membership of a computed set into a test on its parts
pub ruleset sets = (has_or, has_and, has_minus, has_single, has_full, has_collect, has_with, has_below_all, has_empty)
