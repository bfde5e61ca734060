-- Loops: over the numbers below a limit that pass a test, and over the members of a set.
use Rattle.std.proofs.Common.{◌≡◌, ℕ, ◌+◌, ◌/◌, ◌^◌, Bool, true, false, cond, not, ◌&&◌, eqb, ◌⊎◌, sym, ap, ◌∙◌, subst, inl, inr, one-mul, zero-add, add-one, arith}
use lib.Bits.{bit_or, or_comm, or_shifted, and_mask, bit_and}
use Rattle.std.proofs.lemmas.Bool.{cases_eq, both_ways, ne_eqb, and_parts}
use Rattle.std.proofs.Common.{◌<◌, ◌||◌, List, [], ◌∷◌, length, drop, get_or, drop-cons, ltb}
use Rattle.std.specs.List.{list_any}
use Rattle.sets.specs.Limit.{limit}
use Rattle.sets.specs.Sets.{has, Has, Subset, MadeOf, minus, collect, with_member, with_members}
use Rattle.sets.proofs.Membership.{has_minus, has_single, has_empty, has_with, collect_lt}

-- `a >> i & 1 == 1`
pub has_tested : (a i : ℕ) → eqb (bit_and (a / 2 ^ i) 1) 1 ≡ has a i
unfolding has
has_tested a i = ap (λ (x : ℕ). eqb x 1) (and_mask (a / 2 ^ i) 1)

-- ---- loops over numbers, and over members

-- one more number, at which p holds or not
pub collect_with : (p : ℕ → Bool) (n : ℕ) → p n ≡ true → collect p (n + 1) ≡ bit_or (collect p n) (2 ^ n)
unfolding collect
collect_with p n e =
    ap (collect p) (add-one n) ∙ ap (λ b. cond b (2 ^ n) 0 + collect p n) e
    ∙ sym (or_comm (collect p n) (2 ^ n) ∙ rw one-mul at (or_shifted 1 n (collect p n) (collect_lt p n)))

pub collect_without : (p : ℕ → Bool) (n : ℕ) → p n ≡ false → collect p (n + 1) ≡ collect p n
unfolding collect
collect_without p n e = ap (collect p) (add-one n) ∙ ap (λ b. cond b (2 ^ n) 0 + collect p n) e ∙ zero-add (collect p n)

-- A loop over the members of s, of which rest are still to come: P holds of each that has come.
pub record Visited (P : ℕ → Type 0) (s rest : ℕ) : Type 0 where
  pub from : Subset rest s
  pub seen : (i : ℕ) → Has s i → has rest i ≡ false → P i

pub visited_none : (P : ℕ → Type 0) (s : ℕ) → Visited P s s
visited_none P s = record { from = λ i h. h; seen = λ i h k. absurd (both_ways (has s i) k h) }

pub visited_more : {P : ℕ → Type 0} {s rest : ℕ} (i : ℕ) → Visited P s rest → P i → Visited P s (minus rest (2 ^ i))
visited_more {P} {s} {rest} i v p = record {
  from = λ j h. v.from j (and_parts (has rest j) (not (has (2 ^ i) j)) (sym (has_minus rest (2 ^ i) j) ∙ h)).0;
  seen = λ j h k. go j h k (cases_eq j i);
}
  where
    go : (j : ℕ) → has s j ≡ true → has (minus rest (2 ^ i)) j ≡ false → (j ≡ i) ⊎ (j ≡ i → ⊥) → P j
    go j h k (inl e) = subst P (sym e) p
    go j h k (inr n) =
        v.seen j h
        (let m : has (minus rest (2 ^ i)) j ≡ (has rest j && not (has (2 ^ i) j)) = has_minus rest (2 ^ i) j in
        let o : has (2 ^ i) j ≡ false = has_single i j ∙ ne_eqb j i n in
        grind arith)

pub visited_all : {P : ℕ → Type 0} {s rest : ℕ} → Visited P s rest → rest ≡ 0 → (i : ℕ) → has s i ≡ true → P i
visited_all {P} {s} {rest} v z i h = v.seen i h (ap (λ (x : ℕ). has x i) z ∙ has_empty i)

-- ---- loops over a list of numbers

-- the number at k, before the later ones
pub with_next : (s : ℕ) (is : List ℕ) (k : ℕ) → k < length is → with_members s (drop k is) ≡ with_members (with_member s (get_or is k 0)) (drop (k + 1) is)
with_next s is k h = rw (drop-cons is k 0, ← add-one k)

-- the members of s and of the list
pub has_with_members : (s : ℕ) (is : List ℕ) (i : ℕ) → has (with_members s is) i ≡ (has s i || (list_any (λ j. eqb i j) is && ltb i limit))
has_with_members s [] i = grind arith
has_with_members s (j ∷ js) i =
    let e : has (with_members (with_member s j) js) i ≡ (has (with_member s j) i || (list_any (λ j. eqb i j) js && ltb i limit)) = has_with_members (with_member s j) js i in
    let w : has (with_member s j) i ≡ (has s i || (eqb i j && ltb i limit)) = has_with s j i in
    grind arith

-- a set to which the numbers of a list were added one by one
pub made_of : (is : List ℕ) (s : ℕ) → s ≡ with_members 0 is → MadeOf is s
made_of is s e = record {
  value = e;
  members = λ i. ap (λ (x : ℕ). has x i) e ∙ has_with_members 0 is i ∙ ap (λ b. b || (list_any (λ j. eqb i j) is && ltb i limit)) (has_empty i);
}
