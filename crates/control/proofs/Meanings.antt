-- What names mean, one name after the other.
use Rattle.std.proofs.Common.{◌≡◌, ℕ, suc, ◌+◌, ◌<◌, Bool, true, ◌&&◌, ◌||◌, eqb, ltb, List, [], ◌∷◌, ◌++◌, length, Some, None, Option, sym, refl, ap, ◌∙◌, subst, ⊎_elim, arith}
use Rattle.std.specs.Str.{bytes_eq}
use Rattle.std.proofs.lemmas.Bool.{and_parts, and_from, cond_both, eqb-true, lt-ltb, or_cases}
use Rattle.sets.specs.Limit.{limit}
use Rattle.sets.specs.Sets.{has, Subset, within, with_member, below}
use Rattle.sets.proofs.Membership.{has_with, has_below_all, same_members}
use Rattle.sets.proofs.Order.{decides_sub, sub_none}
use Rattle.texts.specs.Spans.{look_up}
use Rattle.control.specs.Grounds.{with_found, known}

-- what is found is a component
abbrev FoundBelow : ℕ → Option ℕ → Type 0
FoundBelow n (Some i) = i < n
FoundBelow n None = Unit {0}

look_from : (i : ℕ) (names : List (List ℕ)) (n : List ℕ) → FoundBelow (i + length names) (look_up i names n)
look_from i [] n = tt
look_from i (m ∷ ms) n =
    let more : suc i + length ms ≡ i + suc (length ms) = omega arith in
    cond_both (bytes_eq m n) _ _ (FoundBelow (i + suc (length ms))) (λ e. omega arith) (λ e. subst (λ k. FoundBelow k (look_up (suc i) ms n)) more (look_from (suc i) ms n))

look_below : (names : List (List ℕ)) (n : List ℕ) → FoundBelow (length names) (look_up 0 names n)
look_below names n = let e : 0 + length names ≡ length names = omega arith in subst (λ k. FoundBelow k (look_up 0 names n)) e (look_from 0 names n)

pub found_below : (names : List (List ℕ)) (n : List ℕ) (i : ℕ) → Some i ≡ look_up 0 names n → i < length names
found_below names n i e = subst (FoundBelow (length names)) (sym e) (look_below names n)

-- ---- the components that names mean

with_swap : (s i j : ℕ) → with_member (with_member s i) j ≡ with_member (with_member s j) i
with_swap s i j =
    same_members (with_member (with_member s i) j) (with_member (with_member s j) i)
    (λ k. has_with (with_member s i) j k ∙ ap (λ t. t || (eqb k j && ltb k limit)) (has_with s i k) ∙ ways (has s k) (eqb k i && ltb k limit) (eqb k j && ltb k limit)
    ∙ ap (λ t. t || (eqb k i && ltb k limit)) (sym (has_with s j k))
    ∙ sym (has_with (with_member s j) i k))
  where
    ways : (a b c : Bool) → ((a || b) || c) ≡ ((a || c) || b)
    ways a b c = grind arith

found_swap : (s : ℕ) (x y : Option ℕ) → with_found (with_found s x) y ≡ with_found (with_found s y) x
found_swap s (Some i) (Some j) = with_swap s i j
found_swap s (Some i) None = refl
found_swap s None (Some j) = refl
found_swap s None None = refl

pub known_push : (names ns : List (List ℕ)) (n : List ℕ) → known names (ns ++ n ∷ []) ≡ with_found (known names ns) (look_up 0 names n)
known_push names [] n = refl
known_push names (m ∷ ns) n = ap (λ s. with_found s (look_up 0 names m)) (known_push names ns n) ∙ found_swap (known names ns) (look_up 0 names n) (look_up 0 names m)

-- one name more, of a component or of none
module _ (names ns : List (List ℕ)) (n : List ℕ) (s : ℕ) (so_far : s ≡ known names ns) where
  pub known_found : (i : ℕ) → Some i ≡ look_up 0 names n → with_member s i ≡ known names (ns ++ n ∷ [])
  known_found i e = ap (λ t. with_member t i) so_far ∙ ap (with_found (known names ns)) e ∙ sym (known_push names ns n)

  pub known_unfound : None ≡ look_up 0 names n → s ≡ known names (ns ++ n ∷ [])
  known_unfound e = so_far ∙ ap (with_found (known names ns)) e ∙ sym (known_push names ns n)

with_sub : (n s : ℕ) (x : Option ℕ) → FoundBelow n x → Subset s (below n) → Subset (with_found s x) (below n)
with_sub n s (Some i) lt h j g =
    ⊎_elim (h j)
    (λ e. let p = and_parts (eqb j i) (ltb j limit) e in has_below_all n j ∙ and_from (ltb j n) (ltb j limit) (lt-ltb j n (omega (arith, eqb-true j i p.0))) p.1)
    (or_cases (has s j) (eqb j i && ltb j limit) (sym (has_with s i j) ∙ g))
with_sub n s None lt h j g = h j g

known_sub : (names ns : List (List ℕ)) → Subset (known names ns) (below (length names))
known_sub names [] = sub_none (below (length names))
known_sub names (n ∷ ns) = with_sub (length names) (known names ns) (look_up 0 names n) (look_below names n) (known_sub names ns)

pub known_within : (names ns : List (List ℕ)) → within (known names ns) (below (length names)) ≡ true
known_within names ns = (decides_sub (known names ns) (below (length names))).1 (known_sub names ns)
