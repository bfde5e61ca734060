-- What every sheet keeps, and that each change keeps it.
use Rattle.std.proofs.Common.{◌≡◌, ℕ, zero, suc, ◌+◌, ◌^◌, ◌<◌, ◌≤◌, Bool, true, false, ◌&&◌, ◌||◌, eqb, List, [], ◌∷◌, ◌++◌, length, get_or, vec_items, vec_len, Vec, sym, refl, ap, ◌∙◌, subst, inl, inr, pow-suc, add-one, arith}
use Rattle.std.specs.Vec.{with_items}
use Rattle.std.specs.declared.alloc.Global.{Global}
use Rattle.std.specs.Cmp.{both_ways as same_tests}
use Rattle.std.proofs.lemmas.Nat.{or_lt}
use Rattle.std.proofs.lemmas.List.FromFn.{get_or-map-range_with_len, length-map-range_with_len, fill_by_all}
use Rattle.std.proofs.lemmas.List.{get_or_past, with_items_is}
use Rattle.std.proofs.lemmas.Bool.{cases_Bool, cases_lt, both_ways, eq-eqb, eqb-true, and_from, and_parts, or_left, or_right, or_cases}
use Rattle.std.proofs.lemmas.Bool.Decides.{nat_tests}
use Rattle.sets.specs.Limit.{limit}
use Rattle.sets.specs.Sets.{has, Has, Subset, within, with_member}
use Rattle.sets.proofs.Membership.{has_empty, has_or, has_with, has_above, has_below, has_collect, with_is}
use Rattle.sets.proofs.Loops.{collect_with, collect_without}
use Rattle.sets.proofs.Order.{decides_sub, sub_none}
use Rattle.sheets.specs.Clauses.{clause_at, row, Among, Mutual, Irreflexive}
use Rattle.sheets.specs.Sheets.{SheetModel, model, Formed}
use Rattle.sheets.specs.Changes.{opposed_set, opposed_row, opposed}
use Rattle.sheets.specs.declared.sheet.Sheet.{Sheet}

pub formed : (s : Sheet) → Formed (model s)
formed s = record {
  small = s.small;
  bounded = s.bounded;
  rows = sym s.conflicts.ok.0;
  few = omega (arith, s.few, s.clauses.ok.0);
  owned = s.owned;
  known = s.known;
  among = s.among;
  mutuals = s.«mutual»;
  irreflexive = s.irreflexive;
}

-- what is present is below the size, and below the limit
module _ (m : SheetModel) (w : Formed m) where
  pub present_below : (i : ℕ) → Has m.present i → i < m.size
  present_below i h = has_below m.size m.present i w.bounded h

  pub present_limit : (i : ℕ) → Has m.present i → i < limit
  present_limit i h = omega (arith, present_below i h, w.small)

pub absent_past : (s : Sheet) (i : ℕ) → vec_len s.conflicts ≤ i → has s.present i ≡ false
absent_past s i le = has_above (vec_len s.conflicts) s.present i s.bounded le

-- for the loop that collects the clear components
pub ruleset clearing = (collect_with, collect_without, with_is, has_collect, absent_past)

-- the owner of a clause can be a member of a set
pub owner_small : (s : Sheet) (k : ℕ) → k < length (vec_items s.clauses) → (clause_at (vec_items s.clauses) k).owner < limit
owner_small s k lt = present_limit (model s) (formed s) (clause_at (vec_items s.clauses) k).owner (s.owned k lt)

pub within_more : (a b c : ℕ) → Subset b c → within a b ≡ true → within a c ≡ true
within_more a b c s h = (decides_sub a c).1 (λ i p. s i ((decides_sub a b).0 h i p))

-- ---- the blank sheet

pub blank_rows : (i : ℕ) → row [] i ≡ 0
blank_rows zero = refl
blank_rows (suc i) = refl

pub blank_among : (table : List ℕ) (p i : ℕ) → table ≡ [] → within (row table i) p ≡ true
blank_among table p i none = ap (λ (t : List ℕ). within (row t i) p) none ∙ ap (λ s. within s p) (blank_rows i) ∙ (decides_sub 0 p).1 (sub_none p)

-- ---- one more component

pub row_grown : (table : List ℕ) (i : ℕ) → row (table ++ 0 ∷ []) i ≡ row table i
row_grown [] zero = refl
row_grown [] (suc i) = blank_rows i
row_grown (r ∷ rs) zero = refl
row_grown (r ∷ rs) (suc i) = row_grown rs i

pub within_with : (a s i : ℕ) → within a s ≡ true → within a (with_member s i) ≡ true
within_with a s i h = within_more a s (with_member s i) (λ j g. has_with s i j ∙ or_left _ _ g) h

pub has_more : (s i j : ℕ) → has s j ≡ true → has (with_member s i) j ≡ true
has_more s i j h = has_with s i j ∙ or_left _ _ h

pub with_small : (s k : ℕ) → s < 2 ^ k → k < limit → with_member s k < 2 ^ (k + 1)
with_small s k small lt =
    let one_more : 2 ^ (k + 1) ≡ 2 ^ k + 2 ^ k = ap (λ j. 2 ^ j) (add-one k) ∙ omega (arith, pow-suc 2 k) in
    subst (λ t. t < 2 ^ (k + 1)) (with_is s k lt) (or_lt (k + 1) s (2 ^ k) (omega (arith, one_more)) (omega (arith, one_more)))

-- for the invariants of a sheet with one more component
pub ruleset growing = (row_grown, within_with, has_more, with_small, with_is)

-- ---- more conflicts

-- i conflicts with j, before or because p now conflicts with each member of qs
pub data Opposes (table : List ℕ) (p qs i j : ℕ) : Type 0 where
  before : Has (row table i) j → Opposes table p qs i j
  forward : i ≡ p → Has qs j → Opposes table p qs i j
  backward : j ≡ p → Has qs i → Opposes table p qs i j

-- the same in one test
abbrev opposes : List ℕ → ℕ → ℕ → ℕ → ℕ → Bool
opposes table p qs i j = has (row table i) j || ((eqb i p && has qs j) || (eqb j p && has qs i))

module _ (table : List ℕ) (p qs i j : ℕ) where
  to_told : Opposes table p qs i j → opposes table p qs i j ≡ true
  to_told (before g) = or_left (has (row table i) j) _ g
  to_told (forward e g) = or_right (has (row table i) j) _ (or_left (eqb i p && has qs j) _ (and_from (eqb i p) (has qs j) (eq-eqb i p e) g))
  to_told (backward e g) = or_right (has (row table i) j) _ (or_right (eqb i p && has qs j) _ (and_from (eqb j p) (has qs i) (eq-eqb j p e) g))

  from_told : opposes table p qs i j ≡ true → Opposes table p qs i j
  from_told t = elim (or_cases (has (row table i) j) _ t) [
    | inl g ↦ before g
    | inr u ↦ elim (or_cases (eqb i p && has qs j) _ u) [
      | inl g ↦ (let a = and_parts (eqb i p) (has qs j) g in forward (eqb-true i p a.0) a.1)
      | inr g ↦ (let a = and_parts (eqb j p) (has qs i) g in backward (eqb-true j p a.0) a.1)
    ]
  ]

has_opposed_set : (s p qs i j : ℕ) → p < limit → has qs p ≡ false → has (opposed_set s p qs i) j ≡ (has s j || ((eqb i p && has qs j) || (eqb j p && has qs i)))
has_opposed_set s p qs i j small other = grind (arith, nat_tests, has_with, has_or)

module _ (table : List ℕ) (p qs : ℕ) (small : p < limit) (other : has qs p ≡ false) (i j : ℕ) where
  has_opposed : i < length table → has (row (opposed table p qs) i) j ≡ opposes table p qs i j
  has_opposed lt = ap (λ s. has s j) (get_or-map-range_with_len (opposed_row table p qs) 0 (length table) i i 0 lt (omega arith)) ∙ has_opposed_set (row table i) p qs i j small other

  pub opposed_from : Has (row (opposed table p qs) i) j → Opposes table p qs i j
  opposed_from h = elim (cases_lt i (length table)) [
    | inl lt ↦ from_told table p qs i j (sym (has_opposed lt) ∙ h)
    | inr le ↦
        let z : row (opposed table p qs) i ≡ 0 = get_or_past (opposed table p qs) i 0 (omega (arith, length-map-range_with_len (opposed_row table p qs) 0 (length table))) in
        absurd (both_ways (has (row (opposed table p qs) i) j) (ap (λ s. has s j) z ∙ has_empty j) h)
  ]

  pub opposed_has : i < length table → Opposes table p qs i j → Has (row (opposed table p qs) i) j
  opposed_has lt o = has_opposed lt ∙ to_told table p qs i j o

module _ (m : SheetModel) (p qs : ℕ) (w : Formed m) (h : Has m.present p) (q : within qs m.present ≡ true) (other : has qs p ≡ false) where
  small : p < limit
  small = present_limit m w p h

  -- j is a component, and conflicts go both ways
  there : (i j : ℕ) → Opposes m.conflicts p qs i j → Has m.present j
  there i j (before g) = (decides_sub (row m.conflicts i) m.present).0 (w.among i) j g
  there i j (forward e g) = (decides_sub qs m.present).0 q j g
  there i j (backward e g) = ap (has m.present) e ∙ h

  turned : (i j : ℕ) → Opposes m.conflicts p qs i j → Opposes m.conflicts p qs j i
  turned i j (before g) = before (w.mutuals i j g)
  turned i j (forward e g) = backward e g
  turned i j (backward e g) = forward e g

  never : (i : ℕ) → Opposes m.conflicts p qs i i → ⊥
  never i (before g) = both_ways (has (row m.conflicts i) i) (w.irreflexive i) g
  never i (forward e g) = both_ways (has qs p) other (ap (has qs) (sym e) ∙ g)
  never i (backward e g) = both_ways (has qs p) other (ap (has qs) (sym e) ∙ g)

  from_opposed : (i j : ℕ) → Has (row (opposed m.conflicts p qs) i) j → Opposes m.conflicts p qs i j
  from_opposed = opposed_from m.conflicts p qs small other

  to_opposed : (i j : ℕ) → Opposes m.conflicts p qs i j → Has (row (opposed m.conflicts p qs) i) j
  to_opposed i j o = opposed_has m.conflicts p qs small other i j (omega (arith, w.rows, present_below m w i (there j i (turned i j o)))) o

  pub opposed_among : Among m.present (opposed m.conflicts p qs)
  opposed_among i = (decides_sub (row (opposed m.conflicts p qs) i) m.present).1 (λ j g. there i j (from_opposed i j g))

  pub opposed_mutual : Mutual (opposed m.conflicts p qs)
  opposed_mutual i j g = to_opposed j i (turned i j (from_opposed i j g))

  pub opposed_irreflexive : Irreflexive (opposed m.conflicts p qs)
  opposed_irreflexive i = elim (cases_Bool (has (row (opposed m.conflicts p qs) i) i)) [ inl g ↦ absurd (never i (from_opposed i i g)) | inr g ↦ g ]

  pub opposed_both : (i j : ℕ) → has (row (opposed m.conflicts p qs) i) j ≡ opposes m.conflicts p qs i j
  opposed_both i j = same_tests _ _ (λ g. to_told m.conflicts p qs i j (from_opposed i j g)) (λ t. to_opposed i j (from_told m.conflicts p qs i j t))

-- what the code makes of the table
pub refilled_opposed : (t : Vec ℕ Global) (ws : List ℕ) (p qs : ℕ) → length ws ≡ length (vec_items t)
    → ((k : ℕ) → k < length (vec_items t) → get_or ws k 0 ≡ opposed_row (vec_items t) p qs k)
    → opposed (vec_items t) p qs ≡ vec_items (with_items t ws)
refilled_opposed t ws p qs same each =
    let filled = fill_by_all (opposed_row (vec_items t) p qs) ws (length (vec_items t)) 0 same each in
    sym (with_items_is t ws (same ∙ sym t.ok.0) ∙ filled)
