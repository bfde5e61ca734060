-- Closing a catalogue: the records' clashes become conflicts, one record after the other.
use Rattle.std.proofs.Common.{◌≡◌, ℕ, ◌+◌, ◌<◌, ◌≤◌, true, false, ltb, ◌⊎◌, List, map, length, Ok, Result, sym, refl, ap, ◌∙◌, subst, inl, inr, arith}
use Rattle.std.specs.List.{range_with_len}
use Rattle.std.proofs.lemmas.List.FromFn.{fill_by_all}
use Rattle.std.proofs.lemmas.List.{get_or_past}
use Rattle.std.proofs.lemmas.Bool.{cases_Bool, cases_eq, cases_lt, both_ways, lt-ltb, and_from, and_parts, or_cases, or_left, or_right}
use Rattle.sets.specs.Limit.{limit}
use Rattle.sets.specs.Sets.{has, Has, within, below, collect}
use Rattle.sets.proofs.Membership.{has_empty, has_below_all, has_collect}
use Rattle.sets.proofs.Order.{decides_sub, sub_antisym}
use Rattle.refusals.specs.declared.Refusal.{Refusal}
use Rattle.sheets.specs.Clauses.{row}
use Rattle.sheets.specs.Changes.{Goes, with_conflicts, opposed, conflicts_added}
use Rattle.sheets.specs.Sheets.{SheetModel, Formed}
use Rattle.sheets.proofs.Forms.{Opposes, before, forward, backward, opposed_from, opposed_has, present_below, present_limit}
use Rattle.catalogue.specs.Drafts.{Draft, clash, closed_row, closed}
use Rattle.catalogue.specs.Notes.{Filled}

-- one of i and j has noted the other, and its record is among the first k
pub data Noted (rs : List ℕ) (k i j : ℕ) : Type 0 where
  ahead : i < k → Has (row rs i) j → Noted rs k i j
  behind : j < k → Has (row rs j) i → Noted rs k i j

-- the sheet e once the first k records are done
pub record Closing (e m : SheetModel) (rs : List ℕ) (k : ℕ) : Type 0 where
  pub same : m ≡ with_conflicts e m.conflicts
  pub from : (i j : ℕ) → Has (row m.conflicts i) j → Noted rs k i j
  pub all : (i j : ℕ) → Noted rs k i j → Has (row m.conflicts i) j

-- ---- what the records name

noted_below : (rs : List ℕ) (p q : ℕ) → Has (row rs p) q → p < length rs
noted_below rs p q h = go (cases_lt p (length rs))
  where
    go : (p < length rs) ⊎ (length rs ≤ p) → p < length rs
    go (inl lt) = lt
    go (inr le) =
        let none : row rs p ≡ 0 = ap (λ (r : ℕ). r) (get_or_past rs p 0 le) in
        absurd (both_ways (has (row rs p) q) (ap (λ s. has s q) none ∙ has_empty q) h)

module _ (e : SheetModel) (rs : List ℕ) (f : Filled e rs) (w : Formed e) where
  named_below : (p q : ℕ) → Has (row rs p) q → q < length rs
  named_below p q h = omega (arith, f.counted, present_below e w q ((decides_sub (row rs p) e.present).0 (f.known p) q h))

  pub both_below : (k i j : ℕ) → Noted rs k i j → (i < length rs) × (j < length rs)
  both_below k i j (ahead lt h) = (noted_below rs i j h, named_below i j h)
  both_below k i j (behind lt h) = (named_below j i h, noted_below rs j i h)

  -- ---- before the first record

  pub closing_none : Closing e e rs 0
  closing_none = record {
    same = refl;
    from = λ i j h. absurd (both_ways (has (row e.conflicts i) j) (ap (λ s. has s j) (f.unopposed i) ∙ has_empty j) h);
    all = λ i j n. absurd (never i j n);
  }
    where
      never : (i j : ℕ) → Noted rs 0 i j → ⊥
      never i j (ahead lt h) = omega arith
      never i j (behind lt h) = omega arith

  -- ---- one record more

  module _ (m : SheetModel) (k : ℕ) (c : Closing e m rs k) (v : Formed m) (lt : k < length rs) where
    size_is : m.size ≡ length rs
    size_is = ap (λ x. x.size) c.same ∙ sym f.counted

    present_is : m.present ≡ e.present
    present_is = ap (λ x. x.present) c.same

    here : Has m.present k
    here =
        ap (λ s. has s k) (present_is ∙ f.whole) ∙ has_below_all e.size k
        ∙ and_from (ltb k e.size) (ltb k limit) (lt-ltb k e.size (omega (arith, f.counted))) (lt-ltb k limit (omega (arith, f.counted, w.small)))

    named : within (row rs k) m.present ≡ true
    named = subst (λ s. within (row rs k) s ≡ true) (sym present_is) (f.known k)

    -- the addition is obeyed
    pub obeyed : (r : Result (Unit {0}) Refusal) (n : SheetModel) → Goes (conflicts_added m k (row rs k)) tt r m n → (r ≡ Ok tt) × (n ≡ with_conflicts m (opposed m.conflicts k (row rs k)))
    obeyed r n g = rw (and_from (has m.present k) (within (row rs k) m.present) here named, f.foreign k) at g

    pub closing_more : (r : Result (Unit {0}) Refusal) (n : SheetModel) → Goes (conflicts_added m k (row rs k)) tt r m n → Closing e n rs (k + 1)
    closing_more r n g = subst (λ x. Closing e x rs (k + 1)) (sym (obeyed r n g).1) (record { same = ap (λ x. with_conflicts x (opposed table k qs)) c.same; from = from; all = all })
      where
        table : List ℕ
        table = m.conflicts

        qs : ℕ
        qs = row rs k

        more : (i j : ℕ) → Noted rs k i j → Noted rs (k + 1) i j
        more i j (ahead lt h) = ahead (omega arith) h
        more i j (behind lt h) = behind (omega arith) h

        turned : (i j : ℕ) → Opposes m.conflicts k (row rs k) i j → Noted rs (k + 1) i j
        turned i j (before h) = more i j (c.from i j h)
        turned i j (forward e h) = ahead (omega (arith, e)) (ap (λ p. has (row rs p) j) e ∙ h)
        turned i j (backward e h) = behind (omega (arith, e)) (ap (λ p. has (row rs p) i) e ∙ h)

        from : (i j : ℕ) → Has (row (opposed m.conflicts k (row rs k)) i) j → Noted rs (k + 1) i j
        from i j h = turned i j (opposed_from m.conflicts k (row rs k) (present_limit m v k here) (f.foreign k) i j h)

        back : (i j : ℕ) → Noted rs (k + 1) i j → Opposes m.conflicts k (row rs k) i j
        back i j (ahead lt h) = elim (cases_eq i k) [ inl q ↦ forward q (ap (λ p. has (row rs p) j) (sym q) ∙ h) | inr q ↦ before (c.all i j (ahead (omega arith) h)) ]
        back i j (behind lt h) = elim (cases_eq j k) [ inl q ↦ backward q (ap (λ p. has (row rs p) i) (sym q) ∙ h) | inr q ↦ before (c.all i j (behind (omega arith) h)) ]

        all : (i j : ℕ) → Noted rs (k + 1) i j → Has (row (opposed m.conflicts k (row rs k)) i) j
        all i j n =
            opposed_has m.conflicts k (row rs k) (present_limit m v k here) (f.foreign k) i j
            (omega (arith, (both_below (k + 1) i j n).0, v.rows, size_is)) (back i j n)

  -- ---- after the last record

  module _ (m : SheetModel) (c : Closing e m rs (length rs)) (v : Formed m) where
    abbrev d : Draft
    d = record { clauses = e.clauses; records = rs }

    clash_from : (i j : ℕ) → Noted rs (length rs) i j → clash d i j ≡ true
    clash_from i j (ahead lt h) = or_left (has (row rs i) j) (has (row rs j) i) h
    clash_from i j (behind lt h) = or_right (has (row rs i) j) (has (row rs j) i) h

    from_clash : (i j : ℕ) → clash d i j ≡ true → Noted rs (length rs) i j
    from_clash i j h = elim (or_cases (has (row rs i) j) (has (row rs j) i) h) [ inl g ↦ ahead (noted_below rs i j g) g | inr g ↦ behind (noted_below rs j i g) g ]

    pub closed_both : (i j : ℕ) → has (row m.conflicts i) j ≡ clash d i j
    closed_both i j = go (cases_Bool (has (row m.conflicts i) j)) (cases_Bool (clash d i j))
      where
        go : (has (row m.conflicts i) j ≡ true) ⊎ (has (row m.conflicts i) j ≡ false) → (clash d i j ≡ true) ⊎ (clash d i j ≡ false) → has (row m.conflicts i) j ≡ clash d i j
        go (inl h) t = h ∙ sym (clash_from i j (c.from i j h))
        go (inr h) (inl t) = absurd (both_ways (has (row m.conflicts i) j) h (c.all i j (from_clash i j t)))
        go (inr h) (inr t) = h ∙ sym t

    row_is : (i : ℕ) → row m.conflicts i ≡ collect (clash d i) (length rs)
    row_is i =
        sub_antisym (row m.conflicts i) (collect (clash d i) (length rs))
        (λ j h. let n = c.from i j h in has_collect (clash d i) (length rs) j ∙ and_from (ltb j (length rs)) (clash d i j) (lt-ltb j (length rs) (both_below (length rs) i j n).1) (clash_from i j n))
        (λ j h. c.all i j (from_clash i j (and_parts (ltb j (length rs)) (clash d i j) (sym (has_collect (clash d i) (length rs) j) ∙ h)).1))

    pub closed_is : m ≡ closed d
    closed_is =
        let table : m.conflicts ≡ map (closed_row d) (range_with_len 0 (length rs)) =
        fill_by_all (closed_row d) m.conflicts (length rs) 0 (v.rows ∙ ap (λ x. x.size) c.same ∙ sym f.counted) (λ i lt. row_is i) in
        let n : e.size ≡ length rs = sym f.counted in
        let p : e.present ≡ below (length rs) = f.whole ∙ ap below n in
        c.same ∙ cc
