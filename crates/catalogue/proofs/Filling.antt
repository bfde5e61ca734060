-- What an open catalogue keeps as it is filled.
use Rattle.std.proofs.Common.{◌≡◌, ℕ, zero, suc, ◌+◌, ◌^◌, ◌<◌, ◌≤◌, Bool, true, false, cond, ◌&&◌, ◌||◌, eqb, ltb, ◌⊎◌, List, [], ◌∷◌, ◌++◌, length, set, Ok, Err, Result, sym, refl, ap, ◌∙◌, subst, ap₂, inl, inr, arith}
use lib.Bits.{bit_or}
use Rattle.std.proofs.lemmas.List.{get_or-set_same, get_or-set_other, length-set, length_push}
use Rattle.std.proofs.lemmas.Bool.{cases_eq, cases_lt, cases_order, lt-ltb, eqb-true, ne_eqb, or_cases, or_from, and_parts, and_from, and_left}
use Rattle.std.proofs.lemmas.Bool.Decides.{nat_tests}
use Rattle.sets.specs.Limit.{limit}
use Rattle.sets.specs.Sets.{has, Has, within, with_member, below}
use Rattle.sets.proofs.Membership.{has_or, has_single, has_empty, has_with, has_below_all, same_members}
use Rattle.sets.proofs.Order.{decides_sub, sub_none, sub_or_left}
use Rattle.refusals.specs.declared.Refusal.{Refusal}
use Rattle.refusals.specs.declared.Refusal.TheVariants.{TableFull, NoComponent}
use Rattle.sheets.specs.Changes.{Goes, blank, grown, with_clauses, clause_added}
use Rattle.sheets.specs.Limits.{max_clauses}
use Rattle.sheets.specs.Sheets.{SheetModel, Formed}
use Rattle.sheets.specs.declared.clause.Clause.{Clause}
use Rattle.sheets.proofs.Forms.{within_more, blank_rows, row_grown}
use Rattle.catalogue.specs.Drafts.{Draft, Kept, is_made, need_made}
use Rattle.catalogue.specs.Notes.{Filled}
use Rattle.sheets.specs.Clauses.{row, Owned, Known, Among, Irreflexive}

-- ---- no component yet

blank_noted : (p : ℕ) → row [] p ≡ 0
blank_noted zero = refl
blank_noted (suc p) = refl

none_known : (present s : ℕ) → s ≡ 0 → within s present ≡ true
none_known present s e = subst (λ t. within t present ≡ true) (sym e) ((decides_sub 0 present).1 (sub_none present))

pub filled_blank : Filled blank []
unfolding below
filled_blank = record {
  counted = refl;
  whole = refl;
  unopposed = blank_rows;
  known = λ p. none_known 0 (row [] p) (blank_noted p);
  foreign = λ p. ap (λ s. has s p) (blank_noted p) ∙ has_empty p;
}

-- ---- one component more

noted_grown : (rs : List ℕ) (r : ℕ) → r ≡ 0 → (p : ℕ) → row (rs ++ r ∷ []) p ≡ row rs p
noted_grown [] r e zero = e
noted_grown [] r e (suc p) = blank_noted p
noted_grown (x ∷ rs) r e zero = refl
noted_grown (x ∷ rs) r e (suc p) = noted_grown rs r e p

-- all below n + 1
below_more : (n : ℕ) → n < limit → bit_or (below n) (2 ^ n) ≡ below (n + 1)
below_more n lt =
    same_members (bit_or (below n) (2 ^ n)) (below (n + 1))
    (λ i. has_or (below n) (2 ^ n) i ∙ ap₂ ◌||◌ (has_below_all n i) (has_single n i) ∙ ways i ∙ sym (has_below_all (n + 1) i))
  where
    ways : (i : ℕ) → ((ltb i n && ltb i limit) || eqb i n) ≡ (ltb i (n + 1) && ltb i limit)
    ways i = elim (cases_order i n) [ inl e ↦ grind (arith, nat_tests) | inr o ↦ elim o [ inl l ↦ grind (arith, nat_tests) | inr l ↦ grind (arith, nat_tests) ] ]

pub filled_grown : (m : SheetModel) (rs : List ℕ) (r : ℕ) → r ≡ 0 → m.size < limit → Filled m rs → Filled (grown m) (rs ++ r ∷ [])
filled_grown m rs r e lt f = record {
  counted = length_push rs r ∙ ap (λ n. n + 1) f.counted;
  whole = ap (λ s. bit_or s (2 ^ m.size)) f.whole ∙ below_more m.size lt;
  unopposed = λ i. row_grown m.conflicts i ∙ f.unopposed i;
  known = λ p. subst (λ s. within s (grown m).present ≡ true) (sym (noted_grown rs r e p)) (within_more (row rs p) m.present (grown m).present (sub_or_left m.present (2 ^ m.size)) (f.known p));
  foreign = λ p. ap (λ s. has s p) (noted_grown rs r e p) ∙ f.foreign p;
}

-- ---- one clause more

module _ (m n : SheetModel) (rs : List ℕ) (p : ℕ) (qs : ℕ) (r : Result (Unit {0}) Refusal) (f : Filled m rs) (small : m.size ≤ limit)
    (goes : Goes (clause_added m (record { owner = p; members = qs })) tt r m n) where
  abbrev told : Bool
  told = has m.present p && within qs m.present

  abbrev room : Bool
  room = ltb (length m.clauses) max_clauses

  abbrev longer : List Clause
  longer = m.clauses ++ (record { owner = p; members = qs }) ∷ []

  abbrev drafted : List Clause → Draft
  drafted cs = record { clauses = cs; records = rs }

  -- which numbers were made
  made : told ≡ (is_made (drafted m.clauses) p && within qs (below (length rs)))
  made =
      ap (λ s. has s p && within qs s) present_is
      ∙ ap (λ t. t && within qs (below (length rs))) (has_below_all (length rs) p ∙ inside (cases_lt p (length rs)))
    where
      present_is : m.present ≡ below (length rs)
      present_is = f.whole ∙ ap below (sym f.counted)

      inside : (p < length rs) ⊎ (length rs ≤ p) → (ltb p (length rs) && ltb p limit) ≡ ltb p (length rs)
      inside (inl lt) = let q : p < limit = omega (arith, f.counted) in grind (arith, nat_tests)
      inside (inr le) = grind (arith, nat_tests)

  pub filled_clause : Filled n rs
  filled_clause = go told room goes
    where
      go : (t k : Bool) → Goes (cond t (cond k (Ok (with_clauses m longer)) (Err TableFull)) (Err NoComponent)) tt r m n → Filled n rs
      go true true g = subst (λ x. Filled x rs) (sym g.1) (record { counted = f.counted; whole = f.whole; unopposed = f.unopposed; known = f.known; foreign = f.foreign })
      go true false g = subst (λ x. Filled x rs) (sym g.1) f
      go false k g = subst (λ x. Filled x rs) (sym g.1) f

  pub need_goes : Goes (need_made (drafted m.clauses) p qs) tt r (drafted m.clauses) (drafted n.clauses)
  need_goes = subst (λ t. After t room) made (go told room goes)
    where
      After : Bool → Bool → Type 0
      After t k =
          Goes (cond t (cond k (Ok (drafted longer)) (Err TableFull)) (Err NoComponent)) tt r (drafted m.clauses) (drafted n.clauses)

      go : (t k : Bool) → Goes (cond t (cond k (Ok (with_clauses m longer)) (Err TableFull)) (Err NoComponent)) tt r m n → After t k
      go true true g = (g.0, ap (λ x. drafted x.clauses) g.1)
      go true false g = (g.0, ap (λ x. drafted x.clauses) g.1)
      go false k g = (g.0, ap (λ x. drafted x.clauses) g.1)

-- ---- one clash more

noted_at : (rs : List ℕ) (p : ℕ) (r : ℕ) → p < length rs → row (set rs p r) p ≡ r
noted_at rs p r lt = ap (λ (x : ℕ). x) (get_or-set_same rs p r 0 lt)

noted_other : (rs : List ℕ) (p i : ℕ) (r : ℕ) → (i ≡ p → ⊥) → row (set rs p r) i ≡ row rs i
noted_other rs p i r n = ap (λ (x : ℕ). x) (get_or-set_other rs p i r 0 n)

pub filled_clash : (m : SheetModel) (rs : List ℕ) (p q : ℕ) (r : ℕ) → p < length rs → q < length rs → (p ≡ q → ⊥) → m.size ≤ limit
    → r ≡ with_member (row rs p) q → Filled m rs → Filled m (set rs p r)
filled_clash m rs p q r lp lq ne small e f = record {
  counted = length-set rs p r ∙ f.counted;
  whole = f.whole;
  unopposed = f.unopposed;
  known = λ i. elim (cases_eq i p) [
    | inl h ↦ subst (λ s. within s m.present ≡ true) (sym (at i h)) ((decides_sub (with_member (row rs p) q) m.present).1 (λ j g. elim (or_cases (has (row rs p) j) _ (sym (has_with (row rs p) q j) ∙ g)) [
      | inl o ↦ (decides_sub (row rs p) m.present).0 (f.known p) j o
      | inr o ↦ there j (eqb-true j q (and_parts (eqb j q) (ltb j limit) o).0)
    ]))
    | inr h ↦ subst (λ s. within s m.present ≡ true) (sym (noted_other rs p i r h)) (f.known i)
  ];
  foreign = λ i. elim (cases_eq i p) [
    | inl h ↦ ap (λ s. has s i) (at i h) ∙ has_with (row rs p) q i ∙ or_from (has (row rs p) i) _ (ap (has (row rs p)) h ∙ f.foreign p) (and_left (eqb i q) (ltb i limit) (ne_eqb i q (λ g. ne (sym h ∙ g))))
    | inr h ↦ ap (λ s. has s i) (noted_other rs p i r h) ∙ f.foreign i
  ];
}
  where
    at : (i : ℕ) → i ≡ p → row (set rs p r) i ≡ with_member (row rs p) q
    at i h = ap (row (set rs p r)) h ∙ noted_at rs p r lp ∙ e

    there : (j : ℕ) → j ≡ q → Has m.present j
    there j h =
        ap (λ s. has s j) f.whole ∙ has_below_all m.size j
        ∙ and_from (ltb j m.size) (ltb j limit) (lt-ltb j m.size (omega (arith, f.counted))) (lt-ltb j limit (omega (arith, f.counted)))

-- ---- what a draft keeps

-- what holds of the records, and of how many clauses there are, whatever the clauses name
pub record KeptRecords (d : Draft) : Type 0 where
  pub few : length d.records ≤ limit
  pub room : length d.clauses ≤ max_clauses
  pub known : Among (below (length d.records)) d.records
  pub foreign : Irreflexive d.records

module _ (m : SheetModel) (rs : List ℕ) where
  all : Filled m rs → m.present ≡ below (length rs)
  all f = f.whole ∙ ap below (sym f.counted)

  pub kept : m.size ≤ limit → length m.clauses ≤ max_clauses → Filled m rs → KeptRecords (record { clauses = m.clauses; records = rs })
  kept small few f = record {
    few = omega (arith, f.counted);
    room = few;
    known = subst (λ (present : ℕ). Among present rs) (all f) f.known;
    foreign = f.foreign;
  }

  -- where the sheet is formed, what its clauses name was made as well
  pub kept_whole : Formed m → Filled m rs → Kept (record { clauses = m.clauses; records = rs })
  kept_whole w f =
      let k = kept w.small w.few f in record {
        few = k.few;
        room = k.room;
        owners = subst (λ (present : ℕ). Owned present m.clauses) (all f) w.owned;
        members = subst (λ (present : ℕ). Known present m.clauses) (all f) w.known;
        known = k.known;
        foreign = k.foreign;
      }
