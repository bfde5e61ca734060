-- The records, one conflict after the other.
use Rattle.std.proofs.Common.{◌≡◌, ℕ, ◌<◌, ◌≤◌, Bool, false, not, ◌&&◌, ◌||◌, eqb, ltb, ◌⊎◌, List, [], ◌∷◌, ◌++◌, map, length, get_or, set, replicate, Some, None, sym, ap, ◌∙◌, inl, inr, arith}
use Rattle.std.specs.List.{range_with_len}
use Rattle.std.proofs.lemmas.List.FromFn.{length-map-range_with_len, get_or-map-range_with_len, fill_by_all}
use Rattle.std.proofs.lemmas.List.{get_or-set_same, get_or-set_other, get_or-replicate, length-set, length-replicate}
use Rattle.std.proofs.lemmas.Bool.{cases_eq, ne_eqb}
use Rattle.std.proofs.lemmas.Bool.Decides.{nat_tests}
use Rattle.sets.specs.Limit.{limit}
use Rattle.sets.specs.Sets.{with_member, collect}
use Rattle.sets.proofs.Membership.{has_with, has_collect, no_members, same_members}
use Rattle.sheets.specs.Clauses.{row}
use Rattle.texts.specs.Spans.{look_up}
use Rattle.stanzas.specs.Notes.{ClashModel}
use Rattle.control.specs.Grounds.{is_found, against, opposes, record_of, records_of}

against_push : (names : List (List ℕ)) (cs : List ClashModel) (c : ClashModel) (i j : ℕ) → against names (cs ++ c ∷ []) i j ≡ (against names cs i j || (eqb c.owner i && is_found (look_up 0 names c.name) j))
against_push names [] c i j = ways (eqb c.owner i && is_found (look_up 0 names c.name) j)
  where
    ways : (b : Bool) → (b || false) ≡ (false || b)
    ways b = grind arith
against_push names (d ∷ cs) c i j =
    let here = eqb d.owner i && is_found (look_up 0 names d.name) j in
    ap (λ t. here || t) (against_push names cs c i j) ∙ ways here (against names cs i j) (eqb c.owner i && is_found (look_up 0 names c.name) j)
  where
    ways : (a b c : Bool) → (a || (b || c)) ≡ ((a || b) || c)
    ways a b c = grind arith

-- ---- conflicts that say nothing

same_records : (names : List (List ℕ)) (cs ds : List ClashModel) → ((i j : ℕ) → opposes names cs i j ≡ opposes names ds i j) → records_of names cs ≡ records_of names ds
same_records names cs ds h = λ k. map (λ i. collect (λ j. h i j k) (length names)) (range_with_len 0 (length names))

module _ (names : List (List ℕ)) (cs : List ClashModel) (c : ClashModel) where
  pub unknown_same : None ≡ look_up 0 names c.name → records_of names (cs ++ c ∷ []) ≡ records_of names cs
  unknown_same e =
      same_records names (cs ++ c ∷ []) cs
      (λ i j. ap (λ t. not (eqb i j) && t) (against_push names cs c i j ∙ ap (λ f. against names cs i j || (eqb c.owner i && is_found f j)) (sym e) ∙ ways (against names cs i j) (eqb c.owner i)))
    where
      ways : (a b : Bool) → (a || (b && false)) ≡ a
      ways a b = grind arith

  pub own_same : Some c.owner ≡ look_up 0 names c.name → records_of names (cs ++ c ∷ []) ≡ records_of names cs
  own_same e =
      same_records names (cs ++ c ∷ []) cs
      (λ i j. ap (λ t. not (eqb i j) && t) (against_push names cs c i j ∙ ap (λ f. against names cs i j || (eqb c.owner i && is_found f j)) (sym e)) ∙ ways (against names cs i j) c.owner i j)
    where
      ways : (a : Bool) (o i j : ℕ) → (not (eqb i j) && (a || (eqb o i && eqb o j))) ≡ (not (eqb i j) && a)
      ways a o i j = grind (arith, nat_tests)

  -- ---- a conflict with another component

  module _ (q : ℕ) (found : Some q ≡ look_up 0 names c.name) (below : q < length names) (few : length names ≤ limit) (other : c.owner ≡ q → ⊥) where
    told : (i j : ℕ) → opposes names (cs ++ c ∷ []) i j ≡ (not (eqb i j) && (against names cs i j || (eqb c.owner i && eqb q j)))
    told i j = ap (λ t. not (eqb i j) && t) (against_push names cs c i j ∙ ap (λ f. against names cs i j || (eqb c.owner i && is_found f j)) (sym found))

    pub here : record_of names (cs ++ c ∷ []) c.owner ≡ with_member (record_of names cs c.owner) q
    here =
        same_members _ _
        (λ j. has_collect (opposes names (cs ++ c ∷ []) c.owner) (length names) j
        ∙ ap (λ t. ltb j (length names) && t) (told c.owner j)
        ∙ ways (against names cs c.owner j) c.owner j other (cases_eq j q)
        ∙ sym (has_with (collect (opposes names cs c.owner) (length names)) q j ∙ ap (λ t. t || (eqb j q && ltb j limit)) (has_collect (opposes names cs c.owner) (length names) j)))
      where
        ways : (a : Bool) (o j : ℕ) → (o ≡ q → ⊥) → (j ≡ q) ⊎ (j ≡ q → ⊥)
            → (ltb j (length names) && (not (eqb o j) && (a || (eqb o o && eqb q j)))) ≡ ((ltb j (length names) && (not (eqb o j) && a)) || (eqb j q && ltb j limit))
        ways a o j ne (inl e) = grind (arith, nat_tests)
        ways a o j ne (inr n) = grind (arith, nat_tests)

    there : (i : ℕ) → (i ≡ c.owner → ⊥) → record_of names cs i ≡ record_of names (cs ++ c ∷ []) i
    there i ne = λ k. collect (λ j. sym (told i j ∙ ap (λ t. not (eqb i j) && t) (ways (against names cs i j) (eqb q j) (ne_eqb c.owner i (λ e. ne (sym e))))) k) (length names)
      where
        ways : (a b : Bool) {t : Bool} → t ≡ false → (a || (t && b)) ≡ a
        ways a b e = grind arith

    -- the owner's record with the conflict in it
    pub clash_records : c.owner < length names → set (records_of names cs) c.owner (with_member (row (records_of names cs) c.owner) q) ≡ records_of names (cs ++ c ∷ [])
    clash_records lt =
        fill_by_all (record_of names (cs ++ c ∷ [])) (set rs c.owner new) (length names) 0 (length-set rs c.owner new ∙ length-map-range_with_len (record_of names cs) 0 (length names))
        (λ i h. ways i h (cases_eq i c.owner))
      where
        rs : List ℕ
        rs = records_of names cs

        new : ℕ
        new = with_member (row (records_of names cs) c.owner) q

        old : (i : ℕ) → i < length names → get_or (records_of names cs) i 0 ≡ record_of names cs i
        old i h = get_or-map-range_with_len (record_of names cs) 0 (length names) i i 0 h (omega arith)

        ways : (i : ℕ) → i < length names → (i ≡ c.owner) ⊎ (i ≡ c.owner → ⊥) → get_or (set (records_of names cs) c.owner (with_member (row (records_of names cs) c.owner) q)) i 0 ≡ record_of names (cs ++ c ∷ []) i
        ways i h (inl e) =
            ap (λ k. get_or (set (records_of names cs) c.owner (with_member (row (records_of names cs) c.owner) q)) k 0) e
            ∙ get_or-set_same (records_of names cs) c.owner _ 0 (omega (arith, length-map-range_with_len (record_of names cs) 0 (length names)))
            ∙ (ap (λ r. with_member r q) (old c.owner lt) ∙ sym here)
            ∙ ap (record_of names (cs ++ c ∷ [])) (sym e)
        ways i h (inr n) = get_or-set_other (records_of names cs) c.owner i _ 0 n ∙ old i h ∙ there i n

-- ---- no conflicts yet

pub none_opposed : (names : List (List ℕ)) → replicate (length names) 0 ≡ records_of names []
none_opposed names =
    fill_by_all (record_of names []) (replicate (length names) 0) (length names) 0 (length-replicate (length names) 0)
    (λ i h. get_or-replicate (length names) i 0 0 h ∙ sym (none i))
  where
    ways : (a b : Bool) → (a && (b && false)) ≡ false
    ways a b = grind arith

    none : (i : ℕ) → record_of names [] i ≡ 0
    none i = no_members _ (λ j. has_collect (opposes names [] i) (length names) j ∙ ways (ltb j (length names)) (not (eqb i j)))
