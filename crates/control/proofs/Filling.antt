-- Filling a catalogue from notes: no call is declined.
use Rattle.std.proofs.Common.{◌≡◌, ℕ, zero, suc, ◌+◌, ◌<◌, true, ltb, List, [], ◌∷◌, ◌++◌, map, length, get_or, take, replicate, Some, None, Ok, sym, ap, ◌∙◌, subst, arith}
use Rattle.std.specs.List.{list_all}
use Rattle.std.proofs.lemmas.List.FromFn.{length-map-range_with_len}
use Rattle.std.proofs.lemmas.List.{length-map, length-replicate, length-take-le, map_more, take_more}
use Rattle.std.proofs.lemmas.Bool.{and_from, and_parts, cond-true, cond-false, lt-ltb, ltb-true, ne_eqb}
use Rattle.sets.specs.Sets.{within, below}
use Rattle.sheets.specs.Limits.{max_clauses}
use Rattle.catalogue.specs.Drafts.{Draft, need_made, clash_made}
use Rattle.texts.specs.Spans.{look_up}
use Rattle.stanzas.specs.Notes.{NeedModel, ClashModel, NotesModel}
use Rattle.stanzas.specs.Sound.{Sound}
use Rattle.control.specs.Grounds.{known, clause_of, record_of, records_of}
use Rattle.control.proofs.Conflicts.{unknown_same, own_same, clash_records}
use Rattle.control.proofs.Meanings.{found_below, known_within}

-- where all the owners are components, so is that of the one at a place
owner_at : {X : Type 0} (owner : X → ℕ) (size : ℕ) (xs : List X) (k : ℕ) (d : X) → list_all (λ x. ltb (owner x) size) xs ≡ true → k < length xs → owner (get_or xs k d) < size
owner_at owner size [] k d h lt = absurd (omega arith)
owner_at owner size (x ∷ xs) zero d h lt = ltb-true (owner x) size (and_parts _ _ h).0
owner_at owner size (x ∷ xs) (suc k) d h lt = owner_at owner size xs k d (and_parts _ _ h).1 (omega arith)

-- ---- clauses

-- with the first k clauses
abbrev pub needs_up_to : NotesModel → ℕ → Draft
needs_up_to n k = record { clauses = map (clause_of n.names) (take k n.needs); records = replicate (length n.names) 0 }

pub need_more : (n : NotesModel) (k : ℕ) (d : NeedModel) → Sound n → k < length n.needs
    → need_made (needs_up_to n k) (get_or n.needs k d).owner (clause_of n.names (get_or n.needs k d)).members ≡ Ok (needs_up_to n (k + 1))
need_more n k d s lt =
    let size : ℕ = length (replicate {A = ℕ} (length n.names) 0) in
    let made : length (replicate {A = ℕ} (length n.names) 0) ≡ length n.names = length-replicate {A = ℕ} (length n.names) 0 in
    let x = get_or n.needs k d in
    let owned = lt-ltb x.owner size (omega (arith, made, owner_at (λ (m : NeedModel). m.owner) (length n.names) n.needs k d s.needs_have_owners lt)) in
    let named = subst (λ (m : ℕ). within (known n.names x.names) (below m) ≡ true) (sym made) (known_within n.names x.names) in
    let room = lt-ltb (length (map (clause_of n.names) (take k n.needs))) max_clauses
    (omega (arith, length-map (take k n.needs) (clause_of n.names), length-take-le k n.needs (omega arith), s.room)) in
    cond-true _ _ _ (and_from _ _ owned named) ∙ cond-true _ _ _ room ∙ ap (λ cs. Ok (record { clauses = cs; records = replicate (length n.names) 0 })) (sym (map_more (clause_of n.names) n.needs k d lt))

-- ---- conflicts

-- with all the clauses and the first k conflicts
abbrev pub clashes_up_to : NotesModel → ℕ → Draft
clashes_up_to n k = record { clauses = map (clause_of n.names) n.needs; records = records_of n.names (take k n.clashes) }

module _ (n : NotesModel) (k : ℕ) (d : ClashModel) (s : Sound n) (lt : k < length n.clashes) where
  abbrev x : ClashModel
  x = get_or n.clashes k d

  abbrev related : List ℕ → Draft
  related rs = record { clauses = map (clause_of n.names) n.needs; records = rs }

  -- with one conflict more
  more : clashes_up_to n (k + 1) ≡ related (records_of n.names (take k n.clashes ++ x ∷ []))
  more = ap (λ cs. related (records_of n.names cs)) (take_more n.clashes k d lt)

  pub clash_unknown : None ≡ look_up 0 n.names x.name → clashes_up_to n k ≡ clashes_up_to n (k + 1)
  clash_unknown e = sym (more ∙ ap related (unknown_same n.names (take k n.clashes) x e))

  pub clash_own : (q : ℕ) → Some q ≡ look_up 0 n.names x.name → q ≡ x.owner → clashes_up_to n k ≡ clashes_up_to n (k + 1)
  clash_own q e o = sym (more ∙ ap related (own_same n.names (take k n.clashes) x (ap Some (sym o) ∙ e)))

  pub clash_more : (q : ℕ) → Some q ≡ look_up 0 n.names x.name → (q ≡ x.owner → ⊥) → clash_made (clashes_up_to n k) x.owner q ≡ Ok (clashes_up_to n (k + 1))
  clash_more q e o =
      let cs = take k n.clashes in
      let size = length (records_of n.names cs) in
      let made : size ≡ length n.names = length-map-range_with_len (record_of n.names cs) 0 (length n.names) in
      let there = found_below n.names x.name q e in
      let own = owner_at (λ (m : ClashModel). m.owner) (length n.names) n.clashes k d s.clashes_have_owners lt in
      cond-true _ _ _ (and_from _ _ (lt-ltb x.owner size (omega (arith, made, own))) (lt-ltb q size (omega (arith, made, there))))
      ∙ cond-false _ _ _ (ne_eqb x.owner q (λ h. o (sym h)))
      ∙ ap (λ rs. Ok (related rs)) (clash_records n.names cs x q e there s.few (λ h. o (sym h)) own)
      ∙ ap Ok (sym more)
