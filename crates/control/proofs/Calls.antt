-- The calls that fill a catalogue, in terms of the code's values.
use Rattle.std.proofs.Common.{◌≡◌, ℕ, ◌+◌, ◌<◌, List, [], ◌∷◌, ◌++◌, map, length, get_or, take, Some, None, Ok, vec_items, Option, sym, ap, ◌∙◌, subst, arith}
use Rattle.std.proofs.lemmas.List.{get_or_default, get_or-map, length-map, map_more}
use Rattle.sets.specs.Sets.{with_member}
use Rattle.catalogue.specs.Drafts.{need_made, clash_made}
use Rattle.texts.specs.Spans.{look_up, stretch}
use Rattle.texts.specs.declared.spans.Span.{Span}
use Rattle.stanzas.specs.Notes.{NeedModel, ClashModel, NotesModel}
use Rattle.stanzas.specs.Sound.{Sound}
use Rattle.stanzas.specs.Views.{need_of, clash_of, notes_of}
use Rattle.stanzas.specs.declared.notes.Clash.{Clash}
use Rattle.stanzas.specs.declared.notes.Need.{Need}
use Rattle.stanzas.specs.declared.notes.Notes.{Notes}
use Rattle.control.specs.Grounds.{known, clause_of}
use Rattle.control.proofs.Filling.{needs_up_to, need_more, clashes_up_to, clash_unknown, clash_own, clash_more}
use Rattle.control.proofs.Meanings.{known_found, known_unfound}

-- what stands at a place in notes
at_place : {X Y : Type 0} (f : X → Y) (xs items : List X) (k : ℕ) (x : X) → items ≡ xs → k < length items → x ≡ get_or items k x → get_or (map f xs) k (f x) ≡ f x
at_place f xs items k x same lt is = get_or-map f xs k x (f x) (subst (λ ys. k < length ys) same lt) ∙ ap f (ap (λ ys. get_or ys k x) (sym same) ∙ sym is)

in_place : {X Y : Type 0} (f : X → Y) (xs items : List X) (k : ℕ) → items ≡ xs → k < length items → k < length (map f xs)
in_place f xs items k same lt = omega (arith, length-map xs f, ap length same)

-- one name of a choice more
module _ (text : List ℕ) (names : List (List ℕ)) (choice : List Span) (k : ℕ) (d : Span) (lt : k < length choice) (s : ℕ) (so_far : s ≡ known names (map (stretch text) (take k choice))) where
  more : known names (map (stretch text) (take k choice) ++ stretch text (get_or choice k d) ∷ []) ≡ known names (map (stretch text) (take (k + 1) choice))
  more = ap (known names) (sym (map_more (stretch text) choice k d lt))

  pub member_found : (i : ℕ) → Some i ≡ look_up 0 names (stretch text (get_or choice k d)) → with_member s i ≡ known names (map (stretch text) (take (k + 1) choice))
  member_found i e = known_found names (map (stretch text) (take k choice)) (stretch text (get_or choice k d)) s so_far i e ∙ more

  pub member_unfound : None ≡ look_up 0 names (stretch text (get_or choice k d)) → s ≡ known names (map (stretch text) (take (k + 1) choice))
  member_unfound e = known_unfound names (map (stretch text) (take k choice)) (stretch text (get_or choice k d)) s so_far e ∙ more

-- one clause or conflict more
module _ (text : List ℕ) (notes : Notes) (s : Sound (notes_of text notes)) (k : ℕ) where
  abbrev n : NotesModel
  n = notes_of text notes

  pub need_call : (items : List Need) (x : Need) → items ≡ vec_items notes.needs → k < length items → x ≡ get_or items k x
      → (choice : List Span) (members : ℕ) → choice ≡ vec_items x.names → members ≡ known n.names (map (stretch text) choice)
      → need_made (needs_up_to n k) x.owner members ≡ Ok (needs_up_to n (k + 1))
  need_call items x same lt is choice members chosen meant =
      let here = at_place (need_of text) (vec_items notes.needs) items k x same lt is in
      let bits = meant ∙ ap (λ (cs : List Span). known n.names (map (stretch text) cs)) chosen in
      ap (λ (b : ℕ). need_made (needs_up_to n k) x.owner b) bits
      ∙ ap (λ (y : NeedModel). need_made (needs_up_to n k) y.owner (clause_of n.names y).members) (sym here)
      ∙ need_more n k (need_of text x) s (in_place (need_of text) (vec_items notes.needs) items k same lt)

  module _ (items : List Clash) (d : Clash) (same : items ≡ vec_items notes.clashes) (lt : k < length items) where
    abbrev x : Clash
    x = get_or items k d

    module _ (o : Option ℕ) (found : o ≡ look_up 0 n.names (stretch text x.name)) where
      here : get_or n.clashes k (clash_of text x) ≡ clash_of text x
      here = at_place (clash_of text) (vec_items notes.clashes) items k x same lt (get_or_default items k d x lt)

      within : k < length n.clashes
      within = in_place (clash_of text) (vec_items notes.clashes) items k same lt

      look : o ≡ look_up 0 n.names (get_or n.clashes k (clash_of text x)).name
      look = found ∙ ap (λ (y : ClashModel). look_up 0 n.names y.name) (sym here)

      pub unknown_call : o ≡ None → clashes_up_to n k ≡ clashes_up_to n (k + 1)
      unknown_call e = clash_unknown n k (clash_of text x) s within (sym e ∙ look)

      pub own_call : (q : ℕ) → o ≡ Some q → q ≡ x.owner → clashes_up_to n k ≡ clashes_up_to n (k + 1)
      own_call q e own = clash_own n k (clash_of text x) s within q (sym e ∙ look) (own ∙ ap (λ (y : ClashModel). y.owner) (sym here))

      pub clash_call : (q : ℕ) → o ≡ Some q → (q ≡ x.owner → ⊥) → clash_made (clashes_up_to n k) x.owner q ≡ Ok (clashes_up_to n (k + 1))
      clash_call q e other =
          ap (λ (y : ClashModel). clash_made (clashes_up_to n k) y.owner q) (sym here)
          ∙ clash_more n k (clash_of text x) s within q (sym e ∙ look) (λ h. other (h ∙ ap (λ (y : ClashModel). y.owner) here))
