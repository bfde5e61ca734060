-- How notes grow by a clause or by conflicts.
use Rattle.std.proofs.Common.{◌≡◌, ℕ, ◌-◌, ◌<◌, List, [], ◌∷◌, ◌++◌, map, length, Ok, vec_items, sym, ap, ◌∙◌, arith}
use Rattle.std.proofs.lemmas.List.{length-map, map_push, map-append}
use Rattle.std.proofs.lemmas.Simd.{map-map}
use Rattle.std.proofs.lemmas.Bool.{lt-ltb, cond-true}
use Rattle.sheets.specs.Limits.{max_clauses}
use Rattle.texts.specs.Spans.{stretch}
use Rattle.texts.specs.declared.spans.Span.{Span}
use Rattle.stanzas.specs.Tokens.{Mention}
use Rattle.stanzas.specs.Spans.{mention}
use Rattle.stanzas.specs.Notes.{NotesModel, owner_of, added}
use Rattle.stanzas.specs.Views.{need_of, clash_of, clash_with, said_of}
use Rattle.stanzas.specs.declared.lines.Relation.TheVariants.{Depends, Conflicts}
use Rattle.stanzas.specs.declared.notes.Need.{Need}
use Rattle.stanzas.specs.declared.notes.Clash.{Clash}
use Rattle.stanzas.specs.declared.notes.OpenNotes.{OpenNotes}

names_of : (text : List ℕ) (ns : List Span) → map (λ m. m.name) (map (mention text) ns) ≡ map (stretch text) ns
names_of text ns = map-map (λ (m : Mention). m.name) (mention text) ns

clashes_of : (text : List ℕ) (p : ℕ) (ns : List Span) → map (λ m. record { owner = p; name = m.name }) (map (mention text) ns) ≡ map (clash_of text) (map (clash_with p) ns)
clashes_of text p ns = map-map (λ (m : Mention). record { owner = p; name = m.name }) (mention text) ns ∙ sym (map-map (clash_of text) (clash_with p) ns)

module _ (n : OpenNotes) (clause : List Span) where
  abbrev text : List ℕ
  text = n.text.now

  abbrev m : NotesModel
  m = said_of n

  pub many_names : length m.names ≡ length (vec_items n.notes.names)
  many_names = length-map (vec_items n.notes.names) (stretch text)

  pub need_added : length (vec_items n.notes.needs) < max_clauses → (x : Need) → x.owner ≡ length (vec_items n.notes.names) - 1 → vec_items x.names ≡ clause → (xs : List Need) → xs ≡ vec_items n.notes.needs ++ x ∷ [] → added Depends m (map (mention text) clause) ≡ Ok (record { names = m.names; needs = map (need_of text) xs; clashes = m.clashes; stanza = m.stanza })
  need_added h x o c xs e =
      let owns : x.owner ≡ owner_of m = o ∙ ap (λ k. k - 1) (sym many_names) in
      let said : need_of text x ≡ record { owner = owner_of m; names = map (λ k. k.name) (map (mention text) clause) } = λ i. record { owner = owns i; names = (ap (map (stretch text)) c ∙ sym (names_of text clause)) i } in
      cond-true _ _ _ (lt-ltb (length m.needs) max_clauses (omega (arith, length-map (vec_items n.notes.needs) (need_of text))))
      ∙ ap (λ l. Ok (record { names = m.names; needs = l; clashes = m.clashes; stanza = m.stanza })) (sym (ap (map (need_of text)) e ∙ map_push (need_of text) (vec_items n.notes.needs) x ∙ ap (λ y. m.needs ++ y ∷ []) said))

  pub clashes_added : (p : ℕ) → p ≡ length (vec_items n.notes.names) - 1 → (xs : List Clash) → xs ≡ vec_items n.notes.clashes ++ map (clash_with p) clause → added Conflicts m (map (mention text) clause) ≡ Ok (record { names = m.names; needs = m.needs; clashes = map (clash_of text) xs; stanza = m.stanza })
  clashes_added p o xs e =
      let owns : owner_of m ≡ p = ap (λ k. k - 1) many_names ∙ sym o in
      ap (λ l. Ok (record { names = m.names; needs = m.needs; clashes = l; stanza = m.stanza }))
      (ap (λ k. m.clashes ++ map (λ y. record { owner = k; name = y.name }) (map (mention text) clause)) owns
      ∙ ap (λ l. m.clashes ++ l) (clashes_of text p clause)
      ∙ sym (ap (map (clash_of text)) e ∙ map-append (clash_of text) (vec_items n.notes.clashes) (map (clash_with p) clause)))
