-- How a cursor goes from token to token.
use Rattle.std.proofs.Common.{◌≡◌, ℕ, ◌+◌, ◌-◌, ◌<◌, ◌≤◌, true, false, eqb, leb, ◌⊎◌, List, [], ◌∷◌, ◌++◌, length, get_or, take, drop, Some, None, Ok, sym, refl, ap, ◌∙◌, subst, inl, inr, ⊎_elim, arith}
use Rattle.std.specs.List.{prefix_len}
use Rattle.std.proofs.lemmas.List.{at_drop_more, at_drop_all, drop_more, drop-drop, get_or-drop, length-drop}
use Rattle.std.proofs.lemmas.List.Sums.{prefix_len-drop_yes, prefix_len_stops}
use Rattle.std.proofs.lemmas.Bool.{cases_Bool, cases_lt, both_ways, eqb-true, eq-eqb, lt-leb, le-leb, cond-true, cond-false}
use Rattle.texts.specs.Bytes.{blank, in_run, good}
use Rattle.stanzas.specs.Tokens.{Token, Named, Comma, Bar, run, named, tokens}
use Rattle.stanzas.specs.Notes.{and_then, added}
use Rattle.stanzas.specs.Values.{bars, listed, related}
use Rattle.stanzas.specs.Cursors.{rest, end, token_of, Took, SeparatorRead, Begins, Begun}
use Rattle.stanzas.specs.declared.cursor.Cursor.{Cursor}
use Rattle.stanzas.specs.declared.cursor.Lexeme.{Lexeme}
use Rattle.stanzas.specs.declared.cursor.Lexeme.TheVariants as lexeme
use Rattle.stanzas.specs.declared.cursor.Separator.TheVariants as separator
use Rattle.stanzas.specs.declared.lines.Relation.{Relation}
use Rattle.stanzas.proofs.Tokens.{at_comma, at_bar, at_run, run_from, run_skips, blanks_skip}

abbrev pub moved : Cursor → ℕ → Cursor
moved a at = record { text = a.text; at = at }

module _ (a : Cursor) (at : ℕ) (blanks : at ≡ a.at + prefix_len blank (drop a.at a.text.now)) where
  abbrev text : List ℕ
  text = a.text.now

  skipped : rest a ≡ tokens false at (drop at text)
  skipped =
      let s = drop a.at text in
      blanks_skip a.at s ∙ ap (tokens false (a.at + prefix_len blank s)) (drop-drop (prefix_len blank s) a.at text) ∙ ap (λ k. tokens false k (drop k text)) (sym blanks)

  none : length text ≤ at → rest a ≡ []
  none past = skipped ∙ at_drop_all (tokens false at) text at past

  pub took_none : length text ≤ at → Took None a (moved a at)
  took_none past = record { text = refl; reads = (none past, at_drop_all (tokens false at) text at past) }

  module _ (lt : at < length text) where
    abbrev byte : ℕ
    byte = get_or text at 0

    pub took_comma : byte ≡ 44 → Took (Some (lexeme.Comma at)) a (moved a (at + 1))
    took_comma e = record { text = refl; reads = (skipped ∙ at_drop_more (tokens false at) text at 0 lt ∙ at_comma false at byte (drop (at + 1) text) e, tt) }

    pub took_bar : byte ≡ 124 → Took (Some (lexeme.Bar at)) a (moved a (at + 1))
    took_bar e = record { text = refl; reads = (skipped ∙ at_drop_more (tokens false at) text at 0 lt ∙ at_bar false at byte (drop (at + 1) text) e, tt) }

    solid : blank byte ≡ false
    solid =
        let s = drop a.at text in
        ap (λ k. blank (get_or text k 0)) blanks ∙ ap blank (sym (get_or-drop a.at text (prefix_len blank s) 0)) ∙ prefix_len_stops blank s 0 (omega (arith, length-drop a.at text))

    module _ (no_comma : byte ≡ 44 → ⊥) (no_bar : byte ≡ 124 → ⊥) (end : ℕ) (ends : end ≡ at + prefix_len in_run (drop at text)) where
      long : prefix_len in_run (drop at text) ≡ end - at
      long = omega arith

      word : rest a ≡ named at (run (drop at text)) ∷ rest (moved a end)
      word =
          let front = drop_more text at 0 lt in
          let starts_run = run_from byte solid no_comma no_bar in
          let n = prefix_len in_run (drop (at + 1) text) in
          let more = prefix_len-drop_yes in_run text at 0 lt starts_run in
          let there : at + 1 + n ≡ end = omega (arith, more) in
          skipped ∙ ap (tokens false at) front
          ∙ at_run at byte (drop (at + 1) text) starts_run
          ∙ ap (λ s. named at (run s) ∷ tokens true (at + 1) (drop (at + 1) text)) (sym front)
          ∙ ap (λ ts. named at (run (drop at text)) ∷ ts) (run_skips (at + 1) (drop (at + 1) text) ∙ ap (tokens false (at + 1 + n)) (drop-drop n (at + 1) text) ∙ ap (λ k. tokens false k (drop k text)) there)

      pub took_name : end ≤ length text → good (take (end - at) (drop at text)) ≡ true → Took (Some (lexeme.Name (record { start = at; end = end }))) a (moved a end)
      took_name inside e =
          let same : run (drop at text) ≡ take (end - at) (drop at text) = ap (λ k. take k (drop at text)) long in
          let fits : good (run (drop at text)) ≡ true = ap good same ∙ e in
          record {
            text = refl;
            reads = (word ∙ ap (λ t. t ∷ rest (moved a end)) (cond-true _ _ _ fits ∙ ap (λ n. Named (record { place = at; name = n })) same), inside);
          }

      pub took_misnamed : good (take (end - at) (drop at text)) ≡ false → Took (Some (lexeme.Misnamed at)) a (moved a end)
      took_misnamed e =
          let breaks : good (run (drop at text)) ≡ false = ap (λ k. good (take k (drop at text))) long ∙ e in
          record { text = refl; reads = (word ∙ ap (λ t. t ∷ rest (moved a end)) (cond-false _ _ _ breaks), tt) }

    -- a byte that is no blank begins a token
    some_token : (t : Token) × (ts : List Token) × (rest a ≡ t ∷ ts)
    some_token =
        ⊎_elim
        (λ e. (_, _, (took_comma (eqb-true byte 44 e)).reads.0))
        (λ e.
        ⊎_elim
        (λ f. (_, _, (took_bar (eqb-true byte 124 f)).reads.0))
        (λ f. (_, _, word (λ is. both_ways _ e (eq-eqb byte 44 is)) (λ is. both_ways _ f (eq-eqb byte 124 is)) (at + prefix_len in_run (drop at text)) refl))
        (cases_Bool (eqb byte 124)))
        (cases_Bool (eqb byte 44))

  pub begun : Begun (leb (length text) at) a (moved a at)
  begun = record { text = refl; others = sym skipped; begins = go (cases_lt at (length text)) }
    where
      some : (t : Token) (ts us : List Token) → us ≡ t ∷ ts → Begins false us
      some t ts us e r k n = ap (related r k n) e ∙ sym (ap (listed r k n []) e)

      go : (at < length text) ⊎ (length text ≤ at) → Begins (leb (length text) at) (rest a)
      go (inl lt) = let t = some_token lt in subst (λ q. Begins q (rest a)) (sym (lt-leb _ _ lt)) (some t.0 t.1 (rest a) t.2)
      go (inr le) = subst (λ q. Begins q (rest a)) (sym (le-leb _ _ le)) (none le)

-- ---- what stands after a name

module _ (r : Relation) (a b : Cursor) (t : Lexeme) (took : Took (Some t) a b) where
  pub comma_read : (p : ℕ) → t ≡ lexeme.Comma p → SeparatorRead r (Ok separator.Comma) a b
  comma_read p is =
      let e : rest a ≡ Comma p ∷ rest b = took.reads.0 ∙ ap (λ u. token_of a.text.now u ∷ rest b) is in
      record {
        text = took.text;
        reads = λ n front m. ap (λ ts. listed r (end a) n front (Named m ∷ ts)) e ∙ ap (λ x. and_then (added r n (front ++ m ∷ [])) (λ o. listed r (length x) o [] (rest b))) (sym took.text);
        shorter = omega (arith, ap length e);
      }

  pub bar_read : (p : ℕ) → t ≡ lexeme.Bar p → bars r ≡ true → SeparatorRead r (Ok separator.Bar) a b
  bar_read p is has =
      let e : rest a ≡ Bar p ∷ rest b = took.reads.0 ∙ ap (λ u. token_of a.text.now u ∷ rest b) is in
      record {
        text = took.text;
        reads = λ n front m. ap (λ ts. listed r (end a) n front (Named m ∷ ts)) e ∙ cond-true _ _ _ has ∙ ap (λ x. listed r (length x) n (front ++ m ∷ []) (rest b)) (sym took.text);
        shorter = omega (arith, ap length e);
      }
