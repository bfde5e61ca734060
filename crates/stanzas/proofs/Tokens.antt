-- How the tokens of a value go on from byte to byte.
use Rattle.std.proofs.Common.{◌≡◌, ℕ, suc, ◌+◌, Bool, true, false, ◌||◌, eqb, List, [], ◌∷◌, drop, sym, refl, ap, ◌∙◌, ⊎_elim, add-zero, one-add, arith}
use Rattle.std.specs.List.{prefix_len}
use Rattle.std.proofs.lemmas.Bool.{cases_Bool, eqb-true, or_cases, or_parts, not-true, not-false, or_from, not_from_false, ne_eqb, cond-true, cond-false}
use Rattle.texts.specs.Bytes.{blank, in_run}
use Rattle.stanzas.specs.Tokens.{Comma, Bar, run, named, tokens}

-- ---- at the front of a list of bytes

module _ (inside : Bool) (p b : ℕ) (s : List ℕ) where
  pub at_blank : blank b ≡ true → tokens inside p (b ∷ s) ≡ tokens false (p + 1) s
  at_blank h = ⊎_elim (λ e. rw (eqb-true b 32 e)) (λ e. rw (eqb-true b 9 e)) (or_cases (eqb b 32) (eqb b 9) h)

  pub at_comma : b ≡ 44 → tokens inside p (b ∷ s) ≡ Comma p ∷ tokens false (p + 1) s
  at_comma e = rw e

  pub at_bar : b ≡ 124 → tokens inside p (b ∷ s) ≡ Bar p ∷ tokens false (p + 1) s
  at_bar e = rw e

-- no blank, comma or bar
pub record Solid (b : ℕ) : Type 0 where
  pub space : eqb b 32 ≡ false
  pub tab : eqb b 9 ≡ false
  pub comma : eqb b 44 ≡ false
  pub bar : eqb b 124 ≡ false

pub solid : (b : ℕ) → in_run b ≡ true → Solid b
solid b h =
    let all = or_parts _ _ (not-true _ h) in
    let two = or_parts _ _ all.0 in
    let one = or_parts _ _ two.0 in
    record { space = one.0; tab = one.1; comma = two.1; bar = all.1 }

pub run_from : (b : ℕ) → blank b ≡ false → (b ≡ 44 → ⊥) → (b ≡ 124 → ⊥) → in_run b ≡ true
run_from b h c r = not_from_false _ (or_from _ _ (or_from _ _ h (ne_eqb b 44 c)) (ne_eqb b 124 r))

pub at_run : (p b : ℕ) (s : List ℕ) → in_run b ≡ true → tokens false p (b ∷ s) ≡ named p (run (b ∷ s)) ∷ tokens true (p + 1) s
at_run p b s h = let o = solid b h in simp (o.space, o.tab, o.comma, o.bar)

-- inside a run, the next token begins after it
pub run_skips : (p : ℕ) (s : List ℕ) → tokens true p s ≡ tokens false (p + prefix_len in_run s) (drop (prefix_len in_run s) s)
run_skips p [] = refl
run_skips p (b ∷ s) =
    ⊎_elim
    (λ yes.
    let o = solid b yes in
    let e : p + suc (prefix_len in_run s) ≡ p + 1 + prefix_len in_run s = omega arith in
    simp (o.space, o.tab, o.comma, o.bar, one-add) (rw e (run_skips (p + 1) s)))
    (λ none.
    ⊎_elim
    (λ x.
    ⊎_elim
    (λ y. ⊎_elim (λ e. rw (eqb-true b 32 e, add-zero)) (λ e. rw (eqb-true b 9 e, add-zero)) (or_cases (eqb b 32) (eqb b 9) y))
    (λ e. rw (eqb-true b 44 e, add-zero))
    (or_cases (blank b) (eqb b 44) x))
    (λ e. rw (eqb-true b 124 e, add-zero))
    (or_cases (blank b || eqb b 44) (eqb b 124) (not-false _ none)))
    (cases_Bool (in_run b))

-- blanks before a token do not count
pub blanks_skip : (p : ℕ) (s : List ℕ) → tokens false p s ≡ tokens false (p + prefix_len blank s) (drop (prefix_len blank s) s)
blanks_skip p [] = refl
blanks_skip p (b ∷ s) =
    ⊎_elim
    (λ yes.
    let n : prefix_len blank (b ∷ s) ≡ suc (prefix_len blank s) = cond-true _ _ _ yes ∙ one-add _ in
    let e : p + 1 + prefix_len blank s ≡ p + suc (prefix_len blank s) = omega arith in
    at_blank false p b s yes ∙ blanks_skip (p + 1) s ∙ ap (λ k. tokens false k (drop (prefix_len blank s) s)) e ∙ ap (λ k. tokens false (p + k) (drop k (b ∷ s))) (sym n))
    (λ none. ap (λ k. tokens false k (b ∷ s)) (sym (add-zero p)) ∙ ap (λ k. tokens false (p + k) (drop k (b ∷ s))) (sym (cond-false _ _ _ none)))
    (cases_Bool (blank b))
