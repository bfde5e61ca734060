-- Stretches of a text, and of its front.
use Rattle.std.proofs.Common.{◌≡◌, ℕ, ◌+◌, ◌-◌, ◌≤◌, min, List, length, take, drop, sym, ap, ◌∙◌, arith, ⊎_elim}
use Rattle.std.proofs.lemmas.List.{take-take, drop-take, take_all, drop_all, length-drop}
use Rattle.std.proofs.lemmas.Bool.{cases_lt}

-- what is behind a place that is cut off at the end of the text
pub behind : (s : List ℕ) (at m : ℕ) → m ≡ min at (length s) → take (length s - m) (drop m s) ≡ drop at s
behind s at m is =
    take_all (length s - m) (drop m s) (omega (arith, length-drop m s))
    ∙ ⊎_elim
    (λ lt. let e : m ≡ at = omega arith in ap (λ k. drop k s) e)
    (λ past. drop_all m s (omega arith) ∙ sym (drop_all at s past))
    (cases_lt at (length s))

-- the front of a text has the same bytes as the text, up to its end
pub front_stretch : (s : List ℕ) (a b e : ℕ) → b ≤ e → a ≤ e → take (b - a) (drop a (take e s)) ≡ take (b - a) (drop a s)
front_stretch s a b e h g =
    let n : e ≡ a + (e - a) = omega arith in
    ap (λ k. take (b - a) (drop a (take k s))) n ∙ ap (take (b - a)) (drop-take a (e - a) s) ∙ take-take (b - a) (e - a) (drop a s) (omega arith)
