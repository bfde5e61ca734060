-- How the lines of a file go on from line to line, and what a line is.
use Rattle.std.proofs.Common.{◌≡◌, ℕ, suc, ◌+◌, ◌<◌, ◌≤◌, Bool, true, false, cond, ◌&&◌, eqb, List, [], ◌∷◌, length, get_or, take, drop, sym, refl, ap, ◌∙◌, add-zero, arith}
use Rattle.std.specs.List.{prefix_len}
use Rattle.std.proofs.lemmas.List.{drop_more, drop-drop, drop_all, drop-take, get_or_past, length-take}
use Rattle.std.proofs.lemmas.Bool.{and_from, and_left, and_right, eq-eqb, ne_eqb, cond-true, cond-false}
use Rattle.texts.specs.Bytes.{blank, in_line, letter, in_label}
use Rattle.stanzas.specs.Spans.{IsFront}
use Rattle.stanzas.specs.Lines.{first_line, lines, label, field_of, heading_of}
use Rattle.stanzas.specs.declared.lines.Heading.TheVariants.{Continued, Malformed}

-- ---- what a line is

heading_some : (s : List ℕ) → 0 < length s → heading_of s ≡ cond (blank (get_or s 0 0)) Continued (cond (letter (get_or s 0 0) && eqb (get_or s (label s) 0) 58) (field_of (take (label s) s)) Malformed)
heading_some [] h = absurd (omega arith)
heading_some (b ∷ s) h = refl

module _ (s : List ℕ) (n : ℕ) (some : 0 < length s) (is : n ≡ 0 + prefix_len in_label s) (solid : blank (get_or s 0 0) ≡ false) where
  long : n ≡ label s
  long = omega arith

  pub field_heading : letter (get_or s 0 0) ≡ true → get_or s n 0 ≡ 58 → heading_of s ≡ field_of (take n s)
  field_heading a c =
      let colon : eqb (get_or s (label s) 0) 58 ≡ true = eq-eqb _ _ (ap (λ k. get_or s k 0) (sym long) ∙ c) in
      heading_some s some ∙ cond-false _ _ _ solid ∙ cond-true _ _ _ (and_from _ _ a colon) ∙ ap (λ k. field_of (take k s)) (sym long)

  pub malformed_start : letter (get_or s 0 0) ≡ false → heading_of s ≡ Malformed
  malformed_start a = heading_some s some ∙ cond-false _ _ _ solid ∙ cond-false _ _ _ (and_left _ _ a)

  pub malformed_colon : (get_or s n 0 ≡ 58 → ⊥) → heading_of s ≡ Malformed
  malformed_colon c =
      let colon : eqb (get_or s (label s) 0) 58 ≡ false = ne_eqb _ _ (λ e. c (ap (λ k. get_or s k 0) long ∙ e)) in
      heading_some s some ∙ cond-false _ _ _ solid ∙ cond-false _ _ _ (and_right _ _ colon)

  pub malformed_end : length s ≤ n → heading_of s ≡ Malformed
  malformed_end h = malformed_colon (λ e. let z : ◌≡◌ {A = ℕ} 0 58 = sym (get_or_past s n 0 h) ∙ e in omega arith)

-- ---- from line to line

-- inside a line, the next line begins after the line feed
stepped : (p b : ℕ) (s : List ℕ) (t : Bool) → lines true (p + 1) s ≡ lines false (p + 1 + prefix_len in_line s + 1) (drop (prefix_len in_line s + 1) s) → lines t (p + 1) s ≡ lines false (p + cond t (1 + prefix_len in_line s) 0 + 1) (drop (cond t (1 + prefix_len in_line s) 0 + 1) (b ∷ s))
stepped p b s true h =
    let e : p + (1 + prefix_len in_line s) + 1 ≡ p + 1 + prefix_len in_line s + 1 = omega arith in
    let k : 1 + prefix_len in_line s + 1 ≡ suc (prefix_len in_line s + 1) = omega arith in
    rw (e, k) h
stepped p b s false h = rw add-zero

pub line_skips : (p : ℕ) (s : List ℕ) → lines true p s ≡ lines false (p + prefix_len in_line s + 1) (drop (prefix_len in_line s + 1) s)
line_skips p [] = sym (ap (lines false (p + 0 + 1)) (drop_all 1 [] (omega arith)))
line_skips p (b ∷ s) = stepped p b s (in_line b) (line_skips (p + 1) s)

-- the first line, and those after it
pub line_first : (p b : ℕ) (s : List ℕ) → lines false p (b ∷ s) ≡ record { place = p; text = first_line (b ∷ s) } ∷ lines false (p + prefix_len in_line (b ∷ s) + 1) (drop (prefix_len in_line (b ∷ s) + 1) (b ∷ s))
line_first p b s = ap (λ ls. record { place = p; text = first_line (b ∷ s) } ∷ ls) (stepped p b s (in_line b) (line_skips (p + 1) s))

-- the line at i of a file, and those after it
pub line_left : (bs : List ℕ) (i end : ℕ) → i < length bs → end ≡ i + prefix_len in_line (drop i bs) → lines false i (drop i bs) ≡ record { place = i; text = first_line (drop i bs) } ∷ lines false (end + 1) (drop (end + 1) bs)
line_left bs i end h is =
    let front = drop_more bs i 0 h in
    let n = prefix_len in_line (drop i bs) in
    let e : i + n + 1 ≡ end + 1 = omega arith in
    let f : i + (n + 1) ≡ end + 1 = omega arith in
    ap (lines false i) front
    ∙ line_first i (get_or bs i 0) (drop (i + 1) bs)
    ∙ ap (λ s. record { place = i; text = first_line s } ∷ lines false (i + prefix_len in_line s + 1) (drop (prefix_len in_line s + 1) s)) (sym front)
    ∙ ap (λ s. record { place = i; text = first_line (drop i bs) } ∷ lines false (i + n + 1) s) (drop-drop (n + 1) i bs)
    ∙ (λ j. record { place = i; text = first_line (drop i bs) } ∷ lines false (e j) (drop (f j) bs))

-- a front of a text is one up to its own end
pub is_front : (text front : List ℕ) (end : ℕ) → end ≤ length text → front ≡ take end text → IsFront front text
is_front text front end h e =
    let n : end ≡ length front = omega (arith, ap length e, length-take end text) in
    e ∙ ap (λ k. take k text) n

-- the first of the lines that are left, and the others
pub line_next : (text : List ℕ) (at end : ℕ) → at < length text → end ≡ at + prefix_len in_line (drop at text) → (front : List ℕ) → front ≡ take end text → lines false at (drop at text) ≡ record { place = at; text = drop at front } ∷ lines false (end + 1) (drop (end + 1) text)
line_next text at end lt is front e =
    let n = prefix_len in_line (drop at text) in
    line_left text at end lt is
    ∙ ap (λ s. record { place = at; text = s } ∷ lines false (end + 1) (drop (end + 1) text)) (sym (ap (drop at) (e ∙ ap (λ k. take k text) is) ∙ drop-take at n text))
