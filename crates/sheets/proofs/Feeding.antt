-- Which needs are met.
use Rattle.std.proofs.Common.{◌≡◌, ℕ, ◌+◌, ◌^◌, ◌<◌, ◌≤◌, cond, not, ◌&&◌, ◌||◌, eqb, List, [], ◌∷◌, length, drop, sym, refl, ap, ◌∙◌, inl, inr, arith}
use lib.Bits.{bit_or, or_zero_r}
use Rattle.std.proofs.ByRecursion.{All-weaker}
use Rattle.std.proofs.lemmas.List.{at_drop_more, at_drop_all}
use Rattle.std.proofs.lemmas.Bool.{cases_Bool, both_ways, eqb-true, eq-eqb, not-true, and_from, and_parts, or_left, or_right, or_cases}
use Rattle.std.proofs.lemmas.Bool.Decides.{nat_tests}
use Rattle.sets.specs.Sets.{has, Has, Subset, Apart, Meet, meets}
use Rattle.sets.proofs.Membership.{has_or, has_single, has_empty, with_is}
use Rattle.sets.proofs.Order.{decides_meet, not_meet, meet_more, or_assoc}
use Rattle.sheets.specs.Clauses.{clause_at, no_clause}
use Rattle.sheets.specs.Health.{Fed}
use Rattle.sheets.specs.Support.{unmet}
use Rattle.sheets.specs.declared.clause.Clause.{Clause}
use Rattle.sheets.proofs.Forms.{owner_small}

pub fed_more : (cs : List Clause) (w x y : ℕ) → Subset x y → Fed cs w x → Fed cs w y
fed_more cs w x y s f = All-weaker _ (λ c. Has w c.owner → Meet c.members y) (λ c g h. meet_more c.members x y s (g h)) cs f

has_unmet : (c : Clause) (cs : List Clause) (s i : ℕ) → has (unmet (c ∷ cs) s) i ≡ ((not (meets c.members s) && eqb i c.owner) || has (unmet cs s) i)
unfolding unmet
has_unmet c cs s i = grind (arith, nat_tests, has_or, has_single, has_empty)

-- every need of w is met in s exactly when w has no unmet owner
pub fed_apart : (cs : List Clause) (w s : ℕ) → Fed cs w s → Apart w (unmet cs s)
unfolding unmet
fed_apart [] w s f i h u = both_ways (has 0 i) (has_empty i) u
fed_apart (c ∷ cs) w s f i h u = elim (or_cases _ (has (unmet cs s) i) (sym (has_unmet c cs s i) ∙ u)) [
  | inl here ↦
      let p = and_parts (not (meets c.members s)) (eqb i c.owner) here in
      let m = f.0 (ap (has w) (sym (eqb-true i c.owner p.1)) ∙ h) in
      not_meet c.members s (not-true (meets c.members s) p.0) m.at m.one m.other
  | inr later ↦ fed_apart cs w s f.1 i h later
]

pub apart_fed : (cs : List Clause) (w s : ℕ) → Apart w (unmet cs s) → Fed cs w s
unfolding unmet
apart_fed [] w s a = tt
apart_fed (c ∷ cs) w s a = (
  λ h. elim (cases_Bool (meets c.members s)) [
    | inl e ↦ (decides_meet c.members s).0 e
    | inr e ↦ absurd (a c.owner h (has_unmet c cs s c.owner ∙ or_left _ _ (and_from (not (meets c.members s)) (eqb c.owner c.owner) (ap not e) (eq-eqb c.owner c.owner refl))))
  ],
  apart_fed cs w s (λ i h u. a i h (has_unmet c cs s i ∙ or_right _ (has (unmet cs s) i) u)),
)

-- ---- the loop that collects the unmet owners

pub unmet_step : (cs : List Clause) (s i : ℕ) → i < length cs → unmet (drop i cs) s ≡ bit_or (cond (meets (clause_at cs i).members s) 0 (2 ^ (clause_at cs i).owner)) (unmet (drop (i + 1) cs) s)
unfolding unmet
unmet_step cs s i lt = at_drop_more (λ ds. unmet ds s) cs i no_clause lt

pub unmet_end : (cs : List Clause) (s i : ℕ) → length cs ≤ i → unmet (drop i cs) s ≡ 0
unfolding unmet
unmet_end cs s i le = at_drop_all (λ ds. unmet ds s) cs i le

pub or_regroup : (a b c : ℕ) → bit_or a (bit_or b c) ≡ bit_or (bit_or a b) c
or_regroup a b c = sym (or_assoc a b c)

-- for the invariant of that loop
pub ruleset collecting = (unmet_step, unmet_end, or_regroup, or_zero_r, with_is, owner_small)
