-- The support is closed under needs, and holds every such set.
use Rattle.std.proofs.Common.{◌≡◌, ℕ, zero, suc, ◌<◌, ◌≤◌, ◌⊎◌, List, sym, refl, ap, ◌∙◌, subst, inl, inr, arith}
use lib.Bits.{bit_or}
use lib.Count.{ones, ones-le}
use Rattle.std.proofs.lemmas.Bool.{cases_Bool, cases_eq, both_ways}
use Rattle.sets.specs.Sets.{has, Subset, Apart}
use Rattle.sets.proofs.Membership.{collect_lt, minus_split}
use Rattle.sets.proofs.Order.{sub_refl, sub_or_both, sub_minus, in_minus, minus_in, sub_antisym}
use Rattle.sets.proofs.Counts.{ones_grows, ones_without}
use Rattle.sheets.specs.Sheets.{SheetModel}
use Rattle.sheets.specs.Health.{Fed, clear}
use Rattle.sheets.specs.Support.{Supported, unmet, narrowed, rounds, support}
use Rattle.sheets.specs.declared.clause.Clause.{Clause}
use Rattle.sheets.proofs.Feeding.{fed_more, fed_apart, apart_fed}

-- ---- one round

pub narrowed_less : (cs : List Clause) (x q : ℕ) → Subset (narrowed cs x q) q
unfolding narrowed
narrowed_less cs x q = sub_minus q (unmet cs (bit_or x q))

-- a set whose needs it meets itself, together with x, stays
pub narrowed_holds : (cs : List Clause) (x p q : ℕ) → Fed cs p (bit_or x p) → Subset p q → Subset p (narrowed cs x q)
unfolding narrowed
narrowed_holds cs x p q f s i h =
    let met : Apart p (unmet cs (bit_or x q)) = fed_apart cs p (bit_or x q) (fed_more cs p (bit_or x p) (bit_or x q) (sub_or_both x p x q (sub_refl x) s) f) in
    minus_in q (unmet cs (bit_or x q)) i (s i h) (elim (cases_Bool (has (unmet cs (bit_or x q)) i)) [ inl u ↦ absurd (met i h u) | inr u ↦ u ])

-- a round that takes something away lowers the set as a number
pub narrowed_lower : (cs : List Clause) (x q : ℕ) → (narrowed cs x q ≡ q → ⊥) → narrowed cs x q < q
unfolding narrowed
narrowed_lower cs x q n = omega (arith, minus_split q (unmet cs (bit_or x q)))

-- a round that takes nothing away has found every need met
pub narrowed_stays : (cs : List Clause) (x q : ℕ) → narrowed cs x q ≡ q → Fed cs q (bit_or x q)
unfolding narrowed
narrowed_stays cs x q e =
    apart_fed cs q (bit_or x q)
    (λ i h u. both_ways (has (unmet cs (bit_or x q)) i) (in_minus q (unmet cs (bit_or x q)) i (ap (λ s. has s i) e ∙ h)).1 u)

-- ---- several rounds

rounds_less : (k : ℕ) (cs : List Clause) (x q : ℕ) → Subset (rounds k cs x q) q
unfolding rounds
rounds_less zero cs x q i h = h
rounds_less (suc k) cs x q i h = narrowed_less cs x q i (rounds_less k cs x (narrowed cs x q) i h)

rounds_hold : (k : ℕ) (cs : List Clause) (x p q : ℕ) → Fed cs p (bit_or x p) → Subset p q → Subset p (rounds k cs x q)
unfolding rounds
rounds_hold zero cs x p q f s = s
rounds_hold (suc k) cs x p q f s = rounds_hold k cs x p (narrowed cs x q) f (narrowed_holds cs x p q f s)

rounds_stay : (k : ℕ) (cs : List Clause) (x q : ℕ) → narrowed cs x q ≡ q → rounds k cs x q ≡ q
unfolding rounds
rounds_stay zero cs x q e = refl
rounds_stay (suc k) cs x q e = ap (rounds k cs x) e ∙ rounds_stay k cs x q e

-- as many rounds as there are members are enough
rounds_end : (k : ℕ) (cs : List Clause) (x q : ℕ) → ones q ≤ k → Fed cs (rounds k cs x q) (bit_or x (rounds k cs x q))
unfolding rounds
rounds_end zero cs x q h =
    narrowed_stays cs x q (sub_antisym (narrowed cs x q) q (narrowed_less cs x q) (λ i g. absurd (let e = ones_without q i g in omega arith)))
rounds_end (suc k) cs x q h = go (rounds_end k cs x (narrowed cs x q)) (cases_eq (narrowed cs x q) q)
  where
    go : (ones (narrowed cs x q) ≤ k → Fed cs (rounds k cs x (narrowed cs x q)) (bit_or x (rounds k cs x (narrowed cs x q)))) → (narrowed cs x q ≡ q) ⊎ (narrowed cs x q ≡ q → ⊥)
        → Fed cs (rounds k cs x (narrowed cs x q)) (bit_or x (rounds k cs x (narrowed cs x q)))
    go ih (inl e) =
        let s : rounds k cs x (narrowed cs x q) ≡ q = ap (rounds k cs x) e ∙ rounds_stay k cs x q e in
        subst (λ r. Fed cs r (bit_or x r)) (sym s) (narrowed_stays cs x q e)
    go ih (inr n) = ih (omega (arith, ones_grows (narrowed cs x q) q (narrowed_less cs x q) n))

-- ---- the support

module _ (m : SheetModel) where
  support_clear : (x : ℕ) → Subset (support m x) (clear m)
  unfolding support
  support_clear x = rounds_less m.size m.clauses x (clear m)

  support_fed : (x : ℕ) → Fed m.clauses (support m x) (bit_or x (support m x))
  unfolding support clear
  support_fed x = rounds_end m.size m.clauses x (clear m) (ones-le m.size (clear m) (collect_lt _ m.size))

  pub support_closed : (x : ℕ) → Supported m x (support m x)
  support_closed x = record { clears = support_clear x; closed = support_fed x }

  pub support_greatest : (x q : ℕ) → Supported m x q → Subset q (support m x)
  unfolding support
  support_greatest x q c = rounds_hold m.size m.clauses x q (clear m) c.closed c.clears

-- what the narrowing keeps: q lies between the support and the clear components
pub record Narrowing (m : SheetModel) (x q : ℕ) : Type 0 where
  pub clears : Subset q (clear m)
  pub holds : Subset (support m x) q

module _ (m : SheetModel) (x q : ℕ) where
  pub narrowing_starts : q ≡ clear m → Narrowing m x q
  narrowing_starts e = record { clears = λ i h. ap (λ s. has s i) (sym e) ∙ h; holds = λ i h. ap (λ s. has s i) e ∙ (support_closed m x).clears i h }

  pub narrowing_goes_on : Narrowing m x q → Narrowing m x (narrowed m.clauses x q)
  narrowing_goes_on n = record {
    clears = λ i h. n.clears i (narrowed_less m.clauses x q i h);
    holds = narrowed_holds m.clauses x (support m x) q (support_closed m x).closed n.holds;
  }

  pub narrowing_ends : Narrowing m x q → narrowed m.clauses x q ≡ q → q ≡ support m x
  narrowing_ends n e = sub_antisym q (support m x) (support_greatest m x q (record { clears = n.clears; closed = narrowed_stays m.clauses x q e })) n.holds
