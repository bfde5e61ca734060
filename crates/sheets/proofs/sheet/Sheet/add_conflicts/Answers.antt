use Rattle.std.proofs.Common.{◌≡◌, ℕ, true, false, List, length, vec_items, sym, refl, ap, ◌∙◌, subst, arith, rules}
use Rattle.std.specs.Vec.{with_items}
use Rattle.std.proofs.lemmas.Bool.{and_from}
use Rattle.sets.specs.Sets.{has, Has, within}
use Rattle.sheets.specs.Clauses.{row, Among, Mutual, Irreflexive}
use Rattle.sheets.specs.Sheets.{model}
use Rattle.sheets.specs.Changes.{opposed, with_conflicts}
use Rattle.sheets.proofs.Forms.{formed, opposed_among, opposed_mutual, opposed_irreflexive, opposed_both, refilled_opposed}
use Rattle.sheets.proofs.sheet.Sheet.add_conflicts.Goals as goal

-- the tests that were passed
told : (c : goal.After-self-1) → Has c.args.self.now.present c.args.component × (within c.args.others c.args.self.now.present ≡ true) × (has c.args.others c.args.component ≡ false)
told c = (search rules, search rules, search rules)

refilled : (c : goal.After-self-1) → opposed (vec_items c.args.self.now.conflicts) c.args.component c.args.others ≡ vec_items (with_items c.args.self.now.conflicts c.loop-i.conflicts-items)
refilled c =
    let same = ap length c.deref_mut-conflicts-items.ensures.value in
    refilled_opposed c.args.self.now.conflicts c.loop-i.conflicts-items c.args.component c.args.others (omega (arith, same)) (λ k lt. c.loop-i.invariant.done k (omega (arith, same)))

pub invariant_of-self-clause-among : goal.invariant_of-self-clause-among
invariant_of-self-clause-among c = let t = told c in subst (Among c.args.self.now.present) (refilled c) (opposed_among (model c.args.self.now) _ _ (formed c.args.self.now) t.0 t.1 t.2)

pub invariant_of-self-clause-mutual : goal.invariant_of-self-clause-mutual
invariant_of-self-clause-mutual c = let t = told c in subst Mutual (refilled c) (opposed_mutual (model c.args.self.now) _ _ (formed c.args.self.now) t.0 t.1 t.2)

pub invariant_of-self-clause-irreflexive : goal.invariant_of-self-clause-irreflexive
invariant_of-self-clause-irreflexive c = let t = told c in subst Irreflexive (refilled c) (opposed_irreflexive (model c.args.self.now) _ _ (formed c.args.self.now) t.0 t.1 t.2)

pub returns : goal.returns
returns c =
    let s = c.args.self.now in
    let m = model s in
    let p = c.args.component in
    let qs = c.args.others in
    let h : Has m.present p = search rules in
    let q : within qs m.present ≡ true = search rules in
    let n : has qs p ≡ false = search rules in
    let same = ap length c.deref_mut-conflicts-items.ensures.value in
    let is = refilled_opposed s.conflicts c.loop-i.conflicts-items p qs (omega (arith, same)) (λ k lt. c.loop-i.invariant.done k (omega (arith, same))) in
    let both = and_from (has m.present p) (within qs m.present) h q in
    record {
      goes = rw (both, n) (refl, ap (with_conflicts m) (sym is));
      both = λ i j. ap (λ (t : List ℕ). has (row t i) j) (sym is) ∙ opposed_both m p qs (formed s) h q n i j;
    }
