use Rattle.std.proofs.Common.{◌≡◌, sym, ◌∙◌, subst}
use Rattle.std.proofs.lemmas.Bool.{eqb-true}
use Rattle.sheets.specs.Sheets.{model}
use Rattle.sheets.specs.Support.{Supported, support}
use Rattle.sheets.proofs.Supports.{Narrowing, narrowing_starts, narrowing_goes_on, narrowing_ends, support_closed}
use Rattle.sheets.proofs.sheet.Sheet.support.Goals as goal

pub loop-set-init : goal.loop-set-init
loop-set-init c = narrowing_starts _ _ _ c.clear_components-supported.ensures.value

pub loop-set-preserved : goal.loop-set-preserved
loop-set-preserved c =
    let m = model c.args.self.now in
    subst (Narrowing m c.args.set) (sym c.narrowed-narrower.ensures) (narrowing_goes_on m c.args.set c.loop-set.supported c.loop-set.invariant)

done : (c : goal.Then-eq) → c.loop-set.supported ≡ support (model c.args.self.now) c.args.set
done c = narrowing_ends _ _ _ c.loop-set.invariant (sym c.narrowed-narrower.ensures ∙ eqb-true _ _ (sym c.eq.ensures ∙ c.if-eq.true))

pub returns-then-eq-clause-value : goal.returns-then-eq-clause-value
returns-then-eq-clause-value c = done c

pub returns-then-eq-clause-closed : goal.returns-then-eq-clause-closed
returns-then-eq-clause-closed c = let m = model c.args.self.now in subst (Supported m c.args.set) (sym (done c)) (support_closed m c.args.set)
