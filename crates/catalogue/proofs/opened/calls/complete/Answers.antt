use Rattle.std.proofs.Common.{◌≡◌, ℕ, length, is_ok, ap, ◌∙◌, subst, arith}
use Rattle.std.proofs.lemmas.List.{get_or_read}
use Rattle.sheets.specs.Sheets.{model}
use Rattle.sheets.specs.Changes.{Goes, conflicts_added}
use Rattle.sheets.proofs.Forms.{formed}
use Rattle.sheets.specs.Clauses.{row}
use Rattle.catalogue.proofs.Closing.{Closing, obeyed, closed_is, closed_both}
use Rattle.catalogue.proofs.opened.calls.complete.Goals as goal
use Rattle.catalogue.proofs.opened.calls.complete.Goals.{After-add_conflicts}

-- the addition at hand, in terms of what the record names
goes : (c : After-add_conflicts)
    → Goes (conflicts_added (model c.loop-component.sheet) c.loop-component.component (row c.args.records.now c.loop-component.component)) tt c.add_conflicts.result (model c.loop-component.sheet) (model c.add_conflicts.new.self)
goes c =
    let rs = c.args.records.now in
    let k = c.loop-component.component in
    let s = c.loop-component.sheet in
    let is : c.clashes.result ≡ row rs k = c.clashes.ensures ∙ get_or_read rs k c.index-records-component.result c.loop-component-test.true c.index-records-component.is 0 in
    subst (λ (qs : ℕ). Goes (conflicts_added (model s) k qs) tt c.add_conflicts.result (model s) (model c.add_conflicts.new.self)) is c.add_conflicts.ensures.goes

pub unwrap-requires : goal.unwrap-requires
unwrap-requires c =
    let e = c.args.sheet.now in
    let s = c.loop-component.sheet in
    ap is_ok (obeyed (model e) c.args.records.now c.requires (formed e) (model s) c.loop-component.component c.loop-component.invariant (formed s) c.loop-component-test.true c.add_conflicts.result (model c.add_conflicts.new.self) (goes c)).0

pub returns : goal.returns
returns c =
    let e = c.args.sheet.now in
    let rs = c.args.records.now in
    let s = c.loop-component.sheet in
    let end : c.loop-component.component ≡ length rs = omega arith in
    let done : Closing (model e) (model s) rs (length rs) = subst (Closing (model e) (model s) rs) end c.loop-component.invariant in
    record {
      sheet = closed_is (model e) rs c.requires (formed e) (model s) done (formed s);
      both = closed_both (model e) rs c.requires (formed e) (model s) done (formed s);
    }
