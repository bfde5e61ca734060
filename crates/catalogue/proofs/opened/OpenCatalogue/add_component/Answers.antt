use Rattle.std.proofs.Common.{ℕ, ◌≡◌, ◌<◌, ◌≤◌, List, vec_items, vec_capacity, sym, subst, rules}
use Rattle.sets.specs.Limit.{limit}
use Rattle.sheets.specs.Sheets.{SheetModel, model}
use Rattle.sheets.specs.Changes.{grown}
use Rattle.sheets.proofs.Forms.{formed}
use Rattle.catalogue.specs.Notes.{Filled}
use Rattle.catalogue.proofs.Filling.{filled_grown, kept_whole}
use Rattle.catalogue.proofs.opened.OpenCatalogue.add_component.Goals as goal
use Rattle.catalogue.proofs.opened.OpenCatalogue.add_component.Goals.{After-push_reserved}

-- the sheet and the records, with the component
filled : (c : After-push_reserved) → Filled (model c.add_component.new.self) (vec_items c.push_reserved.new.self)
filled c =
    let o = c.self.inside in
    let s = c.add_component.new.self in
    let rs = c.push_reserved.new.self in
    let lt : (model o.sheet).size < limit = search rules in
    let is : model s ≡ grown (model o.sheet) = search rules in
    subst (λ (m : SheetModel). Filled m (vec_items rs)) (sym is)
    (subst (λ (xs : List ℕ). Filled (grown (model o.sheet)) xs) (sym c.push_reserved.ensures.items) (filled_grown (model o.sheet) (vec_items o.records) c.new.result c.new.ensures lt c.self.invariant.0))

pub invariant_of-self-2 : goal.invariant_of-self-2
invariant_of-self-2 c =
    let room : limit ≤ vec_capacity c.push_reserved.new.self = search rules in (filled (goal.at.invariant_of-self-2 c).After-push_reserved, room)

pub returns-clause-kept : goal.returns-clause-kept
returns-clause-kept c =
    let s = c.add_component.new.self in kept_whole (model s) (vec_items c.push_reserved.new.self) (formed s) (filled (goal.at.returns-clause-kept c).After-push_reserved)
