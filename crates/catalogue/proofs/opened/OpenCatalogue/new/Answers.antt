use Rattle.std.proofs.Common.{ℕ, ◌≤◌, List, vec_items, vec_capacity, sym, subst, rules}
use Rattle.sets.specs.Limit.{limit}
use Rattle.sheets.specs.Sheets.{SheetModel, model}
use Rattle.sheets.specs.Changes.{blank}
use Rattle.sheets.proofs.Forms.{formed}
use Rattle.catalogue.specs.Notes.{Filled}
use Rattle.catalogue.proofs.Filling.{filled_blank, kept_whole}
use Rattle.catalogue.proofs.opened.OpenCatalogue.new.Goals as goal
use Rattle.catalogue.proofs.opened.OpenCatalogue.new.Goals.{In_ok-records}

-- the blank sheet, without records
filled : (c : In_ok-records) → Filled (model c.in_ok-sheet.sheet) (vec_items c.in_ok-records.records)
filled c =
    let rs = c.in_ok-records.records in
    subst (λ (m : SheetModel). Filled m (vec_items rs)) (sym c.in_ok-sheet.ensures) (subst (λ (xs : List ℕ). Filled blank xs) (sym c.in_ok-records.ensures.items) filled_blank)

pub invariant_of-result : goal.invariant_of-result
invariant_of-result c =
    let room : limit ≤ vec_capacity c.in_ok-records.records = search rules in (filled (goal.at.invariant_of-result c).In_ok-records, room)

pub returns-clause-kept : goal.returns-clause-kept
returns-clause-kept c = let s = c.in_ok-sheet.sheet in kept_whole (model s) (vec_items c.in_ok-records.records) (formed s) (filled (goal.at.returns-clause-kept c).In_ok-records)
