use Rattle.std.proofs.Common.{vec_items, subst}
use Rattle.sheets.specs.Changes.{Goes}
use Rattle.catalogue.specs.Drafts.{Draft, need_made}
use Rattle.sheets.specs.Sheets.{model}
use Rattle.sheets.proofs.Forms.{formed}
use Rattle.catalogue.specs.Notes.{Filled}
use Rattle.catalogue.proofs.Filling.{filled_clause, need_goes, kept_whole}
use Rattle.catalogue.proofs.opened.OpenCatalogue.add_need.Goals as goal
use Rattle.catalogue.proofs.opened.OpenCatalogue.add_need.Goals.{After-add_clause}

-- the sheet with the clause, and the records as they were
filled : (c : After-add_clause) → Filled (model c.add_clause.new.self) (vec_items c.self.inside.records)
filled c =
    let o = c.self.inside in
    filled_clause (model o.sheet) (model c.add_clause.new.self) (vec_items o.records) c.args.owner c.args.members c.add_clause.result c.self.invariant.0 o.sheet.small c.add_clause.ensures

pub invariant_of-self : goal.invariant_of-self
invariant_of-self c = (filled (goal.at.invariant_of-self c).After-add_clause, c.self.invariant.1)

pub returns : goal.returns
returns c =
    let o = c.self.inside in
    let s = c.add_clause.new.self in record {
      goes = subst (λ (d : Draft). Goes (need_made d c.args.owner c.args.members) tt c.add_clause.result d (record { clauses = (model s).clauses; records = vec_items o.records })) c.self.view_is
          (need_goes (model o.sheet) (model s) (vec_items o.records) c.args.owner c.args.members c.add_clause.result c.self.invariant.0 o.sheet.small c.add_clause.ensures);
      kept = kept_whole (model s) (vec_items o.records) (formed s) (filled (goal.at.returns c).After-add_clause);
    }
