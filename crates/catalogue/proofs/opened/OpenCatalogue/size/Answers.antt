use Rattle.std.proofs.Common.{subst, vec_items}
use Rattle.sheets.specs.Sheets.{model}
use Rattle.sheets.proofs.Forms.{formed}
use Rattle.catalogue.specs.Drafts.{Draft, Kept}
use Rattle.catalogue.proofs.Filling.{kept_whole}
use Rattle.catalogue.proofs.opened.OpenCatalogue.size.Goals as goal

pub returns-clause-kept : goal.returns-clause-kept
returns-clause-kept c =
    let o = c.self.inside in subst (λ (d : Draft). Kept d) c.self.view_is (kept_whole (model o.sheet) (vec_items o.records) (formed o.sheet) c.self.invariant.0)
