use Rattle.std.proofs.Common.{vec_items, subst, ℕ, List, ap, ◌∙◌}
use Rattle.sheets.specs.Sheets.{model}
use Rattle.sheets.proofs.Forms.{formed}
use Rattle.catalogue.specs.Drafts.{Draft, Kept, clash, closed}
use Rattle.catalogue.proofs.Examples.{examples}
use Rattle.catalogue.proofs.Filling.{kept_whole}
use Rattle.catalogue.proofs.opened.OpenCatalogue.close.Goals as goal

pub returns : goal.returns
returns c =
    let cs = (model c.self.inside.sheet).clauses in
    let same = c.as_slice.ensures.value in
    record {
      sheet = c.complete.ensures.sheet ∙ ap (λ (rs : List ℕ). closed (record { clauses = cs; records = rs })) same ∙ ap closed c.self.view_is;
      both = λ p q. c.complete.ensures.both p q ∙ ap (λ (rs : List ℕ). clash (record { clauses = cs; records = rs }) p q) same ∙ ap (λ (d : Draft). clash d p q) c.self.view_is;
      kept = subst (λ (d : Draft). Kept d) c.self.view_is (kept_whole (model c.self.inside.sheet) (vec_items c.self.inside.records) (formed c.self.inside.sheet) c.self.invariant.0);
      examples = examples;
    }
