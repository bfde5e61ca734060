use Rattle.std.proofs.Common.{◌≡◌, ◌<◌, length, set, vec_items, ap, ◌∙◌, arith}
use Rattle.std.proofs.lemmas.List.{get_or_read}
use Rattle.sets.specs.Sets.{with_member}
use Rattle.sheets.specs.Sheets.{model}
use Rattle.sheets.specs.Clauses.{row}
use Rattle.sheets.proofs.Forms.{formed}
use Rattle.catalogue.specs.Notes.{Filled}
use Rattle.catalogue.proofs.Filling.{filled_clash, kept_whole}
use Rattle.catalogue.proofs.opened.OpenCatalogue.add_clash.Goals as goal
use Rattle.catalogue.proofs.opened.OpenCatalogue.add_clash.Goals.{After-note}

-- the sheet as it was, and the records with the clash
filled : (c : After-note) → Filled (model c.self.inside.sheet) (set (vec_items c.self.inside.records) c.args.component c.note.new.self)
filled c =
    let o = c.self.inside in
    let p = c.args.component in
    let q = c.args.other in
    let lp : p < length (vec_items o.records) = omega (arith, c.len.ensures, o.records.ok.0) in
    let lq : q < length (vec_items o.records) = omega (arith, c.len-else-component-len.ensures, o.records.ok.0) in
    let is : c.note.new.self ≡ with_member (row (vec_items o.records) p) q =
    c.note.ensures ∙ ap (λ x. with_member x q) (get_or_read (vec_items o.records) p c.index_mut-record.result.now lp c.index_mut-record.ensures.value 0) in
    filled_clash (model o.sheet) (vec_items o.records) p q c.note.new.self lp lq c.if-component-other.false o.sheet.small is c.self.invariant.0

pub invariant_of-self : goal.invariant_of-self
invariant_of-self c = (filled (goal.at.invariant_of-self c).After-note, c.self.invariant.1)

pub returns-clause-kept : goal.returns-clause-kept
returns-clause-kept c =
    let o = c.self.inside in kept_whole (model o.sheet) (set (vec_items o.records) c.args.component c.note.new.self) (formed o.sheet) (filled (goal.at.returns-clause-kept c).After-note)
