use Rattle.std.proofs.Common.{vec_items, refl, ap, ◌∙◌, arith, rules}
use Rattle.std.specs.Slice.Iter.{iter_rest}
use Rattle.std.proofs.lemmas.Iterator.{YieldsList-from_slice, YieldsList-from_map}
use Rattle.std.proofs.lemmas.Iterator.Adapters.{items_from_extend}
use Rattle.stanzas.specs.Views.{clash_with}
use Rattle.stanzas.proofs.Growing.{clashes_added}
use Rattle.stanzas.proofs.notes.OpenNotes.add_clashes.Goals as goal

pub returns : goal.returns
returns c =
    let owner = c.saturating_sub-owner.result in
    let grown = items_from_extend c.extend.result c.extend.ensures.ran (YieldsList-from_map _ (clash_with owner) (YieldsList-from_slice c.args.names.now (ap iter_rest c.map.ensures.source ∙ c.iter.ensures.rest)) c.map.ensures.closure (λ x r q k. search rules)) in (
      clashes_added c.args.self.now c.args.names.now owner (omega (arith, c.args.self.now.notes.names.ok.0)) (vec_items c.extend.new.self) (rw c.in_ok-extend.was at grown).0,
      refl,
    )
