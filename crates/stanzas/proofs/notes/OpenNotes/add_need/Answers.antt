use Rattle.std.proofs.Common.{vec_items, refl, arith}
use Rattle.stanzas.proofs.Growing.{need_added}
use Rattle.stanzas.proofs.notes.OpenNotes.add_need.Goals as goal

pub returns : goal.returns
returns c = (
  need_added c.args.self.now (vec_items c.args.names) (omega (arith, c.args.self.now.notes.needs.ok.0)) (record { owner = c.saturating_sub-owner.result; names = c.args.names }) (omega (arith, c.args.self.now.notes.names.ok.0)) refl (vec_items c.push.new.self) c.in_ok-push.ensures.items,
  refl,
)
