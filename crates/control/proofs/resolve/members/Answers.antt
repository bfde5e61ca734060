use Rattle.std.proofs.Common.{◌∙◌}
use Rattle.stanzas.specs.Views.{notes_of}
use Rattle.control.proofs.Calls.{member_found, member_unfound}
use Rattle.control.proofs.resolve.members.Goals as goal
use Rattle.control.proofs.resolve.members.Goals.{in-Some, in_default}

pub loop-name-preserved : goal.loop-name-preserved
loop-name-preserved c =
    let text = c.args.text.now in
    let names = (notes_of text c.args.notes.now).names in
    elim c.match-meant.branch [
      | in-Some w ↦ w.members-is ∙ w.with-members.ensures.value
          ∙ member_found text names c.args.choice.now c.loop-name.name-index _ c.loop-name-test.true _ c.loop-name.invariant w.in-Some.component w.in-Some.ensures
      | in_default w ↦ w.members-is ∙ member_unfound text names c.args.choice.now c.loop-name.name-index _ c.loop-name-test.true _ c.loop-name.invariant w.in_default.ensures
    ]
