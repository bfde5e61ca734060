use Rattle.std.proofs.Common.{◌≡◌, ℕ, ◌+◌, ◌≤◌, true, List, map, length, get_or, replicate, is_ok, vec_items, ap, ◌∙◌, arith}
use Rattle.std.proofs.lemmas.List.{length-map, take_all}
use Rattle.catalogue.specs.Drafts.{need_made, clash_made}
use Rattle.catalogue.proofs.Calls.{obeyed}
use Rattle.stanzas.specs.Notes.{NeedModel}
use Rattle.stanzas.specs.Views.{need_of, notes_of}
use Rattle.control.specs.Grounds.{clause_of}
use Rattle.control.proofs.Calls.{need_call, unknown_call, own_call, clash_call}
use Rattle.control.proofs.Conflicts.{none_opposed}
use Rattle.control.proofs.Filling.{needs_up_to, clashes_up_to}
use Rattle.control.proofs.resolve.resolve.Goals as goal
use Rattle.control.proofs.resolve.resolve.Goals.{After-add_need, in-Some+then-other-clash, in-Some+else-other-clash, in_default}

-- ---- the clauses

-- the need is obeyed
needed : (c : After-add_need) → (is_ok c.add_need.result ≡ true) × (c.add_need.new.self ≡ needs_up_to (notes_of c.args.text.now c.args.notes.now) (c.loop-need.need-index + 1))
needed c =
    let text = c.args.text.now in
    let notes = c.args.notes.now in
    let k = c.loop-need.need-index in
    let x = c.need-item.result in
    let members = c.members-members.result in
    obeyed (λ d. need_made d x.owner members) c.loop-need.catalogue (needs_up_to (notes_of text notes) k) (needs_up_to (notes_of text notes) (k + 1)) _ _ _ c.loop-need.invariant
    (need_call text notes c.requires k _ x c.needs-need-items.ensures c.loop-need-test.true c.need-item.is _ members c.as_slice.ensures.value c.members-members.ensures)
    c.add_need.ensures.goes

pub unwrap-requires-in-loop-need : goal.unwrap-requires-in-loop-need
unwrap-requires-in-loop-need c = (needed c).0

pub loop-need-preserved : goal.loop-need-preserved
loop-need-preserved c = (needed (goal.at.loop-need-preserved c).After-add_need).1

-- ---- the conflicts

pub loop-clash-init : goal.loop-clash-init
loop-clash-init c =
    let n = notes_of c.args.text.now c.args.notes.now in
    let all : length n.needs ≤ c.loop-need.need-index = omega (arith, length-map (vec_items c.args.notes.now.needs) (need_of c.args.text.now), ap length c.needs-need-items.ensures) in
    c.loop-need.invariant
    ∙ ap (λ (ns : List NeedModel). record { clauses = map (clause_of n.names) ns; records = replicate (length n.names) 0 }) (take_all c.loop-need.need-index n.needs all)
    ∙ ap (λ (rs : List ℕ). record { clauses = map (clause_of n.names) n.needs; records = rs }) (none_opposed n.names)

pub unwrap-requires-then-other-clash : goal.unwrap-requires-then-other-clash
unwrap-requires-then-other-clash c =
    let text = c.args.text.now in
    let notes = c.args.notes.now in
    let k = c.loop-clash.clash-index in
    let owner = (get_or c.clashes-clash-items.result.now k (record { owner = 0; name = record { start = 0; end = 0 } })).owner in
    (obeyed (λ d. clash_made d owner c.in-Some.other) c.loop-clash.catalogue (clashes_up_to (notes_of text notes) k) (clashes_up_to (notes_of text notes) (k + 1)) _ _ _ c.loop-clash.invariant
    (clash_call text notes c.requires k _ _ c.clashes-clash-items.ensures c.loop-clash-test.true _ c.meant.ensures c.in-Some.other c.in-Some.is c.if-other-clash.true)
    c.add_clash.ensures.goes).0

pub loop-clash-preserved : goal.loop-clash-preserved
loop-clash-preserved c =
    let text = c.args.text.now in
    let notes = c.args.notes.now in
    let k = c.loop-clash.clash-index in
    let owner = (get_or c.clashes-clash-items.result.now k (record { owner = 0; name = record { start = 0; end = 0 } })).owner in
    elim c.match-meant.branch [
      | in-Some+then-other-clash w ↦
          w.catalogue-is
          ∙ (obeyed (λ d. clash_made d owner w.in-Some.other) c.loop-clash.catalogue (clashes_up_to (notes_of text notes) k) (clashes_up_to (notes_of text notes) (k + 1)) _ _ _ c.loop-clash.invariant
          (clash_call text notes c.requires k _ _ c.clashes-clash-items.ensures c.loop-clash-test.true _ c.meant.ensures w.in-Some.other w.in-Some.is w.if-other-clash.true)
          w.add_clash.ensures.goes).1
      | in-Some+else-other-clash w ↦
          w.catalogue-is
          ∙ c.loop-clash.invariant
          ∙ own_call text notes c.requires k _ _ c.clashes-clash-items.ensures c.loop-clash-test.true _ c.meant.ensures w.in-Some.other w.in-Some.is w.if-other-clash.false
      | in_default w ↦
          w.catalogue-is
          ∙ c.loop-clash.invariant
          ∙ unknown_call text notes c.requires k _ _ c.clashes-clash-items.ensures c.loop-clash-test.true _ c.meant.ensures w.in_default.is
    ]
