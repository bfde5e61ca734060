use Rattle.std.proofs.Common.{◌≡◌, [], map, Ok, Err, vec_items, ap, ◌∙◌}
use Rattle.std.proofs.lemmas.Result.{err_from_is_err_and}
use Rattle.stanzas.specs.Spans.{IsFront, mention}
use Rattle.stanzas.specs.Cursors.{onward, after}
use Rattle.stanzas.specs.Views.{said_of}
use Rattle.stanzas.proofs.ValueSteps.{begins, turned, closed_on, closed_stops, leaves_from, stopped, still, stays}
use Rattle.stanzas.proofs.notes.OpenNotes.read_related.Goals as goal
use Rattle.stanzas.proofs.notes.OpenNotes.read_related.Goals.{In_ok-separator}

-- a turn up to the match: what is left is what follows the separator
turn : (c : In_ok-separator) → onward c.args.relation c.is_done.new.self (said_of c.args.self.now) [] ≡ after c.args.relation c.separator.new.self (said_of c.loop-clause.self) (map (mention c.loop-clause.self.text.now) (vec_items c.push.new.self)) c.in_ok-separator.field-0
turn c =
    c.loop-clause.invariant.says
    ∙ turned c.args.relation c.loop-clause.self.text.now (said_of c.loop-clause.self) (vec_items c.loop-clause.clause) (vec_items c.push.new.self) c.in_ok-name.name (Ok c.in_ok-separator.field-0) c.loop-clause.cursor c.name.new.self c.separator.new.self
    c.loop-clause.invariant.front c.in_ok-name.ensures c.in_ok-separator.ensures c.in_ok-push.ensures.items

-- the cursor is still in the same text
going : (c : In_ok-separator) → IsFront c.separator.new.self.text.now c.loop-clause.self.text.now
going c = still c.loop-clause.cursor.text.now _ _ (c.in_ok-separator.ensures.text ∙ c.in_ok-name.ensures.text) c.loop-clause.invariant.front

pub returns-in_err-name : goal.returns-in_err-name
returns-in_err-name c =
    let p = err_from_is_err_and c.from_residual.result c.from_residual.ensures.1 in (
      stopped _ _ p.0 _ _ p.1 p.2
          (begins c.args.relation c.args.cursor c.is_done.new.self (said_of c.args.self.now) c.if-is_done.ensures
          ∙ c.loop-clause.invariant.says
          ∙ c.in_err-name.ensures.reads _ _),
      c.loop-clause.invariant.text,
    )

pub returns-in_err-separator : goal.returns-in_err-separator
returns-in_err-separator c =
    let p = err_from_is_err_and c.from_residual-in_err-separator.result c.from_residual-in_err-separator.ensures.1 in (
      stopped _ _ p.0 _ _ p.1 p.2
          (begins c.args.relation c.args.cursor c.is_done.new.self (said_of c.args.self.now) c.if-is_done.ensures
          ∙ c.loop-clause.invariant.says
          ∙ turned c.args.relation c.loop-clause.self.text.now (said_of c.loop-clause.self) (vec_items c.loop-clause.clause) (vec_items c.push.new.self) c.in_ok-name.name (Err c.in_err-separator.field-0.0) c.loop-clause.cursor c.name.new.self c.separator.new.self
          c.loop-clause.invariant.front c.in_ok-name.ensures c.in_err-separator.ensures c.in_ok-push.ensures.items),
      c.loop-clause.invariant.text,
    )

pub loop-clause-preserved-in-Bar : goal.loop-clause-preserved-in-Bar
loop-clause-preserved-in-Bar c = record {
  front = going (goal.at.loop-clause-preserved-in-Bar c).In_ok-separator;
  text = c.loop-clause.invariant.text;
  says = turn (goal.at.loop-clause-preserved-in-Bar c).In_ok-separator
      ∙ ap (after c.args.relation c.separator.new.self (said_of c.loop-clause.self) (map (mention c.loop-clause.self.text.now) (vec_items c.push.new.self))) c.in-Bar.is;
}

pub loop-clause-preserved : goal.loop-clause-preserved
loop-clause-preserved c =
    let d = c.separator.new.self in
    let text = c.loop-clause.self.text.now in
    let n = said_of c.loop-clause.self in record {
      front = stays _ _ _ c.in_ok-add-in-Comma.ensures.1 (going (goal.at.loop-clause-preserved c).In_ok-separator);
      text = c.in_ok-add-in-Comma.ensures.1 ∙ c.loop-clause.invariant.text;
      says = turn (goal.at.loop-clause-preserved c).In_ok-separator
          ∙ ap (after c.args.relation d n (map (mention text) (vec_items c.push.new.self))) c.in-Comma.is
          ∙ closed_on c.args.relation text d n c.push.new.self c.replace-whole.result c.replace-whole.ensures.value (said_of c.add.new.self) c.add.new.self.text.now c.replace-whole.new.dest c.new.result c.in_ok-add-in-Comma.ensures.0 c.replace-whole.ensures.after c.new.ensures.items;
    }

pub returns-in_err-add-in-Comma : goal.returns-in_err-add-in-Comma
returns-in_err-add-in-Comma c =
    let d = c.separator.new.self in
    let text = c.loop-clause.self.text.now in
    let n = said_of c.loop-clause.self in
    let p = err_from_is_err_and c.from_residual-in_err-add-in-Comma.result c.from_residual-in_err-add-in-Comma.ensures.1 in (
      stopped _ _ p.0 _ _ p.1 p.2
          (closed_stops c.args.relation text d n c.push.new.self c.replace-whole.result c.replace-whole.ensures.value _ _
          (begins c.args.relation c.args.cursor c.is_done.new.self (said_of c.args.self.now) c.if-is_done.ensures
          ∙ turn (goal.at.returns-in_err-add-in-Comma c).In_ok-separator
          ∙ ap (after c.args.relation d n (map (mention text) (vec_items c.push.new.self))) c.in-Comma.is)
          c.in_err-add-in-Comma.ensures.0),
      c.in_err-add-in-Comma.ensures.1 ∙ c.loop-clause.invariant.text,
    )

pub returns-in-End : goal.returns-in-End
returns-in-End c =
    leaves_from c.add-in-End.result _ _ c.args.self.now c.loop-clause.self c.add-in-End.new.self
    (begins c.args.relation c.args.cursor c.is_done.new.self (said_of c.args.self.now) c.if-is_done.ensures
    ∙ turn (goal.at.returns-in-End c).In_ok-separator
    ∙ ap (after c.args.relation c.separator.new.self (said_of c.loop-clause.self) (map (mention c.loop-clause.self.text.now) (vec_items c.push.new.self))) c.in-End.is)
    c.loop-clause.invariant.text c.add-in-End.ensures
