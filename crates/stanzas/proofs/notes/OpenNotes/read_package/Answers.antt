use Rattle.std.proofs.Common.{ap, ◌∙◌}
use Rattle.std.proofs.lemmas.Result.{err_from_is_err_and}
use Rattle.stanzas.specs.Notes.{and_then}
use Rattle.stanzas.specs.Values.{alone}
use Rattle.stanzas.specs.Cursors.{rest}
use Rattle.stanzas.specs.Views.{said_of}
use Rattle.stanzas.proofs.ValueSteps.{named_first, stopped, stops_then}
use Rattle.stanzas.proofs.notes.OpenNotes.read_package.Goals as goal

pub returns-in_err-add_name : goal.returns-in_err-add_name
returns-in_err-add_name c =
    let p = err_from_is_err_and c.from_residual-in_err-add_name.result c.from_residual-in_err-add_name.ensures.1 in (
      stopped _ _ p.0 _ _ p.1 p.2
          (stops_then _ _ _ (alone (rest c.only_name.new.self)) (named_first c.args.self.now.text.now (said_of c.args.self.now) c.in_ok-name.name c.args.cursor c.only_name.new.self c.requires c.in_ok-name.ensures.reads) c.in_err-add_name.ensures.0),
      c.in_err-add_name.ensures.1,
    )

pub returns-in_err-nothing_more : goal.returns-in_err-nothing_more
returns-in_err-nothing_more c =
    let p = err_from_is_err_and c.from_residual-in_err-nothing_more.result c.from_residual-in_err-nothing_more.ensures.1 in (
      stopped _ _ p.0 _ _ p.1 p.2
          (named_first c.args.self.now.text.now (said_of c.args.self.now) c.in_ok-name.name c.args.cursor c.only_name.new.self c.requires c.in_ok-name.ensures.reads
          ∙ ap (λ q. and_then q (alone (rest c.only_name.new.self))) c.in_ok-add_name.ensures.0
          ∙ c.in_err-nothing_more.ensures (said_of c.add_name.new.self)),
      c.in_ok-add_name.ensures.1,
    )

pub returns : goal.returns
returns c = (
  named_first c.args.self.now.text.now (said_of c.args.self.now) c.in_ok-name.name c.args.cursor c.only_name.new.self c.requires c.in_ok-name.ensures.reads
      ∙ ap (λ q. and_then q (alone (rest c.only_name.new.self))) c.in_ok-add_name.ensures.0
      ∙ c.in_ok-nothing_more.ensures (said_of c.add_name.new.self),
  c.in_ok-add_name.ensures.1,
)
