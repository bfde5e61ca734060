use Rattle.std.proofs.Common.{◌≡◌, Ok, sym, ap, ◌∙◌, arith}
use Rattle.std.proofs.lemmas.Result.{err_from_is_err_and}
use Rattle.stanzas.specs.Notes.{start, and_then}
use Rattle.stanzas.specs.Files.{stanzas, reading}
use Rattle.stanzas.specs.Views.{lines_left, notes_of, said_of}
use Rattle.stanzas.proofs.FileSteps.{by_lines}
use Rattle.stanzas.proofs.ReadBack.{read_back}
use Rattle.stanzas.proofs.Sound.{reading_sound}
use Rattle.stanzas.proofs.ValueSteps.{stopped, stops_then, stays}
use Rattle.stanzas.proofs.notes.Notes.read.Goals as goal
use Rattle.stanzas.proofs.notes.Notes.read.Goals.{In-None}

pub returns-then-text-gt-MAX_BYTES-clause-plain : goal.returns-then-text-gt-MAX_BYTES-clause-plain
returns-then-text-gt-MAX_BYTES-clause-plain c = read_back

pub loop-line-init : goal.loop-line-init
loop-line-init c =
    let it = c.into_iter-line-iterator.ensures.into_iter_gives in record {
      same = ap (λ s. s.text.now) it;
      text = c.new-reading.ensures.text;
      says = sym (ap (λ n. stanzas n (lines_left c.into_iter-line-iterator.result)) c.new-reading.ensures.start ∙ ap (λ s. stanzas start (lines_left s)) it);
    }

pub read_line-requires : goal.read_line-requires
read_line-requires c = stays _ _ _ (c.loop-line.invariant.text ∙ sym c.loop-line.invariant.same) c.in-Some.ensures.steps.1

pub loop-line-preserved : goal.loop-line-preserved
loop-line-preserved c = record {
  same = c.in-Some.ensures.steps.2 ∙ c.loop-line.invariant.same;
  text = c.in_ok-read_line.ensures.1 ∙ c.loop-line.invariant.text;
  says = c.loop-line.invariant.says
      ∙ ap (stanzas (said_of c.loop-line.reading)) c.in-Some.ensures.steps.0
      ∙ ap (λ q. and_then q (λ m. stanzas m (lines_left c.next.new.self))) c.in_ok-read_line.ensures.0;
}

pub returns-in_err-read_line-clause-value : goal.returns-in_err-read_line-clause-value
returns-in_err-read_line-clause-value c =
    let p = err_from_is_err_and c.from_residual.result c.from_residual.ensures.1 in
    stopped (notes_of c.args.text.now) _ p.0 _ _ p.1 p.2
    (stops_then _ _ _ (λ m. stanzas m (lines_left c.next.new.self))
    (by_lines c.args.text.now (omega arith) ∙ c.loop-line.invariant.says ∙ ap (stanzas (said_of c.loop-line.reading)) c.in-Some.ensures.steps.0)
    c.in_err-read_line.ensures.0)

pub returns-in_err-read_line-clause-plain : goal.returns-in_err-read_line-clause-plain
returns-in_err-read_line-clause-plain c = read_back

-- once no line is left, the notes are what the file says
said : (c : In-None) → reading c.args.text.now ≡ Ok (notes_of c.args.text.now c.loop-line.reading.notes)
said c =
    by_lines c.args.text.now (omega arith)
    ∙ c.loop-line.invariant.says
    ∙ ap (stanzas (said_of c.loop-line.reading)) c.in-None.ensures.steps
    ∙ ap (λ t. Ok (notes_of t c.loop-line.reading.notes)) c.loop-line.invariant.text

pub returns-clause-value : goal.returns-clause-value
returns-clause-value c = said c

pub returns-clause-sound : goal.returns-clause-sound
returns-clause-sound c = reading_sound c.args.text.now (notes_of c.args.text.now c.loop-line.reading.notes) (said c)

pub returns-clause-plain : goal.returns-clause-plain
returns-clause-plain c = read_back
