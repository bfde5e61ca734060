use Rattle.std.proofs.Common.{refl, arith}
use Rattle.stanzas.proofs.LineByLine.{line_next, is_front}
use Rattle.stanzas.proofs.lines.LinesIterator.next.Goals as goal

pub returns-clause-steps : goal.returns-clause-steps
returns-clause-steps c =
    let text = c.args.self.now.text.now in
    let end = c.scan-end.result in (
      line_next text c.args.self.now.at end c.if-start-self.false c.scan-end.ensures.value c.front.result.now c.front.ensures,
      is_front text c.front.result.now end (c.scan-end.ensures.inside (omega arith)) c.front.ensures,
      refl,
    )
