use Rattle.std.proofs.Common.{◌<◌, length, sym, ◌∙◌, arith, false-eqb}
use Rattle.stanzas.proofs.LineByLine.{field_heading, malformed_start, malformed_colon, malformed_end}
use Rattle.stanzas.proofs.lines.Heading.of.Goals as goal
use Rattle.stanzas.proofs.lines.Heading.of.Goals.{else-is_letter-via-then-is_letter+then-colon-line+else-line-colon-eq58, else-is_letter-via-then-is_letter+else-colon-line, else-is_letter-via-else-is_letter}

pub returns-then-line-colon-eq58 : goal.returns-then-line-colon-eq58
returns-then-line-colon-eq58 c =
    c.named.ensures
    ∙ sym (field_heading c.args.line.now c.scan-colon.result (omega arith) c.scan-colon.ensures.value (sym c.if-is_blank.ensures) (sym c.if-is_letter.ensures) c.if-line-colon-eq58.true)

pub returns-else-is_letter : goal.returns-else-is_letter
returns-else-is_letter c =
    let s = c.args.line.now in
    let some : 0 < length s = omega (arith, false-eqb _ 0 c.if-is_empty.ensures) in
    let is = c.scan-colon.ensures.value in
    let solid = sym c.if-is_blank.ensures in
    elim c.else-is_letter.branch [
      | else-is_letter-via-then-is_letter+then-colon-line+else-line-colon-eq58 w ↦ sym (malformed_colon s c.scan-colon.result some is solid w.if-line-colon-eq58.false)
      | else-is_letter-via-then-is_letter+else-colon-line w ↦ sym (malformed_end s c.scan-colon.result some is solid w.if-colon-line.false)
      | else-is_letter-via-else-is_letter w ↦ sym (malformed_start s c.scan-colon.result some is solid (sym w.if-is_letter.ensures))
    ]
