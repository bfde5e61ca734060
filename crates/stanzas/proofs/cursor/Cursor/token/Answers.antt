use Rattle.std.proofs.Common.{sym, arith}
use Rattle.stanzas.proofs.CursorSteps.{took_none, took_comma, took_bar, took_name, took_misnamed}
use Rattle.stanzas.proofs.cursor.Cursor.token.Goals as goal

pub returns-then-at-self : goal.returns-then-at-self
returns-then-at-self c = took_none c.args.self.now c.scan-at.result c.scan-at.ensures.value c.if-at-self.true

pub returns-in-44 : goal.returns-in-44
returns-in-44 c = took_comma c.args.self.now c.scan-at.result c.scan-at.ensures.value c.if-at-self.false c.in-44.is

pub returns-in-124 : goal.returns-in-124
returns-in-124 c = took_bar c.args.self.now c.scan-at.result c.scan-at.ensures.value c.if-at-self.false c.in-124.is

pub returns-then-is_name : goal.returns-then-is_name
returns-then-is_name c =
    took_name c.args.self.now c.scan-at.result c.scan-at.ensures.value c.if-at-self.false (λ e. omega arith) (λ e. omega arith)
    c.scan-end.result c.scan-end.ensures.value (c.scan-end.ensures.inside (omega arith)) (sym c.if-is_name.ensures)

pub returns-else-is_name : goal.returns-else-is_name
returns-else-is_name c =
    took_misnamed c.args.self.now c.scan-at.result c.scan-at.ensures.value c.if-at-self.false (λ e. omega arith) (λ e. omega arith)
    c.scan-end.result c.scan-end.ensures.value (sym c.if-is_name.ensures)
