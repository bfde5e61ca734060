use Rattle.std.proofs.Common.{sym}
use Rattle.stanzas.proofs.CursorSteps.{comma_read, bar_read}
use Rattle.stanzas.proofs.cursor.Cursor.separator.Goals as goal

pub returns-in-Some-Comma : goal.returns-in-Some-Comma
returns-in-Some-Comma c = comma_read c.args.relation c.args.self.now c.token.new.self _ c.in-Some-Comma.ensures _ c.in-Some-Comma.field-0-is

pub returns-in-Some-Bar : goal.returns-in-Some-Bar
returns-in-Some-Bar c = bar_read c.args.relation c.args.self.now c.token.new.self _ c.in-Some-Bar.ensures _ c.in-Some-Bar.field-0-is (sym c.if-has_bars.ensures)
