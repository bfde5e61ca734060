use Rattle.stanzas.proofs.CursorSteps.{begun}
use Rattle.stanzas.proofs.cursor.Cursor.is_done.Goals as goal

pub returns : goal.returns
returns c = begun c.args.self.now c.scan-self.result c.scan-self.ensures.value
