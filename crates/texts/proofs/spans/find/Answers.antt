use Rattle.std.proofs.Common.{◌∙◌, rules}
use Rattle.std.specs.Str.{bytes_eq}
use Rattle.texts.specs.Spans.{stretch}
use Rattle.std.proofs.lemmas.Iterator.{YieldsList-from_slice}
use Rattle.std.proofs.lemmas.Iterator.Search.{position_from_yields_List}
use Rattle.texts.proofs.LookUps.{look_up_from}
use Rattle.texts.proofs.spans.find.Goals as goal

-- `search` shows that the answer is the place that was found, whatever a body does with it in between
pub returns : goal.returns
returns c =
    look_up_from (stretch c.args.text.now) c.args.name.now c.args.spans.now _
    (search rules
    ∙ position_from_yields_List (λ s. bytes_eq (stretch c.args.text.now s) c.args.name.now) _ _ c.position.result c.position.ensures.ran (YieldsList-from_slice c.args.spans.now cc) (λ x b q k. search rules))
