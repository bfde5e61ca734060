use Rattle.std.proofs.Common.{◌+◌, drop, rules, ap, ◌∙◌}
use Rattle.std.specs.Slice.Iter.{iter_rest}
use Rattle.std.proofs.lemmas.Iterator.{YieldsList-from_slice}
use Rattle.std.proofs.lemmas.Iterator.Search.{YieldsList-from_take_while}
use Rattle.std.proofs.lemmas.Iterator.Consumers.{count_from_yields_List}
use Rattle.std.proofs.lemmas.List.Folds.{length-prefix_len}
use Rattle.texts.proofs.Stretches.{behind}
use Rattle.texts.proofs.bytes.scan.Goals as goal

pub returns-clause-value : goal.returns-clause-value
returns-clause-value g c =
    let rest = drop c.args.at c.args.bytes.now in
    ap (λ n. c.args.at + n)
    (count_from_yields_List c.take_while.result _ c.count.ensures.ran
    (YieldsList-from_take_while _ g.C.Class.test (YieldsList-from_slice rest (ap iter_rest c.take_while.ensures.source ∙ c.iter.ensures.rest ∙ behind c.args.bytes.now c.args.at c.min-start.result c.min-start.ensures)) c.take_while.ensures.closure c.take_while.ensures.done (λ x b q k. (search rules, search rules)))
    ∙ length-prefix_len g.C.Class.test rest)
