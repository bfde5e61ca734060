use Rattle.std.proofs.Common.{rules, arith}
use Rattle.std.proofs.lemmas.Iterator.{YieldsList-from_slice}
use Rattle.std.proofs.lemmas.Iterator.Search.{all_from_yields_List}
use Rattle.std.proofs.lemmas.Bool.Decides.{nat_tests}
use Rattle.texts.specs.Bytes.{in_name}
use Rattle.texts.proofs.bytes.is_name.Goals as goal
use Rattle.texts.proofs.bytes.is_name.Goals.{then-contains, else-contains}

pub returns-then-is_start : goal.returns-then-is_start
returns-then-is_start c =
    let all = all_from_yields_List in_name _ _ c.all.result c.all.ensures.ran (YieldsList-from_slice c.args.bytes.now cc) (λ x b q k. search rules) in
    elim c.if-contains.branch [ then-contains w ↦ grind (arith, nat_tests) | else-contains w ↦ grind (arith, nat_tests) ]
