use Rattle.std.proofs.Common.{◌≡◌}
use Rattle.catalogue.specs.Drafts.{Kept}
use Rattle.catalogue.proofs.Calls.{with_more}
use Rattle.catalogue.proofs.opened.OpenCatalogue.add_components.Given as goal

abbrev pub invariant-loop : goal.invariant-loop
invariant-loop l = record {
  made : l.self ≡ with_more l.fn.self l.counter;
  kept : Kept l.self;
}
