use Rattle.std.proofs.Common.{codes, sym, ap, arith, rules}
use Rattle.std.proofs.lemmas.Slice.Eq.{text_from_reads}
use Rattle.stanzas.specs.Lines.{field_of}
use Rattle.stanzas.proofs.lines.Heading.named.Goals as goal

pub returns-in-Package : goal.returns-in-Package
returns-in-Package c = sym (ap field_of (text_from_reads c.args.label.now (codes "Package") (omega arith) (search rules)))

pub returns-in-Depends : goal.returns-in-Depends
returns-in-Depends c = sym (ap field_of (text_from_reads c.args.label.now (codes "Depends") (omega arith) (search rules)))

pub returns-in-Conflicts : goal.returns-in-Conflicts
returns-in-Conflicts c = sym (ap field_of (text_from_reads c.args.label.now (codes "Conflicts") (omega arith) (search rules)))
