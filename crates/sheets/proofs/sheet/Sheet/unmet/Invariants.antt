use Rattle.std.proofs.Common.{◌≡◌, vec_items, drop}
use lib.Bits.{bit_or}
use Rattle.sheets.specs.Support.{unmet}
use Rattle.sheets.proofs.sheet.Sheet.unmet.Given as goal

-- the unmet owners so far, and those of the clauses still to come
abbrev pub invariant-loop-clause : goal.invariant-loop-clause
invariant-loop-clause l = bit_or l.owners (unmet (drop l.clause-index (vec_items l.self.clauses)) l.set) ≡ unmet (vec_items l.self.clauses) l.set
