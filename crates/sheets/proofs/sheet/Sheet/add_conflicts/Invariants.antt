use Rattle.std.proofs.Common.{◌≡◌, ℕ, ◌<◌, ◌≤◌, get_or, vec_items}
use Rattle.sheets.specs.Changes.{opposed_row}
use Rattle.sheets.proofs.sheet.Sheet.add_conflicts.Given as goal

-- the rows before i have the new conflicts, and the others are as they were
abbrev pub invariant-loop-i : goal.invariant-loop-i
invariant-loop-i l = record {
  done : (k : ℕ) → k < l.i → get_or l.conflicts-items k 0 ≡ opposed_row (vec_items l.fn.self.conflicts) l.component l.others k;
  left : (k : ℕ) → l.i ≤ k → get_or l.conflicts-items k 0 ≡ get_or (vec_items l.fn.self.conflicts) k 0;
}
