use Rattle.std.specs.Prelude.{ℕ}

-- how many clauses a sheet has at most. The code has it as `Sheet::MAX_CLAUSES`.
abbrev pub max_clauses : ℕ
max_clauses = 512
