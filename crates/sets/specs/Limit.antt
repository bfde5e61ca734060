use Rattle.std.specs.Prelude.{ℕ}

-- how many components there can be: a set holds numbers below this. The code has it as `ComponentSet::LIMIT`.
abbrev pub limit : ℕ
limit = 64
