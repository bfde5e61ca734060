-- What a pile comes to, as programs print it.
use Rattle.std.specs.Prelude.{ℕ, List, ◌++◌, codes, decimal}
use Rattle.levels.specs.declared.pile.KernelSize.{KernelSize}

-- the line (kernel G C N)
abbrev pub kernel_line : KernelSize → List ℕ
kernel_line k = codes "(kernel " ++ decimal k.ground ++ codes " " ++ decimal k.components ++ codes " " ++ decimal k.clauses ++ codes ")"
