-- What the program says of a file.
use Rattle.std.specs.Prelude.{ℕ, List, Ok, Result}
use Rattle.levels.specs.Piles.{ground, size_of}
use Rattle.levels.specs.declared.pile.KernelSize.{KernelSize}
use Rattle.texts.specs.declared.faults.Fault.{Fault}
use Rattle.stanzas.specs.Notes.{and_then}
use Rattle.control.specs.Grounds.{contents}

-- the kernel of a file with nothing piled on its ground, or the first fault in it
abbrev pub kernel_of : List ℕ → Result KernelSize Fault
kernel_of file = and_then (contents file) (λ c. Ok (size_of (ground c.sheet)))
