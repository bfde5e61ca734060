-- Faults, and the words of reports.
use Rattle.std.specs.Prelude.{ℕ, List, ◌++◌, codes}
use Rattle.std.specs.Fmt.{decimal}
use Rattle.refusals.specs.Refusals.{number_of, word_of}
use Rattle.refusals.specs.declared.Refusal.{Refusal}
use Rattle.texts.specs.declared.faults.Fault.{Fault}
use Rattle.texts.specs.declared.faults.RefusedLine.{RefusedLine}
use Rattle.texts.specs.declared.faults.Layer.{Layer}
use Rattle.texts.specs.declared.faults.Layer.TheVariants.{Name, Field, File}

-- the fault with these parts
abbrev pub fault : Refusal → Layer → ℕ → Fault
fault r l p = record { refusal = r; layer = l; place = p }

-- the word of a layer, as bytes
abbrev pub layer_word : Layer → List ℕ
layer_word Name = codes "name"
layer_word Field = codes "field"
layer_word File = codes "file"

-- number, word, layer and place of a fault, with a space between two of them
abbrev pub fault_line : Fault → List ℕ
fault_line f = decimal (number_of f.refusal) ++ codes " " ++ word_of f.refusal ++ codes " " ++ layer_word f.layer ++ codes " " ++ decimal f.place

-- the line (refused NUMBER WORD LAYER PLACE)
abbrev pub refused_line : RefusedLine → List ℕ
refused_line r = codes "(refused " ++ fault_line r.0 ++ codes ")"
