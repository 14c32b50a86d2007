-- Units of one text.
use Rattle.std.specs.Prelude.{◌≡◌, ℕ, List, map}
use Rattle.rv_code.specs.declared.assembly.AsmLine.{AsmLine}
use Rattle.rv_code.specs.declared.assembly.AsmFunction.{AsmFunction}
use Rattle.rv_code.specs.declared.assembly.AsmUnit.{AsmUnit}
use Rattle.rv_code.specs.Text.{text_of}
use Rattle.rv_code.specs.WellFormed.{IsWellFormed}

-- what the text has of functions: their names and lines, and not the size of a frame
abbrev pub printed : List AsmFunction → List (List ℕ × List AsmLine)
printed functions = map (λ function. (function.name, function.lines)) functions

-- two well-formed units of one text have the same names, lines and data
abbrev pub OneUnitPerText : Type 0
OneUnitPerText =
    (a b : AsmUnit) → IsWellFormed a → IsWellFormed b → text_of a ≡ text_of b
    → (printed a.functions ≡ printed b.functions) × (a.items ≡ b.items)
