-- The line of each fault on the error sink, and its status.
use Rattle.std.specs.Prelude.{◌≡◌, ℕ, ◌≤◌, List, [], ◌∷◌, length, ◌++◌, ◌⊎◌, codes, Option, Some, None}
use Rattle.std.specs.List.{concat}
use Rattle.std.specs.Fmt.{decimal}
use Rattle.c_lexer.specs.Places.{line_number, column_number}
use Rattle.cp_base.specs.Outside.{Rose, gained, GainsFront}
use Rattle.cp_driver.specs.declared.report.Done.{Done}
use Rattle.cp_driver.specs.declared.report.Fault.{Fault}
use Rattle.cp_driver.specs.declared.report.Fault.TheVariants.{Lexical, Syntax, TooDeep, Usage, ReadFault, WriteFault, TooLong, NotYet, OutOfMemory}

abbrev pub status_of : Fault → ℕ
status_of (Lexical at) = 1
status_of (Syntax at) = 1
status_of (TooDeep at) = 5
status_of Usage = 2
status_of (ReadFault input) = 3
status_of WriteFault = 4
status_of (TooLong input) = 5
status_of NotYet = 1
status_of OutOfMemory = 6

abbrev pub usage_text : List ℕ
usage_text = codes "usage: cparser [-S] [--regs K] [--dump STAGE] [--syntax-only] [--run INPUT] [--interpret INPUT] [--fuel N] [--depth D] [--stack B] [--generate SEED] [FILE]\n"

-- a line about a place in FILE, of this name and these bytes: `FILE:LINE:COL: error: ` and what is wrong there
abbrev pub error_text : List ℕ → List ℕ → ℕ → List ℕ → List ℕ
error_text file bytes at what = concat (
    file ∷ codes ":" ∷ decimal (line_number bytes at) ∷ codes ":" ∷ decimal (column_number bytes at) ∷ codes ": error: " ∷ what ∷ [])

-- the line, where FILE has this name and these bytes
abbrev pub fault_text : List ℕ → List ℕ → Fault → List ℕ
fault_text file bytes (Lexical at) = error_text file bytes at (codes "no token here\n")
fault_text file bytes (Syntax at) = error_text file bytes at (codes "syntax error\n")
fault_text file bytes (TooDeep at) = error_text file bytes at (codes "nested too deep\n")
fault_text file bytes Usage = usage_text
fault_text file bytes (ReadFault input) = codes "cparser: " ++ (file ++ codes ": read failed\n")
fault_text file bytes WriteFault = codes "cparser: write failed\n"
fault_text file bytes (TooLong input) = codes "cparser: " ++ (file ++ codes ": longer than 4194304 bytes\n")
fault_text file bytes NotYet = codes "cparser: " ++ (file ++ codes ": not yet\n")
fault_text file bytes OutOfMemory = codes "cparser: out of memory\n"

-- the place of the fault, where it has one, is in these bytes or at their end
abbrev pub HasPlace : List ℕ → Fault → Type 0
HasPlace bytes (Lexical at) = at ≤ length bytes
HasPlace bytes (Syntax at) = at ≤ length bytes
HasPlace bytes (TooDeep at) = at ≤ length bytes
HasPlace bytes Usage = Unit {0}
HasPlace bytes (ReadFault input) = Unit {0}
HasPlace bytes WriteFault = Unit {0}
HasPlace bytes (TooLong input) = Unit {0}
HasPlace bytes NotYet = Unit {0}
HasPlace bytes OutOfMemory = Unit {0}

-- the answer of a fault
abbrev pub refusal : Fault → Done
refusal fault = record { status = status_of fault; fault = Some fault; report = None }

-- how a fault that came with this file is answered: its line is written, or else that could not be written. Over the
-- counts of failed writes on the error sink and what it tells, before and after
abbrev pub IsTold : Fault → List ℕ → List ℕ → Done → ℕ → ℕ → Option (List ℕ) → Option (List ℕ) → Type 0
IsTold fault file bytes done lines lines' err err' =
    ((done ≡ refusal fault) × (err' ≡ gained err (fault_text file bytes fault)))
    ⊎ ((done ≡ refusal WriteFault) × Rose lines lines' × GainsFront err err' (fault_text file bytes fault))
