-- How a call comes to its answers: why a file is not read, and why what a task makes of it is not written.
use Rattle.std.specs.Prelude.{◌≡◌, ℕ, false, List, Option}
use Rattle.cp_base.specs.Outside.{Contents, Rose}
use Rattle.c_lexer.specs.declared.token.Token.{Token}
use Rattle.c_lexer.specs.declared.token.LexFault.{LexFault}
use Rattle.c_lexer.specs.declared.token.LexFault.TheVariants as lexer
use Rattle.c_parser.specs.declared.unit.ParseFault.{ParseFault}
use Rattle.c_parser.specs.declared.unit.ParseFault.TheVariants as parser
use Rattle.cp_driver.specs.declared.job.Task.{Task}
use Rattle.cp_driver.specs.declared.report.Fault.{Fault}
use Rattle.cp_driver.specs.declared.report.Fault.TheVariants.{Lexical, Syntax, TooDeep, Usage, ReadFault, WriteFault, TooLong, NotYet, OutOfMemory}
use Rattle.cp_driver.specs.Making.{Refuses, RefusesTree, place_of}
use Rattle.cp_driver.specs.Answers.{CannotRead, IsTooLong, RefusesFile, RefusesTreeOf, LeavesFront}

-- a refusal of the lexer
abbrev pub fault_of_lexer : LexFault → Fault
fault_of_lexer (lexer.Lexical at) = Lexical at
fault_of_lexer lexer.OutOfMemory = OutOfMemory

-- a refusal of the parser, where the bytes have these tokens
abbrev pub fault_of_parser : List ℕ → List Token → ParseFault → Fault
fault_of_parser bytes tokens (parser.Syntax at) = Syntax (place_of bytes tokens at)
fault_of_parser bytes tokens (parser.TooDeep at) = TooDeep (place_of bytes tokens at)
fault_of_parser bytes tokens parser.OutOfMemory = OutOfMemory

-- why a file is not read
abbrev pub ReadCause : Fault → Option Contents → ℕ → ℕ → List ℕ → Type 0
ReadCause (ReadFault input) contents reads reads' file = (input ≡ false) × CannotRead contents reads reads' file
ReadCause (TooLong input) contents reads reads' file = (input ≡ false) × IsTooLong contents file
ReadCause OutOfMemory contents reads reads' file = Unit {0}
ReadCause (Lexical at) contents reads reads' file = ⊥
ReadCause (Syntax at) contents reads reads' file = ⊥
ReadCause (TooDeep at) contents reads reads' file = ⊥
ReadCause Usage contents reads reads' file = ⊥
ReadCause NotYet contents reads reads' file = ⊥
ReadCause WriteFault contents reads reads' file = ⊥

-- why a task makes nothing of the bytes
abbrev pub MakeCause : Fault → Task → List ℕ → Type 0
MakeCause OutOfMemory task bytes = Unit {0}
MakeCause (Lexical at) task bytes = Refuses task bytes (Lexical at)
MakeCause (Syntax at) task bytes = RefusesTree task bytes (Syntax at)
MakeCause (TooDeep at) task bytes = RefusesTree task bytes (TooDeep at)
MakeCause NotYet task bytes = Refuses task bytes NotYet
MakeCause Usage task bytes = ⊥
MakeCause (ReadFault input) task bytes = ⊥
MakeCause (TooLong input) task bytes = ⊥
MakeCause WriteFault task bytes = ⊥

-- why a job is not done, over the counts of failed reads and of failed writes of the output, and the bytes that were read
abbrev pub Cause : Fault → Option Contents → ℕ → ℕ → ℕ → ℕ → List ℕ → Task → List ℕ → Type 0
Cause (Lexical at) contents reads reads' writes writes' bytes task file = RefusesFile (Lexical at) contents bytes task file
Cause (Syntax at) contents reads reads' writes writes' bytes task file = RefusesTreeOf (Syntax at) contents bytes task file
Cause (TooDeep at) contents reads reads' writes writes' bytes task file = RefusesTreeOf (TooDeep at) contents bytes task file
Cause NotYet contents reads reads' writes writes' bytes task file = RefusesFile NotYet contents bytes task file
Cause WriteFault contents reads reads' writes writes' bytes task file = Rose writes writes'
Cause Usage contents reads reads' writes writes' bytes task file = ⊥
Cause (ReadFault input) contents reads reads' writes writes' bytes task file = ReadCause (ReadFault input) contents reads reads' file
Cause (TooLong input) contents reads reads' writes writes' bytes task file = ReadCause (TooLong input) contents reads reads' file
Cause OutOfMemory contents reads reads' writes writes' bytes task file = Unit {0}

-- and what the output has gained by then
abbrev pub Leaves : Fault → Option Contents → Option (List ℕ) → Option (List ℕ) → Task → List ℕ → Type 0
Leaves WriteFault contents out out' task file = LeavesFront contents out out' task file
Leaves (Lexical at) contents out out' task file = out' ≡ out
Leaves (Syntax at) contents out out' task file = out' ≡ out
Leaves (TooDeep at) contents out out' task file = out' ≡ out
Leaves Usage contents out out' task file = out' ≡ out
Leaves (ReadFault input) contents out out' task file = out' ≡ out
Leaves (TooLong input) contents out out' task file = out' ≡ out
Leaves NotYet contents out out' task file = out' ≡ out
Leaves OutOfMemory contents out out' task file = out' ≡ out
