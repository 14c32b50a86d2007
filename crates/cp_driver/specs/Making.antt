-- What a task makes of the bytes of FILE, and which bytes it refuses.
use Rattle.std.specs.Prelude.{◌≡◌, ℕ, ◌<◌, ◌≤◌, List, length, Option, Some, None}
use Rattle.std.specs.List.{slice_get}
use Rattle.std.specs.Option.{option_map_or}
use Rattle.rv_code.specs.Text.{text_of}
use Rattle.c_lexer.specs.declared.token.Token.{Token}
use Rattle.c_lexer.specs.Tokens.{HasTokens, IsLexical}
use Rattle.c_lexer.specs.Dump.{tokens_text}
use Rattle.c_syntax.specs.Trees as trees
use Rattle.c_syntax.specs.TreeText.{tree_text}
use Rattle.c_grammar.specs.Derivation.{IsTreeOf}
use Rattle.c_parser.specs.Parsing.{IsWrong, IsTooDeep}
use Rattle.cp_first.specs.FirstForm.{IsNotFirst}
use Rattle.cp_first.specs.FirstAssembly.{IsAssemblyOf}
use Rattle.cp_driver.specs.declared.job.Stage.{Stage}
use Rattle.cp_driver.specs.declared.job.Stage.TheVariants.{Tokens, Tree}
use Rattle.cp_driver.specs.declared.job.Task.{Task}
use Rattle.cp_driver.specs.declared.job.Task.TheVariants.{Compile, Dump}
use Rattle.cp_driver.specs.declared.report.Fault.{Fault}
use Rattle.cp_driver.specs.declared.report.Fault.TheVariants.{Lexical, Syntax, TooDeep, Usage, ReadFault, WriteFault, TooLong, NotYet, OutOfMemory}
use Rattle.cp_driver.specs.declared.report.Report.{Report}

-- the text is that of a tree of the bytes' tokens, no higher than the limit
pub record IsTextOfTree (bytes text : List ℕ) : Type 0 where
  pub tokens : List Token
  pub tree : trees.Tree
  pub listed : HasTokens bytes tokens
  pub derived : IsTreeOf tokens tree
  pub within : trees.height tree ≤ trees.max_height
  pub same : text ≡ tree_text tree

-- the bytes have a token list without a tree that is within the limit
pub record HasNoLowTree (bytes : List ℕ) : Type 0 where
  pub tokens : List Token
  pub listed : HasTokens bytes tokens
  pub high : (t : trees.Tree) → IsTreeOf tokens t → trees.max_height < trees.height t

-- the text that shows the bytes at a stage
abbrev pub Shows : Stage → List ℕ → List ℕ → Type 0
Shows Tokens bytes text = (tokens : List Token) × HasTokens bytes tokens × (text ≡ tokens_text tokens)
Shows Tree bytes text = IsTextOfTree bytes text

-- this text shows them, and no other does
pub record IsDump (stage : Stage) (bytes text : List ℕ) : Type 0 where
  pub shows : Shows stage bytes text
  pub only : (other : List ℕ) → Shows stage bytes other → other ≡ text

-- the text is that of the assembly in the report
pub record IsListing (bytes text : List ℕ) (report : Report) : Type 0 where
  pub assembly : IsAssemblyOf bytes report.asm
  pub listed : text ≡ text_of report.asm

-- what a task makes of the bytes: the text that is written, and the report
abbrev pub Makes : Task → List ℕ → List ℕ → Option Report → Type 0
Makes Compile bytes text None = ⊥
Makes Compile bytes text (Some report) = IsListing bytes text report
Makes (Dump stage) bytes text None = IsDump stage bytes text
Makes (Dump stage) bytes text (Some report) = ⊥

-- why a task refuses the bytes by a fault of which there is one at most
abbrev pub Refuses : Task → List ℕ → Fault → Type 0
Refuses task bytes (Lexical at) = (stage : Stage) × (task ≡ Dump stage) × IsLexical bytes at
Refuses task bytes NotYet = (task ≡ Compile) × IsNotFirst bytes
Refuses task bytes (Syntax at) = ⊥
Refuses task bytes (TooDeep at) = ⊥
Refuses task bytes Usage = ⊥
Refuses task bytes (ReadFault input) = ⊥
Refuses task bytes WriteFault = ⊥
Refuses task bytes (TooLong input) = ⊥
Refuses task bytes OutOfMemory = ⊥

-- where the token of this number begins, and where the bytes end if there is none
abbrev pub place_of : List ℕ → List Token → ℕ → ℕ
place_of bytes tokens number = option_map_or (λ token. token.start) (slice_get tokens number) (length bytes)

-- the bytes have a token list, and this holds of it and of a number whose place this is
pub record IsAtToken (Holds : List Token → ℕ → Type 0) (bytes : List ℕ) (at : ℕ) : Type 0 where
  pub tokens : List Token
  pub number : ℕ
  pub listed : HasTokens bytes tokens
  pub place : at ≡ place_of bytes tokens number
  pub holds : Holds tokens number

-- why a task refuses the bytes by a fault of their syntax tree. There may be causes for both faults, and at several places
abbrev pub RefusesTree : Task → List ℕ → Fault → Type 0
RefusesTree task bytes (Syntax at) = (task ≡ Dump Tree) × IsAtToken IsWrong bytes at
RefusesTree task bytes (TooDeep at) = (task ≡ Dump Tree) × IsAtToken IsTooDeep bytes at
RefusesTree task bytes (Lexical at) = ⊥
RefusesTree task bytes NotYet = ⊥
RefusesTree task bytes Usage = ⊥
RefusesTree task bytes (ReadFault input) = ⊥
RefusesTree task bytes WriteFault = ⊥
RefusesTree task bytes (TooLong input) = ⊥
RefusesTree task bytes OutOfMemory = ⊥
