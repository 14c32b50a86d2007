-- What words ask for: `cparser [-S] [--dump STAGE] [FILE]`.
use Rattle.std.specs.Prelude.{ℕ, Bool, true, false, List, [], ◌∷◌, if◌then◌else◌, Option, Some, None, option_map, option_and_then, codes}
use Rattle.std.specs.Option.{option_map_or}
use Rattle.std.specs.Str.{bytes_eq}
use Rattle.clap.specs.Words.{App, Kinds, Row, Rule, new_app, new_rule, with_rule, fault_of, matches_of, first_of}
use Rattle.clap.specs.declared.builder.action.ArgAction.TheVariants.{Set, SetTrue}
use Rattle.clap.specs.declared.builder.value_parser.ValueParser.TheVariants.{NonEmptyString}
use Rattle.cp_driver.specs.declared.job.Stage.{Stage}
use Rattle.cp_driver.specs.declared.job.Stage.TheVariants.{Tokens, Tree}
use Rattle.cp_driver.specs.declared.job.Task.{Task}
use Rattle.cp_driver.specs.declared.job.Task.TheVariants.{Compile, Dump}

-- a task, and the name of FILE
pub record Job : Type 0 where
  pub task : Task
  pub file : List ℕ

-- write the assembly of this file
abbrev pub compile : List ℕ → Job
compile file = record { task = Compile; file = file }

-- write what this file is at a stage
abbrev pub dump : Stage → List ℕ → Job
dump stage file = record { task = Dump stage; file = file }

-- ---- the command

-- `-S`: a flag
abbrev pub assembly_option : Rule
assembly_option = record (new_rule (codes "assembly")) { short = Some 83; action = Some SetTrue }

-- `--dump STAGE`: a value that is not empty
abbrev pub dump_option : Rule
dump_option = record (new_rule (codes "dump")) { long = Some (codes "dump"); action = Some Set; parser = Some NonEmptyString }

-- FILE: a word that is not empty
abbrev pub file_word : Rule
file_word = record (new_rule (codes "file")) { action = Some Set; parser = Some NonEmptyString }

-- the program's name; there is no option for help, and none for the version
abbrev pub named : App
named = let plain = new_app (codes "cparser") in record plain { top = record plain.top { disable_help_flag = true } }

-- the command
abbrev pub command : App
command = with_rule (with_rule (with_rule named assembly_option) dump_option) file_word

-- ---- the job

-- what the words say: whether `-S` is there, the value of `--dump`, and FILE
pub record Options : Type 0 where
  pub assembly : Bool
  pub dump : Option (List ℕ)
  pub file : Option (List ℕ)

-- a flag's value is the text `true` where the words have it
abbrev pub has_flag : List ℕ → List Row → Bool
has_flag id rows = option_map_or (λ text. bytes_eq text (codes "true")) (first_of id rows) false

abbrev pub options_of : List Row → Options
options_of rows = record { assembly = has_flag (codes "assembly") rows; dump = first_of (codes "dump") rows; file = first_of (codes "file") rows }

-- the stage of this name
abbrev pub stage_of : List ℕ → Option Stage
stage_of name = if bytes_eq name (codes "tokens") then Some Tokens else if bytes_eq name (codes "tree") then Some Tree else None

-- the one task that the options ask for. Without an option for a task it is that of `-S`
abbrev pub task_of : Bool → Option (List ℕ) → Option Task
task_of assembly None = Some Compile
task_of false (Some stage) = option_map Dump (stage_of stage)
task_of true (Some stage) = None

-- every task wants FILE
abbrev pub job_of_options : Options → Option Job
job_of_options options = option_and_then (λ task. option_map (λ file. record { task = task; file = file }) options.file) (task_of options.assembly options.dump)

-- the job that is asked for, where the command has no fault at the words
abbrev pub without_fault : Kinds → Option Job → Option Job
without_fault [] asked = asked
without_fault (kind ∷ kinds) asked = None

-- the job of the words, the first of which is the program's name
unfoldable pub job_of : List (List ℕ) → Option Job
job_of words = without_fault (fault_of command words) (job_of_options (options_of (matches_of command words)))

-- the file that the words name; the empty name where they are no job
abbrev pub file_of : Option Job → List ℕ
file_of None = codes ""
file_of (Some job) = job.file
