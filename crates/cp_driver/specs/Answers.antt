-- What a call of `cparser` may answer, and what it leaves.
use Rattle.std.specs.Prelude.{◌≡◌, ℕ, ◌<◌, ◌≤◌, ◌⊎◌, false, List, length, Option, Some, None}
use Rattle.cp_base.specs.Outside.{Contents, Rose, Tells, Lacks, gained, GainsFront}
use Rattle.rv_code.specs.Text.{text_of}
use Rattle.rv_code.specs.WellFormed.{IsWellFormed}
use Rattle.cp_first.specs.FirstUnit.{first_unit}
use Rattle.cp_driver.specs.declared.job.Stage.TheVariants.{Tree}
use Rattle.cp_driver.specs.declared.job.Task.{Task}
use Rattle.cp_driver.specs.declared.report.Fault.{Fault}
use Rattle.cp_driver.specs.declared.report.Fault.TheVariants.{Lexical, Syntax, TooDeep, Usage, ReadFault, WriteFault, TooLong, NotYet, OutOfMemory}
use Rattle.cp_driver.specs.declared.report.Report.{Report}
use Rattle.cp_driver.specs.declared.report.Done.{Done}
use Rattle.cp_driver.specs.Jobs.{Job, dump, file_of}
use Rattle.cp_driver.specs.Making.{HasNoLowTree, Makes, Refuses, RefusesTree}
use Rattle.cp_driver.specs.Messages.{IsTold}

-- the greatest number of bytes of a file
abbrev pub file_limit : ℕ
file_limit = 4194304

-- no count of faults rose: that of failed reads, that of failed writes of the output, that of the error sink
pub record NoFault (reads reads' writes writes' lines lines' : ℕ) : Type 0 where
  pub read : Rose reads reads' → ⊥
  pub output : Rose writes writes' → ⊥
  pub error : Rose lines lines' → ⊥

-- the unit of the first form that writes these bytes and ends with this status is compiled, and nothing else happens
pub record Compiles (bytes : List ℕ) (status : ℕ) (done : Done) (out out' err err' : Option (List ℕ)) : Type 0 where
  pub ended : done.status ≡ 0
  pub no_fault : done.fault ≡ None
  pub report : done.report ≡ Some (record { asm = first_unit bytes status })
  pub well_formed : IsWellFormed (first_unit bytes status)
  pub written : out' ≡ gained out (text_of (first_unit bytes status))
  pub silent : err' ≡ err

-- the whole text is written, there is no report, and nothing else happens
pub record Writes (text : List ℕ) (done : Done) (out out' err err' : Option (List ℕ)) : Type 0 where
  pub answer : done ≡ record { status = 0; fault = None; report = None }
  pub written : out' ≡ gained out text
  pub silent : err' ≡ err

-- ---- files that are read, and files that are not

-- a file that was read: it is within the limit, and where contents are told, they have it
pub record IsRead (contents : Option Contents) (file text : List ℕ) : Type 0 where
  pub within : length text ≤ file_limit
  pub told : (bytes : List ℕ) → Tells contents file bytes → text ≡ bytes
  pub there : Lacks contents file → ⊥

-- a read failed, or the told contents lack the file
abbrev pub CannotRead : Option Contents → ℕ → ℕ → List ℕ → Type 0
CannotRead contents reads reads' file = Rose reads reads' ⊎ Lacks contents file

-- the file is over the limit, where contents are told; of others this says nothing
abbrev pub IsTooLong : Option Contents → List ℕ → Type 0
IsTooLong contents file = ((bytes : List ℕ) → Tells contents file bytes → file_limit < length bytes) × (Lacks contents file → ⊥)

-- ---- the answers of a call

-- what a call met and what it left: the contents of the files; the counts of failed reads, of failed writes of the
-- output and of failed writes on the error sink, before and after; what the two sinks tell, before and after
pub record Call : Type 0 where
  pub contents : Option Contents
  pub read_faults : ℕ
  pub read_faults' : ℕ
  pub write_faults : ℕ
  pub write_faults' : ℕ
  pub line_faults : ℕ
  pub line_faults' : ℕ
  pub out : Option (List ℕ)
  pub out' : Option (List ℕ)
  pub err : Option (List ℕ)
  pub err' : Option (List ℕ)

-- the job is this task with this file, and this holds of the two
pub record OnFile (job : Option Job) (Holds : Task → List ℕ → Type 0) : Type 0 where
  pub task : Task
  pub file : List ℕ
  pub asked : job ≡ Some (record { task = task; file = file })
  pub holds : Holds task file

-- the file was read and has these bytes, where contents are told, and the task refuses them
abbrev pub RefusesFile : Fault → Option Contents → List ℕ → Task → List ℕ → Type 0
RefusesFile fault contents bytes task file = IsRead contents file bytes × Refuses task bytes fault

-- the same, and the task refuses them by a fault of their syntax tree
abbrev pub RefusesTreeOf : Fault → Option Contents → List ℕ → Task → List ℕ → Type 0
RefusesTreeOf fault contents bytes task file = IsRead contents file bytes × RefusesTree task bytes fault

-- why each fault comes, where FILE has these bytes if it was read
abbrev pub Because : Fault → Option Job → List ℕ → Call → Type 0
Because Usage job bytes call = job ≡ None
Because (ReadFault input) job bytes call = OnFile job (λ task file. (input ≡ false) × CannotRead call.contents call.read_faults call.read_faults' file)
Because (TooLong input) job bytes call = OnFile job (λ task file. (input ≡ false) × IsTooLong call.contents file)
Because (Lexical at) job bytes call = OnFile job (RefusesFile (Lexical at) call.contents bytes)
Because (Syntax at) job bytes call = OnFile job (RefusesTreeOf (Syntax at) call.contents bytes)
Because (TooDeep at) job bytes call = OnFile job (RefusesTreeOf (TooDeep at) call.contents bytes)
Because NotYet job bytes call = OnFile job (RefusesFile NotYet call.contents bytes)
Because WriteFault job bytes call = Rose call.write_faults call.write_faults'
Because OutOfMemory job bytes call = Unit {0}

-- the output has gained a front of what the task makes of the file, and not all
pub record LeavesFront (contents : Option Contents) (out out' : Option (List ℕ)) (task : Task) (file : List ℕ) : Type 0 where
  pub bytes : List ℕ
  pub text : List ℕ
  pub report : Option Report
  pub read : IsRead contents file bytes
  pub makes : Makes task bytes text report
  pub front : GainsFront out out' text

-- what the output has gained where a fault comes: nothing, but for a failed write of it
abbrev pub LeavesOutput : Fault → Option Job → Call → Type 0
LeavesOutput WriteFault job call = OnFile job (LeavesFront call.contents call.out call.out')
LeavesOutput Usage job call = call.out' ≡ call.out
LeavesOutput (ReadFault input) job call = call.out' ≡ call.out
LeavesOutput (TooLong input) job call = call.out' ≡ call.out
LeavesOutput (Lexical at) job call = call.out' ≡ call.out
LeavesOutput (Syntax at) job call = call.out' ≡ call.out
LeavesOutput (TooDeep at) job call = call.out' ≡ call.out
LeavesOutput NotYet job call = call.out' ≡ call.out
LeavesOutput OutOfMemory job call = call.out' ≡ call.out

-- a fault came for its cause, with this output, and was answered with its line, or with a write fault where that line could
-- not be written
pub record IsRefused (job : Option Job) (done : Done) (call : Call) : Type 0 where
  pub fault : Fault
  pub bytes : List ℕ
  pub because : Because fault job bytes call
  pub output : LeavesOutput fault job call
  pub told : IsTold fault (file_of job) bytes done call.line_faults call.line_faults' call.err call.err'

-- the task made its text of the file, and the whole text was written
pub record IsMade (contents : Option Contents) (report : Option Report) (out out' : Option (List ℕ)) (task : Task) (file : List ℕ) : Type 0 where
  pub bytes : List ℕ
  pub text : List ℕ
  pub read : IsRead contents file bytes
  pub makes : Makes task bytes text report
  pub written : out' ≡ gained out text

-- the whole job is done
pub record IsDone (job : Option Job) (done : Done) (call : Call) : Type 0 where
  pub report : Option Report
  pub answer : done ≡ record { status = 0; fault = None; report = report }
  pub made : OnFile job (IsMade call.contents report call.out call.out')
  pub silent : call.err' ≡ call.err

-- the answer is this fault, unless its line could not be written or memory was wanting
abbrev pub ComesTo : Fault → Done → Call → Type 0
ComesTo fault done call =
    (done.fault ≡ Some fault) ⊎ ((done.fault ≡ Some WriteFault) × Rose call.line_faults call.line_faults') ⊎ (done.fault ≡ Some OutOfMemory)

-- the same, but for a failed read, which comes before
abbrev pub ComesAfterRead : Fault → Done → Call → Type 0
ComesAfterRead fault done call = ((done.fault ≡ Some (ReadFault false)) × Rose call.read_faults call.read_faults') ⊎ ComesTo fault done call

-- the same of a fault of the syntax tree: a wrong token, or what nests too deep, at some place
abbrev pub ComesToTreeFault : Done → Call → Type 0
ComesToTreeFault done call = (at : ℕ) × (ComesAfterRead (Syntax at) done call ⊎ ComesAfterRead (TooDeep at) done call)

-- what a call answers, and in which order: words that are no job, then a file that cannot be read or is too long, then bytes
-- that the task refuses, and of those that have a token list but no tree within the limit a fault of the tree
pub record Answers (job : Option Job) (done : Done) (call : Call) : Type 0 where
  pub either : IsDone job done call ⊎ IsRefused job done call
  pub usage : job ≡ None → ComesTo Usage done call
  pub lacking : (task : Task) (file : List ℕ) → job ≡ Some (record { task = task; file = file }) → Lacks call.contents file
      → ComesTo (ReadFault false) done call
  pub too_long : (task : Task) (file bytes : List ℕ) → job ≡ Some (record { task = task; file = file }) → Tells call.contents file bytes
      → file_limit < length bytes → ComesAfterRead (TooLong false) done call
  pub refused : (task : Task) (file bytes : List ℕ) (fault : Fault) → job ≡ Some (record { task = task; file = file }) → Tells call.contents file bytes
      → length bytes ≤ file_limit → Refuses task bytes fault → ComesAfterRead fault done call
  pub no_low_tree : (file bytes : List ℕ) → job ≡ Some (dump Tree file) → Tells call.contents file bytes → length bytes ≤ file_limit → HasNoLowTree bytes
      → ComesToTreeFault done call
  pub write_fault : done.fault ≡ Some WriteFault → Rose call.write_faults call.write_faults' ⊎ Rose call.line_faults call.line_faults'
