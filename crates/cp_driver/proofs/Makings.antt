-- What tasks make of bytes, and what they refuse.
use Rattle.std.proofs.Common.{◌≡◌, ℕ, List, Option, Some, None, refl, sym, ap, ◌∙◌, subst, arith}
use Rattle.cp_base.specs.Outside.{Contents, Tells, gained}
use Rattle.rv_code.specs.declared.assembly.AsmUnit.{AsmUnit}
use Rattle.rv_code.specs.Text.{text_of}
use Rattle.rv_code.specs.WellFormed.{IsWellFormed}
use Rattle.c_lexer.specs.Tokens.{IsLexical}
use Rattle.cp_first.specs.FirstForm.{IsFirst}
use Rattle.cp_first.specs.FirstAssembly.{MachineWrites, IsAssemblyOf}
use Rattle.cp_driver.specs.declared.job.Stage.{Stage}
use Rattle.cp_driver.specs.declared.job.Stage.TheVariants.{Tokens, Tree}
use Rattle.cp_driver.specs.declared.job.Task.{Task}
use Rattle.cp_driver.specs.declared.job.Task.TheVariants.{Compile, Dump}
use Rattle.cp_driver.specs.declared.report.Fault.{Fault}
use Rattle.cp_driver.specs.declared.report.Fault.TheVariants.{Lexical, Syntax, TooDeep, Usage, ReadFault, WriteFault, TooLong, NotYet, OutOfMemory}
use Rattle.cp_driver.specs.declared.report.Report.{Report}
use Rattle.cp_driver.specs.Jobs.{Job}
use Rattle.cp_driver.specs.Making.{Shows, HasNoLowTree, Makes, Refuses, RefusesTree}
use Rattle.cp_driver.specs.Answers.{Compiles, Writes, IsMade}
use Rattle.cp_driver.proofs.TreeMakings.{has_tree, not_wrong, not_deep}

-- the task does not refuse the bytes
pub record IsAccepted (task : Task) (bytes : List ℕ) : Type 0 where
  pub once : (fault : Fault) → Refuses task bytes fault → ⊥
  pub tree : (fault : Fault) → RefusesTree task bytes fault → ⊥

not_dump : (task : Task) (stage : Stage) → task ≡ Compile → task ≡ Dump stage → ⊥
not_dump task stage e f = absurd (cc (e, f))

pub accepts_first : (bytes list : List ℕ) (status : ℕ) → IsFirst bytes list status → IsAccepted Compile bytes
accepts_first bytes list status first = record { once = once; tree = tree }
  where
    once : (fault : Fault) → Refuses Compile bytes fault → ⊥
    once (Lexical at) r = not_dump Compile r.0 refl r.1
    once NotYet r = r.1 list status first
    once (Syntax at) r = absurd r
    once (TooDeep at) r = absurd r
    once Usage r = absurd r
    once (ReadFault input) r = absurd r
    once WriteFault r = absurd r
    once (TooLong input) r = absurd r
    once OutOfMemory r = absurd r

    tree : (fault : Fault) → RefusesTree Compile bytes fault → ⊥
    tree (Syntax at) r = not_dump Compile Tree refl r.0
    tree (TooDeep at) r = not_dump Compile Tree refl r.0
    tree (Lexical at) r = absurd r
    tree NotYet r = absurd r
    tree Usage r = absurd r
    tree (ReadFault input) r = absurd r
    tree WriteFault r = absurd r
    tree (TooLong input) r = absurd r
    tree OutOfMemory r = absurd r

-- bytes that a stage shows have a token list
lexes : (stage : Stage) (bytes text : List ℕ) (at : ℕ) → Shows stage bytes text → IsLexical bytes at → ⊥
lexes Tokens bytes text at shows h = h.none shows.0 shows.1
lexes Tree bytes text at shows h = h.none shows.tokens shows.listed

pub accepts_shown : (stage : Stage) (bytes text : List ℕ) → Shows stage bytes text → IsAccepted (Dump stage) bytes
accepts_shown stage bytes text shows = record { once = once; tree = tree stage shows }
  where
    once : (fault : Fault) → Refuses (Dump stage) bytes fault → ⊥
    once (Lexical at) r = lexes stage bytes text at shows r.2
    once NotYet r = not_dump (Dump stage) stage r.0 refl
    once (Syntax at) r = absurd r
    once (TooDeep at) r = absurd r
    once Usage r = absurd r
    once (ReadFault input) r = absurd r
    once WriteFault r = absurd r
    once (TooLong input) r = absurd r
    once OutOfMemory r = absurd r

    other_stage : Dump Tokens ≡ Dump Tree → ⊥
    other_stage e = absurd (cc e)

    tree : (s : Stage) → Shows s bytes text → (fault : Fault) → RefusesTree (Dump s) bytes fault → ⊥
    tree Tree shown (Syntax at) r = not_wrong bytes text shown at r.1
    tree Tree shown (TooDeep at) r = not_deep bytes text shown at r.1
    tree Tokens shown (Syntax at) r = other_stage r.0
    tree Tokens shown (TooDeep at) r = other_stage r.0
    tree s shown (Lexical at) r = absurd r
    tree s shown NotYet r = absurd r
    tree s shown Usage r = absurd r
    tree s shown (ReadFault input) r = absurd r
    tree s shown WriteFault r = absurd r
    tree s shown (TooLong input) r = absurd r
    tree s shown OutOfMemory r = absurd r

-- bytes of which a task makes something are not refused
pub accepts_made : (task : Task) (bytes text : List ℕ) (report : Option Report) → Makes task bytes text report → IsAccepted task bytes
accepts_made Compile bytes text None m = absurd m
accepts_made Compile bytes text (Some report) m = let first = m.assembly.first in accepts_first bytes first.0 first.1 first.2
accepts_made (Dump stage) bytes text None m = accepts_shown stage bytes text m.shows
accepts_made (Dump stage) bytes text (Some report) m = absurd m

-- what a tree is made of has one within the limit
pub made_has_tree : (bytes text : List ℕ) (report : Option Report) → Makes (Dump Tree) bytes text report → HasNoLowTree bytes → ⊥
made_has_tree bytes text None m h = has_tree bytes text m.shows h
made_has_tree bytes text (Some report) m h = absurd m

-- there is one refusal, but for those of the tree
one_place : (bytes : List ℕ) (a b : ℕ) → IsLexical bytes a → IsLexical bytes b → a ≡ b
one_place bytes a b h k =
    let le = k.farthest a h.reached.0 h.reached.1 in
    let ge = h.farthest b k.reached.0 k.reached.1 in
    omega (arith, le, ge)

pub one_refusal : (task : Task) (bytes : List ℕ) (a b : Fault) → Refuses task bytes a → Refuses task bytes b → a ≡ b
one_refusal task bytes (Lexical at) (Lexical place) r s = ap Lexical (one_place bytes at place r.2 s.2)
one_refusal task bytes NotYet NotYet r s = refl
one_refusal task bytes (Lexical at) NotYet r s = absurd (not_dump task r.0 s.0 r.1)
one_refusal task bytes NotYet (Lexical at) r s = absurd (not_dump task s.0 r.0 s.1)
one_refusal task bytes (Syntax at) b r s = absurd r
one_refusal task bytes (TooDeep at) b r s = absurd r
one_refusal task bytes Usage b r s = absurd r
one_refusal task bytes (ReadFault input) b r s = absurd r
one_refusal task bytes WriteFault b r s = absurd r
one_refusal task bytes (TooLong input) b r s = absurd r
one_refusal task bytes OutOfMemory b r s = absurd r
one_refusal task bytes (Lexical at) (Syntax place) r s = absurd s
one_refusal task bytes (Lexical at) (TooDeep place) r s = absurd s
one_refusal task bytes (Lexical at) Usage r s = absurd s
one_refusal task bytes (Lexical at) (ReadFault input) r s = absurd s
one_refusal task bytes (Lexical at) WriteFault r s = absurd s
one_refusal task bytes (Lexical at) (TooLong input) r s = absurd s
one_refusal task bytes (Lexical at) OutOfMemory r s = absurd s
one_refusal task bytes NotYet (Syntax at) r s = absurd s
one_refusal task bytes NotYet (TooDeep at) r s = absurd s
one_refusal task bytes NotYet Usage r s = absurd s
one_refusal task bytes NotYet (ReadFault input) r s = absurd s
one_refusal task bytes NotYet WriteFault r s = absurd s
one_refusal task bytes NotYet (TooLong input) r s = absurd s
one_refusal task bytes NotYet OutOfMemory r s = absurd s

-- bytes that the task refuses by a fault of the tree have a token list, and so no other refusal
pub refuses_once : (task : Task) (bytes : List ℕ) (fault wanted : Fault) → RefusesTree task bytes fault → Refuses task bytes wanted → ⊥
refuses_once task bytes (Syntax at) (Lexical place) r s = s.2.none r.1.tokens r.1.listed
refuses_once task bytes (Syntax at) NotYet r s = not_dump task Tree s.0 r.0
refuses_once task bytes (Syntax at) (Syntax place) r s = absurd s
refuses_once task bytes (Syntax at) (TooDeep place) r s = absurd s
refuses_once task bytes (Syntax at) Usage r s = absurd s
refuses_once task bytes (Syntax at) (ReadFault input) r s = absurd s
refuses_once task bytes (Syntax at) WriteFault r s = absurd s
refuses_once task bytes (Syntax at) (TooLong input) r s = absurd s
refuses_once task bytes (Syntax at) OutOfMemory r s = absurd s
refuses_once task bytes (TooDeep at) (Lexical place) r s = s.2.none r.1.tokens r.1.listed
refuses_once task bytes (TooDeep at) NotYet r s = not_dump task Tree s.0 r.0
refuses_once task bytes (TooDeep at) (Syntax place) r s = absurd s
refuses_once task bytes (TooDeep at) (TooDeep place) r s = absurd s
refuses_once task bytes (TooDeep at) Usage r s = absurd s
refuses_once task bytes (TooDeep at) (ReadFault input) r s = absurd s
refuses_once task bytes (TooDeep at) WriteFault r s = absurd s
refuses_once task bytes (TooDeep at) (TooLong input) r s = absurd s
refuses_once task bytes (TooDeep at) OutOfMemory r s = absurd s
refuses_once task bytes (Lexical at) wanted r s = absurd r
refuses_once task bytes NotYet wanted r s = absurd r
refuses_once task bytes Usage wanted r s = absurd r
refuses_once task bytes (ReadFault input) wanted r s = absurd r
refuses_once task bytes WriteFault wanted r s = absurd r
refuses_once task bytes (TooLong input) wanted r s = absurd r
refuses_once task bytes OutOfMemory wanted r s = absurd r

-- ---- what was made of a file that is told

pub made_by : (contents : Option Contents) (report : Option Report) (out out' : Option (List ℕ)) (job other : Job) → job ≡ other → IsMade contents report out out' job.task job.file → IsMade contents report out out' other.task other.file
made_by contents report out out' job other e m = subst (λ j. IsMade contents report out out' j.task j.file) e m

module _ (contents : Option Contents) (out out' err : Option (List ℕ)) (file text : List ℕ) (told : Tells contents file text) where
  listing_of : (report : Report) → IsMade contents (Some report) out out' Compile file → IsAssemblyOf text report.asm
  listing_of report m = subst (λ t. IsAssemblyOf t report.asm) (m.read.told text told) m.makes.assembly

  pub compiled : (report : Option Report) (bytes : List ℕ) (status : ℕ) → IsMade contents report out out' Compile file → IsFirst text bytes status → Compiles bytes status (record { status = 0; fault = None; report = report }) out out' err err
  compiled None bytes status m first = absurd m.makes
  compiled (Some report) bytes status m first =
      let assembly = listing_of report m in
      let unit = assembly.unit bytes status first in
      record {
        ended = refl;
        no_fault = refl;
        report = ap (λ (asm : AsmUnit). Some (record { asm = asm })) unit;
        well_formed = subst IsWellFormed unit assembly.well_formed;
        written = m.written ∙ ap (gained out) m.makes.listed ∙ ap (λ asm. gained out (text_of asm)) unit;
        silent = refl;
      }

  pub compiled_writes : (report : Option Report) (made : Report) (bytes : List ℕ) (status : ℕ) → report ≡ Some made → IsMade contents report out out' Compile file → IsFirst text bytes status → MachineWrites made.asm bytes status
  compiled_writes None made bytes status e m first = absurd m.makes
  compiled_writes (Some report) made bytes status e m first =
      let same : report ≡ made = cc e in
      subst (λ r. MachineWrites r.asm bytes status) same ((listing_of report m).runs bytes status first)

  pub dumped : (stage : Stage) (report : Option Report) (shown : List ℕ) → IsMade contents report out out' (Dump stage) file → Shows stage text shown → Writes shown (record { status = 0; fault = None; report = report }) out out' err err
  dumped stage None shown m shows = record {
    answer = refl;
    written = m.written ∙ ap (gained out) (sym (m.makes.only shown (subst (λ t. Shows stage t shown) (sym (m.read.told text told)) shows)));
    silent = refl;
  }
  dumped stage (Some report) shown m shows = absurd m.makes
