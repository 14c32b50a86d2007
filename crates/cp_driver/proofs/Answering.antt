-- The answers of a call, from how it comes to them.
use Rattle.std.proofs.Common.{◌≡◌, ℕ, ◌<◌, ◌≤◌, ◌⊎◌, inl, inr, Bool, false, List, length, Option, Some, None, refl, sym, ap, ◌∙◌, subst, arith}
use Rattle.cp_base.specs.Outside.{Contents, Rose, Tells, Lacks}
use Rattle.cp_driver.specs.declared.job.Stage.TheVariants.{Tree}
use Rattle.cp_driver.specs.declared.job.Task.{Task}
use Rattle.cp_driver.specs.declared.job.Task.TheVariants.{Dump}
use Rattle.cp_driver.specs.declared.report.Fault.{Fault}
use Rattle.cp_driver.specs.declared.report.Fault.TheVariants.{Lexical, Syntax, TooDeep, Usage, ReadFault, WriteFault, TooLong, NotYet, OutOfMemory}
use Rattle.cp_driver.specs.declared.report.Report.{Report}
use Rattle.cp_driver.specs.declared.report.Done.{Done}
use Rattle.cp_driver.specs.Jobs.{Job, file_of}
use Rattle.cp_driver.specs.Making.{HasNoLowTree, Refuses, RefusesTree}
use Rattle.cp_driver.specs.Messages.{IsTold}
use Rattle.cp_driver.specs.Answers.{file_limit, NoFault, IsRead, RefusesFile, RefusesTreeOf, Call, Because, LeavesOutput, IsMade, ComesTo, ComesAfterRead, ComesToTreeFault, Answers}
use Rattle.cp_driver.specs.Causes.{MakeCause, Cause, Leaves}
use Rattle.cp_driver.proofs.Makings.{IsAccepted, refuses_once, made_by, accepts_made, made_has_tree, one_refusal}

-- told contents have a file or lack it
one_of_both : (contents : Option Contents) (file bytes : List ℕ) → Tells contents file bytes → Lacks contents file → ⊥
one_of_both None file bytes h k = absurd h
one_of_both (Some files) file bytes h k = absurd (cc (h, k))

abbrev pub Asks : Option Job → Task → List ℕ → Type 0
Asks job task file = job ≡ Some (record { task = task; file = file })

-- the job that is asked for, or else this one
job_or : Job → Option Job → Job
job_or other None = other
job_or other (Some job) = job

pub one_job : (asked : Option Job) (job other : Job) → asked ≡ Some job → asked ≡ Some other → job ≡ other
unfolding job_or
one_job asked job other e f = ap (job_or job) (sym e ∙ f)

no_and_one : (job : Option Job) (task : Task) (file : List ℕ) → job ≡ None → Asks job task file → ⊥
no_and_one job task file e f = absurd (cc (e, f))

-- a file that was read is within the limit
read_is_short : (contents : Option Contents) (read file text : List ℕ) → IsRead contents file read → Tells contents file text → file_limit < length text → ⊥
read_is_short contents read file text r told long = let same = ap length (r.told text told) in let within = r.within in omega (arith, long, same, within)

-- bytes that a task makes nothing of
pub make_cause : (fault : Fault) (task : Task) (file bytes : List ℕ) (contents : Option Contents) (reads reads' writes writes' : ℕ) → IsRead contents file bytes → MakeCause fault task bytes → Cause fault contents reads reads' writes writes' bytes task file
make_cause (Lexical at) task file bytes contents reads reads' writes writes' r h = (r, h)
make_cause (Syntax at) task file bytes contents reads reads' writes writes' r h = (r, h)
make_cause (TooDeep at) task file bytes contents reads reads' writes writes' r h = (r, h)
make_cause NotYet task file bytes contents reads reads' writes writes' r h = (r, h)
make_cause OutOfMemory task file bytes contents reads reads' writes writes' r h = tt
make_cause Usage task file bytes contents reads reads' writes writes' r h = absurd h
make_cause (ReadFault input) task file bytes contents reads reads' writes writes' r h = absurd h
make_cause (TooLong input) task file bytes contents reads reads' writes writes' r h = absurd h
make_cause WriteFault task file bytes contents reads reads' writes writes' r h = absurd h

-- the fault that comes first, where this is why
abbrev IsFirstFault : Fault → Fault → Type 0
IsFirstFault fault wanted = (fault ≡ wanted) ⊎ (fault ≡ OutOfMemory)

module _ (job : Option Job) (done : Done) (call : Call) where
  -- why the job is not done, and what the output has gained by then
  abbrev Stops : Fault → List ℕ → Task → List ℕ → Type 0
  Stops fault bytes task file = Cause fault call.contents call.read_faults call.read_faults' call.write_faults call.write_faults' bytes task file × Leaves fault call.contents call.out call.out' task file

  abbrev Told : Fault → List ℕ → Type 0
  Told fault bytes = IsTold fault (file_of job) bytes done call.line_faults call.line_faults' call.err call.err'

  -- the same, or a read that failed
  abbrev IsFirstAfterRead : Fault → Fault → Type 0
  IsFirstAfterRead fault wanted = ((fault ≡ ReadFault false) × Rose call.read_faults call.read_faults') ⊎ IsFirstFault fault wanted

  because : (fault : Fault) (bytes : List ℕ) (task : Task) (file : List ℕ) → Asks job task file → Stops fault bytes task file → Because fault job bytes call
  because (Lexical at) bytes task file e s = record { task = task; file = file; asked = e; holds = s.0 }
  because (Syntax at) bytes task file e s = record { task = task; file = file; asked = e; holds = s.0 }
  because (TooDeep at) bytes task file e s = record { task = task; file = file; asked = e; holds = s.0 }
  because NotYet bytes task file e s = record { task = task; file = file; asked = e; holds = s.0 }
  because (ReadFault input) bytes task file e s = record { task = task; file = file; asked = e; holds = s.0 }
  because (TooLong input) bytes task file e s = record { task = task; file = file; asked = e; holds = s.0 }
  because WriteFault bytes task file e s = s.0
  because OutOfMemory bytes task file e s = tt
  because Usage bytes task file e s = absurd s.0

  leaves_output : (fault : Fault) (bytes : List ℕ) (task : Task) (file : List ℕ) → Asks job task file → Stops fault bytes task file → LeavesOutput fault job call
  leaves_output WriteFault bytes task file e s = record { task = task; file = file; asked = e; holds = s.1 }
  leaves_output (Lexical at) bytes task file e s = s.1
  leaves_output (Syntax at) bytes task file e s = s.1
  leaves_output (TooDeep at) bytes task file e s = s.1
  leaves_output NotYet bytes task file e s = s.1
  leaves_output (ReadFault input) bytes task file e s = s.1
  leaves_output (TooLong input) bytes task file e s = s.1
  leaves_output OutOfMemory bytes task file e s = s.1
  leaves_output Usage bytes task file e s = absurd s.0

  -- the fault is answered, unless its line could not be written
  comes : (fault wanted : Fault) (bytes : List ℕ) → Told fault bytes → IsFirstFault fault wanted → ComesTo wanted done call
  comes fault wanted bytes (inl t) (inl e) = inl (ap (λ d. d.fault) t.0 ∙ ap Some e)
  comes fault wanted bytes (inl t) (inr e) = inr (inr (ap (λ d. d.fault) t.0 ∙ ap Some e))
  comes fault wanted bytes (inr t) e = inr (inl (ap (λ d. d.fault) t.0, t.1))

  -- the same, where a failed read may come before
  comes_after_read : (fault wanted : Fault) (bytes : List ℕ) → Told fault bytes → IsFirstAfterRead fault wanted → ComesAfterRead wanted done call
  comes_after_read fault wanted bytes (inl t) (inl e) = inl (ap (λ d. d.fault) t.0 ∙ ap Some e.0, e.1)
  comes_after_read fault wanted bytes (inr t) (inl e) = inr (inr (inl (ap (λ d. d.fault) t.0, t.1)))
  comes_after_read fault wanted bytes t (inr e) = inr (comes fault wanted bytes t e)

  -- why a write fault is answered
  write_cause : (fault : Fault) (bytes : List ℕ) → Because fault job bytes call → Told fault bytes → done.fault ≡ Some WriteFault → Rose call.write_faults call.write_faults' ⊎ Rose call.line_faults call.line_faults'
  write_cause fault bytes b (inl t) e = let same : fault ≡ WriteFault = cc (ap (λ d. d.fault) t.0, e) in inl (subst (λ f. Because f job bytes call) same b)
  write_cause fault bytes b (inr t) e = inr t.1

  -- ---- which fault comes first

  first_lacking : (fault : Fault) (bytes : List ℕ) (task : Task) (file : List ℕ) → Stops fault bytes task file → Lacks call.contents file → IsFirstFault fault (ReadFault false)
  first_lacking (ReadFault input) bytes task file s lacks = inl (ap ReadFault s.0.0)
  first_lacking (TooLong input) bytes task file s lacks = absurd (s.0.1.1 lacks)
  first_lacking (Lexical at) bytes task file s lacks = absurd (s.0.0.there lacks)
  first_lacking (Syntax at) bytes task file s lacks = absurd (s.0.0.there lacks)
  first_lacking (TooDeep at) bytes task file s lacks = absurd (s.0.0.there lacks)
  first_lacking NotYet bytes task file s lacks = absurd (s.0.0.there lacks)
  first_lacking WriteFault bytes task file s lacks = absurd (s.1.read.there lacks)
  first_lacking OutOfMemory bytes task file s lacks = inr refl
  first_lacking Usage bytes task file s lacks = absurd s.0

  module _ (task : Task) (file text : List ℕ) (told : Tells call.contents file text) where
    -- a file that is told and could not be read
    read_failed : (input : Bool) (wanted : Fault) (bytes : List ℕ) → Stops (ReadFault input) bytes task file → IsFirstAfterRead (ReadFault input) wanted
    read_failed input wanted bytes ((same, inl rose), left) = inl (ap ReadFault same, rose)
    read_failed input wanted bytes ((same, inr lacks), left) = absurd (one_of_both call.contents file text told lacks)

    first_long : (fault : Fault) (bytes : List ℕ) → Stops fault bytes task file → file_limit < length text → IsFirstAfterRead fault (TooLong false)
    first_long (ReadFault input) bytes s long = read_failed input (TooLong false) bytes s
    first_long (TooLong input) bytes s long = inr (inl (ap TooLong s.0.0))
    first_long (Lexical at) bytes s long = absurd (read_is_short call.contents bytes file text s.0.0 told long)
    first_long (Syntax at) bytes s long = absurd (read_is_short call.contents bytes file text s.0.0 told long)
    first_long (TooDeep at) bytes s long = absurd (read_is_short call.contents bytes file text s.0.0 told long)
    first_long NotYet bytes s long = absurd (read_is_short call.contents bytes file text s.0.0 told long)
    first_long WriteFault bytes s long = absurd (read_is_short call.contents s.1.bytes file text s.1.read told long)
    first_long OutOfMemory bytes s long = inr (inr refl)
    first_long Usage bytes s long = absurd s.0

    -- where the told bytes are refused by a fault that is no fault of the tree, none of the tree comes
    no_tree_fault : (fault wanted : Fault) (bytes : List ℕ) → RefusesTreeOf fault call.contents bytes task file → Refuses task text wanted → ⊥
    no_tree_fault fault wanted bytes r s = refuses_once task text fault wanted (subst (λ b. RefusesTree task b fault) (r.0.told text told) r.1) s

    -- the bytes that were read are those that are told
    refuses_told : (fault : Fault) (bytes : List ℕ) → RefusesFile fault call.contents bytes task file → Refuses task text fault
    refuses_told fault bytes r = subst (λ b. Refuses task b fault) (r.0.told text told) r.1

    first_refused : (fault wanted : Fault) (bytes : List ℕ) → Stops fault bytes task file → length text ≤ file_limit → Refuses task text wanted → IsFirstAfterRead fault wanted
    first_refused (ReadFault input) wanted bytes s le r = read_failed input wanted bytes s
    first_refused (TooLong input) wanted bytes s le r = let long = s.0.1.0 text told in absurd (omega (arith, long, le))
    first_refused (Lexical at) wanted bytes s le r = inr (inl (one_refusal task text (Lexical at) wanted (refuses_told (Lexical at) bytes s.0) r))
    first_refused (Syntax at) wanted bytes s le r = absurd (no_tree_fault (Syntax at) wanted bytes s.0 r)
    first_refused (TooDeep at) wanted bytes s le r = absurd (no_tree_fault (TooDeep at) wanted bytes s.0 r)
    first_refused NotYet wanted bytes s le r = inr (inl (one_refusal task text NotYet wanted (refuses_told NotYet bytes s.0) r))
    first_refused WriteFault wanted bytes s le r =
        absurd ((accepts_made task s.1.bytes s.1.text s.1.report s.1.makes).once wanted (subst (λ b. Refuses task b wanted) (sym (s.1.read.told text told)) r))
    first_refused OutOfMemory wanted bytes s le r = inr (inr refl)
    first_refused Usage wanted bytes s le r = absurd s.0

  -- ---- bytes that have no tree within the limit

  -- the fault that comes first is one of the tree
  IsFirstOfTree : Fault → Type 0
  IsFirstOfTree fault = (at : ℕ) × (IsFirstAfterRead fault (Syntax at) ⊎ IsFirstAfterRead fault (TooDeep at))

  comes_of_tree : (fault : Fault) (bytes : List ℕ) → Told fault bytes → IsFirstOfTree fault → ComesToTreeFault done call
  unfolding IsFirstOfTree
  comes_of_tree fault bytes t (at, inl e) = (at, inl (comes_after_read fault (Syntax at) bytes t e))
  comes_of_tree fault bytes t (at, inr e) = (at, inr (comes_after_read fault (TooDeep at) bytes t e))

  no_memory_of_tree : (bytes : List ℕ) → Told OutOfMemory bytes → ComesToTreeFault done call
  no_memory_of_tree bytes t = (0, inl (inr (comes OutOfMemory (Syntax 0) bytes t (inr refl))))

  module _ (file text : List ℕ) (told : Tells call.contents file text) (le : length text ≤ file_limit) (no_tree : HasNoLowTree text) where
    first_of_tree : (fault : Fault) (bytes : List ℕ) → Stops fault bytes (Dump Tree) file → IsFirstOfTree fault
    unfolding IsFirstOfTree
    first_of_tree (ReadFault input) bytes s = (0, inl (read_failed (Dump Tree) file text told input (Syntax 0) bytes s))
    first_of_tree (TooLong input) bytes s = let long = s.0.1.0 text told in absurd (omega (arith, long, le))
    first_of_tree (Lexical at) bytes s = absurd ((refuses_told (Dump Tree) file text told (Lexical at) bytes s.0).2.none no_tree.tokens no_tree.listed)
    first_of_tree NotYet bytes s = let not_compiled = s.0.1.0 in absurd (cc not_compiled)
    first_of_tree (Syntax at) bytes s = (at, inl (inr (inl refl)))
    first_of_tree (TooDeep at) bytes s = (at, inr (inr (inl refl)))
    first_of_tree WriteFault bytes s = absurd (made_has_tree s.1.bytes s.1.text s.1.report s.1.makes (subst HasNoLowTree (sym (s.1.read.told text told)) no_tree))
    first_of_tree OutOfMemory bytes s = (0, inl (inr (inr refl)))
    first_of_tree Usage bytes s = absurd s.0

  -- ---- whole answers

  -- the words are no job
  pub answers_no_job : (bytes : List ℕ) → job ≡ None → call.out' ≡ call.out → Told Usage bytes → Answers job done call
  answers_no_job bytes e o t = record {
    either = inr (record { fault = Usage; bytes = bytes; because = e; output = o; told = t });
    usage = λ f. comes Usage Usage bytes t (inl refl);
    lacking = λ task file f lacks. absurd (no_and_one job task file e f);
    too_long = λ task file text f told long. absurd (no_and_one job task file e f);
    refused = λ task file text fault f told le r. absurd (no_and_one job task file e f);
    no_low_tree = λ file text f told le none. absurd (no_and_one job (Dump Tree) file e f);
    write_fault = write_cause Usage bytes e t;
  }

  -- memory was wanting before the job was known
  pub answers_no_memory : (bytes : List ℕ) → call.out' ≡ call.out → Told OutOfMemory bytes → Answers job done call
  answers_no_memory bytes o t = record {
    either = inr (record { fault = OutOfMemory; bytes = bytes; because = tt; output = o; told = t });
    usage = λ f. comes OutOfMemory Usage bytes t (inr refl);
    lacking = λ task file f lacks. comes OutOfMemory (ReadFault false) bytes t (inr refl);
    too_long = λ task file text f told long. inr (comes OutOfMemory (TooLong false) bytes t (inr refl));
    refused = λ task file text fault f told le r. inr (comes OutOfMemory fault bytes t (inr refl));
    no_low_tree = λ file text f told le none. no_memory_of_tree bytes t;
    write_fault = write_cause OutOfMemory bytes tt t;
  }

  module _ (task : Task) (file : List ℕ) (e : Asks job task file) where
    -- what holds of the task and the file that the words ask for holds of these
    of_asked : (P : Task → List ℕ → Type 0) (other : Task) (word : List ℕ) → Asks job other word → P other word → P task file
    of_asked P other word f h = subst (λ j. P j.task j.file) (one_job job _ _ f e) h

    -- the job was not done
    pub answers_fault : (fault : Fault) (bytes : List ℕ) → Stops fault bytes task file → IsTold fault file bytes done call.line_faults call.line_faults' call.err call.err' → Answers job done call
    answers_fault fault bytes s told_of_file = record {
      either = inr (record { fault = fault; bytes = bytes; because = why; output = leaves_output fault bytes task file e s; told = t });
      usage = λ f. absurd (no_and_one job task file f e);
      lacking = λ other word f lacks. comes fault (ReadFault false) bytes t (first_lacking fault bytes task file s (of_asked (λ _ w. Lacks call.contents w) other word f lacks));
      too_long = λ other word text f told long. comes_after_read fault (TooLong false) bytes t (first_long task file text (of_asked (λ _ w. Tells call.contents w text) other word f told) fault bytes s long);
      refused = λ other word text wanted f told le r. comes_after_read fault wanted bytes t
          (first_refused task file text (of_asked (λ _ w. Tells call.contents w text) other word f told) fault wanted bytes s le (of_asked (λ u _. Refuses u text wanted) other word f r));
      no_low_tree = λ word text f told le none. comes_of_tree fault bytes t
          (first_of_tree word text told le none fault bytes (subst (λ j. Stops fault bytes j.task j.file) (one_job job _ _ e f) s));
      write_fault = write_cause fault bytes why t;
    }
      where
        t : Told fault bytes
        t = subst (λ f. IsTold fault f bytes done call.line_faults call.line_faults' call.err call.err') (sym (ap file_of e)) told_of_file

        why : Because fault job bytes call
        why = because fault bytes task file e s

    -- it was
    pub answers_done : (report : Option Report) → done ≡ record { status = 0; fault = None; report = report } → IsMade call.contents report call.out call.out' task file → call.err' ≡ call.err → Answers job done call
    answers_done report d m silent = record {
      either = inl (record { report = report; answer = d; made = record { task = task; file = file; asked = e; holds = m }; silent = silent });
      usage = λ f. absurd (no_and_one job task file f e);
      lacking = λ other word f lacks. absurd (m.read.there (of_asked (λ _ w. Lacks call.contents w) other word f lacks));
      too_long = λ other word text f told long. absurd (read_is_short call.contents m.bytes file text m.read (of_asked (λ _ w. Tells call.contents w text) other word f told) long);
      refused = λ other word text wanted f told le r. absurd ((accepts_made task m.bytes m.text report m.makes).once wanted
          (subst (λ b. Refuses task b wanted) (sym (m.read.told text (of_asked (λ _ w. Tells call.contents w text) other word f told))) (of_asked (λ u _. Refuses u text wanted) other word f r)));
      no_low_tree = λ word text f told le none.
          let made = made_by call.contents report call.out call.out' _ _ (one_job job _ _ e f) m in
          absurd (made_has_tree made.bytes made.text report made.makes (subst HasNoLowTree (sym (made.read.told text told)) none));
      write_fault = λ f. absurd (cc (d, f));
    }

-- where no count rose and memory was not wanting, bytes that are accepted are not refused
module _ (contents : Option Contents) (reads reads' writes writes' lines lines' : ℕ) (done : Done) (err err' : Option (List ℕ)) (file bytes text : List ℕ) (task : Task) where
  not_refused : (fault : Fault) →
      Cause fault contents reads reads' writes writes' bytes task file → IsTold fault file bytes done lines lines' err err' → NoFault reads reads' writes writes' lines lines' → (done.fault ≡ Some OutOfMemory → ⊥)
      → Tells contents file text → length text ≤ file_limit → IsAccepted task text → ⊥
  not_refused (ReadFault input) (same, inl rose) t n m told le ok = n.read rose
  not_refused (ReadFault input) (same, inr lacks) t n m told le ok = one_of_both contents file text told lacks
  not_refused (TooLong input) h t n m told le ok = let long = h.1.0 text told in omega (arith, long, le)
  not_refused (Lexical at) h t n m told le ok = ok.once (Lexical at) (subst (λ b. Refuses task b (Lexical at)) (h.0.told text told) h.1)
  not_refused (Syntax at) h t n m told le ok = ok.tree (Syntax at) (subst (λ b. RefusesTree task b (Syntax at)) (h.0.told text told) h.1)
  not_refused (TooDeep at) h t n m told le ok = ok.tree (TooDeep at) (subst (λ b. RefusesTree task b (TooDeep at)) (h.0.told text told) h.1)
  not_refused NotYet h t n m told le ok = ok.once NotYet (subst (λ b. Refuses task b NotYet) (h.0.told text told) h.1)
  not_refused WriteFault h t n m told le ok = n.output h
  not_refused OutOfMemory h (inl t) n m told le ok = m (ap (λ d. d.fault) t.0)
  not_refused OutOfMemory h (inr t) n m told le ok = n.error t.1
  not_refused Usage h t n m told le ok = absurd h

-- the same, of the job that is asked for
pub job_not_refused : (contents : Option Contents) (reads reads' writes writes' lines lines' : ℕ) (done : Done) (err err' : Option (List ℕ)) (bytes text : List ℕ) (job other : Job) (fault : Fault) → job ≡ other
    → Cause fault contents reads reads' writes writes' bytes job.task job.file → IsTold fault job.file bytes done lines lines' err err' → NoFault reads reads' writes writes' lines lines' → (done.fault ≡ Some OutOfMemory → ⊥)
    → Tells contents other.file text → length text ≤ file_limit → IsAccepted other.task text → ⊥
job_not_refused contents reads reads' writes writes' lines lines' done err err' bytes text job other fault e h t n m told le ok =
    not_refused contents reads reads' writes writes' lines lines' done err err' other.file bytes text other.task fault
    (subst (λ j. Cause fault contents reads reads' writes writes' bytes j.task j.file) e h) (subst (λ j. IsTold fault j.file bytes done lines lines' err err') e t) n m told le ok

-- a line about bytes that are these
pub told_of : (fault : Fault) (file bytes other : List ℕ) (done : Done) (lines lines' : ℕ) (err err' : Option (List ℕ)) → bytes ≡ other → IsTold fault file bytes done lines lines' err err' → IsTold fault file other done lines lines' err err'
told_of fault file bytes other done lines lines' err err' e t = subst (λ b. IsTold fault file b done lines lines' err err') e t
