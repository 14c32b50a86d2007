-- The output of a run over a sink.
use Rattle.std.proofs.Common.{◌≡◌, ℕ, ◌≤◌, inl, inr, List, [], ◌++◌, Option, refl, sym, ap, subst, ◌∙◌, arith, le_trans, le_refl}
use Rattle.std.proofs.lemmas.List.{append-nil}
use Rattle.std.specs.Prelude.{Result as Answer, Ok, Err, OnOk, IfOk, IfErr}
use Rattle.std.specs.Result.{IsErrAnd}
use Rattle.cp_base.specs.declared.run_fault.RunFault.{RunFault}
use Rattle.cp_base.specs.Outside.{Rose, gained, GainsFront}
use Rattle.cp_base.specs.declared.run_fault.RunFault.TheVariants.{WriteFault, OutOfMemory}
use Rattle.cp_base.proofs.Gains.{gained-gained, gained-nothing, GainsFront-after, GainsFront-more}
use Rattle.run_model.specs.Stores.{IsPrefix}
use Rattle.c_meaning.proofs.Agreement.{prefix_trans}
use Rattle.run_model.specs.declared.outcome.Outcome.{Outcome}
use Rattle.c_meaning.specs.Runs.{Ran}
use Rattle.c_meaning.specs.Meaning.{at_turn}
use Rattle.c_interpreter.specs.declared.frame.Task.{Task}
use Rattle.c_interpreter.specs.declared.frame.Task.TheVariants as task
use Rattle.c_interpreter.specs.declared.machine.Place.{Place}
use Rattle.c_interpreter.specs.Machine.{Configuration, IsSound, resume, task_of, state_of}
use Rattle.c_interpreter.specs.Leading.{Nears, Falls, ran_of, world_of}
use Rattle.c_interpreter.specs.Outputs.{start_of, RunsTo, IsOnWay}
use Rattle.c_interpreter.specs.Faults.{GainsPrefix, Refuses}
use Rattle.c_interpreter.proofs.Resume.{resume_stops}
use Rattle.c_interpreter.proofs.Growth.{moment_grows}

-- a count rose from a later moment on, so it rose
pub rose_since : (old now new : ℕ) → old ≤ now → Rose now new → Rose old new
rose_since old now new grown (inl more) = inl (omega (arith, grown, more))
rose_since old now new grown (inr last) = inr last

-- a call that was refused for a cause
pub refused : {A : Type 0} (r : Answer A RunFault) (P : RunFault → Type 0) (fault : RunFault) → IsErrAnd r (λ f. f ≡ fault) → P fault → IfErr r P
refused (Ok x) P fault is p = tt
refused (Err f) P fault is p = subst P (sym is) p

pub refused_is_not_ok : {A : Type 0} (r : Answer A RunFault) (P : A → Type 0) (fault : RunFault) → IsErrAnd r (λ f. f ≡ fault) → IfOk r P
refused_is_not_ok (Ok x) P fault is = absurd is
refused_is_not_ok (Err f) P fault is = tt

-- nothing was taken
pub nothing_gained : (told : Option (List ℕ)) (out : List ℕ) → GainsPrefix told told out
nothing_gained told out = record { bytes = []; prefix = record { rest = out; is = refl }; told = sym (gained-nothing told) }

pub on_way_first : (place : Place) (c : Configuration) (t : Task) (told : Option (List ℕ)) → IsSound c → IsOnWay place (start_of place c t) c.turns told c t told
on_way_first place c t told sound = record { before = []; told = sym (gained-nothing told); run = refl; sound = sound; few = le_refl c.turns }

module _ (place : Place) (ran : Ran) (bound : ℕ) (old : Option (List ℕ)) where
  pub nearer : (c d : Configuration) (t s : Task) (now : Option (List ℕ)) → IsOnWay place ran bound old c t now → Nears place c t d s → d.turns ≤ c.turns
      → IsOnWay place ran bound old d s now
  nearer c d t s now way nears fewer = record {
    before = way.before;
    told = way.told;
    run = nears.run bound way.before way.few ∙ way.run;
    sound = nears.sound;
    few = le_trans fewer way.few;
  }

  falls_below : (old new : ℕ) (t : Task) → Falls old new t → new ≤ old
  falls_below old new (task.Stop outcome) is = omega (arith, is)
  falls_below old new (task.Expr e) less = omega (arith, less)
  falls_below old new (task.Exprs es) less = omega (arith, less)
  falls_below old new (task.Stmt st) less = omega (arith, less)
  falls_below old new (task.Stmts ss) less = omega (arith, less)
  falls_below old new (task.Groups skipped gs) less = omega (arith, less)
  falls_below old new (task.Value v) less = omega (arith, less)
  falls_below old new task.Values less = omega (arith, less)
  falls_below old new (task.Ending flow) less = omega (arith, less)
  falls_below old new (task.Turn st) less = omega (arith, less)
  falls_below old new (task.Call f) less = omega (arith, less)

  -- after one round
  pub next_way : (c d : Configuration) (t s : Task) (now : Option (List ℕ)) → IsOnWay place ran bound old c t now → Nears place c t d s
      → IsOnWay place ran bound old d s now
  next_way c d t s now way nears = nearer c d t s now way nears (falls_below c.turns d.turns s nears.turns)

  -- a part of the output was handed on
  pub handed_on : (c : Configuration) (t : Task) (now new : Option (List ℕ)) → IsOnWay place ran bound old c t now → new ≡ gained now c.out
      → IsOnWay place ran bound old (record c { out = [] }) t new
  handed_on c t now new way more = record {
    before = way.before ++ c.out;
    told = more ∙ ap (λ told. gained told c.out) way.told ∙ gained-gained old way.before c.out;
    run = ap (λ out. ran_of (resume place.unit.now (world_of place) (at_turn place.unit.now (world_of place) bound) c.words c.frames (task_of place.unit.now (world_of place) (at_turn place.unit.now (world_of place) bound) c.arguments t (record (state_of way.before c) { store = record (state_of way.before c).store { out = out } })))) (append-nil (way.before ++ c.out)) ∙ way.run;
    sound = record { nested = way.sound.nested; within = way.sound.within };
    few = way.few;
  }

  -- the run has stopped, and all its output was handed on
  pub stopped : (c : Configuration) (outcome : Outcome) (now new : Option (List ℕ)) → IsOnWay place ran bound old c (task.Stop outcome) now → new ≡ gained now c.out
      → RunsTo ran outcome old new
  stopped c outcome now new way more =
      let u = place.unit.now in
      let again = at_turn place.unit.now (world_of place) bound in
      let end : record { outcome = outcome; out = way.before ++ c.out } ≡ ran = sym (ap ran_of (resume_stops u (world_of place) again c.words c.frames outcome (state_of way.before c).store)) ∙ way.run in
      record {
        same = ap (λ (r : Ran). r.outcome) end;
        told = more ∙ ap (λ told. gained told c.out) way.told ∙ gained-gained old way.before c.out ∙ ap (λ (r : Ran). gained old r.out) end;
      }

  pub stopped_at : (c : Configuration) (t : Task) (outcome : Outcome) (now new : Option (List ℕ)) → t ≡ task.Stop outcome → IsOnWay place ran bound old c t now → new ≡ gained now c.out
      → RunsTo ran outcome old new
  stopped_at c t outcome now new is way more = stopped c outcome now new (subst (λ s. IsOnWay place ran bound old c s now) is way) more

  pub handed_on_if : {A E : Type 0} (r : Answer A E) (c d : Configuration) (t : Task) (now new : Option (List ℕ)) → IsOnWay place ran bound old c t now
      → OnOk r (d ≡ record c { out = [] }) → OnOk r (new ≡ gained now c.out) → OnOk r (IsOnWay place ran bound old d t new)
  handed_on_if (Ok x) c d t now new way is more = rw is (handed_on c t now new way more)
  handed_on_if (Err e) c d t now new way is more = tt

  -- the output of the run begins with what was found up to here
  on_way_grows : (c : Configuration) (t : Task) (now : Option (List ℕ)) → (way : IsOnWay place ran bound old c t now) → IsPrefix (way.before ++ c.out) ran.out
  on_way_grows c t now way = subst (λ (r : Ran). IsPrefix (way.before ++ c.out) r.out) way.run (moment_grows place.unit.now (world_of place) bound way.before c t)

  -- no memory was left on the way
  pub starved : (c : Configuration) (t : Task) (now : Option (List ℕ)) (faults_old faults_new : ℕ) → IsOnWay place ran bound old c t now
      → Refuses OutOfMemory old now faults_old faults_new ran.out
  starved c t now faults_old faults_new way = record {
    bytes = way.before;
    prefix = prefix_trans (record { rest = c.out; is = refl }) (on_way_grows c t now way);
    told = way.told;
  }

  -- what was found last could not be handed on
  pub broken : (c : Configuration) (t : Task) (now new : Option (List ℕ)) (faults_old faults_now faults_new : ℕ) → IsOnWay place ran bound old c t now
      → GainsFront now new c.out → faults_old ≤ faults_now → Rose faults_now faults_new → Refuses WriteFault old new faults_old faults_new ran.out
  broken c t now new faults_old faults_now faults_new way front grown rose =
      let rest = on_way_grows c t now way in (
        subst (GainsFront old new) (sym rest.is) (GainsFront-more old new (way.before ++ c.out) rest.rest (GainsFront-after old now new way.before c.out way.told front)),
        rose_since faults_old faults_now faults_new grown rose,
      )
