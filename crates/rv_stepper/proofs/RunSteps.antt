-- A run by steps: what each step leaves of it.
use Rattle.std.proofs.Common.{◌≡◌, ℕ, zero, suc, ◌-◌, ◌<◌, ◌≤◌, List, [], ◌∷◌, ◌++◌, Option, refl, sym, ap, ◌∙◌, subst, arith, append_assoc}
use Rattle.std.specs.Prelude.{Result, Ok, Err, IfOk, OnErr, map}
use Rattle.cp_base.specs.Outside.{gained, GainsFront}
use Rattle.cp_base.proofs.Gains.{gained-gained, gained-nothing, GainsFront-more, GainsFront-after}
use Rattle.rv_code.specs.declared.machine.RvOutcome.{RvOutcome}
use Rattle.rv_code.specs.declared.machine.RvOutcome.TheVariants.{Ended, Running, Stuck}
use Rattle.rv_code.specs.Machine.{LoadedProgram, Machine, step, run, resumes}
use Rattle.rv_stepper.specs.declared.program.Instr.{Instr}
use Rattle.rv_stepper.specs.declared.state.State.{State}
use Rattle.rv_stepper.specs.declared.state.Stepped.{Stepped}
use Rattle.rv_stepper.specs.declared.state.Stepped.TheVariants as stepped
use Rattle.rv_stepper.specs.States.{machine_of, next_of, instr_of, Reaches, Keeps}
use Rattle.rv_stepper.specs.Space.{Space}
use Rattle.rv_stepper.proofs.Outputs.{run_extends}
use Rattle.rv_stepper.specs.Output.{Moves, IsOf, HasRun, SoFar}

-- one step of a run
run_step : (p : LoadedProgram) (input : List ℕ) (left : ℕ) (m : Machine) → 0 < left → run p input left m ≡ resumes m (step p input m) (run p input (left - 1))
run_step p input zero m lt = absurd (omega (arith, lt))
run_step p input (suc n) m lt = let e : suc n - 1 ≡ n = omega arith in ap (λ k. resumes m (step p input m) (run p input k)) (sym e)

Keeps-both : (a b c : Space) → Keeps a b → Keeps b c → Keeps a c
Keeps-both a b c k l = record { layout = l.layout ∙ k.layout; size = l.size ∙ k.size }

-- what a step of the stepper is: of every program that the code and the state are of, and every output
abbrev pub IsStep : List Instr → List ℕ → State → Stepped → State → Type 0
IsStep code input at came next =
    (p : LoadedProgram) (out : List ℕ) → Reaches p at.memory → p.code ≡ map instr_of code → next_of came next out ≡ step p input (machine_of at out)

still_of : (p : LoadedProgram) (code : List Instr) (start at : State) → IsOf p code start → Keeps start.memory at.memory → Reaches p at.memory
still_of p code start at is kept = record { layout = is.reaches.layout ∙ sym kept.layout; size = is.reaches.size ∙ sym kept.size }

pub SoFar-start : (told : Option (List ℕ)) (code : List Instr) (input : List ℕ) (start : State) (waiting : List ℕ) (steps : ℕ) → waiting ≡ [] → SoFar told told code input start start waiting steps steps
SoFar-start told code input start waiting steps e = record {
  done = [];
  told = sym (gained-nothing told);
  kept = record { layout = refl; size = refl };
  same = λ p is. ap (λ w. run p input steps (machine_of start w)) (sym e);
}

-- a step, with what it adds to the output
steps_by : (p : LoadedProgram) (code : List Instr) (input : List ℕ) (at next : State) (came : Stepped) (before : List ℕ) (left : ℕ) → 0 < left → Reaches p at.memory → p.code ≡ map instr_of code → IsStep code input at came next → run p input left (machine_of at before) ≡ resumes (machine_of at before) (next_of came next before) (run p input (left - 1))
steps_by p code input at next came before left lt reaches same is =
    run_step p input left (machine_of at before) lt ∙ ap (λ n. resumes (machine_of at before) n (run p input (left - 1))) (sym (is p before reaches same))

pub SoFar-went : {old now : Option (List ℕ)} {code : List Instr} {input : List ℕ} {start at : State} {waiting : List ℕ} {steps left : ℕ} (next : State) (more : List ℕ) → SoFar old now code input start at waiting steps left → 0 < left → IsStep code input at stepped.Went next → Keeps at.memory next.memory → more ≡ waiting → SoFar old now code input start next more steps (left - 1)
SoFar-went {old} {now} {code} {input} {start} {at} {waiting} {steps} {left} next more s lt is keeps e = record {
  done = s.done;
  told = s.told;
  kept = Keeps-both start.memory at.memory next.memory s.kept keeps;
  same = λ p of.
      s.same p of
      ∙ steps_by p code input at next stepped.Went (s.done ++ waiting) left lt (still_of p code start at of s.kept) of.instrs is
      ∙ ap (λ w. run p input (left - 1) (machine_of next (s.done ++ w))) (sym e);
}

pub SoFar-wrote : {old now : Option (List ℕ)} {code : List Instr} {input : List ℕ} {start at : State} {waiting : List ℕ} {steps left : ℕ} (next : State) (byte : ℕ) (more : List ℕ) → SoFar old now code input start at waiting steps left → 0 < left → IsStep code input at (stepped.Wrote byte) next → Keeps at.memory next.memory → more ≡ waiting ++ byte ∷ [] → SoFar old now code input start next more steps (left - 1)
SoFar-wrote {old} {now} {code} {input} {start} {at} {waiting} {steps} {left} next byte more s lt is keeps e = record {
  done = s.done;
  told = s.told;
  kept = Keeps-both start.memory at.memory next.memory s.kept keeps;
  same = λ p of.
      s.same p of
      ∙ steps_by p code input at next (stepped.Wrote byte) (s.done ++ waiting) left lt (still_of p code start at of s.kept) of.instrs is
      ∙ ap (λ out. run p input (left - 1) (machine_of next out)) (append_assoc s.done waiting (byte ∷ []) ∙ ap (λ w. s.done ++ w) (sym e));
}

pub SoFar-moved : {old now : Option (List ℕ)} {code : List Instr} {input : List ℕ} {start at : State} {waiting : List ℕ} {steps left : ℕ} (new : Option (List ℕ)) (rest : List ℕ) → SoFar old now code input start at waiting steps left → Moves now new waiting rest → SoFar old new code input start at rest steps left
SoFar-moved {old} {now} {code} {input} {start} {at} {waiting} {steps} {left} new rest s m = record {
  done = s.done ++ m.done;
  told = m.told ∙ ap (λ t. gained t m.done) s.told ∙ gained-gained old s.done m.done;
  kept = s.kept;
  same = λ p of. s.same p of ∙ ap (λ out. run p input left (machine_of at out)) (ap (λ w. s.done ++ w) m.split ∙ sym (append_assoc s.done m.done rest));
}

-- a front of what waited is one of the whole output
pub SoFar-failed : {old now : Option (List ℕ)} {code : List Instr} {input : List ℕ} {start at : State} {waiting : List ℕ} {steps left : ℕ} (new : Option (List ℕ)) → SoFar old now code input start at waiting steps left → GainsFront now new waiting → (p : LoadedProgram) → IsOf p code start → GainsFront old new (run p input steps (machine_of start [])).1
SoFar-failed {old} {now} {code} {input} {start} {at} {waiting} {steps} {left} new s front p of =
    let x = run_extends p input left (machine_of at (s.done ++ waiting)) in
    subst (GainsFront old new) (sym x.1 ∙ ap (λ r. r.1) (sym (s.same p of))) (GainsFront-more old new (s.done ++ waiting) x.0 (GainsFront-after old now new s.done waiting s.told front))

pub failed_err : {E : Type 0} {old now : Option (List ℕ)} {code : List Instr} {input : List ℕ} {start at : State} {waiting : List ℕ} {steps left : ℕ} (new : Option (List ℕ)) (r : Result RvOutcome E) → SoFar old now code input start at waiting steps left → OnErr r (GainsFront now new waiting) → OnErr r ((p : LoadedProgram) → IsOf p code start → GainsFront old new (run p input steps (machine_of start [])).1)
failed_err new (Ok o) s h = tt
failed_err new (Err e) s h = SoFar-failed new s h

-- the run is over
finished : {E : Type 0} {old now : Option (List ℕ)} {code : List Instr} {input : List ℕ} {start at : State} {waiting : List ℕ} {steps left : ℕ} (new : Option (List ℕ)) (outcome : RvOutcome) (r : Result RvOutcome E) (s : SoFar old now code input start at waiting steps left) → ((p : LoadedProgram) → IsOf p code start → run p input left (machine_of at (s.done ++ waiting)) ≡ (outcome, s.done ++ waiting)) → IfOk r (λ o. (o ≡ outcome) × (new ≡ gained now waiting)) → IfOk r (λ o. (p : LoadedProgram) → IsOf p code start → HasRun old new o (run p input steps (machine_of start [])))
finished new outcome (Err e) s over h = tt
finished {E} {old} {now} {code} {input} {start} {at} {waiting} {steps} {left} new outcome (Ok o) s over h = λ p of.
    let total = s.same p of ∙ over p of in
    record {
      same = h.0 ∙ ap (λ r. r.0) (sym total);
      told = h.1 ∙ ap (λ t. gained t waiting) s.told ∙ gained-gained old s.done waiting ∙ ap (λ r. gained old r.1) (sym total);
    }

pub finished_ended : {E : Type 0} {old now : Option (List ℕ)} {code : List Instr} {input : List ℕ} {start at : State} {waiting : List ℕ} {steps left : ℕ} (next : State) (status : ℕ) (new : Option (List ℕ)) (r : Result RvOutcome E) → SoFar old now code input start at waiting steps left → 0 < left → IsStep code input at (stepped.Ended status) next → IfOk r (λ o. (o ≡ Ended status) × (new ≡ gained now waiting)) → IfOk r (λ o. (p : LoadedProgram) → IsOf p code start → HasRun old new o (run p input steps (machine_of start [])))
finished_ended {E} {old} {now} {code} {input} {start} {at} {waiting} {steps} {left} next status new r s lt is h =
    finished new (Ended status) r s (λ p of. steps_by p code input at next (stepped.Ended status) (s.done ++ waiting) left lt (still_of p code start at of s.kept) of.instrs is) h

pub finished_stuck : {E : Type 0} {old now : Option (List ℕ)} {code : List Instr} {input : List ℕ} {start at : State} {waiting : List ℕ} {steps left : ℕ} (next : State) (new : Option (List ℕ)) (r : Result RvOutcome E) → SoFar old now code input start at waiting steps left → 0 < left → IsStep code input at stepped.Stuck next → IfOk r (λ o. (o ≡ Stuck at.pc) × (new ≡ gained now waiting)) → IfOk r (λ o. (p : LoadedProgram) → IsOf p code start → HasRun old new o (run p input steps (machine_of start [])))
finished_stuck {E} {old} {now} {code} {input} {start} {at} {waiting} {steps} {left} next new r s lt is h =
    finished new (Stuck at.pc) r s (λ p of. steps_by p code input at next stepped.Stuck (s.done ++ waiting) left lt (still_of p code start at of s.kept) of.instrs is) h

pub finished_running : {E : Type 0} {old now : Option (List ℕ)} {code : List Instr} {input : List ℕ} {start at : State} {waiting : List ℕ} {steps left : ℕ} (new : Option (List ℕ)) (r : Result RvOutcome E) → SoFar old now code input start at waiting steps left → left ≤ 0 → IfOk r (λ o. (o ≡ Running) × (new ≡ gained now waiting)) → IfOk r (λ o. (p : LoadedProgram) → IsOf p code start → HasRun old new o (run p input steps (machine_of start [])))
finished_running {E} {old} {now} {code} {input} {start} {at} {waiting} {steps} {left} new r s le h =
    finished new Running r s (λ p of. let none : left ≡ 0 = omega (arith, le) in ap (λ n. run p input n (machine_of at (s.done ++ waiting))) none) h
