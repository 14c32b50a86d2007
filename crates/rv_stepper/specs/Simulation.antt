-- What `simulate` answers, by the run of the machine, and what its refusals leave.
use Rattle.std.specs.Prelude.{◌≡◌, ℕ, List, Option}
use Rattle.cp_base.specs.declared.run_fault.RunFault.{RunFault}
use Rattle.cp_base.specs.declared.run_fault.RunFault.TheVariants.{WriteFault, OutOfMemory}
use Rattle.cp_base.specs.Outside.{Rose, gained, GainsFront}
use Rattle.rv_code.specs.declared.machine.RvOutcome.{RvOutcome}

-- the outcome of the run, and a sink that has gained its output
pub record Answers (old new : Option (List ℕ)) (outcome : RvOutcome) (run : RvOutcome × List ℕ) : Type 0 where
  pub same : outcome ≡ run.0
  pub gains : new ≡ gained old run.1

-- A write failed: the sink has gained a front of the run's output, and not all of it, and its count of faults rose.
-- Or there was no memory: the sink is as it was, since all memory is taken before the first step.
abbrev pub Refuses : RunFault → Option (List ℕ) → Option (List ℕ) → ℕ → ℕ → List ℕ → Type 0
Refuses WriteFault old new faults_old faults_new out = GainsFront old new out × Rose faults_old faults_new
Refuses OutOfMemory old new faults_old faults_new out = (new ≡ old) × (faults_new ≡ faults_old)
