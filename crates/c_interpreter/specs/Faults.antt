-- What a refused run leaves.
use Rattle.std.specs.Prelude.{◌≡◌, ℕ, List, Option}
use Rattle.cp_base.specs.declared.run_fault.RunFault.{RunFault}
use Rattle.cp_base.specs.declared.run_fault.RunFault.TheVariants.{WriteFault, OutOfMemory}
use Rattle.cp_base.specs.Outside.{Rose, gained, GainsFront}
use Rattle.run_model.specs.Stores.{IsPrefix}

-- a sink took a prefix of these bytes; none and all are prefixes too
pub record GainsPrefix (old new : Option (List ℕ)) (out : List ℕ) : Type 0 where
  pub bytes : List ℕ
  pub prefix : IsPrefix bytes out
  pub told : new ≡ gained old bytes

-- a write failed: the sink took a front of the run's output, and not all of it, and its count of faults rose; or there
-- was no memory: it took a prefix
abbrev pub Refuses : RunFault → (old new : Option (List ℕ)) → (faults_old faults_new : ℕ) → List ℕ → Type 0
Refuses WriteFault old new faults_old faults_new out = GainsFront old new out × Rose faults_old faults_new
Refuses OutOfMemory old new faults_old faults_new out = GainsPrefix old new out
