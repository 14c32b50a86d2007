-- A run that does not go on is the same at every greater number of steps.
use Rattle.std.proofs.Common.{◌≡◌, ℕ, zero, suc, ◌≤◌, Bool, true, false, cond, List, [], ap, arith}
use Rattle.cp_base.specs.declared.layout.Layout.{Layout}
use Rattle.cp_base.specs.Regions.{holds}
use Rattle.rv_code.specs.declared.machine.RvOutcome.{RvOutcome}
use Rattle.rv_code.specs.declared.machine.RvOutcome.TheVariants.{Ended, Running, Stuck}
use Rattle.rv_code.specs.declared.assembly.AsmUnit.{AsmUnit}
use Rattle.rv_code.specs.Sizes.{data_size}
use Rattle.rv_code.specs.Loading.{code_size}
use Rattle.rv_code.specs.Machine.{LoadedProgram, loaded, Machine, Next, Goes, Ends, Sticks, step, resumes, run, first_state, rv_run, EndedRunStays, StuckRunStays}

-- it does not go on
abbrev IsOver : RvOutcome × List ℕ → Type 0
IsOver result = Running ≡ result.0 → ⊥

over : (p : LoadedProgram) (input : List ℕ) (result : RvOutcome × List ℕ) → IsOver result → (n m : ℕ) (s : Machine) → n ≤ m → run p input n s ≡ result → run p input m s ≡ result
over p input result is zero m s le e = absurd (is (ap (λ r. r.0) e))
over p input result is (suc n) zero s le e = absurd (omega (arith, le))
over p input result is (suc n) (suc m) s le e = after (λ t. over p input result is n m t (omega (arith, le))) (step p input s) e
  where
    after : ((t : Machine) → run p input n t ≡ result → run p input m t ≡ result) → (next : Next) → resumes s next (run p input n) ≡ result → resumes s next (run p input m) ≡ result
    after later (Goes t) f = later t f
    after later (Ends status) f = f
    after later Sticks f = f

over_stays : (asm : AsmUnit) (layout : Layout) (first_stack : ℕ → ℕ) (input : List ℕ) (result : RvOutcome × List ℕ) → IsOver result → (n m : ℕ) → n ≤ m → rv_run asm layout first_stack input n ≡ result → rv_run asm layout first_stack input m ≡ result
unfolding rv_run
over_stays asm layout first_stack input result is n m le = by (holds layout (code_size asm) (data_size asm.items))
  where
    runs : ℕ → RvOutcome × List ℕ
    runs k = run (loaded asm layout) input k (first_state (loaded asm layout) first_stack)

    by : (b : Bool) → cond b (runs n) (Stuck layout.code, []) ≡ result → cond b (runs m) (Stuck layout.code, []) ≡ result
    by true e = over (loaded asm layout) input result is n m (first_state (loaded asm layout) first_stack) le e
    by false e = e

pub ended_stays : EndedRunStays
ended_stays asm layout first_stack input steps status out e more le = over_stays asm layout first_stack input (Ended status, out) (λ f. absurd (cc f)) steps more le e

pub stuck_stays : StuckRunStays
stuck_stays asm layout first_stack input steps pc out e more le = over_stays asm layout first_stack input (Stuck pc, out) (λ f. absurd (cc f)) steps more le e
