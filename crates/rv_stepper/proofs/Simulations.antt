-- The run of a unit in the memory of the stepper is the run of the unit.
use Rattle.std.proofs.Common.{◌≡◌, ℕ, false, List, [], Option, Some, None, sym, ap, ◌∙◌, subst}
use Rattle.std.specs.Prelude.{MatchOption, Result, Ok, Err, IfOk, IfErr, if◌then◌else◌}
use Rattle.cp_base.specs.declared.layout.Layout.{Layout}
use Rattle.cp_base.specs.declared.run_fault.RunFault.{RunFault}
use Rattle.cp_base.specs.Outside.{gained}
use Rattle.cp_base.specs.Regions.{holds}
use Rattle.cp_base.proofs.Gains.{gained-nothing}
use Rattle.rv_code.specs.declared.machine.RvOutcome.{RvOutcome}
use Rattle.rv_code.specs.declared.machine.RvOutcome.TheVariants.{Stuck}
use Rattle.rv_code.specs.declared.assembly.AsmUnit.{AsmUnit}
use Rattle.rv_code.specs.Sizes.{data_size}
use Rattle.rv_code.specs.Loading.{code_size}
use Rattle.rv_code.specs.Machine.{LoadedProgram, loaded, run, first_state, rv_run}
use Rattle.rv_stepper.specs.declared.load.Image.{Image}
use Rattle.rv_stepper.specs.States.{machine_of}
use Rattle.rv_stepper.specs.Output.{IsOf, HasRun}
use Rattle.rv_stepper.specs.Images.{IsImage}
use Rattle.rv_stepper.specs.Simulation.{Answers, Refuses}

run_is : (asm : AsmUnit) (layout : Layout) (image : Image) (input : List ℕ) (steps : ℕ) → IsImage asm layout image → run (loaded asm layout) input steps (machine_of image.state []) ≡ rv_run asm layout (λ _. 0) input steps
unfolding rv_run
run_is asm layout image input steps i =
    ap (run (loaded asm layout) input steps) i.first
    ∙ ap (λ b. if b then run (loaded asm layout) input steps (first_state (loaded asm layout) (λ _. 0)) else (Stuck layout.code, [])) (sym i.held)

pub answers : (asm : AsmUnit) (layout : Layout) (image : Image) (input : List ℕ) (steps : ℕ) (old new : Option (List ℕ)) (r : Result RvOutcome RunFault) → IsImage asm layout image → IfOk r (λ outcome. (p : LoadedProgram) → IsOf p image.code.items image.state → HasRun old new outcome (run p input steps (machine_of image.state []))) → IfOk r (λ outcome. Answers old new outcome (rv_run asm layout (λ _. 0) input steps))
answers asm layout image input steps old new (Err fault) i h = tt
answers asm layout image input steps old new (Ok outcome) i h =
    let has = h (loaded asm layout) i.program in
    let same = run_is asm layout image input steps i in
    record { same = has.same ∙ ap (λ r. r.0) same; gains = has.told ∙ ap (λ r. gained old r.1) same }

pub refuses : (asm : AsmUnit) (layout : Layout) (image : Image) (input : List ℕ) (steps : ℕ) (old new : Option (List ℕ)) (faults_old faults_new : ℕ) (r : Result RvOutcome RunFault) → IsImage asm layout image → IfErr r (λ fault. (p : LoadedProgram) → IsOf p image.code.items image.state → Refuses fault old new faults_old faults_new (run p input steps (machine_of image.state [])).1) → IfErr r (λ fault. Refuses fault old new faults_old faults_new (rv_run asm layout (λ _. 0) input steps).1)
refuses asm layout image input steps old new faults_old faults_new (Ok outcome) i h = tt
refuses asm layout image input steps old new faults_old faults_new (Err fault) i h =
    subst (λ (r : RvOutcome × List ℕ). Refuses fault old new faults_old faults_new r.1) (run_is asm layout image input steps i) (h (loaded asm layout) i.program)

-- a layout that does not hold the unit
pub stuck : (asm : AsmUnit) (layout : Layout) (input : List ℕ) (steps : ℕ) (told : Option (List ℕ)) → holds layout (code_size asm) (data_size asm.items) ≡ false → Answers told told (Stuck layout.code) (rv_run asm layout (λ _. 0) input steps)
unfolding rv_run
stuck asm layout input steps told e =
    let same : (Stuck layout.code, []) ≡ rv_run asm layout (λ _. 0) input steps =
    ap (λ b. if b then run (loaded asm layout) input steps (first_state (loaded asm layout) (λ _. 0)) else (Stuck layout.code, [])) (sym e) in
    record { same = ap (λ r. r.0) same; gains = sym (gained-nothing told) ∙ ap (λ (r : RvOutcome × List ℕ). gained told r.1) same }

pub made : (X : Type 0) (asm : AsmUnit) (layout : Layout) (o : Option Image) (image : Image) → MatchOption o X (λ i. IsImage asm layout i) → o ≡ Some image → IsImage asm layout image
made X asm layout None image h e = absurd (cc e)
made X asm layout (Some x) image h e = let same : x ≡ image = cc in subst (λ i. IsImage asm layout i) same h

pub none_made : (X : Type 0) (asm : AsmUnit) (layout : Layout) (o : Option Image) → MatchOption o X (λ i. IsImage asm layout i) → o ≡ None → X
none_made X asm layout None h e = h
none_made X asm layout (Some x) h e = absurd (cc e)
