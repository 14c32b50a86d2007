-- The unit that was read is the one that the text is, and its assembly does what that unit says.
use Rattle.std.proofs.Common.{◌≡◌, ℕ, List, sym, ap, ◌∙◌, subst}
use Rattle.rv_code.specs.declared.assembly.AsmUnit.{AsmUnit}
use Rattle.rv_code.specs.WellFormed.{IsWellFormed}
use Rattle.cp_first.specs.FirstForm.{IsFirst}
use Rattle.cp_first.specs.FirstUnit.{first_unit}
use Rattle.cp_first.specs.FirstAssembly.{MachineWrites, IsAssemblyOf}
use Rattle.cp_first.proofs.FirstForms.{one_first}
use Rattle.cp_first.proofs.FirstRuns.{first_unit_runs}
use Rattle.cp_first.proofs.FirstWellFormed.{first_unit_is_well_formed}

pub is_assembly : (text bytes : List ℕ) (status : ℕ) (asm : AsmUnit) → IsFirst text bytes status → asm ≡ first_unit bytes status → IsAssemblyOf text asm
is_assembly text bytes status asm f e = record {
  first = (bytes, status, f);
  unit = same;
  well_formed = subst IsWellFormed (sym e) (first_unit_is_well_formed bytes status f.each f.last);
  runs = λ bytes' status' g. subst (λ a. MachineWrites a bytes' status') (sym (same bytes' status' g))
      (λ layout holds room first_stack input. first_unit_runs bytes' status' layout holds room first_stack input g.each g.last);
}
  where
    same : (bytes' : List ℕ) (status' : ℕ) → IsFirst text bytes' status' → asm ≡ first_unit bytes' status'
    same bytes' status' g =
        let one = one_first text bytes bytes' status status' f g in
        e ∙ ap (λ bs. first_unit bs status) one.0 ∙ ap (first_unit bytes') one.1
