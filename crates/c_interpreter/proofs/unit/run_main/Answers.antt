use Rattle.std.proofs.Common.{refl}
use Rattle.cp_base.specs.declared.run_fault.RunFault.TheVariants.{OutOfMemory}
use Rattle.c_interpreter.specs.Machine.{seen}
use Rattle.c_interpreter.proofs.OutputLaws.{refused, nothing_gained}
use Rattle.c_interpreter.proofs.Starts.{starts, answer, fault}
use Rattle.c_interpreter.proofs.unit.run_main.Goals as goal

pub returns-in_err-places-clause-err : goal.returns-in_err-places-clause-err
returns-in_err-places-clause-err g c = refused c.from_residual.result _ OutOfMemory c.from_residual.ensures.1 (nothing_gained _ _)

pub returns-in_err-machine-clause-err : goal.returns-in_err-machine-clause-err
returns-in_err-machine-clause-err g c = refused c.from_residual-in_err-machine.result _ OutOfMemory c.from_residual-in_err-machine.ensures.1 (nothing_gained _ _)

pub returns-clause-ok : goal.returns-clause-ok
returns-clause-ok g c =
    answer c.run.result _ _ _ _
    (starts (record { unit = c.args.unit; offsets = c.as_slice.result; base = c.args.layout.now.cdata; input = c.args.input; depth = c.args.depth })
    (seen c.in_ok-machine.machine) c.args.unit.now c.args.layout.now c.args.input.now c.args.main.now (record { ref_ptr = c.args.main.ref_ptr; now = c.args.main.now.body }) c.args.depth c.args.turns refl refl refl refl refl
    c.requires.some c.requires.main c.in_ok-machine.ensures)
    c.run.ensures.ok

pub returns-clause-err : goal.returns-clause-err
returns-clause-err g c =
    fault c.run.result _ _ _ _ _ _
    (starts (record { unit = c.args.unit; offsets = c.as_slice.result; base = c.args.layout.now.cdata; input = c.args.input; depth = c.args.depth })
    (seen c.in_ok-machine.machine) c.args.unit.now c.args.layout.now c.args.input.now c.args.main.now (record { ref_ptr = c.args.main.ref_ptr; now = c.args.main.now.body }) c.args.depth c.args.turns refl refl refl refl refl
    c.requires.some c.requires.main c.in_ok-machine.ensures)
    c.run.ensures.err
