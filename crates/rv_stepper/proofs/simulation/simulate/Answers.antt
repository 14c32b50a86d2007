use Rattle.rv_stepper.proofs.Simulations.{answers, refuses, stuck, made, none_made}
use Rattle.rv_stepper.proofs.simulation.simulate.Goals as goal

pub returns-in-Ok-clause-ok : goal.returns-in-Ok-clause-ok
returns-in-Ok-clause-ok g c =
    let image = made _ c.args.asm.now c.args.layout.now c.in-Ok-Some.field-0 c.in-Ok-Some.image c.in-Ok-Some.ensures c.in-Ok-Some.field-0-is in
    answers c.args.asm.now c.args.layout.now c.in-Ok-Some.image c.args.input.now c.args.steps _ _ c.run_image.result image c.run_image.ensures.ok

pub returns-in-Ok-clause-err : goal.returns-in-Ok-clause-err
returns-in-Ok-clause-err g c =
    let image = made _ c.args.asm.now c.args.layout.now c.in-Ok-Some.field-0 c.in-Ok-Some.image c.in-Ok-Some.ensures c.in-Ok-Some.field-0-is in
    refuses c.args.asm.now c.args.layout.now c.in-Ok-Some.image c.args.input.now c.args.steps _ _ _ _ c.run_image.result image c.run_image.ensures.err

pub returns-in-Ok-None-clause-ok : goal.returns-in-Ok-None-clause-ok
returns-in-Ok-None-clause-ok g c = stuck c.args.asm.now c.args.layout.now c.args.input.now c.args.steps _ (none_made _ c.args.asm.now c.args.layout.now c.in-Ok-None.field-0 c.in-Ok-None.ensures c.in-Ok-None.field-0-is)
