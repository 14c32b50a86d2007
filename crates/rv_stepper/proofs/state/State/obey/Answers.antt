use Rattle.std.proofs.Common.{◌∙◌, ap}
use Rattle.rv_code.specs.Machine.{executes}
use Rattle.rv_stepper.specs.States.{machine_of}
use Rattle.rv_stepper.proofs.Calls.{read_is}
use Rattle.rv_stepper.proofs.state.State.obey.Goals as goal

pub returns-clause-step : goal.returns-clause-step
returns-clause-step c = λ p out r.
    let m = machine_of c.args.self.now out in
    let i = c.args.instr in
    c.perform.ensures.step p out r
    ∙ c.effect_of-effect.ensures p c.args.input.now m i.rd
    ∙ ap (λ w. executes p c.args.input.now m i.name i.rd w c.word-two.result i.value) (c.word.ensures ∙ read_is c.args.self.now out i.rs1)
    ∙ ap (λ w. executes p c.args.input.now m i.name i.rd (Rattle.rv_code.specs.Machine.read m i.rs1) w i.value) (c.word-two.ensures ∙ read_is c.args.self.now out i.rs2)
