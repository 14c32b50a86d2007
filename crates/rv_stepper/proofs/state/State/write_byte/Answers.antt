use Rattle.std.proofs.Common.{ap, ◌∙◌, [], ◌∷◌, ◌++◌}
use Rattle.rv_code.specs.Machine.{gives}
use Rattle.rv_stepper.specs.States.{machine_of}
use Rattle.rv_stepper.proofs.Calls.{byte_is}
use Rattle.rv_stepper.proofs.state.State.write_byte.Goals as goal

pub returns-clause-step : goal.returns-clause-step
returns-clause-step c = λ out.
    c.put.ensures.step (out ++ c.in-Some.byte ∷ [])
    ∙ ap (λ b. gives (machine_of c.args.self.now (out ++ b ∷ [])) 10 1) (byte_is c.args.self.now.memory c.word.result _ c.in-Some.byte c.byte.result c.byte.ensures c.word.ensures c.requires c.in-Some.is)
