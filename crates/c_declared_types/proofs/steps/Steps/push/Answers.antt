use Rattle.std.proofs.Common.{refl}
use Rattle.c_declared_types.proofs.StepLaws.{steps_more}
use Rattle.c_declared_types.proofs.steps.Steps.push.Goals as goal

pub returns-clause-ok : goal.returns-clause-ok
returns-clause-ok c = λ k ss s h i.
    steps_more k c.args.self.now c.args.self.now.without_length c.push.new.self.items c.args.node c.args.step ss s refl c.in_ok-push.ensures.items h i
