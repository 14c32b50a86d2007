use Rattle.c_meanings.proofs.MeaningLaws.{pushed_ready}
use Rattle.c_meanings.proofs.meanings.Meanings.push.Goals as goal

pub returns : goal.returns
returns c = λ table old answer r within row slot.
    pushed_ready table c.args.node old c.args.self.now answer c.args.judged r within row slot c.push.new.self c.in_ok-push.ensures.slots
