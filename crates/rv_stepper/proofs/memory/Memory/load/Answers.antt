use Rattle.rv_stepper.proofs.Spaces.{loaded}
use Rattle.rv_stepper.proofs.memory.Memory.load.Goals as goal

pub returns : goal.returns
returns c = loaded _ _ c.args.kind c.args.address c.width_of.result c.in_ok-index.index _ _ c.self.view_is c.self.invariant.1 c.width_of.ensures.value c.in_ok-index.ensures.place c.as_slice.ensures.value c.read.ensures
