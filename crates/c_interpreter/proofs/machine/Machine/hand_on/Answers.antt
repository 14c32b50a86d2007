use Rattle.c_interpreter.specs.Machine.{seen}
use Rattle.c_interpreter.proofs.OutputLaws.{handed_on_if}
use Rattle.c_interpreter.proofs.machine.Machine.hand_on.Goals as goal

pub returns-clause-way : goal.returns-clause-way
returns-clause-way g c place ran bound told task way =
    handed_on_if place ran bound told c.flush.result (seen c.args.self.now) (seen c.flush.new.self) task _ _ way c.flush.ensures.rest c.flush.ensures.ok
