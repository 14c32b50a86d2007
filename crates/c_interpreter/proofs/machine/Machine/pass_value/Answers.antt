use Rattle.c_interpreter.specs.Machine.{seen}
use Rattle.c_interpreter.proofs.Resume.{sound_below, pass_value}
use Rattle.c_interpreter.proofs.machine.Machine.pass_value.Goals as goal

pub give-requires : goal.give-requires
give-requires c = sound_below (seen c.pop.new.self) (seen c.args.self.now) c.in-Some.frame c.in-Some.ensures c.requires.sound

pub returns : goal.returns
returns c =
    pass_value c.args.place.now (seen c.pop.new.self) (seen c.args.self.now) c.in-Some.frame c.in-Some.ensures (seen c.give.new.self)
    c.args.word c.give.result c.give.ensures
