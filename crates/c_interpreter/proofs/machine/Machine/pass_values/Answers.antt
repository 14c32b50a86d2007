use Rattle.c_interpreter.specs.Machine.{seen}
use Rattle.c_interpreter.proofs.Resume.{sound_below, pass_values}
use Rattle.c_interpreter.proofs.machine.Machine.pass_values.Goals as goal

pub gather-requires : goal.gather-requires
gather-requires c = sound_below (seen c.pop.new.self) (seen c.args.self.now) c.in-Some.frame c.in-Some.ensures c.requires.sound

pub returns : goal.returns
returns c =
    pass_values c.args.place.now (seen c.pop.new.self) (seen c.args.self.now) c.in-Some.frame c.in-Some.ensures (seen c.gather.new.self)
    c.gather.result c.gather.ensures
