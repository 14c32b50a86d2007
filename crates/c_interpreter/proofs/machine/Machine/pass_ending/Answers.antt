use Rattle.std.proofs.Common.{subst}
use Rattle.c_interpreter.specs.Machine.{seen, IsSound}
use Rattle.c_interpreter.proofs.Resume.{sound_below, pass_ending}
use Rattle.c_interpreter.proofs.machine.Machine.pass_ending.Goals as goal

pub finish-requires-clause-sound : goal.finish-requires-clause-sound
finish-requires-clause-sound c = sound_below (seen c.pop.new.self) (seen c.args.self.now) c.in-Some.frame c.in-Some.ensures c.requires.sound

pub finish-requires-clause-whole : goal.finish-requires-clause-whole
finish-requires-clause-whole c = subst IsSound c.in-Some.ensures c.requires.sound

pub returns : goal.returns
returns c =
    pass_ending c.args.place.now (seen c.pop.new.self) (seen c.args.self.now) c.in-Some.frame c.in-Some.ensures (seen c.finish.new.self)
    c.args.ending c.finish.result c.finish.ensures
