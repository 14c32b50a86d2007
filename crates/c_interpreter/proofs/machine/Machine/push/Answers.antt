use Rattle.std.proofs.Common.{rules, refl}
use Rattle.c_interpreter.specs.Machine.{seen}
use Rattle.c_interpreter.proofs.Resume.{opened}
use Rattle.c_interpreter.proofs.machine.Machine.push.Goals as goal

pub returns : goal.returns
returns c place meaning heavy opens sound =
    opened place (seen c.args.self.now) _ meaning heavy c.args.task _ c.args.frame opens sound (search rules) refl
