use Rattle.c_interpreter.specs.Machine.{seen}
use Rattle.c_interpreter.proofs.Locals.{set_local_at}
use Rattle.c_interpreter.proofs.machine.Machine.go_on.Goals as goal

pub returns-in-SetLocal : goal.returns-in-SetLocal
returns-in-SetLocal c =
    set_local_at c.args.place.now (seen c.args.self.now) (seen c.set_local.new.self) c.args.frame c.in-SetLocal.local c.args.word c.in-SetLocal.is c.set_local.ensures c.requires
