use Rattle.c_interpreter.specs.Machine.{seen}
use Rattle.c_interpreter.proofs.Plain.{plain_const, plain_local}
use Rattle.c_interpreter.proofs.machine.Machine.plain_value.Goals as goal

pub returns-in-Const : goal.returns-in-Const
returns-in-Const c = plain_const (seen c.args.self.now) c.args.expr.now _ c.in-Const.is

pub returns-in-Local : goal.returns-in-Local
returns-in-Local c = plain_local (seen c.args.self.now) c.args.expr.now _ c.local.result c.in-Local.is c.local.ensures
