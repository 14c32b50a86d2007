use Rattle.std.proofs.Common.{rules}
use Rattle.c_interpreter.specs.Machine.{seen}
use Rattle.c_interpreter.proofs.Plain.{last_argument, empty_is}
use Rattle.c_interpreter.proofs.machine.Machine.add_argument.Goals as goal

pub returns : goal.returns
returns c = last_argument c.args.place.now (seen c.args.self.now) c.args.word c.args.rest c.push-2.new.self.items (empty_is c.args.rest.now c.is_empty.result c.is_empty.ensures c.if-not-is_empty.false) (search rules) c.requires
