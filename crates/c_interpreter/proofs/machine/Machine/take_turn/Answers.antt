use Rattle.std.proofs.Common.{arith, ◌-◌}
use Rattle.c_interpreter.specs.Machine.{seen}
use Rattle.c_interpreter.proofs.TurnLaws.{turn_taken}
use Rattle.c_interpreter.proofs.machine.Machine.take_turn.Goals as goal

pub returns : goal.returns
returns c = turn_taken c.args.place.now (seen c.args.self.now) c.requires c.args.stmt (c.args.self.now.turns - 1) (omega (arith, c.if-self-eq0.false))
