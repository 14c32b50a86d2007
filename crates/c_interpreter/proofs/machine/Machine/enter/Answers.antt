use Rattle.std.proofs.Common.{◌+◌, ◌-◌, refl, rules, arith}
use Rattle.std.proofs.lemmas.Grind.{common_steps}
use Rattle.c_interpreter.specs.Machine.{seen}
use Rattle.c_interpreter.proofs.TurnLaws.{call_entered_at}
use Rattle.c_interpreter.proofs.machine.Machine.enter.Goals as goal

pub returns : goal.returns
returns c =
    call_entered_at c.args.place.now (seen c.args.self.now) c.requires.sound c.args.function _ (c.args.self.now.turns - 1) c.len-to.result
    (c.args.self.now.active + 1) c.move_arguments.new.arguments.items c.push.new.self.items c.push_unset.new.words.items
    refl (grind (arith, common_steps)) (let some = c.requires.some in omega (arith, some)) (search rules) (omega arith) (search rules) (search rules)
