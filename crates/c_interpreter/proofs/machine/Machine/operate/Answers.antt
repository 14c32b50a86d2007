use Rattle.std.proofs.Common.{Some}
use Rattle.c_interpreter.specs.declared.frame.Frame.TheVariants as frame
use Rattle.c_interpreter.specs.Machine.{seen, Gave}
use Rattle.c_interpreter.specs.Leading.{frame_meaning}
use Rattle.c_interpreter.specs.Weights.{frame_weight}
use Rattle.c_interpreter.proofs.Plain.{operated, binary_opens}
use Rattle.c_interpreter.proofs.machine.Machine.operate.Goals as goal

pub returns-in-Some : goal.returns-in-Some
returns-in-Some c = operated c.args.place.now (seen c.args.self.now) c.args.operator c.args.left _ c.args.right c.operate.result c.known.result c.operate.ensures c.known.ensures c.in-Some.ensures c.requires

pub returns-in-None : goal.returns-in-None
returns-in-None c =
    c.push.ensures c.args.place.now (frame_meaning (frame.BinaryLeft c.args.operator c.args.right) (Gave (Some c.args.left))) (frame_weight (frame.BinaryLeft c.args.operator c.args.right))
    (binary_opens c.args.operator c.args.left c.args.right) c.requires
