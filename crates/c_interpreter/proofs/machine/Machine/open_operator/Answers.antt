use Rattle.std.proofs.Common.{refl, sym}
use Rattle.c_types.specs.Forms.{binary}
use Rattle.c_types.proofs.FormLaws.{binary_is}
use Rattle.c_interpreter.specs.declared.frame.Frame.TheVariants as frame
use Rattle.c_interpreter.specs.Machine.{seen}
use Rattle.c_interpreter.specs.Leading.{expr_meaning}
use Rattle.c_interpreter.specs.Weights.{size}
use Rattle.c_interpreter.proofs.Opening.{open_binary}
use Rattle.c_interpreter.proofs.Plain.{opened_plain_if}
use Rattle.c_interpreter.proofs.machine.Machine.open_operator.Goals as goal

pub returns-in-Some : goal.returns-in-Some
returns-in-Some c =
    opened_plain_if c.args.place.now (seen c.args.self.now) (seen c.operate.new.self) _ _ (frame.BinaryLeft c.args.operator c.args.right) c.args.left _ c.operate.result
    (open_binary _ _ _ _ _ _ (sym (binary_is c.args.operator c.args.left.now c.args.right.now)) refl refl) c.in-Some.ensures c.operate.ensures

pub returns-in-None : goal.returns-in-None
returns-in-None c =
    c.push.ensures c.args.place.now (expr_meaning (binary c.args.operator c.args.left.now c.args.right.now)) (size (binary c.args.operator c.args.left.now c.args.right.now))
    (open_binary _ _ _ _ _ _ (sym (binary_is c.args.operator c.args.left.now c.args.right.now)) refl refl) c.requires
