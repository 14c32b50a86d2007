use Rattle.std.proofs.Common.{refl, sym}
use Rattle.c_types.specs.Forms.{put_char}
use Rattle.c_types.proofs.FormLaws.{put_char_is}
use Rattle.c_interpreter.specs.declared.frame.Frame.TheVariants as frame
use Rattle.c_interpreter.specs.Machine.{seen}
use Rattle.c_interpreter.specs.Leading.{expr_meaning}
use Rattle.c_interpreter.specs.Weights.{size}
use Rattle.c_interpreter.proofs.Opening.{open_put_char}
use Rattle.c_interpreter.proofs.Plain.{opened_plain_if}
use Rattle.c_interpreter.proofs.machine.Machine.open_put_char.Goals as goal

pub returns-in-Some : goal.returns-in-Some
returns-in-Some c =
    opened_plain_if c.args.place.now (seen c.args.self.now) (seen c.put_char.new.self) _ _ frame.PutChar c.args.value _ c.put_char.result
    (open_put_char _ _ _ (sym (put_char_is c.args.value.now)) refl) c.in-Some.ensures c.put_char.ensures

pub returns-in-None : goal.returns-in-None
returns-in-None c =
    c.push.ensures c.args.place.now (expr_meaning (put_char c.args.value.now)) (size (put_char c.args.value.now))
    (open_put_char _ _ _ (sym (put_char_is c.args.value.now)) refl) c.requires
