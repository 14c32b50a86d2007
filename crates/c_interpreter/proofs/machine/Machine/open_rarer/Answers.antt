use Rattle.std.proofs.Common.{sym, ap, ◌∙◌}
use Rattle.c_types.specs.Forms.{put_char}
use Rattle.c_types.proofs.FormLaws.{put_char_is}
use Rattle.c_interpreter.specs.Machine.{seen}
use Rattle.c_interpreter.proofs.Plain.{whole_if}
use Rattle.c_interpreter.specs.Leading.{expr_meaning}
use Rattle.c_interpreter.specs.Weights.{size}
use Rattle.c_interpreter.proofs.Opening.{open_convert, open_both, open_either, open_choose, open_seq, open_copy}
use Rattle.c_interpreter.proofs.machine.Machine.open_rarer.Goals as goal

pub returns-in-Convert : goal.returns-in-Convert
returns-in-Convert c =
    c.push.ensures c.args.place.now (expr_meaning c.args.expr.now) (size c.args.expr.now)
    (open_convert _ _ _ _ c.in-Convert.is c.get.ensures) c.requires.sound

pub returns-in-Both : goal.returns-in-Both
returns-in-Both c =
    c.push-in-Both.ensures c.args.place.now (expr_meaning c.args.expr.now) (size c.args.expr.now)
    (open_both _ _ _ _ _ c.in-Both.is c.get-in-Both-2.ensures c.get-in-Both.ensures) c.requires.sound

pub returns-in-Either : goal.returns-in-Either
returns-in-Either c =
    c.push-in-Either.ensures c.args.place.now (expr_meaning c.args.expr.now) (size c.args.expr.now)
    (open_either _ _ _ _ _ c.in-Either.is c.get-in-Either-2.ensures c.get-in-Either.ensures) c.requires.sound

pub returns-in-Choose : goal.returns-in-Choose
returns-in-Choose c =
    c.push-in-Choose.ensures c.args.place.now (expr_meaning c.args.expr.now) (size c.args.expr.now)
    (open_choose _ _ _ _ _ _ _ c.in-Choose.is c.get-in-Choose-3.ensures c.get-in-Choose.ensures c.get-in-Choose-2.ensures) c.requires.sound

pub returns-in-Seq : goal.returns-in-Seq
returns-in-Seq c =
    c.push-in-Seq.ensures c.args.place.now (expr_meaning c.args.expr.now) (size c.args.expr.now)
    (open_seq _ _ _ _ _ c.in-Seq.is c.get-in-Seq-2.ensures c.get-in-Seq.ensures) c.requires.sound

pub returns-in-PutChar : goal.returns-in-PutChar
returns-in-PutChar c =
    whole_if c.args.place.now (seen c.args.self.now) (seen c.open_put_char.new.self) c.args.expr.now _ c.open_put_char.result
    (c.in-PutChar.is ∙ put_char_is _ ∙ ap put_char (sym c.get-in-PutChar.ensures)) c.open_put_char.ensures

pub returns-in-Copy : goal.returns-in-Copy
returns-in-Copy c =
    c.push-in-Copy.ensures c.args.place.now (expr_meaning c.args.expr.now) (size c.args.expr.now)
    (open_copy _ _ _ _ _ _ _ c.in-Copy.is c.get-in-Copy-2.ensures c.get-in-Copy.ensures) c.requires.sound
