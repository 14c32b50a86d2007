use Rattle.std.proofs.Common.{sym, ap₂, ◌∙◌}
use Rattle.c_types.specs.Forms.{binary}
use Rattle.c_types.proofs.FormLaws.{binary_is}
use Rattle.c_interpreter.specs.Machine.{seen}
use Rattle.c_interpreter.proofs.Plain.{whole_if}
use Rattle.c_interpreter.specs.Leading.{expr_meaning}
use Rattle.c_interpreter.specs.Weights.{size}
use Rattle.c_interpreter.proofs.Opening.{open_call, open_set_local, open_load, open_store}
use Rattle.c_interpreter.proofs.machine.Machine.open_expr.Goals as goal

pub returns-in-SetLocal : goal.returns-in-SetLocal
returns-in-SetLocal c =
    c.push.ensures c.args.place.now (expr_meaning c.args.expr.now) (size c.args.expr.now)
    (open_set_local _ _ _ _ c.in-SetLocal.is c.get.ensures) c.requires.sound

pub returns-in-Load : goal.returns-in-Load
returns-in-Load c =
    c.push-in-Load.ensures c.args.place.now (expr_meaning c.args.expr.now) (size c.args.expr.now)
    (open_load _ _ _ _ c.in-Load.is c.get-in-Load.ensures) c.requires.sound

pub returns-in-Store : goal.returns-in-Store
returns-in-Store c =
    c.push-in-Store.ensures c.args.place.now (expr_meaning c.args.expr.now) (size c.args.expr.now)
    (open_store _ _ _ _ _ _ c.in-Store.is c.get-in-Store-2.ensures c.get-in-Store.ensures) c.requires.sound

pub returns-in-Binary : goal.returns-in-Binary
returns-in-Binary c =
    whole_if c.args.place.now (seen c.args.self.now) (seen c.open_operator.new.self) c.args.expr.now _ c.open_operator.result
    (c.in-Binary.is ∙ binary_is _ _ _ ∙ ap₂ (binary _) (sym c.get-in-Binary.ensures) (sym c.get-in-Binary-2.ensures)) c.open_operator.ensures

pub returns-in-Call : goal.returns-in-Call
returns-in-Call c =
    c.push-in-Call.ensures c.args.place.now (expr_meaning c.args.expr.now) (size c.args.expr.now)
    (open_call _ _ _ _ c.in-Call.is c.as_slice.ensures) c.requires.sound
