use Rattle.std.proofs.Common.{refl}
use Rattle.c_interpreter.specs.Leading.{stmt_meaning}
use Rattle.c_interpreter.specs.Weights.{size_stmt}
use Rattle.c_interpreter.specs.Machine.{seen}
use Rattle.c_interpreter.proofs.Resume.{settled}
use Rattle.c_interpreter.proofs.Locals.{unset_at}
use Rattle.c_interpreter.proofs.Stmts.{open_block, open_if, open_switch, open_do}
use Rattle.c_interpreter.proofs.machine.Machine.open_stmt.Goals as goal

pub returns-in-Block : goal.returns-in-Block
returns-in-Block c = settled c.args.place.now (seen c.args.self.now) _ _ _ (open_block c.args.stmt.now c.as_slice.result _ c.in-Block.is c.as_slice.ensures) c.requires

pub returns-in-Unset : goal.returns-in-Unset
returns-in-Unset c = unset_at c.args.place.now (seen c.args.self.now) (seen c.set_local.new.self) _ c.args.stmt c.in-Unset.is c.set_local.ensures c.requires

pub returns-in-If : goal.returns-in-If
returns-in-If c =
    c.push-in-If.ensures c.args.place.now (stmt_meaning c.args.stmt.now) (size_stmt c.args.stmt.now)
    (open_if c.args.stmt.now _ _ _ _ _ _ c.in-If.is c.get-in-If-3.ensures c.get-in-If.ensures c.get-in-If-2.ensures) c.requires

pub returns-in-Switch : goal.returns-in-Switch
returns-in-Switch c =
    c.push-in-Switch.ensures c.args.place.now (stmt_meaning c.args.stmt.now) (size_stmt c.args.stmt.now)
    (open_switch c.args.stmt.now _ _ _ _ c.in-Switch.is c.get-in-Switch.ensures c.as_slice-in-Switch.ensures) c.requires

pub returns-in-DoLoop : goal.returns-in-DoLoop
returns-in-DoLoop c =
    c.push-in-DoLoop.ensures c.args.place.now (stmt_meaning c.args.stmt.now) (size_stmt c.args.stmt.now)
    (open_do c.args.stmt.now c.args.stmt _ _ _ _ c.in-DoLoop.is refl c.get-in-DoLoop-2.ensures c.get-in-DoLoop.ensures) c.requires
