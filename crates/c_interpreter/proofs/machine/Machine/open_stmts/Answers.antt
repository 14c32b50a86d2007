use Rattle.c_types.specs.Forms.{stmt_row}
use Rattle.c_interpreter.specs.declared.frame.Task.TheVariants as task
use Rattle.c_interpreter.specs.Leading.{task_meaning}
use Rattle.c_interpreter.specs.Weights.{size_stmts}
use Rattle.c_interpreter.specs.Machine.{seen}
use Rattle.c_interpreter.proofs.Resume.{settled}
use Rattle.c_interpreter.proofs.Stmts.{open_stmts, end_stmts}
use Rattle.c_interpreter.proofs.Plain.{last_stmt, empty_is}
use Rattle.c_interpreter.proofs.machine.Machine.open_stmts.Goals as goal

pub returns-in-Some : goal.returns-in-Some
returns-in-Some c = settled c.args.place.now (seen c.args.self.now) _ _ _ (last_stmt c.args.stmts c.in-Some.rest c.in-Some.first c.in-Some.ensures (empty_is c.in-Some.rest.now c.is_empty.result c.is_empty.ensures c.if-is_empty.true)) c.requires

pub returns-in-Some-2 : goal.returns-in-Some-2
returns-in-Some-2 c =
    c.push.ensures c.args.place.now (task_meaning (task.Stmts c.args.stmts)) (size_stmts (stmt_row c.args.stmts.now))
    (open_stmts c.args.stmts c.in-Some.rest c.in-Some.first c.in-Some.ensures) c.requires

pub returns-in-None : goal.returns-in-None
returns-in-None c = settled c.args.place.now (seen c.args.self.now) _ _ _ (end_stmts c.args.stmts c.in-None.ensures) c.requires
