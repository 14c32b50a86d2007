use Rattle.c_types.specs.Forms.{expr_row}
use Rattle.c_interpreter.specs.declared.frame.Task.TheVariants as task
use Rattle.c_interpreter.specs.Leading.{task_meaning}
use Rattle.c_interpreter.specs.Weights.{sizes}
use Rattle.c_interpreter.specs.Machine.{seen}
use Rattle.c_interpreter.proofs.Stmts.{open_exprs, end_exprs}
use Rattle.c_interpreter.proofs.machine.Machine.open_exprs.Goals as goal

pub returns-in-Some : goal.returns-in-Some
returns-in-Some c =
    c.push.ensures c.args.place.now (task_meaning (task.Exprs c.args.exprs)) (sizes (expr_row c.args.exprs.now))
    (open_exprs c.args.exprs c.in-Some.rest c.in-Some.first c.in-Some.ensures) c.requires

pub returns-in-None : goal.returns-in-None
returns-in-None c =
    end_exprs c.args.place.now (seen c.args.self.now) c.clear.new.self.items c.args.exprs c.in-None.ensures c.clear.ensures.items c.requires
