use Rattle.std.proofs.Common.{arith}
use Rattle.c_types.specs.Forms.{group_row}
use Rattle.c_interpreter.specs.declared.frame.Task.TheVariants as task
use Rattle.c_interpreter.specs.Leading.{task_meaning}
use Rattle.c_interpreter.specs.Weights.{size_groups}
use Rattle.c_interpreter.specs.Machine.{seen}
use Rattle.c_interpreter.proofs.Resume.{settled}
use Rattle.c_interpreter.proofs.Stmts.{open_groups, skip_group, end_groups}
use Rattle.c_interpreter.proofs.machine.Machine.open_groups.Goals as goal

pub returns-in-Some : goal.returns-in-Some
returns-in-Some c =
    settled c.args.place.now (seen c.args.self.now) _ _ _
    (skip_group c.args.groups c.in-Some.rest c.args.skipped _ _ (omega (arith, c.if-skipped-gt0.true)) c.in-Some.ensures) c.requires

pub returns-in-Some-2 : goal.returns-in-Some-2
returns-in-Some-2 c =
    c.push.ensures c.args.place.now (task_meaning (task.Groups c.args.skipped c.args.groups)) (size_groups (group_row c.args.groups.now))
    (open_groups c.args.groups c.in-Some.rest c.as_slice.result c.args.skipped c.in-Some.field-0-0.now (omega (arith, c.if-skipped-gt0.false)) c.in-Some.ensures c.as_slice.ensures) c.requires

pub returns-in-None : goal.returns-in-None
returns-in-None c = settled c.args.place.now (seen c.args.self.now) _ _ _ (end_groups c.args.groups c.args.skipped c.in-None.ensures) c.requires
