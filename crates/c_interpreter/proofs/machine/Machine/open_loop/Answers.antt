use Rattle.std.proofs.Common.{refl, ap, ◌∙◌}
use Rattle.c_types.specs.declared.tree.Stmt.TheVariants as stmt
use Rattle.c_interpreter.specs.Leading.{stmt_meaning}
use Rattle.c_interpreter.specs.Weights.{size_stmt}
use Rattle.c_interpreter.proofs.Stmts.{open_loop, open_endless}
use Rattle.c_interpreter.proofs.machine.Machine.open_loop.Goals as goal

pub returns-in-Some : goal.returns-in-Some
returns-in-Some c =
    c.push.ensures c.args.place.now (stmt_meaning c.args.stmt.now) (size_stmt c.args.stmt.now)
    (open_loop c.args.stmt.now c.args.stmt c.args.step c.args.body c.args.body.now c.args.step.now c.get.result _ (c.requires.is ∙ ap (λ test. stmt.Loop test c.args.step.now c.args.body.now) c.in-Some.is) refl refl refl c.get.ensures) c.requires.sound

pub returns-in-None : goal.returns-in-None
returns-in-None c =
    c.push-in-None.ensures c.args.place.now (stmt_meaning c.args.stmt.now) (size_stmt c.args.stmt.now)
    (open_endless c.args.stmt.now c.args.stmt c.args.step c.args.body c.args.body.now c.args.step.now (c.requires.is ∙ ap (λ test. stmt.Loop test c.args.step.now c.args.body.now) c.in-None.is) refl refl refl) c.requires.sound
