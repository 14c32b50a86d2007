-- How many steps the interpreter takes at most before the next turn. No public clause names it.
use Rattle.std.specs.Prelude.{ℕ, ◌+◌, List, [], ◌∷◌, Option, Some, None}
use mathlib.Core.Former.{Count}
use Rattle.c_types.specs.declared.tree.Expr.{Expr}
use Rattle.c_types.specs.declared.tree.Stmt.{Stmt}
use Rattle.c_types.specs.Forms.{ExprRow, no_exprs, an_expr, expr_row, stmt_row, group_row, set_local, load, store, binary, convert, both, either, choose, seq, call, put_char, copy, StmtRow, no_stmts, a_stmt, GroupRow, no_groups, a_group, block, drop_expr, return_with, if_else, loop, do_loop, switch}
use Rattle.c_interpreter.specs.declared.frame.Frame.{Frame}
use Rattle.c_interpreter.specs.declared.frame.Frame.TheVariants as frame
use Rattle.c_interpreter.specs.declared.frame.Task.{Task}
use Rattle.c_interpreter.specs.declared.frame.Task.TheVariants as task
use Rattle.c_interpreter.specs.Machine.{Configuration}

abbrev mutual
  pub size : Expr → ℕ
  size (set_local x e) = size e + 2
  size (load kind e) = size e + 2
  size (store kind l r) = size l + (size r + 3)
  size (copy bytes align l r) = size l + (size r + 3)
  size (binary op l r) = size l + (size r + 3)
  size (convert to e) = size e + 2
  size (both l r) = size l + (size r + 3)
  size (either l r) = size l + (size r + 3)
  size (choose c a b) = size c + (size a + size b + 2)
  size (seq l r) = size l + (size r + 2)
  size (call function n arguments) = sizes arguments + 3
  size (put_char e) = size e + 2
  size e = 1

  pub sizes : {n : Count} → ExprRow n → ℕ
  sizes no_exprs = 1
  sizes (an_expr e es) = size e + (sizes es + 3)

abbrev pub size_of : Option Expr → ℕ
size_of (Some e) = size e
size_of None = 0

abbrev mutual
  pub size_stmt : Stmt → ℕ
  size_stmt (block n ss) = size_stmts ss + 1
  size_stmt (drop_expr e) = size e + 2
  size_stmt (return_with e) = size_of e + 2
  size_stmt (if_else c a b) = size c + (size_stmt a + size_stmt b + 2)
  size_stmt (loop test step body) = size_of test + (size_stmt body + (size_of step + 4))
  size_stmt (do_loop body test) = size_stmt body + (size test + 4)
  size_stmt (switch e n gs) = size e + (size_groups gs + 3)
  size_stmt s = 1

  pub size_stmts : {n : Count} → StmtRow n → ℕ
  size_stmts no_stmts = 1
  size_stmts (a_stmt s ss) = size_stmt s + (size_stmts ss + 2)

  pub size_groups : {n : Count} → GroupRow n → ℕ
  size_groups no_groups = 1
  size_groups (a_group labels other n body gs) = size_stmts body + (size_groups gs + 2)

abbrev pub frame_weight : Frame → ℕ
frame_weight (frame.StoreTo kind e) = size e.now + 2
frame_weight (frame.CopyTo bytes align e) = size e.now + 2
frame_weight (frame.BinaryLeft op e) = size e.now + 2
frame_weight (frame.Both e) = size e.now + 2
frame_weight (frame.Either e) = size e.now + 2
frame_weight (frame.Choose a b) = size a.now + size b.now + 1
frame_weight (frame.Seq e) = size e.now + 1
frame_weight (frame.Arguments es) = sizes (expr_row es.now) + 2
frame_weight (frame.If a b) = size_stmt a.now + size_stmt b.now + 1
frame_weight (frame.Switch gs) = size_groups (group_row gs.now) + 2
frame_weight (frame.Stmts ss) = size_stmts (stmt_row ss.now) + 1
frame_weight (frame.Groups gs) = size_groups (group_row gs.now) + 1
frame_weight (frame.LoopTest whole step body) = size_stmt body.now + (size_of step.now + 3)
frame_weight (frame.LoopBody whole step) = size_of step.now + 2
frame_weight (frame.DoLoopBody whole test) = size test.now + 2
frame_weight f = 1

abbrev pub task_weight : Task → ℕ
task_weight (task.Expr e) = size e.now
task_weight (task.Exprs es) = sizes (expr_row es.now)
task_weight (task.Stmt st) = size_stmt st.now
task_weight (task.Stmts ss) = size_stmts (stmt_row ss.now)
task_weight (task.Groups skipped gs) = size_groups (group_row gs.now)
task_weight t = 0

abbrev pub frames_weight : List Frame → ℕ
frames_weight [] = 0
frames_weight (f ∷ fs) = frame_weight f + frames_weight fs

abbrev pub weight : Configuration → Task → ℕ
weight c t = task_weight t + frames_weight c.frames
