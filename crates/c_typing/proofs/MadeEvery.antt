-- What is said of every expression and statement in another one.
use Rattle.std.proofs.Common.{List, [], ◌∷◌}
use Rattle.std.specs.List.{AllByRecursion}
use mathlib.Core.Former.{Count}
use Rattle.c_types.specs.declared.tree.Expr.{Expr}
use Rattle.c_types.specs.declared.tree.Stmt.{Stmt}
use Rattle.c_types.specs.declared.tree.Group.{Group}
use Rattle.c_types.specs.Forms.{ExprRow, no_exprs, an_expr, const, address, local, set_local, load, store, binary, convert, both, either, choose, seq, call, get_char, put_char, copy, StmtRow, no_stmts, a_stmt, GroupRow, no_groups, a_group, block, drop_expr, unset, return_with, if_else, loop, do_loop, break, continue, switch, stmt_row, group_row}
use Rattle.c_types.specs.Every.{EveryExpr, EveryExprIn, EveryStmt, EveryStmtIn, EveryStmtOf}
use Rattle.c_typing.proofs.MadeGroups.{BodiesGood}

module _ (P R : Stmt → Type 0) (each : (s : Stmt) → P s → R s) where
  mutual
    pub every_stmt : (s : Stmt) → EveryStmt P s → EveryStmt R s
    every_stmt (block n ss) h = (each (block n ss) h.0, every_stmt_in ss h.1)
    every_stmt (if_else c a b) h = (each (if_else c a b) h.0, every_stmt a h.1, every_stmt b h.2)
    every_stmt (loop test step body) h = (each (loop test step body) h.0, every_stmt body h.1)
    every_stmt (do_loop body test) h = (each (do_loop body test) h.0, every_stmt body h.1)
    every_stmt (switch e n gs) h = (each (switch e n gs) h.0, every_stmt_of gs h.1)
    every_stmt (drop_expr e) h = each (drop_expr e) h
    every_stmt (unset x) h = each (unset x) h
    every_stmt (return_with e) h = each (return_with e) h
    every_stmt break h = each break h
    every_stmt continue h = each continue h

    every_stmt_in : {n : Count} (ss : StmtRow n) → EveryStmtIn P ss → EveryStmtIn R ss
    every_stmt_in no_stmts h = tt
    every_stmt_in (a_stmt s ss) h = (every_stmt s h.0, every_stmt_in ss h.1)

    every_stmt_of : {n : Count} (gs : GroupRow n) → EveryStmtOf P gs → EveryStmtOf R gs
    every_stmt_of no_groups h = tt
    every_stmt_of (a_group labels other n body gs) h = (every_stmt_in body h.0, every_stmt_of gs h.1)

module _ (P R : Expr → Type 0) (each : (e : Expr) → P e → R e) where
  mutual
    pub every_expr : (e : Expr) → EveryExpr P e → EveryExpr R e
    every_expr (set_local x e) h = (each (set_local x e) h.0, every_expr e h.1)
    every_expr (load k at) h = (each (load k at) h.0, every_expr at h.1)
    every_expr (store k at e) h = (each (store k at e) h.0, every_expr at h.1, every_expr e h.2)
    every_expr (binary op l r) h = (each (binary op l r) h.0, every_expr l h.1, every_expr r h.2)
    every_expr (convert to e) h = (each (convert to e) h.0, every_expr e h.1)
    every_expr (both l r) h = (each (both l r) h.0, every_expr l h.1, every_expr r h.2)
    every_expr (either l r) h = (each (either l r) h.0, every_expr l h.1, every_expr r h.2)
    every_expr (choose c a b) h = (each (choose c a b) h.0, every_expr c h.1, every_expr a h.2, every_expr b h.3)
    every_expr (seq l r) h = (each (seq l r) h.0, every_expr l h.1, every_expr r h.2)
    every_expr (call f n es) h = (each (call f n es) h.0, every_expr_in es h.1)
    every_expr (put_char e) h = (each (put_char e) h.0, every_expr e h.1)
    every_expr (copy size align to from) h = (each (copy size align to from) h.0, every_expr to h.1, every_expr from h.2)
    every_expr (const n) h = each (const n) h
    every_expr (address o a) h = each (address o a) h
    every_expr (local x) h = each (local x) h
    every_expr get_char h = each get_char h

    every_expr_in : {n : Count} (es : ExprRow n) → EveryExprIn P es → EveryExprIn R es
    every_expr_in no_exprs h = tt
    every_expr_in (an_expr e es) h = (every_expr e h.0, every_expr_in es h.1)

pub every_all : (P R : Expr → Type 0) → ((e : Expr) → P e → R e) → (es : List Expr) → AllByRecursion (EveryExpr P) es → AllByRecursion (EveryExpr R) es
every_all P R each [] h = tt
every_all P R each (e ∷ es) h = (every_expr P R each e h.0, every_all P R each es h.1)

module _ (P : Stmt → Type 0) where
  pub every_row : (ss : List Stmt) → AllByRecursion (EveryStmt P) ss → EveryStmtIn P (stmt_row ss)
  every_row [] h = tt
  every_row (s ∷ ss) h = (h.0, every_row ss h.1)

  pub every_groups : (gs : List Group) → BodiesGood (EveryStmt P) gs → EveryStmtOf P (group_row gs)
  every_groups [] h = tt
  every_groups (g ∷ gs) h = (every_row g.body h.0, every_groups gs h.1)
