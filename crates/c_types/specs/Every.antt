-- What is said of every expression or statement of a unit.
use Rattle.std.specs.Prelude.{List, [], ◌∷◌, ◌++◌, Option, Some, None}
use Rattle.std.specs.List.{AllByRecursion}
use mathlib.Core.Former.{Count}
use Rattle.c_types.specs.declared.tree.Expr.{Expr}
use Rattle.c_types.specs.declared.tree.Stmt.{Stmt}
use Rattle.c_types.specs.declared.tree.Func.{Func}
use Rattle.c_types.specs.declared.tree.Unit.{Unit as Whole}
use Rattle.c_types.specs.Forms.{ExprRow, no_exprs, an_expr, set_local, load, store, binary, convert, both, either, choose, seq, call, put_char, copy, StmtRow, no_stmts, a_stmt, GroupRow, no_groups, a_group, block, drop_expr, return_with, if_else, loop, do_loop, switch}

module _ (P : Expr → Type 0) where
  abbrev mutual
    -- of an expression and all expressions in it
    pub EveryExpr : Expr → Type 0
    EveryExpr (set_local x e) = P (set_local x e) × EveryExpr e
    EveryExpr (load kind at) = P (load kind at) × EveryExpr at
    EveryExpr (store kind at e) = P (store kind at e) × EveryExpr at × EveryExpr e
    EveryExpr (binary op l r) = P (binary op l r) × EveryExpr l × EveryExpr r
    EveryExpr (convert to e) = P (convert to e) × EveryExpr e
    EveryExpr (both l r) = P (both l r) × EveryExpr l × EveryExpr r
    EveryExpr (either l r) = P (either l r) × EveryExpr l × EveryExpr r
    EveryExpr (choose c a b) = P (choose c a b) × EveryExpr c × EveryExpr a × EveryExpr b
    EveryExpr (seq l r) = P (seq l r) × EveryExpr l × EveryExpr r
    EveryExpr (call f n es) = P (call f n es) × EveryExprIn es
    EveryExpr (put_char e) = P (put_char e) × EveryExpr e
    EveryExpr (copy size align to from) = P (copy size align to from) × EveryExpr to × EveryExpr from
    EveryExpr e = P e

    pub EveryExprIn : {n : Count} → ExprRow n → Type 0
    EveryExprIn no_exprs = Unit {0}
    EveryExprIn (an_expr e es) = EveryExpr e × EveryExprIn es

module _ (P : Stmt → Type 0) where
  abbrev mutual
    -- of a statement and all statements in it
    pub EveryStmt : Stmt → Type 0
    EveryStmt (block n ss) = P (block n ss) × EveryStmtIn ss
    EveryStmt (if_else c a b) = P (if_else c a b) × EveryStmt a × EveryStmt b
    EveryStmt (loop test step body) = P (loop test step body) × EveryStmt body
    EveryStmt (do_loop body test) = P (do_loop body test) × EveryStmt body
    EveryStmt (switch e n gs) = P (switch e n gs) × EveryStmtOf gs
    EveryStmt s = P s

    pub EveryStmtIn : {n : Count} → StmtRow n → Type 0
    EveryStmtIn no_stmts = Unit {0}
    EveryStmtIn (a_stmt s ss) = EveryStmt s × EveryStmtIn ss

    pub EveryStmtOf : {n : Count} → GroupRow n → Type 0
    EveryStmtOf no_groups = Unit {0}
    EveryStmtOf (a_group labels other n body gs) = EveryStmtIn body × EveryStmtOf gs

abbrev pub listed : Option Expr → List Expr
listed (Some e) = e ∷ []
listed None = []

-- the expressions that a statement has itself
abbrev pub own_exprs : Stmt → List Expr
own_exprs (drop_expr e) = e ∷ []
own_exprs (return_with e) = listed e
own_exprs (if_else c a b) = c ∷ []
own_exprs (loop test step body) = listed test ++ listed step
own_exprs (do_loop body test) = test ∷ []
own_exprs (switch e n gs) = e ∷ []
own_exprs s = []

-- of the statements of each function of a unit
abbrev pub InEveryStmt : Whole → (Func → Stmt → Type 0) → Type 0
InEveryStmt u P = AllByRecursion (λ f. EveryStmt (P f) f.body) u.functions

-- of the expressions of each function of a unit
abbrev pub InEveryExpr : Whole → (Func → Expr → Type 0) → Type 0
InEveryExpr u P = InEveryStmt u (λ f s. AllByRecursion (EveryExpr (P f)) (own_exprs s))
