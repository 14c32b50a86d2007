-- How the rows write units, and how they run them.
use Rattle.std.proofs.Common.{ℕ, Bool, true, List, [], Some, codes}
use Rattle.cp_base.specs.declared.layout.Layout.{Layout}
use Rattle.run_model.specs.declared.outcome.Outcome.{Outcome}
use Rattle.c_types.specs.declared.tree.Expr.{Expr}
use Rattle.c_types.specs.declared.tree.Stmt.{Stmt}
use Rattle.c_types.specs.declared.tree.Group.{Group}
use Rattle.c_types.specs.declared.tree.Func.{Func}
use Rattle.c_types.specs.declared.tree.Unit.{Unit as Whole}
use Rattle.c_types.specs.Forms.{set_local, call, block, drop_expr, return_with, switch, length_of, expr_row, stmt_row, group_row}
use Rattle.c_meaning.specs.Runs.{Ran, c_run}

abbrev pub a_layout : Layout
a_layout = record { code = 0x1_0000; cdata = 0x1000_0000; top = 0x4000_0000; stack = 0x1_0000 }

abbrev pub function : List ℕ → ℕ → ℕ → List Stmt → Func
function name params locals body =
    record { name = name; params = params; locals = locals; gives = true; body = block (length_of body) (stmt_row body) }

abbrev pub main : ℕ → List Stmt → Func
main locals body = function (codes "main") 0 locals body

abbrev pub unit : List Func → Whole
unit functions = record { objects = []; functions = functions }

abbrev pub set : ℕ → Expr → Stmt
set x e = drop_expr (set_local x e)

abbrev pub give : Expr → Stmt
give e = return_with (Some e)

abbrev pub stmts_of : List Stmt → Stmt
stmts_of ss = block (length_of ss) (stmt_row ss)

abbrev pub call_with : ℕ → List Expr → Expr
call_with f es = call f (length_of es) (expr_row es)

abbrev pub switch_on : Expr → List Group → Stmt
switch_on e gs = switch e (length_of gs) (group_row gs)

abbrev pub group : List ℕ → Bool → List Stmt → Group
group labels other body = record { labels = labels; other = other; body = body }

-- its run without input, at a depth of 3
abbrev pub run_of : Whole → ℕ → Ran
run_of u turns = c_run u a_layout [] 3 turns

abbrev pub comes_to : Outcome → List ℕ → Ran
comes_to outcome out = record { outcome = outcome; out = out }
