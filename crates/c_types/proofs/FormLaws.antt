-- Each form of the typed tree is the value that code makes of its parts and that contracts see; and a list of trees is
-- the row that a tree holds.
use Rattle.std.proofs.Common.{◌≡◌, ℕ, List, [], ◌∷◌, ◌++◌, Option, refl, ap, ap₂, ◌∙◌}
use denote.Hole.Carrier.{hidden}
use Rattle.c_types.specs.declared.tree.COp.{COp}
use Rattle.cp_base.specs.declared.op.Kind.{Kind}
use Rattle.cp_base.specs.declared.op.To.{To}
use Rattle.c_types.specs.declared.tree.Expr.{Expr}
use Rattle.c_types.specs.declared.tree.Expr.TheVariants as expr
use Rattle.c_types.specs.declared.tree.Expr.TheBlock.{hidden-the_row-Expr-0, hidden-the_row-Expr-1, shape-the_row-Expr-1}
use Rattle.c_types.specs.declared.tree.Stmt.{Stmt}
use Rattle.c_types.specs.declared.tree.Stmt.TheVariants as stmt
use Rattle.c_types.specs.declared.tree.Stmt.TheBlock.{hidden-the_row-Stmt-0, hidden-the_row-Stmt-1, hidden-the_row-Group-2, shape-the_row-Stmt-0, shape-the_row-Group-2}
use Rattle.c_types.specs.declared.tree.Group.{Group}
use Rattle.c_types.specs.Forms.{Length, many, ExprRow, an_expr, StmtRow, a_stmt, GroupRow, a_group, length_of, expr_row, stmt_row, group_row, exprs, stmts, groups, const, address, local, set_local, load, store, binary, convert, both, either, choose, seq, call, get_char, put_char, copy, block, drop_expr, unset, return_with, if_else, loop, do_loop, break, continue, switch}

-- ---- expressions

pub const_is : (n : ℕ) → expr.Const n ≡ const n
const_is n = refl

pub address_is : (object addend : ℕ) → expr.Address object addend ≡ address object addend
address_is object addend = refl

pub local_is : (x : ℕ) → expr.Local x ≡ local x
local_is x = refl

pub set_local_is : (x : ℕ) (e : Expr) → expr.SetLocal x e ≡ set_local x e
unfolding hidden hidden-the_row-Expr-0
set_local_is x e = refl

pub load_is : (kind : Kind) (at : Expr) → expr.Load kind at ≡ load kind at
unfolding hidden hidden-the_row-Expr-0
load_is kind at = refl

pub store_is : (kind : Kind) (at e : Expr) → expr.Store kind at e ≡ store kind at e
unfolding hidden hidden-the_row-Expr-0
store_is kind at e = refl

pub binary_is : (op : COp) (l r : Expr) → expr.Binary op l r ≡ binary op l r
unfolding hidden hidden-the_row-Expr-0
binary_is op l r = refl

pub convert_is : (to : To) (e : Expr) → expr.Convert to e ≡ convert to e
unfolding hidden hidden-the_row-Expr-0
convert_is to e = refl

pub both_is : (l r : Expr) → expr.Both l r ≡ both l r
unfolding hidden hidden-the_row-Expr-0
both_is l r = refl

pub either_is : (l r : Expr) → expr.Either l r ≡ either l r
unfolding hidden hidden-the_row-Expr-0
either_is l r = refl

pub choose_is : (c a b : Expr) → expr.Choose c a b ≡ choose c a b
unfolding hidden hidden-the_row-Expr-0
choose_is c a b = refl

pub seq_is : (l r : Expr) → expr.Seq l r ≡ seq l r
unfolding hidden hidden-the_row-Expr-0
seq_is l r = refl

pub get_char_is : expr.GetChar ≡ get_char
get_char_is = refl

pub put_char_is : (e : Expr) → expr.PutChar e ≡ put_char e
unfolding hidden hidden-the_row-Expr-0
put_char_is e = refl

pub copy_is : (size align : ℕ) (to from : Expr) → expr.Copy size align to from ≡ copy size align to from
unfolding hidden hidden-the_row-Expr-0
copy_is size align to from = refl

expr_row_is : (es : List Expr) → ◌≡◌ {A = (n : Length) × ExprRow (many n)} (shape-the_row-Expr-1 es, hidden-the_row-Expr-1 es) (length_of es, expr_row es)
unfolding hidden hidden-the_row-Expr-1
expr_row_is [] = refl
expr_row_is (e ∷ es) = ap (λ (p : (n : Length) × ExprRow (many n)). (tt ∷ p.0, an_expr e p.1)) (expr_row_is es)

pub call_is : (function : ℕ) (arguments : List Expr) → expr.Call function arguments ≡ call function (length_of arguments) (expr_row arguments)
unfolding hidden
call_is function arguments = ap (λ (p : (n : Length) × ExprRow (many n)). call function p.0 p.1) (expr_row_is arguments)

-- ---- statements

pub drop_expr_is : (e : Expr) → stmt.Drop e ≡ drop_expr e
drop_expr_is e = refl

pub unset_is : (x : ℕ) → stmt.Unset x ≡ unset x
unset_is x = refl

pub return_with_is : (e : Option Expr) → stmt.Return e ≡ return_with e
return_with_is e = refl

pub if_else_is : (c : Expr) (a b : Stmt) → stmt.If c a b ≡ if_else c a b
unfolding hidden hidden-the_row-Stmt-1
if_else_is c a b = refl

pub loop_is : (test step : Option Expr) (body : Stmt) → stmt.Loop test step body ≡ loop test step body
unfolding hidden hidden-the_row-Stmt-1
loop_is test step body = refl

pub do_loop_is : (body : Stmt) (test : Expr) → stmt.DoLoop body test ≡ do_loop body test
unfolding hidden hidden-the_row-Stmt-1
do_loop_is body test = refl

pub break_is : stmt.Break ≡ break
break_is = refl

pub continue_is : stmt.Continue ≡ continue
continue_is = refl

stmt_row_is : (ss : List Stmt) → ◌≡◌ {A = (n : Length) × StmtRow (many n)} (shape-the_row-Stmt-0 ss, hidden-the_row-Stmt-0 ss) (length_of ss, stmt_row ss)
unfolding hidden hidden-the_row-Stmt-0
stmt_row_is [] = refl
stmt_row_is (s ∷ ss) = ap (λ (p : (n : Length) × StmtRow (many n)). (tt ∷ p.0, a_stmt s p.1)) (stmt_row_is ss)

pub block_is : (ss : List Stmt) → stmt.Block ss ≡ block (length_of ss) (stmt_row ss)
unfolding hidden
block_is ss = ap (λ (p : (n : Length) × StmtRow (many n)). block p.0 p.1) (stmt_row_is ss)

group_row_is : (gs : List Group) → ◌≡◌ {A = (n : Length) × GroupRow (many n)} (shape-the_row-Group-2 gs, hidden-the_row-Group-2 gs) (length_of gs, group_row gs)
unfolding hidden hidden-the_row-Group-2
group_row_is [] = refl
group_row_is (g ∷ gs) =
    ap₂ (λ (p : (n : Length) × StmtRow (many n)) (q : (n : Length) × GroupRow (many n)). (tt ∷ q.0, a_group g.labels g.other p.0 p.1 q.1)) (stmt_row_is g.body) (group_row_is gs)

pub switch_is : (e : Expr) (gs : List Group) → stmt.Switch e gs ≡ switch e (length_of gs) (group_row gs)
unfolding hidden
switch_is e gs = ap (λ (p : (n : Length) × GroupRow (many n)). switch e p.0 p.1) (group_row_is gs)

-- ---- lists and rows

pub exprs-expr_row : (es : List Expr) → exprs (expr_row es) ≡ es
exprs-expr_row [] = refl
exprs-expr_row (e ∷ es) = ap (λ xs. e ∷ xs) (exprs-expr_row es)

pub stmts-stmt_row : (ss : List Stmt) → stmts (stmt_row ss) ≡ ss
stmts-stmt_row [] = refl
stmts-stmt_row (s ∷ ss) = ap (λ xs. s ∷ xs) (stmts-stmt_row ss)

pub groups-group_row : (gs : List Group) → groups (group_row gs) ≡ gs
groups-group_row [] = refl
groups-group_row (g ∷ gs) = ap₂ (λ body rest. record { labels = g.labels; other = g.other; body = body } ∷ rest) (stmts-stmt_row g.body) (groups-group_row gs)

-- ---- forms that are matched on

-- the places of an expression that are expressions
abbrev parts : Expr → List Expr
parts (const n) = []
parts (address object addend) = []
parts (local x) = []
parts (set_local x e) = e ∷ []
parts (load kind at) = at ∷ []
parts (store kind at e) = at ∷ e ∷ []
parts (binary op l r) = l ∷ r ∷ []
parts (convert to e) = e ∷ []
parts (both l r) = l ∷ r ∷ []
parts (either l r) = l ∷ r ∷ []
parts (choose c a b) = c ∷ a ∷ b ∷ []
parts (seq l r) = l ∷ r ∷ []
parts (call function n arguments) = exprs arguments
parts get_char = []
parts (put_char e) = e ∷ []
parts (copy size align to from) = to ∷ from ∷ []

-- the statements of a statement
abbrev inside : Stmt → List Stmt
inside (block n ss) = stmts ss
inside (drop_expr e) = []
inside (unset x) = []
inside (return_with e) = []
inside (if_else c a b) = a ∷ b ∷ []
inside (loop test step body) = body ∷ []
inside (do_loop body test) = body ∷ []
inside break = []
inside continue = []
inside (switch e n gs) = bodies (groups gs)
  where
    bodies : List Group → List Stmt
    bodies [] = []
    bodies (g ∷ rest) = g.body ++ bodies rest

pub parts-binary : (op : COp) (l r : Expr) → parts (expr.Binary op l r) ≡ l ∷ r ∷ []
parts-binary op l r = ap parts (binary_is op l r)

pub parts-call : (function : ℕ) (arguments : List Expr) → parts (expr.Call function arguments) ≡ arguments
parts-call function arguments = ap parts (call_is function arguments) ∙ exprs-expr_row arguments

pub inside-block : (ss : List Stmt) → inside (stmt.Block ss) ≡ ss
inside-block ss = ap inside (block_is ss) ∙ stmts-stmt_row ss
