-- The forms of expressions, statements and groups, each by a name that a definition can match on.
--
-- A tree that holds a list of trees holds how long the list is, and then the row of its items. So a form with a list
-- has two parts for it, and a recursion goes on into the row.
use Rattle.std.specs.Prelude.{ℕ, Bool, List, [], ◌∷◌, Option}
use mathlib.Core.Former.{Count, none_left, one_more, arity, this}
use Rattle.sqlite_items.specs.formers.items.Items as items
use Rattle.c_types.specs.declared.tree.COp.{COp}
use Rattle.cp_base.specs.declared.op.Kind.{Kind}
use Rattle.cp_base.specs.declared.op.To.{To}
use Rattle.c_types.specs.declared.tree.Expr.{Expr, Row_of-Expr, end_of-Expr, more_of-Expr}
use Rattle.c_types.specs.declared.tree.Expr as expr
use Rattle.c_types.specs.declared.tree.Stmt.{Stmt, Row_of-Group, end_of-Group, more_of-Group}
use Rattle.c_types.specs.declared.tree.Stmt as stmt
use Rattle.c_types.specs.declared.tree.Group.{Group, Row_of-Stmt, end_of-Stmt, more_of-Stmt}

-- how long a list is that a tree holds
abbrev pub Length : Type 0
Length = List (Unit {0})

-- so many items
abbrev pub many : Length → Count
many n = arity (items.the_former (this {0})) n

-- ---- expressions

abbrev pub ExprRow : Count → Type 0
ExprRow n = Row_of-Expr n

pattern abbrev pub no_exprs : ExprRow none_left
no_exprs = end_of-Expr

pattern abbrev pub an_expr : {n : Count} → Expr → ExprRow n → ExprRow (one_more n)
an_expr e es = more_of-Expr e es

pattern abbrev pub one_expr : Expr → ExprRow (one_more none_left)
one_expr e = an_expr e no_exprs

pattern abbrev pub const : ℕ → Expr
const n = expr.Const n

pattern abbrev pub address : ℕ → ℕ → Expr
address object addend = expr.Address object addend

pattern abbrev pub local : ℕ → Expr
local x = expr.Local x

pattern abbrev pub set_local : ℕ → Expr → Expr
set_local x e = expr.SetLocal' x tt (one_expr e)

pattern abbrev pub load : Kind → Expr → Expr
load kind at = expr.Load' kind tt (one_expr at)

pattern abbrev pub store : Kind → Expr → Expr → Expr
store kind at e = expr.Store' kind tt (one_expr at) tt (one_expr e)

pattern abbrev pub binary : COp → Expr → Expr → Expr
binary op l r = expr.Binary' op tt (one_expr l) tt (one_expr r)

pattern abbrev pub convert : To → Expr → Expr
convert to e = expr.Convert' to tt (one_expr e)

pattern abbrev pub both : Expr → Expr → Expr
both l r = expr.Both' tt (one_expr l) tt (one_expr r)

pattern abbrev pub either : Expr → Expr → Expr
either l r = expr.Either' tt (one_expr l) tt (one_expr r)

pattern abbrev pub choose : Expr → Expr → Expr → Expr
choose c a b = expr.Choose' tt (one_expr c) tt (one_expr a) tt (one_expr b)

pattern abbrev pub seq : Expr → Expr → Expr
seq l r = expr.Seq' tt (one_expr l) tt (one_expr r)

pattern abbrev pub call : ℕ → (n : Length) → ExprRow (many n) → Expr
call function n arguments = expr.Call' function n arguments

pattern abbrev pub get_char : Expr
get_char = expr.GetChar

pattern abbrev pub put_char : Expr → Expr
put_char e = expr.PutChar' tt (one_expr e)

pattern abbrev pub copy : ℕ → ℕ → Expr → Expr → Expr
copy size align to from = expr.Copy' size align tt (one_expr to) tt (one_expr from)

-- ---- statements and groups

abbrev pub StmtRow : Count → Type 0
StmtRow n = Row_of-Stmt n

pattern abbrev pub no_stmts : StmtRow none_left
no_stmts = end_of-Stmt

pattern abbrev pub a_stmt : {n : Count} → Stmt → StmtRow n → StmtRow (one_more n)
a_stmt s ss = more_of-Stmt s ss

pattern abbrev pub one_stmt : Stmt → StmtRow (one_more none_left)
one_stmt s = a_stmt s no_stmts

abbrev pub GroupRow : Count → Type 0
GroupRow n = Row_of-Group n

pattern abbrev pub no_groups : GroupRow none_left
no_groups = end_of-Group

pattern abbrev pub a_group : {m : Count} → List ℕ → Bool → (n : Length) → StmtRow (many n) → GroupRow m → GroupRow (one_more m)
a_group labels other n body groups = more_of-Group labels other n body groups

pattern abbrev pub block : (n : Length) → StmtRow (many n) → Stmt
block n ss = stmt.Block' n ss

pattern abbrev pub drop_expr : Expr → Stmt
drop_expr e = stmt.Drop e

pattern abbrev pub unset : ℕ → Stmt
unset x = stmt.Unset x

pattern abbrev pub return_with : Option Expr → Stmt
return_with e = stmt.Return e

pattern abbrev pub if_else : Expr → Stmt → Stmt → Stmt
if_else c a b = stmt.If' c tt (one_stmt a) tt (one_stmt b)

pattern abbrev pub loop : Option Expr → Option Expr → Stmt → Stmt
loop test step body = stmt.Loop' test step tt (one_stmt body)

pattern abbrev pub do_loop : Stmt → Expr → Stmt
do_loop body test = stmt.DoLoop' tt (one_stmt body) test

pattern abbrev pub break : Stmt
break = stmt.Break

pattern abbrev pub continue : Stmt
continue = stmt.Continue

pattern abbrev pub switch : Expr → (n : Length) → GroupRow (many n) → Stmt
switch e n groups = stmt.Switch' e n groups

-- ---- lists

-- the expressions of a row, in order
abbrev pub exprs : {n : Count} → ExprRow n → List Expr
exprs no_exprs = []
exprs (an_expr e es) = e ∷ exprs es

abbrev pub stmts : {n : Count} → StmtRow n → List Stmt
stmts no_stmts = []
stmts (a_stmt s ss) = s ∷ stmts ss

abbrev pub groups : {n : Count} → GroupRow n → List Group
groups no_groups = []
groups (a_group labels other n body gs) = record { labels = labels; other = other; body = stmts body } ∷ groups gs

-- and back: the length and the row of a list
abbrev pub length_of : {A : Type 0} → List A → Length
length_of [] = []
length_of (x ∷ xs) = tt ∷ length_of xs

abbrev pub expr_row : (es : List Expr) → ExprRow (many (length_of es))
expr_row [] = no_exprs
expr_row (e ∷ es) = an_expr e (expr_row es)

abbrev pub stmt_row : (ss : List Stmt) → StmtRow (many (length_of ss))
stmt_row [] = no_stmts
stmt_row (s ∷ ss) = a_stmt s (stmt_row ss)

abbrev pub group_row : (gs : List Group) → GroupRow (many (length_of gs))
group_row [] = no_groups
group_row (g ∷ gs) = a_group g.labels g.other (length_of g.body) (stmt_row g.body) (group_row gs)
