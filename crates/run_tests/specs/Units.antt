-- Units made by hand, each under its C text.
use Rattle.std.specs.Prelude.{ℕ, ◌≤◌, Bool, true, false, List, [], ◌∷◌, codes, Option, None, Some}
use Rattle.cp_base.specs.declared.op.Kind.TheVariants.{W32, U8}
use Rattle.c_types.specs.declared.tree.COp.TheVariants.{AddS, AddU, SubS, MulS, LtS, Ne}
use Rattle.c_types.specs.declared.tree.CellValue.TheVariants.{Number}
use Rattle.c_types.specs.declared.tree.Expr.{Expr}
use Rattle.c_types.specs.declared.tree.Expr.TheVariants as expr
use Rattle.c_types.specs.declared.tree.Stmt.{Stmt}
use Rattle.c_types.specs.declared.tree.Stmt.TheVariants as stmt
use Rattle.c_types.specs.declared.tree.Cell.{Cell}
use Rattle.c_types.specs.declared.tree.Object.{Object}
use Rattle.c_types.specs.declared.tree.Group.{Group}
use Rattle.c_types.specs.declared.tree.Func.{Func}
use Rattle.c_types.specs.declared.tree.Unit.{Unit as Whole}
use Rattle.c_types.specs.Placing.{data_size}
use Rattle.c_types.specs.WellMade.{IsWellMade}

-- the unit is well made, and its data has a place
pub record Fits (u : Whole) : Type 0 where
  pub made : IsWellMade u
  pub small : data_size u.objects ≤ 1000

abbrev pub function : List ℕ → ℕ → ℕ → List Stmt → Func
function name params locals stmts = record { name = name; params = params; locals = locals; gives = true; body = stmt.Block stmts }

-- a unit without objects whose one function is `main`
abbrev pub main_alone : ℕ → List Stmt → Whole
main_alone locals stmts = record { objects = []; functions = function (codes "main") 0 locals stmts ∷ [] }

-- a unit without objects that has a function `f` before `main`
abbrev pub f_and_main : ℕ → List Stmt → List Stmt → Whole
f_and_main locals f_stmts stmts = record { objects = []; functions = function (codes "f") 1 locals f_stmts ∷ function (codes "main") 0 0 stmts ∷ [] }

abbrev pub start_at : ℕ → ℕ → Stmt
start_at x n = stmt.Drop (expr.SetLocal x (expr.Const n))

abbrev pub raise : ℕ → ℕ → Stmt
raise x n = stmt.Drop (expr.SetLocal x (expr.Binary AddS (expr.Local x) (expr.Const n)))

abbrev pub call_with : ℕ → Expr → Expr
call_with f e = expr.Call f (e ∷ [])

-- ---- int main(void){for(;;)putchar('x');}

abbrev pub endless_x : Whole
endless_x = main_alone 0 (stmt.Loop None None (stmt.Drop (expr.PutChar (expr.Const 120))) ∷ [])

-- ---- int main(void){int a=2147483647;return a+1;}

abbrev pub signed_overflow : Whole
signed_overflow = main_alone 1 (start_at 0 2147483647 ∷ stmt.Return (Some (expr.Binary AddS (expr.Local 0) (expr.Const 1))) ∷ [])

-- ---- int main(void){int c;while((c=getchar())!=-1)putchar(c);return 0;}

abbrev pub echo : Whole
echo = main_alone 1 (
    stmt.Loop (Some (expr.Binary Ne (expr.SetLocal 0 expr.GetChar) (expr.Const 4294967295))) None (stmt.Drop (expr.PutChar (expr.Local 0)))
    ∷ stmt.Return (Some (expr.Const 0)) ∷ [])

-- ---- int main(void){}

abbrev pub empty_main : Whole
empty_main = main_alone 0 []

-- ---- int main(void){int *p=0;return *p;}

abbrev pub null_load : Whole
null_load = main_alone 1 (start_at 0 0 ∷ stmt.Return (Some (expr.Load W32 (expr.Local 0))) ∷ [])

-- ---- int main(void){int x;return x;}

abbrev pub unset_local : Whole
unset_local = main_alone 1 (stmt.Unset 0 ∷ stmt.Return (Some (expr.Local 0)) ∷ [])

-- ---- int f(int n){return n<2?1:n*f(n-1);} int main(void){return f(5);}

abbrev pub factorial : Whole
factorial = f_and_main 1
    (stmt.Return (Some (expr.Choose (expr.Binary LtS (expr.Local 0) (expr.Const 2)) (expr.Const 1)
    (expr.Binary MulS (expr.Local 0) (call_with 0 (expr.Binary SubS (expr.Local 0) (expr.Const 1)))))) ∷ [])
    (stmt.Return (Some (call_with 0 (expr.Const 5))) ∷ [])

-- ---- int f(int n){int r=0;switch(n){case 1:r+=1;case 2:r+=10;break;default:r=100;case 7:r+=1;}return r;}
-- ---- int main(void){return f(1)+f(2)+f(7)+f(3);}

abbrev pub group : List ℕ → Bool → List Stmt → Group
group labels other body = record { labels = labels; other = other; body = body }

-- a group has one label or is the default
abbrev pub labels_of : Option ℕ → List ℕ
labels_of (Some label) = label ∷ []
labels_of None = []

abbrev pub is_default : Option ℕ → Bool
is_default (Some label) = false
is_default None = true

abbrev pub breaking_group : Group
breaking_group = group (2 ∷ []) false (raise 1 10 ∷ stmt.Break ∷ [])

abbrev pub last_groups : List Group
last_groups = group [] true (start_at 1 100 ∷ []) ∷ group (7 ∷ []) false (raise 1 1 ∷ []) ∷ []

abbrev pub falling_groups : List Group
falling_groups = group (1 ∷ []) false (raise 1 1 ∷ []) ∷ breaking_group ∷ last_groups

abbrev pub falling_calls : Expr
falling_calls = expr.Binary AddS (expr.Binary AddS (expr.Binary AddS (call_with 0 (expr.Const 1)) (call_with 0 (expr.Const 2))) (call_with 0 (expr.Const 7))) (call_with 0 (expr.Const 3))

abbrev pub switch_falls_through : Whole
switch_falls_through = f_and_main 2
    (start_at 1 0 ∷ stmt.Switch (expr.Local 0) falling_groups ∷ stmt.Return (Some (expr.Local 1)) ∷ [])
    (stmt.Return (Some falling_calls) ∷ [])

-- ---- struct p{char c;int x;}; static struct p a={1,20},b;
-- ---- int main(void){struct p*q=&b;*q=a;a.x=3;return b.x+b.c+(b=a).x;}

abbrev pub cell : ℕ → ℕ → ℕ → Cell
cell offset width number = record { offset = offset; width = width; value = Number number }

abbrev pub place_of : ℕ → Expr
place_of object = expr.Address object 0

-- member `x` of the struct at a place
abbrev pub member_x : Expr → Expr
member_x at = expr.Binary AddU at (expr.Const 4)

abbrev pub loaded_x : Expr → Expr
loaded_x at = expr.Load W32 (member_x at)

abbrev pub copied_again : Expr
copied_again = expr.Copy 8 4 (place_of 1) (place_of 0)

abbrev pub copied_sum : Expr
copied_sum = expr.Binary AddS (expr.Binary AddS (loaded_x (place_of 1)) (expr.Load U8 (place_of 1))) (loaded_x copied_again)

abbrev pub pair_object : List ℕ → List Cell → Object
pair_object name cells = record { name = name; size = 8; align = 4; cells = cells }

abbrev pub pair_objects : List Object
pair_objects = pair_object (codes "a") (cell 0 1 1 ∷ cell 4 4 20 ∷ []) ∷ pair_object (codes "b") [] ∷ []

abbrev pub pointed : Stmt
pointed = stmt.Drop (expr.SetLocal 0 (place_of 1))

abbrev pub copied : Stmt
copied = stmt.Drop (expr.Copy 8 4 (expr.Local 0) (place_of 0))

abbrev pub stored : Stmt
stored = stmt.Drop (expr.Store W32 (member_x (place_of 0)) (expr.Const 3))

abbrev pub pair_stmts : List Stmt
pair_stmts = pointed ∷ copied ∷ stored ∷ stmt.Return (Some copied_sum) ∷ []

abbrev pub struct_copy : Whole
struct_copy = record { objects = pair_objects; functions = function (codes "main") 0 1 pair_stmts ∷ [] }
