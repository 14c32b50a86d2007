-- Units with their typed units, or their faults, where several forms stand together.
use Prim.Native.String.{String}
use Rattle.std.proofs.Common.{◌≡◌, ℕ, Bool, true, false, List, [], ◌∷◌, refl, Some, None, codes}
use Rattle.cp_base.specs.declared.op.Kind.TheVariants as access
use Rattle.cp_base.specs.declared.op.To.TheVariants as to
use Rattle.c_types.specs.declared.tree.COp.TheVariants as op
use Rattle.c_types.specs.declared.tree.Stmt.{Stmt}
use Rattle.c_types.specs.declared.tree.Func.{Func}
use Rattle.c_types.specs.declared.tree.Group.{Group}
use Rattle.c_types.specs.declared.tree.Object.{Object}
use Rattle.c_types.specs.declared.tree.Cell.{Cell}
use Rattle.c_types.specs.declared.tree.CellValue.TheVariants.{Number, Address}
use Rattle.c_types.specs.declared.tree.Unit.{Unit as Whole}
use Rattle.c_types.specs.Forms.{const, address, local, set_local, load, store, binary, convert, choose, seq, call, drop_expr, unset, return_with, if_else, loop, do_loop, break, switch, expr_row, group_row}
use Rattle.c_typing.specs.Statements.{block_of}
use Rattle.c_typing.proofs.Texts.{unit_in, keeps, Hold, holds}

abbrev function : String → ℕ → ℕ → Bool → List Stmt → Func
function name params locals gives body = record { name = codes name; params = params; locals = locals; gives = gives; body = block_of body }

abbrev object : String → ℕ → ℕ → List Cell → Object
object name size align cells = record { name = codes name; size = size; align = align; cells = cells }

abbrev cell : ℕ → ℕ → ℕ → Cell
cell offset width n = record { offset = offset; width = width; value = Number n }

abbrev address_cell : ℕ → ℕ → ℕ → Cell
address_cell offset object addend = record { offset = offset; width = 4; value = Address object addend }

abbrev unit : List Object → List Func → Whole
unit objects functions = record { objects = objects; functions = functions }

abbrev main_only : List Func
main_only = function "main" 0 0 true [] ∷ []

abbrev group : List ℕ → Bool → List Stmt → Group
group labels other body = record { labels = labels; other = other; body = body }

addends : unit_in "static int a[4];static int*p=&a[3]-1;static int*q=a+1+1;static char*r=(char*)a+1;static int*s=&a[-1];static int*t=1+a;int main(void){}"
    ≡ unit (object "a" 16 4 [] ∷ object "p" 4 4 (address_cell 0 0 8 ∷ []) ∷ object "q" 4 4 (address_cell 0 0 8 ∷ []) ∷ object "r" 4 4 (address_cell 0 0 1 ∷ [])
    ∷ object "s" 4 4 (address_cell 0 0 4294967292 ∷ []) ∷ object "t" 4 4 (address_cell 0 0 4 ∷ []) ∷ []) main_only
unfolding unit_in
addends = refl

lengths : unit_in "int f(int a[\"x\"[0]]);void g(int b){typedef int t;sizeof b++;b++;sizeof\"yy\";return;}int main(void){}"
    ≡ unit (object "" 2 1 (cell 0 1 120 ∷ []) ∷ object "" 3 1 (cell 0 1 121 ∷ cell 1 1 121 ∷ []) ∷ [])
    (function "g" 1 3 false (drop_expr (const 4) ∷ drop_expr (seq (set_local 2 (local 0)) (seq (set_local 0 (binary op.AddS (local 2) (const 1))) (local 2))) ∷ drop_expr (const 3) ∷ return_with None ∷ []) ∷ function "main" 0 0 true [] ∷ [])
unfolding unit_in
lengths = refl

mixed : unit_in "static short k;struct s{int a;}x,y;int main(void){struct s;int*q;k=1;switch(k){case 1:default:case 2:;break;}*(1?&x:&y);x;(void)x;(1?x:y).a;k++;--k;}"
    ≡ unit (object "k" 2 2 [] ∷ object "x" 4 4 [] ∷ object "y" 4 4 [] ∷ [])
    (function "main" 0 4 true (block_of [] ∷ block_of (unset 0 ∷ []) ∷ drop_expr (store access.I16 (address 0 0) (convert to.I16 (const 1)))
    ∷ switch (load access.I16 (address 0 0)) (tt ∷ []) (group_row (group (1 ∷ 2 ∷ []) true (block_of [] ∷ break ∷ []) ∷ []))
    ∷ drop_expr (choose (const 1) (address 1 0) (address 2 0)) ∷ drop_expr (address 1 0) ∷ drop_expr (address 1 0)
    ∷ drop_expr (load access.W32 (binary op.AddU (choose (const 1) (address 1 0) (address 2 0)) (const 0)))
    ∷ drop_expr (seq (set_local 1 (address 0 0)) (seq (set_local 2 (load access.I16 (local 1))) (seq (store access.I16 (local 1) (convert to.I16 (binary op.AddS (local 2) (const 1)))) (local 2))))
    ∷ drop_expr (seq (set_local 3 (address 0 0)) (store access.I16 (local 3) (convert to.I16 (binary op.SubS (load access.I16 (local 3)) (const 1))))) ∷ []) ∷ [])
unfolding unit_in
mixed = refl

scoped : unit_in "typedef int t;int f(enum{t=3}a){return(t)-1;}int g(int(*g)(enum{t}a)){return(t)-1;}int main(void){return main();}"
    ≡ unit [] (function "f" 1 1 true (return_with (Some (binary op.SubS (const 3) (const 1))) ∷ []) ∷ function "g" 1 1 true (return_with (Some (binary op.SubS (const 0) (const 1))) ∷ [])
    ∷ function "main" 0 0 true (return_with (Some (call 2 [] (expr_row []))) ∷ []) ∷ [])
unfolding unit_in
scoped = refl

nested : unit_in "static struct{char c;struct{short s;int i;}n[2];}v[2]={{1,{{2,3},{4}}},{5}};static char t[2][3]={\"ab\",{\"c\"}};static int x[2]={{1},{0}};static int*p=(void*)0;static int*q=(int*)(void*)0;static char e[2]={\"\"};int main(void){}"
    ≡ unit (object "v" 40 4 (cell 0 1 1 ∷ cell 4 2 2 ∷ cell 8 4 3 ∷ cell 12 2 4 ∷ cell 20 1 5 ∷ []) ∷ object "t" 6 1 (cell 0 1 97 ∷ cell 1 1 98 ∷ cell 3 1 99 ∷ [])
    ∷ object "x" 8 4 (cell 0 4 1 ∷ cell 4 4 0 ∷ []) ∷ object "p" 4 4 (cell 0 4 0 ∷ []) ∷ object "q" 4 4 (cell 0 4 0 ∷ []) ∷ object "e" 2 1 [] ∷ []) main_only
unfolding unit_in
nested = refl

placed : unit_in "extern int d;int a;int f(void){static int b;return*\"z\"+d;}int c;int d;int main(void){}"
    ≡ unit (object "d" 4 4 [] ∷ object "a" 4 4 [] ∷ object "b" 4 4 [] ∷ object "c" 4 4 [] ∷ object "" 2 1 (cell 0 1 122 ∷ []) ∷ [])
    (function "f" 0 0 true (return_with (Some (binary op.AddS (load access.U8 (address 4 0)) (load access.W32 (address 0 0)))) ∷ []) ∷ function "main" 0 0 true [] ∷ [])
unfolding unit_in
placed = refl

steps : unit_in "static int g;static int*h;int f(int a,int*p){g+=a++;*p++=1;h--;g+=g+=2;return 0;}int main(void){}"
    ≡ unit (object "g" 4 4 [] ∷ object "h" 4 4 [] ∷ []) (function "f" 2 9 true (
    drop_expr (seq (set_local 3 (address 0 0)) (store access.W32 (local 3) (binary op.AddS (load access.W32 (local 3)) (seq (set_local 2 (local 0)) (seq (set_local 0 (binary op.AddS (local 2) (const 1))) (local 2))))))
    ∷ drop_expr (store access.W32 (seq (set_local 4 (local 1)) (seq (set_local 1 (binary op.AddU (local 4) (binary op.MulU (const 1) (const 4)))) (local 4))) (const 1))
    ∷ drop_expr (seq (set_local 5 (address 1 0)) (seq (set_local 6 (load access.W32 (local 5))) (seq (store access.W32 (local 5) (binary op.SubU (local 6) (binary op.MulU (const 1) (const 4)))) (local 6))))
    ∷ drop_expr (seq (set_local 8 (address 0 0)) (store access.W32 (local 8) (binary op.AddS (load access.W32 (local 8)) (seq (set_local 7 (address 0 0)) (store access.W32 (local 7) (binary op.AddS (load access.W32 (local 7)) (const 2)))))))
    ∷ return_with (Some (const 0)) ∷ []) ∷ function "main" 0 0 true [] ∷ [])
unfolding unit_in
steps = refl

-- an enum is `int` from its tag on
enum_in_itself : Hold (keeps "enum e{A=sizeof(enum e)};int main(void){return 0;}" ∷ [])
unfolding holds
enum_in_itself = refl

parens : unit_in "static int(a[])={1,2};extern char s[3];static char s[]=\"ab\";static int*p=(&(a[1])),*q=&((a)[1])+(1);int(f(int(x))){int(y)=x;return(y);}int main(void){return(f)((2));}"
    ≡ unit (object "a" 8 4 (cell 0 4 1 ∷ cell 4 4 2 ∷ []) ∷ object "s" 3 1 (cell 0 1 97 ∷ cell 1 1 98 ∷ []) ∷ object "p" 4 4 (address_cell 0 0 4 ∷ []) ∷ object "q" 4 4 (address_cell 0 0 8 ∷ []) ∷ [])
    (function "f" 1 2 true (block_of (drop_expr (set_local 1 (local 0)) ∷ []) ∷ return_with (Some (local 1)) ∷ []) ∷ function "main" 0 0 true (return_with (Some (call 0 (tt ∷ []) (expr_row (const 2 ∷ [])))) ∷ []) ∷ [])
unfolding unit_in
parens = refl

strange : unit_in "int f(int n){do;while(n);for(n=0;;n++)break;while(n)if(n)n=1;else;if(n)return n;return n?n:1;}void g(void){f(1);return;}int main(void){g();}"
    ≡ unit [] (function "f" 1 2 true (do_loop (block_of []) (local 0) ∷ block_of (drop_expr (set_local 0 (const 0)) ∷ loop None (Some (seq (set_local 1 (local 0)) (seq (set_local 0 (binary op.AddS (local 1) (const 1))) (local 1)))) break ∷ [])
    ∷ loop (Some (local 0)) None (if_else (local 0) (drop_expr (set_local 0 (const 1))) (block_of [])) ∷ if_else (local 0) (return_with (Some (local 0))) (block_of []) ∷ return_with (Some (choose (local 0) (local 0) (const 1))) ∷ [])
    ∷ function "g" 0 0 false (drop_expr (call 0 (tt ∷ []) (expr_row (const 1 ∷ []))) ∷ return_with None ∷ []) ∷ function "main" 0 0 true (drop_expr (call 1 [] (expr_row [])) ∷ []) ∷ [])
unfolding unit_in
strange = refl
