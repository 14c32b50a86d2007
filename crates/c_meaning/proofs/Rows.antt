-- Whole runs, computed from the definitions. Each unit is written as its typed tree, under its C text; the values are
-- worked by hand from C99, the numbers of turns and depths from the rules of this project.
use Rattle.std.proofs.Common.{◌≡◌, refl, ℕ, [], ◌∷◌, Some, None, true, false, codes}
use Rattle.cp_base.specs.declared.op.Kind.TheVariants.{W32, U8}
use Rattle.run_model.specs.declared.outcome.Outcome.TheVariants.{Ended, Running, Undefined, Deep}
use Rattle.c_types.specs.declared.tree.COp.TheVariants.{AddS, AddU, SubS, MulS, LtS, Eq}
use Rattle.c_types.specs.declared.tree.Expr.{Expr}
use Rattle.c_types.specs.declared.tree.Stmt.{Stmt}
use Rattle.c_types.specs.declared.tree.CellValue.TheVariants.{Number}
use Rattle.c_types.specs.declared.tree.Unit.{Unit as Whole}
use Rattle.c_types.specs.Forms.{const, address, local, load, store, binary, choose, get_char, put_char, copy, drop_expr, unset, if_else, loop, break}
use Rattle.c_meaning.specs.Meaning.{at_turn}
use Rattle.c_meaning.specs.Runs.{c_run}
use Rattle.c_meaning.proofs.RowUnits.{a_layout, function, main, unit, set, give, stmts_of, call_with, switch_on, group, run_of, comes_to}

-- ---- int main(void){int a=55,b=1,i=0,t;while(i<10){t=a;a=b;b=t;i=i+1;}return a;}

abbrev swap_in_loop : Whole
swap_in_loop = unit (main 4 (
    set 0 (const 55) ∷ set 1 (const 1) ∷ set 2 (const 0) ∷ unset 3
    ∷ loop (Some (binary LtS (local 2) (const 10))) None (stmts_of (
    set 3 (local 0) ∷ set 0 (local 1) ∷ set 1 (local 3) ∷ set 2 (binary AddS (local 2) (const 1)) ∷ []))
    ∷ give (local 0) ∷ []) ∷ [])

swap_in_loop_ends : run_of swap_in_loop 10 ≡ comes_to (Ended 55) []
unfolding at_turn c_run
swap_in_loop_ends = refl

-- the return to the loop's head after the tenth round uses the tenth turn
swap_in_loop_runs : run_of swap_in_loop 9 ≡ comes_to Running []
unfolding at_turn c_run
swap_in_loop_runs = refl

-- ---- int f(int n){return n<2?1:n*f(n-1);} int main(void){return f(5);}

abbrev factorial : Whole
factorial = unit (
    function (codes "f") 1 1 (give (choose (binary LtS (local 0) (const 2)) (const 1)
    (binary MulS (local 0) (call_with 0 (binary SubS (local 0) (const 1) ∷ [])))) ∷ [])
    ∷ main 0 (give (call_with 0 (const 5 ∷ [])) ∷ []) ∷ [])

factorial_ends : c_run factorial a_layout [] 6 5 ≡ comes_to (Ended 120) []
unfolding at_turn c_run
factorial_ends = refl

-- each of the five calls uses a turn
factorial_runs : c_run factorial a_layout [] 6 4 ≡ comes_to Running []
unfolding at_turn c_run
factorial_runs = refl

factorial_is_deep : c_run factorial a_layout [] 5 5 ≡ comes_to Deep []
unfolding at_turn c_run
factorial_is_deep = refl

-- the depth is tested before the turns
deep_before_running : c_run factorial a_layout [] 1 0 ≡ comes_to Deep []
unfolding at_turn c_run
deep_before_running = refl

no_depth : c_run factorial a_layout [] 0 5 ≡ comes_to Deep []
unfolding c_run
no_depth = refl

-- ---- int main(void){for(;;)putchar('x');}

abbrev endless_x : Whole
endless_x = unit (main 0 (loop None None (drop_expr (put_char (const 120))) ∷ []) ∷ [])

endless_x_three : run_of endless_x 3 ≡ comes_to Running (120 ∷ 120 ∷ 120 ∷ 120 ∷ [])
unfolding at_turn c_run
endless_x_three = refl

endless_x_none : run_of endless_x 0 ≡ comes_to Running (120 ∷ [])
unfolding at_turn c_run
endless_x_none = refl

-- ---- int main(void){int a=2147483647;return a+1;}

signed_overflow : run_of (unit (main 1 (set 0 (const 2147483647) ∷ give (binary AddS (local 0) (const 1)) ∷ []) ∷ [])) 0
    ≡ comes_to Undefined []
unfolding at_turn c_run
signed_overflow = refl

-- ---- int main(void){int x,i=0,c=getchar();while(i<3){if(c==1)i=i+x;x=i;i=i+1;}return i;}

abbrev unset_operand : Whole
unset_operand = unit (main 3 (
    unset 0 ∷ set 1 (const 0) ∷ set 2 get_char
    ∷ loop (Some (binary LtS (local 1) (const 3))) None (stmts_of (
    if_else (binary Eq (local 2) (const 1)) (set 1 (binary AddS (local 1) (local 0))) (stmts_of [])
    ∷ set 0 (local 1) ∷ set 1 (binary AddS (local 1) (const 1)) ∷ []))
    ∷ give (local 1) ∷ []) ∷ [])

unset_operand_ends : run_of unset_operand 3 ≡ comes_to (Ended 3) []
unfolding at_turn c_run
unset_operand_ends = refl

-- with an input whose first byte is 1 the unset local is read
unset_operand_is_read : c_run unset_operand a_layout (1 ∷ []) 1 3 ≡ comes_to Undefined []
unfolding at_turn c_run
unset_operand_is_read = refl

-- ---- int f(int n){if(n<2)return 1;return 1+f(n-1);} int main(void){return f(3);}

abbrev depth_limit : Whole
depth_limit = unit (
    function (codes "f") 1 1 (
    if_else (binary LtS (local 0) (const 2)) (give (const 1)) (stmts_of [])
    ∷ give (binary AddS (const 1) (call_with 0 (binary SubS (local 0) (const 1) ∷ []))) ∷ [])
    ∷ main 0 (give (call_with 0 (const 3 ∷ [])) ∷ []) ∷ [])

depth_limit_three : c_run depth_limit a_layout [] 3 9 ≡ comes_to Deep []
unfolding at_turn c_run
depth_limit_three = refl

depth_limit_four : c_run depth_limit a_layout [] 4 9 ≡ comes_to (Ended 3) []
unfolding at_turn c_run
depth_limit_four = refl

-- ---- int main(void){int *p=0;return *p;}

null_load : run_of (unit (main 1 (set 0 (const 0) ∷ give (load W32 (local 0)) ∷ []) ∷ [])) 0 ≡ comes_to Undefined []
unfolding at_turn c_run
null_load = refl

-- ---- int f(int n){int r=0;switch(n){case 1:r+=1;case 2:r+=10;break;default:r=100;case 7:r+=1;}return r;}
-- ---- int main(void){return f(1)+f(2)+f(7)+f(3);}

abbrev add_to_r : ℕ → Stmt
add_to_r n = set 1 (binary AddS (local 1) (const n))

abbrev switch_falls_through : Whole
switch_falls_through = unit (
    function (codes "f") 1 2 (
    set 1 (const 0)
    ∷ switch_on (local 0) (
    group (1 ∷ []) false (add_to_r 1 ∷ [])
    ∷ group (2 ∷ []) false (add_to_r 10 ∷ break ∷ [])
    ∷ group [] true (set 1 (const 100) ∷ [])
    ∷ group (7 ∷ []) false (add_to_r 1 ∷ []) ∷ [])
    ∷ give (local 1) ∷ [])
    ∷ main 0 (give (binary AddS (binary AddS (binary AddS
    (call_with 0 (const 1 ∷ [])) (call_with 0 (const 2 ∷ []))) (call_with 0 (const 7 ∷ []))) (call_with 0 (const 3 ∷ []))) ∷ []) ∷ [])

switch_falls_through_ends : run_of switch_falls_through 4 ≡ comes_to (Ended 123) []
unfolding at_turn c_run
switch_falls_through_ends = refl

-- ---- struct p{char c;int x;};static struct p a={1,20},b;
-- ---- int main(void){struct p*q=&b;*q=a;a.x=3;return b.x+b.c+(b=a).x;}

abbrev member : Expr → ℕ → Expr
member place offset = binary AddU place (const offset)

abbrev struct_copy : Whole
struct_copy = record {
  objects =
      record {
        name = codes "a";
        size = 8;
        align = 4;
        cells =
            record { offset = 0; width = 1; value = Number 1 } ∷ record { offset = 4; width = 4; value = Number 20 } ∷ [];
      }
      ∷ record { name = codes "b"; size = 8; align = 4; cells = [] } ∷ [];
  functions = main 1 (
      set 0 (address 1 0)
      ∷ drop_expr (copy 8 4 (local 0) (address 0 0))
      ∷ drop_expr (store W32 (member (address 0 0) 4) (const 3))
      ∷ give (binary AddS
      (binary AddS (load W32 (member (address 1 0) 4)) (load U8 (member (address 1 0) 0)))
      (load W32 (member (copy 8 4 (address 1 0) (address 0 0)) 4))) ∷ []) ∷ [];
}

struct_copy_ends : run_of struct_copy 0 ≡ comes_to (Ended 24) []
unfolding at_turn c_run
struct_copy_ends = refl

-- ---- what else a run may come to

-- int f(void){} int main(void){f();putchar('A');return f();}: the value that is dropped is not used, the other is
value_that_is_not_there : run_of (unit (function (codes "f") 0 0 [] ∷ main 0 (
    drop_expr (call_with 0 []) ∷ drop_expr (put_char (const 65)) ∷ give (call_with 0 []) ∷ []) ∷ [])) 2 ≡ comes_to Undefined (65 ∷ [])
unfolding at_turn c_run
value_that_is_not_there = refl

-- int n; int main(void){if(n){}else{n=1;return main()+5;}}: the second call reaches `}`
main_that_is_called : run_of (record {
  objects = record { name = codes "n"; size = 4; align = 4; cells = [] } ∷ [];
  functions = main 0 (
      if_else (load W32 (address 0 0)) (stmts_of []) (stmts_of (
      drop_expr (store W32 (address 0 0) (const 1)) ∷ give (binary AddS (call_with 0 []) (const 5)) ∷ [])) ∷ []) ∷ [];
}) 1
    ≡ comes_to (Ended 5) []
unfolding at_turn c_run
main_that_is_called = refl

-- int main(void){return -1;}: the status is modulo 256
status_of_minus_one : run_of (unit (main 0 (give (binary SubS (const 0) (const 1)) ∷ []) ∷ [])) 0 ≡ comes_to (Ended 255) []
unfolding at_turn c_run
status_of_minus_one = refl

-- int main(void){}
empty_main : run_of (unit (main 0 [] ∷ [])) 0 ≡ comes_to (Ended 0) []
unfolding at_turn c_run
empty_main = refl
