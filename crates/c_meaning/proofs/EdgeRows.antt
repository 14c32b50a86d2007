-- Short runs at the edges of the definitions, computed from them: accesses, copies, input, jumps, turns, depth, values that
-- are not there. The values are worked by hand from C99 and from the rules of this project.
use Rattle.std.proofs.Common.{◌≡◌, refl, ℕ, List, [], ◌∷◌, Some, None, true, false, codes}
use Rattle.cp_base.specs.declared.op.Kind.TheVariants.{W32, I8, U8, U16, I16}
use Rattle.cp_base.specs.declared.op.To.TheVariants as to
use Rattle.run_model.specs.declared.outcome.Outcome.TheVariants.{Ended, Running, Undefined, Deep}
use Rattle.c_types.specs.declared.tree.COp.TheVariants.{AddS, LtS, Eq, RemS, ShlS, ShrS, ShlU}
use Rattle.c_types.specs.declared.tree.CellValue.TheVariants.{Address}
use Rattle.c_types.specs.declared.tree.Expr.{Expr}
use Rattle.c_types.specs.declared.tree.Func.{Func}
use Rattle.c_types.specs.declared.tree.Object.{Object}
use Rattle.c_types.specs.declared.tree.Unit.{Unit as Whole}
use Rattle.c_types.specs.Forms.{const, address, local, set_local, load, store, binary, choose, get_char, put_char, copy, drop_expr, unset, return_with, if_else, loop, do_loop, seq, both, either, convert, continue, break}
use Rattle.c_meaning.specs.Meaning.{at_turn}
use Rattle.c_meaning.specs.Runs.{Ran, c_run}
use Rattle.c_meaning.proofs.RowUnits.{a_layout, function, main, unit, set, give, stmts_of, call_with, switch_on, group, run_of, comes_to}

abbrev with_objects : List Object → List Func → Whole
with_objects os fs = record { objects = os; functions = fs }

abbrev an_object : ℕ → ℕ → Object
an_object size align = record { name = codes "o"; size = size; align = align; cells = [] }

-- static char a; static int b; static char c: their offsets are 0, 4 and 8, and the data has 9 bytes
abbrev three_objects : List Object
three_objects = an_object 1 1 ∷ an_object 4 4 ∷ an_object 1 1 ∷ []

abbrev data_run : List Func → Ran
data_run fs = run_of (with_objects three_objects fs) 0

-- padding is readable and writable
padding_is_read : data_run (main 0 (drop_expr (store U8 (address 0 3) (const 0x1ff)) ∷ give (load W32 (address 0 0)) ∷ []) ∷ []) ≡ comes_to (Ended 0) []
unfolding at_turn c_run
padding_is_read = refl

padding_is_written : data_run (main 0 (drop_expr (store U8 (address 0 3) (const 0x1ff)) ∷ give (load U8 (address 0 3)) ∷ []) ∷ []) ≡ comes_to (Ended 255) []
unfolding at_turn c_run
padding_is_written = refl

-- value of a narrow store is v whole
value_of_a_narrow_store : data_run (main 0 (give (binary Eq (store U8 (address 0 3) (const 0x1ff)) (const 0x1ff)) ∷ []) ∷ []) ≡ comes_to (Ended 1) []
unfolding at_turn c_run
value_of_a_narrow_store = refl

-- last byte is readable, the buffer byte is not
last_byte : data_run (main 0 (give (load U8 (address 2 0)) ∷ []) ∷ []) ≡ comes_to (Ended 0) []
unfolding at_turn c_run
last_byte = refl

behind_the_last_byte : data_run (main 0 (give (load U8 (address 2 1)) ∷ []) ∷ []) ≡ comes_to Undefined []
unfolding at_turn c_run
behind_the_last_byte = refl

over_the_end : data_run (main 0 (give (load U16 (address 2 0)) ∷ []) ∷ []) ≡ comes_to Undefined []
unfolding at_turn c_run
over_the_end = refl

unaligned_load : data_run (main 0 (give (load U16 (address 0 1)) ∷ []) ∷ []) ≡ comes_to Undefined []
unfolding at_turn c_run
unaligned_load = refl

-- before the block
before_the_data : data_run (main 0 (give (load U8 (address 0 0xffff_ffff)) ∷ []) ∷ []) ≡ comes_to Undefined []
unfolding at_turn c_run
before_the_data = refl

-- address 2 (offset 8) plus -8 is offset 0
addresses_are_modulo : data_run (main 0 (give (binary Eq (address 2 0xffff_fff8) (address 0 0)) ∷ []) ∷ []) ≡ comes_to (Ended 1) []
unfolding at_turn c_run
addresses_are_modulo = refl

-- I8 / I16 loads of stored values
signed_byte : data_run (main 0 (drop_expr (store W32 (address 1 0) (const 0x80ff_80fe)) ∷ give (binary Eq (load I8 (address 1 1)) (const 0xffff_ff80)) ∷ []) ∷ []) ≡ comes_to (Ended 1) []
unfolding at_turn c_run
signed_byte = refl

signed_half : data_run (main 0 (drop_expr (store W32 (address 1 0) (const 0x80ff_80fe)) ∷ give (binary Eq (load I16 (address 1 2)) (const 0xffff_80ff)) ∷ []) ∷ []) ≡ comes_to (Ended 1) []
unfolding at_turn c_run
signed_half = refl

unsigned_half : data_run (main 0 (drop_expr (store W32 (address 1 0) (const 0x80ff_80fe)) ∷ give (binary Eq (load U16 (address 1 0)) (const 0x80fe)) ∷ []) ∷ []) ≡ comes_to (Ended 1) []
unfolding at_turn c_run
unsigned_half = refl

-- copies
copy_to_itself : data_run (main 0 (drop_expr (copy 8 4 (address 0 0) (address 0 0)) ∷ []) ∷ []) ≡ comes_to (Ended 0) []
unfolding at_turn c_run
copy_to_itself = refl

copy_that_overlaps : data_run (main 0 (drop_expr (copy 4 2 (address 0 0) (address 0 2)) ∷ []) ∷ []) ≡ comes_to Undefined []
unfolding at_turn c_run
copy_that_overlaps = refl

copy_that_touches : data_run (main 0 (drop_expr (store W32 (address 0 0) (const 0x0403_0201)) ∷ drop_expr (copy 4 4 (address 1 0) (address 0 0)) ∷ give (load U8 (address 1 3)) ∷ []) ∷ []) ≡ comes_to (Ended 4) []
unfolding at_turn c_run
copy_that_touches = refl

copy_unaligned : data_run (main 0 (drop_expr (copy 4 4 (address 0 2) (address 0 2)) ∷ []) ∷ []) ≡ comes_to Undefined []
unfolding at_turn c_run
copy_unaligned = refl

copy_over_the_end : data_run (main 0 (drop_expr (copy 2 1 (address 2 0) (address 0 0)) ∷ []) ∷ []) ≡ comes_to Undefined []
unfolding at_turn c_run
copy_over_the_end = refl

-- the value is t, and to goes before from, whose output comes before the test
copy_finds_its_places_first : data_run (main 0 (drop_expr (copy 4 4 (seq (put_char (const 65)) (const 3)) (seq (put_char (const 66)) (const 0))) ∷ []) ∷ []) ≡ comes_to Undefined (65 ∷ 66 ∷ [])
unfolding at_turn c_run
copy_finds_its_places_first = refl

store_finds_its_value_first : data_run (main 0 (drop_expr (store W32 (seq (put_char (const 65)) (const 3)) (seq (put_char (const 66)) (const 0))) ∷ []) ∷ []) ≡ comes_to Undefined (65 ∷ 66 ∷ [])
unfolding at_turn c_run
store_finds_its_value_first = refl

-- getchar
input_and_its_end : c_run (unit (main 0 (
    drop_expr (put_char get_char) ∷ drop_expr (put_char get_char) ∷ drop_expr (put_char get_char) ∷ give (binary Eq get_char (const 0xffff_ffff)) ∷ []) ∷ [])) a_layout (7 ∷ 200 ∷ []) 1 0 ≡ comes_to (Ended 1) (7 ∷ 200 ∷ 255 ∷ [])
unfolding at_turn c_run
input_and_its_end = refl

-- value of putchar
value_of_putchar : run_of (unit (main 0 (give (binary Eq (put_char (const 0xffff_ffff)) (const 255)) ∷ []) ∷ [])) 0 ≡ comes_to (Ended 1) (255 ∷ [])
unfolding at_turn c_run
value_of_putchar = refl

-- for(i=0;i<5;i++){switch(i){default:putchar('d');break; case 2: continue; case 3: break; case 4: return 9;} putchar('e');}
abbrev switch_in_a_loop : Whole
switch_in_a_loop = unit (main 1 (set 0 (const 0) ∷ loop (Some (binary LtS (local 0) (const 5))) (Some (set_local 0 (binary AddS (local 0) (const 1)))) (stmts_of (
    switch_on (local 0) (
    group [] true (drop_expr (put_char (const 100)) ∷ break ∷ [])
    ∷ group (2 ∷ []) false (continue ∷ [])
    ∷ group (3 ∷ []) false (break ∷ [])
    ∷ group (4 ∷ []) false (give (const 9) ∷ []) ∷ [])
    ∷ drop_expr (put_char (const 101)) ∷ [])) ∷ []) ∷ [])

switch_in_a_loop_ends : run_of switch_in_a_loop 4 ≡ comes_to (Ended 9) (100 ∷ 101 ∷ 100 ∷ 101 ∷ 101 ∷ [])
unfolding at_turn c_run
switch_in_a_loop_ends = refl

switch_in_a_loop_runs : run_of switch_in_a_loop 3 ≡ comes_to Running (100 ∷ 101 ∷ 100 ∷ 101 ∷ 101 ∷ [])
unfolding at_turn c_run
switch_in_a_loop_runs = refl

-- switch in which a loop breaks, then falls on
break_of_a_loop_in_a_switch : run_of (unit (main 0 (switch_on (const 1) (group (1 ∷ []) false (loop None None break ∷ drop_expr (put_char (const 97)) ∷ []) ∷ group [] true (drop_expr (put_char (const 98)) ∷ break ∷ drop_expr (put_char (const 99)) ∷ []) ∷ []) ∷ []) ∷ [])) 0 ≡ comes_to (Ended 0) (97 ∷ 98 ∷ [])
unfolding at_turn c_run
break_of_a_loop_in_a_switch = refl

switch_without_a_group : run_of (unit (main 0 (switch_on (seq (put_char (const 97)) (const 5)) (group (1 ∷ []) false (give (const 4) ∷ []) ∷ []) ∷ []) ∷ [])) 0 ≡ comes_to (Ended 0) (97 ∷ [])
unfolding at_turn c_run
switch_without_a_group = refl

-- do { putchar; continue; } while (putchar('t') , 0/1)
do_loop_ends : run_of (unit (main 1 (set 0 (const 0) ∷ do_loop (stmts_of (drop_expr (put_char (const 97)) ∷ set 0 (binary AddS (local 0) (const 1)) ∷ continue ∷ [])) (seq (put_char (const 116)) (binary LtS (local 0) (const 2))) ∷ []) ∷ [])) 1 ≡ comes_to (Ended 0) (97 ∷ 116 ∷ 97 ∷ 116 ∷ [])
unfolding at_turn c_run
do_loop_ends = refl

do_loop_runs : run_of (unit (main 1 (set 0 (const 0) ∷ do_loop (stmts_of (drop_expr (put_char (const 97)) ∷ set 0 (binary AddS (local 0) (const 1)) ∷ continue ∷ [])) (seq (put_char (const 116)) (binary LtS (local 0) (const 2))) ∷ []) ∷ [])) 0 ≡ comes_to Running (97 ∷ 116 ∷ [])
unfolding at_turn c_run
do_loop_runs = refl

-- step goes before the turn, and its value may be missing; test of none is undefined
abbrev no_value : Func
no_value = function (codes "f") 0 0 (drop_expr (put_char (const 102)) ∷ [])

step_is_dropped : run_of (unit (no_value ∷ main 0 (loop None (Some (call_with 0 [])) (stmts_of []) ∷ []) ∷ [])) 2 ≡ comes_to Running (102 ∷ [])
unfolding at_turn c_run
step_is_dropped = refl

step_before_the_turn : run_of (unit (no_value ∷ main 0 (loop None (Some (call_with 0 [])) (stmts_of []) ∷ []) ∷ [])) 1 ≡ comes_to Running (102 ∷ [])
unfolding at_turn c_run
step_before_the_turn = refl

test_is_used : run_of (unit (no_value ∷ main 0 (loop (Some (call_with 0 [])) None (stmts_of []) ∷ []) ∷ [])) 1 ≡ comes_to Undefined (102 ∷ [])
unfolding at_turn c_run
test_is_used = refl

-- Drop of choose of seq of call
passed_value_is_dropped : run_of (unit (no_value ∷ main 0 (drop_expr (choose (const 1) (seq (call_with 0 []) (call_with 0 [])) (const 1)) ∷ []) ∷ [])) 2 ≡ comes_to (Ended 0) (102 ∷ 102 ∷ [])
unfolding at_turn c_run
passed_value_is_dropped = refl

passed_value_is_used : run_of (unit (no_value ∷ main 1 (drop_expr (set_local 0 (choose (const 1) (seq (const 1) (call_with 0 [])) (const 1))) ∷ []) ∷ [])) 2 ≡ comes_to Undefined (102 ∷ [])
unfolding at_turn c_run
passed_value_is_used = refl

-- a missing value stops at the operand: the right operand's output does not come
operand_stops_at_once : run_of (unit (no_value ∷ main 0 (drop_expr (binary AddS (call_with 0 []) (put_char (const 65))) ∷ []) ∷ [])) 1 ≡ comes_to Undefined (102 ∷ [])
unfolding at_turn c_run
operand_stops_at_once = refl

address_stops_at_once : run_of (unit (no_value ∷ main 0 (drop_expr (store W32 (call_with 0 []) (put_char (const 65))) ∷ []) ∷ [])) 1 ≡ comes_to Undefined (102 ∷ [])
unfolding at_turn c_run
address_stops_at_once = refl

-- arguments first, then depth, then turn
abbrev second_of_two : Func
second_of_two = function (codes "g") 2 3 (give (local 1) ∷ [])

arguments_before_the_depth : c_run (unit (second_of_two ∷ main 0 (give (call_with 0 (put_char (const 65) ∷ put_char (const 66) ∷ [])) ∷ []) ∷ [])) a_layout [] 1 0 ≡ comes_to Deep (65 ∷ 66 ∷ [])
unfolding at_turn c_run
arguments_before_the_depth = refl

arguments_before_the_turn : c_run (unit (second_of_two ∷ main 0 (give (call_with 0 (put_char (const 65) ∷ put_char (const 66) ∷ [])) ∷ []) ∷ [])) a_layout [] 2 0 ≡ comes_to Running (65 ∷ 66 ∷ [])
unfolding at_turn c_run
arguments_before_the_turn = refl

arguments_in_order : c_run (unit (second_of_two ∷ main 0 (give (call_with 0 (put_char (const 65) ∷ put_char (const 66) ∷ [])) ∷ []) ∷ [])) a_layout [] 2 1 ≡ comes_to (Ended 66) (65 ∷ 66 ∷ [])
unfolding at_turn c_run
arguments_in_order = refl

-- depth goes back after a call, locals too
caller_goes_on : c_run (unit (second_of_two ∷ main 1 (set 0 (const 8) ∷ drop_expr (call_with 0 (const 1 ∷ const 2 ∷ [])) ∷ give (binary AddS (local 0) (call_with 0 (const 1 ∷ const 2 ∷ []))) ∷ []) ∷ [])) a_layout [] 2 2 ≡ comes_to (Ended 10) []
unfolding at_turn c_run
caller_goes_on = refl

-- other locals are unset at the start, dropped read of an unset one is undefined
other_locals_are_unset : run_of (unit (function (codes "g") 1 2 (drop_expr (local 1) ∷ []) ∷ main 0 (drop_expr (call_with 0 (const 1 ∷ [])) ∷ []) ∷ [])) 5 ≡ comes_to Undefined []
unfolding at_turn c_run
other_locals_are_unset = refl

-- main: return;
main_returns_nothing : run_of (unit (main 0 (return_with None ∷ []) ∷ [])) 0 ≡ comes_to (Ended 0) []
unfolding at_turn c_run
main_returns_nothing = refl

-- unset again at its declaration
unset_again : run_of (unit (main 2 (set 1 (const 0) ∷ loop None None (stmts_of (unset 0 ∷ if_else (local 1) (drop_expr (local 0)) (stmts_of []) ∷ set 0 (const 1) ∷ set 1 (const 1) ∷ [])) ∷ []) ∷ [])) 9 ≡ comes_to Undefined []
unfolding at_turn c_run
unset_again = refl

-- && and || stop early, and give 0 or 1
both_and_either : run_of (unit (main 0 (drop_expr (both (put_char (const 0)) (put_char (const 66))) ∷ give (binary AddS (both (put_char (const 65)) (put_char (const 66))) (either (const 0) (put_char (const 67)))) ∷ []) ∷ [])) 0 ≡ comes_to (Ended 2) (0 ∷ 65 ∷ 66 ∷ 67 ∷ [])
unfolding at_turn c_run
both_and_either = refl

either_stops : run_of (unit (main 0 (give (either (const 5) (put_char (const 66))) ∷ []) ∷ [])) 0 ≡ comes_to (Ended 1) []
unfolding at_turn c_run
either_stops = refl

-- the end of memory: the data ends at 2^32
data_at_the_end_of_memory : c_run (with_objects (an_object 16 4 ∷ []) (main 0 (drop_expr (store W32 (address 0 12) (const 7)) ∷ drop_expr (put_char (load W32 (address 0 12))) ∷ give (load U8 (address 0 16)) ∷ []) ∷ [])) (record { code = 0x1_0000; cdata = 0xffff_fff0; top = 0x4000_0000; stack = 0x1_0000 }) [] 1 0 ≡ comes_to Undefined (7 ∷ [])
unfolding at_turn c_run
data_at_the_end_of_memory = refl

address_at_the_end_of_memory : c_run (with_objects (an_object 16 4 ∷ []) (main 0 (give (binary Eq (address 0 16) (const 0)) ∷ []) ∷ [])) (record { code = 0x1_0000; cdata = 0xffff_fff0; top = 0x4000_0000; stack = 0x1_0000 }) [] 1 0 ≡ comes_to (Ended 1) []
unfolding at_turn c_run
address_at_the_end_of_memory = refl

-- an address cell in the image: int x; int *p = &x + 1 (addend 4)
address_in_the_data : run_of (with_objects (an_object 1 1 ∷ record { name = codes "p"; size = 4; align = 4; cells = record { offset = 0; width = 4; value = Address 0 4 } ∷ [] } ∷ []) (main 0 (give (binary Eq (load W32 (address 1 0)) (address 1 0)) ∷ []) ∷ [])) 0 ≡ comes_to (Ended 1) []
unfolding at_turn c_run
address_in_the_data = refl

-- the value of a copy is its left place
value_of_a_copy : data_run (main 0 (give (binary Eq (copy 4 4 (address 1 0) (address 0 0)) (address 1 0)) ∷ []) ∷ []) ≡ comes_to (Ended 1) []
unfolding at_turn c_run
value_of_a_copy = refl

-- a Running main with nothing to do: a turn used at the head even where the test is then false
no_turn_for_the_last_test : run_of (unit (main 1 (set 0 (const 0) ∷ loop (Some (binary Eq (local 0) (const 0))) None (set 0 (const 1)) ∷ []) ∷ [])) 0 ≡ comes_to Running []
unfolding at_turn c_run
no_turn_for_the_last_test = refl

turn_before_the_last_test : run_of (unit (main 1 (set 0 (const 0) ∷ loop (Some (binary Eq (local 0) (const 0))) None (set 0 (const 1)) ∷ []) ∷ [])) 1 ≡ comes_to (Ended 0) []
unfolding at_turn c_run
turn_before_the_last_test = refl

abbrev equals : Expr → ℕ → Ran
equals e n = run_of (unit (main 0 (give (binary Eq e (const n)) ∷ []) ∷ [])) 0

abbrev holds : Ran
holds = comes_to (Ended 1) []

abbrev undefined : Ran
undefined = comes_to Undefined []

to_signed_byte : equals (convert to.I8 (const 0x180)) 0xffff_ff80 ≡ holds
unfolding at_turn c_run
to_signed_byte = refl

to_byte : equals (convert to.U8 (const 0xffff_ff80)) 0x80 ≡ holds
unfolding at_turn c_run
to_byte = refl

to_signed_half : equals (convert to.I16 (const 0x1_8000)) 0xffff_8000 ≡ holds
unfolding at_turn c_run
to_signed_half = refl

to_half : equals (convert to.U16 (const 0xffff_8000)) 0x8000 ≡ holds
unfolding at_turn c_run
to_half = refl

to_truth : equals (convert to.Truth (const 0x100)) 1 ≡ holds
unfolding at_turn c_run
to_truth = refl

least_by_minus_one : equals (binary RemS (const 0x8000_0000) (const 0xffff_ffff)) 0 ≡ undefined
unfolding at_turn c_run
least_by_minus_one = refl

shift_by_a_negative_amount : equals (binary ShlS (const 0) (const 0xffff_ffff)) 0 ≡ undefined
unfolding at_turn c_run
shift_by_a_negative_amount = refl

shift_by_none : equals (binary ShrS (const 0x8000_0000) (const 0)) 0x8000_0000 ≡ holds
unfolding at_turn c_run
shift_by_none = refl

shift_by_32 : equals (binary ShlU (const 0xffff_ffff) (const 32)) 0 ≡ undefined
unfolding at_turn c_run
shift_by_32 = refl
