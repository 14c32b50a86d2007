-- Whole units with their typed units, worked by hand.
use Prim.Native.String.{String}
use Rattle.std.proofs.Common.{◌≡◌, ℕ, Bool, true, false, List, [], ◌∷◌, refl, Some, None, codes}
use Rattle.cp_base.specs.declared.op.Kind.TheVariants as access
use Rattle.cp_base.specs.declared.op.To.TheVariants as to
use Rattle.c_types.specs.declared.tree.COp.TheVariants as op
use Rattle.c_types.specs.declared.tree.Expr.{Expr}
use Rattle.c_types.specs.declared.tree.Stmt.{Stmt}
use Rattle.c_types.specs.declared.tree.Func.{Func}
use Rattle.c_types.specs.declared.tree.Group.{Group}
use Rattle.c_types.specs.declared.tree.Object.{Object}
use Rattle.c_types.specs.declared.tree.Cell.{Cell}
use Rattle.c_types.specs.declared.tree.CellValue.TheVariants.{Number, Address}
use Rattle.c_types.specs.declared.tree.Unit.{Unit as Whole}
use Rattle.c_types.specs.Forms.{const, address, local, set_local, load, store, binary, convert, choose, seq, call, get_char, put_char, copy, drop_expr, unset, return_with, if_else, loop, do_loop, break, continue, switch, expr_row, length_of, group_row}
use Rattle.c_typing.specs.Statements.{block_of}
use Rattle.c_typing.proofs.Texts.{unit_in, Row, size_at, keeps, Hold, holds}

-- ---- how units are written

abbrev function : String → ℕ → ℕ → Bool → List Stmt → Func
function name params locals gives body = record { name = codes name; params = params; locals = locals; gives = gives; body = block_of body }

abbrev object : String → ℕ → ℕ → List Cell → Object
object name size align cells = record { name = codes name; size = size; align = align; cells = cells }

abbrev cell : ℕ → ℕ → ℕ → Cell
cell offset width n = record { offset = offset; width = width; value = Number n }

abbrev address_cell : ℕ → ℕ → ℕ → Cell
address_cell offset object addend = record { offset = offset; width = 4; value = Address object addend }

abbrev unit : List Object → List Func → Whole
unit objects functions = record { objects = objects; functions = functions }

abbrev calls : ℕ → List Expr → Expr
calls f es = call f (length_of es) (expr_row es)

abbrev word_at : Expr → Expr
word_at e = load access.W32 e

abbrev sum : Expr → Expr → Expr
sum l r = binary op.AddU l r

-- ---- linked-list

abbrev linked_list : String
linked_list =
    "typedef struct node { int value; struct node *next; } node; static node pool[3]; int main(void) { node *head = 0; int i, sum = 0; for (i = 0; i < 3; i++) { pool[i].value = (i + 1) * 10; pool[i].next = head; head = &pool[i]; } for (; head; head = head->next) sum += head->value; return sum; }"

-- head, i and sum are 0 to 2; `i++` takes 3
abbrev pool_at_i : Expr
pool_at_i = sum (address 0 0) (binary op.MulU (local 1) (const 8))

abbrev linked_main : List Stmt
linked_main =
    block_of (drop_expr (set_local 0 (const 0)) ∷ []) ∷
    block_of (unset 1 ∷ drop_expr (set_local 2 (const 0)) ∷ []) ∷
    block_of (drop_expr (set_local 1 (const 0)) ∷
    loop (Some (binary op.LtS (local 1) (const 3)))
    (Some (seq (set_local 3 (local 1)) (seq (set_local 1 (binary op.AddS (local 3) (const 1))) (local 3))))
    (block_of (
    drop_expr (store access.W32 (sum pool_at_i (const 0)) (binary op.MulS (binary op.AddS (local 1) (const 1)) (const 10))) ∷
    drop_expr (store access.W32 (sum pool_at_i (const 4)) (local 0)) ∷
    drop_expr (set_local 0 pool_at_i) ∷ [])) ∷ []) ∷
    block_of (block_of [] ∷
    loop (Some (local 0)) (Some (set_local 0 (word_at (sum (local 0) (const 4)))))
    (drop_expr (set_local 2 (binary op.AddS (local 2) (word_at (sum (local 0) (const 0)))))) ∷ []) ∷
    return_with (Some (local 2)) ∷ []

linked_list_keeps : Hold (keeps linked_list ∷ [])
unfolding holds
linked_list_keeps = refl

linked_list_unit : unit_in linked_list ≡ unit (object "pool" 24 4 [] ∷ []) (function "main" 0 4 true linked_main ∷ [])
unfolding unit_in
linked_list_unit = refl

-- ---- word-count

abbrev word_count : String
word_count =
    "typedef unsigned int size; extern int getchar(void); extern int putchar(int c); enum { OUT, IN }; static const char blanks[] = \" \\t\\n\"; static size counts[3]; static int is_blank(int c) { const char *p; for (p = blanks; *p; ++p) if (*p == c) return 1; return 0; } static void print(size n) { if (n >= 10) print(n / 10); putchar('0' + n % 10); } int main(void) { int c, state = OUT, i; while ((c = getchar()) != -1) { ++counts[2]; if (c == '\\n') ++counts[0]; if (is_blank(c)) state = OUT; else if (state == OUT) { state = IN; ++counts[1]; } } for (i = 0; i < 3; ++i) { print(counts[i]); putchar(i < 2 ? ' ' : '\\n'); } return 0; }"

abbrev blank_body : List Stmt
blank_body =
    block_of (unset 1 ∷ []) ∷
    block_of (drop_expr (set_local 1 (address 0 0)) ∷
    loop (Some (load access.U8 (local 1))) (Some (set_local 1 (sum (local 1) (binary op.MulU (const 1) (const 1)))))
    (if_else (binary op.Eq (load access.U8 (local 1)) (local 0)) (return_with (Some (const 1))) (block_of [])) ∷ []) ∷
    return_with (Some (const 0)) ∷ []

abbrev print_body : List Stmt
print_body =
    if_else (binary op.GeU (local 0) (const 10)) (drop_expr (calls 1 (binary op.DivU (local 0) (const 10) ∷ []))) (block_of []) ∷
    drop_expr (put_char (binary op.AddU (const 48) (binary op.RemU (local 0) (const 10)))) ∷ []

-- `++counts[n]`, where the hidden local h has the address
abbrev counts_up : ℕ → ℕ → Stmt
counts_up h n =
    drop_expr (seq (set_local h (sum (address 1 0) (binary op.MulU (const n) (const 4))))
    (store access.W32 (local h) (binary op.AddU (word_at (local h)) (const 1))))

-- c, state and i are 0 to 2; each `++counts[n]` takes one more
abbrev count_main : List Stmt
count_main =
    block_of (unset 0 ∷ drop_expr (set_local 1 (const 0)) ∷ unset 2 ∷ []) ∷
    loop (Some (binary op.Ne (set_local 0 get_char) (binary op.SubS (const 0) (const 1)))) None (block_of (
    counts_up 3 2 ∷
    if_else (binary op.Eq (local 0) (const 10)) (counts_up 4 0) (block_of []) ∷
    if_else (calls 0 (local 0 ∷ [])) (drop_expr (set_local 1 (const 0)))
    (if_else (binary op.Eq (local 1) (const 0)) (block_of (drop_expr (set_local 1 (const 1)) ∷ counts_up 5 1 ∷ [])) (block_of [])) ∷ [])) ∷
    block_of (drop_expr (set_local 2 (const 0)) ∷
    loop (Some (binary op.LtS (local 2) (const 3))) (Some (set_local 2 (binary op.AddS (local 2) (const 1)))) (block_of (
    drop_expr (calls 1 (word_at (sum (address 1 0) (binary op.MulU (local 2) (const 4))) ∷ [])) ∷
    drop_expr (put_char (choose (binary op.LtS (local 2) (const 2)) (const 32) (const 10))) ∷ [])) ∷ []) ∷
    return_with (Some (const 0)) ∷ []

word_count_keeps : Hold (keeps word_count ∷ [])
unfolding holds
word_count_keeps = refl

word_count_unit : unit_in word_count
    ≡ unit (object "blanks" 4 1 (cell 0 1 32 ∷ cell 1 1 9 ∷ cell 2 1 10 ∷ []) ∷ object "counts" 12 4 [] ∷ [])
    (function "is_blank" 1 2 true blank_body ∷ function "print" 1 1 false print_body ∷ function "main" 0 6 true count_main ∷ [])
unfolding unit_in
word_count_unit = refl

-- ---- struct-copy

abbrev struct_copy : String
struct_copy =
    "struct p{char c;int x;};static struct p a={1,20},b;int main(void){struct p*q=&b;*q=a;a.x=3;return b.x+b.c+(b=a).x;}"

abbrev copy_main : List Stmt
copy_main =
    block_of (drop_expr (set_local 0 (address 1 0)) ∷ []) ∷
    drop_expr (copy 8 4 (local 0) (address 0 0)) ∷
    drop_expr (store access.W32 (sum (address 0 0) (const 4)) (const 3)) ∷
    return_with (Some (binary op.AddS
    (binary op.AddS (word_at (sum (address 1 0) (const 4))) (load access.U8 (sum (address 1 0) (const 0))))
    (word_at (sum (copy 8 4 (address 1 0) (address 0 0)) (const 4))))) ∷ []

struct_copy_keeps : Hold (keeps struct_copy ∷ [])
unfolding holds
struct_copy_keeps = refl

struct_copy_unit : unit_in struct_copy
    ≡ unit (object "a" 8 4 (cell 0 1 1 ∷ cell 4 4 20 ∷ []) ∷ object "b" 8 4 [] ∷ []) (function "main" 0 1 true copy_main ∷ [])
unfolding unit_in
struct_copy_unit = refl

-- ---- `switch`, with labels in source order; `break`, `continue`, `do`

abbrev group : List ℕ → Bool → List Stmt → Group
group labels other body = record { labels = labels; other = other; body = body }

abbrev switches : Expr → List Group → Stmt
switches e gs = switch e (length_of gs) (group_row gs)

switch_unit : unit_in "int main(void){char n=7;switch(n){case 1:case -1:n=2;break;default:n=3;case 'a':;n=4;}do{if(n)continue;break;}while(n);return n;}"
    ≡ unit [] (function "main" 0 1 true (
    block_of (drop_expr (set_local 0 (convert to.U8 (const 7))) ∷ []) ∷
    switches (local 0) (
    group (1 ∷ 4294967295 ∷ []) false (drop_expr (set_local 0 (convert to.U8 (const 2))) ∷ break ∷ []) ∷
    group [] true (drop_expr (set_local 0 (convert to.U8 (const 3))) ∷ []) ∷
    group (97 ∷ []) false (block_of [] ∷ drop_expr (set_local 0 (convert to.U8 (const 4))) ∷ []) ∷ []) ∷
    do_loop (block_of (if_else (local 0) continue (block_of []) ∷ break ∷ [])) (local 0) ∷
    return_with (Some (local 0)) ∷ []) ∷ [])
unfolding unit_in
switch_unit = refl

-- ---- locals: the parameters, also one without a name, then the declared ones, then the hidden ones; a static object does nothing at its place

numbered_unit : unit_in "int f(int a,int){int b=a++;{static int b=3;int c;c=b;}for(int d;;)return b;}int main(void){return 0;}"
    ≡ unit (object "b" 4 4 (cell 0 4 3 ∷ []) ∷ [])
    (function "f" 2 6 true (
    block_of (drop_expr (set_local 2 (seq (set_local 5 (local 0)) (seq (set_local 0 (binary op.AddS (local 5) (const 1))) (local 5)))) ∷ []) ∷
    block_of (block_of (unset 3 ∷ []) ∷ drop_expr (set_local 3 (word_at (address 0 0))) ∷ []) ∷
    block_of (block_of (unset 4 ∷ []) ∷ loop None None (return_with (Some (local 2))) ∷ []) ∷ []) ∷
    function "main" 0 0 true (return_with (Some (const 0)) ∷ []) ∷ [])
unfolding unit_in
numbered_unit = refl

-- ---- objects: in the order of their first declarations, then the literals; a cell for each scalar and for each byte of a string

abbrev main_only : List Func
main_only = function "main" 0 0 true [] ∷ []

objects_unit : unit_in "static int a[3]={1,2};static char s[4]=\"ab\";struct p{char c;int x;};static struct p t[2]={{1,2},{3}};static int*q=&a[1];static char*r=\"hi\"+1;static int*n=0;static _Bool b=5;static signed char m=-1;static char*x[2]={\"a\",\"b\"};static char u[]={\"cd\"};int main(void){}"
    ≡ unit (
    object "a" 12 4 (cell 0 4 1 ∷ cell 4 4 2 ∷ []) ∷
    object "s" 4 1 (cell 0 1 97 ∷ cell 1 1 98 ∷ []) ∷
    object "t" 16 4 (cell 0 1 1 ∷ cell 4 4 2 ∷ cell 8 1 3 ∷ []) ∷
    object "q" 4 4 (address_cell 0 0 4 ∷ []) ∷
    object "r" 4 4 (address_cell 0 10 1 ∷ []) ∷
    object "n" 4 4 (cell 0 4 0 ∷ []) ∷
    object "b" 1 1 (cell 0 1 1 ∷ []) ∷
    object "m" 1 1 (cell 0 1 4294967295 ∷ []) ∷
    object "x" 8 4 (address_cell 0 11 0 ∷ address_cell 4 12 0 ∷ []) ∷
    object "u" 3 1 (cell 0 1 99 ∷ cell 1 1 100 ∷ []) ∷
    object "" 3 1 (cell 0 1 104 ∷ cell 1 1 105 ∷ []) ∷
    object "" 2 1 (cell 0 1 97 ∷ []) ∷
    object "" 2 1 (cell 0 1 98 ∷ []) ∷ []) main_only
unfolding unit_in
objects_unit = refl

-- an object that is declared `extern` stands at its first declaration, and is none without a definition
extern_unit : unit_in "extern int x;extern int z;static int y;int x=4;int main(void){}"
    ≡ unit (object "x" 4 4 (cell 0 4 4 ∷ []) ∷ object "y" 4 4 [] ∷ []) main_only
unfolding unit_in
extern_unit = refl

-- ---- sizes above the limit: of a type, of an object or a literal at its end

abbrev sizes : List Row
sizes =
    ("static char a[16777217];int main(void){return 0;}", size_at 16777217 "array" 0 ∷ []) ∷
    keeps "static char a[16777216];int main(void){return 0;}" ∷
    ("static char a[4294967295u];int main(void){return 0;}", size_at 4294967295 "array" 0 ∷ []) ∷
    ("struct s{char a[16777216],b;};int main(void){return 0;}", size_at 16777217 "struct s" 0 ∷ []) ∷
    keeps "struct s{char a[16777215],b;};int main(void){return 0;}" ∷
    ("static char a[16777216],b;int main(void){return 0;}", size_at 16777217 "name b" 0 ∷ []) ∷
    keeps "static char a[16777215],b;int main(void){return 0;}" ∷
    ("static char a[16777216];int main(void){return !\"\";}", size_at 16777217 "string" 0 ∷ []) ∷
    keeps "static char a[16777215];int main(void){return !\"\";}" ∷ []

sizes_hold : Hold sizes
unfolding holds
sizes_hold = refl

-- ---- numbers: literals stand behind all objects, also those that are declared later, and behind no function

later_unit : unit_in "typedef int F(void);char*f(void){return\"x\";}int g;F h;int main(void){return g;}"
    ≡ unit (object "g" 4 4 [] ∷ object "" 2 1 (cell 0 1 120 ∷ []) ∷ [])
    (function "f" 0 0 true (return_with (Some (address 1 0)) ∷ []) ∷ function "main" 0 0 true (return_with (Some (word_at (address 0 0))) ∷ []) ∷ [])
unfolding unit_in
later_unit = refl

-- a function is called before it is defined
forward_unit : unit_in "int g(int a,int b);int main(void){return g(1,2);}int g(int x,int y){return y;}"
    ≡ unit [] (function "main" 0 0 true (return_with (Some (calls 1 (const 1 ∷ const 2 ∷ []))) ∷ []) ∷ function "g" 2 2 true (return_with (Some (local 1)) ∷ []) ∷ [])
unfolding unit_in
forward_unit = refl

-- arrays of arrays, and a local in braces
table_unit : unit_in "static int a[2][3]={{1},{2,3}};int main(void){int x={1};return a[x][2];}"
    ≡ unit (object "a" 24 4 (cell 0 4 1 ∷ cell 12 4 2 ∷ cell 16 4 3 ∷ []) ∷ [])
    (function "main" 0 1 true (
    block_of (drop_expr (set_local 0 (const 1)) ∷ []) ∷
    return_with (Some (word_at (sum (sum (address 0 0) (binary op.MulU (local 0) (const 12))) (binary op.MulU (const 2) (const 4))))) ∷ []) ∷ [])
unfolding unit_in
table_unit = refl
