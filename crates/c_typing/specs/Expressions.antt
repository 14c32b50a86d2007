-- What expressions mean, one production after the other. C99 6.5.
use Rattle.std.specs.Prelude.{ℕ, zero, suc, ◌+◌, ◌^◌, ◌-◌, Bool, true, false, List, [], ◌∷◌, ◌++◌, ◌&&◌, ◌||◌, ◌==◌, not, if◌then◌else◌, Option, Some, None, length, filter, map, find, drop, sum, codes, unwrap_or, zip, option_and_then}
use Rattle.std.specs.Option.{is_some}
use Rattle.std.specs.Str.{bytes_eq}
use Rattle.c_lexer.specs.declared.token.IntType.{IntType}
use Rattle.c_lexer.specs.declared.token.IntType.TheVariants as constant_type
use Rattle.c_syntax.specs.declared.kind.SynKind.{SynKind}
use Rattle.c_syntax.specs.declared.kind.SynKind.TheVariants as kind
use Rattle.c_types.specs.declared.tree.COp.{COp}
use Rattle.c_types.specs.declared.tree.COp.TheVariants as op
use Rattle.c_types.specs.declared.tree.Expr.{Expr}
use Rattle.c_types.specs.Forms.{const, address, local, set_local, load, store, binary, both, either, choose, seq, call, get_char, put_char, copy, expr_row, length_of}
use Rattle.c_typing.specs.Types.{IntegerType, char, int, uint, long, ulong, CType, void, integer, pointer, array, struct, function, promoted, common, is_integer, is_array, is_function, is_scalar, integer_of, target_of, listed, Field, Layout, layout_of, has_size, size_of, align_of}
use Rattle.c_typing.specs.Places.{Node, kid, other_kids, is_string, parent_of}
use Rattle.c_typing.specs.Names.{Places, Name, Entity, typedef_name, function_name, static_object, enumerator, object_number, objects_of, function_number, function_around, named_locals, local_number}
use Rattle.c_typing.specs.Judgements.{Callee, reads_input, writes_output, calls, Form, in_local, in_memory, temporary, callee, Constant, no_constant, number, place_at, Typing, Fault, Meaning, enumerates, expresses, fills_array, Judgement, means, waits, verdict, given, judgement_at, type_at, layouts, hidden_in, meaning_of, besides, all_of, typing_at}
use Rattle.c_typing.specs.Conversions.{valued, value_of, result, access_of, converted_to, converted_code, is_castable, Class, additive, subtractive, shift, and_then, or_else, Operator, operator_of, result_type, choice_type, operator_code, scaled, signs}
use Rattle.c_typing.specs.Constants.{operated, chosen_constant, binary_constant, cast_constant, part_at, element_at, address_constant}
use Rattle.c_typing.specs.Rules.{unknown_name, incomplete_type, no_such_member, address_of_local, no_lvalue, not_assignable, bad_operand, bad_conversion, wrong_number, not_a_function, function_as_value, big_struct, is_getchar, is_putchar}

-- ---- hidden locals: in order of the nodes that take them, behind the named ones of the function

abbrev pub hidden_before : Places → List Judgement → ℕ
hidden_before p js =
    let f = function_around p (length js) in named_locals p f + sum (map hidden_in (drop f.first js))

abbrev pub expression : Typing → Meaning
expression x = expresses x 0

abbrev pub number_of_type : IntegerType → ℕ → Typing
number_of_type k w = valued (integer k) (const w) (number w)

-- ---- primary expressions (6.4.4, 6.4.5, 6.5.1)

abbrev pub integer_type : IntType → IntegerType
integer_type constant_type.Int = int
integer_type constant_type.UInt = uint
integer_type constant_type.Long = long
integer_type constant_type.ULong = ulong

-- the string literals before that are objects
abbrev pub is_literal : Node × Judgement → Bool
is_literal (node, j) = is_string node.label.kind && not (is_text (meaning_of j))
  where
    is_text : Option Meaning → Bool
    is_text (Some fills_array) = true
    is_text m = false

abbrev pub literals_before : Places → List Judgement → ℕ
literals_before p js = length (filter is_literal (zip p.nodes js))

abbrev pub literal : Places → List Judgement → List ℕ → Typing
literal p js bytes =
    let object = length (objects_of p) + literals_before p js in
    record { type = array (integer char) (length bytes + 1); form = in_memory; code = address object 0; constant = place_at object 0 true }

-- the name of a function is called: parentheses around it are not counted
abbrev pub is_called : Places → ℕ → ℕ → Bool
is_called p zero n = false
is_called p (suc fuel) n =
    let outer = parent_of p.nodes n in
    let further = is_called p fuel outer.id in
    called_by outer.label.kind (kid outer 0 == n) further
  where
    called_by : SynKind → Bool → Bool → Bool
    called_by kind.Call is_first further = is_first
    called_by kind.Paren is_first further = further
    called_by k is_first further = false

abbrev pub callee_of : Places → List ℕ → Callee
callee_of p text =
    if is_getchar text then reads_input else if is_putchar text then writes_output else calls (unwrap_or (function_number p text) 0)

abbrev pub object_typing : CType → Option ℕ → Typing
object_typing t place =
    let object = unwrap_or place 0 in record { type = t; form = in_memory; code = address object 0; constant = place_at object 0 true }

abbrev pub local_typing : CType → ℕ → Typing
local_typing t k = record { type = t; form = in_local k; code = local k; constant = no_constant }

-- the type of a name at the node n: behind its initializer, the one that this completes (6.7.8, 22)
abbrev pub type_of_name : List Judgement → Name → Option CType
type_of_name js e = if is_some (type_at js e.owner) then type_at js e.owner else type_at js e.behind

abbrev pub word_of_enumerator : Judgement → Option ℕ
word_of_enumerator (means (enumerates w)) = Some w
word_of_enumerator j = None

unfoldable pub variable_by : Places → List Judgement → Node → Name → Entity → Judgement
variable_by p js node e typedef_name = verdict (unknown_name false node.id) (expression (number_of_type int 0))
variable_by p js node e enumerator = given (word_of_enumerator (judgement_at js e.node)) λ w. means (expression (number_of_type int w))
variable_by p js node e function_name = given (type_of_name js e) λ t.
    verdict (function_as_value (is_called p (length p.nodes) node.id) node.id ++ not_a_function (is_function t) node.id)
    (expression (record { type = t; form = callee (callee_of p e.text); code = const 0; constant = no_constant }))
variable_by p js node e static_object = given (type_of_name js e) λ t.
    means (expression (object_typing t (object_number p e)))
variable_by p js node e local_entity = given (type_of_name js e) λ t. means (expression (local_typing t (local_number p e)))

unfoldable pub variable : Places → List Judgement → Node → Option Name → Judgement
variable p js node None = verdict (unknown_name false node.id) (expression (number_of_type int 0))
variable p js node (Some e) = variable_by p js node e e.entity

-- ---- postfix expressions (6.5.2)

-- a compound assignment, an increment or a decrement reads and writes an lvalue: what it writes is made of what it reads
abbrev pub written : ℕ → Typing → (Expr → Expr) → Form → Expr
written h x new (in_local k) = set_local k (new (local k))
written h x new f = seq (set_local h x.code) (store (access_of x.type) (local h) (new (load (access_of x.type) (local h))))

abbrev pub written_before : ℕ → Typing → (Expr → Expr) → Form → Expr
written_before h x new (in_local k) = seq (set_local h (local k)) (seq (set_local k (new (local h))) (local h))
written_before h x new f =
    seq (set_local h x.code) (seq (set_local (h + 1) (load (access_of x.type) (local h)))
    (seq (store (access_of x.type) (local h) (new (local (h + 1)))) (local (h + 1))))

-- how many hidden locals that takes: in memory one for the address, and one for an old value that is the result
abbrev pub hidden_for : Form → ℕ → ℕ
hidden_for (in_local k) old = old
hidden_for f old = 1 + old

-- the operand and 1, by `+` or `-`, as a value of the operand's type (6.5.2.4, 2; 6.5.3.1, 2)
abbrev pub step_operator : List ℕ → Operator
step_operator text =
    if bytes_eq text (codes "++") then record { text = codes "+"; class = additive; signed = op.AddS; unsigned = op.AddU }
    else record { text = codes "-"; class = subtractive; signed = op.SubS; unsigned = op.SubU }

abbrev pub stepped : List Layout → Operator → CType → Expr → Expr
stepped ls o t e = converted_code (unwrap_or (result_type ls o.class (valued t e no_constant) (number_of_type int 1)) t) t (operator_code ls o.class t (integer int) o e (const 1))

abbrev pub can_step : List Layout → CType → Bool
can_step ls (integer k) = true
can_step ls (pointer t) = has_size ls t
can_step ls t = false

-- the operand of `++` or `--`: where it is an array, rule 12 is broken and no other
abbrev pub step_faults : List Layout → Typing → ℕ → List Fault
step_faults ls x n = by (not_assignable x n)
  where
    by : List Fault → List Fault
    by [] = bad_operand (can_step ls x.type) n
    by (f ∷ fs) = f ∷ fs

unfoldable pub prefix_step : Places → List Judgement → Node → Typing → Judgement
prefix_step p js node x =
    verdict (step_faults (layouts js) x node.id)
    (expresses (result x.type (written (hidden_before p js) x (stepped (layouts js) (step_operator node.label.text) x.type) x.form) no_constant) (hidden_for x.form 0))

unfoldable pub postfix_step : Places → List Judgement → Node → Typing → Judgement
postfix_step p js node x =
    verdict (step_faults (layouts js) x node.id)
    (expresses (result x.type (written_before (hidden_before p js) x (stepped (layouts js) (step_operator node.label.text) x.type) x.form) no_constant) (hidden_for x.form 1))

-- 6.5.2.1: a pointer to a type with a size and an integer, in either order
abbrev pub element_type : List Layout → CType → CType → Option CType
element_type ls (pointer t) (integer k) = if has_size ls t then Some t else None
element_type ls (integer k) (pointer t) = if has_size ls t then Some t else None
element_type ls t u = None

abbrev pub element_typing : List Layout → CType → CType → Typing → Typing → Constant → Typing
element_typing ls t (pointer u) x y c = record { type = t; form = in_memory; code = binary op.AddU (scaled ls t x.code) y.code; constant = c }
element_typing ls t u x y c = record { type = t; form = in_memory; code = binary op.AddU x.code (scaled ls t y.code); constant = c }

-- of the lvalues and of the values of both
abbrev pub subscript_constant : ℕ → CType → Typing → Typing → Constant
subscript_constant size (pointer t) x y = element_at size y.constant x.constant
subscript_constant size u x y = element_at size x.constant y.constant

unfoldable pub subscript : List Judgement → Node → Typing → Typing → Judgement
subscript js node x y =
    let ls = layouts js in
    let a = value_of x in
    let b = value_of y in
    let type = element_type ls a.type b.type in
    let t = unwrap_or type a.type in
    verdict (bad_operand (is_some type) node.id)
    (expression (element_typing ls t b.type a b (subscript_constant (size_of ls t) b.type (over x a) (over y b))))
  where
    -- an array stays at its place; an index is a value
    over : Typing → Typing → Typing
    over x a = if is_array x.type then x else a

-- 6.5.2.2
abbrev pub argument_faults : List (CType × Typing × ℕ) → List Fault
argument_faults [] = []
argument_faults ((t, x, n) ∷ rest) = bad_conversion t x n ++ argument_faults rest

abbrev pub arguments : List CType → List Typing → List ℕ → List (CType × Typing × ℕ)
arguments (t ∷ ts) (x ∷ xs) (n ∷ ns) = (t, x, n) ∷ arguments ts xs ns
arguments ts xs ns = []

abbrev pub passed : CType × Typing × ℕ → Expr
passed (t, x, n) = converted_to t x

abbrev pub first_or : List Expr → Expr
first_or [] = const 0
first_or (e ∷ rest) = e

abbrev pub call_code : Callee → List Expr → Expr
call_code reads_input es = get_char
call_code writes_output es = put_char (first_or es)
call_code (calls f) es = call f (length_of es) (expr_row es)

unfoldable pub called : List Judgement → Node → Callee → CType → Judgement
called js node c (function r ps) =
    besides (wrong_number (length (listed ps)) (length (other_kids node)) node.id) (
    given (all_of (map (typing_at js) (other_kids node))) λ xs.
    let args = arguments (listed ps) (map value_of xs) (other_kids node) in
    verdict (argument_faults args) (expression (result r (call_code c (map passed args)) no_constant)))
called js node c t = waits

unfoldable pub call_by : List Judgement → Node → Typing → Form → Judgement
call_by js node f (callee c) = called js node c f.type
call_by js node f other = verdict (not_a_function false node.id) (expression f)

-- 6.5.2.3
abbrev pub field_of : List Layout → CType → List ℕ → Option Field
field_of ls (struct k) name = option_and_then (λ (l : Layout). find (λ field. bytes_eq field.name name) l.fields) (layout_of ls k)
field_of ls t name = None

abbrev pub no_field : Field
no_field = record { name = []; type = void; offset = 0 }

abbrev pub member_form : Form → Form
member_form temporary = temporary
member_form f = in_memory

abbrev pub member_typing : Form → Expr → Field → Constant → Typing
member_typing form at field c = record { type = field.type; form = form; code = binary op.AddU at (const field.offset); constant = c }

unfoldable pub dot : List Judgement → Node → Typing → Judgement
dot js node x =
    let field = field_of (layouts js) x.type node.label.text in
    let f = unwrap_or field no_field in
    verdict (no_such_member field node.id) (expression (member_typing (member_form x.form) x.code f (part_at f.offset x.constant)))

-- what `->` dereferences has no size where it is a struct that is not complete
abbrev pub dereferenced_struct : List Layout → CType → ℕ → List Fault
dereferenced_struct ls (pointer (struct k)) n = incomplete_type ls (struct k) n
dereferenced_struct ls t n = []

unfoldable pub arrow : List Judgement → Node → Typing → Judgement
arrow js node x =
    let v = value_of x in
    let field = field_of (layouts js) (target_of v.type) node.label.text in
    verdict (no_such_member field node.id ++ dereferenced_struct (layouts js) v.type node.id)
    (expression (member_typing in_memory v.code (unwrap_or field no_field) no_constant))

-- ---- unary operators (6.5.3)

unfoldable pub address_operator : Node → Typing → Judgement
address_operator node x = verdict (by x.form) (expression (valued (pointer x.type) x.code (address_constant x.constant)))
  where
    by : Form → List Fault
    by (in_local k) = address_of_local x.form node.id
    by f = no_lvalue f node.id

unfoldable pub dereference : List Judgement → Node → CType → Typing → Judgement
dereference js node (pointer t) v =
    verdict (incomplete_type (layouts js) t node.id) (expression (record { type = t; form = in_memory; code = v.code; constant = no_constant }))
dereference js node t v = verdict (bad_operand false node.id) (expression v)

-- `+`, `-` and `~` of an integer have its promoted type
abbrev pub minus_one : ℕ
minus_one = 2 ^ 32 - 1

abbrev pub sign_typing : ℕ → IntegerType → List ℕ → Typing → Typing
sign_typing n k text v =
    if bytes_eq text (codes "-") then valued (integer k) (binary (minus k) (const 0) v.code) (operated (minus k) n (number 0) v.constant)
    else if bytes_eq text (codes "~") then valued (integer k) (binary op.Xor v.code (const minus_one)) (operated op.Xor n v.constant (number minus_one))
    else valued (integer k) v.code v.constant
  where
    minus : IntegerType → COp
    minus k = signs [] k (record { text = codes "-"; class = subtractive; signed = op.SubS; unsigned = op.SubU })

unfoldable pub sign_operator : Node → Typing → Judgement
sign_operator node v =
    verdict (bad_operand (is_integer v.type) node.id) (expression (sign_typing node.id (promoted (integer_of v.type)) node.label.text v))

unfoldable pub not_operator : Node → Typing → Judgement
not_operator node v =
    verdict (bad_operand (is_scalar v.type) node.id)
    (expression (valued (integer int) (binary op.Eq v.code (const 0)) (operated op.Eq node.id v.constant (number 0))))

unfoldable pub unary : Places → List Judgement → Node → Typing → Judgement
unary p js node x =
    let text = node.label.text in
    if bytes_eq text (codes "&") then address_operator node x else
    if bytes_eq text (codes "*") then dereference js node (value_of x).type (value_of x) else
    if bytes_eq text (codes "!") then not_operator node (value_of x) else
    if bytes_eq text (codes "++") || bytes_eq text (codes "--") then prefix_step p js node x else sign_operator node (value_of x)

-- `sizeof` (6.5.3.4): the operand is not evaluated, and an array is no pointer
unfoldable pub measured_type : List Judgement → CType → ℕ → Judgement
measured_type js t operand =
    verdict (incomplete_type (layouts js) t operand) (expression (number_of_type uint (size_of (layouts js) t)))

-- ---- casts (6.5.4)

unfoldable pub cast : Node → CType → Typing → Judgement
cast node t v =
    verdict (bad_operand (is_castable t v.type) node.id) (expression (result t (converted_code v.type t v.code) (cast_constant t v.type v.constant)))

-- ---- operators of two operands (6.5.5 to 6.5.14)

abbrev pub binary_code : List Layout → Operator → Typing → Typing → Class → Expr
binary_code ls o x y and_then = both x.code y.code
binary_code ls o x y or_else = either x.code y.code
binary_code ls o x y class = operator_code ls class x.type y.type o x.code y.code

-- the operator that has operands of these types: a shift asks the left one alone
abbrev pub operator_with : Operator → Class → CType → CType → COp
operator_with o shift t u = signs [] (promoted (integer_of t)) o
operator_with o class (integer a) (integer b) = signs [] (common a b) o
operator_with o class t u = o.unsigned

unfoldable pub binary_by : List Judgement → Node → Typing → Typing → Operator → Judgement
binary_by js node x y o =
    let ls = layouts js in
    let type = result_type ls o.class x y in
    verdict (bad_operand (is_some type) node.id)
    (expression (valued (unwrap_or type x.type) (binary_code ls o x y o.class)
    (binary_constant ls (operator_with o o.class x.type y.type) node.id o.class x.type y.type x.constant y.constant)))

unfoldable pub binary_operator : List Judgement → Node → Typing → Typing → Judgement
binary_operator js node x y = given (operator_of node.label.text) (binary_by js node x y)

-- ---- `?:` and `,` (6.5.15, 6.5.17)

unfoldable pub conditional : List Judgement → Node → Typing → Typing → Typing → Judgement
conditional js node c x y =
    let type = choice_type (layouts js) x y in
    verdict (bad_operand (is_some type) node.id)
    (expression (result (unwrap_or type x.type) (choose c.code x.code y.code) (chosen_constant c.constant x.constant y.constant)))

unfoldable pub comma : Typing → Typing → Judgement
comma x y = means (expression (result y.type (seq x.code y.code) no_constant))

-- ---- assignment (6.5.16)

abbrev pub assigned_code : List Layout → Typing → Typing → CType → Form → Expr
assigned_code ls x y (struct k) f = copy (size_of ls x.type) (align_of ls x.type) x.code y.code
assigned_code ls x y t (in_local k) = set_local k (converted_to t y)
assigned_code ls x y t f = store (access_of t) x.code (converted_to t y)

unfoldable pub assignment : List Judgement → Node → Typing → Typing → Judgement
assignment js node x y =
    verdict (by (not_assignable x node.id)) (expression (result x.type (assigned_code (layouts js) x y x.type x.form) no_constant))
  where
    by : List Fault → List Fault
    by [] = bad_conversion x.type y (kid node 1) ++ big_struct (layouts js) x.type node.id
    by (f ∷ fs) = f ∷ fs

-- an operator and an assignment: with an integer on the right (6.5.16.2)
abbrev pub compound_new : List Layout → Operator → Typing → Typing → Expr → Expr
compound_new ls o x y old =
    converted_code (unwrap_or (result_type ls o.class (valued x.type old no_constant) y) x.type) x.type (operator_code ls o.class x.type y.type o old y.code)

abbrev pub is_compound : List Layout → Operator → Typing → Typing → Bool
is_compound ls o x y = is_integer y.type && is_some (result_type ls o.class (valued x.type x.code no_constant) y)

unfoldable pub compound_by : Places → List Judgement → Node → Typing → Typing → Operator → Judgement
compound_by p js node x y o =
    verdict (by (not_assignable x node.id))
    (expresses (result x.type (written (hidden_before p js) x (compound_new (layouts js) o x y) x.form) no_constant) (hidden_for x.form 0))
  where
    by : List Fault → List Fault
    by [] = bad_operand (is_compound (layouts js) o x y) node.id
    by (f ∷ fs) = f ∷ fs

-- the operator before the `=`
abbrev pub before_equal : List ℕ → List ℕ
before_equal [] = []
before_equal (c ∷ []) = []
before_equal (c ∷ d ∷ rest) = c ∷ before_equal (d ∷ rest)

unfoldable pub assign : Places → List Judgement → Node → Typing → Typing → Judgement
assign p js node x y =
    if length node.label.text == 1 then assignment js node x y
    else given (operator_of (before_equal node.label.text)) (compound_by p js node x y)
