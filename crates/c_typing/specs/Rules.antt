-- The rules that a unit has to keep, one definition a rule: the faults of a node, where it breaks the rule. Over each stand its
-- number, its text and its section of C99; docs/TYPING.md has examples.
use Rattle.std.specs.Prelude.{ℕ, ◌^◌, Bool, true, false, List, [], ◌∷◌, ◌&&◌, ◌||◌, ◌==◌, not, nat_lt, nat_le, if◌then◌else◌, Option, Some, None, length, codes, min, ◌-◌}
use Rattle.std.specs.List.{list_any, list_all, last_or}
use Rattle.std.specs.Option.{is_some}
use Rattle.std.specs.Str.{bytes_eq}
use Rattle.c_types.specs.declared.kind.TheConstants.{MAX_SIZE}
use Rattle.c_typing.specs.Types.{CType, integer, pointer, unsized, function, int, same, is_struct, is_array, is_function, integer_of, element_of, traits_of, types_of, Field, Layout, has_size, size_of, IntegerType}
use Rattle.c_typing.specs.Places.{is_file_scope}
use Rattle.c_typing.specs.Names.{Places, Name, Entity, function_name, is_static, is_initialized, earlier}
use Rattle.c_typing.specs.Judgements.{Fault, rule, too_big, Form, in_local, in_memory, Constant, undefined, number, Typing}
use Rattle.c_typing.specs.Conversions.{is_assignable}

-- rule r is broken at the node n where this holds
abbrev pub broken_if : Bool → ℕ → ℕ → List Fault
broken_if holds r n = if holds then rule r n ∷ [] else []

-- rule 1, `bad type words`: the specs name no type, or a word among them is no typedef name (6.7.2, 2)
abbrev pub bad_type_words : Option CType → ℕ → List Fault
bad_type_words type specs = broken_if (not (is_some type)) 1 specs

-- where specs stand
pub data SpecsPlace : Type 0 where
  in_unit of_definition in_block in_for of_parameter of_member_or_type_name : SpecsPlace

-- the storage words that fit there (6.7.1; 6.9, 2; 6.9.1, 4; 6.8.5, 3; 6.7.5.3, 2); in a block no `extern`
abbrev pub fitting : SpecsPlace → List (List ℕ)
fitting in_unit = codes "typedef" ∷ codes "extern" ∷ codes "static" ∷ []
fitting of_definition = codes "extern" ∷ codes "static" ∷ []
fitting in_block = codes "typedef" ∷ codes "static" ∷ codes "auto" ∷ codes "register" ∷ []
fitting in_for = codes "auto" ∷ codes "register" ∷ []
fitting of_parameter = codes "register" ∷ []
fitting of_member_or_type_name = []

abbrev pub is_one_of : List (List ℕ) → List ℕ → Bool
is_one_of texts text = list_any (λ t. bytes_eq t text) texts

abbrev pub is_inside_function : SpecsPlace → Bool
is_inside_function in_block = true
is_inside_function in_for = true
is_inside_function place = false

-- rule 2, `bad storage class`: two storage words, or one that does not fit its place (6.7.1, 2)
abbrev pub bad_storage_class : SpecsPlace → List (List ℕ) → ℕ → List Fault
bad_storage_class place words specs = broken_if (nat_lt 1 (length words) || not (list_all (is_one_of (fitting place)) words)) 2 specs

-- and a function declared in a block (6.7.1, 5; this profile)
abbrev pub function_in_block : SpecsPlace → Bool → ℕ → List Fault
function_in_block place declares_function specs = broken_if (declares_function && is_inside_function place) 2 specs

abbrev pub are_functions : Entity → Entity → Bool
are_functions function_name function_name = true
are_functions a b = false

-- two types of one object: where one has no length yet, the elements are compared (6.2.7, 6.7.5.2)
abbrev pub agree : CType → CType → Bool
agree (unsized t) u = is_array u && same t (element_of u)
agree t (unsized u) = is_array t && same (element_of t) u
agree t u = same t u

abbrev pub agree_with : CType → Option CType → Bool
agree_with t None = true
agree_with t (Some u) = agree t u

-- both are functions, or both objects of the unit, and at most one has a body or an initializer (6.7, 3; 6.9, 3 and 5; 6.9.2)
abbrev pub may_be_again : Places → Name → Name → Bool
may_be_again p e a =
    (are_functions a.entity e.entity || (is_static a.entity && is_static e.entity && is_file_scope p.nodes e.scope))
    && not (is_initialized p e && list_any (is_initialized p) (earlier p e))

abbrev pub is_refused : Places → Name → CType → Option CType → Option Name → Bool
is_refused p e type before None = false
is_refused p e type before (Some a) = not (may_be_again p e a && agree_with type before)

-- rule 3, `name declared twice`: of a name with this type, which was declared last with the type `before` (6.7, 3 and 4)
abbrev pub declared_twice : Places → Name → CType → Option CType → ℕ → List Fault
declared_twice p e type before n = broken_if (is_refused p e type before (last_or None (earlier p e))) 3 n

-- and of a member, a tag with a second body, or one of the other kind (6.7.2.1, 6.7.2.3, 1)
abbrev pub stands_twice : Bool → ℕ → List Fault
stands_twice twice n = broken_if twice 3 n

-- rule 4, `unknown name`: a name, or the tag of an enum, that is not in scope, or a name of a type where a value is wanted (6.5.1, 2; 6.7.2.3, 2)
abbrev pub unknown_name : Bool → ℕ → List Fault
unknown_name known n = broken_if (not known) 4 n

-- rule 5, `incomplete type`: of an object, a member, an element, or what is dereferenced or measured (6.7, 7; 6.7.2.1, 2; 6.7.5.2, 1; 6.7.5.3, 4; 6.5.3.4, 1)
abbrev pub incomplete_type : List Layout → CType → ℕ → List Fault
incomplete_type ls t n = broken_if (not (has_size ls t)) 5 n

-- rule 6, `no such member`: of something else than a struct, or an absent name (6.5.2.3, 1 and 2)
abbrev pub no_such_member : Option Field → ℕ → List Fault
no_such_member field access = broken_if (not (is_some field)) 6 access

-- a word of this type is below 0
abbrev pub is_negative : CType → ℕ → Bool
is_negative t w = (traits_of (integer_of t)).is_signed && nat_le (2 ^ 31) w

abbrev pub is_bad_length : CType → Constant → Bool
is_bad_length t (number w) = w == 0 || is_negative t w
is_bad_length t c = false

-- rule 7, `bad array length`: absent without an initializer that gives it, or not from 1 to 4294967295 (6.7.5.2, 1)
abbrev pub absent_length : ℕ → List Fault
absent_length n = rule 7 n ∷ []

abbrev pub bad_array_length : Typing → ℕ → List Fault
bad_array_length x n = broken_if (is_bad_length x.type x.constant) 7 n

abbrev pub is_constant : Constant → Bool
is_constant (number w) = true
is_constant (undefined k) = true
is_constant c = false

-- rule 8, `not constant`: an enumerator, an array length or a case that is no integer constant (6.6; 6.7.2.2, 2; 6.7.5.2, 1; 6.8.4.2, 3)
abbrev pub not_constant : Constant → ℕ → List Fault
not_constant c n = broken_if (not (is_constant c)) 8 n

-- a static initializer of an integer is an integer constant, of a pointer a null pointer or an address constant; a `_Bool` may have a
-- null pointer (6.6, 9; 6.7.8, 4)
abbrev pub is_constant_for : CType → Constant → Bool
is_constant_for (pointer t) Constant.null_pointer = true
is_constant_for (pointer t) Constant.zero_pointer = true
is_constant_for (pointer t) (Constant.address_of o a) = true
is_constant_for (integer IntegerType.bool) Constant.null_pointer = true
is_constant_for (integer IntegerType.bool) Constant.zero_pointer = true
is_constant_for (pointer t) (Constant.undefined_address k) = true
is_constant_for t c = is_constant c

abbrev pub not_constant_for : CType → Constant → ℕ → List Fault
not_constant_for t c n = broken_if (not (is_constant_for t c)) 8 n

-- rule 9, `constant out of range`: an evaluated part has no defined value, or an enumerator is no `int` (6.6, 4; 6.7.2.2, 2)
abbrev pub out_of_range : Constant → List Fault
out_of_range (undefined k) = rule 9 k ∷ []
out_of_range (Constant.undefined_address k) = rule 9 k ∷ []
out_of_range c = []

abbrev pub is_no_int : CType → Constant → Bool
is_no_int t (number w) = not (traits_of (integer_of t)).is_signed && nat_le (2 ^ 31) w
is_no_int t c = false

abbrev pub no_int : CType → Constant → ℕ → List Fault
no_int t c n = broken_if (is_no_int t c) 9 n

-- rule 10, `local array or struct`: an automatic object that is not scalar (this profile)
abbrev pub local_array_or_struct : CType → ℕ → List Fault
local_array_or_struct t declarator = broken_if (is_array t || is_struct t) 10 declarator

abbrev pub is_in_local : Form → Bool
is_in_local (in_local k) = true
is_in_local f = false

abbrev pub is_lvalue : Form → Bool
is_lvalue (in_local k) = true
is_lvalue in_memory = true
is_lvalue f = false

-- rule 11, `address of a local` (this profile)
abbrev pub address_of_local : Form → ℕ → List Fault
address_of_local f n = broken_if (is_in_local f) 11 n

-- rule 12, `not assignable`: no lvalue under `&` (6.5.3.2, 1); no lvalue, or an array, that is assigned, under `++` or `--` (6.5.16, 2; 6.5.2.4, 1; 6.5.3.1, 1)
abbrev pub no_lvalue : Form → ℕ → List Fault
no_lvalue f n = broken_if (not (is_lvalue f)) 12 n

abbrev pub not_assignable : Typing → ℕ → List Fault
not_assignable x n = broken_if (not (is_lvalue x.form) || is_array x.type) 12 n

-- rule 13, `bad operand`: operands of other types than the operator's, a void value among them, a condition that is not scalar, or
-- the expression of a `switch` that is no integer (6.3.2.2; 6.5.2.1 to 6.5.16; 6.8.4.1, 1; 6.8.4.2, 1; 6.8.5, 2)
abbrev pub bad_operand : Bool → ℕ → List Fault
bad_operand allowed n = broken_if (not allowed) 13 n

-- rule 14, `bad conversion`: of a value that is assigned, initial, passed or returned (6.5.16.1, 1; 6.7.8, 11; 6.5.2.2, 2; 6.8.6.4, 3)
abbrev pub bad_conversion : CType → Typing → ℕ → List Fault
bad_conversion t x n = broken_if (not (is_assignable t x)) 14 n

-- rule 15, `wrong number of arguments` (6.5.2.2, 2)
abbrev pub wrong_number : ℕ → ℕ → ℕ → List Fault
wrong_number parameters arguments call = broken_if (not (parameters == arguments)) 15 call

-- rule 16, `not a function`: no name of a function is called (6.5.2.2, 1; this profile), or a block follows a declarator that declares none (6.9.1, 2)
abbrev pub not_a_function : Bool → ℕ → List Fault
not_a_function is_one n = broken_if (not is_one) 16 n

-- rule 17, `no definition`: of a function or object that is used; `getchar` and `putchar` have none (6.9, 3 and 5)
abbrev pub no_definition : Bool → ℕ → List Fault
no_definition defined n = broken_if (not defined) 17 n

-- rule 18, `bad return`: a value in a void function, or none in another (6.8.6.4, 1)
abbrev pub bad_return : Bool → CType → ℕ → List Fault
bad_return has_value (CType.void) n = broken_if has_value 18 n
bad_return has_value t n = broken_if (not has_value) 18 n

-- rule 19, `outside a loop`: `break` outside a loop or `switch`, `continue` outside a loop (6.8.6.2, 1; 6.8.6.3, 1)
abbrev pub outside_a_loop : Bool → ℕ → List Fault
outside_a_loop inside n = broken_if (not inside) 19 n

-- rule 20, `more than 8 parameters` (this profile)
abbrev pub many_parameters : ℕ → ℕ → List Fault
many_parameters count takes = broken_if (nat_lt 8 count) 20 takes

-- rule 21, `bad parameter or result`: a struct or function as parameter (this profile), a struct, array or function as result (6.7.5.3, 1)
abbrev pub bad_parameter : List CType → ℕ → List Fault
bad_parameter types takes = broken_if (list_any (λ t. is_struct t || is_function t) types) 21 takes

abbrev pub bad_result : CType → ℕ → List Fault
bad_result t takes = broken_if (is_struct t || is_array t || is_function t) 21 takes

-- the type `int` with these parameters
abbrev pub gives_int : List CType → CType
gives_int types = function (integer int) (types_of types)

-- rule 22, `bad main`: no definition of `main`, or one that is not `int` without parameters (5.1.2.2.1)
abbrev pub no_main : Bool → ℕ → List Fault
no_main defined unit = broken_if (not defined) 22 unit

abbrev pub bad_main : List ℕ → CType → ℕ → List Fault
bad_main text t declarator = broken_if (bytes_eq text (codes "main") && not (same t (gives_int []))) 22 declarator

abbrev pub is_getchar : List ℕ → Bool
is_getchar text = bytes_eq text (codes "getchar")

abbrev pub is_putchar : List ℕ → Bool
is_putchar text = bytes_eq text (codes "putchar")

-- a declaration of a function, without body, of its type
abbrev pub is_library_name : List ℕ → CType → Bool
is_library_name text t = same t (if is_getchar text then gives_int [] else gives_int (integer int ∷ []))

-- rule 23, `bad getchar or putchar`: declared otherwise than `int getchar(void)` and `int putchar(int)`, defined, or another ordinary name (7.1.3, 7.19.7.6, 7.19.7.9)
abbrev pub bad_library_name : List ℕ → Bool → CType → ℕ → List Fault
bad_library_name text declares_function t n =
    broken_if ((is_getchar text || is_putchar text) && not (declares_function && is_library_name text t)) 23 n

-- rule 24, `bad initializer`: too many values, a string that is longer than its array and not by its zero alone, an aggregate without braces, a scalar in two pairs of braces, or of what is no object (6.7.8, 2, 3, 11, 14 and 16)
abbrev pub bad_initializer : Bool → ℕ → List Fault
bad_initializer bad n = broken_if bad 24 n

-- rule 25, `function as value`: its name where it is not called (this profile)
abbrev pub function_as_value : Bool → ℕ → List Fault
function_as_value is_called n = broken_if (not is_called) 25 n

-- rule 26, `case twice`: the value of an earlier case of the same `switch`, or a second default (6.8.4.2, 3)
abbrev pub case_twice : Bool → ℕ → List Fault
case_twice twice n = broken_if twice 26 n

-- rule 27, `struct too big to assign`: of more than 1,024 bytes (this profile)
abbrev pub big_struct : List Layout → CType → ℕ → List Fault
big_struct ls t assign = broken_if (is_struct t && nat_lt 1024 (size_of ls t)) 27 assign

-- a type, or the end of an object, is above the limit (5.2.4.1); a size that no `u64` has is told as the greatest one
abbrev pub size_fault : ℕ → ℕ → List Fault
size_fault size n = if nat_lt MAX_SIZE size then too_big n (min size (2 ^ 64 - 1)) ∷ [] else []
