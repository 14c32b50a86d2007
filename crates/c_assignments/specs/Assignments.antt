-- What operators that write ask, and what they read.
use Rattle.std.specs.Prelude.{ℕ, ◌+◌, ◌++◌, List, [], ◌∷◌, Option, Some, None}
use Rattle.c_types.specs.declared.kind.Measure.{Measure}
use Rattle.c_types.specs.declared.tree.Expr.{Expr}
use Rattle.c_types.specs.Forms.{local, load}
use Rattle.c_typing.specs.Types.{CType, struct, Layout, size_of, align_of}
use Rattle.c_typing.specs.Judgements.{Fault, Form, in_local, Typing, no_constant}
use Rattle.c_typing.specs.Rules.{bad_conversion, big_struct, not_assignable, bad_operand}
use Rattle.c_typing.specs.Conversions.{Operator, valued, access_of, result_type}
use Rattle.c_typing.specs.Expressions.{is_compound}

-- these faults, or else those
abbrev pub first_of : List Fault → List Fault → List Fault
first_of later [] = later
first_of later (f ∷ fs) = f ∷ fs

-- of an assignment at a node, whose right operand is at another one
abbrev pub assignment_faults : List Layout → Typing → Typing → ℕ → ℕ → List Fault
assignment_faults ls x y n right = first_of (bad_conversion x.type y right ++ big_struct ls x.type n) (not_assignable x n)

-- of an operator and an assignment
abbrev pub compound_faults : List Layout → Operator → Typing → Typing → ℕ → List Fault
compound_faults ls o x y n = first_of (bad_operand (is_compound ls o x y) n) (not_assignable x n)

-- the type of the operation, whose left operand has this code
abbrev pub operation_type : List Layout → Operator → CType → Expr → Typing → Option CType
operation_type ls o t e y = result_type ls o.class (valued t e no_constant) y

-- the size and the alignment of a struct
abbrev pub struct_measure : List Layout → CType → Option Measure
struct_measure ls (struct k) = Some (record { size = size_of ls (struct k); align = align_of ls (struct k) })
struct_measure ls t = None

-- the value that an operator changes: in memory, its address is in a hidden local
abbrev pub old_of : ℕ → CType → Form → Expr
old_of h t (in_local k) = local k
old_of h t f = load (access_of t) (local h)

-- the same where it is kept in a hidden local, since it is the result
abbrev pub kept_of : ℕ → Form → Expr
kept_of h (in_local k) = local h
kept_of h f = local (h + 1)
