-- Units that are well made: what a checker promises of a unit, and all that is asked of one.
use Rattle.std.specs.Prelude.{◌≡◌, ◌⊎◌, ℕ, ◌+◌, ◌%◌, ◌<◌, ◌≤◌, Bool, true, false, ◌==◌, ◌||◌, IsTrue, List, [], ◌∷◌, ◌++◌, suc, if◌then◌else◌, length, map, codes, Some, slice_get, Contains}
use Rattle.std.specs.List.{AllByRecursion, IsDistinct}
use Rattle.std.specs.Bool.{nat_eq}
use Rattle.std.specs.Str.{bytes_eq}
use Rattle.std.specs.Char.{is_ascii_alphabetic, is_ascii_alphanumeric}
use mathlib.Core.Former.{Count}
use Rattle.c_types.specs.declared.kind.TheConstants.{MAX_SIZE}
use Rattle.c_types.specs.declared.tree.Expr.{Expr}
use Rattle.c_types.specs.declared.tree.Stmt.{Stmt}
use Rattle.c_types.specs.declared.tree.Group.{Group}
use Rattle.c_types.specs.declared.tree.Func.{Func}
use Rattle.c_types.specs.declared.tree.Object.{Object}
use Rattle.c_types.specs.declared.tree.Cell.{Cell}
use Rattle.c_types.specs.declared.tree.CellValue.{CellValue}
use Rattle.c_types.specs.declared.tree.CellValue.TheVariants.{Number, Address}
use Rattle.c_types.specs.declared.tree.Unit.{Unit as Whole}
use Rattle.c_types.specs.Forms.{address, local, set_local, call, copy, exprs, groups, unset, block, if_else, loop, do_loop, break, continue, switch, StmtRow, no_stmts, a_stmt, GroupRow, no_groups, a_group}
use Rattle.c_types.specs.Every.{InEveryExpr, InEveryStmt}
use Rattle.c_types.specs.Placing.{data_size}

-- ---- names

-- a letter or `_`, and then letters, digits and `_` (6.4.2.1)
abbrev pub IsIdentifier : List ℕ → Type 0
IsIdentifier [] = ⊥
IsIdentifier (first ∷ rest) =
    IsTrue (is_ascii_alphabetic first || first == 95) × AllByRecursion (λ c. IsTrue (is_ascii_alphanumeric c || c == 95)) rest

abbrev pub function_names : Whole → List (List ℕ)
function_names u = map (λ f. f.name) u.functions

-- the function where a program starts (5.1.2.2.1)
abbrev pub IsMain : Func → Type 0
IsMain f = (f.name ≡ codes "main") × (f.params ≡ 0)

-- ---- what an expression or a statement names

abbrev pub NamesObject : Whole → Expr → Type 0
NamesObject u (address object addend) = object < length u.objects
NamesObject u e = Unit {0}

abbrev pub NamesLocal : Func → Expr → Type 0
NamesLocal f (local x) = x < f.locals
NamesLocal f (set_local x e) = x < f.locals
NamesLocal f e = Unit {0}

abbrev pub UnsetsLocal : Func → Stmt → Type 0
UnsetsLocal f (unset x) = x < f.locals
UnsetsLocal f s = Unit {0}

-- a call names a function that is there, and has as many arguments as that has parameters
abbrev pub CallsFunction : Whole → Expr → Type 0
CallsFunction u (call function n arguments) =
    (f : Func) × (slice_get u.functions function ≡ Some f) × (length (exprs arguments) ≡ f.params)
CallsFunction u e = Unit {0}

-- ---- alignments, and copies of structs

abbrev pub IsAlignment : ℕ → Type 0
IsAlignment align = (align ≡ 1) ⊎ (align ≡ 2) ⊎ (align ≡ 4)

abbrev pub CopiesStruct : Expr → Type 0
CopiesStruct (copy size align to from) = IsAlignment align × (size % align ≡ 0) × (0 < size)
CopiesStruct e = Unit {0}

-- ---- jumps (6.8.6.2, 6.8.6.3)

abbrev mutual
  -- each `continue` and each `break` in a statement is ended by a statement around it; outside of the statement there
  -- may be a loop, and a loop or a switch
  pub JumpsEnd : Bool → Bool → Stmt → Type 0
  JumpsEnd in_loop in_either (block n ss) = JumpsEndIn in_loop in_either ss
  JumpsEnd in_loop in_either (if_else c a b) = JumpsEnd in_loop in_either a × JumpsEnd in_loop in_either b
  JumpsEnd in_loop in_either (loop test step body) = JumpsEnd true true body
  JumpsEnd in_loop in_either (do_loop body test) = JumpsEnd true true body
  JumpsEnd in_loop in_either (switch e n gs) = JumpsEndOf in_loop gs
  JumpsEnd in_loop in_either continue = IsTrue in_loop
  JumpsEnd in_loop in_either break = IsTrue in_either
  JumpsEnd in_loop in_either s = Unit {0}

  pub JumpsEndIn : Bool → Bool → {n : Count} → StmtRow n → Type 0
  JumpsEndIn in_loop in_either no_stmts = Unit {0}
  JumpsEndIn in_loop in_either (a_stmt s ss) = JumpsEnd in_loop in_either s × JumpsEndIn in_loop in_either ss

  pub JumpsEndOf : Bool → {n : Count} → GroupRow n → Type 0
  JumpsEndOf in_loop no_groups = Unit {0}
  JumpsEndOf in_loop (a_group labels other n body gs) = JumpsEndIn in_loop true body × JumpsEndOf in_loop gs

-- ---- switches (6.8.4.2, 3)

abbrev pub labels_of : List Group → List ℕ
labels_of [] = []
labels_of (g ∷ gs) = g.labels ++ labels_of gs

abbrev pub others : List Group → ℕ
others [] = 0
others (g ∷ gs) = if g.other then suc (others gs) else others gs

abbrev pub LabelsDiffer : Stmt → Type 0
LabelsDiffer (switch e n gs) = IsDistinct nat_eq (labels_of (groups gs))
LabelsDiffer s = Unit {0}

abbrev pub HasOneOther : Stmt → Type 0
HasOneOther (switch e n gs) = others (groups gs) ≤ 1
HasOneOther s = Unit {0}

-- ---- objects

abbrev pub end_of_cell : Cell → ℕ
end_of_cell c = c.offset + c.width

-- two cells do not meet
abbrev pub AreApart : Cell → Cell → Type 0
AreApart a b = (end_of_cell a ≤ b.offset) ⊎ (end_of_cell b ≤ a.offset)

abbrev pub AllApart : List Cell → Type 0
AllApart [] = Unit {0}
AllApart (c ∷ cs) = AllByRecursion (AreApart c) cs × AllApart cs

-- an address has four bytes, and is that of an object that is there
abbrev pub AddressFits : Whole → ℕ → CellValue → Type 0
AddressFits u width (Number n) = Unit {0}
AddressFits u width (Address object addend) = (width ≡ 4) × (object < length u.objects)

abbrev pub InEveryObject : Whole → (Object → Type 0) → Type 0
InEveryObject u P = AllByRecursion P u.objects

abbrev pub InEveryFunction : Whole → (Func → Type 0) → Type 0
InEveryFunction u P = AllByRecursion P u.functions

abbrev pub InEveryCell : Whole → (Object → Cell → Type 0) → Type 0
InEveryCell u P = InEveryObject u (λ o. AllByRecursion (P o) o.cells)

-- ---- the whole

pub record IsWellMade (u : Whole) : Type 0 where
  pub objects_named : InEveryExpr u (λ f. NamesObject u)
  pub locals_named : InEveryExpr u NamesLocal
  pub locals_unset : InEveryStmt u UnsetsLocal
  pub functions_called : InEveryExpr u (λ f. CallsFunction u)
  pub few_parameters : InEveryFunction u (λ f. f.params ≤ 8)
  pub parameters_are_locals : InEveryFunction u (λ f. f.params ≤ f.locals)
  pub identifiers : AllByRecursion IsIdentifier (function_names u)
  pub distinct : IsDistinct bytes_eq (function_names u)
  pub no_getchar : Contains (function_names u) (codes "getchar") → ⊥
  pub no_putchar : Contains (function_names u) (codes "putchar") → ⊥
  pub main : (i : ℕ) × (f : Func) × (slice_get u.functions i ≡ Some f) × IsMain f
  pub jumps_end : InEveryFunction u (λ f. JumpsEnd false false f.body)
  pub alignments : InEveryObject u (λ o. IsAlignment o.align)
  pub cells_inside : InEveryCell u (λ o c. end_of_cell c ≤ o.size)
  pub cells_apart : InEveryObject u (λ o. AllApart o.cells)
  pub addresses : InEveryCell u (λ o c. AddressFits u c.width c.value)
  pub data_fits : data_size u.objects ≤ MAX_SIZE
  pub structs_copied : InEveryExpr u (λ f. CopiesStruct)
  pub labels_differ : InEveryStmt u (λ f. LabelsDiffer)
  pub one_other : InEveryStmt u (λ f. HasOneOther)
