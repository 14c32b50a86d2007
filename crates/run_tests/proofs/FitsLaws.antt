-- The units are well made.
use Rattle.std.proofs.Common.{◌≡◌, ◌<◌, ℕ, zero, suc, refl, arith, rules, codes, List, [], ◌∷◌, Contains, slice_index_or}
use denote.Hole.Carrier.{hidden}
use Rattle.std.specs.List.{IsDistinct}
use Rattle.std.specs.Prelude.{Result as Answer, IfOk}
use Rattle.std.proofs.lemmas.Result.{IfOk-weaker}
use Rattle.c_types.specs.declared.tree.Expr.TheBlock.{hidden-the_row-Expr-0, hidden-the_row-Expr-1, shape-the_row-Expr-1}
use Rattle.c_types.specs.declared.tree.Stmt.TheBlock.{hidden-the_row-Stmt-0, hidden-the_row-Stmt-1, shape-the_row-Stmt-0, hidden-the_row-Group-2, shape-the_row-Group-2}
use Rattle.c_types.specs.declared.tree.Unit.{Unit as Whole}
use Rattle.run_tests.specs.Units.{Fits, endless_x, signed_overflow, echo, empty_main, null_load, unset_local, factorial, switch_falls_through, struct_copy}

pub fits : {E : Type 0} (r : Answer Whole E) (u : Whole) → Fits u → IfOk r (λ v. v ≡ u) → IfOk r Fits
fits r u h is = IfOk-weaker r _ _ (λ v k. rw k h) is

-- the names of the functions

one_name : (name : List ℕ) → (codes "main" ≡ name → ⊥) → Contains (codes "main" ∷ []) name → ⊥
one_name name other there = by there.0 there.1 there.2
  where
    by : (k : ℕ) → k < 1 → slice_index_or (codes "main" ∷ []) k name ≡ name → ⊥
    by zero low is = other is
    by (suc k) low is = omega (arith, low)

two_names : (name : List ℕ) → (codes "f" ≡ name → ⊥) → (codes "main" ≡ name → ⊥) → Contains (codes "f" ∷ codes "main" ∷ []) name → ⊥
two_names name first other there = by there.0 there.1 there.2
  where
    by : (k : ℕ) → k < 2 → slice_index_or (codes "f" ∷ codes "main" ∷ []) k name ≡ name → ⊥
    by zero low is = first is
    by (suc zero) low is = other is
    by (suc (suc k)) low is = omega (arith, low)

pub endless_x_fits : Fits endless_x
unfolding IsDistinct hidden hidden-the_row-Expr-0 hidden-the_row-Expr-1 shape-the_row-Expr-1 hidden-the_row-Stmt-0 hidden-the_row-Stmt-1 shape-the_row-Stmt-0
endless_x_fits = record {
  made = record {
    objects_named = search rules;
    locals_named = search rules;
    locals_unset = search rules;
    functions_called = search rules;
    few_parameters = search rules;
    parameters_are_locals = search rules;
    identifiers = search rules;
    distinct = search rules;
    no_getchar = one_name (codes "getchar") (λ e. cc);
    no_putchar = one_name (codes "putchar") (λ e. cc);
    main = (0, _, refl, (refl, refl));
    jumps_end = search rules;
    alignments = search rules;
    cells_inside = search rules;
    cells_apart = search rules;
    addresses = search rules;
    data_fits = omega arith;
    structs_copied = search rules;
    labels_differ = search rules;
    one_other = search rules;
  };
  small = omega arith;
}

pub signed_overflow_fits : Fits signed_overflow
unfolding IsDistinct hidden hidden-the_row-Expr-0 hidden-the_row-Expr-1 shape-the_row-Expr-1 hidden-the_row-Stmt-0 hidden-the_row-Stmt-1 shape-the_row-Stmt-0
signed_overflow_fits = record {
  made = record {
    objects_named = search rules;
    locals_named = search rules;
    locals_unset = search rules;
    functions_called = search rules;
    few_parameters = search rules;
    parameters_are_locals = search rules;
    identifiers = search rules;
    distinct = search rules;
    no_getchar = one_name (codes "getchar") (λ e. cc);
    no_putchar = one_name (codes "putchar") (λ e. cc);
    main = (0, _, refl, (refl, refl));
    jumps_end = search rules;
    alignments = search rules;
    cells_inside = search rules;
    cells_apart = search rules;
    addresses = search rules;
    data_fits = omega arith;
    structs_copied = search rules;
    labels_differ = search rules;
    one_other = search rules;
  };
  small = omega arith;
}

pub echo_fits : Fits echo
unfolding IsDistinct hidden hidden-the_row-Expr-0 hidden-the_row-Expr-1 shape-the_row-Expr-1 hidden-the_row-Stmt-0 hidden-the_row-Stmt-1 shape-the_row-Stmt-0
echo_fits = record {
  made = record {
    objects_named = search rules;
    locals_named = search rules;
    locals_unset = search rules;
    functions_called = search rules;
    few_parameters = search rules;
    parameters_are_locals = search rules;
    identifiers = search rules;
    distinct = search rules;
    no_getchar = one_name (codes "getchar") (λ e. cc);
    no_putchar = one_name (codes "putchar") (λ e. cc);
    main = (0, _, refl, (refl, refl));
    jumps_end = search rules;
    alignments = search rules;
    cells_inside = search rules;
    cells_apart = search rules;
    addresses = search rules;
    data_fits = omega arith;
    structs_copied = search rules;
    labels_differ = search rules;
    one_other = search rules;
  };
  small = omega arith;
}

pub empty_main_fits : Fits empty_main
unfolding IsDistinct hidden hidden-the_row-Expr-0 hidden-the_row-Expr-1 shape-the_row-Expr-1 hidden-the_row-Stmt-0 hidden-the_row-Stmt-1 shape-the_row-Stmt-0
empty_main_fits = record {
  made = record {
    objects_named = search rules;
    locals_named = search rules;
    locals_unset = search rules;
    functions_called = search rules;
    few_parameters = search rules;
    parameters_are_locals = search rules;
    identifiers = search rules;
    distinct = search rules;
    no_getchar = one_name (codes "getchar") (λ e. cc);
    no_putchar = one_name (codes "putchar") (λ e. cc);
    main = (0, _, refl, (refl, refl));
    jumps_end = search rules;
    alignments = search rules;
    cells_inside = search rules;
    cells_apart = search rules;
    addresses = search rules;
    data_fits = omega arith;
    structs_copied = search rules;
    labels_differ = search rules;
    one_other = search rules;
  };
  small = omega arith;
}

pub null_load_fits : Fits null_load
unfolding IsDistinct hidden hidden-the_row-Expr-0 hidden-the_row-Expr-1 shape-the_row-Expr-1 hidden-the_row-Stmt-0 hidden-the_row-Stmt-1 shape-the_row-Stmt-0
null_load_fits = record {
  made = record {
    objects_named = search rules;
    locals_named = search rules;
    locals_unset = search rules;
    functions_called = search rules;
    few_parameters = search rules;
    parameters_are_locals = search rules;
    identifiers = search rules;
    distinct = search rules;
    no_getchar = one_name (codes "getchar") (λ e. cc);
    no_putchar = one_name (codes "putchar") (λ e. cc);
    main = (0, _, refl, (refl, refl));
    jumps_end = search rules;
    alignments = search rules;
    cells_inside = search rules;
    cells_apart = search rules;
    addresses = search rules;
    data_fits = omega arith;
    structs_copied = search rules;
    labels_differ = search rules;
    one_other = search rules;
  };
  small = omega arith;
}

pub unset_local_fits : Fits unset_local
unfolding IsDistinct hidden hidden-the_row-Expr-0 hidden-the_row-Expr-1 shape-the_row-Expr-1 hidden-the_row-Stmt-0 hidden-the_row-Stmt-1 shape-the_row-Stmt-0
unset_local_fits = record {
  made = record {
    objects_named = search rules;
    locals_named = search rules;
    locals_unset = search rules;
    functions_called = search rules;
    few_parameters = search rules;
    parameters_are_locals = search rules;
    identifiers = search rules;
    distinct = search rules;
    no_getchar = one_name (codes "getchar") (λ e. cc);
    no_putchar = one_name (codes "putchar") (λ e. cc);
    main = (0, _, refl, (refl, refl));
    jumps_end = search rules;
    alignments = search rules;
    cells_inside = search rules;
    cells_apart = search rules;
    addresses = search rules;
    data_fits = omega arith;
    structs_copied = search rules;
    labels_differ = search rules;
    one_other = search rules;
  };
  small = omega arith;
}

pub factorial_fits : Fits factorial
unfolding IsDistinct hidden hidden-the_row-Expr-0 hidden-the_row-Expr-1 shape-the_row-Expr-1 hidden-the_row-Stmt-0 hidden-the_row-Stmt-1 shape-the_row-Stmt-0
factorial_fits = record {
  made = record {
    objects_named = search rules;
    locals_named = search rules;
    locals_unset = search rules;
    functions_called = ((tt, (((tt, (tt, tt, tt), tt, (tt, tt, ((_, refl, refl), ((tt, tt, tt), tt)))), tt), tt)), ((tt, (((((_, refl, refl), (tt, tt))), tt), tt)), tt));
    few_parameters = search rules;
    parameters_are_locals = search rules;
    identifiers = search rules;
    distinct = search rules;
    no_getchar = two_names (codes "getchar") (λ e. cc) (λ e. cc);
    no_putchar = two_names (codes "putchar") (λ e. cc) (λ e. cc);
    main = (1, _, refl, (refl, refl));
    jumps_end = search rules;
    alignments = search rules;
    cells_inside = search rules;
    cells_apart = search rules;
    addresses = search rules;
    data_fits = omega arith;
    structs_copied = search rules;
    labels_differ = search rules;
    one_other = search rules;
  };
  small = omega arith;
}

pub switch_falls_through_fits : Fits switch_falls_through
unfolding IsDistinct hidden hidden-the_row-Expr-0 hidden-the_row-Expr-1 shape-the_row-Expr-1 hidden-the_row-Stmt-0 hidden-the_row-Stmt-1 shape-the_row-Stmt-0 hidden-the_row-Group-2 shape-the_row-Group-2
switch_falls_through_fits = record {
  made = record {
    objects_named = search rules;
    locals_named = search rules;
    locals_unset = search rules;
    functions_called = ((tt, (((tt, tt), tt), (((tt, tt), ((((tt, (tt, tt, tt)), tt), tt), ((((tt, (tt, tt, tt)), tt), (tt, tt)), ((((tt, tt), tt), tt), ((((tt, (tt, tt, tt)), tt), tt), tt))))), ((tt, tt), tt)))), ((tt, (((tt, (tt, (tt, ((_, refl, refl), (tt, tt)), ((_, refl, refl), (tt, tt))), ((_, refl, refl), (tt, tt))), ((_, refl, refl), (tt, tt))), tt), tt)), tt));
    few_parameters = search rules;
    parameters_are_locals = search rules;
    identifiers = search rules;
    distinct = search rules;
    no_getchar = two_names (codes "getchar") (λ e. cc) (λ e. cc);
    no_putchar = two_names (codes "putchar") (λ e. cc) (λ e. cc);
    main = (1, _, refl, (refl, refl));
    jumps_end = search rules;
    alignments = search rules;
    cells_inside = search rules;
    cells_apart = search rules;
    addresses = search rules;
    data_fits = omega arith;
    structs_copied = search rules;
    labels_differ = search rules;
    one_other = search rules;
  };
  small = omega arith;
}

pub struct_copy_fits : Fits struct_copy
unfolding IsDistinct hidden hidden-the_row-Expr-0 hidden-the_row-Expr-1 shape-the_row-Expr-1 hidden-the_row-Stmt-0 hidden-the_row-Stmt-1 shape-the_row-Stmt-0
struct_copy_fits = record {
  made = record {
    objects_named = search rules;
    locals_named = search rules;
    locals_unset = search rules;
    functions_called = search rules;
    few_parameters = search rules;
    parameters_are_locals = search rules;
    identifiers = search rules;
    distinct = search rules;
    no_getchar = one_name (codes "getchar") (λ e. cc);
    no_putchar = one_name (codes "putchar") (λ e. cc);
    main = (0, _, refl, (refl, refl));
    jumps_end = search rules;
    alignments = search rules;
    cells_inside = search rules;
    cells_apart = search rules;
    addresses = search rules;
    data_fits = omega arith;
    structs_copied = search rules;
    labels_differ = search rules;
    one_other = search rules;
  };
  small = omega arith;
}
