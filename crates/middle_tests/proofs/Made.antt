-- The unit of the word count is well made.
use Rattle.std.proofs.Common.{◌≡◌, ◌<◌, ℕ, zero, suc, refl, inl, inr, arith, rules, codes, List, [], ◌∷◌, Contains, slice_index_or}
use Rattle.std.specs.List.{IsDistinct}
use Rattle.c_types.specs.WellMade.{IsWellMade}
use Rattle.middle_tests.specs.WordCount.{main, unit}

only_main : (name : List ℕ) → (codes "main" ≡ name → ⊥) → Contains (codes "main" ∷ []) name → ⊥
only_main name other there = by there.0 there.1 there.2
  where
    by : (k : ℕ) → k < 1 → slice_index_or (codes "main" ∷ []) k name ≡ name → ⊥
    by zero low is = other is
    by (suc k) low is = omega (arith, low)

pub well_made : IsWellMade unit
unfolding IsDistinct
well_made = record {
  objects_named = (tt, tt);
  locals_named = (tt, tt);
  locals_unset = (tt, tt);
  functions_called = (tt, tt);
  few_parameters = (omega arith, tt);
  parameters_are_locals = (omega arith, tt);
  identifiers = ((search rules, (search rules, (search rules, (search rules, tt)))), tt);
  distinct = (tt, tt);
  no_getchar = only_main (codes "getchar") (λ e. cc);
  no_putchar = only_main (codes "putchar") (λ e. cc);
  main = (0, main, refl, (refl, refl));
  jumps_end = (tt, tt);
  alignments = (inl refl, (inr (inr refl), tt));
  cells_inside = ((omega arith, (omega arith, (omega arith, tt))), (tt, tt));
  cells_apart = (((inl (omega arith), (inl (omega arith), tt)), ((inl (omega arith), tt), (tt, tt))), (tt, tt));
  addresses = ((tt, (tt, (tt, tt))), (tt, tt));
  data_fits = omega arith;
  structs_copied = (tt, tt);
  labels_differ = (tt, tt);
  one_other = (tt, tt);
}
