-- The assembly of a unit of the first form is well formed.
use Rattle.std.proofs.Common.{◌≡◌, ℕ, zero, suc, ◌<◌, ◌≤◌, List, [], ◌∷◌, ◌++◌, length, Some, refl, sym, ap, ◌∙◌, subst, arith, lit<, lit≤, length-append, pos, negsuc, ◌≤ℤ◌, Bool, true, false, not, nat_eq, ◌&&◌}
use Rattle.std.specs.Prelude.{codes, slice_get, Contains}
use Rattle.std.specs.List.{AllByRecursion, IsDistinct, flat_map, list_all}
use Rattle.std.proofs.lemmas.List.{append-nil}
use Rattle.std.proofs.lemmas.Int.{ints}
use Rattle.std.proofs.lemmas.List.Concat.{flat_map-cons}
use Rattle.rv_code.specs.declared.assembly.Symbol.{Symbol}
use Rattle.rv_code.specs.declared.assembly.Operand.{Operand}
use Rattle.rv_code.specs.declared.assembly.Operand.TheVariants.{Number, High, Low, To}
use Rattle.rv_code.specs.declared.assembly.AsmInstr.{AsmInstr}
use Rattle.rv_code.specs.declared.assembly.AsmLine.{AsmLine}
use Rattle.rv_code.specs.declared.assembly.AsmFunction.{AsmFunction}
use Rattle.rv_code.specs.declared.assembly.DataItem.TheVariants.{Zero}
use Rattle.rv_code.specs.Registers.{x_zero, x_sp, x_a0}
use Rattle.rv_code.specs.Routines.{addi, start_code}
use Rattle.rv_code.specs.Places.{code_of, labels_of, instrs_of, whole_code}
use Rattle.rv_code.specs.WellFormed.{IsInstr, IsLine, IsFunction, AreNames, AreItems, IsWellFormed, names_of}
use Rattle.cp_first.specs.FirstForm.{IsByte}
use Rattle.cp_first.specs.FirstUnit.{lines_of, head_code, call_code, tail_code, main_lines, main_function, first_unit}

-- a fact of each element of two lists
All-append : {X : Type 0} (P : X → Type 0) (xs ys : List X) → AllByRecursion P xs → AllByRecursion P ys → AllByRecursion P (xs ++ ys)
All-append P [] ys h k = k
All-append P (x ∷ xs) ys h k = (h.0, All-append P xs ys h.1 k)

-- a fact of the element at an index
All-at : {X : Type 0} (P : X → Type 0) (xs : List X) (i : ℕ) (x : X) → AllByRecursion P xs → slice_get xs i ≡ Some x → P x
All-at P [] i x h e = absurd (cc e)
All-at P (y ∷ xs) zero x h e = subst P (cc e) h.0
All-at P (y ∷ xs) (suc i) x h e = All-at P xs i x h.1 e

-- an immediate that is not negative
small : (n : ℕ) → n ≤ 2047 → (negsuc 2047 ≤ℤ pos n) × (pos n ≤ℤ pos 2047)
small n h = (omega (arith, ints), omega (arith, ints))

-- whether an instruction names no target
abbrev has_no_target : AsmInstr → Bool
has_no_target i = not (is_target i.operand)
  where
    is_target : Operand → Bool
    is_target (To symbol) = true
    is_target (Number value) = false
    is_target (High symbol) = false
    is_target (Low symbol) = false

abbrev HasNoTarget : AsmInstr → Type 0
HasNoTarget i = has_no_target i ≡ true

no_target : (i : AsmInstr) (symbol : Symbol) → HasNoTarget i → i.operand ≡ To symbol → ⊥
no_target i symbol h e = absurd (cc (sym h ∙ ap (λ o. has_no_target (record i { operand = o })) e))

both : (a b : Bool) → (a && b) ≡ true → (a ≡ true) × (b ≡ true)
both true b e = (refl, e)
both false b e = absurd (cc e)

-- a test that each element passes
all_pass : {X : Type 0} (p : X → Bool) (xs : List X) → list_all p xs ≡ true → AllByRecursion (λ x. p x ≡ true) xs
all_pass p [] e = tt
all_pass p (x ∷ xs) e = let parts = both (p x) (list_all p xs) e in (parts.0, all_pass p xs parts.1)

-- a list of one name has no other
one_name : (name other : List ℕ) → (name ≡ other → ⊥) → Contains (name ∷ []) other → ⊥
one_name name other differ (zero, h, e) = differ e
one_name name other differ (suc k, h, e) = omega (arith, h)

-- the code of one function
one_function : (lines : List AsmLine) → flat_map (λ (function : AsmFunction). instrs_of function.lines) (record { name = codes "main"; frame = 16; lines = lines } ∷ []) ≡ instrs_of lines
one_function lines = append-nil (instrs_of lines)

module _ (bytes : List ℕ) (s : ℕ) where
  -- a line that is an instruction with its fields
  abbrev IsPlain : AsmLine → Type 0
  IsPlain line = IsLine (main_function bytes s ∷ []) 0 line

  addi_is : (rd rs1 n : ℕ) → rd < 32 → rs1 < 32 → n ≤ 2047 → IsInstr (main_function bytes s ∷ []) (addi rd rs1 (Number (pos n)))
  addi_is rd rs1 n h k le = record { rd = h; rs1 = k; rs2 = lit< tt; form = (refl, small n le) }

  call_is_plain : (n : ℕ) → IsByte n → AllByRecursion IsPlain (lines_of (call_code n))
  call_is_plain n h = (
    addi_is x_a0 x_zero n (lit< tt) (lit< tt) (omega arith),
    (
      record { rd = lit< tt; rs1 = lit< tt; rs2 = lit< tt; form = (refl, refl, tt) },
      (
        record { rd = lit< tt; rs1 = lit< tt; rs2 = lit< tt; form = (refl, tt) },
        tt,
      ),
    ),
  )

  head_is_plain : AllByRecursion IsPlain (lines_of head_code)
  head_is_plain = (
    record { rd = lit< tt; rs1 = lit< tt; rs2 = lit< tt; form = (refl, (omega (arith, ints), omega (arith, ints))) },
    (
      record { rd = lit< tt; rs1 = lit< tt; rs2 = lit< tt; form = (refl, small 0 (lit≤ tt)) },
      tt,
    ),
  )

  tail_is_plain : IsByte s → AllByRecursion IsPlain (lines_of (tail_code s))
  tail_is_plain h = (
    addi_is x_a0 x_zero s (lit< tt) (lit< tt) (omega arith),
    (
      record { rd = lit< tt; rs1 = lit< tt; rs2 = lit< tt; form = (refl, small 0 (lit≤ tt)) },
      (
        addi_is x_sp x_sp 16 (lit< tt) (lit< tt) (lit≤ tt),
        (
          record { rd = lit< tt; rs1 = lit< tt; rs2 = lit< tt; form = (refl, small 0 (lit≤ tt)) },
          tt,
        ),
      ),
    ),
  )

  -- the lines of the calls
  abbrev calls_of : List ℕ → List AsmLine
  calls_of ns = flat_map (λ n. lines_of (call_code n)) ns

  calls_are_plain : (ns : List ℕ) → AllByRecursion IsByte ns → AllByRecursion IsPlain (calls_of ns)
  calls_are_plain [] h = tt
  calls_are_plain (n ∷ ns) h =
      subst (AllByRecursion IsPlain) (sym (flat_map-cons (λ m. lines_of (call_code m)) n ns))
      (All-append IsPlain (lines_of (call_code n)) (calls_of ns) (call_is_plain n h.0) (calls_are_plain ns h.1))

  lines_are_plain : AllByRecursion IsByte bytes → IsByte s → AllByRecursion IsPlain (main_lines bytes s)
  lines_are_plain h k =
      All-append IsPlain (lines_of head_code) _ head_is_plain
      (All-append IsPlain (calls_of bytes) (lines_of (tail_code s)) (calls_are_plain bytes h) (tail_is_plain k))

  no_labels : (ns : List ℕ) → labels_of (calls_of ns ++ lines_of (tail_code s)) ≡ []
  no_labels [] = refl
  no_labels (n ∷ ns) = ap (λ lines. labels_of (lines ++ lines_of (tail_code s))) (flat_map-cons (λ m. lines_of (call_code m)) n ns) ∙ no_labels ns

  instrs_have_none : (ns : List ℕ) → AllByRecursion HasNoTarget (instrs_of (calls_of ns ++ lines_of (tail_code s)))
  instrs_have_none [] = all_pass has_no_target (tail_code s) refl
  instrs_have_none (n ∷ ns) =
      subst (λ lines. AllByRecursion HasNoTarget (instrs_of (lines ++ lines_of (tail_code s)))) (sym (flat_map-cons (λ m. lines_of (call_code m)) n ns))
      (refl, (refl, (refl, instrs_have_none ns)))

  code_has_none : AllByRecursion HasNoTarget (whole_code (first_unit bytes s))
  code_has_none =
      All-append HasNoTarget (start_code 0 0) (code_of (main_function bytes s ∷ [])) (all_pass has_no_target (start_code 0 0) refl)
      (subst (AllByRecursion HasNoTarget) (sym (one_function (main_lines bytes s))) (refl, (refl, instrs_have_none bytes)))

  names_are : AreNames (names_of (main_function bytes s ∷ []))
  unfolding IsDistinct
  names_are = record {
    identifiers = ((refl, (refl, (refl, (refl, tt)))), tt);
    distinct = (tt, tt);
    no_getchar = one_name (codes "main") (codes "getchar") (λ e. absurd (cc e));
    no_putchar = one_name (codes "main") (codes "putchar") (λ e. absurd (cc e));
    main = (0, lit< tt, refl);
  }

  items_are : AreItems (Zero 1 ∷ [])
  items_are = record {
    each = ((lit< tt, lit< tt), tt);
    longest = λ before after m n e. omega (arith, ap length e, length-append before (Zero m ∷ Zero n ∷ after));
    buffer = ([], 1, refl);
  }

  function_is : AllByRecursion IsByte bytes → IsByte s → (number : ℕ) (function : AsmFunction) → slice_get (main_function bytes s ∷ []) number ≡ Some function → IsFunction (main_function bytes s ∷ []) number function
  unfolding IsDistinct
  function_is h k zero function e = let same : main_function bytes s ≡ function = cc e in subst (IsFunction (main_function bytes s ∷ []) 0) same (record {
    lines = lines_are_plain h k;
    labels = subst (IsDistinct nat_eq) (sym (no_labels bytes)) tt;
  })
  function_is h k (suc number) function e = absurd (cc e)

  pub first_unit_is_well_formed : AllByRecursion IsByte bytes → IsByte s → IsWellFormed (first_unit bytes s)
  first_unit_is_well_formed h k = record {
    count = lit< tt;
    names = names_are;
    functions = function_is h k;
    near = λ index i e symbol target distance to. absurd (no_target i symbol (All-at HasNoTarget (whole_code (first_unit bytes s)) index i code_has_none e) to);
    items = items_are;
  }
