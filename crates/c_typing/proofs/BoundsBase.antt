-- The nodes, rules and sizes that faults name: what is asked of them, and how it goes through judgements and constants.
use Rattle.std.proofs.Common.{◌≡◌, ℕ, ◌-◌, ◌^◌, ◌<◌, Bool, true, false, ◌&&◌, List, [], ◌∷◌, ◌++◌, Option, Some, None, refl, subst, arith}
use Rattle.std.specs.Prelude.{nat_le, nat_lt, min, if◌then◌else◌, ◌==◌}
use Rattle.std.proofs.lemmas.Bool.Decides.{nat_tests}
use Rattle.c_types.specs.declared.kind.TheConstants.{MAX_SIZE}
use Rattle.c_types.specs.declared.tree.COp.{COp}
use Rattle.c_types.specs.Operators.{c_operator}
use Rattle.c_typing.specs.Types.{CType, integer, pointer, array, unsized, struct, Layout, size_of}
use Rattle.c_typing.specs.Judgements.{Fault, rule, too_big, Constant, no_constant, undefined, number, null_pointer, zero_pointer, address_of, undefined_address, place_at, Typing, Form, in_local, in_memory, temporary, PlacedStep, Meaning, expresses, steps, Judgement, means, breaks_rules, waits, verdict, besides, given, judgement_at, typing_at, typing_of, steps_at, steps_of}
use Rattle.c_typing.specs.Conversions.{Class, additive, subtractive, and_then, or_else, value_of, value_by, read_by, address_in, points_to_void}
use Rattle.c_typing.specs.Rules.{is_constant, broken_if, size_fault, out_of_range}
use Rattle.c_typing.specs.Constants.{evaluated, operated, where_formed, truth_of, both_constant, either_constant, chosen_constant, moved_up, moved_down, sum_constant, difference_constant, binary_constant, pointer_cast, integer_cast, cast_constant, part_at, element_at, address_constant}

module _ (N : ℕ) where
  -- a rule from 1 to 27, or a size above the limit, at a node with a number below N
  abbrev pub Proper : Fault → Type 0
  Proper (rule r n) = ((nat_le 1 r && nat_le r 27) ≡ true) × (n < N)
  Proper (too_big n s) = (nat_lt MAX_SIZE s ≡ true) × (n < N)

  abbrev pub AllProper : List Fault → Type 0
  AllProper [] = Unit {0}
  AllProper (f ∷ fs) = Proper f × AllProper fs

  abbrev pub ConstantIn : Constant → Type 0
  ConstantIn (undefined k) = k < N
  ConstantIn (undefined_address k) = k < N
  ConstantIn c = Unit {0}

  abbrev pub StepsIn : List PlacedStep → Type 0
  StepsIn [] = Unit {0}
  StepsIn (s ∷ ss) = (s.node < N) × StepsIn ss

  abbrev pub MeaningIn : Meaning → Type 0
  MeaningIn (expresses x h) = ConstantIn x.constant
  MeaningIn (steps ss) = StepsIn ss
  MeaningIn m = Unit {0}

  abbrev pub Holds : Judgement → Type 0
  Holds (means m) = MeaningIn m
  Holds (breaks_rules f fs) = Proper f × AllProper fs
  Holds waits = Unit {0}

  -- all nodes that it names are there
  pub record JudgedIn (j : Judgement) : Type 0 where
    pub holds : Holds j

  -- ---- faults

  pub both_in : (fs gs : List Fault) → AllProper fs → AllProper gs → AllProper (fs ++ gs)
  both_in [] gs h k = k
  both_in (f ∷ fs) gs h k = (h.0, both_in fs gs h.1 k)

  pub rule_in : (b : Bool) (r n : ℕ) → (nat_le 1 r && nat_le r 27) ≡ true → n < N → AllProper (broken_if b r n)
  rule_in true r n e lt = ((e, lt), tt)
  rule_in false r n e lt = tt

  above_limit : (size : ℕ) → nat_lt MAX_SIZE size ≡ true → nat_lt MAX_SIZE (min size (2 ^ 64 - 1)) ≡ true
  above_limit size e = grind (arith, nat_tests, e)

  pub size_in : (size n : ℕ) → n < N → AllProper (size_fault size n)
  size_in size n lt = by (nat_lt MAX_SIZE size) (above_limit size)
    where
      by : (b : Bool) → (b ≡ true → nat_lt MAX_SIZE (min size (2 ^ 64 - 1)) ≡ true) → AllProper (if b then too_big n (min size (2 ^ 64 - 1)) ∷ [] else [])
      by true h = ((h refl, lt), tt)
      by false h = tt

  pub range_in : (c : Constant) → ConstantIn c → AllProper (out_of_range c)
  range_in (undefined k) h = ((refl, h), tt)
  range_in (undefined_address k) h = ((refl, h), tt)
  range_in _ h = tt

  -- ---- judgements

  pub means_in : (m : Meaning) → MeaningIn m → JudgedIn (means m)
  means_in m h = record { holds = h }

  pub breaks_in : (r n : ℕ) → (nat_le 1 r && nat_le r 27) ≡ true → n < N → JudgedIn (breaks_rules (rule r n) [])
  breaks_in r n e lt = record { holds = ((e, lt), tt) }

  pub waits_in : JudgedIn waits
  waits_in = record { holds = tt }

  pub verdict_in : (fs : List Fault) (m : Meaning) → AllProper fs → MeaningIn m → JudgedIn (verdict fs m)
  verdict_in [] m h k = record { holds = k }
  verdict_in (f ∷ fs) m h k = record { holds = h }

  pub besides_in : (fs : List Fault) (j : Judgement) → AllProper fs → JudgedIn j → JudgedIn (besides fs j)
  besides_in [] j h k = k
  besides_in (f ∷ fs) (means m) h k = record { holds = h }
  besides_in (f ∷ fs) (breaks_rules g gs) h k = record { holds = (h.0, both_in fs (g ∷ gs) h.1 k.holds) }
  besides_in (f ∷ fs) waits h k = record { holds = h }

  pub given_in : {A : Type 0} (o : Option A) (f : A → Judgement) → ((a : A) → o ≡ Some a → JudgedIn (f a)) → JudgedIn (given o f)
  given_in {A = A} None f h = record { holds = tt }
  given_in {A = A} (Some a) f h = h a refl

  -- ---- what earlier nodes mean

  abbrev pub AllIn : List Judgement → Type 0
  AllIn js = (k : ℕ) → JudgedIn (judgement_at js k)

  pub typing_in : (js : List Judgement) (k : ℕ) (x : Typing) → AllIn js → typing_at js k ≡ Some x → ConstantIn x.constant
  typing_in js k x all e = by (judgement_at js k) (all k).holds e
    where
      same : {y : Typing} → Some y ≡ Some x → y ≡ x
      same h = cc h

      of : (m : Meaning) → MeaningIn m → typing_of (means m) ≡ Some x → ConstantIn x.constant
      of (expresses y h) i e = subst (λ (z : Typing). ConstantIn z.constant) (same e) i
      of _ i e = absurd (cc e)

      by : (j : Judgement) → Holds j → typing_of j ≡ Some x → ConstantIn x.constant
      by (means m) i e = of m i e
      by (breaks_rules f fs) i e = absurd (cc e)
      by waits i e = absurd (cc e)

  pub steps_in : (js : List Judgement) (k : ℕ) (ss : List PlacedStep) → AllIn js → steps_at js k ≡ Some ss → StepsIn ss
  steps_in js k ss all e = by (judgement_at js k) (all k).holds e
    where
      same : {y : List PlacedStep} → Some y ≡ Some ss → y ≡ ss
      same h = cc h

      of : (m : Meaning) → MeaningIn m → steps_of (means m) ≡ Some ss → StepsIn ss
      of (steps y) i e = subst (λ z. StepsIn z) (same e) i
      of _ i e = absurd (cc e)

      by : (j : Judgement) → Holds j → steps_of j ≡ Some ss → StepsIn ss
      by (means m) i e = of m i e
      by (breaks_rules f fs) i e = absurd (cc e)
      by waits i e = absurd (cc e)

  -- ---- constants

  pub value_in : (x : Typing) → ConstantIn x.constant → ConstantIn (value_of x).constant
  value_in x h = by x.form
    where
      address : (c : Constant) → ConstantIn (address_in c)
      address (place_at o a true) = tt
      address (place_at o a false) = tt
      address _ = tt

      read : (t : CType) → ConstantIn (read_by t x).constant
      read (array t n) = address x.constant
      read (unsized t) = address x.constant
      read (struct k) = tt
      read _ = tt

      by : (f : Form) → ConstantIn (value_by f x).constant
      by (in_local k) = tt
      by in_memory = read x.type
      by temporary = read x.type
      by _ = h

  if_in : (b : Bool) (c d : Constant) → ConstantIn c → ConstantIn d → ConstantIn (if b then c else d)
  if_in true c d h k = h
  if_in false c d h k = k

  formed_in : (x c : Constant) → ConstantIn c → ConstantIn (where_formed x c)
  formed_in x c h = if_in (is_constant x) c no_constant h tt

  evaluated_in : (n : ℕ) (o : Option ℕ) → n < N → ConstantIn (evaluated n o)
  evaluated_in n None lt = lt
  evaluated_in n (Some w) lt = tt

  pub operated_in : (op : COp) (n : ℕ) (x y : Constant) → n < N → ConstantIn x → ConstantIn y → ConstantIn (operated op n x y)
  operated_in op n (number a) (number b) lt h k = evaluated_in n (c_operator op a b) lt
  operated_in op n (undefined i) y lt h k = if_in (is_constant y) (undefined i) no_constant h tt
  operated_in op n x (undefined i) lt h k = if_in (is_constant x) (undefined i) no_constant k tt
  operated_in op n _ _ lt h k = tt

  truth_in : (x : Constant) → ConstantIn x → ConstantIn (truth_of x)
  truth_in (number w) h = tt
  truth_in (undefined k) h = h
  truth_in _ h = tt

  all_in : (x y : Constant) → ConstantIn x → ConstantIn y → ConstantIn (both_constant x y)
  all_in (number w) y h k = if_in (w == 0) (where_formed y (number 0)) (truth_of y) (formed_in y (number 0) tt) (truth_in y k)
  all_in (undefined i) y h k = formed_in y (undefined i) h
  all_in _ y h k = tt

  either_in : (x y : Constant) → ConstantIn x → ConstantIn y → ConstantIn (either_constant x y)
  either_in (number w) y h k = if_in (w == 0) (truth_of y) (where_formed y (number 1)) (truth_in y k) (formed_in y (number 1) tt)
  either_in (undefined i) y h k = formed_in y (undefined i) h
  either_in _ y h k = tt

  pub chosen_in : (c x y : Constant) → ConstantIn c → ConstantIn x → ConstantIn y → ConstantIn (chosen_constant c x y)
  chosen_in (number w) x y h i k = formed_in x _ (formed_in y _ (if_in (w == 0) y x k i))
  chosen_in (undefined j) x y h i k = formed_in x _ (formed_in y (undefined j) h)
  chosen_in _ x y h i k = tt

  up_in : (size : ℕ) (x y : Constant) → ConstantIn x → ConstantIn y → ConstantIn (moved_up size x y)
  up_in size (address_of o a) (number w) h k = tt
  up_in size (address_of o a) (undefined i) h k = k
  up_in size (undefined_address i) y h k = formed_in y (undefined_address i) h
  up_in size _ y h k = tt

  down_in : (size : ℕ) (x y : Constant) → ConstantIn x → ConstantIn y → ConstantIn (moved_down size x y)
  down_in size (address_of o a) (number w) h k = tt
  down_in size (address_of o a) (undefined i) h k = k
  down_in size (undefined_address i) y h k = formed_in y (undefined_address i) h
  down_in size _ y h k = tt

  sum_in : (ls : List Layout) (op : COp) (n : ℕ) (t u : CType) (x y : Constant) → n < N → ConstantIn x → ConstantIn y → ConstantIn (sum_constant ls op n t u x y)
  sum_in ls op n (pointer t) u x y lt h k = up_in (size_of ls t) x y h k
  sum_in ls op n t (pointer u) x y lt h k = up_in (size_of ls u) y x k h
  sum_in ls op n t u x y lt h k = operated_in op n x y lt h k

  difference_in : (ls : List Layout) (op : COp) (n : ℕ) (t u : CType) (x y : Constant) → n < N → ConstantIn x → ConstantIn y → ConstantIn (difference_constant ls op n t u x y)
  difference_in ls op n (pointer t) u x y lt h k = down_in (size_of ls t) x y h k
  difference_in ls op n _ u x y lt h k = operated_in op n x y lt h k

  pub binary_in : (ls : List Layout) (op : COp) (n : ℕ) (c : Class) (t u : CType) (x y : Constant) → n < N → ConstantIn x → ConstantIn y → ConstantIn (binary_constant ls op n c t u x y)
  binary_in ls op n additive t u x y lt h k = sum_in ls op n t u x y lt h k
  binary_in ls op n subtractive t u x y lt h k = difference_in ls op n t u x y lt h k
  binary_in ls op n and_then t u x y lt h k = all_in x y h k
  binary_in ls op n or_else t u x y lt h k = either_in x y h k
  binary_in ls op n _ t u x y lt h k = operated_in op n x y lt h k

  pointer_in : (t : CType) (c : Constant) → ConstantIn c → ConstantIn (pointer_cast t c)
  pointer_in t (number w) h = if_in (w == 0) _ no_constant (if_in (points_to_void t) null_pointer zero_pointer tt tt) tt
  pointer_in t (undefined_address k) h = h
  pointer_in t _ h = tt

  integer_in : (t : CType) (c : Constant) → ConstantIn c → ConstantIn (integer_cast t c)
  integer_in t (undefined k) h = h
  integer_in t _ h = tt

  pub cast_in : (t u : CType) (c : Constant) → ConstantIn c → ConstantIn (cast_constant t u c)
  cast_in (integer k) (integer l) c h = integer_in (integer k) c h
  cast_in (pointer t) u c h = pointer_in (pointer t) c h
  cast_in _ _ c h = tt

  pub part_in : (offset : ℕ) (c : Constant) → ConstantIn c → ConstantIn (part_at offset c)
  part_in offset (undefined_address k) h = h
  part_in offset _ h = tt

  pub element_in : (size : ℕ) (x y : Constant) → ConstantIn x → ConstantIn y → ConstantIn (element_at size x y)
  element_in size (place_at o a named) (number w) h k = tt
  element_in size (place_at o a named) (undefined i) h k = k
  element_in size (undefined_address i) y h k = formed_in y (undefined_address i) h
  element_in size _ y h k = tt

  pub address_in_bounds : (c : Constant) → ConstantIn c → ConstantIn (address_constant c)
  address_in_bounds (undefined_address k) h = h
  address_in_bounds _ h = tt
