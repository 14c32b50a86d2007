-- An expression of struct type has a struct that is complete, where the names of objects have.
use Rattle.std.proofs.Common.{◌≡◌, ℕ, Bool, true, false, not, List, [], ◌∷◌, length, Some, None, refl, sym, subst, true≢false, unwrap_or}
use Rattle.std.specs.Prelude.{option_and_then, find, if◌then◌else◌, ◌==◌}
use Rattle.std.specs.Str.{bytes_eq}
use Rattle.std.specs.List.{AllByRecursion}
use Rattle.c_typing.specs.Types.{CType, void, integer, pointer, array, unsized, struct, function, is_struct, is_pointer, is_function, Field, Layout, layout_of, has_size}
use Rattle.c_typing.specs.Names.{Places}
use Rattle.c_typing.specs.Judgements.{Form, value, in_local, in_memory, temporary, callee, Typing, Fault, Meaning, Judgement, verdict, layouts}
use Rattle.c_typing.specs.Conversions.{value_of, value_by, read_by, result_form, Class, multiplicative, additive, subtractive, shift, relational, equality, bitwise, and_then, or_else, result_type, common_type, sum_type, difference_type, shift_type, truth, choice_type, choice_by, pointer_choice, is_null, points_to_void, are_comparable, is_castable}
use Rattle.c_typing.specs.Rules.{broken_if}
use Rattle.c_typing.specs.Expressions.{element_type, field_of, no_field}
use Rattle.c_typing.proofs.MadeJudged.{Yields, IsFront}
use Rattle.c_typing.proofs.MadeCopiedSizes.{is_hollow}
use Rattle.c_typing.proofs.MadeCopiedMembers.{Sized, sized_from}

-- from a node on, the type is complete where it is a struct
abbrev pub Complete : Places → ℕ → CType → Type 0
Complete p n (struct k) = Sized p n (struct k)
Complete p n u = Unit {0}

-- what is called gives no struct
abbrev pub Callable : Form → CType → Type 0
Callable (callee c) u = is_hollow u ≡ false
Callable f u = Unit {0}

pub kept_verdict : (P : Meaning → Type 0) (fs : List Fault) (m : Meaning) → (fs ≡ [] → P m) → Yields P (verdict fs m)
kept_verdict P [] m h = h refl
kept_verdict P (f ∷ fs) m h = tt

pub allowed : (b : Bool) (r n : ℕ) → broken_if (not b) r n ≡ [] → b ≡ true
allowed true r n e = refl
allowed false r n e = absurd (cc e)

pub plain_form : (u v : CType) → Callable (result_form u) v
plain_form void v = tt
plain_form (integer k) v = tt
plain_form (pointer u) v = tt
plain_form (array u n) v = tt
plain_form (unsized u) v = tt
plain_form (struct k) v = tt
plain_form (function r ps) v = tt

module _ (p : Places) (n : ℕ) where
  pub complete_sized : (u : CType) → Sized p n u → Complete p n u
  complete_sized (struct k) h = h
  complete_sized void h = tt
  complete_sized (integer k) h = tt
  complete_sized (pointer u) h = tt
  complete_sized (array u m) h = tt
  complete_sized (unsized u) h = tt
  complete_sized (function r ps) h = tt

  pub complete_other : (u : CType) → is_struct u ≡ false → Complete p n u
  complete_other (struct k) e = absurd (true≢false e)
  complete_other void e = tt
  complete_other (integer k) e = tt
  complete_other (pointer u) e = tt
  complete_other (array u m) e = tt
  complete_other (unsized u) e = tt
  complete_other (function r ps) e = tt

  pub complete_function : (u : CType) → is_function u ≡ true → Complete p n u
  complete_function (function r ps) e = tt
  complete_function void e = tt
  complete_function (integer k) e = tt
  complete_function (pointer u) e = tt
  complete_function (array u m) e = tt
  complete_function (unsized u) e = tt
  complete_function (struct k) e = absurd (true≢false (sym e))

  pub complete_here : (js : List Judgement) → IsFront p js → length js ≡ n → (u : CType) → has_size (layouts js) u ≡ true → Complete p n u
  complete_here js front long u e = complete_sized u (sized_from p js n u front long e)

  pub complete_cast : (u v : CType) → is_castable u v ≡ true → Complete p n u
  complete_cast (struct k) v e = absurd (true≢false (sym e))
  complete_cast void v e = tt
  complete_cast (integer k) v e = tt
  complete_cast (pointer u) v e = tt
  complete_cast (array u m) v e = tt
  complete_cast (unsized u) v e = tt
  complete_cast (function r ps) v e = tt

  -- ---- values

  read_complete : (x : Typing) → Complete p n x.type → (u : CType) → x.type ≡ u → Complete p n (read_by u x).type
  read_complete x h (array u m) e = tt
  read_complete x h (unsized u) e = tt
  read_complete x h (struct k) e = h
  read_complete x h void e = tt
  read_complete x h (integer k) e = tt
  read_complete x h (pointer u) e = tt
  read_complete x h (function r ps) e = tt

  pub value_complete : (x : Typing) → Complete p n x.type → Complete p n (value_of x).type
  value_complete x h = by x.form
    where
      by : (f : Form) → Complete p n (value_by f x).type
      by (in_local k) = h
      by in_memory = read_complete x h x.type refl
      by temporary = read_complete x h x.type refl
      by value = h
      by (callee c) = h

  -- ---- operators

  module _ (ls : List Layout) (w : CType) (h : Complete p n w) where
    common_complete : (t u : CType) → Complete p n (unwrap_or (common_type ls t u) w)
    common_complete (integer a) (integer b) = tt
    common_complete _ _ = h

    where_sized : (b : Bool) (t : CType) → Complete p n (unwrap_or (if b then Some (pointer t) else None) w)
    where_sized true t = tt
    where_sized false t = h

    sum_complete : (t u : CType) → Complete p n (unwrap_or (sum_type ls t u) w)
    sum_complete (integer a) (integer b) = tt
    sum_complete (pointer t) (integer b) = where_sized (has_size ls t) t
    sum_complete (integer a) (pointer t) = where_sized (has_size ls t) t
    sum_complete _ _ = h

    where_so : (b : Bool) → Complete p n (unwrap_or (truth ls b) w)
    where_so true = tt
    where_so false = h

    difference_complete : (t u : CType) → Complete p n (unwrap_or (difference_type ls t u) w)
    difference_complete (integer a) (integer b) = tt
    difference_complete (pointer t) (integer b) = where_sized (has_size ls t) t
    difference_complete (pointer t) (pointer u) = where_so _
    difference_complete _ _ = h

    shift_complete : (t u : CType) → Complete p n (unwrap_or (shift_type ls t u) w)
    shift_complete (integer a) (integer b) = tt
    shift_complete _ _ = h

    pub result_complete : (c : Class) (x y : Typing) → Complete p n (unwrap_or (result_type ls c x y) w)
    result_complete multiplicative x y = common_complete x.type y.type
    result_complete bitwise x y = common_complete x.type y.type
    result_complete additive x y = sum_complete x.type y.type
    result_complete subtractive x y = difference_complete x.type y.type
    result_complete shift x y = shift_complete x.type y.type
    result_complete relational x y = where_so _
    result_complete equality x y = where_so _
    result_complete and_then x y = where_so _
    result_complete or_else x y = where_so _

  module _ (ls : List Layout) (x y : Typing) (h : Complete p n x.type) (g : Complete p n y.type) where
    either_one : (b : Bool) (s t : CType) → Complete p n s → Complete p n t → Complete p n (if b then s else t)
    either_one true s t a b = a
    either_one false s t a b = b

    pointer_complete : Complete p n (pointer_choice ls x y)
    pointer_complete = either_one (is_null y.constant) x.type (if is_null x.constant then y.type else if points_to_void x.type then x.type else y.type) h (either_one (is_null x.constant) y.type (if points_to_void x.type then x.type else y.type) g (either_one (points_to_void x.type) x.type y.type h g))

    or_left : (b : Bool) (t : CType) → Complete p n t → Complete p n (unwrap_or (if b then Some t else None) x.type)
    or_left true t e = e
    or_left false t e = h

    choice_any : (t u : CType) → x.type ≡ t → y.type ≡ u → Complete p n (unwrap_or (if are_comparable x y then Some (if is_pointer t then (if is_pointer u then pointer_choice ls x y else t) else u) else None) x.type)
    choice_any t u e f = or_left (are_comparable x y) (if is_pointer t then (if is_pointer u then pointer_choice ls x y else t) else u) (either_one (is_pointer t) (if is_pointer u then pointer_choice ls x y else t) u (either_one (is_pointer u) (pointer_choice ls x y) t pointer_complete (subst (λ z. Complete p n z) e h)) (subst (λ z. Complete p n z) f g))

    choice_by_complete : (t u : CType) → x.type ≡ t → y.type ≡ u → Complete p n (unwrap_or (choice_by ls t u x y) x.type)
    choice_by_complete (integer a) (integer b) e f = tt
    choice_by_complete void void e f = tt
    choice_by_complete (struct k) (struct l) e f = or_left (k == l) (struct k) (subst (λ z. Complete p n z) e h)
    choice_by_complete t u e f = choice_any t u e f

    pub choice_complete : Complete p n (unwrap_or (choice_type ls x y) x.type)
    choice_complete = choice_by_complete x.type y.type refl refl

  -- ---- elements and members

  pub element_complete : (js : List Judgement) → IsFront p js → length js ≡ n → (w t u : CType) → Complete p n w → Complete p n (unwrap_or (element_type (layouts js) t u) w)
  element_complete js front long w t u h = by t u
    where
      sized : (v : CType) (b : Bool) → has_size (layouts js) v ≡ b → Complete p n (unwrap_or (if b then Some v else None) w)
      sized v true e = complete_here js front long v e
      sized v false e = h

      by : (t u : CType) → Complete p n (unwrap_or (element_type (layouts js) t u) w)
      by (pointer v) (integer k) = sized v (has_size (layouts js) v) refl
      by (integer k) (pointer v) = sized v (has_size (layouts js) v) refl
      by _ _ = h

  abbrev pub AllMembers : List Layout → List Layout → Type 0
  AllMembers all ls = AllByRecursion (λ (x : Layout). AllByRecursion (λ (f : Field). has_size all f.type ≡ true) x.fields) ls

  module _ (js : List Judgement) (front : IsFront p js) (long : length js ≡ n) where
    named_complete : (fs : List Field) (name : List ℕ) → AllByRecursion (λ (f : Field). has_size (layouts js) f.type ≡ true) fs → Complete p n (unwrap_or (find (λ (f : Field). bytes_eq f.name name) fs) no_field).type
    named_complete [] name h = tt
    named_complete (f ∷ fs) name h = by (bytes_eq f.name name) (named_complete fs name h.1)
      where
        by : (b : Bool) → Complete p n (unwrap_or (find (λ (f : Field). bytes_eq f.name name) fs) no_field).type → Complete p n (unwrap_or (if b then Some f else find (λ (f : Field). bytes_eq f.name name) fs) no_field).type
        by true g = complete_here js front long f.type h.0
        by false g = g

    struct_complete : (ls : List Layout) (k : ℕ) (name : List ℕ) → AllMembers (layouts js) ls → Complete p n (unwrap_or (option_and_then (λ (l : Layout). find (λ (f : Field). bytes_eq f.name name) l.fields) (layout_of ls k)) no_field).type
    struct_complete [] k name h = tt
    struct_complete (l ∷ ls) k name h = by (l.number == k) (struct_complete ls k name h.1)
      where
        by : (b : Bool) → Complete p n (unwrap_or (option_and_then (λ (x : Layout). find (λ (f : Field). bytes_eq f.name name) x.fields) (layout_of ls k)) no_field).type
            → Complete p n (unwrap_or (option_and_then (λ (x : Layout). find (λ (f : Field). bytes_eq f.name name) x.fields) (if b then Some l else layout_of ls k)) no_field).type
        by true g = named_complete l.fields name h.0
        by false g = g

    pub field_complete : (u : CType) (name : List ℕ) → AllMembers (layouts js) (layouts js) → Complete p n (unwrap_or (field_of (layouts js) u name) no_field).type
    field_complete (struct k) name h = struct_complete (layouts js) k name h
    field_complete void name h = tt
    field_complete (integer k) name h = tt
    field_complete (pointer u) name h = tt
    field_complete (array u m) name h = tt
    field_complete (unsized u) name h = tt
    field_complete (function r ps) name h = tt
