-- What a call means by what is called.
use Rattle.std.proofs.Common.{◌≡◌, ◌≢◌, ℕ, Bool, true, false, not, List, [], ◌∷◌, Option, Some, None, length, map, refl, sym, ap, ◌∙◌, subst}
use Rattle.std.specs.Prelude.{is_some, ◌==◌}
use Rattle.std.proofs.lemmas.Bool.{eq-eqb, false≢true}
use Rattle.c_syntax.specs.declared.kind.SynKind.TheVariants as kind
use Rattle.c_syntax.specs.declared.syntax.SynNode.{SynNode}
use Rattle.c_typing.specs.Types.{CType, CTypes, function, is_function, listed, void, integer, pointer, array, unsized, struct}
use Rattle.c_typing.specs.Places.{other_kids}
use Rattle.c_typing.specs.Judgements as rules
use Rattle.c_typing.specs.Judgements.{Callee, Form, Judgement, besides, callee, faults_in, given, no_constant, rule, typing_at, verdict, waits}
use Rattle.c_typing.specs.Rules.{broken_if}
use Rattle.c_typing.specs.Conversions.{result, value_of}
use Rattle.c_typing.specs.Expressions.{argument_faults, arguments, call_by, call_code, called, expression, passed}
use Rattle.c_typing.specs.Typing.{judged_by}
use Rattle.c_names.specs.Denoted.{places_in}
use Rattle.c_type_ids.specs.Ids.{Known}
use Rattle.c_values.specs.declared.typings.Form.TheVariants as form
use Rattle.c_values.specs.declared.typings.Form.{Form as CodeForm}
use Rattle.c_values.specs.declared.typings.Callee.{Callee as CodeCallee}
use Rattle.c_types.specs.declared.kind.TypeId.{TypeId}
use Rattle.c_values.specs.declared.typings.«Type».{«Type» as TypeForm}
use Rattle.c_values.specs.declared.typings.«Type».TheVariants as type
use Rattle.c_values.specs.Typings.{IsType, form_of}
use Rattle.c_answers.specs.Answers.{IsFirst}
use Rattle.c_answers.specs.declared.refusal.Refusal.TheVariants as refusal
use Rattle.c_calls.proofs.CallLaws.{wrong_count}
use Rattle.c_calls.specs.Arguments.{IsCallable}
use Rattle.c_meanings.specs.Meanings.{judged_at, judged_to, kid_in, node_in}
use Rattle.c_expression_rows.specs.Calls.{IsCalled, IsCalledAt, arguments_of}
use Rattle.c_expression_rows.specs.declared.callees.Called.{Called}
use Rattle.c_expression_rows.proofs.RowLaws.{known_some}
use Rattle.c_expression_rows.specs.declared.callees.Called.TheVariants as called_as

-- ---- the name that is called

pub no_callee : (g : CodeForm) (h : Form) → form_of g ≡ h → ((c : CodeCallee) → g ≢ form.Callee c) → (c : Callee) → h ≢ callee c
no_callee form.Value h e other c same = let both = e ∙ same in absurd (cc both)
no_callee (form.InLocal l) h e other c same = let both = e ∙ same in absurd (cc both)
no_callee form.InMemory h e other c same = let both = e ∙ same in absurd (cc both)
no_callee form.Temporary h e other c same = let both = e ∙ same in absurd (cc both)
no_callee (form.Callee d) h e other c same = absurd (other d refl)

-- an array without a length, and a pointer to one, is no function
pub unknown_type : (k : Known) (a : TypeForm) (t : CType) → ((id : TypeId) → a ≢ type.Known id) → IsType k a t → is_function t ≡ false
unknown_type k (type.Known id) t other named = absurd (other id refl)
unknown_type k a (void) other named = refl
unknown_type k a (integer i) other named = refl
unknown_type k a (pointer t) other named = refl
unknown_type k a (array t m) other named = refl
unknown_type k a (unsized t) other named = refl
unknown_type k a (struct m) other named = refl
unknown_type k (type.Unsized id) (function r ts) other named = absurd named
unknown_type k (type.ToUnsized id) (function r ts) other named = absurd named

pub function_type : (t : CType) → is_function t ≡ true → (r : CType) × (ts : CTypes) × (t ≡ function r ts)
function_type void e = absurd (cc e)
function_type (integer i) e = absurd (cc e)
function_type (pointer t) e = absurd (cc e)
function_type (array t m) e = absurd (cc e)
function_type (unsized t) e = absurd (cc e)
function_type (struct m) e = absurd (cc e)
function_type (function r ts) e = (r, ts, refl)

none_of : {A : Type 0} (o : Option A) → is_some o ≡ false → o ≡ None
none_of None e = refl
none_of (Some a) e = absurd (false≢true (sym e))

-- ---- the call

module _ (table : List SynNode) (n : ℕ) (is : (node_in table n).label.kind ≡ kind.Call) where
  abbrev name : Option rules.Typing
  name = typing_at (judged_to table n) (kid_in table n 0)

  abbrev by_name : Option rules.Typing → Judgement
  by_name o = given o (λ f. call_by (judged_to table n) (node_in table n) f f.form)

  call_is : judged_at table n ≡ by_name name
  unfolding judged_at judged_by
  call_is = ap (judged_by (places_in table) (judged_to table n) (node_in table n)) is

  pub call_without_name : name ≡ None → judged_at table n ≡ waits
  call_without_name none = call_is ∙ ap by_name none

  -- a call of a function, by the number of arguments and by their meanings
  abbrev by_parts : Callee → CType → CTypes → Bool → Option (List rules.Typing) → Judgement
  by_parts c r ts fits o =
      besides (broken_if (not fits) 15 (node_in table n).id) (
      given o λ xs.
      verdict (argument_faults (arguments (listed ts) (map value_of xs) (other_kids (node_in table n))))
      (expression (result r (call_code c (map passed (arguments (listed ts) (map value_of xs) (other_kids (node_in table n))))) no_constant)))

  called_is : (c : Callee) (r : CType) (ts : CTypes)
      → called (judged_to table n) (node_in table n) c (function r ts) ≡ by_parts c r ts (length (listed ts) == length (other_kids (node_in table n))) (arguments_of table n)
  unfolding called
  called_is c r ts = refl

  module _ (f : rules.Typing) (there : name ≡ Some f) where
    pub call_with : judged_at table n ≡ call_by (judged_to table n) (node_in table n) f f.form
    call_with = call_is ∙ ap by_name there

    called_with : (c : Callee) (t : CType) → f.form ≡ callee c → f.type ≡ t → judged_at table n ≡ called (judged_to table n) (node_in table n) c t
    unfolding call_by
    called_with c t e g = call_with ∙ ap (call_by (judged_to table n) (node_in table n) f) e ∙ ap (called (judged_to table n) (node_in table n) c) g

    -- what is no function waits
    pub no_function_waits : (arguments : ℕ) → IsCalled called_as.Waits f arguments → judged_at table n ≡ waits
    unfolding called
    no_function_waits arguments (c, e, other) = called_with c f.type e refl ∙ by f.type other
      where
        by : (t : CType) → is_function t ≡ false → called (judged_to table n) (node_in table n) c t ≡ waits
        by void o = refl
        by (integer i) o = refl
        by (pointer t) o = refl
        by (array t m) o = refl
        by (unsized t) o = refl
        by (struct m) o = refl
        by (function r ts) o = absurd (false≢true (sym o))

    pub no_name_refused : (node_in table n).id ≡ n → (arguments : ℕ) → IsCalled called_as.NoFunction f arguments → IsFirst (refusal.Broken 16 n) (faults_in (judged_at table n))
    unfolding call_by
    no_name_refused own arguments other = subst (λ j. IsFirst (refusal.Broken 16 n) (faults_in j)) (sym call_with) (by f.form other)
      where
        by : (h : Form) → ((c : Callee) → h ≢ callee c) → IsFirst (refusal.Broken 16 n) (faults_in (call_by (judged_to table n) (node_in table n) f h))
        by rules.value o = ([], ap (λ i. rule 16 i ∷ []) own)
        by (rules.in_local k) o = ([], ap (λ i. rule 16 i ∷ []) own)
        by rules.in_memory o = ([], ap (λ i. rule 16 i ∷ []) own)
        by rules.temporary o = ([], ap (λ i. rule 16 i ∷ []) own)
        by (callee c) o = absurd (o c refl)

    pub wrong_number_refused : (k : Known) → (node_in table n).id ≡ n → IsCalled called_as.WrongNumber f (length (other_kids (node_in table n))) → IsFirst (refusal.Broken 15 n) (faults_in (judged_at table n))
    wrong_number_refused k own (c, r, ts, e, g, other) =
        subst (λ j. IsFirst (refusal.Broken 15 n) (faults_in j)) (sym (called_with c (function r ts) e g))
        (wrong_count k n (judged_to table n) (node_in table n) c r ts (other_kids (node_in table n)) own refl other)

    -- so does a call where an argument waits
    pub argument_waits : IsCalled called_as.Fits f (length (other_kids (node_in table n))) → is_some (arguments_of table n) ≡ false → judged_at table n ≡ waits
    argument_waits (c, r, ts, e, g, same) none =
        called_with c (function r ts) e g ∙ called_is c r ts ∙ ap (λ b. by_parts c r ts b (arguments_of table n)) (eq-eqb (length (listed ts)) (length (other_kids (node_in table n))) same)
        ∙ ap (by_parts c r ts true) (none_of (arguments_of table n) none)

    pub fits_callable : IsCalled called_as.Fits f (length (other_kids (node_in table n))) → IsCallable f.form f.type
    fits_callable (c, r, ts, e, g, same) = subst (λ h. IsCallable h f.type) (sym e) (ap is_function g)

    pub called_so : (k : Known) (a : Called) → (node_in table n).id ≡ n → a ≢ called_as.Fits → IsCalled a f (length (other_kids (node_in table n))) → IsCalledAt a table n
    called_so k called_as.Waits own other h = no_function_waits (length (other_kids (node_in table n))) h
    called_so k called_as.NoFunction own other h = no_name_refused own (length (other_kids (node_in table n))) h
    called_so k called_as.WrongNumber own other h = wrong_number_refused k own h
    called_so k called_as.Fits own other h = absurd (other refl)

    pub call_fits : is_some (arguments_of table n) ≡ true → IsCalled called_as.Fits f (length (other_kids (node_in table n))) → IsCalledAt called_as.Fits table n
    call_fits e fits = let (xs, all) = known_some (arguments_of table n) e in (f, xs, there, all, fits_callable fits)
