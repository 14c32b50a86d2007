-- Each kind of expression: where its operands have meanings, and it breaks no rule, it has one.
use Rattle.std.proofs.Common.{◌≡◌, ℕ, Bool, true, false, List, length, map, Some, refl, sym, true≢false}
use Rattle.std.specs.Prelude.{unwrap_or, if◌then◌else◌, ◌==◌, codes}
use Rattle.std.specs.Str.{bytes_eq}
use Rattle.c_syntax.specs.declared.kind.SynKind.{SynKind}
use Rattle.c_types.specs.Forms.{seq}
use Rattle.c_typing.specs.Rules.{bad_operand, wrong_number, not_a_function}
use Rattle.c_typing.specs.Types.{listed, IntegerType, Layout, promoted, integer_of, CType, pointer, array, unsized, struct, function}
use Rattle.c_typing.specs.Places.{Node, other_kids}
use Rattle.c_typing.specs.Names.{Places}
use Rattle.c_typing.specs.Judgements.{all_of, no_constant, Form, Constant, value, in_local, in_memory, temporary, callee, expresses, Fault, Judgement, means, Typing, verdict, given, typing_at, layouts, Callee}
use Rattle.c_typing.specs.Conversions.{result, result_form, value_of, value_by, read_by, Operator, operator_of, choice_type}
use Rattle.c_typing.specs.Expressions.{expression, arguments, argument_faults, call_code, passed, sign_typing, element_type, element_typing, field_of, no_field, prefix_step, postfix_step, subscript, called, call_by, dot, arrow, address_operator, dereference, sign_operator, not_operator, unary, measured_type, cast, binary_by, binary_operator, conditional, comma, assignment, compound_by, before_equal, assign, member_form}
use Rattle.c_typing.specs.Shapes as category
use Rattle.c_typing.specs.Meant.{is_callable}
use Rattle.c_typing.proofs.ProgressBase.{Settles, settled, verdict_settles, besides_settles, given_settles, AllThere, all_there}
use Rattle.c_typing.proofs.ProgressForms.{fits, Has}

pub callable_result : (t : CType) → is_callable (result_form t) t ≡ true
callable_result (struct k) = refl
callable_result _ = refl

pub callable_value : (x : Typing) → is_callable x.form x.type ≡ true → is_callable (value_of x).form (value_of x).type ≡ true
callable_value x e = by x.form e
  where
    read : (t : CType) → is_callable (read_by t x).form (read_by t x).type ≡ true
    read (array t n) = refl
    read (unsized t) = refl
    read (struct k) = refl
    read _ = refl

    by : (f : Form) → is_callable f x.type ≡ true → is_callable (value_by f x).form (value_by f x).type ≡ true
    by (in_local k) h = refl
    by in_memory h = read x.type
    by temporary h = read x.type
    by value h = e
    by (callee c) h = e

callable_if : (b : Bool) (x y : Typing) → is_callable x.form x.type ≡ true → is_callable y.form y.type ≡ true → is_callable (if b then x else y).form (if b then x else y).type ≡ true
callable_if true x y e f = e
callable_if false x y e f = f

callable_sign : (n : ℕ) (k : IntegerType) (text : List ℕ) (v : Typing) → is_callable (sign_typing n k text v).form (sign_typing n k text v).type ≡ true
callable_sign n k text v = callable_if (bytes_eq text (codes "-")) _ _ refl (callable_if (bytes_eq text (codes "~")) _ _ refl refl)

callable_element : (ls : List Layout) (t u : CType) (x y : Typing) (c : Constant) → is_callable (element_typing ls t u x y c).form (element_typing ls t u x y c).type ≡ true
callable_element ls t (pointer u) x y c = refl
callable_element ls t _ x y c = refl

pub if_settles : (test : Judgement → Bool) (b : Bool) (x y : Judgement) → Settles test x → Settles test y → Settles test (if b then x else y)
if_settles test true x y s u = s
if_settles test false x y s u = u

-- an expression of this kind and level, below a node of the kind `outer`
module _ (outer own : SynKind) (level : ℕ) where
  abbrev Test : Judgement → Bool
  Test j = fits outer own (category.expression level) j

  meant : (x : Typing) (h : ℕ) → is_callable x.form x.type ≡ true → Test (means (expresses x h)) ≡ true
  meant x h e = rw e refl

  pub expressed : (fs : List Fault) (x : Typing) (h : ℕ) → is_callable x.form x.type ≡ true → Settles Test (verdict fs (expresses x h))
  expressed fs x h e = verdict_settles Test fs (expresses x h) (meant x h e)

  prefix_settles : (p : Places) (js : List Judgement) (node : Node) (x : Typing) → Settles Test (prefix_step p js node x)
  unfolding prefix_step
  prefix_settles p js node x = expressed _ _ _ (callable_result x.type)

  pub postfix_settles : (p : Places) (js : List Judgement) (node : Node) (x : Typing) → Settles Test (postfix_step p js node x)
  unfolding postfix_step
  postfix_settles p js node x = expressed _ _ _ (callable_result x.type)

  pub binary_settles : (js : List Judgement) (node : Node) (x y : Typing) (o : Operator) → operator_of node.label.text ≡ Some o → Settles Test (binary_operator js node x y)
  unfolding binary_operator binary_by
  binary_settles js node x y o e = given_settles Test _ o _ e (expressed _ _ _ refl)

  pub subscript_settles : (js : List Judgement) (node : Node) (x y : Typing) → Settles Test (subscript js node x y)
  unfolding subscript
  subscript_settles js node x y =
      let t = unwrap_or (element_type (layouts js) (value_of x).type (value_of y).type) (value_of x).type in
      expressed _ _ _ (callable_element (layouts js) t (value_of y).type (value_of x) (value_of y) _)

  pub dot_settles : (js : List Judgement) (node : Node) (x : Typing) → Settles Test (dot js node x)
  unfolding dot
  dot_settles js node x = expressed _ _ _ (part x.form (unwrap_or (field_of (layouts js) x.type node.label.text) no_field).type)
    where
      part : (f : Form) (t : CType) → is_callable (member_form f) t ≡ true
      part temporary t = refl
      part _ t = refl

  pub arrow_settles : (js : List Judgement) (node : Node) (x : Typing) → Settles Test (arrow js node x)
  unfolding arrow
  arrow_settles js node x = expressed _ _ _ refl

  address_settles : (node : Node) (x : Typing) → Settles Test (address_operator node x)
  unfolding address_operator
  address_settles node x = expressed _ _ _ refl

  dereference_settles : (js : List Judgement) (node : Node) (t : CType) (v : Typing) → is_callable v.form v.type ≡ true → Settles Test (dereference js node t v)
  unfolding dereference
  dereference_settles js node (pointer t) v e = expressed _ _ _ refl
  dereference_settles js node _ v e = expressed (bad_operand false node.id) v 0 e

  sign_settles : (node : Node) (v : Typing) → Settles Test (sign_operator node v)
  unfolding sign_operator
  sign_settles node v = expressed _ _ _ (callable_sign node.id (promoted (integer_of v.type)) node.label.text v)

  not_settles : (node : Node) (v : Typing) → Settles Test (not_operator node v)
  unfolding not_operator
  not_settles node v = expressed _ _ _ refl

  pub unary_settles : (p : Places) (js : List Judgement) (node : Node) (x : Typing) → is_callable x.form x.type ≡ true → Settles Test (unary p js node x)
  unfolding unary
  unary_settles p js node x e =
      if_settles Test _ _ _ (address_settles node x) (
      if_settles Test _ _ _ (dereference_settles js node (value_of x).type (value_of x) (callable_value x e)) (
      if_settles Test _ _ _ (not_settles node (value_of x)) (
      if_settles Test _ _ _ (prefix_settles p js node x) (sign_settles node (value_of x)))))

  pub size_settles : (js : List Judgement) (t : CType) (n : ℕ) → Settles Test (measured_type js t n)
  unfolding measured_type
  size_settles js t n = expressed _ _ _ refl

  pub cast_settles : (node : Node) (t : CType) (v : Typing) → Settles Test (cast node t v)
  unfolding cast
  cast_settles node t v = expressed _ _ _ (callable_result t)

  pub conditional_settles : (js : List Judgement) (node : Node) (c x y : Typing) → Settles Test (conditional js node c x y)
  unfolding conditional
  conditional_settles js node c x y = expressed _ _ _ (callable_result (unwrap_or (choice_type (layouts js) x y) x.type))

  pub comma_settles : (x y : Typing) → Settles Test (comma x y)
  unfolding comma
  comma_settles x y = settled Test (comma x y) (meant (result y.type (seq x.code y.code) no_constant) 0 (callable_result y.type))

  assignment_settles : (js : List Judgement) (node : Node) (x y : Typing) → Settles Test (assignment js node x y)
  unfolding assignment
  assignment_settles js node x y = expressed _ _ _ (callable_result x.type)

  compound_settles : (p : Places) (js : List Judgement) (node : Node) (x y : Typing) (o : Operator) → Settles Test (compound_by p js node x y o)
  unfolding compound_by
  compound_settles p js node x y o = expressed _ _ _ (callable_result x.type)

  pub assign_settles : (p : Places) (js : List Judgement) (node : Node) (x y : Typing) → ((length node.label.text == 1) ≡ false → Has (operator_of (before_equal node.label.text))) → Settles Test (assign p js node x y)
  unfolding assign
  assign_settles p js node x y h = by (length node.label.text == 1) h
    where
      by : (b : Bool) → (b ≡ false → Has (operator_of (before_equal node.label.text)))
          → Settles Test (if b then assignment js node x y else given (operator_of (before_equal node.label.text)) (compound_by p js node x y))
      by true h = assignment_settles js node x y
      by false h = let o = h refl in given_settles Test _ o.value _ o.is (compound_settles p js node x y o.value)

  called_settles : (js : List Judgement) (node : Node) (c : Callee) (t : CType) → is_callable (callee c) t ≡ true → AllThere (map (typing_at js) (other_kids node)) → Settles Test (called js node c t)
  unfolding called
  called_settles js node c (function r ps) e there =
      let xs = all_there (map (typing_at js) (other_kids node)) there in
      let f : List Typing → Judgement = λ xs.
      let args = arguments (listed ps) (map value_of xs) (other_kids node) in
      verdict (argument_faults args) (expression (result r (call_code c (map passed args)) no_constant)) in
      let inner : Settles Test (given (all_of (map (typing_at js) (other_kids node))) f) =
      given_settles Test (all_of (map (typing_at js) (other_kids node))) xs.0 f xs.1 (expressed _ _ _ (callable_result r)) in
      besides_settles Test (wrong_number (length (listed ps)) (length (other_kids node)) node.id) _ (λ none. inner)
  called_settles js node c _ e there = absurd (true≢false (sym e))

  -- a call of a name of a function, and of anything else
  pub call_settles : (js : List Judgement) (node : Node) (f : Typing) → is_callable f.form f.type ≡ true → AllThere (map (typing_at js) (other_kids node)) → Settles Test (call_by js node f f.form)
  unfolding call_by
  call_settles js node f e there = by f.form e
    where
      by : (k : Form) → is_callable k f.type ≡ true → Settles Test (call_by js node f k)
      by (callee c) h = called_settles js node c f.type h there
      by _ h = expressed (not_a_function false node.id) f 0 e
