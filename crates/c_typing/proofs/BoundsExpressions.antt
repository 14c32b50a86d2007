-- The faults of expressions name rules and nodes that are there.
use Rattle.std.proofs.Common.{◌≡◌, ℕ, suc, ◌<◌, Bool, true, false, not, ◌||◌, List, [], ◌∷◌, ◌++◌, length, map, Option, Some, None, refl}
use Rattle.std.specs.Prelude.{slice_get, unwrap_or, if◌then◌else◌, codes, ◌==◌}
use Rattle.std.specs.Option.{is_some}
use Rattle.std.specs.Str.{bytes_eq}
use Rattle.c_types.specs.declared.tree.COp.{COp}
use Rattle.c_types.specs.declared.tree.COp.TheVariants as op
use Rattle.c_types.specs.Forms.{const, binary}
use Rattle.c_typing.specs.Types.{CType, integer, pointer, struct, function, is_array, is_integer, is_scalar, is_function, IntegerType, promoted, integer_of, target_of, listed, Layout, has_size, size_of, int}
use Rattle.c_typing.specs.Places.{Node, kid, other_kids}
use Rattle.c_typing.specs.Names.{object_number, local_number, Places, Name, Entity, typedef_name, function_name, static_object, automatic, parameter, enumerator}
use Rattle.c_typing.specs.Judgements.{judgement_at, no_constant, number, value, Fault, Typing, Form, in_local, in_memory, temporary, callee, Callee, Judgement, means, verdict, given, all_of, layouts, typing_at}
use Rattle.c_typing.specs.Conversions.{result, valued, signs, subtractive, value_of, is_castable, Operator, operator_of, result_type, choice_type, is_assignable}
use Rattle.c_typing.specs.Constants.{operated}
use Rattle.c_typing.specs.Rules.{is_in_local, incomplete_type, address_of_local, no_lvalue, is_lvalue, not_assignable, bad_operand, bad_conversion, wrong_number, not_a_function, function_as_value, big_struct}
use Rattle.c_typing.specs.Expressions.{callee_of, object_typing, local_typing, minus_one, expression, word_of_enumerator, type_of_name, variable_by, variable, step_faults, prefix_step, postfix_step, element_type, element_typing, subscript_constant, subscript, argument_faults, arguments, call_code, passed, called, call_by, field_of, no_field, dot, dereferenced_struct, arrow, address_operator, dereference, sign_operator, not_operator, unary, measured_type, cast, operator_with, binary_by, binary_operator, conditional, assignment, compound_by, assign, can_step, is_compound, is_called, number_of_type}
use Rattle.c_typing.proofs.BoundsBase.{AllProper, ConstantIn, JudgedIn, both_in, rule_in, means_in, breaks_in, waits_in, verdict_in, besides_in, given_in, value_in, operated_in, chosen_in, binary_in, cast_in, part_in, element_in, address_in_bounds}

module _ (N : ℕ) where
  first_faults : (fs gs : List Fault) → AllProper N fs → AllProper N gs → AllProper N (elim fs as (λ x. List Fault) [ [] ↦ gs | ◌∷◌ f rest ↦ f ∷ rest ])
  first_faults [] gs h k = k
  first_faults (f ∷ fs) gs h k = h

  step_in : (ls : List Layout) (x : Typing) (n : ℕ) → n < N → AllProper N (step_faults ls x n)
  step_in ls x n lt = first_faults (not_assignable x n) (bad_operand (can_step ls x.type) n) (rule_in N (not (is_lvalue x.form) || is_array x.type) 12 n refl lt) (rule_in N (not (can_step ls x.type)) 13 n refl lt)

  module _ (p : Places) (js : List Judgement) (node : Node) (own : node.id < N) (kids : (i : ℕ) → kid node i < N) where
    pub named_in : (o : Option Name) → JudgedIn N (variable p js node o)
    unfolding variable variable_by
    named_in None = breaks_in N 4 node.id refl own
    named_in (Some e) = by e.entity
      where
        by : (k : Entity) → JudgedIn N (variable_by p js node e k)
        by typedef_name = breaks_in N 4 node.id refl own
        by enumerator = given_in N (word_of_enumerator (judgement_at js e.node)) (λ w. means (expression (number_of_type int w))) (λ w same. means_in N _ tt)
        by function_name = given_in N (type_of_name js e) (λ t. function_meaning t) (λ t same. verdict_in N (function_faults t) _ (both_in N _ _ (rule_in N (not (is_called p (length p.nodes) node.id)) 25 node.id refl own) (rule_in N (not (is_function t)) 16 node.id refl own)) tt)
          where
            function_faults : CType → List Fault
            function_faults t = function_as_value (is_called p (length p.nodes) node.id) node.id ++ not_a_function (is_function t) node.id

            function_meaning : CType → Judgement
            function_meaning t = verdict (function_faults t) (expression (record { type = t; form = callee (callee_of p e.text); code = const 0; constant = no_constant }))
        by static_object = given_in N (type_of_name js e) (λ t. means (expression (object_typing t (object_number p e)))) (λ w same. means_in N _ tt)
        by automatic = given_in N (type_of_name js e) (λ t. means (expression (local_typing t (local_number p e)))) (λ w same. means_in N _ tt)
        by (parameter i) = given_in N (type_of_name js e) (λ t. means (expression (local_typing t (local_number p e)))) (λ w same. means_in N _ tt)

    prefix_in : (x : Typing) → JudgedIn N (prefix_step p js node x)
    unfolding prefix_step
    prefix_in x = verdict_in N _ _ (step_in (layouts js) x node.id own) tt

    pub postfix_in : (x : Typing) → JudgedIn N (postfix_step p js node x)
    unfolding postfix_step
    postfix_in x = verdict_in N _ _ (step_in (layouts js) x node.id own) tt

    pub subscript_in : (x y : Typing) → ConstantIn N x.constant → ConstantIn N y.constant → JudgedIn N (subscript js node x y)
    unfolding subscript
    subscript_in x y h k =
        let type = element_type (layouts js) (value_of x).type (value_of y).type in
        verdict_in N _ _ (rule_in N (not (is_some type)) 13 node.id refl own)
        (element (unwrap_or type (value_of x).type) (value_of y).type)
      where
        over_in : (z : Typing) → ConstantIn N z.constant → (b : Bool) → ConstantIn N (if b then z else value_of z).constant
        over_in z h true = h
        over_in z h false = value_in N z h

        element : (t u : CType) → ConstantIn N (element_typing (layouts js) t u (value_of x) (value_of y) (subscript_constant (size_of (layouts js) t) u (if is_array x.type then x else value_of x) (if is_array y.type then y else value_of y))).constant
        element t (pointer u) = element_in N (size_of (layouts js) t) _ _ (over_in y k (is_array y.type)) (over_in x h (is_array x.type))
        element t _ = element_in N (size_of (layouts js) t) _ _ (over_in x h (is_array x.type)) (over_in y k (is_array y.type))

    arguments_in : (ts : List CType) (xs : List Typing) (ns : List ℕ) → ((i k : ℕ) → slice_get ns i ≡ Some k → k < N) → AllProper N (argument_faults (arguments ts xs ns))
    arguments_in (t ∷ ts) (x ∷ xs) (n ∷ ns) h =
        both_in N _ _ (rule_in N (not (is_assignable t x)) 14 n refl (h 0 n refl)) (arguments_in ts xs ns (λ i k at. h (suc i) k at))
    arguments_in [] xs ns h = tt
    arguments_in (t ∷ ts) [] ns h = tt
    arguments_in (t ∷ ts) (x ∷ xs) [] h = tt

    called_in : ((i k : ℕ) → slice_get (other_kids node) i ≡ Some k → k < N) → (c : Callee) (t : CType) → JudgedIn N (called js node c t)
    unfolding called
    called_in h c (function r ps) =
        let f : List Typing → Judgement = λ xs.
        let args = arguments (listed ps) (map value_of xs) (other_kids node) in
        verdict (argument_faults args) (expression (result r (call_code c (map passed args)) no_constant)) in
        besides_in N (wrong_number (length (listed ps)) (length (other_kids node)) node.id) (given (all_of (map (typing_at js) (other_kids node))) f)
        (rule_in N (not (length (listed ps) == length (other_kids node))) 15 node.id refl own)
        (given_in N (all_of (map (typing_at js) (other_kids node))) f (λ xs same. verdict_in N _ _ (arguments_in (listed ps) (map value_of xs) (other_kids node) h) tt))
    called_in h c _ = waits_in N

    pub call_in : ((i k : ℕ) → slice_get (other_kids node) i ≡ Some k → k < N) → (f : Typing) → JudgedIn N (call_by js node f f.form)
    unfolding call_by
    call_in h f = by f.form
      where
        by : (k : Form) → JudgedIn N (call_by js node f k)
        by (callee c) = called_in h c f.type
        by _ = breaks_in N 16 node.id refl own

    pub dot_in : (x : Typing) → ConstantIn N x.constant → JudgedIn N (dot js node x)
    unfolding dot
    dot_in x h =
        let field = field_of (layouts js) x.type node.label.text in
        verdict_in N _ _ (rule_in N (not (is_some field)) 6 node.id refl own) (part_in N (unwrap_or field no_field).offset x.constant h)

    pub arrow_in : (x : Typing) → JudgedIn N (arrow js node x)
    unfolding arrow
    arrow_in x =
        let v = value_of x in
        verdict_in N _ _ (both_in N _ _ (rule_in N (not (is_some (field_of (layouts js) (target_of v.type) node.label.text))) 6 node.id refl own) (by v.type)) tt
      where
        by : (t : CType) → AllProper N (dereferenced_struct (layouts js) t node.id)
        by (pointer (struct k)) = rule_in N (not (has_size (layouts js) (struct k))) 5 node.id refl own
        by (pointer _) = tt
        by _ = tt

    address_in_place : (x : Typing) → ConstantIn N x.constant → JudgedIn N (address_operator node x)
    unfolding address_operator
    address_in_place x h = verdict_in N _ _ (by x.form) (address_in_bounds N x.constant h)
      where
        by : (f : Form) → AllProper N (elim f as (λ z. List Fault) [ in_local k ↦ address_of_local x.form node.id | value ↦ no_lvalue value node.id | in_memory ↦ no_lvalue in_memory node.id | temporary ↦ no_lvalue temporary node.id | callee c ↦ no_lvalue (callee c) node.id ])
        by (in_local k) = rule_in N (is_in_local x.form) 11 node.id refl own
        by value = rule_in N true 12 node.id refl own
        by in_memory = tt
        by temporary = rule_in N true 12 node.id refl own
        by (callee c) = rule_in N true 12 node.id refl own

    dereference_in : (t : CType) (v : Typing) → ConstantIn N v.constant → JudgedIn N (dereference js node t v)
    unfolding dereference
    dereference_in (pointer t) v h = verdict_in N (incomplete_type (layouts js) t node.id) _ (rule_in N (not (has_size (layouts js) t)) 5 node.id refl own) tt
    dereference_in _ v h = breaks_in N 13 node.id refl own

    sign_in : (v : Typing) → ConstantIn N v.constant → JudgedIn N (sign_operator node v)
    unfolding sign_operator
    sign_in v h = verdict_in N _ _ (rule_in N (not (is_integer v.type)) 13 node.id refl own) (by (bytes_eq node.label.text (codes "-")) (bytes_eq node.label.text (codes "~")))
      where
        k : IntegerType
        k = promoted (integer_of v.type)

        minus : COp
        minus = signs [] k (record { text = codes "-"; class = subtractive; signed = op.SubS; unsigned = op.SubU })

        by : (b c : Bool) → ConstantIn N (if b then valued (integer k) (binary minus (const 0) v.code) (operated minus node.id (number 0) v.constant)
            else if c then valued (integer k) (binary op.Xor v.code (const minus_one)) (operated op.Xor node.id v.constant (number minus_one)) else valued (integer k) v.code v.constant).constant
        by true c = operated_in N minus node.id (number 0) v.constant own tt h
        by false true = operated_in N op.Xor node.id v.constant (number minus_one) own h tt
        by false false = h

    not_in : (v : Typing) → ConstantIn N v.constant → JudgedIn N (not_operator node v)
    unfolding not_operator
    not_in v h = verdict_in N _ _ (rule_in N (not (is_scalar v.type)) 13 node.id refl own) (operated_in N op.Eq node.id v.constant (number 0) own h tt)

    if_judged : (b : Bool) (x y : Judgement) → JudgedIn N x → JudgedIn N y → JudgedIn N (if b then x else y)
    if_judged true x y h k = h
    if_judged false x y h k = k

    pub unary_in : (x : Typing) → ConstantIn N x.constant → JudgedIn N (unary p js node x)
    unfolding unary
    unary_in x h =
        let v = value_in N x h in
        if_judged _ _ _ (address_in_place x h) (if_judged _ _ _ (dereference_in (value_of x).type (value_of x) v) (
        if_judged _ _ _ (not_in (value_of x) v) (if_judged _ _ _ (prefix_in x) (sign_in (value_of x) v))))

    pub measured_in : (t : CType) (n : ℕ) → n < N → JudgedIn N (measured_type js t n)
    unfolding measured_type
    measured_in t n lt = verdict_in N _ _ (rule_in N (not (has_size (layouts js) t)) 5 n refl lt) tt

    pub cast_judged : (t : CType) (v : Typing) → ConstantIn N v.constant → JudgedIn N (cast node t v)
    unfolding cast
    cast_judged t v h = verdict_in N _ _ (rule_in N (not (is_castable t v.type)) 13 node.id refl own) (cast_in N t v.type v.constant h)

    operator_in : (x y : Typing) → ConstantIn N x.constant → ConstantIn N y.constant → (o : Operator) → JudgedIn N (binary_by js node x y o)
    unfolding binary_by
    operator_in x y h k o =
        verdict_in N _ _ (rule_in N (not (is_some (result_type (layouts js) o.class x y))) 13 node.id refl own)
        (binary_in N (layouts js) (operator_with o o.class x.type y.type) node.id o.class x.type y.type x.constant y.constant own h k)

    pub binary_judged : (x y : Typing) → ConstantIn N x.constant → ConstantIn N y.constant → JudgedIn N (binary_operator js node x y)
    unfolding binary_operator
    binary_judged x y h k = given_in N (operator_of node.label.text) (binary_by js node x y) (λ o same. operator_in x y h k o)

    pub conditional_in : (c x y : Typing) → ConstantIn N c.constant → ConstantIn N x.constant → ConstantIn N y.constant → JudgedIn N (conditional js node c x y)
    unfolding conditional
    conditional_in c x y h i k = verdict_in N _ _ (rule_in N (not (is_some (choice_type (layouts js) x y))) 13 node.id refl own) (chosen_in N c.constant x.constant y.constant h i k)

    assignment_in : (x y : Typing) → JudgedIn N (assignment js node x y)
    unfolding assignment
    assignment_in x y = verdict_in N _ _ (first_faults (not_assignable x node.id) (bad_conversion x.type y (kid node 1) ++ big_struct (layouts js) x.type node.id)
        (rule_in N (not (is_lvalue x.form) || is_array x.type) 12 node.id refl own)
        (both_in N _ _ (rule_in N (not (is_assignable x.type y)) 14 (kid node 1) refl (kids 1)) (rule_in N _ 27 node.id refl own))) tt

    compound_in : (x y : Typing) (o : Operator) → JudgedIn N (compound_by p js node x y o)
    unfolding compound_by
    compound_in x y o = verdict_in N _ _ (first_faults (not_assignable x node.id) (bad_operand (is_compound (layouts js) o x y) node.id)
        (rule_in N (not (is_lvalue x.form) || is_array x.type) 12 node.id refl own) (rule_in N (not (is_compound (layouts js) o x y)) 13 node.id refl own)) tt

    pub assign_in : (x y : Typing) → JudgedIn N (assign p js node x y)
    unfolding assign
    assign_in x y = if_judged _ _ _ (assignment_in x y) (given_in N _ _ (λ o same. compound_in x y o))
