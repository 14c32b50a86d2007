-- Each expression of struct type has a struct that is complete.
use Rattle.std.proofs.Common.{◌≡◌, ℕ, zero, suc, ◌<◌, ◌≤◌, Bool, true, false, ◌||◌, List, [], ◌∷◌, ◌++◌, length, Option, Some, None, refl, sym, ap, ◌∙◌, subst, arith, true≢false, unwrap_or}
use Rattle.std.specs.Prelude.{slice_get, if◌then◌else◌, codes}
use Rattle.std.specs.Str.{bytes_eq}
use Rattle.c_lexer.specs.declared.token.Token.{Token}
use Rattle.c_syntax.specs.declared.kind.SynKind.{SynKind}
use Rattle.c_syntax.specs.declared.kind.SynKind.TheVariants as kind
use Rattle.c_syntax.specs.Trees.{Tree}
use Rattle.c_grammar.specs.Derivation.{IsTreeOf}
use Rattle.c_types.specs.declared.tree.Expr.{Expr}
use Rattle.c_typing.specs.Types.{CType, void, integer, pointer, array, unsized, struct, function, is_struct, is_function, target_of, has_size, int, IntegerType}
use Rattle.c_typing.specs.Places.{Node, nodes, kid}
use Rattle.c_typing.specs.Names.{places, Name, Entity, typedef_name, function_name, static_object, automatic, enumerator, parameter, denoted}
use Rattle.c_typing.specs.Judgements.{Callee, Form, value, in_local, in_memory, temporary, callee, Constant, no_constant, Typing, Meaning, fills_array, expresses, Judgement, means, judgement_at, typing_at, layouts}
use Rattle.c_typing.specs.Conversions.{value_of, result, result_type, choice_type, Operator, operator_of, is_castable}
use Rattle.c_typing.specs.Rules.{function_as_value, not_a_function}
use Rattle.c_typing.specs.Expressions.{type_of_name, word_of_enumerator, literal, variable_by, variable, prefix_step, postfix_step, element_type, element_typing, subscript, called, call_by, member_form, field_of, no_field, dot, arrow, address_operator, dereference, sign_typing, sign_operator, not_operator, unary, measured_type, cast, binary_by, binary_operator, conditional, comma, assignment, compound_by, assign, expression}
use Rattle.c_typing.specs.Initializers.{string, fills, target, literal_faults}
use Rattle.c_typing.specs.Typing.{in_parentheses, choice_node, judged_by, judgements_at, faults}
use Rattle.c_typing.proofs.ProgressDeclared.{begins_before}
use Rattle.c_typing.proofs.MadeJudged.{Yields, yields_verdict, yields_besides, yields_given, IsFront, Known, all_known}
use Rattle.c_typing.proofs.MadeNodes.{In}
use Rattle.c_typing.proofs.MadeForms.{is_active, is_passive_kind, yields_if, passive_row, paren_row, braces_row, struct_row}
use Rattle.c_typing.proofs.MadeParts.{typing_meant}
use Rattle.c_typing.proofs.MadePlaced.{numbered}
use Rattle.c_typing.proofs.MadeOthers.{is_statement_kind, statement_row, function_row}
use Rattle.c_typing.proofs.MadeStatements.{is_expression_kind}
use Rattle.c_typing.proofs.MadeObjects.{denoted_in}
use Rattle.c_typing.proofs.MadeTexts.{back_none}
use Rattle.c_typing.proofs.MadeKept.{is_object_entity}
use Rattle.c_typing.proofs.MadeCopiedSizes.{is_hollow}
use Rattle.c_typing.proofs.MadeCopiedMembers.{sized_on}
use Rattle.c_typing.proofs.MadeCopiedStructs.{members_sized}
use Rattle.c_typing.proofs.MadeCopiedForms.{Complete, Callable, kept_verdict, allowed, plain_form, complete_other, complete_function, complete_here, complete_cast, value_complete, result_complete, choice_complete, element_complete, field_complete}
use Rattle.c_typing.proofs.MadeCopiedNames.{object_complete, function_full, parameter_complete}

module _ (tokens : List Token) (t : Tree) (derived : IsTreeOf tokens t) (quiet : faults t ≡ []) where
  abbrev pub Holds : ℕ → Meaning → Type 0
  Holds n (expresses x h) = Complete (places t) n x.type × Callable x.form x.type
  Holds n m = Unit {0}

  free : (n : ℕ) (m : Meaning) → is_active m ≡ false → Holds n m
  free n (expresses x h) e = absurd (true≢false e)
  free n _ e = tt

  raised : (k n : ℕ) (u : CType) → k ≤ n → Complete (places t) k u → Complete (places t) n u
  raised k n (struct i) le h = sized_on (places t) k n (struct i) le h
  raised k n void le h = tt
  raised k n (integer i) le h = tt
  raised k n (pointer u) le h = tt
  raised k n (array u c) le h = tt
  raised k n (unsized u) le h = tt
  raised k n (function r ps) le h = tt

  pub below : (ks : List Judgement) (n : ℕ) (m : Meaning) → judgement_at ks n ≡ means m → n ≤ length ks
  below [] n m e = absurd (cc e)
  below (k ∷ ks) zero m e = omega arith
  below (k ∷ ks) (suc n) m e = let le = below ks n m e in omega (arith, le)

  module _ (js : List Judgement) (node : Node) (there : slice_get (nodes t) (length js) ≡ Some node) (front : IsFront (places t) js) (known : Known (places t) Holds js) where
    abbrev Q : Meaning → Type 0
    Q m = Holds (length js) m

    abbrev Fit : CType → Type 0
    Fit u = Complete (places t) (length js) u

    operand : (k : ℕ) (x : Typing) → typing_at js k ≡ Some x → Complete (places t) (length js) x.type × Callable x.form x.type
    operand k x e =
        let m = typing_meant (judgement_at js k) x e in
        let h = known k (expresses x m.0) m.1 in
        (raised k (length js) x.type (below js k (expresses x m.0) m.1) h.0, h.1)

    fit : (k : ℕ) (x : Typing) → typing_at js k ≡ Some x → Fit x.type
    fit k x e = (operand k x e).0

    fit_value : (k : ℕ) (x : Typing) → typing_at js k ≡ Some x → Fit (value_of x).type
    fit_value k x e = value_complete (places t) (length js) x (fit k x e)

    -- ---- names

    filled : Q fills_array
    filled = tt

    text_end : Q (expression (literal (places t) js node.label.bytes))
    text_end = (tt, tt)

    string_row : Yields Q (string (places t) js node)
    unfolding string
    string_row = yields_if Q (fills (target (places t) js node.id)) _ _ filled (yields_verdict Q (literal_faults node) _ text_end)

    before : (e : Name) → denoted (places t).names node.id node.label.text ≡ Some e → e.behind < length js
    before e d =
        let b = begins_before node.id node.label.text e (denoted_in (places t).names node.id node.label.text e d).1 in
        let own = numbered tokens t derived (length js) node there in
        omega (arith, b, own)

    among : (e : Name) → denoted (places t).names node.id node.label.text ≡ Some e → In e (places t).names
    among e d = (denoted_in (places t).names node.id node.label.text e d).0

    entity_row : (e : Name) → denoted (places t).names node.id node.label.text ≡ Some e → (y : Entity) → e.entity ≡ y → Yields Q (variable_by (places t) js node e y)
    unfolding variable_by
    entity_row e d typedef_name g = tt
    entity_row e d enumerator g = yields_given Q (word_of_enumerator (judgement_at js e.node)) _ (λ w h. (tt, tt))
    entity_row e d function_name g = yields_given Q (type_of_name js e) _ (λ u h. kept_verdict Q (function_as_value _ node.id ++ not_a_function (is_function u) node.id) (expression (record { type = u; form = callee _; code = _; constant = no_constant }))
        (λ none. (complete_function (places t) (length js) u (allowed (is_function u) 16 node.id (back_none (function_as_value _ node.id) (not_a_function (is_function u) node.id) none)), function_full tokens t derived quiet e (among e d) g js front (before e d) u h)))
    entity_row e d static_object g = yields_given Q (type_of_name js e) _ (λ u h. (object_complete tokens t derived quiet e (among e d) (ap (λ y. is_object_entity y) g) js front (before e d) u h, tt))
    entity_row e d automatic g = yields_given Q (type_of_name js e) _ (λ u h. (object_complete tokens t derived quiet e (among e d) (ap (λ y. is_object_entity y) g) js front (before e d) u h, tt))
    entity_row e d (parameter i) g = yields_given Q (type_of_name js e) _ (λ u h. (parameter_complete tokens t derived quiet e (among e d) i g js front u h, tt))

    variable_row : (o : Option Name) → denoted (places t).names node.id node.label.text ≡ o → Yields Q (variable (places t) js node o)
    unfolding variable
    variable_row None d = tt
    variable_row (Some e) d = entity_row e d e.entity refl

    -- ---- unary and postfix operators

    prefix_row : (x : Typing) → typing_at js (kid node 0) ≡ Some x → Yields Q (prefix_step (places t) js node x)
    unfolding prefix_step
    prefix_row x g = yields_verdict Q _ (expresses (record { type = x.type; form = _; code = _; constant = _ }) _) (fit (kid node 0) x g, plain_form x.type x.type)

    postfix_row : (x : Typing) → typing_at js (kid node 0) ≡ Some x → Yields Q (postfix_step (places t) js node x)
    unfolding postfix_step
    postfix_row x g = yields_verdict Q _ (expresses (record { type = x.type; form = _; code = _; constant = _ }) _) (fit (kid node 0) x g, plain_form x.type x.type)

    address_row : (x : Typing) → Yields Q (address_operator node x)
    unfolding address_operator
    address_row x = yields_verdict Q _ (expression (record { type = pointer x.type; form = value; code = _; constant = _ })) (tt, tt)

    dereference_row : (u : CType) (v : Typing) → Yields Q (dereference js node u v)
    unfolding dereference
    dereference_row (pointer u) v = kept_verdict Q _ (expression (record { type = u; form = in_memory; code = v.code; constant = no_constant })) (λ none. (complete_here (places t) (length js) js front refl u (allowed (has_size (layouts js) u) 5 node.id none), tt))
    dereference_row void v = tt
    dereference_row (integer k) v = tt
    dereference_row (array u n) v = tt
    dereference_row (unsized u) v = tt
    dereference_row (struct k) v = tt
    dereference_row (function r ps) v = tt

    not_row : (v : Typing) → Yields Q (not_operator node v)
    unfolding not_operator
    not_row v = yields_verdict Q _ (expression (record { type = integer int; form = value; code = _; constant = _ })) (tt, tt)

    sign_row : (v : Typing) → Yields Q (sign_operator node v)
    unfolding sign_operator
    sign_row v = yields_verdict Q _ (expression (sign_typing node.id _ node.label.text v)) (sign_good node.id _ node.label.text)
      where
        sign_good : (n : ℕ) (k : IntegerType) (text : List ℕ) → Complete (places t) (length js) (sign_typing n k text v).type × Callable (sign_typing n k text v).form (sign_typing n k text v).type
        sign_good n k text = by (bytes_eq text (codes "-")) refl
          where
            last : (b : Bool) → bytes_eq text (codes "~") ≡ b → bytes_eq text (codes "-") ≡ false → Complete (places t) (length js) (sign_typing n k text v).type × Callable (sign_typing n k text v).form (sign_typing n k text v).type
            last true e f = rw f (rw e (tt, tt))
            last false e f = rw f (rw e (tt, tt))

            by : (b : Bool) → bytes_eq text (codes "-") ≡ b → Complete (places t) (length js) (sign_typing n k text v).type × Callable (sign_typing n k text v).form (sign_typing n k text v).type
            by true e = rw e (tt, tt)
            by false e = last (bytes_eq text (codes "~")) refl e

    unary_row : (x : Typing) → typing_at js (kid node 0) ≡ Some x → Yields Q (unary (places t) js node x)
    unfolding unary
    unary_row x g =
        yields_if Q (bytes_eq node.label.text (codes "&")) _ (if bytes_eq node.label.text (codes "*") then dereference js node (value_of x).type (value_of x) else if bytes_eq node.label.text (codes "!") then not_operator node (value_of x) else if bytes_eq node.label.text (codes "++") || bytes_eq node.label.text (codes "--") then prefix_step (places t) js node x else sign_operator node (value_of x)) (address_row x)
        (yields_if Q (bytes_eq node.label.text (codes "*")) _ (if bytes_eq node.label.text (codes "!") then not_operator node (value_of x) else if bytes_eq node.label.text (codes "++") || bytes_eq node.label.text (codes "--") then prefix_step (places t) js node x else sign_operator node (value_of x)) (dereference_row (value_of x).type (value_of x))
        (yields_if Q (bytes_eq node.label.text (codes "!")) _ (if bytes_eq node.label.text (codes "++") || bytes_eq node.label.text (codes "--") then prefix_step (places t) js node x else sign_operator node (value_of x)) (not_row (value_of x))
        (yields_if Q (bytes_eq node.label.text (codes "++") || bytes_eq node.label.text (codes "--")) _ (sign_operator node (value_of x)) (prefix_row x g) (sign_row (value_of x)))))

    -- ---- operators of two operands

    element_form : (u v : CType) (a b : Typing) (d : Constant) → Fit u → Complete (places t) (length js) (element_typing (layouts js) u v a b d).type × Callable (element_typing (layouts js) u v a b d).form (element_typing (layouts js) u v a b d).type
    element_form u (pointer w) a b d h = (h, tt)
    element_form u v a b d h = (h, tt)

    subscript_row : (x y : Typing) → typing_at js (kid node 0) ≡ Some x → Yields Q (subscript js node x y)
    unfolding subscript
    subscript_row x y g = yields_verdict Q _ (expression (element_typing (layouts js) (unwrap_or (element_type (layouts js) (value_of x).type (value_of y).type) (value_of x).type) (value_of y).type (value_of x) (value_of y) _))
        (element_form (unwrap_or (element_type (layouts js) (value_of x).type (value_of y).type) (value_of x).type) (value_of y).type (value_of x) (value_of y) _
        (element_complete (places t) (length js) js front refl (value_of x).type (value_of x).type (value_of y).type (fit_value (kid node 0) x g)))

    binary_by_row : (x y : Typing) → typing_at js (kid node 0) ≡ Some x → (o : Operator) → Yields Q (binary_by js node (value_of x) (value_of y) o)
    unfolding binary_by
    binary_by_row x y g o = yields_verdict Q _ (expression (record { type = unwrap_or (result_type (layouts js) o.class (value_of x) (value_of y)) (value_of x).type; form = value; code = _; constant = _ }))
        (result_complete (places t) (length js) (layouts js) (value_of x).type (fit_value (kid node 0) x g) o.class (value_of x) (value_of y), tt)

    binary_row : (x y : Typing) → typing_at js (kid node 0) ≡ Some x → Yields Q (binary_operator js node (value_of x) (value_of y))
    unfolding binary_operator
    binary_row x y g = yields_given Q (operator_of node.label.text) (binary_by js node (value_of x) (value_of y)) (λ o h. binary_by_row x y g o)

    comma_row : (x y : Typing) → typing_at js (kid node 1) ≡ Some y → Yields Q (comma (value_of x) (value_of y))
    unfolding comma
    comma_row x y g = (fit_value (kid node 1) y g, plain_form (value_of y).type (value_of y).type)

    assignment_row : (x y : Typing) → typing_at js (kid node 0) ≡ Some x → Yields Q (assignment js node x (value_of y))
    unfolding assignment
    assignment_row x y g = yields_verdict Q _ (expression (record { type = x.type; form = _; code = _; constant = _ })) (fit (kid node 0) x g, plain_form x.type x.type)

    compound_row : (x y : Typing) → typing_at js (kid node 0) ≡ Some x → (o : Operator) → Yields Q (compound_by (places t) js node x (value_of y) o)
    unfolding compound_by
    compound_row x y g o = yields_verdict Q _ (expresses (record { type = x.type; form = _; code = _; constant = _ }) _) (fit (kid node 0) x g, plain_form x.type x.type)

    assign_row : (x y : Typing) → typing_at js (kid node 0) ≡ Some x → Yields Q (assign (places t) js node x (value_of y))
    unfolding assign
    assign_row x y g = search (yields_if, yields_given, assignment_row, compound_row)

    -- ---- the others

    conditional_row : (c x y : Typing) → Fit x.type → Fit y.type → Yields Q (conditional js node c x y)
    unfolding conditional
    conditional_row c x y h i = yields_verdict Q _ (expression (record { type = unwrap_or (choice_type (layouts js) x y) x.type; form = _; code = _; constant = _ })) (choice_complete (places t) (length js) (layouts js) x y h i, plain_form _ _)

    choice_row : Yields Q (choice_node js node)
    choice_row = yields_given Q (typing_at js (kid node 0)) _ (λ z f. yields_besides Q _ _ (yields_given Q (typing_at js (kid node 1)) _ (λ x g. yields_given Q (typing_at js (kid node 2)) (λ y. conditional js node (value_of z) (value_of x) (value_of y)) (λ y h.
        conditional_row (value_of z) (value_of x) (value_of y) (fit_value (kid node 1) x g) (fit_value (kid node 2) y h)))))

    member_plain : (f : Form) (u : CType) → Callable (member_form f) u
    member_plain temporary u = tt
    member_plain value u = tt
    member_plain (in_local k) u = tt
    member_plain in_memory u = tt
    member_plain (callee c) u = tt

    dot_row : (x : Typing) → Yields Q (dot js node x)
    unfolding dot
    dot_row x = yields_verdict Q _ (expression (record { type = (unwrap_or (field_of (layouts js) x.type node.label.text) no_field).type; form = member_form x.form; code = _; constant = _ }))
        (field_complete (places t) (length js) js front refl x.type node.label.text (members_sized tokens t derived quiet js front), member_plain x.form _)

    arrow_row : (x : Typing) → Yields Q (arrow js node x)
    unfolding arrow
    arrow_row x = yields_verdict Q _ (expression (record { type = (unwrap_or (field_of (layouts js) (target_of (value_of x).type) node.label.text) no_field).type; form = in_memory; code = _; constant = _ }))
        (field_complete (places t) (length js) js front refl (target_of (value_of x).type) node.label.text (members_sized tokens t derived quiet js front), tt)

    measured_row : (u : CType) (k : ℕ) → Yields Q (measured_type js u k)
    unfolding measured_type
    measured_row u k = yields_verdict Q _ (expression _) (tt, tt)

    cast_row : (u : CType) (v : Typing) → Yields Q (cast node u v)
    unfolding cast
    cast_row u v = kept_verdict Q _ (expression (record { type = u; form = _; code = _; constant = _ })) (λ none. (complete_cast (places t) (length js) u v.type (allowed (is_castable u v.type) 13 node.id none), plain_form u u))

    called_end : (r : CType) (c : Expr) → is_struct r ≡ false → Q (expression (result r c no_constant))
    called_end r c h = (complete_other (places t) (length js) r h, plain_form r r)

    called_row : (q : Callee) (u : CType) → is_hollow u ≡ false → Yields Q (called js node q u)
    unfolding called
    called_row q (function r ps) h = search (yields_besides, yields_given, yields_verdict, called_end, h)
    called_row q void h = tt
    called_row q (integer i) h = tt
    called_row q (pointer u) h = tt
    called_row q (array u n) h = tt
    called_row q (unsized u) h = tt
    called_row q (struct i) h = tt

    call_by_row : (f : Typing) (x : Form) → f.form ≡ x → typing_at js (kid node 0) ≡ Some f → Yields Q (call_by js node f x)
    unfolding call_by
    call_by_row f (callee q) h g = called_row q f.type (subst (λ y. Callable y f.type) h (operand (kid node 0) f g).1)
    call_by_row f value h g = tt
    call_by_row f (in_local k) h g = tt
    call_by_row f in_memory h g = tt
    call_by_row f temporary h g = tt

    paren : (o : Option Typing) → typing_at js (kid node 0) ≡ o → Yields Q (in_parentheses (places t) js node o)
    paren o g = paren_row Q (free (length js)) (λ ss. tt) (places t) js node o (λ x h. operand (kid node 0) x (g ∙ h))

    code_row : (k : SynKind) → node.label.kind ≡ k → is_expression_kind k ≡ true → Yields Q (judged_by (places t) js node k)
    unfolding judged_by
    code_row kind.Paren e h = paren (typing_at js (kid node 0)) refl
    code_row (kind.Int type) e h = (tt, tt)
    code_row kind.Char e h = (tt, tt)
    code_row kind.Str e h = string_row
    code_row kind.Var e h = variable_row (denoted (places t).names node.id node.label.text) refl
    code_row kind.Unary e h = yields_given Q (typing_at js (kid node 0)) (unary (places t) js node) (λ x g. unary_row x g)
    code_row kind.Post e h = yields_given Q (typing_at js (kid node 0)) (postfix_step (places t) js node) (λ x g. postfix_row x g)
    code_row kind.Binary e h = yields_given Q (typing_at js (kid node 0)) _ (λ x f. yields_given Q (typing_at js (kid node 1)) (λ y. binary_operator js node (value_of x) (value_of y)) (λ y g. binary_row x y f))
    code_row kind.Assign e h = yields_given Q (typing_at js (kid node 0)) _ (λ x f. yields_given Q (typing_at js (kid node 1)) (λ y. assign (places t) js node x (value_of y)) (λ y g. assign_row x y f))
    code_row kind.Cond e h = choice_row
    code_row kind.Comma e h = yields_given Q (typing_at js (kid node 0)) _ (λ x f. yields_given Q (typing_at js (kid node 1)) (λ y. comma (value_of x) (value_of y)) (λ y g. comma_row x y g))
    code_row kind.Index e h = yields_given Q (typing_at js (kid node 0)) _ (λ x f. yields_given Q (typing_at js (kid node 1)) (subscript js node x) (λ y g. subscript_row x y f))
    code_row kind.Call e h = yields_given Q (typing_at js (kid node 0)) (λ f. call_by js node f f.form) (λ f g. call_by_row f f.form refl g)
    code_row kind.Dot e h = yields_given Q (typing_at js (kid node 0)) (dot js node) (λ x g. dot_row x)
    code_row kind.Arrow e h = yields_given Q (typing_at js (kid node 0)) (arrow js node) (λ x g. arrow_row x)
    code_row kind.Cast e h = search (yields_given, cast_row)
    code_row kind.SizeExpr e h = search (yields_given, measured_row)
    code_row kind.SizeType e h = search (yields_given, measured_row)
    code_row k e h = absurd (true≢false (sym h))

    other_row : (k : SynKind) → node.label.kind ≡ k → (b : Bool) → is_expression_kind k ≡ b → (c : Bool) → is_statement_kind k ≡ c → b || (c || is_passive_kind k) ≡ true → Yields Q (judged_by (places t) js node k)
    other_row k is true e c f g = code_row k is e
    other_row k is false e true f g = statement_row Q (λ ss. tt) (λ u ss cs. tt) (λ w. tt) (places t) js node (λ q. function_row Q (λ h. tt) (places t) js node) k is f
    other_row k is false e false f g = passive_row Q (free (length js)) (λ ss. tt) (places t) js node k g

    row : (k : SynKind) → node.label.kind ≡ k → Yields Q (judged_by (places t) js node k)
    unfolding judged_by
    row kind.StructSpec is = struct_row (places t) js node Q (λ fields k. tt) (λ u. tt)
    row kind.Braces is = braces_row Q (λ n cs. tt) (places t) js node
    row k is = other_row k is (is_expression_kind k) refl (is_statement_kind k) refl refl

  pub all_complete : (n : ℕ) (x : Typing) (h : ℕ) → judgement_at (judgements_at (places t)) n ≡ means (expresses x h) → Complete (places t) n x.type
  all_complete n x h e = (all_known (places t) Holds (λ js node there front known. row js node there front known node.label.kind refl) n (expresses x h) e).0
