-- Each address in the data has four bytes, and is that of an object.
use Rattle.std.proofs.Common.{◌≡◌, ℕ, ◌<◌, Bool, true, false, ◌||◌, List, [], ◌∷◌, length, map, Option, Some, None, refl, sym, ap, ◌∙◌, arith, true≢false, unwrap_or}
use Rattle.std.specs.Prelude.{slice_get, if◌then◌else◌, flat_map, codes}
use Rattle.std.specs.List.{AllByRecursion, range_with_len}
use Rattle.std.specs.Str.{bytes_eq}
use Rattle.c_lexer.specs.declared.token.Token.{Token}
use Rattle.c_syntax.specs.declared.kind.SynKind.{SynKind}
use Rattle.c_syntax.specs.declared.kind.SynKind.TheVariants as kind
use Rattle.c_syntax.specs.Trees.{Tree}
use Rattle.c_grammar.specs.Derivation.{IsTreeOf}
use Rattle.c_types.specs.declared.tree.COp.TheVariants as op
use Rattle.c_types.specs.declared.tree.Expr.{Expr}
use Rattle.c_types.specs.declared.tree.Cell.{Cell}
use Rattle.c_types.specs.declared.tree.Object.{Object}
use Rattle.c_types.specs.declared.tree.Stmt.{Stmt}
use Rattle.c_types.specs.Forms.{const, choose}
use Rattle.c_types.specs.WellMade.{AddressFits, InEveryCell}
use Rattle.c_typing.specs.Types.{CType, void, integer, pointer, array, unsized, struct, function, IntegerType, int, promoted, integer_of, target_of, Layout}
use Rattle.c_typing.specs.Places.{Node, nodes, kid, has_kid, is_whole, is_string}
use Rattle.c_typing.specs.Names.{places, Name, Entity, typedef_name, function_name, static_object, enumerator, is_static, denoted, objects_of}
use Rattle.c_typing.specs.Judgements.{Callee, Form, callee, Constant, no_constant, number, Typing, Fault, Meaning, fills_array, expresses, initialized, initial, declares, Judgement, means, verdict, judgement_at, typing_at, type_at, layouts, all_of}
use Rattle.c_typing.specs.Conversions.{valued, value_of, result, Operator, operator_of}
use Rattle.c_typing.specs.Rules.{bad_initializer}
use Rattle.c_typing.specs.Constants.{operated, chosen_constant, binary_constant, cast_constant, part_at, address_constant}
use Rattle.c_typing.specs.Expressions.{literal, expression, type_of_name, word_of_enumerator, field_of, no_field, element_typing, variable_by, variable, prefix_step, postfix_step, subscript_constant, subscript, called, call_by, member_typing, dot, arrow, address_operator, dereference, sign_typing, sign_operator, not_operator, unary, measured_type, cast, operator_with, binary_by, binary_operator, conditional, comma, assignment, compound_by, assign}
use Rattle.c_typing.specs.Initializers.{braces_by, target, fills, literal_faults, string, Part, part_for, kid_part, is_static_name, init_around, count_in, braces_for, braces, initialized_object, init_by, init_declarator, is_object, bare_code}
use Rattle.c_typing.specs.Shapes as category
use Rattle.c_typing.specs.ShapesOfNodes.{category_at}
use Rattle.c_typing.specs.Typing.{in_parentheses, choice_node, judged_by, judgements_at, data_of, object_of, cells_in, declarations_of, literal_object, literals_of, unit_in}
use Rattle.c_typing.proofs.MadeJudged.{Yields, yields_verdict, yields_besides, yields_given, IsFront, Known, all_known, meant_later}
use Rattle.c_typing.proofs.MadeForms.{is_active, is_passive_kind, yields_if, passive_row, struct_row}
use Rattle.c_typing.proofs.MadeForms.{paren_row as in_paren}
use Rattle.c_typing.proofs.MadeParts.{typing_meant, all_parts}
use Rattle.c_typing.proofs.MadeDefined.{Clean}
use Rattle.c_typing.proofs.MadeOthers.{is_statement_kind, statement_kind_row, function_row}
use Rattle.c_typing.proofs.MadeStatements.{is_expression_kind}
use Rattle.c_typing.proofs.MadeObjects.{data_length, literal_below, object_below}
use Rattle.c_typing.proofs.MadeTexts.{front_none}
use Rattle.c_typing.proofs.MadeCells.{all_joint}
use Rattle.c_typing.proofs.MadeAddressesCells.{Okay, CellFits, PartGood, text_good, all_cells, for_good, kid_good}
use Rattle.c_typing.proofs.MadeConstants.{value_fits, operated_fits, chosen_fits, binary_fits, cast_fits, part_fits, element_fits, address_fits}

module _ (tokens : List Token) (t : Tree) (derived : IsTreeOf tokens t) (ok : Clean t)
    (meant : (n : ℕ) (node : Node) → slice_get (nodes t) n ≡ Some node → category_at t n ≡ category.declarator → is_whole (nodes t) node ≡ true → (u : CType) × (judgement_at (judgements_at (places t)) n ≡ means (declares u))) where
  abbrev Count : ℕ
  Count = length (data_of (places t) (judgements_at (places t)))

  abbrev final : ℕ → Judgement
  final n = judgement_at (judgements_at (places t)) n

  abbrev Holds : ℕ → Meaning → Type 0
  Holds n (expresses x h) = final n ≡ means (expresses x h) → Okay t x.constant
  Holds n (initialized u ss cs) = AllByRecursion (CellFits t) cs
  Holds n (initial k cs) = AllByRecursion (CellFits t) cs
  Holds n m = Unit {0}

  below_all : (o : ℕ) → o < length (objects_of (places t)) → o < length (data_of (places t) (judgements_at (places t)))
  below_all o lt = let long = data_length (places t) (judgements_at (places t)) in omega (arith, lt, long)

  module _ (js : List Judgement) (node : Node) (there : slice_get (nodes t) (length js) ≡ Some node) (front : IsFront (places t) js) (known : Known (places t) Holds js) where
    later : (k : ℕ) (m : Meaning) → judgement_at js k ≡ means m → final k ≡ means m
    later k m e = ap (λ q. judgement_at q k) front.1 ∙ meant_later js front.0 k m e

    at_kid : (k : ℕ) (x : Typing) → typing_at js k ≡ Some x → Okay t x.constant
    at_kid k x e = let m = typing_meant (judgement_at js k) x e in known k (expresses x m.0) m.1 (later k (expresses x m.0) m.1)

    value_at : (k : ℕ) (x : Typing) → typing_at js k ≡ Some x → Okay t (value_of x).constant
    value_at k x e = value_fits (length (data_of (places t) (judgements_at (places t)))) x (at_kid k x e)

    cells_at : (n k : ℕ) (cs : List Cell) → judgement_at js n ≡ means (initial k cs) → AllByRecursion (CellFits t) cs
    cells_at n k cs e = known n (initial k cs) e

    -- ---- what may name an object

    text_end : node.label.kind ≡ kind.Str → Holds (length js) (expression (literal (places t) js node.label.bytes))
    text_end e j =
        let a = literal_below (places t) js node (literal (places t) js node.label.bytes) 0 there (ap is_string e) front j in
        let long = data_length (places t) (judgements_at (places t)) in
        omega (arith, a, long)

    filled : Holds (length js) fills_array
    filled = tt

    string_row : node.label.kind ≡ kind.Str → Yields (Holds (length js)) (string (places t) js node)
    unfolding string
    string_row e = yields_if (Holds (length js)) (fills (target (places t) js node.id)) _ _ filled (yields_verdict (Holds (length js)) (literal_faults node) _ (text_end e))

    entity_row : node.label.kind ≡ kind.Var → (e : Name) → denoted (places t).names node.id node.label.text ≡ Some e → (y : Entity) → e.entity ≡ y → Yields (Holds (length js)) (variable_by (places t) js node e y)
    unfolding variable_by
    entity_row is e d typedef_name g = tt
    entity_row is e d enumerator g = yields_given (Holds (length js)) (word_of_enumerator (judgement_at js e.node)) _ (λ w h j. tt)
    entity_row is e d function_name g = yields_given (Holds (length js)) (type_of_name js e) _ (λ u h. yields_verdict (Holds (length js)) _ (expression (record { type = u; form = callee _; code = const 0; constant = no_constant })) (λ j. tt))
    entity_row is e d static_object g = yields_given (Holds (length js)) (type_of_name js e) _ (λ u h j. below_all _ (object_below tokens t derived ok meant (length js) node e there is d g))
    entity_row is e d _ g = yields_given (Holds (length js)) (type_of_name js e) _ (λ u h j. tt)

    variable_row : node.label.kind ≡ kind.Var → (o : Option Name) → denoted (places t).names node.id node.label.text ≡ o → Yields (Holds (length js)) (variable (places t) js node o)
    unfolding variable
    variable_row is None d = tt
    variable_row is (Some e) d = entity_row is e d e.entity refl

    postfix_row : (x : Typing) → Yields (Holds (length js)) (postfix_step (places t) js node x)
    unfolding postfix_step
    postfix_row x = yields_verdict (Holds (length js)) _ (expresses (result x.type _ no_constant) _) (λ j. tt)

    prefix_row : (x : Typing) → Yields (Holds (length js)) (prefix_step (places t) js node x)
    unfolding prefix_step
    prefix_row x = yields_verdict (Holds (length js)) _ (expresses (result x.type _ no_constant) _) (λ j. tt)

    address_row : (x : Typing) → Okay t x.constant → Yields (Holds (length js)) (address_operator node x)
    unfolding address_operator
    address_row x h = yields_verdict (Holds (length js)) _ (expression (valued (pointer x.type) x.code (address_constant x.constant))) (λ j. address_fits (length (data_of (places t) (judgements_at (places t)))) x.constant h)

    dereference_row : (u : CType) (v : Typing) → Yields (Holds (length js)) (dereference js node u v)
    unfolding dereference
    dereference_row (pointer u) v = yields_verdict (Holds (length js)) _ (expression (record { type = u; form = Form.in_memory; code = v.code; constant = no_constant })) (λ j. tt)
    dereference_row void v = tt
    dereference_row (integer k) v = tt
    dereference_row (array u n) v = tt
    dereference_row (unsized u) v = tt
    dereference_row (struct k) v = tt
    dereference_row (function r ps) v = tt

    not_row : (v : Typing) → Yields (Holds (length js)) (not_operator node v)
    unfolding not_operator
    not_row v = yields_verdict (Holds (length js)) _ (expression (valued (integer int) _ (operated op.Eq node.id v.constant (number 0)))) (λ j. operated_fits (length (data_of (places t) (judgements_at (places t)))) op.Eq node.id v.constant (number 0))

    sign_good : (n : ℕ) (k : IntegerType) (text : List ℕ) (v : Typing) → Okay t v.constant → Okay t (sign_typing n k text v).constant
    sign_good n k text v h = by (bytes_eq text (codes "-")) refl
      where
        last : (b : Bool) → bytes_eq text (codes "~") ≡ b → bytes_eq text (codes "-") ≡ false → Okay t (sign_typing n k text v).constant
        last true e f = rw f (rw e (operated_fits (length (data_of (places t) (judgements_at (places t)))) op.Xor n v.constant _))
        last false e f = rw f (rw e h)

        by : (b : Bool) → bytes_eq text (codes "-") ≡ b → Okay t (sign_typing n k text v).constant
        by true e = rw e (operated_fits (length (data_of (places t) (judgements_at (places t)))) _ n (number 0) v.constant)
        by false e = last (bytes_eq text (codes "~")) refl e

    sign_row : (v : Typing) → Okay t v.constant → Yields (Holds (length js)) (sign_operator node v)
    unfolding sign_operator
    sign_row v h = yields_verdict (Holds (length js)) _ (expression (sign_typing node.id (promoted (integer_of v.type)) node.label.text v)) (λ j. sign_good node.id (promoted (integer_of v.type)) node.label.text v h)

    unary_row : (x : Typing) → Okay t x.constant → Okay t (value_of x).constant → Yields (Holds (length js)) (unary (places t) js node x)
    unfolding unary
    unary_row x h g =
        let a = address_row x h in
        let s = sign_row (value_of x) g in
        search (yields_if, a, dereference_row, not_row, prefix_row, s) depth 8

    binary_by_row : (x y : Typing) → Okay t x.constant → Okay t y.constant → (o : Operator) → Yields (Holds (length js)) (binary_by js node x y o)
    unfolding binary_by
    binary_by_row x y h g o = yields_verdict (Holds (length js)) _ (expression (valued _ _ (binary_constant (layouts js) (operator_with o o.class x.type y.type) node.id o.class x.type y.type x.constant y.constant)))
        (λ j. binary_fits (length (data_of (places t) (judgements_at (places t)))) (layouts js) (operator_with o o.class x.type y.type) node.id o.class x.type y.type x.constant y.constant h g)

    binary_row : (x y : Typing) → Okay t x.constant → Okay t y.constant → Yields (Holds (length js)) (binary_operator js node x y)
    unfolding binary_operator
    binary_row x y h g = yields_given (Holds (length js)) (operator_of node.label.text) (binary_by js node x y) (λ o e. binary_by_row x y h g o)

    comma_row : (x y : Typing) → Yields (Holds (length js)) (comma x y)
    unfolding comma
    comma_row x y j = tt

    assignment_row : (x y : Typing) → Yields (Holds (length js)) (assignment js node x y)
    unfolding assignment
    assignment_row x y = yields_verdict (Holds (length js)) _ (expression (result x.type _ no_constant)) (λ j. tt)

    compound_row : (x y : Typing) (o : Operator) → Yields (Holds (length js)) (compound_by (places t) js node x y o)
    unfolding compound_by
    compound_row x y o = yields_verdict (Holds (length js)) _ (expresses (result x.type _ no_constant) _) (λ j. tt)

    assign_row : (x y : Typing) → Yields (Holds (length js)) (assign (places t) js node x y)
    unfolding assign
    assign_row x y = search (yields_if, yields_given, assignment_row, compound_row)

    choice_row : Yields (Holds (length js)) (choice_node js node)
    unfolding conditional
    choice_row = yields_given (Holds (length js)) (typing_at js (kid node 0)) _ (λ z f. yields_besides (Holds (length js)) _ _ (yields_given (Holds (length js)) (typing_at js (kid node 1)) _ (λ x g. yields_given (Holds (length js)) (typing_at js (kid node 2)) (λ y. conditional js node (value_of z) (value_of x) (value_of y)) (λ y h.
        yields_verdict (Holds (length js)) _ (expression (result _ (choose (value_of z).code (value_of x).code (value_of y).code) (chosen_constant (value_of z).constant (value_of x).constant (value_of y).constant)))
        (λ j. chosen_fits (length (data_of (places t) (judgements_at (places t)))) (value_of z).constant (value_of x).constant (value_of y).constant (value_at (kid node 1) x g) (value_at (kid node 2) y h))))))

    dot_row : (x : Typing) → Okay t x.constant → Yields (Holds (length js)) (dot js node x)
    unfolding dot
    dot_row x h = yields_verdict (Holds (length js)) _ (expression (member_typing _ x.code (unwrap_or (field_of (layouts js) x.type node.label.text) no_field) (part_at _ x.constant))) (λ j. part_fits (length (data_of (places t) (judgements_at (places t)))) _ x.constant h)

    arrow_row : (x : Typing) → Yields (Holds (length js)) (arrow js node x)
    unfolding arrow
    arrow_row x = yields_verdict (Holds (length js)) _ (expression (member_typing Form.in_memory (value_of x).code (unwrap_or (field_of (layouts js) (target_of (value_of x).type) node.label.text) no_field) no_constant)) (λ j. tt)

    measured_row : (u : CType) (k : ℕ) → Yields (Holds (length js)) (measured_type js u k)
    unfolding measured_type
    measured_row u k = yields_verdict (Holds (length js)) _ (expression _) (λ j. tt)

    cast_row : (u : CType) (v : Typing) → Okay t v.constant → Yields (Holds (length js)) (cast node u v)
    unfolding cast
    cast_row u v h = yields_verdict (Holds (length js)) _ (expression (result u _ (cast_constant u v.type v.constant))) (λ j. cast_fits (length (data_of (places t) (judgements_at (places t)))) u v.type v.constant h)

    plain_result : (u : CType) (e : Expr) → Holds (length js) (expression (result u e no_constant))
    plain_result u e j = tt

    called_row : (q : Callee) (u : CType) → Yields (Holds (length js)) (called js node q u)
    unfolding called
    called_row q (function r ps) = search (yields_besides, yields_given, yields_verdict, plain_result)
    called_row q void = tt
    called_row q (integer i) = tt
    called_row q (pointer u) = tt
    called_row q (array u n) = tt
    called_row q (unsized u) = tt
    called_row q (struct i) = tt

    call_by_row : (f : Typing) (x : Form) → Yields (Holds (length js)) (call_by js node f x)
    unfolding call_by
    call_by_row f (callee q) = called_row q f.type
    call_by_row f Form.value = tt
    call_by_row f (Form.in_local k) = tt
    call_by_row f Form.in_memory = tt
    call_by_row f Form.temporary = tt

    free : (m : Meaning) → is_active m ≡ false → Holds (length js) m
    free (expresses x h) q = absurd (true≢false q)
    free (initialized u ss cs) q = absurd (true≢false q)
    free (initial k cs) q = absurd (true≢false q)
    free _ q = tt

    verdict_kept : (fs : List Fault) (m : Meaning) → (fs ≡ [] → Holds (length js) m) → Yields (Holds (length js)) (verdict fs m)
    verdict_kept [] m h = h refl
    verdict_kept (f ∷ fs) m h = tt

    braces_for_row : (u : CType) → Yields (Holds (length js)) (braces_for (places t) js node u)
    unfolding braces_for
    braces_for_row u = yields_besides (Holds (length js)) _ _ (yields_given (Holds (length js)) (all_of (map (kid_part (places t) js (is_static_name (init_around (places t) node)) u node) (range_with_len 0 (length node.kids)))) _ (λ parts g.
        verdict_kept (flat_map (λ (q : Part). q.faults) parts) (initial (count_in (places t) u node) (flat_map (λ (q : Part). q.cells) parts))
        (all_cells t parts (all_parts (kid_part (places t) js (is_static_name (init_around (places t) node)) u node) (PartGood t) (range_with_len 0 (length node.kids)) parts (λ i q h e. kid_good t js value_at cells_at node (is_static_name (init_around (places t) node)) u i q e) g))))

    nothing : (n : ℕ) → Holds (length js) (initial n [])
    nothing n = tt

    braces_row : Yields (Holds (length js)) (braces (places t) js node)
    unfolding braces
    braces_row = by (target (places t) js node.id)
      where
        by : (o : Option CType) → Yields (Holds (length js)) (braces_by (places t) js node o)
        by None = nothing 0
        by (Some u) = braces_for_row u

    object_row : (n : ℕ) (e : Name) (u : CType) (q : Part) → PartGood t q → Yields (Holds (length js)) (initialized_object (places t) js n e u q)
    unfolding initialized_object
    object_row n e u q h = verdict_kept _ (initialized _ _ q.cells) (λ g. h (front_none q.faults _ g))

    bare : (u : CType) (ss : List Stmt) → Holds (length js) (initialized u ss [])
    bare u ss = tt

    init_by_row : (u : CType) (e : Name) → Yields (Holds (length js)) (init_by (places t) js node u e)
    unfolding init_by
    init_by_row u e = yields_if (Holds (length js)) (has_kid node 1) _ (means (initialized u (bare_code (places t) e e.entity) []))
        (yields_if (Holds (length js)) (is_object e.entity) _ (verdict (bad_initializer true (kid node 1)) (initialized u [] [])) (yields_given (Holds (length js)) (part_for (places t) js (is_static e.entity) false u (kid node 1)) (initialized_object (places t) js (kid node 1) e u) (λ q g. object_row (kid node 1) e u q (for_good t js value_at cells_at (is_static e.entity) false u (kid node 1) q g))) tt) tt

    init_row : Yields (Holds (length js)) (init_declarator (places t) js node)
    unfolding init_declarator
    init_row = search (yields_given, init_by_row)

    -- ---- all of them

    if_typing : (b : Bool) (x y : Typing) → Okay t x.constant → Okay t y.constant → Okay t (if b then x else y).constant
    if_typing true x y h g = h
    if_typing false x y h g = g

    subscript_good : (size : ℕ) (u : CType) (x y : Typing) → Okay t x.constant → Okay t y.constant → Okay t (subscript_constant size u x y)
    subscript_good size (pointer u) x y h g = element_fits (length (data_of (places t) (judgements_at (places t)))) size y.constant x.constant g
    subscript_good size u x y h g = element_fits (length (data_of (places t) (judgements_at (places t)))) size x.constant y.constant h

    element_good : (ls : List Layout) (w u : CType) (x y : Typing) (c : Constant) → Okay t c → Holds (length js) (expression (element_typing ls w u x y c))
    element_good ls w (pointer u) x y c h j = h
    element_good ls w u x y c h j = h

    subscript_row : (x y : Typing) → Okay t x.constant → Okay t (value_of x).constant → Okay t y.constant → Okay t (value_of y).constant → Yields (Holds (length js)) (subscript js node x y)
    unfolding subscript
    subscript_row x y h hv g gv = search (yields_verdict, element_good, subscript_good, if_typing)

    paren_row : (o : Option Typing) → typing_at js (kid node 0) ≡ o → Yields (Holds (length js)) (in_parentheses (places t) js node o)
    paren_row o g = in_paren (Holds (length js)) (λ m h. free m h) (λ ss. tt) (places t) js node o (λ x h j. at_kid (kid node 0) x (g ∙ h))

    code_row : (k : SynKind) → node.label.kind ≡ k → is_expression_kind k ≡ true → Yields (Holds (length js)) (judged_by (places t) js node k)
    unfolding judged_by
    code_row kind.Paren e h = paren_row (typing_at js (kid node 0)) refl
    code_row (kind.Int type) e h = λ j. tt
    code_row kind.Char e h = λ j. tt
    code_row kind.Str e h = string_row e
    code_row kind.Var e h = variable_row e (denoted (places t).names node.id node.label.text) refl
    code_row kind.Unary e h = yields_given (Holds (length js)) (typing_at js (kid node 0)) (unary (places t) js node) (λ x g. unary_row x (at_kid (kid node 0) x g) (value_at (kid node 0) x g))
    code_row kind.Post e h = yields_given (Holds (length js)) (typing_at js (kid node 0)) (postfix_step (places t) js node) (λ x g. postfix_row x)
    code_row kind.Binary e h = yields_given (Holds (length js)) (typing_at js (kid node 0)) _ (λ x f. yields_given (Holds (length js)) (typing_at js (kid node 1)) (λ y. binary_operator js node (value_of x) (value_of y)) (λ y g. binary_row (value_of x) (value_of y) (value_at (kid node 0) x f) (value_at (kid node 1) y g)))
    code_row kind.Assign e h = yields_given (Holds (length js)) (typing_at js (kid node 0)) _ (λ x f. yields_given (Holds (length js)) (typing_at js (kid node 1)) (λ y. assign (places t) js node x (value_of y)) (λ y g. assign_row x (value_of y)))
    code_row kind.Cond e h = choice_row
    code_row kind.Comma e h = yields_given (Holds (length js)) (typing_at js (kid node 0)) _ (λ x f. yields_given (Holds (length js)) (typing_at js (kid node 1)) (λ y. comma (value_of x) (value_of y)) (λ y g. comma_row (value_of x) (value_of y)))
    code_row kind.Index e h = yields_given (Holds (length js)) (typing_at js (kid node 0)) _ (λ x f. yields_given (Holds (length js)) (typing_at js (kid node 1)) (subscript js node x) (λ y g. subscript_row x y (at_kid (kid node 0) x f) (value_at (kid node 0) x f) (at_kid (kid node 1) y g) (value_at (kid node 1) y g)))
    code_row kind.Call e h = yields_given (Holds (length js)) (typing_at js (kid node 0)) (λ f. call_by js node f f.form) (λ f g. call_by_row f f.form)
    code_row kind.Dot e h = yields_given (Holds (length js)) (typing_at js (kid node 0)) (dot js node) (λ x g. dot_row x (at_kid (kid node 0) x g))
    code_row kind.Arrow e h = yields_given (Holds (length js)) (typing_at js (kid node 0)) (arrow js node) (λ x g. arrow_row x)
    code_row kind.Cast e h = yields_given (Holds (length js)) (type_at js (kid node 0)) _ (λ u f. yields_given (Holds (length js)) (typing_at js (kid node 1)) (λ x. cast node u (value_of x)) (λ x g. cast_row u (value_of x) (value_at (kid node 1) x g)))
    code_row kind.SizeExpr e h = yields_given (Holds (length js)) (typing_at js (kid node 0)) (λ x. measured_type js x.type (kid node 0)) (λ x g. measured_row x.type (kid node 0))
    code_row kind.SizeType e h = yields_given (Holds (length js)) (type_at js (kid node 0)) (λ u. measured_type js u (kid node 0)) (λ u g. measured_row u (kid node 0))
    code_row k e h = absurd (true≢false (sym h))

    other_row : (k : SynKind) → node.label.kind ≡ k → (b : Bool) → is_expression_kind k ≡ b → (c : Bool) → is_statement_kind k ≡ c → b || (c || is_passive_kind k) ≡ true → Yields (Holds (length js)) (judged_by (places t) js node k)
    other_row k e true f c g h = code_row k e f
    other_row k e false f true g h = statement_kind_row (Holds (length js)) (λ ss. tt) (λ w. tt) (places t) js node (λ q. init_row) (λ q. function_row (Holds (length js)) (λ d. tt) (places t) js node) k e g
    other_row k e false f false g h = passive_row (Holds (length js)) free (λ ss. tt) (places t) js node k h

    row : (k : SynKind) → node.label.kind ≡ k → Yields (Holds (length js)) (judged_by (places t) js node k)
    unfolding judged_by
    row kind.StructSpec e = struct_row (places t) js node (Holds (length js)) (λ fs k. tt) (λ u. tt)
    row kind.Braces e = braces_row
    row k e = other_row k e (is_expression_kind k) refl (is_statement_kind k) refl refl

  all_hold : Known (places t) Holds (judgements_at (places t))
  all_hold = all_known (places t) Holds (λ js node there front known. row js node there front known node.label.kind refl)

  judged_cells : (k : ℕ) (j : Judgement) → judgement_at (judgements_at (places t)) k ≡ j → AllByRecursion (CellFits t) (cells_in j)
  judged_cells k (means (initialized u ss cs)) e = all_hold k (initialized u ss cs) e
  judged_cells k _ e = tt

  flat_cells : (list : List Name) → AllByRecursion (CellFits t) (flat_map (λ (a : Name). cells_in (judgement_at (judgements_at (places t)) a.owner)) list)
  flat_cells [] = tt
  flat_cells (a ∷ list) = all_joint (CellFits t) (cells_in (judgement_at (judgements_at (places t)) a.owner)) (flat_map (λ (b : Name). cells_in (judgement_at (judgements_at (places t)) b.owner)) list) (judged_cells a.owner (judgement_at (judgements_at (places t)) a.owner) refl) (flat_cells list)

  abbrev ObjectFits : Object → Type 0
  ObjectFits o = AllByRecursion (CellFits t) o.cells

  objects_fit : (es : List Name) → AllByRecursion ObjectFits (map (object_of (places t) (judgements_at (places t))) es)
  objects_fit [] = tt
  objects_fit (e ∷ es) = (flat_cells (declarations_of (places t) e), objects_fit es)

  literals_fit : (ns : List Node) → AllByRecursion ObjectFits (map (λ (n : Node). literal_object n.label.bytes) ns)
  literals_fit [] = tt
  literals_fit (n ∷ ns) = (text_good t 0 n.label.bytes, literals_fit ns)

  pub addresses : InEveryCell (unit_in (places t) (judgements_at (places t))) (λ o c. AddressFits (unit_in (places t) (judgements_at (places t))) c.width c.value)
  addresses = all_joint ObjectFits (map (object_of (places t) (judgements_at (places t))) (objects_of (places t))) (map (λ (n : Node). literal_object n.label.bytes) (literals_of (places t) (judgements_at (places t)))) (objects_fit (objects_of (places t))) (literals_fit (literals_of (places t) (judgements_at (places t))))
