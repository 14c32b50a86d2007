-- What holds of all expressions and statements of the functions, where it holds of those that name something.
use Rattle.std.proofs.Common.{◌≡◌, ℕ, suc, ◌+◌, ◌<◌, Bool, true, false, ◌||◌, List, [], ◌∷◌, length, map, Option, Some, None, refl, sym, ap, ◌∙◌, subst, arith, true≢false, unwrap_or}
use Rattle.std.specs.Prelude.{slice_get, if◌then◌else◌, ◌==◌, codes}
use Rattle.std.specs.Str.{bytes_eq}
use Rattle.std.specs.List.{AllByRecursion}
use Rattle.c_lexer.specs.declared.token.Token.{Token}
use Rattle.c_syntax.specs.declared.kind.SynKind.{SynKind}
use Rattle.c_syntax.specs.declared.kind.SynKind.TheVariants as kind
use Rattle.c_syntax.specs.Trees.{Tree}
use Rattle.c_grammar.specs.Derivation.{IsTreeOf}
use Rattle.c_types.specs.declared.tree.COp.TheVariants as op
use Rattle.c_types.specs.declared.tree.Expr.{Expr}
use Rattle.c_types.specs.declared.tree.Stmt.{Stmt}
use Rattle.c_types.specs.declared.tree.Func.{Func}
use Rattle.c_types.specs.Forms.{const, address, local, set_local, store, binary, choose, call, get_char, put_char, copy, expr_row, length_of, unset}
use Rattle.c_types.specs.Every.{EveryExpr, EveryExprIn, EveryStmt, own_exprs}
use Rattle.c_typing.specs.Types.{CType, CTypes, void, integer, pointer, array, unsized, struct, function, IntegerType, int, uint, promoted, integer_of, target_of, listed, Layout, size_of, align_of}
use Rattle.c_typing.specs.Places.{Node, nodes, node_at, kid, other_kids}
use Rattle.c_typing.specs.Names.{places, Name, Entity, typedef_name, function_name, static_object, automatic, enumerator, parameter, denoted, name_of, object_number, objects_of, local_number}
use Rattle.c_typing.specs.Judgements.{Callee, reads_input, writes_output, calls, Form, value, in_local, in_memory, temporary, callee, Constant, no_constant, Typing, Fault, Meaning, fills_array, expresses, initialized, labels, performs, defines, Judgement, means, breaks_rules, waits, besides, judgement_at, typing_at, type_at, layouts, all_of}
use Rattle.c_typing.specs.Conversions.{valued, value_of, result_form, result, converted_to, converted_code, Operator, operator_of, scaled}
use Rattle.c_typing.specs.Rules.{wrong_number}
use Rattle.c_typing.specs.Expressions.{hidden_before, hidden_for, literals_before, literal, callee_of, type_of_name, word_of_enumerator, variable_by, variable, step_operator, stepped, written, written_before, prefix_step, postfix_step, element_typing, subscript, arguments, passed, first_or, call_code, called, call_by, member_form, field_of, no_field, member_typing, dot, arrow, address_operator, dereference, number_of_type, minus_one, sign_typing, sign_operator, not_operator, unary, measured_type, cast, binary_code, binary_by, binary_operator, conditional, comma, assigned_code, assignment, compound_new, compound_by, assign, expression}
use Rattle.c_typing.specs.Initializers.{string, fills, target, literal_faults}
use Rattle.c_typing.specs.Typing.{in_parentheses, choice_node, call_node, cast_node, judged_by, judgements_at}
use Rattle.c_typing.proofs.MadeJudged.{Yields, yields_verdict, yields_besides, yields_given, IsFront, Known, meant_later}
use Rattle.c_typing.proofs.MadeNodes.{In}
use Rattle.c_typing.proofs.MadeForms.{is_active, yields_if}
use Rattle.c_typing.proofs.MadeForms.{paren_row as in_paren}
use Rattle.c_typing.proofs.MadeParts.{least_kids, typing_meant, all_parts, in_others}
use Rattle.c_typing.proofs.MadePlaced.{kid_in}
use Rattle.c_typing.proofs.MadeDeclarators.{all_long, long-map}
use Rattle.c_typing.proofs.MadeForming.{is_free, value_every, converted_every, binary_every, const_every, scaled_every, binary_code_every, stepped_every, compound_every, seq_every, set_every, written_every, written_before_every}
use Rattle.c_typing.proofs.MadeStatements.{is_code_kind, is_expression_kind, Good}

-- a statement that names no local itself
abbrev pub is_quiet : Stmt → Bool
is_quiet (unset k) = false
is_quiet s = true

-- an automatic object or a parameter
abbrev pub is_named_local : Entity → Bool
is_named_local automatic = true
is_named_local (parameter i) = true
is_named_local e = false

-- what is said of expressions and of statements, at these nodes and in these functions; of the locals and the callees that are named
module _ (t : Tree) (P : Expr → Type 0) (R : Stmt → Type 0) (C N : ℕ → Type 0) (L : ℕ → Type 0) (K : Callee → CType → Type 0) where
  abbrev pub FormGood : Form → CType → Type 0
  FormGood (in_local k) u = L k
  FormGood (callee c) u = K c u
  FormGood f u = Unit {0}

  abbrev pub final : ℕ → Judgement
  final n = judgement_at (judgements_at (places t)) n

  abbrev pub X : ℕ → Typing → ℕ → Type 0
  X n x h = final n ≡ means (expresses x h) → C n → EveryExpr P x.code × FormGood x.form x.type

  abbrev pub V : ℕ → Expr → Type 0
  V n e = C n → EveryExpr P e

  abbrev pub Each : Stmt → Type 0
  Each s = AllByRecursion (EveryExpr P) (own_exprs s) × R s

  abbrev pub S : ℕ → Stmt → Type 0
  S n s = C n → EveryStmt Each s

  abbrev pub D : ℕ → Func → Type 0
  D n f = N n → EveryStmt Each f.body

  abbrev pub NoLabel : ℕ → Option ℕ → Type 0
  NoLabel n w = Unit {0}

  abbrev pub Holds : ℕ → Meaning → Type 0
  Holds n m = Good t X V S S D NoLabel n m

  pub record Leaves : Type 0 where
    pub free : (e : Expr) → is_free e ≡ true → P e
    pub is_local : (k : ℕ) → L k → P (local k)
    pub is_set : (k : ℕ) (e : Expr) → L k → P (set_local k e)
    pub quiet : (s : Stmt) → is_quiet s ≡ true → R s
    pub is_unset : (k : ℕ) → L k → R (unset k)
    pub up : (n k : ℕ) (node : Node) → slice_get (nodes t) n ≡ Some node → is_code_kind node.label.kind ≡ true → In k node.kids → C n → C k
    pub body : (n : ℕ) (node : Node) → slice_get (nodes t) n ≡ Some node → node.label.kind ≡ kind.Function → N n → C (kid node 2)
    pub static : (node : Node) (n : ℕ) (e : Name) → slice_get (nodes t) n ≡ Some node → node.label.kind ≡ kind.Var → denoted (places t).names node.id node.label.text ≡ Some e → e.entity ≡ static_object → C n → P (address (unwrap_or (object_number (places t) e) 0) 0)
    pub text : (js : List Judgement) (node : Node) (bytes : List ℕ) → slice_get (nodes t) (length js) ≡ Some node → IsFront (places t) js → node.label.kind ≡ kind.Str → final (length js) ≡ means (expresses (literal (places t) js bytes) 0) → C (length js)
        → P (address (length (objects_of (places t)) + literals_before (places t) js) 0)
    pub named : (node : Node) (n : ℕ) (e : Name) → slice_get (nodes t) n ≡ Some node → node.label.kind ≡ kind.Var → denoted (places t).names node.id node.label.text ≡ Some e → is_named_local e.entity ≡ true → C n → L (local_number (places t) e)
    pub hidden : (js : List Judgement) (node : Node) (x : Typing) (h i : ℕ) → slice_get (nodes t) (length js) ≡ Some node → IsFront (places t) js → final (length js) ≡ means (expresses x h) → i < h → C (length js) → L (hidden_before (places t) js + i)
    pub initial : (n : ℕ) (node : Node) (a : Name) → slice_get (nodes t) n ≡ Some node → node.label.kind ≡ kind.InitDecl → name_of (places t) (node_at (nodes t) (kid node 0)).first ≡ Some a → a.entity ≡ automatic → C n → L (local_number (places t) a)
    pub named_function : (js : List Judgement) (node : Node) (e : Name) (u : CType) → slice_get (nodes t) (length js) ≡ Some node → IsFront (places t) js → node.label.kind ≡ kind.Var → denoted (places t).names node.id node.label.text ≡ Some e → e.entity ≡ function_name → type_of_name js e ≡ Some u → C (length js) → K (callee_of (places t) e.text) u
    pub calling : (f : ℕ) (r : CType) (ps : CTypes) (es : List Expr) → K (calls f) (function r ps) → length es ≡ length (listed ps) → P (call f (length_of es) (expr_row es))
    pub copying : (js : List Judgement) (node : Node) (x : Typing) (k : ℕ) (to from : Expr) → slice_get (nodes t) (length js) ≡ Some node → IsFront (places t) js → typing_at js (kid node 0) ≡ Some x → x.type ≡ struct k → C (length js) → P (copy (size_of (layouts js) x.type) (align_of (layouts js) x.type) to from)

  module _ (tokens : List Token) (derived : IsTreeOf tokens t) (l : Leaves) (js : List Judgement) (node : Node) (there : slice_get (nodes t) (length js) ≡ Some node) (front : IsFront (places t) js) (known : Known (places t) Holds js) where
    later : (k : ℕ) (m : Meaning) → judgement_at js k ≡ means m → final k ≡ means m
    later k m e = ap (λ q. judgement_at q k) front.1 ∙ meant_later js front.0 k m e

    -- a kid's code and form
    kid_good : (k : ℕ) (x : Typing) → is_code_kind node.label.kind ≡ true → In k node.kids → typing_at js k ≡ Some x → C (length js) → EveryExpr P x.code × FormGood x.form x.type
    kid_good k x a i e c =
        let m = typing_meant (judgement_at js k) x e in
        known k (expresses x m.0) m.1 (later k (expresses x m.0) m.1) (l.up (length js) k node there a i c)

    code_kind : (k : SynKind) → node.label.kind ≡ k → is_code_kind k ≡ true → is_code_kind node.label.kind ≡ true
    code_kind k e h = ap is_code_kind e ∙ h

    in_kid : (k : SynKind) (i : ℕ) → node.label.kind ≡ k → i < least_kids k → In (kid node i) node.kids
    in_kid k i e lt = kid_in tokens t derived (length js) node i there (subst (λ q. i < least_kids q) (sym e) lt)

    operand : (k : SynKind) (i : ℕ) → node.label.kind ≡ k → is_code_kind k ≡ true → i < least_kids k → (x : Typing) → typing_at js (kid node i) ≡ Some x → C (length js) → EveryExpr P x.code × FormGood x.form x.type
    operand k i e h lt x g c = kid_good (kid node i) x (code_kind k e h) (in_kid k i e lt) g c

    operand_value : (k : SynKind) (i : ℕ) → node.label.kind ≡ k → is_code_kind k ≡ true → i < least_kids k → (x : Typing) → typing_at js (kid node i) ≡ Some x → C (length js) → EveryExpr P (value_of x).code
    operand_value k i e h lt x g c = value_every P l.free x (operand k i e h lt x g c).0

    result_good : (u v : CType) → FormGood (result_form u) v
    result_good void v = tt
    result_good (integer k) v = tt
    result_good (pointer u) v = tt
    result_good (array u n) v = tt
    result_good (unsized u) v = tt
    result_good (struct k) v = tt
    result_good (function r ps) v = tt

    member_good : (f : Form) (u : CType) → FormGood (member_form f) u
    member_good temporary u = tt
    member_good value u = tt
    member_good (in_local k) u = tt
    member_good in_memory u = tt
    member_good (callee c) u = tt

    plain : (x : Typing) (h : ℕ) → (C (length js) → EveryExpr P x.code) → ((u : CType) → FormGood x.form u) → Holds (length js) (expresses x h)
    plain x h code form j c = (code c, form x.type)

    number_good : (x : Typing) (n : ℕ) → x.code ≡ const n → x.form ≡ value → Holds (length js) (expression x)
    number_good x n e f j c = (subst (λ q. EveryExpr P q) (sym e) (const_every P l.free n), subst (λ q. FormGood q x.type) (sym f) tt)

    -- ---- names and strings

    text_end : node.label.kind ≡ kind.Str → Holds (length js) (expression (literal (places t) js node.label.bytes))
    text_end e j c = (l.text js node node.label.bytes there front e j c, tt)

    filled : Holds (length js) fills_array
    filled = tt

    string_row : node.label.kind ≡ kind.Str → Yields (Holds (length js)) (string (places t) js node)
    unfolding string
    string_row e = yields_if (Holds (length js)) (fills (target (places t) js node.id)) _ _ filled (yields_verdict (Holds (length js)) (literal_faults node) _ (text_end e))

    entity_row : node.label.kind ≡ kind.Var → (e : Name) → denoted (places t).names node.id node.label.text ≡ Some e → (y : Entity) → e.entity ≡ y → Yields (Holds (length js)) (variable_by (places t) js node e y)
    unfolding variable_by
    entity_row is e d typedef_name g = tt
    entity_row is e d enumerator g = yields_given (Holds (length js)) (word_of_enumerator (judgement_at js e.node)) _ (λ w h j c. (const_every P l.free w, tt))
    entity_row is e d function_name g = yields_given (Holds (length js)) (type_of_name js e) _ (λ u h. yields_verdict (Holds (length js)) _ (expression (record { type = u; form = callee (callee_of (places t) e.text); code = const 0; constant = no_constant }))
        (λ j c. (const_every P l.free 0, l.named_function js node e u there front is d g h c)))
    entity_row is e d static_object g = yields_given (Holds (length js)) (type_of_name js e) _ (λ u h j c. (l.static node (length js) e there is d g c, tt))
    entity_row is e d automatic g = yields_given (Holds (length js)) (type_of_name js e) _ (λ u h j c. let k = l.named node (length js) e there is d (ap is_named_local g) c in (l.is_local (local_number (places t) e) k, k))
    entity_row is e d (parameter i) g = yields_given (Holds (length js)) (type_of_name js e) _ (λ u h j c. let k = l.named node (length js) e there is d (ap is_named_local g) c in (l.is_local (local_number (places t) e) k, k))

    variable_row : node.label.kind ≡ kind.Var → (o : Option Name) → denoted (places t).names node.id node.label.text ≡ o → Yields (Holds (length js)) (variable (places t) js node o)
    unfolding variable
    variable_row is None d = tt
    variable_row is (Some e) d = entity_row is e d e.entity refl

    -- ---- unary and postfix operators

    prefix_end : node.label.kind ≡ kind.Unary → (x : Typing) → typing_at js (kid node 0) ≡ Some x
        → Holds (length js) (expresses (result x.type (written (hidden_before (places t) js) x (stepped (layouts js) (step_operator node.label.text) x.type) x.form) no_constant) (hidden_for x.form 0))
    prefix_end e x g j c =
        let k = operand kind.Unary 0 e refl (omega arith) x g c in (
          written_every P l.free L l.is_local l.is_set (hidden_before (places t) js) x (stepped (layouts js) (step_operator node.label.text) x.type) (λ q h. stepped_every P l.free (layouts js) (step_operator node.label.text) x.type q h) k.0 x.form
              (λ i same. subst (λ f. FormGood f x.type) same k.1)
              (λ lt. subst L (omega arith) (l.hidden js node (result x.type (written (hidden_before (places t) js) x (stepped (layouts js) (step_operator node.label.text) x.type) x.form) no_constant) (hidden_for x.form 0) 0 there front j lt c)),
          result_good x.type x.type,
        )

    postfix_end : node.label.kind ≡ kind.Post → (x : Typing) → typing_at js (kid node 0) ≡ Some x
        → Holds (length js) (expresses (result x.type (written_before (hidden_before (places t) js) x (stepped (layouts js) (step_operator node.label.text) x.type) x.form) no_constant) (hidden_for x.form 1))
    postfix_end e x g j c =
        let k = operand kind.Post 0 e refl (omega arith) x g c in
        let r = result x.type (written_before (hidden_before (places t) js) x (stepped (layouts js) (step_operator node.label.text) x.type) x.form) no_constant in (
          written_before_every P l.free L l.is_local l.is_set (hidden_before (places t) js) x (stepped (layouts js) (step_operator node.label.text) x.type) (λ q h. stepped_every P l.free (layouts js) (step_operator node.label.text) x.type q h) k.0 x.form
              (λ i same. subst (λ f. FormGood f x.type) same k.1)
              (λ lt. subst L (omega arith) (l.hidden js node r (hidden_for x.form 1) 0 there front j lt c)) (λ lt. l.hidden js node r (hidden_for x.form 1) 1 there front j lt c),
          result_good x.type x.type,
        )

    postfix_row : node.label.kind ≡ kind.Post → (x : Typing) → typing_at js (kid node 0) ≡ Some x → Yields (Holds (length js)) (postfix_step (places t) js node x)
    unfolding postfix_step
    postfix_row e x g = yields_verdict (Holds (length js)) _ (expresses (result x.type (written_before (hidden_before (places t) js) x (stepped (layouts js) (step_operator node.label.text) x.type) x.form) no_constant) (hidden_for x.form 1)) (postfix_end e x g)

    prefix_row : node.label.kind ≡ kind.Unary → (x : Typing) → typing_at js (kid node 0) ≡ Some x → Yields (Holds (length js)) (prefix_step (places t) js node x)
    unfolding prefix_step
    prefix_row e x g = yields_verdict (Holds (length js)) _ (expresses (result x.type (written (hidden_before (places t) js) x (stepped (layouts js) (step_operator node.label.text) x.type) x.form) no_constant) (hidden_for x.form 0)) (prefix_end e x g)

    address_row : node.label.kind ≡ kind.Unary → (x : Typing) → typing_at js (kid node 0) ≡ Some x → Yields (Holds (length js)) (address_operator node x)
    unfolding address_operator
    address_row e x g = yields_verdict (Holds (length js)) _ (expresses (valued (pointer x.type) x.code _) 0) (λ j c. ((operand kind.Unary 0 e refl (omega arith) x g c).0, tt))

    dereference_row : (u : CType) (v : Typing) → (C (length js) → EveryExpr P v.code) → Yields (Holds (length js)) (dereference js node u v)
    unfolding dereference
    dereference_row (pointer u) v h = yields_verdict (Holds (length js)) _ (expression (record { type = u; form = in_memory; code = v.code; constant = no_constant })) (λ j c. (h c, tt))
    dereference_row void v h = tt
    dereference_row (integer k) v h = tt
    dereference_row (array u n) v h = tt
    dereference_row (unsized u) v h = tt
    dereference_row (struct k) v h = tt
    dereference_row (function r ps) v h = tt

    not_row : (v : Typing) → (C (length js) → EveryExpr P v.code) → Yields (Holds (length js)) (not_operator node v)
    unfolding not_operator
    not_row v h = yields_verdict (Holds (length js)) _ (expression (valued (integer int) (binary op.Eq v.code (const 0)) _)) (λ j c. (binary_every P l.free op.Eq v.code (const 0) (h c) (const_every P l.free 0), tt))

    -- each sign has one of these codes, and is a value
    sign_good : (n : ℕ) (k : IntegerType) (text : List ℕ) (v : Typing) → EveryExpr P v.code → EveryExpr P (sign_typing n k text v).code × FormGood (sign_typing n k text v).form (sign_typing n k text v).type
    sign_good n k text v h = by (bytes_eq text (codes "-")) refl
      where
        last : (b : Bool) → bytes_eq text (codes "~") ≡ b → bytes_eq text (codes "-") ≡ false → EveryExpr P (sign_typing n k text v).code × FormGood (sign_typing n k text v).form (sign_typing n k text v).type
        last true e f = rw f (rw e ((binary_every P l.free op.Xor v.code (const minus_one) h (const_every P l.free minus_one)), tt))
        last false e f = rw f (rw e (h, tt))

        by : (b : Bool) → bytes_eq text (codes "-") ≡ b → EveryExpr P (sign_typing n k text v).code × FormGood (sign_typing n k text v).form (sign_typing n k text v).type
        by true e = rw e ((l.free _ refl, const_every P l.free 0, h), tt)
        by false e = last (bytes_eq text (codes "~")) refl e

    sign_row : (v : Typing) → (C (length js) → EveryExpr P v.code) → Yields (Holds (length js)) (sign_operator node v)
    unfolding sign_operator
    sign_row v h = yields_verdict (Holds (length js)) _ (expression (sign_typing node.id (promoted (integer_of v.type)) node.label.text v)) (λ j c. sign_good node.id (promoted (integer_of v.type)) node.label.text v (h c))

    unary_row : node.label.kind ≡ kind.Unary → (x : Typing) → typing_at js (kid node 0) ≡ Some x → Yields (Holds (length js)) (unary (places t) js node x)
    unfolding unary
    unary_row e x g =
        let v = λ (c : C (length js)). operand_value kind.Unary 0 e refl (omega arith) x g c in
        yields_if (Holds (length js)) (bytes_eq node.label.text (codes "&")) _ (if bytes_eq node.label.text (codes "*") then dereference js node (value_of x).type (value_of x) else if bytes_eq node.label.text (codes "!") then not_operator node (value_of x) else if bytes_eq node.label.text (codes "++") || bytes_eq node.label.text (codes "--") then prefix_step (places t) js node x else sign_operator node (value_of x)) (address_row e x g)
        (yields_if (Holds (length js)) (bytes_eq node.label.text (codes "*")) _ (if bytes_eq node.label.text (codes "!") then not_operator node (value_of x) else if bytes_eq node.label.text (codes "++") || bytes_eq node.label.text (codes "--") then prefix_step (places t) js node x else sign_operator node (value_of x)) (dereference_row (value_of x).type (value_of x) v)
        (yields_if (Holds (length js)) (bytes_eq node.label.text (codes "!")) _ (if bytes_eq node.label.text (codes "++") || bytes_eq node.label.text (codes "--") then prefix_step (places t) js node x else sign_operator node (value_of x)) (not_row (value_of x) v)
        (yields_if (Holds (length js)) (bytes_eq node.label.text (codes "++") || bytes_eq node.label.text (codes "--")) _ (sign_operator node (value_of x)) (prefix_row e x g) (sign_row (value_of x) v))))

    -- ---- operators of two operands

    module _ (k : SynKind) (is : node.label.kind ≡ k) (code : is_code_kind k ≡ true) (two : 1 < least_kids k) (x y : Typing) (e : typing_at js (kid node 0) ≡ Some x) (g : typing_at js (kid node 1) ≡ Some y) where
      left : C (length js) → EveryExpr P (value_of x).code
      left c = operand_value k 0 is code (omega (arith, two)) x e c

      right : C (length js) → EveryExpr P (value_of y).code
      right c = operand_value k 1 is code two y g c

      element_good : (ls : List Layout) (u v : CType) (a b : Typing) (d : Constant) → EveryExpr P a.code → EveryExpr P b.code → EveryExpr P (element_typing ls u v a b d).code × FormGood (element_typing ls u v a b d).form (element_typing ls u v a b d).type
      element_good ls u (pointer w) a b d h i = (binary_every P l.free op.AddU (scaled ls u a.code) b.code (scaled_every P l.free ls u a.code h) i, tt)
      element_good ls u v a b d h i = (binary_every P l.free op.AddU a.code (scaled ls u b.code) h (scaled_every P l.free ls u b.code i), tt)

      subscript_row : Yields (Holds (length js)) (subscript js node x y)
      unfolding subscript
      subscript_row = yields_verdict (Holds (length js)) _ (expression (element_typing (layouts js) _ (value_of y).type (value_of x) (value_of y) _)) (λ j c. element_good (layouts js) _ (value_of y).type (value_of x) (value_of y) _ (left c) (right c))

      binary_by_row : (o : Operator) → Yields (Holds (length js)) (binary_by js node (value_of x) (value_of y) o)
      unfolding binary_by
      binary_by_row o = yields_verdict (Holds (length js)) _ (expression (valued _ (binary_code (layouts js) o (value_of x) (value_of y) o.class) _)) (λ j c. (binary_code_every P l.free (layouts js) o (value_of x) (value_of y) o.class (left c) (right c), tt))

      binary_row : Yields (Holds (length js)) (binary_operator js node (value_of x) (value_of y))
      unfolding binary_operator
      binary_row = yields_given (Holds (length js)) (operator_of node.label.text) (binary_by js node (value_of x) (value_of y)) (λ o h. binary_by_row o)

      comma_row : Yields (Holds (length js)) (comma (value_of x) (value_of y))
      unfolding comma
      comma_row j c = (seq_every P l.free (value_of x).code (value_of y).code (left c) (right c), result_good (value_of y).type (value_of y).type)

      assigned_good : (u : CType) → x.type ≡ u → (f : Form) → x.form ≡ f → C (length js) → EveryExpr P (assigned_code (layouts js) x (value_of y) u f)
      assigned_good (struct i) h f q c = (l.copying js node x i x.code (value_of y).code there front e h c, (operand k 0 is code (omega (arith, two)) x e c).0, right c)
      assigned_good u h (in_local i) q c = local_set u i (subst (λ z. FormGood z x.type) q (operand k 0 is code (omega (arith, two)) x e c).1) (right c)
        where
          local_set : (u : CType) (i : ℕ) → L i → EveryExpr P (value_of y).code → EveryExpr P (set_local i (converted_to u (value_of y)))
          local_set u i m r = set_every P l.free L l.is_local l.is_set i (converted_to u (value_of y)) m (converted_every P l.free (value_of y).type u (value_of y).code r)
      assigned_good u h f q c = (l.free (store _ x.code (converted_to u (value_of y))) refl, (operand k 0 is code (omega (arith, two)) x e c).0, converted_every P l.free (value_of y).type u (value_of y).code (right c))

      assignment_row : Yields (Holds (length js)) (assignment js node x (value_of y))
      unfolding assignment
      assignment_row = yields_verdict (Holds (length js)) _ (expression (result x.type (assigned_code (layouts js) x (value_of y) x.type x.form) no_constant)) (λ j c. (assigned_good x.type refl x.form refl c, result_good x.type x.type))

      compound_end : (o : Operator) → Holds (length js) (expresses (result x.type (written (hidden_before (places t) js) x (compound_new (layouts js) o x (value_of y)) x.form) no_constant) (hidden_for x.form 0))
      compound_end o j c =
          let q = operand k 0 is code (omega (arith, two)) x e c in
          let r = result x.type (written (hidden_before (places t) js) x (compound_new (layouts js) o x (value_of y)) x.form) no_constant in (
            written_every P l.free L l.is_local l.is_set (hidden_before (places t) js) x (compound_new (layouts js) o x (value_of y)) (λ z h. compound_every P l.free (layouts js) o x (value_of y) z (right c) h) q.0 x.form
                (λ i same. subst (λ f. FormGood f x.type) same q.1) (λ lt. subst L (omega arith) (l.hidden js node r (hidden_for x.form 0) 0 there front j lt c)),
            result_good x.type x.type,
          )

      compound_row : (o : Operator) → Yields (Holds (length js)) (compound_by (places t) js node x (value_of y) o)
      unfolding compound_by
      compound_row o = yields_verdict (Holds (length js)) _ (expresses (result x.type (written (hidden_before (places t) js) x (compound_new (layouts js) o x (value_of y)) x.form) no_constant) (hidden_for x.form 0)) (compound_end o)

      assign_row : Yields (Holds (length js)) (assign (places t) js node x (value_of y))
      unfolding assign
      assign_row = search (yields_if, yields_given, assignment_row, compound_row)

    -- ---- the others

    choice_row : node.label.kind ≡ kind.Cond → Yields (Holds (length js)) (choice_node js node)
    unfolding conditional
    choice_row e = yields_given (Holds (length js)) (typing_at js (kid node 0)) _ (λ z f. yields_besides (Holds (length js)) _ _ (yields_given (Holds (length js)) (typing_at js (kid node 1)) _ (λ x g. yields_given (Holds (length js)) (typing_at js (kid node 2)) (λ y. conditional js node (value_of z) (value_of x) (value_of y)) (λ y h.
        yields_verdict (Holds (length js)) _ (expression (result _ (choose (value_of z).code (value_of x).code (value_of y).code) _)) (λ j c. ((l.free (choose (value_of z).code (value_of x).code (value_of y).code) refl, operand_value kind.Cond 0 e refl (omega arith) z f c, operand_value kind.Cond 1 e refl (omega arith) x g c, operand_value kind.Cond 2 e refl (omega arith) y h c), result_good _ _))))))

    dot_row : node.label.kind ≡ kind.Dot → (x : Typing) → typing_at js (kid node 0) ≡ Some x → Yields (Holds (length js)) (dot js node x)
    unfolding dot
    dot_row e x g = yields_verdict (Holds (length js)) _ (expression (member_typing (member_form x.form) x.code (unwrap_or (field_of (layouts js) x.type node.label.text) no_field) _)) (λ j c. (binary_every P l.free op.AddU x.code (const _) (operand kind.Dot 0 e refl (omega arith) x g c).0 (const_every P l.free _), member_good x.form _))

    arrow_row : node.label.kind ≡ kind.Arrow → (x : Typing) → typing_at js (kid node 0) ≡ Some x → Yields (Holds (length js)) (arrow js node x)
    unfolding arrow
    arrow_row e x g = yields_verdict (Holds (length js)) _ (expression (member_typing in_memory (value_of x).code (unwrap_or (field_of (layouts js) (target_of (value_of x).type) node.label.text) no_field) no_constant)) (λ j c. (binary_every P l.free op.AddU (value_of x).code (const _) (operand_value kind.Arrow 0 e refl (omega arith) x g c) (const_every P l.free _), tt))

    measured_row : (u : CType) (k : ℕ) → Yields (Holds (length js)) (measured_type js u k)
    unfolding measured_type
    measured_row u k = yields_verdict (Holds (length js)) _ (expression (number_of_type uint (size_of (layouts js) u))) (λ j c. (const_every P l.free (size_of (layouts js) u), tt))

    cast_row : node.label.kind ≡ kind.Cast → Yields (Holds (length js)) (cast_node js node)
    unfolding cast
    cast_row e = yields_given (Holds (length js)) (type_at js (kid node 0)) _ (λ u f. yields_given (Holds (length js)) (typing_at js (kid node 1)) (λ x. cast node u (value_of x)) (λ x g.
        yields_verdict (Holds (length js)) _ (expression (result u (converted_code (value_of x).type u (value_of x).code) _)) (λ j c. (converted_every P l.free (value_of x).type u (value_of x).code (operand_value kind.Cast 1 e refl (omega arith) x g c), result_good u u))))

    paren_row : node.label.kind ≡ kind.Paren → (o : Option Typing) → typing_at js (kid node 0) ≡ o → Yields (Holds (length js)) (in_parentheses (places t) js node o)
    paren_row e o g = in_paren (Holds (length js)) (λ m h. free m h) (λ ss. tt) (places t) js node o (λ x h j c. operand kind.Paren 0 e refl (omega arith) x (g ∙ h) c)
      where
        free : (m : Meaning) → is_active m ≡ false → Holds (length js) m
        free (expresses x h) q = absurd (true≢false q)
        free (performs ss) q = absurd (true≢false q)
        free (initialized u ss cs) q = absurd (true≢false q)
        free (defines f) q = absurd (true≢false q)
        free (labels w) q = absurd (true≢false q)
        free _ q = tt

    -- ---- calls

    passed_all : (us : List CType) (xs : List Typing) (ns : List ℕ) → AllByRecursion (λ (x : Typing). EveryExpr P (value_of x).code) xs → AllByRecursion (EveryExpr P) (map passed (arguments us (map value_of xs) ns))
    passed_all [] xs ns h = tt
    passed_all (u ∷ us) [] ns h = tt
    passed_all (u ∷ us) (x ∷ xs) [] h = tt
    passed_all (u ∷ us) (x ∷ xs) (n ∷ ns) h = (converted_every P l.free (value_of x).type u (value_of x).code h.0, passed_all us xs ns h.1)

    passed_long : (us : List CType) (xs : List Typing) (ns : List ℕ) → length xs ≡ length us → length ns ≡ length us → length (map passed (arguments us (map value_of xs) ns)) ≡ length us
    passed_long [] xs ns e g = refl
    passed_long (u ∷ us) [] ns e g = absurd (omega (arith, e))
    passed_long (u ∷ us) (x ∷ xs) [] e g = absurd (omega (arith, g))
    passed_long (u ∷ us) (x ∷ xs) (n ∷ ns) e g = ap suc (passed_long us xs ns (omega (arith, e)) (omega (arith, g)))

    in_row : (es : List Expr) → AllByRecursion (EveryExpr P) es → EveryExprIn P (expr_row es)
    in_row [] h = tt
    in_row (e ∷ es) h = (h.0, in_row es h.1)

    first_good : (es : List Expr) → AllByRecursion (EveryExpr P) es → EveryExpr P (first_or es)
    first_good [] h = const_every P l.free 0
    first_good (e ∷ es) h = h.0

    call_good : (q : Callee) (r : CType) (ps : CTypes) (es : List Expr) → K q (function r ps) → length es ≡ length (listed ps) → AllByRecursion (EveryExpr P) es → EveryExpr P (call_code q es)
    call_good reads_input r ps es k e h = l.free get_char refl
    call_good writes_output r ps es k e h = (l.free (put_char (first_or es)) refl, first_good es h)
    call_good (calls f) r ps es k e h = (l.calling f r ps es k e, in_row es h)

    right_number : (a b n : ℕ) → wrong_number a b n ≡ [] → a ≡ b
    right_number a b n e = by (a == b) refl e
      where
        by : (c : Bool) → (a == b) ≡ c → wrong_number a b n ≡ [] → a ≡ b
        by c h g = grind arith

    besides_kept : (fs : List Fault) (j : Judgement) → (fs ≡ [] → Yields (Holds (length js)) j) → Yields (Holds (length js)) (besides fs j)
    besides_kept [] j h = h refl
    besides_kept (f ∷ fs) (means m) h = tt
    besides_kept (f ∷ fs) (breaks_rules g gs) h = tt
    besides_kept (f ∷ fs) waits h = tt

    called_end : node.label.kind ≡ kind.Call → (q : Callee) (r : CType) (ps : CTypes) → (C (length js) → K q (function r ps)) → wrong_number (length (listed ps)) (length (other_kids node)) node.id ≡ [] → (xs : List Typing) → all_of (map (typing_at js) (other_kids node)) ≡ Some xs
        → Holds (length js) (expression (result r (call_code q (map passed (arguments (listed ps) (map value_of xs) (other_kids node)))) no_constant))
    called_end e q r ps k none xs g j c =
        let same = right_number (length (listed ps)) (length (other_kids node)) node.id none in
        let long : length xs ≡ length (other_kids node) = all_long (map (typing_at js) (other_kids node)) xs g ∙ long-map (typing_at js) (other_kids node) in
        let values = all_parts (typing_at js) (λ (x : Typing). EveryExpr P (value_of x).code) (other_kids node) xs (λ n x i h. value_every P l.free x (kid_good n x (code_kind kind.Call e refl) (in_others node n i) h c).0) g in
        (call_good q r ps (map passed (arguments (listed ps) (map value_of xs) (other_kids node))) (k c) (passed_long (listed ps) xs (other_kids node) (long ∙ sym same) (sym same)) (passed_all (listed ps) xs (other_kids node) values), result_good r r)

    called_row : node.label.kind ≡ kind.Call → (q : Callee) (u : CType) → (C (length js) → K q u) → Yields (Holds (length js)) (called js node q u)
    unfolding called
    called_row e q (function r ps) k = besides_kept (wrong_number (length (listed ps)) (length (other_kids node)) node.id) _ (λ none. yields_given (Holds (length js)) (all_of (map (typing_at js) (other_kids node))) _ (λ xs g.
        yields_verdict (Holds (length js)) _ (expression (result r (call_code q (map passed (arguments (listed ps) (map value_of xs) (other_kids node)))) no_constant)) (called_end e q r ps k none xs g)))
    called_row e q void k = tt
    called_row e q (integer i) k = tt
    called_row e q (pointer u) k = tt
    called_row e q (array u n) k = tt
    called_row e q (unsized u) k = tt
    called_row e q (struct i) k = tt

    call_by_row : node.label.kind ≡ kind.Call → (f : Typing) (x : Form) → f.form ≡ x → typing_at js (kid node 0) ≡ Some f → Yields (Holds (length js)) (call_by js node f x)
    unfolding call_by
    call_by_row e f (callee q) h g = called_row e q f.type (λ c. subst (λ y. FormGood y f.type) h (operand kind.Call 0 e refl (omega arith) f g c).1)
    call_by_row e f value h g = tt
    call_by_row e f (in_local k) h g = tt
    call_by_row e f in_memory h g = tt
    call_by_row e f temporary h g = tt

    call_row : node.label.kind ≡ kind.Call → Yields (Holds (length js)) (call_node js node)
    call_row e = yields_given (Holds (length js)) (typing_at js (kid node 0)) (λ f. call_by js node f f.form) (λ f g. call_by_row e f f.form refl g)

    -- ---- all of them

    pub code_row : (k : SynKind) → node.label.kind ≡ k → is_expression_kind k ≡ true → Yields (Holds (length js)) (judged_by (places t) js node k)
    unfolding judged_by
    code_row kind.Paren e h = paren_row e (typing_at js (kid node 0)) refl
    code_row (kind.Int type) e h = λ j c. (const_every P l.free node.label.value, tt)
    code_row kind.Char e h = λ j c. (const_every P l.free node.label.value, tt)
    code_row kind.Str e h = string_row e
    code_row kind.Var e h = variable_row e (denoted (places t).names node.id node.label.text) refl
    code_row kind.Unary e h = yields_given (Holds (length js)) (typing_at js (kid node 0)) (unary (places t) js node) (λ x g. unary_row e x g)
    code_row kind.Post e h = yields_given (Holds (length js)) (typing_at js (kid node 0)) (postfix_step (places t) js node) (λ x g. postfix_row e x g)
    code_row kind.Binary e h = yields_given (Holds (length js)) (typing_at js (kid node 0)) _ (λ x f. yields_given (Holds (length js)) (typing_at js (kid node 1)) (λ y. binary_operator js node (value_of x) (value_of y)) (λ y g. binary_row kind.Binary e refl (omega arith) x y f g))
    code_row kind.Assign e h = yields_given (Holds (length js)) (typing_at js (kid node 0)) _ (λ x f. yields_given (Holds (length js)) (typing_at js (kid node 1)) (λ y. assign (places t) js node x (value_of y)) (λ y g. assign_row kind.Assign e refl (omega arith) x y f g))
    code_row kind.Cond e h = choice_row e
    code_row kind.Comma e h = yields_given (Holds (length js)) (typing_at js (kid node 0)) _ (λ x f. yields_given (Holds (length js)) (typing_at js (kid node 1)) (λ y. comma (value_of x) (value_of y)) (λ y g. comma_row kind.Comma e refl (omega arith) x y f g))
    code_row kind.Index e h = yields_given (Holds (length js)) (typing_at js (kid node 0)) _ (λ x f. yields_given (Holds (length js)) (typing_at js (kid node 1)) (subscript js node x) (λ y g. subscript_row kind.Index e refl (omega arith) x y f g))
    code_row kind.Call e h = call_row e
    code_row kind.Dot e h = yields_given (Holds (length js)) (typing_at js (kid node 0)) (dot js node) (λ x g. dot_row e x g)
    code_row kind.Arrow e h = yields_given (Holds (length js)) (typing_at js (kid node 0)) (arrow js node) (λ x g. arrow_row e x g)
    code_row kind.Cast e h = cast_row e
    code_row kind.SizeExpr e h = yields_given (Holds (length js)) (typing_at js (kid node 0)) (λ x. measured_type js x.type (kid node 0)) (λ x g. measured_row x.type (kid node 0))
    code_row kind.SizeType e h = yields_given (Holds (length js)) (type_at js (kid node 0)) (λ u. measured_type js u (kid node 0)) (λ u g. measured_row u (kid node 0))
    code_row k e h = absurd (true≢false (sym h))
