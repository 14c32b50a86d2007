-- What holds of the statements of all nodes, where it holds of the parts that they are made of.
use Rattle.std.proofs.Common.{◌≡◌, ℕ, ◌<◌, Bool, true, false, ◌||◌, List, [], ◌∷◌, length, map, Option, Some, None, refl, sym, ap, ◌∙◌, subst, arith, true≢false}
use Rattle.std.specs.Prelude.{slice_get, if◌then◌else◌, option_map, flat_map}
use Rattle.std.specs.List.{AllByRecursion}
use Rattle.c_lexer.specs.declared.token.Token.{Token}
use Rattle.c_syntax.specs.declared.kind.SynKind.{SynKind}
use Rattle.c_syntax.specs.declared.kind.SynKind.TheVariants as kind
use Rattle.c_syntax.specs.Trees.{Tree}
use Rattle.c_grammar.specs.Derivation.{IsTreeOf}
use Rattle.c_types.specs.declared.tree.Expr.{Expr}
use Rattle.c_types.specs.declared.tree.Stmt.{Stmt}
use Rattle.c_types.specs.declared.tree.Func.{Func}
use Rattle.c_types.specs.Forms.{set_local, drop_expr, unset, return_with, if_else, loop, do_loop, break, continue}
use Rattle.c_typing.specs.Types.{CType}
use Rattle.c_typing.specs.Places.{Node, nodes, node_at, kind_at, kid, has_kid, other_kids, is_loop, is_switch, is_braces}
use Rattle.c_typing.specs.Names.{places, Name, Entity, automatic, name_of, local_number, is_declaration}
use Rattle.c_typing.specs.Judgements.{Meaning, expresses, initialized, performs, labels, defines, Judgement, means, Typing, verdict, judgement_at, typing_at, code_at, all_of}
use Rattle.c_typing.specs.Conversions.{value_of, converted_to, converted_code}
use Rattle.c_typing.specs.Rules.{outside_a_loop, bad_initializer}
use Rattle.c_typing.specs.Initializers.{Part, sole_value, initial_code, object_code, bare_code, is_object, initialized_object, init_by, init_declarator}
use Rattle.c_typing.specs.Statements.{does, as_one, block_of, statement_at, declaration, declarator_code, block_node, expression_statement, empty_statement, if_statement, while_statement, do_statement, part_by, for_part, code_in, first_by, for_statement, is_inside, break_statement, continue_statement, return_by, return_statement, switch_statement, case_label, default_label}
use Rattle.c_typing.specs.Typing.{function_node, judged_by, judgements_at}
use Rattle.c_typing.proofs.MadeJudged.{Yields, yields_verdict, yields_besides, yields_given, IsFront, Known, all_known, meant_later}
use Rattle.c_typing.proofs.MadeNodes.{In}
use Rattle.c_typing.proofs.MadeForms.{is_active, is_passive_kind, yields_if, yields_if_so, passive_row, braces_row, struct_row}
use Rattle.c_typing.proofs.MadeParts.{least_kids, in_kids_where, in_others, typing_meant, code_meant, statement_meant, initialized_meant, all_parts, all_joined}
use Rattle.c_typing.proofs.MadePlaced.{node_there, kid_found, kid_in}

-- expressions, and parentheses, which may stand around one
abbrev pub is_expression_kind : SynKind → Bool
is_expression_kind kind.Paren = true
is_expression_kind (kind.Int type) = true
is_expression_kind kind.Char = true
is_expression_kind kind.Str = true
is_expression_kind kind.Var = true
is_expression_kind kind.Unary = true
is_expression_kind kind.Post = true
is_expression_kind kind.Binary = true
is_expression_kind kind.Assign = true
is_expression_kind kind.Cond = true
is_expression_kind kind.Comma = true
is_expression_kind kind.Index = true
is_expression_kind kind.Call = true
is_expression_kind kind.Dot = true
is_expression_kind kind.Arrow = true
is_expression_kind kind.Cast = true
is_expression_kind kind.SizeExpr = true
is_expression_kind kind.SizeType = true
is_expression_kind k = false

-- a node whose code has that of its kids in it
abbrev pub is_code_kind : SynKind → Bool
is_code_kind kind.Braces = true
is_code_kind kind.InitDecl = true
is_code_kind kind.Declaration = true
is_code_kind kind.Block = true
is_code_kind kind.ExprStmt = true
is_code_kind kind.If = true
is_code_kind kind.While = true
is_code_kind kind.Do = true
is_code_kind kind.For = true
is_code_kind kind.Return = true
is_code_kind kind.Switch = true
is_code_kind k = is_expression_kind k

-- a node that jumps end at
abbrev pub ends_jumps : SynKind → Bool
ends_jumps k = is_loop k || is_switch k

-- what is said of expressions by their nodes, of values, of statements, of statements without jumps, of functions and of labels
module _ (t : Tree) (X : ℕ → Typing → ℕ → Type 0) (V : ℕ → Expr → Type 0) (S Q : ℕ → Stmt → Type 0) (D : ℕ → Func → Type 0) (L : ℕ → Option ℕ → Type 0) where
  abbrev pub Good : ℕ → Meaning → Type 0
  Good n (expresses x h) = X n x h
  Good n (performs ss) = AllByRecursion (S n) ss × (is_declaration (kind_at (nodes t) n) ≡ true → AllByRecursion (Q n) ss)
  Good n (initialized u ss cs) = AllByRecursion (Q n) ss
  Good n (defines f) = D n f
  Good n (labels w) = L n w
  Good n m = Unit {0}

  abbrev pub OptionGood : ℕ → Option Expr → Type 0
  OptionGood n o = (e : Expr) → o ≡ Some e → V n e

  -- it holds of what is made of parts of which it holds
  pub record Closes : Type 0 where
    pub value : (n : ℕ) (x : Typing) (h : ℕ) → judgement_at (judgements_at (places t)) n ≡ means (expresses x h) → X n x h → V n (value_of x).code
    pub higher : (n k : ℕ) (node : Node) (e : Expr) → slice_get (nodes t) n ≡ Some node → is_code_kind node.label.kind ≡ true → In k node.kids → V k e → V n e
    pub converted : (n : ℕ) (from to : CType) (e : Expr) → V n e → V n (converted_code from to e)
    pub outer : (n k : ℕ) (node : Node) (s : Stmt) → slice_get (nodes t) n ≡ Some node → is_code_kind node.label.kind ≡ true → ends_jumps node.label.kind ≡ false → In k node.kids → S k s → S n s
    pub outer_plain : (n k : ℕ) (node : Node) (s : Stmt) → slice_get (nodes t) n ≡ Some node → is_code_kind node.label.kind ≡ true → In k node.kids → Q k s → Q n s
    pub plain : (n : ℕ) (s : Stmt) → Q n s → S n s
    pub in_block : (n : ℕ) (ss : List Stmt) → AllByRecursion (S n) ss → S n (block_of ss)
    pub plain_block : (n : ℕ) (ss : List Stmt) → AllByRecursion (Q n) ss → Q n (block_of ss)
    pub dropped : (n : ℕ) (e : Expr) → V n e → Q n (drop_expr e)
    pub set : (n : ℕ) (node : Node) (a : Name) (e : Expr) → slice_get (nodes t) n ≡ Some node → node.label.kind ≡ kind.InitDecl → name_of (places t) (node_at (nodes t) (kid node 0)).first ≡ Some a → a.entity ≡ automatic → V n e → V n (set_local (local_number (places t) a) e)
    pub without : (n : ℕ) (node : Node) (a : Name) → slice_get (nodes t) n ≡ Some node → node.label.kind ≡ kind.InitDecl → name_of (places t) (node_at (nodes t) (kid node 0)).first ≡ Some a → a.entity ≡ automatic → Q n (unset (local_number (places t) a))
    pub returned : (n : ℕ) (o : Option Expr) → OptionGood n o → S n (return_with o)
    pub chosen : (n : ℕ) (e : Expr) (a b : Stmt) → V n e → S n a → S n b → S n (if_else e a b)
    pub looped : (n k : ℕ) (node : Node) (test step : Option Expr) (s : Stmt) → slice_get (nodes t) n ≡ Some node → is_loop node.label.kind ≡ true → In k node.kids → OptionGood n test → OptionGood n step → S k s → S n (loop test step s)
    pub looped_first : (n k : ℕ) (node : Node) (e : Expr) (s : Stmt) → slice_get (nodes t) n ≡ Some node → is_loop node.label.kind ≡ true → In k node.kids → V n e → S k s → S n (do_loop s e)
    pub broken : (n : ℕ) (node : Node) → slice_get (nodes t) n ≡ Some node → node.label.kind ≡ kind.Break → is_inside (λ k. is_loop k || is_switch k) (places t) node ≡ true → S n break
    pub continued : (n : ℕ) (node : Node) → slice_get (nodes t) n ≡ Some node → node.label.kind ≡ kind.Continue → is_inside is_loop (places t) node ≡ true → S n continue
    pub switched : (js : List Judgement) (node : Node) → slice_get (nodes t) (length js) ≡ Some node → IsFront (places t) js → node.label.kind ≡ kind.Switch → Known (places t) Good js → Yields (Good (length js)) (switch_statement js node)
    pub labelled : (js : List Judgement) (node : Node) → slice_get (nodes t) (length js) ≡ Some node → IsFront (places t) js → node.label.kind ≡ kind.Case → Yields (Good (length js)) (case_label (places t) js node)
    pub otherwise : (js : List Judgement) (node : Node) → slice_get (nodes t) (length js) ≡ Some node → IsFront (places t) js → node.label.kind ≡ kind.Default → Yields (Good (length js)) (default_label (places t) js node)
    pub function : (js : List Judgement) (node : Node) → slice_get (nodes t) (length js) ≡ Some node → IsFront (places t) js → node.label.kind ≡ kind.Function → Known (places t) Good js → Yields (Good (length js)) (function_node (places t) js node)
    pub expression : (js : List Judgement) (node : Node) → slice_get (nodes t) (length js) ≡ Some node → IsFront (places t) js → is_expression_kind node.label.kind ≡ true → Known (places t) Good js → Yields (Good (length js)) (judged_by (places t) js node node.label.kind)

  module _ (tokens : List Token) (derived : IsTreeOf tokens t) (c : Closes) (js : List Judgement) (node : Node) (there : slice_get (nodes t) (length js) ≡ Some node) (front : IsFront (places t) js) (known : Known (places t) Good js) where
    n : ℕ
    n = length js

    as_one_good : (k : ℕ) (ss : List Stmt) → AllByRecursion (S k) ss → S k (as_one ss)
    as_one_good k [] h = c.in_block k [] tt
    as_one_good k (s ∷ []) h = h.0
    as_one_good k (s ∷ r ∷ ss) h = c.in_block k (s ∷ r ∷ ss) h

    as_one_plain : (k : ℕ) (ss : List Stmt) → AllByRecursion (Q k) ss → Q k (as_one ss)
    as_one_plain k [] h = c.plain_block k [] tt
    as_one_plain k (s ∷ []) h = h.0
    as_one_plain k (s ∷ r ∷ ss) h = c.plain_block k (s ∷ r ∷ ss) h

    all_outer : (k : ℕ) (ss : List Stmt) → is_code_kind node.label.kind ≡ true → ends_jumps node.label.kind ≡ false → In k node.kids → AllByRecursion (S k) ss → AllByRecursion (S (length js)) ss
    all_outer k [] a b i h = tt
    all_outer k (s ∷ ss) a b i h = (c.outer (length js) k node s there a b i h.0, all_outer k ss a b i h.1)

    all_outer_plain : (k : ℕ) (ss : List Stmt) → is_code_kind node.label.kind ≡ true → In k node.kids → AllByRecursion (Q k) ss → AllByRecursion (Q (length js)) ss
    all_outer_plain k [] a i h = tt
    all_outer_plain k (s ∷ ss) a i h = (c.outer_plain (length js) k node s there a i h.0, all_outer_plain k ss a i h.1)

    all_plain : (k : ℕ) (ss : List Stmt) → AllByRecursion (Q k) ss → AllByRecursion (S k) ss
    all_plain k [] h = tt
    all_plain k (s ∷ ss) h = (c.plain k s h.0, all_plain k ss h.1)

    later : (k : ℕ) (m : Meaning) → judgement_at js k ≡ means m → judgement_at (judgements_at (places t)) k ≡ means m
    later k m e = ap (λ q. judgement_at q k) front.1 ∙ meant_later js front.0 k m e

    -- the value of a kid
    value_at : (k : ℕ) (x : Typing) → is_code_kind node.label.kind ≡ true → In k node.kids → typing_at js k ≡ Some x → V (length js) (value_of x).code
    value_at k x a i e =
        let m = typing_meant (judgement_at js k) x e in
        c.higher (length js) k node (value_of x).code there a i (c.value k x m.0 (later k (expresses x m.0) m.1) (known k (expresses x m.0) m.1))

    statement_of : (k : ℕ) (s : Stmt) → statement_at js k ≡ Some s → S k s
    statement_of k s e =
        let m = statement_meant (judgement_at js k) s e in
        subst (λ r. S k r) m.2 (as_one_good k m.0 (known k (performs m.0) m.1).0)

    statement_in : (k : ℕ) (s : Stmt) → is_code_kind node.label.kind ≡ true → ends_jumps node.label.kind ≡ false → In k node.kids → statement_at js k ≡ Some s → S (length js) s
    statement_in k s a b i e = c.outer (length js) k node s there a b i (statement_of k s e)

    -- what is no declaration means this statement
    only : (k : SynKind) (s : Stmt) → node.label.kind ≡ k → is_declaration k ≡ false → S (length js) s → Good (length js) (does s)
    only k s e f h = ((h, tt), λ g. absurd (true≢false (sym g ∙ (ap is_declaration (ap (λ m. m.label.kind) (node_there tokens t derived (length js) node there) ∙ e) ∙ f))))

    none_good : (o : Option Expr) → o ≡ None → OptionGood (length js) o
    none_good o e x g = absurd (cc (sym e ∙ g))

    some_good : (e : Expr) → V (length js) e → OptionGood (length js) (Some e)
    some_good e h x g = let same : e ≡ x = cc g in subst (λ y. V (length js) y) same h

    in_kid : (k : SynKind) (i : ℕ) → node.label.kind ≡ k → i < least_kids k → In (kid node i) node.kids
    in_kid k i e lt = kid_in tokens t derived (length js) node i there (subst (λ l. i < least_kids l) (sym e) lt)

    code_kind : (k : SynKind) → node.label.kind ≡ k → is_code_kind k ≡ true → is_code_kind node.label.kind ≡ true
    code_kind k e h = ap is_code_kind e ∙ h

    -- ---- blocks and declarations

    block_row : node.label.kind ≡ kind.Block → Yields (Good (length js)) (block_node js node)
    unfolding block_node
    block_row e = yields_given (Good (length js)) _ (λ parts. means (does (block_of (flat_map (λ ss. ss) parts)))) (λ parts g.
        only kind.Block (block_of (flat_map (λ ss. ss) parts)) e refl (c.in_block (length js) (flat_map (λ ss. ss) parts) (all_joined (S (length js)) parts
        (all_parts (code_at js) (λ ss. AllByRecursion (S (length js)) ss) node.kids parts
        (λ k ss i h. all_outer k ss (code_kind kind.Block e refl) (ap ends_jumps e) i (known k (performs ss) (code_meant (judgement_at js k) ss h)).0) g))))

    declared : (b : Bool) (parts : List (List Stmt)) → AllByRecursion (Q (length js)) (flat_map (λ ss. ss) parts)
        → Good (length js) (if b then performs [] else does (block_of (flat_map (λ ss. ss) parts)))
    declared true parts h = (tt, λ g. tt)
    declared false parts h =
        let q = c.plain_block (length js) (flat_map (λ ss. ss) parts) h in ((c.plain (length js) (block_of (flat_map (λ ss. ss) parts)) q, tt), λ g. (q, tt))

    parts_plain : node.label.kind ≡ kind.Declaration → (parts : List (List Stmt)) → all_of (map (λ k. declarator_code (judgement_at js k)) (other_kids node)) ≡ Some parts → AllByRecursion (Q (length js)) (flat_map (λ ss. ss) parts)
    parts_plain e parts g = all_joined (Q (length js)) parts
        (all_parts (λ k. declarator_code (judgement_at js k)) (λ ss. AllByRecursion (Q (length js)) ss) (other_kids node) parts
        (λ k ss i h. let m = initialized_meant (judgement_at js k) ss h in
        all_outer_plain k ss (code_kind kind.Declaration e refl) (in_others node k i) (known k (initialized m.0 ss m.1) m.2)) g)

    declaration_row : node.label.kind ≡ kind.Declaration → Yields (Good (length js)) (declaration (places t) js node)
    unfolding declaration
    declaration_row e = search (yields_given, declared, parts_plain)

    -- ---- simple statements, and those with conditions

    expression_end : node.label.kind ≡ kind.ExprStmt → (x : Typing) → typing_at js (kid node 0) ≡ Some x → Good (length js) (does (drop_expr (value_of x).code))
    expression_end e x g = only kind.ExprStmt (drop_expr (value_of x).code) e refl
        (c.plain (length js) (drop_expr (value_of x).code) (c.dropped (length js) (value_of x).code (value_at (kid node 0) x (code_kind kind.ExprStmt e refl) (in_kid kind.ExprStmt 0 e (omega arith)) g)))

    expression_row : node.label.kind ≡ kind.ExprStmt → Yields (Good (length js)) (expression_statement js node)
    unfolding expression_statement
    expression_row e = search (yields_given, expression_end)

    empty_good : S (length js) empty_statement
    empty_good = c.in_block (length js) [] tt

    empty_row : node.label.kind ≡ kind.Empty → Yields (Good (length js)) (means (does empty_statement))
    empty_row e = only kind.Empty empty_statement e refl empty_good

    else_good : node.label.kind ≡ kind.If → (b : Bool) → has_kid node 2 ≡ b → (s : Stmt) → (if b then statement_at js (kid node 2) else Some empty_statement) ≡ Some s → S (length js) s
    else_good e true f s g = statement_in (kid node 2) s (code_kind kind.If e refl) (ap ends_jumps e) (in_kids_where node 2 f) g
    else_good e false f s g = let same : empty_statement ≡ s = cc g in subst (λ r. S (length js) r) same empty_good

    if_end : node.label.kind ≡ kind.If → (x : Typing) → typing_at js (kid node 0) ≡ Some x → (a : Stmt) → statement_at js (kid node 1) ≡ Some a
        → (b : Stmt) → (if has_kid node 2 then statement_at js (kid node 2) else Some empty_statement) ≡ Some b → Good (length js) (does (if_else (value_of x).code a b))
    if_end e x g a h b i = only kind.If (if_else (value_of x).code a b) e refl
        (c.chosen (length js) (value_of x).code a b (value_at (kid node 0) x (code_kind kind.If e refl) (in_kid kind.If 0 e (omega arith)) g)
        (statement_in (kid node 1) a (code_kind kind.If e refl) (ap ends_jumps e) (in_kid kind.If 1 e (omega arith)) h)
        (else_good e (has_kid node 2) refl b i))

    if_row : node.label.kind ≡ kind.If → Yields (Good (length js)) (if_statement js node)
    unfolding if_statement
    if_row e = search (yields_given, yields_besides, if_end)

    while_end : node.label.kind ≡ kind.While → (x : Typing) → typing_at js (kid node 0) ≡ Some x → (s : Stmt) → statement_at js (kid node 1) ≡ Some s → Good (length js) (does (loop (Some (value_of x).code) None s))
    while_end e x g s h = only kind.While (loop (Some (value_of x).code) None s) e refl
        (c.looped (length js) (kid node 1) node (Some (value_of x).code) None s there (ap is_loop e) (in_kid kind.While 1 e (omega arith))
        (some_good (value_of x).code (value_at (kid node 0) x (code_kind kind.While e refl) (in_kid kind.While 0 e (omega arith)) g)) (none_good None refl) (statement_of (kid node 1) s h))

    while_row : node.label.kind ≡ kind.While → Yields (Good (length js)) (while_statement js node)
    unfolding while_statement
    while_row e = search (yields_given, yields_besides, while_end)

    do_end : node.label.kind ≡ kind.Do → (x : Typing) → typing_at js (kid node 1) ≡ Some x → (s : Stmt) → statement_at js (kid node 0) ≡ Some s → Good (length js) (does (do_loop s (value_of x).code))
    do_end e x g s h = only kind.Do (do_loop s (value_of x).code) e refl
        (c.looped_first (length js) (kid node 0) node (value_of x).code s there (ap is_loop e) (in_kid kind.Do 0 e (omega arith))
        (value_at (kid node 1) x (code_kind kind.Do e refl) (in_kid kind.Do 1 e (omega arith)) g) (statement_of (kid node 0) s h))

    do_row : node.label.kind ≡ kind.Do → Yields (Good (length js)) (do_statement js node)
    unfolding do_statement
    do_row e = search (yields_given, yields_besides, do_end)

    -- ---- `for`

    part_value : (i : ℕ) → node.label.kind ≡ kind.For → In (kid node i) node.kids → (o : Option Typing) (v : Option Typing) → typing_at js (kid node i) ≡ o → option_map (λ x. Some (value_of x)) o ≡ Some v → OptionGood (length js) (code_in v)
    part_value i e h None v f g = absurd (cc g)
    part_value i e h (Some x) v f g =
        let same : Some (value_of x) ≡ v = cc g in
        subst (λ w. OptionGood (length js) (code_in w)) same (some_good (value_of x).code (value_at (kid node i) x (code_kind kind.For e refl) h f))

    part_good : (i : ℕ) → node.label.kind ≡ kind.For → In (kid node i) node.kids → (k : SynKind) (v : Option Typing) → part_by js (kid node i) k ≡ Some v → OptionGood (length js) (code_in v)
    part_good i e h kind.Empty v g = let same : None ≡ v = cc g in subst (λ w. OptionGood (length js) (code_in w)) same (none_good None refl)
    part_good i e h _ v g = part_value i e h (typing_at js (kid node i)) v refl g

    first_value : node.label.kind ≡ kind.For → (o : Option Typing) (s : Stmt) → typing_at js (kid node 0) ≡ o → option_map (λ x. drop_expr (value_of x).code) o ≡ Some s → S (length js) s
    first_value e None s f g = absurd (cc g)
    first_value e (Some x) s f g =
        let same : drop_expr (value_of x).code ≡ s = cc g in
        subst (λ r. S (length js) r) same (c.plain (length js) (drop_expr (value_of x).code) (c.dropped (length js) (value_of x).code (value_at (kid node 0) x (code_kind kind.For e refl) (in_kid kind.For 0 e (omega arith)) f)))

    first_good : node.label.kind ≡ kind.For → (k : SynKind) → kind_at (nodes t) (kid node 0) ≡ k → (s : Stmt) → first_by js (kid node 0) k ≡ Some s → S (length js) s
    first_good e kind.Declaration f s g =
        let m = statement_meant (judgement_at js (kid node 0)) s g in
        let q = (known (kid node 0) (performs m.0) m.1).1 (ap is_declaration f) in
        c.plain (length js) s (c.outer_plain (length js) (kid node 0) node s there (code_kind kind.For e refl) (in_kid kind.For 0 e (omega arith)) (subst (λ r. Q (kid node 0) r) m.2 (as_one_plain (kid node 0) m.0 q)))
    first_good e kind.Empty f s g = let same : empty_statement ≡ s = cc g in subst (λ r. S (length js) r) same empty_good
    first_good e _ f s g = first_value e (typing_at js (kid node 0)) s refl g

    for_end : node.label.kind ≡ kind.For → (test : Option Typing) → for_part (places t) js (kid node 1) ≡ Some test → (first : Stmt) → first_by js (kid node 0) (kind_at (nodes t) (kid node 0)) ≡ Some first
        → (step : Option Typing) → for_part (places t) js (kid node 2) ≡ Some step → (s : Stmt) → statement_at js (kid node 3) ≡ Some s → Good (length js) (does (block_of (first ∷ loop (code_in test) (code_in step) s ∷ [])))
    for_end e test f first g step h s i = only kind.For (block_of (first ∷ loop (code_in test) (code_in step) s ∷ [])) e refl
        (c.in_block (length js) (first ∷ loop (code_in test) (code_in step) s ∷ []) (
          first_good e (kind_at (nodes t) (kid node 0)) refl first g,
          (
            c.looped (length js) (kid node 3) node (code_in test) (code_in step) s there (ap is_loop e) (in_kid kind.For 3 e (omega arith))
                (part_good 1 e (in_kid kind.For 1 e (omega arith)) (kind_at (nodes t) (kid node 1)) test f) (part_good 2 e (in_kid kind.For 2 e (omega arith)) (kind_at (nodes t) (kid node 2)) step h)
                (statement_of (kid node 3) s i),
            tt,
          ),
        ))

    for_row : node.label.kind ≡ kind.For → Yields (Good (length js)) (for_statement (places t) js node)
    unfolding for_statement
    for_row e = search (yields_given, yields_besides, for_end) depth 8

    -- ---- jumps

    break_row : node.label.kind ≡ kind.Break → Yields (Good (length js)) (break_statement (places t) node)
    unfolding break_statement
    break_row e = by (is_inside (λ k. is_loop k || is_switch k) (places t) node) refl
      where
        by : (b : Bool) → is_inside (λ k. is_loop k || is_switch k) (places t) node ≡ b → Yields (Good (length js)) (verdict (outside_a_loop b node.id) (does break))
        by true f = only kind.Break break e refl (c.broken (length js) node there e f)
        by false f = tt

    continue_row : node.label.kind ≡ kind.Continue → Yields (Good (length js)) (continue_statement (places t) node)
    unfolding continue_statement
    continue_row e = by (is_inside is_loop (places t) node) refl
      where
        by : (b : Bool) → is_inside is_loop (places t) node ≡ b → Yields (Good (length js)) (verdict (outside_a_loop b node.id) (does continue))
        by true f = only kind.Continue continue e refl (c.continued (length js) node there e f)
        by false f = tt

    value_end : node.label.kind ≡ kind.Return → has_kid node 0 ≡ true → (r : CType) (x : Typing) → typing_at js (kid node 0) ≡ Some x → Good (length js) (does (return_with (Some (converted_to r (value_of x)))))
    value_end e f r x g = only kind.Return (return_with (Some (converted_to r (value_of x)))) e refl
        (c.returned (length js) (Some (converted_to r (value_of x))) (some_good (converted_to r (value_of x))
        (c.converted (length js) (value_of x).type r (value_of x).code (value_at (kid node 0) x (code_kind kind.Return e refl) (in_kids_where node 0 f) g))))

    none_end : node.label.kind ≡ kind.Return → Good (length js) (does (return_with None))
    none_end e = only kind.Return (return_with None) e refl (c.returned (length js) None (none_good None refl))

    return_by_row : node.label.kind ≡ kind.Return → (r : CType) → Yields (Good (length js)) (return_by js node r)
    unfolding return_by
    return_by_row e r = yields_if_so (Good (length js)) (has_kid node 0) _ _ (λ f. search (yields_given, yields_verdict, value_end)) (λ f. search (yields_verdict, none_end))

    return_row : node.label.kind ≡ kind.Return → Yields (Good (length js)) (return_statement (places t) js node)
    unfolding return_statement
    return_row e = search (yields_given, return_by_row)

    -- ---- declarators with their initializers

    init_value : (a : Name) → node.label.kind ≡ kind.InitDecl → name_of (places t) (node_at (nodes t) (kid node 0)).first ≡ Some a → a.entity ≡ automatic → (k : ℕ) → In k node.kids → (u : CType)
        → (x : Typing) → (h : ℕ) → judgement_at (judgements_at (places t)) k ≡ means (expresses x h) → X k x h → Q (length js) (drop_expr (set_local (local_number (places t) a) (converted_to u (value_of x))))
    init_value a e f g k i u x h l m = c.dropped (length js) (set_local (local_number (places t) a) (converted_to u (value_of x)))
        (c.set (length js) node a (converted_to u (value_of x)) there e f g (c.converted (length js) (value_of x).type u (value_of x).code
        (c.higher (length js) k node (value_of x).code there (code_kind kind.InitDecl e refl) i (c.value k x h l m))))

    -- a value stands in braces, or alone
    sole : (a : Name) → node.label.kind ≡ kind.InitDecl → name_of (places t) (node_at (nodes t) (kid node 0)).first ≡ Some a → a.entity ≡ automatic → (k : ℕ) → In k node.kids → (u : CType)
        → (b : Bool) → is_braces (kind_at (nodes t) k) ≡ b → (x : Typing) → typing_at js (if b then kid (node_at (nodes t) k) 0 else k) ≡ Some x
        → Q (length js) (drop_expr (set_local (local_number (places t) a) (converted_to u (value_of x))))
    sole a e f g k i u false h x m = let m2 = typing_meant (judgement_at js k) x m in init_value a e f g k i u x m2.0 (later k (expresses x m2.0) m2.1) (known k (expresses x m2.0) m2.1)
    sole a e f g k i u true h x m =
        let m2 = typing_meant (judgement_at js (kid (node_at (nodes t) k) 0)) x m in
        let low = kid_found tokens t derived (length js) node k there i in
        let is : node_at (nodes t) k ≡ low.node = node_there tokens t derived k low.node low.there in
        let braced : low.node.label.kind ≡ kind.Braces = braces_are low.node.label.kind (subst (λ (l : Node). is_braces l.label.kind ≡ true) is h) in
        let inner : In (kid low.node 0) low.node.kids = kid_in tokens t derived k low.node 0 low.there (subst (λ l. 0 < least_kids l) (sym braced) (omega arith)) in
        let v : V (kid low.node 0) (value_of x).code = subst (λ (l : Node). V (kid l 0) (value_of x).code) is (c.value (kid (node_at (nodes t) k) 0) x m2.0 (later (kid (node_at (nodes t) k) 0) (expresses x m2.0) m2.1) (known (kid (node_at (nodes t) k) 0) (expresses x m2.0) m2.1)) in
        c.dropped (length js) (set_local (local_number (places t) a) (converted_to u (value_of x)))
        (c.set (length js) node a (converted_to u (value_of x)) there e f g (c.converted (length js) (value_of x).type u (value_of x).code
        (c.higher (length js) k node (value_of x).code there (code_kind kind.InitDecl e refl) i
        (c.higher k (kid low.node 0) low.node (value_of x).code low.there (ap is_code_kind braced) inner v))))
      where
        braces_are : (l : SynKind) → is_braces l ≡ true → l ≡ kind.Braces
        braces_are kind.Braces q = refl
        braces_are _ q = absurd (true≢false (sym q))

    initial_good : (a : Name) → node.label.kind ≡ kind.InitDecl → name_of (places t) (node_at (nodes t) (kid node 0)).first ≡ Some a → a.entity ≡ automatic → (k : ℕ) → In k node.kids → (u : CType)
        → (o : Option Typing) → typing_at js (sole_value (places t) k) ≡ o → AllByRecursion (Q (length js)) (initial_code (local_number (places t) a) u o)
    initial_good a e f g k i u None h = tt
    initial_good a e f g k i u (Some x) h = (sole a e f g k i u (is_braces (kind_at (nodes t) k)) refl x h, tt)

    code_good : (a : Name) → node.label.kind ≡ kind.InitDecl → name_of (places t) (node_at (nodes t) (kid node 0)).first ≡ Some a → (k : ℕ) → In k node.kids → (u : CType)
        → (y : Entity) → a.entity ≡ y → AllByRecursion (Q (length js)) (object_code (places t) js a u k y)
    code_good a e f k i u automatic g = initial_good a e f g k i u (typing_at js (sole_value (places t) k)) refl
    code_good a e f k i u _ g = tt

    bare_good : (a : Name) → node.label.kind ≡ kind.InitDecl → name_of (places t) (node_at (nodes t) (kid node 0)).first ≡ Some a → (y : Entity) → a.entity ≡ y → AllByRecursion (Q (length js)) (bare_code (places t) a y)
    bare_good a e f automatic g = (c.without (length js) node a there e f g, tt)
    bare_good a e f _ g = tt

    object_row : (a : Name) → node.label.kind ≡ kind.InitDecl → name_of (places t) (node_at (nodes t) (kid node 0)).first ≡ Some a → (k : ℕ) → In k node.kids → (u : CType) (q : Part)
        → Yields (Good (length js)) (initialized_object (places t) js k a u q)
    unfolding initialized_object
    object_row a e f k i u q = yields_verdict (Good (length js)) _ (initialized _ (object_code (places t) js a _ k a.entity) q.cells) (code_good a e f k i _ a.entity refl)

    init_by_row : node.label.kind ≡ kind.InitDecl → (u : CType) (a : Name) → name_of (places t) (node_at (nodes t) (kid node 0)).first ≡ Some a → Yields (Good (length js)) (init_by (places t) js node u a)
    unfolding init_by
    init_by_row e u a f = yields_if_so (Good (length js)) (has_kid node 1) _ _
        (λ h. yields_if (Good (length js)) (is_object a.entity) _ _ (yields_given (Good (length js)) _ (initialized_object (places t) js (kid node 1) a u) (λ q g. object_row a e f (kid node 1) (in_kids_where node 1 h) u q)) (yields_verdict (Good (length js)) (bad_initializer true (kid node 1)) (initialized u [] []) tt))
        (λ h. bare_good a e f a.entity refl)

    init_row : node.label.kind ≡ kind.InitDecl → Yields (Good (length js)) (init_declarator (places t) js node)
    unfolding init_declarator
    init_row e = search (yields_given, init_by_row)

    -- ---- all of them

    free : (m : Meaning) → is_active m ≡ false → Good (length js) m
    free (expresses x h) e = absurd (true≢false e)
    free (performs ss) e = absurd (true≢false e)
    free (initialized u ss cs) e = absurd (true≢false e)
    free (defines f) e = absurd (true≢false e)
    free (labels w) e = absurd (true≢false e)
    free _ e = tt

    other_row : (k : SynKind) → node.label.kind ≡ k → (b : Bool) → is_expression_kind k ≡ b → b || is_passive_kind k ≡ true → Yields (Good (length js)) (judged_by (places t) js node k)
    other_row k e true f h = subst (λ i. Yields (Good (length js)) (judged_by (places t) js node i)) e (c.expression js node there front (ap is_expression_kind e ∙ f) known)
    other_row k e false f h = passive_row (Good (length js)) free (λ ss. tt) (places t) js node k h

    row : (k : SynKind) → node.label.kind ≡ k → Yields (Good (length js)) (judged_by (places t) js node k)
    unfolding judged_by
    row kind.Declaration e = declaration_row e
    row kind.InitDecl e = init_row e
    row kind.Function e = c.function js node there front e known
    row kind.Braces e = braces_row (Good (length js)) (λ m cs. tt) (places t) js node
    row kind.StructSpec e = struct_row (places t) js node (Good (length js)) (λ fs k. tt) (λ u. tt)
    row kind.Case e = c.labelled js node there front e
    row kind.Default e = c.otherwise js node there front e
    row kind.Block e = block_row e
    row kind.ExprStmt e = expression_row e
    row kind.Empty e = empty_row e
    row kind.If e = if_row e
    row kind.While e = while_row e
    row kind.Do e = do_row e
    row kind.For e = for_row e
    row kind.Break e = break_row e
    row kind.Continue e = continue_row e
    row kind.Return e = return_row e
    row kind.Switch e = c.switched js node there front e known
    row k e = other_row k e (is_expression_kind k) refl refl

  pub all_good : (tokens : List Token) → IsTreeOf tokens t → Closes → Known (places t) Good (judgements_at (places t))
  all_good tokens derived c = all_known (places t) Good (λ js node there front known. row tokens derived c js node there front known node.label.kind refl)
