-- What holds of all statements of the functions, where it holds of what names something.
use Rattle.std.proofs.Common.{◌≡◌, ℕ, ◌<◌, true, false, List, [], ◌∷◌, ◌++◌, length, map, Option, Some, None, refl, sym, ap, ◌∙◌, subst, arith, true≢false}
use Rattle.std.specs.Prelude.{slice_get}
use Rattle.std.specs.List.{AllByRecursion}
use Rattle.c_lexer.specs.declared.token.Token.{Token}
use Rattle.c_syntax.specs.declared.kind.SynKind.{SynKind}
use Rattle.c_syntax.specs.declared.kind.SynKind.TheVariants as kind
use Rattle.c_syntax.specs.Trees.{Tree}
use Rattle.c_grammar.specs.Derivation.{IsTreeOf}
use Rattle.c_types.specs.declared.tree.Expr.{Expr}
use Rattle.c_types.specs.declared.tree.Stmt.{Stmt}
use Rattle.c_types.specs.declared.tree.Func.{Func}
use Rattle.c_types.specs.Forms.{drop_expr, return_with, if_else, loop, do_loop, break, continue, switch, length_of, group_row}
use Rattle.c_types.specs.Every.{EveryExpr, EveryStmt, listed}
use Rattle.c_typing.specs.Types.{CType}
use Rattle.c_typing.specs.Places.{Node, nodes, kid, kind_at, other_kids, is_loop}
use Rattle.c_typing.specs.Names.{places, is_declaration, local_number}
use Rattle.c_typing.specs.Judgements.{Callee, Meaning, expresses, performs, defines, Judgement, means, judgement_at, typing_at, code_at, all_of, Typing}
use Rattle.c_typing.specs.Conversions.{value_of}
use Rattle.c_typing.specs.Statements.{does, as_one, block_of, Item, item_at, groups_of, switch_statement}
use Rattle.c_typing.specs.Typing.{function_node, judgements_at}
use Rattle.c_typing.proofs.MadeJudged.{Yields, yields_besides, yields_given, IsFront, Known, meant_later}
use Rattle.c_typing.proofs.MadeNodes.{In}
use Rattle.c_typing.proofs.MadeForms.{case_row, default_row}
use Rattle.c_typing.proofs.MadeParts.{least_kids, typing_meant, in_others, code_meant, all_parts}
use Rattle.c_typing.proofs.MadePlaced.{kid_in, node_there}
use Rattle.c_typing.proofs.MadeGroups.{ItemGood, Meant, label, statement, item_meant, BodiesGood, bodies_good}
use Rattle.c_typing.proofs.MadeEvery.{every_row, every_groups}
use Rattle.c_typing.proofs.MadeForming.{value_every, converted_every, set_every}
use Rattle.c_typing.proofs.MadeStatements.{is_code_kind, Closes, all_good}
use Rattle.c_typing.proofs.MadeCode.{X, V, Each, S, D, NoLabel, Holds, Leaves, code_row}

loop_code : (k : SynKind) → is_loop k ≡ true → is_code_kind k ≡ true
loop_code kind.While e = refl
loop_code kind.Do e = refl
loop_code kind.For e = refl
loop_code _ e = absurd (true≢false (sym e))

module _ (t : Tree) (P : Expr → Type 0) (R : Stmt → Type 0) (C N : ℕ → Type 0) (L : ℕ → Type 0) (K : Callee → CType → Type 0) (l : Leaves t P R C N L K) where
  abbrev Ss : ℕ → Stmt → Type 0
  Ss n s = S t P R C N L K n s

  abbrev PerStmt : Stmt → Type 0
  PerStmt s = Each t P R C N L K s

  abbrev Meets : ℕ → Meaning → Type 0
  Meets n m = Holds t P R C N L K n m

  at_node : (n : ℕ) (ss : List Stmt) → C n → AllByRecursion (Ss n) ss → AllByRecursion (EveryStmt PerStmt) ss
  at_node n [] c h = tt
  at_node n (s ∷ ss) c h = (h.0 c, at_node n ss c h.1)

  block_good : (ss : List Stmt) → AllByRecursion (EveryStmt PerStmt) ss → EveryStmt PerStmt (block_of ss)
  block_good ss h = ((tt, l.quiet (block_of ss) refl), every_row PerStmt ss h)

  one_good : (ss : List Stmt) → AllByRecursion (EveryStmt PerStmt) ss → EveryStmt PerStmt (as_one ss)
  one_good [] h = block_good [] tt
  one_good (s ∷ []) h = h.0
  one_good (s ∷ r ∷ ss) h = block_good (s ∷ r ∷ ss) h

  options_good : (n : ℕ) (o : Option Expr) → ((e : Expr) → o ≡ Some e → V t P R C N L K n e) → C n → AllByRecursion (EveryExpr P) (listed o)
  options_good n None h c = tt
  options_good n (Some e) h c = (h e refl c, tt)

  all_two : (xs ys : List Expr) → AllByRecursion (EveryExpr P) xs → AllByRecursion (EveryExpr P) ys → AllByRecursion (EveryExpr P) (xs ++ ys)
  all_two [] ys h g = g
  all_two (x ∷ xs) ys h g = (h.0, all_two xs ys h.1 g)

  module _ (tokens : List Token) (derived : IsTreeOf tokens t) where
    item_good : (k : ℕ) (js : List Judgement) → Known (places t) Meets js → C k → (i : Item) → Meant (judgement_at js k) i → ItemGood (EveryStmt PerStmt) i
    item_good k js known c _ (label w e) = tt
    item_good k js known c _ (statement ss e) = one_good ss (at_node k ss c (known k (performs ss) e).0)

    not_declared : (n : ℕ) (node : Node) → slice_get (nodes t) n ≡ Some node → (k : SynKind) → node.label.kind ≡ k → is_declaration k ≡ false → is_declaration (kind_at (nodes t) n) ≡ true → ⊥
    not_declared n node there k e f g = true≢false (sym g ∙ (ap is_declaration (ap (λ (m : Node). m.label.kind) (node_there tokens t derived n node there) ∙ e) ∙ f))

    switch_end : (js : List Judgement) (node : Node) → slice_get (nodes t) (length js) ≡ Some node → IsFront (places t) js → node.label.kind ≡ kind.Switch → Known (places t) Meets js
        → (x : Typing) → typing_at js (kid node 0) ≡ Some x → (items : List Item) → all_of (map (item_at js) (other_kids node)) ≡ Some items
        → Meets (length js) (does (switch (value_of x).code (length_of (groups_of items).groups) (group_row (groups_of items).groups)))
    switch_end js node there front e known x g items h = (
      ((λ c. (((value_good c, tt), l.quiet (switch (value_of x).code (length_of (groups_of items).groups) (group_row (groups_of items).groups)) refl), every_groups PerStmt (groups_of items).groups (bodies c))), tt),
      λ d. absurd (not_declared (length js) node there kind.Switch e refl d),
    )
      where
        later : (k : ℕ) (m : Meaning) → judgement_at js k ≡ means m → judgement_at (judgements_at (places t)) k ≡ means m
        later k m q = ap (λ z. judgement_at z k) front.1 ∙ meant_later js front.0 k m q

        first : In (kid node 0) node.kids
        first = kid_in tokens t derived (length js) node 0 there (subst (λ q. 0 < least_kids q) (sym e) (omega arith))

        value_good : C (length js) → EveryExpr P (value_of x).code
        value_good c =
            let m = typing_meant (judgement_at js (kid node 0)) x g in
            value_every P l.free x (known (kid node 0) (expresses x m.0) m.1 (later (kid node 0) (expresses x m.0) m.1) (l.up (length js) (kid node 0) node there (ap is_code_kind e) first c)).0

        bodies : C (length js) → BodiesGood (EveryStmt PerStmt) (groups_of items).groups
        bodies c = bodies_good (EveryStmt PerStmt) items (all_parts (item_at js) (ItemGood (EveryStmt PerStmt)) (other_kids node) items
            (λ k i n m. item_good k js known (l.up (length js) k node there (ap is_code_kind e) (in_others node k n) c) i (item_meant js k i (judgement_at js k) refl m)) h)

    switch_row : (js : List Judgement) (node : Node) → slice_get (nodes t) (length js) ≡ Some node → IsFront (places t) js → node.label.kind ≡ kind.Switch → Known (places t) Meets js → Yields (Meets (length js)) (switch_statement js node)
    unfolding switch_statement
    switch_row js node there front e known = search (yields_given, yields_besides, switch_end)

    function_end : (js : List Judgement) (node : Node) → slice_get (nodes t) (length js) ≡ Some node → node.label.kind ≡ kind.Function → Known (places t) Meets js → (ss : List Stmt) → code_at js (kid node 2) ≡ Some ss → N (length js) → EveryStmt PerStmt (as_one ss)
    function_end js node there e known ss g n = one_good ss (at_node (kid node 2) ss (l.body (length js) node there e n) (known (kid node 2) (performs ss) (code_meant (judgement_at js (kid node 2)) ss g)).0)

    function_row : (js : List Judgement) (node : Node) → slice_get (nodes t) (length js) ≡ Some node → node.label.kind ≡ kind.Function → Known (places t) Meets js → Yields (Meets (length js)) (function_node (places t) js node)
    unfolding function_node
    function_row js node there e known = search (yields_given, function_end)

    closes : Closes t (X t P R C N L K) (V t P R C N L K) (S t P R C N L K) (S t P R C N L K) (D t P R C N L K) (NoLabel t P R C N L K)
    closes = record {
      value = λ n x h j g c. value_every P l.free x (g j c).0;
      higher = λ n k node e there f i h c. h (l.up n k node there f i c);
      converted = λ n from to e h c. converted_every P l.free from to e (h c);
      outer = λ n k node s there f g i h c. h (l.up n k node there f i c);
      outer_plain = λ n k node s there f i h c. h (l.up n k node there f i c);
      plain = λ n s h. h;
      in_block = λ n ss h c. block_good ss (at_node n ss c h);
      plain_block = λ n ss h c. block_good ss (at_node n ss c h);
      dropped = λ n e h c. ((h c, tt), l.quiet (drop_expr e) refl);
      set = λ n node a e there f g h i c. set_every P l.free L l.is_local l.is_set (local_number (places t) a) e (l.initial n node a there f g h c) (i c);
      without = λ n node a there e f g c. (tt, l.is_unset (local_number (places t) a) (l.initial n node a there e f g c));
      returned = λ n o h c. (options_good n o h c, l.quiet (return_with o) refl);
      chosen = λ n e a b h f g c. (((h c, tt), l.quiet (if_else e a b) refl), f c, g c);
      looped = λ n k node test step s there f i g h q c. ((all_two (listed test) (listed step) (options_good n test g c) (options_good n step h c), l.quiet (loop test step s) refl), q (l.up n k node there (loop_code node.label.kind f) i c));
      looped_first = λ n k node e s there f i g q c. (((g c, tt), l.quiet (do_loop s e) refl), q (l.up n k node there (loop_code node.label.kind f) i c));
      broken = λ n node there e h c. (tt, l.quiet break refl);
      continued = λ n node there e h c. (tt, l.quiet continue refl);
      switched = switch_row;
      labelled = λ js node there front e. case_row (Meets (length js)) (λ w. tt) (places t) js node;
      otherwise = λ js node there front e. default_row (Meets (length js)) (λ w. tt) (places t) js node;
      function = λ js node there front e known. function_row js node there e known;
      expression = λ js node there front e known. code_row t P R C N L K tokens derived l js node there front known node.label.kind refl e;
    }

    pub all_code : (n : ℕ) (f : Func) → judgement_at (judgements_at (places t)) n ≡ means (defines f) → N n → EveryStmt PerStmt f.body
    all_code n f e = all_good t (X t P R C N L K) (V t P R C N L K) (S t P R C N L K) (S t P R C N L K) (D t P R C N L K) (NoLabel t P R C N L K) tokens derived closes n (defines f) e
