-- Each `break` and `continue` is ended by a statement around it.
use Rattle.std.proofs.Common.{◌≡◌, ◌⊎◌, inl, inr, ℕ, ◌<◌, Bool, true, false, List, [], ◌∷◌, length, map, Option, Some, refl, sym, ap, ◌∙◌, subst, arith, true≢false}
use Rattle.std.specs.Prelude.{slice_get, filter_map}
use Rattle.std.specs.List.{AllByRecursion}
use mathlib.Core.Former.{Count}
use Rattle.c_lexer.specs.declared.token.Token.{Token}
use Rattle.c_syntax.specs.declared.kind.SynKind.{SynKind}
use Rattle.c_syntax.specs.declared.kind.SynKind.TheVariants as kind
use Rattle.c_syntax.specs.Trees.{Tree}
use Rattle.c_grammar.specs.Derivation.{IsTreeOf}
use Rattle.c_types.specs.declared.tree.Expr.{Expr}
use Rattle.c_types.specs.declared.tree.Stmt.{Stmt}
use Rattle.c_types.specs.declared.tree.Group.{Group}
use Rattle.c_types.specs.declared.tree.Func.{Func}
use Rattle.c_types.specs.Forms.{StmtRow, no_stmts, a_stmt, GroupRow, no_groups, a_group, block, drop_expr, unset, return_with, if_else, loop, do_loop, break, continue, switch, length_of, stmt_row, group_row}
use Rattle.c_types.specs.WellMade.{JumpsEnd, JumpsEndIn, JumpsEndOf}
use Rattle.c_typing.specs.Places.{Node, nodes, kid, kind_at, other_kids, is_loop}
use Rattle.c_typing.specs.Names.{places, is_declaration}
use Rattle.c_typing.specs.Judgements.{Meaning, expresses, initialized, performs, labels, defines, Judgement, Typing, judgement_at, code_at, all_of}
use Rattle.c_typing.specs.Conversions.{value_of}
use Rattle.c_typing.specs.Statements.{does, as_one, block_of, Item, item_at, groups_of, switch_statement}
use Rattle.c_typing.specs.Typing.{function_node, judgements_at, defined_in}
use Rattle.c_typing.proofs.MadeJudged.{Yields, yields_besides, yields_given, Known}
use Rattle.c_typing.proofs.MadeNodes.{In}
use Rattle.c_typing.proofs.MadeForms.{is_active, case_row, default_row}
use Rattle.c_typing.proofs.MadeParts.{least_kids, in_others, code_meant, all_parts}
use Rattle.c_typing.proofs.MadePlaced.{kid_in, node_there}
use Rattle.c_typing.proofs.MadeAround.{Surrounding, inside, surrounding, around_parent, inside_outer, inside_so}
use Rattle.c_typing.proofs.MadeTop.{around_function}
use Rattle.c_typing.proofs.MadeGroups.{ItemGood, Meant, label, statement, item_meant, BodiesGood, bodies_good}
use Rattle.c_typing.proofs.MadeFunctions.{functions_good}
use Rattle.c_typing.proofs.MadeAnything.{any_row}
use Rattle.c_typing.proofs.MadeStatements.{ends_jumps, Good, Closes, all_good}

-- ---- more statements around keep it

mutual
  jumps_more : (a b c d : Bool) → (a ≡ true → c ≡ true) → (b ≡ true → d ≡ true) → (s : Stmt) → JumpsEnd a b s → JumpsEnd c d s
  jumps_more a b c d f g (block n ss) h = jumps_more_in a b c d f g ss h
  jumps_more a b c d f g (if_else e x y) h = (jumps_more a b c d f g x h.0, jumps_more a b c d f g y h.1)
  jumps_more a b c d f g (loop test step body) h = h
  jumps_more a b c d f g (do_loop body test) h = h
  jumps_more a b c d f g (switch e n gs) h = jumps_more_of a c f gs h
  jumps_more a b c d f g continue h = f h
  jumps_more a b c d f g break h = g h
  jumps_more a b c d f g (drop_expr e) h = tt
  jumps_more a b c d f g (unset x) h = tt
  jumps_more a b c d f g (return_with e) h = tt

  jumps_more_in : (a b c d : Bool) → (a ≡ true → c ≡ true) → (b ≡ true → d ≡ true) → {n : Count} (ss : StmtRow n) → JumpsEndIn a b ss → JumpsEndIn c d ss
  jumps_more_in a b c d f g no_stmts h = tt
  jumps_more_in a b c d f g (a_stmt s ss) h = (jumps_more a b c d f g s h.0, jumps_more_in a b c d f g ss h.1)

  jumps_more_of : (a c : Bool) → (a ≡ true → c ≡ true) → {n : Count} (gs : GroupRow n) → JumpsEndOf a gs → JumpsEndOf c gs
  jumps_more_of a c f no_groups h = tt
  jumps_more_of a c f (a_group words other n body gs) h = (jumps_more_in a true c true f (λ e. refl) body h.0, jumps_more_of a c f gs h.1)

all_in : (a b : Bool) (ss : List Stmt) → AllByRecursion (JumpsEnd a b) ss → JumpsEndIn a b (stmt_row ss)
all_in a b [] h = tt
all_in a b (s ∷ ss) h = (h.0, all_in a b ss h.1)

all_of_groups : (a : Bool) (gs : List Group) → BodiesGood (JumpsEnd a true) gs → JumpsEndOf a (group_row gs)
all_of_groups a [] h = tt
all_of_groups a (g ∷ gs) h = (all_in a true g.body h.0, all_of_groups a gs h.1)

module _ (tokens : List Token) (t : Tree) (derived : IsTreeOf tokens t) where
  in_loop : ℕ → Bool
  in_loop n = inside is_loop t n

  in_either : ℕ → Bool
  in_either n = inside ends_jumps t n

  abbrev Ends : ℕ → Stmt → Type 0
  Ends n s = JumpsEnd (in_loop n) (in_either n) s

  abbrev Free : ℕ → Stmt → Type 0
  Free n s = (a b : Bool) → JumpsEnd a b s

  abbrev Whole : ℕ → Func → Type 0
  Whole n f = JumpsEnd false false f.body

  abbrev Any : ℕ → Expr → Type 0
  Any n e = Unit {0}

  abbrev AnyLabel : ℕ → Option ℕ → Type 0
  AnyLabel n w = Unit {0}

  abbrev AnyTyping : ℕ → Typing → ℕ → Type 0
  AnyTyping n x h = Unit {0}

  no_loop : (k : SynKind) → ends_jumps k ≡ false → is_loop k ≡ false
  no_loop kind.While e = absurd (true≢false e)
  no_loop kind.Do e = absurd (true≢false e)
  no_loop kind.For e = absurd (true≢false e)
  no_loop _ e = refl

  outer : (n k : ℕ) (node : Node) (s : Stmt) → slice_get (nodes t) n ≡ Some node → ends_jumps node.label.kind ≡ false → In k node.kids → Ends k s → Ends n s
  unfolding in_loop in_either
  outer n k node s there f i h = jumps_more (in_loop k) (in_either k) (in_loop n) (in_either n)
      (inside_outer is_loop t tokens derived n k node there i (no_loop node.label.kind f)) (inside_outer ends_jumps t tokens derived n k node there i f) s h

  free_block : (ss : List Stmt) → AllByRecursion (Free 0) ss → (a b : Bool) → JumpsEndIn a b (stmt_row ss)
  free_block [] h a b = tt
  free_block (s ∷ ss) h a b = (h.0 a b, free_block ss h.1 a b)

  -- ---- `switch`

  item_good : (n k : ℕ) (js : List Judgement) (node : Node) → slice_get (nodes t) n ≡ Some node → node.label.kind ≡ kind.Switch → In k node.kids
      → Known (places t) (Good t AnyTyping Any Ends Free Whole AnyLabel) js → (i : Item) → item_at js k ≡ Some i → ItemGood (JumpsEnd (in_loop n) true) i
  unfolding in_loop in_either
  item_good n k js node there e h known i g = by i (item_meant js k i (judgement_at js k) refl g)
    where
      one : (ss : List Stmt) → AllByRecursion (Ends k) ss → Ends k (as_one ss)
      one [] a = tt
      one (s ∷ []) a = a.0
      one (s ∷ r ∷ ss) a = all_in (in_loop k) (in_either k) (s ∷ r ∷ ss) a

      by : (i : Item) → Meant (judgement_at js k) i → ItemGood (JumpsEnd (in_loop n) true) i
      by _ (label w m) = tt
      by _ (statement ss m) = jumps_more (in_loop k) (in_either k) (in_loop n) true
          (inside_outer is_loop t tokens derived n k node there h (ap is_loop e)) (λ x. refl) (as_one ss) (one ss (known k (performs ss) m).0)

  not_declared : (n : ℕ) (node : Node) → slice_get (nodes t) n ≡ Some node → (k : SynKind) → node.label.kind ≡ k → is_declaration k ≡ false → is_declaration (kind_at (nodes t) n) ≡ true → ⊥
  not_declared n node there k e f g =
      true≢false (sym g ∙ (ap is_declaration (ap (λ (m : Node). m.label.kind) (node_there tokens t derived n node there) ∙ e) ∙ f))

  switch_end : (js : List Judgement) (node : Node) → slice_get (nodes t) (length js) ≡ Some node → node.label.kind ≡ kind.Switch
      → Known (places t) (Good t AnyTyping Any Ends Free Whole AnyLabel) js → (x : Typing) (items : List Item) → all_of (map (item_at js) (other_kids node)) ≡ Some items
      → Good t AnyTyping Any Ends Free Whole AnyLabel (length js) (does (switch (value_of x).code (length_of (groups_of items).groups) (group_row (groups_of items).groups)))
  switch_end js node there e known x items g = (
    (
      all_of_groups (in_loop (length js)) (groups_of items).groups (bodies_good (JumpsEnd (in_loop (length js)) true) items
          (all_parts (item_at js) (ItemGood (JumpsEnd (in_loop (length js)) true)) (other_kids node) items
          (λ k i h m. item_good (length js) k js node there e (in_others node k h) known i m) g)),
      tt,
    ),
    λ d. absurd (not_declared (length js) node there kind.Switch e refl d),
  )

  switch_row : (js : List Judgement) (node : Node) → slice_get (nodes t) (length js) ≡ Some node → node.label.kind ≡ kind.Switch
      → Known (places t) (Good t AnyTyping Any Ends Free Whole AnyLabel) js → Yields (Good t AnyTyping Any Ends Free Whole AnyLabel (length js)) (switch_statement js node)
  unfolding switch_statement
  switch_row js node there e known = search (yields_given, yields_besides, switch_end)

  -- ---- functions

  body_good : (n : ℕ) (node : Node) → slice_get (nodes t) n ≡ Some node → node.label.kind ≡ kind.Function → (ss : List Stmt) → AllByRecursion (Ends (kid node 2)) ss → JumpsEnd false false (as_one ss)
  unfolding in_loop in_either
  body_good n node there e ss h = jumps_more (in_loop (kid node 2)) (in_either (kid node 2)) false false
      (λ g. absurd (nothing is_loop refl refl g)) (λ g. absurd (nothing ends_jumps refl refl g)) (as_one ss) (one ss h)
    where
      one : (ss : List Stmt) → AllByRecursion (Ends (kid node 2)) ss → Ends (kid node 2) (as_one ss)
      one [] a = tt
      one (s ∷ []) a = a.0
      one (s ∷ r ∷ ss) a = all_in (in_loop (kid node 2)) (in_either (kid node 2)) (s ∷ r ∷ ss) a

      inner : In (kid node 2) node.kids
      inner = kid_in tokens t derived n node 2 there (subst (λ l. 2 < least_kids l) (sym e) (omega arith))

      nothing : (test : SynKind → Bool) → test kind.Function ≡ false → test kind.Unit ≡ false → inside test t (kid node 2) ≡ true → ⊥
      nothing test f u g = by (around_parent test t tokens derived n (kid node 2) node there inner (surrounding test t (kid node 2) g))
        where
          by : (test node.label.kind ≡ true) ⊎ Surrounding test t n → ⊥
          by (inl p) = true≢false (sym p ∙ (ap test e ∙ f))
          by (inr s) = true≢false (sym s.passes ∙ (ap test (around_function tokens t derived n node s.node there e s.among s.from s.to) ∙ u))

  function_end : (js : List Judgement) (node : Node) → slice_get (nodes t) (length js) ≡ Some node → node.label.kind ≡ kind.Function
      → Known (places t) (Good t AnyTyping Any Ends Free Whole AnyLabel) js → (ss : List Stmt) → code_at js (kid node 2) ≡ Some ss → JumpsEnd false false (as_one ss)
  function_end js node there e known ss g = body_good (length js) node there e ss (known (kid node 2) (performs ss) (code_meant (judgement_at js (kid node 2)) ss g)).0

  function_row : (js : List Judgement) (node : Node) → slice_get (nodes t) (length js) ≡ Some node → node.label.kind ≡ kind.Function
      → Known (places t) (Good t AnyTyping Any Ends Free Whole AnyLabel) js → Yields (Good t AnyTyping Any Ends Free Whole AnyLabel (length js)) (function_node (places t) js node)
  unfolding function_node
  function_row js node there e known = search (yields_given, function_end)

  -- ---- all of it

  free : (n : ℕ) (m : Meaning) → is_active m ≡ false → Good t AnyTyping Any Ends Free Whole AnyLabel n m
  free n (expresses x h) e = tt
  free n (performs ss) e = absurd (true≢false e)
  free n (initialized u ss cs) e = absurd (true≢false e)
  free n (defines f) e = absurd (true≢false e)
  free n (labels w) e = tt
  free n _ e = tt

  plain_block : (n : ℕ) (ss : List Stmt) → AllByRecursion (Free n) ss → Free n (block_of ss)
  plain_block n ss h a b = free_block ss h a b

  closes : Closes t AnyTyping Any Ends Free Whole AnyLabel
  unfolding in_loop in_either
  closes = record {
    value = λ n x h j g. tt;
    higher = λ n k node e there f i h. tt;
    converted = λ n from to e h. tt;
    outer = λ n k node s there f g i h. outer n k node s there g i h;
    outer_plain = λ n k node s there f i h. h;
    plain = λ n s h. h (in_loop n) (in_either n);
    in_block = λ n ss h. all_in (in_loop n) (in_either n) ss h;
    plain_block = plain_block;
    dropped = λ n e h a b. tt;
    set = λ n node a e there f g h i. tt;
    without = λ n node a there e f g c d. tt;
    returned = λ n o h. tt;
    chosen = λ n e a b h f g. (f, g);
    looped = λ n k node test step s there f i g h q. jumps_more (in_loop k) (in_either k) true true (λ x. refl) (λ x. refl) s q;
    looped_first = λ n k node e s there f i g q. jumps_more (in_loop k) (in_either k) true true (λ x. refl) (λ x. refl) s q;
    broken = λ n node there e h. inside_so ends_jumps t tokens derived n node there (ap ends_jumps e) h;
    continued = λ n node there e h. inside_so is_loop t tokens derived n node there (ap is_loop e) h;
    switched = λ js node there front e known. switch_row js node there e known;
    labelled = λ js node there front e. case_row (Good t AnyTyping Any Ends Free Whole AnyLabel (length js)) (λ w. tt) (places t) js node;
    otherwise = λ js node there front e. default_row (Good t AnyTyping Any Ends Free Whole AnyLabel (length js)) (λ w. tt) (places t) js node;
    function = λ js node there front e known. function_row js node there e known;
    expression = λ js node there front e known. any_row (Good t AnyTyping Any Ends Free Whole AnyLabel (length js)) (free (length js)) (λ ss. tt) (λ x h. tt) (places t) js node node.label.kind refl e;
  }

  pub jumps_end : AllByRecursion (λ (f : Func). JumpsEnd false false f.body) (filter_map defined_in (judgements_at (places t)))
  jumps_end = functions_good (λ (f : Func). JumpsEnd false false f.body) (judgements_at (places t)) (λ n f e. all_good t AnyTyping Any Ends Free Whole AnyLabel tokens derived closes n (defines f) e)
