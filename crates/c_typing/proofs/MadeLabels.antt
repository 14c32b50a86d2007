-- The labels of a `switch` differ, and at most one is the default.
use Rattle.std.proofs.Common.{◌≡◌, inl, inr, ℕ, ◌<◌, ◌≤◌, Bool, true, false, List, [], ◌∷◌, ◌++◌, length, map, Option, Some, None, refl, sym, ap, ◌∙◌, subst, arith, true≢false, le_trans, drop}
use Rattle.std.specs.Prelude.{slice_get, filter_map, nat_lt}
use Rattle.std.specs.List.{AllByRecursion, IsDistinct}
use Rattle.std.specs.Bool.{nat_eq}
use Rattle.c_lexer.specs.declared.token.Token.{Token}
use Rattle.c_syntax.specs.declared.kind.SynKind.{SynKind}
use Rattle.c_syntax.specs.declared.kind.SynKind.TheVariants as kind
use Rattle.c_syntax.specs.Trees.{Tree}
use Rattle.c_grammar.specs.Derivation.{IsTreeOf}
use Rattle.c_types.specs.declared.tree.Expr.{Expr}
use Rattle.c_types.specs.declared.tree.Stmt.{Stmt}
use Rattle.c_types.specs.declared.tree.Func.{Func}
use Rattle.c_types.specs.Forms.{switch, length_of, group_row}
use Rattle.c_types.specs.WellMade.{LabelsDiffer, HasOneOther, labels_of, others}
use Rattle.c_types.specs.Every.{EveryStmt}
use Rattle.c_typing.specs.Conversions.{value_of}
use Rattle.c_typing.specs.Places.{Node, nodes, node_at, kid, kind_at, other_kids, parent_of}
use Rattle.c_typing.specs.Names.{Places, places, is_declaration}
use Rattle.c_typing.specs.Judgements.{Constant, number, undefined, Meaning, expresses, initialized, performs, labels, defines, Judgement, means, verdict, judgement_at, typing_at, code_at, all_of, Typing}
use Rattle.c_typing.specs.Rules.{not_constant, out_of_range, case_twice}
use Rattle.c_typing.specs.Declarators.{word_in}
use Rattle.c_typing.specs.Statements.{as_one, does, Item, a_label, a_statement, item_at, groups_of, switch_statement, same_label, has_before, repeated_case, case_label, default_label}
use Rattle.c_typing.specs.Typing.{function_node, judgements_at, defined_in}
use Rattle.c_typing.proofs.MadeJudged.{Yields, yields_besides, yields_given, IsFront, Known, front_at, meant_later}
use Rattle.c_typing.proofs.MadeNodes.{In, in_at, Ascends, ascending}
use Rattle.c_typing.proofs.MadePlaced.{numbered, node_there, kid_found}
use Rattle.c_typing.proofs.MadeParts.{in_others, code_meant, all_parts, before_split}
use Rattle.c_typing.proofs.MadeGroups.{ItemGood, Meant, label, statement, item_meant, bodies_good, words_of, defaults_of, labels_are, others_are, groups_back}
use Rattle.c_typing.proofs.MadeEvery.{every_stmt, every_row, every_groups}
use Rattle.c_typing.proofs.MadeForms.{is_active}
use Rattle.c_typing.proofs.MadeAnything.{any_row}
use Rattle.c_typing.proofs.MadeFunctions.{functions_good, functions_more}
use Rattle.c_typing.proofs.MadeStatements.{Good, Closes, all_good}
use Rattle.c_typing.proofs.MadeAround.{one_any, and_true}

low_is : (a b : ℕ) → a < b → nat_lt a b ≡ true
low_is a b h = grind arith

-- no label before it in its `switch` is the same
pub same_before : (p : Places) (js : List Judgement) (node : Node) (w : Option ℕ) (k : ℕ) (v : Option ℕ) → In k (other_kids (parent_of p.nodes node.id)) → k < node.id
    → judgement_at js k ≡ means (labels v) → same_label v w ≡ true → has_before p js node w ≡ true
same_before p js node w k v h lt e same = search (one_any, and_true, low_is, e)

-- ---- items

abbrev NotSame : Option ℕ → Item → Type 0
NotSame w (a_label v) = same_label w v ≡ false
NotSame w (a_statement s) = Unit {0}

abbrev Apart : Item → List Item → Type 0
Apart (a_label w) items = AllByRecursion (NotSame w) items
Apart (a_statement s) items = Unit {0}

abbrev AllApart : List Item → Type 0
AllApart [] = Unit {0}
AllApart (i ∷ items) = Apart i items × AllApart items

words_apart : (w : ℕ) (items : List Item) → AllByRecursion (NotSame (Some w)) items → AllByRecursion (λ y. nat_eq w y ≡ false) (words_of items)
words_apart w [] h = tt
words_apart w (a_label (Some v) ∷ items) h = (h.0, words_apart w items h.1)
words_apart w (a_label None ∷ items) h = words_apart w items h.1
words_apart w (a_statement s ∷ items) h = words_apart w items h.1

words_distinct : (items : List Item) → AllApart items → IsDistinct nat_eq (words_of items)
unfolding IsDistinct
words_distinct [] h = tt
words_distinct (a_label (Some w) ∷ items) h = (words_apart w items h.0, words_distinct items h.1)
words_distinct (a_label None ∷ items) h = words_distinct items h.1
words_distinct (a_statement s ∷ items) h = words_distinct items h.1

no_default : (items : List Item) → AllByRecursion (NotSame None) items → defaults_of items ≡ 0
no_default [] h = refl
no_default (a_label (Some v) ∷ items) h = no_default items h.1
no_default (a_label None ∷ items) h = absurd (true≢false h.0)
no_default (a_statement s ∷ items) h = no_default items h.1

one_default : (items : List Item) → AllApart items → defaults_of items ≤ 1
one_default [] h = omega arith
one_default (a_label (Some w) ∷ items) h = one_default items h.1
one_default (a_label None ∷ items) h = let e = no_default items h.0 in omega (arith, e)
one_default (a_statement s ∷ items) h = one_default items h.1

module _ (js : List Judgement) where
  abbrev Differ : List ℕ → Type 0
  Differ ks = (a b : ℕ) (v w : Option ℕ) → In a ks → In b ks → a < b → judgement_at js a ≡ means (labels v) → judgement_at js b ≡ means (labels w) → same_label v w ≡ false

  above_in : (k : ℕ) (ks : List ℕ) (a : ℕ) → AllByRecursion (λ i. k < i) ks → In a ks → k < a
  above_in k [] a h i = absurd i
  above_in k (x ∷ ks) a h (inl e) = subst (λ y. k < y) e h.0
  above_in k (x ∷ ks) a h (inr i) = above_in k ks a h.1 i

  head_apart : (k : ℕ) (ks : List ℕ) (items : List Item) → AllByRecursion (λ i. k < i) ks → Differ (k ∷ ks) → all_of (map (item_at js) ks) ≡ Some items → (i : Item) → Meant (judgement_at js k) i → Apart i items
  head_apart k ks items up d g _ (statement ss m) = tt
  head_apart k ks items up d g _ (label w m) = all_parts (item_at js) (NotSame w) ks items (λ a i h e. by a h i (item_meant js a i (judgement_at js a) refl e)) g
    where
      by : (a : ℕ) → In a ks → (i : Item) → Meant (judgement_at js a) i → NotSame w i
      by a h _ (label v e) = d k a w v (inl refl) (inr h) (above_in k ks a up h) m e
      by a h _ (statement ss e) = tt

  items_apart : (ks : List ℕ) (items : List Item) → Ascends ks → Differ ks → all_of (map (item_at js) ks) ≡ Some items → AllApart items
  items_apart [] items up d g = let none : [] ≡ items = cc g in subst AllApart none tt
  items_apart (k ∷ ks) items up d g = by (item_at js k) refl g (λ rest h. items_apart ks rest up.1 (λ a b v w i j. d a b v w (inr i) (inr j)) h)
    where
      by : (o : Option Item) → item_at js k ≡ o → all_of (o ∷ map (item_at js) ks) ≡ Some items → ((rest : List Item) → all_of (map (item_at js) ks) ≡ Some rest → AllApart rest) → AllApart items
      by None e h more = absurd (cc h)
      by (Some i) e h more =
          let split = before_split (item_at js) (λ x. Unit {0}) i (all_of (map (item_at js) ks)) items h in
          subst AllApart (sym split.2) (head_apart k ks split.0 up.0 d split.1 i (item_meant js k i (judgement_at js k) refl e), more split.0 split.1)

-- ---- all statements

module _ (tokens : List Token) (t : Tree) (derived : IsTreeOf tokens t) where
  abbrev Chooses : Stmt → Type 0
  Chooses s = LabelsDiffer s × HasOneOther s

  abbrev All : ℕ → Stmt → Type 0
  All n s = EveryStmt Chooses s

  abbrev Whole : ℕ → Func → Type 0
  Whole n f = EveryStmt Chooses f.body

  abbrev Any : ℕ → Expr → Type 0
  Any n e = Unit {0}

  abbrev AnyTyping : ℕ → Typing → ℕ → Type 0
  AnyTyping n x h = Unit {0}

  -- no label before it in its `switch` is the same
  abbrev Once : ℕ → Option ℕ → Type 0
  Once n w = (k : ℕ) (v : Option ℕ) → In k (other_kids (parent_of (nodes t) n)) → k < n → judgement_at (judgements_at (places t)) k ≡ means (labels v) → same_label v w ≡ false

  abbrev Holds : ℕ → Meaning → Type 0
  Holds n m = Good t AnyTyping Any All All Whole Once n m

  once : (js : List Judgement) (node : Node) (w : Option ℕ) → slice_get (nodes t) (length js) ≡ Some node → IsFront (places t) js → has_before (places t) js node w ≡ false → Once (length js) w
  once js node w there front h k v i lt e = by (same_label v w) refl
    where
      id : node.id ≡ length js
      id = numbered tokens t derived (length js) node there

      early : judgement_at js k ≡ means (labels v)
      early = sym (front_at js front.0 k lt) ∙ (ap (λ j. judgement_at j k) (sym front.1) ∙ e)

      by : (b : Bool) → same_label v w ≡ b → same_label v w ≡ false
      by true same = absurd (true≢false (sym (same_before (places t) js node w k v (subst (λ n. In k (other_kids (parent_of (nodes t) n))) (sym id) i) (omega (arith, id, lt)) early same) ∙ h))
      by false same = same

  default_good : (js : List Judgement) (node : Node) → slice_get (nodes t) (length js) ≡ Some node → IsFront (places t) js → (b : Bool) → has_before (places t) js node None ≡ b
      → Yields (Holds (length js)) (verdict (case_twice b node.id) (labels None))
  default_good js node there front true e = tt
  default_good js node there front false e = once js node None there front e

  default_once : (js : List Judgement) (node : Node) → slice_get (nodes t) (length js) ≡ Some node → IsFront (places t) js → Yields (Holds (length js)) (default_label (places t) js node)
  unfolding default_label
  default_once js node there front = default_good js node there front (has_before (places t) js node None) refl

  word_good : (js : List Judgement) (node : Node) → slice_get (nodes t) (length js) ≡ Some node → IsFront (places t) js → (w : ℕ) (b : Bool) → has_before (places t) js node (Some w) ≡ b
      → Yields (Holds (length js)) (verdict (case_twice b node.id) (labels (Some w)))
  word_good js node there front w true e = tt
  word_good js node there front w false e = once js node (Some w) there front e

  case_good : (js : List Judgement) (node : Node) → slice_get (nodes t) (length js) ≡ Some node → IsFront (places t) js → (k : ℕ) (c : Constant)
      → Yields (Holds (length js)) (verdict (not_constant c k ++ out_of_range c ++ repeated_case (places t) js node c) (labels (Some (word_in c))))
  case_good js node there front k (number w) = word_good js node there front w (has_before (places t) js node (Some w)) refl
  case_good js node there front k (undefined j) = tt
  case_good js node there front k _ = tt

  case_once : (js : List Judgement) (node : Node) → slice_get (nodes t) (length js) ≡ Some node → IsFront (places t) js → Yields (Holds (length js)) (case_label (places t) js node)
  unfolding case_label
  case_once js node there front = yields_given (Holds (length js)) (typing_at js (kid node 0)) _ (λ x e. case_good js node there front (kid node 0) x.constant)

  -- ---- `switch`

  differ : (js : List Judgement) (node : Node) → slice_get (nodes t) (length js) ≡ Some node → IsFront (places t) js → Known (places t) Holds js → Differ js (other_kids node)
  differ js node there front known a b v w i j lt e f =
      let low = kid_found tokens t derived (length js) node b there (in_others node b j) in
      let parent : parent_of (nodes t) b ≡ node =
      ap (λ (x : Node). node_at (nodes t) x.parent) (node_there tokens t derived b low.node low.there)
      ∙ (ap (λ n. node_at (nodes t) n) (low.below ∙ numbered tokens t derived (length js) node there) ∙ node_there tokens t derived (length js) node there) in
      known b (labels w) f a v (subst (λ (x : Node). In a (other_kids x)) (sym parent) i) lt
      (ap (λ q. judgement_at q a) front.1 ∙ meant_later js front.0 a (labels v) e)

  ascend_drop : (ks : List ℕ) → Ascends ks → Ascends (drop 1 ks)
  ascend_drop [] h = tt
  ascend_drop (k ∷ ks) h = h.1

  one_good : (k : ℕ) (ss : List Stmt) → AllByRecursion (All k) ss → All k (as_one ss)
  one_good k [] h = ((tt, tt), tt)
  one_good k (s ∷ []) h = h.0
  one_good k (s ∷ r ∷ ss) h = ((tt, tt), every_row Chooses (s ∷ r ∷ ss) h)

  item_good : (k : ℕ) (js : List Judgement) → Known (places t) Holds js → (i : Item) → Meant (judgement_at js k) i → ItemGood (EveryStmt Chooses) i
  item_good k js known _ (label w e) = tt
  item_good k js known _ (statement ss e) = one_good k ss (known k (performs ss) e).0

  chooses : (e : Expr) (items : List Item) → AllApart items → Chooses (switch e (length_of (groups_of items).groups) (group_row (groups_of items).groups))
  chooses e items h = (
    subst (λ gs. IsDistinct nat_eq (labels_of gs)) (sym (groups_back (groups_of items).groups)) (subst (λ ws. IsDistinct nat_eq ws) (sym (labels_are items)) (words_distinct items h)),
    subst (λ gs. others gs ≤ 1) (sym (groups_back (groups_of items).groups)) (le_trans (others_are items) (one_default items h)),
  )

  not_declared : (n : ℕ) (node : Node) → slice_get (nodes t) n ≡ Some node → (k : SynKind) → node.label.kind ≡ k → is_declaration k ≡ false → is_declaration (kind_at (nodes t) n) ≡ true → ⊥
  not_declared n node there k e f g = true≢false (sym g ∙ (ap is_declaration (ap (λ (m : Node). m.label.kind) (node_there tokens t derived n node there) ∙ e) ∙ f))

  switch_end : (js : List Judgement) (node : Node) → slice_get (nodes t) (length js) ≡ Some node → IsFront (places t) js → node.label.kind ≡ kind.Switch → Known (places t) Holds js
      → (x : Typing) (items : List Item) → all_of (map (item_at js) (other_kids node)) ≡ Some items
      → Holds (length js) (does (switch (value_of x).code (length_of (groups_of items).groups) (group_row (groups_of items).groups)))
  switch_end js node there front e known x items g =
      let up = ascend_drop node.kids (ascending t node (in_at node (nodes t) (length js) there)) in
      let apart = items_apart js (other_kids node) items up (differ js node there front known) g in
      let bodies = bodies_good (EveryStmt Chooses) items (all_parts (item_at js) (ItemGood (EveryStmt Chooses)) (other_kids node) items (λ k i h m. item_good k js known i (item_meant js k i (judgement_at js k) refl m)) g) in
      (((chooses (value_of x).code items apart, every_groups Chooses (groups_of items).groups bodies), tt), λ d. absurd (not_declared (length js) node there kind.Switch e refl d))

  switch_row : (js : List Judgement) (node : Node) → slice_get (nodes t) (length js) ≡ Some node → IsFront (places t) js → node.label.kind ≡ kind.Switch → Known (places t) Holds js → Yields (Holds (length js)) (switch_statement js node)
  unfolding switch_statement
  switch_row js node there front e known = search (yields_given, yields_besides, switch_end)

  -- ---- all of it

  function_end : (js : List Judgement) (node : Node) → Known (places t) Holds js → (ss : List Stmt) → code_at js (kid node 2) ≡ Some ss → EveryStmt Chooses (as_one ss)
  function_end js node known ss g = one_good (kid node 2) ss (known (kid node 2) (performs ss) (code_meant (judgement_at js (kid node 2)) ss g)).0

  function_row : (js : List Judgement) (node : Node) → Known (places t) Holds js → Yields (Holds (length js)) (function_node (places t) js node)
  unfolding function_node
  function_row js node known = search (yields_given, function_end)

  free : (n : ℕ) (m : Meaning) → is_active m ≡ false → Holds n m
  free n (expresses x h) e = tt
  free n (performs ss) e = absurd (true≢false e)
  free n (initialized u ss cs) e = absurd (true≢false e)
  free n (defines f) e = absurd (true≢false e)
  free n (labels w) e = absurd (true≢false e)
  free n _ e = tt

  closes : Closes t AnyTyping Any All All Whole Once
  closes = record {
    value = λ n x h j g. tt;
    higher = λ n k node e there f i h. tt;
    converted = λ n from to e h. tt;
    outer = λ n k node s there f g i h. h;
    outer_plain = λ n k node s there f i h. h;
    plain = λ n s h. h;
    in_block = λ n ss h. ((tt, tt), every_row Chooses ss h);
    plain_block = λ n ss h. ((tt, tt), every_row Chooses ss h);
    dropped = λ n e h. (tt, tt);
    set = λ n node a e there f g h i. tt;
    without = λ n node a there e f g. (tt, tt);
    returned = λ n o h. (tt, tt);
    chosen = λ n e a b h f g. ((tt, tt), f, g);
    looped = λ n k node test step s there f i g h q. ((tt, tt), q);
    looped_first = λ n k node e s there f i g q. ((tt, tt), q);
    broken = λ n node there e h. (tt, tt);
    continued = λ n node there e h. (tt, tt);
    switched = switch_row;
    labelled = λ js node there front e. case_once js node there front;
    otherwise = λ js node there front e. default_once js node there front;
    function = λ js node there front e known. function_row js node known;
    expression = λ js node there front e known. any_row (Holds (length js)) (free (length js)) (λ ss. tt) (λ x h. tt) (places t) js node node.label.kind refl e;
  }

  all_choose : AllByRecursion (λ (f : Func). EveryStmt Chooses f.body) (filter_map defined_in (judgements_at (places t)))
  all_choose = functions_good (λ (f : Func). EveryStmt Chooses f.body) (judgements_at (places t)) (λ n f e. all_good t AnyTyping Any All All Whole Once tokens derived closes n (defines f) e)

  pub labels_differ : AllByRecursion (λ (f : Func). EveryStmt LabelsDiffer f.body) (filter_map defined_in (judgements_at (places t)))
  labels_differ = functions_more (λ (f : Func). EveryStmt Chooses f.body) (λ (f : Func). EveryStmt LabelsDiffer f.body) (filter_map defined_in (judgements_at (places t)))
      (λ f h. every_stmt Chooses LabelsDiffer (λ s g. g.0) f.body h) all_choose

  pub one_other : AllByRecursion (λ (f : Func). EveryStmt HasOneOther f.body) (filter_map defined_in (judgements_at (places t)))
  one_other = functions_more (λ (f : Func). EveryStmt Chooses f.body) (λ (f : Func). EveryStmt HasOneOther f.body) (filter_map defined_in (judgements_at (places t)))
      (λ f h. every_stmt Chooses HasOneOther (λ s g. g.1) f.body h) all_choose
