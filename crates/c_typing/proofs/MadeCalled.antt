-- The function that a name calls is there, with its parameters.
use Rattle.std.proofs.Common.{◌≡◌, ◌⊎◌, inl, inr, ℕ, zero, suc, ◌<◌, Bool, true, false, ◌||◌, ◌&&◌, cond, List, [], ◌∷◌, length, Some, None, refl, sym, ap, ◌∙◌, subst, arith, true≢false, unwrap_or}
use Rattle.std.specs.Prelude.{slice_get, if◌then◌else◌, filter, filter_map, nat_lt}
use Rattle.std.specs.List.{AllByRecursion, cons_option}
use Rattle.std.specs.Option.{is_some}
use Rattle.std.specs.Str.{bytes_eq}
use Rattle.std.proofs.lemmas.Slice.Eq.{bytes_eq-Decides}
use Rattle.c_lexer.specs.declared.token.Token.{Token}
use Rattle.c_syntax.specs.declared.kind.SynKind.TheVariants as kind
use Rattle.c_syntax.specs.Trees.{Tree}
use Rattle.c_grammar.specs.Derivation.{IsTreeOf}
use Rattle.c_types.specs.declared.tree.Expr.{Expr}
use Rattle.c_types.specs.declared.tree.Func.{Func}
use Rattle.c_types.specs.Forms.{call, exprs, expr_row}
use Rattle.c_types.specs.Every.{EveryExpr, EveryStmt, InEveryExpr, own_exprs}
use Rattle.c_types.specs.WellMade.{CallsFunction}
use Rattle.c_typing.specs.Types.{CType, CTypes, function, types_of, listed}
use Rattle.c_typing.specs.Places.{Node, nodes, is_whole, is_function, in_scope}
use Rattle.c_typing.specs.Names.{Entity, function_name, places, Name, denoted, is_again, earlier, function_number, function_text}
use Rattle.c_typing.specs.Judgements.{Callee, reads_input, writes_output, calls, means, declares, defines, Judgement, judgement_at, type_of}
use Rattle.c_typing.specs.Rules.{is_getchar, is_putchar}
use Rattle.c_typing.specs.Expressions.{callee_of, type_of_name}
use Rattle.c_typing.specs.Shapes as category
use Rattle.c_typing.specs.ShapesOfNodes.{category_at}
use Rattle.c_typing.specs.Typing.{judgements_at, defined_in, unit_in, is_there}
use Rattle.c_typing.proofs.MadeJudged.{IsFront}
use Rattle.c_typing.proofs.MadeNodes.{In, in_at}
use Rattle.c_typing.proofs.MadePlaced.{numbered}
use Rattle.c_typing.proofs.MadeAround.{both_true, and_true}
use Rattle.c_typing.proofs.MadeDefined.{Clean, Defined, defined_at}
use Rattle.c_typing.proofs.MadeNames.{Named, Declares, by_declarator, by_enumerator}
use Rattle.c_typing.proofs.MadeFunctionNames.{kept_of, Anything, no_chains, names_here}
use Rattle.c_typing.proofs.MadeTexts.{text_is}
use Rattle.c_typing.proofs.MadeDistinct.{same_id, three_ways}
use Rattle.c_typing.proofs.MadeOnce.{filter_in}
use Rattle.c_typing.proofs.MadeChains.{Chain, chains}
use Rattle.c_typing.proofs.MadeMain.{position_is, function_kind, some_is, takes_of}
use Rattle.c_typing.proofs.MadeObjects.{denoted_in, again_back, again_through, so_again, used}
use Rattle.c_typing.proofs.MadeKept.{Low, low_by}
use Rattle.c_typing.proofs.MadeTyped.{Declared, name_typed}
use Rattle.c_typing.proofs.MadeCalls.{TakesSo, FunName, fun_name, first_by, of_definition}
use Rattle.c_typing.proofs.MadeEvery.{every_stmt}
use Rattle.c_typing.proofs.MadeForming.{is_free}
use Rattle.c_typing.proofs.MadeFunctions.{functions_good}
use Rattle.c_typing.proofs.MadeCode.{Each, Leaves}
use Rattle.c_typing.proofs.MadeEverywhere.{all_code}

-- ---- functions by their numbers

aligned : (ns : List Node) (js : List Judgement) → ((k : ℕ) (node : Node) → slice_get ns k ≡ Some node → is_function node.label.kind ≡ true → (f : Func) × (judgement_at js k ≡ means (defines f)))
    → ((k : ℕ) (node : Node) → slice_get ns k ≡ Some node → is_function node.label.kind ≡ false → (f : Func) → judgement_at js k ≡ means (defines f) → ⊥)
    → (i : ℕ) (x : Node) → slice_get (filter (λ (n : Node). is_function n.label.kind) ns) i ≡ Some x
    → (k : ℕ) × (g : Func) × (slice_get ns k ≡ Some x) × (judgement_at js k ≡ means (defines g)) × (slice_get (filter_map defined_in js) i ≡ Some g)
aligned [] js each none i x e = absurd (cc e)
aligned (n ∷ ns) [] each none i x e = by (is_function n.label.kind) refl e (aligned ns [] (λ k node h f. each (suc k) node h f) (λ k node h f g q. absurd (cc q)) i x)
  where
    by : (b : Bool) → is_function n.label.kind ≡ b → slice_get (cond b (n ∷ filter (λ (m : Node). is_function m.label.kind) ns) (filter (λ (m : Node). is_function m.label.kind) ns)) i ≡ Some x
        → (slice_get (filter (λ (m : Node). is_function m.label.kind) ns) i ≡ Some x → (k : ℕ) × (g : Func) × (slice_get ns k ≡ Some x) × (judgement_at [] k ≡ means (defines g)) × (slice_get (filter_map defined_in []) i ≡ Some g))
        → (k : ℕ) × (g : Func) × (slice_get (n ∷ ns) k ≡ Some x) × (judgement_at [] k ≡ means (defines g)) × (slice_get (filter_map defined_in []) i ≡ Some g)
    by true h q more = let f = each 0 n refl h in absurd (cc f.1)
    by false h q more = let m = more q in (suc m.0, m.1, m.2, m.3, m.4)
aligned (n ∷ ns) (j ∷ js) each none i x e = by (is_function n.label.kind) refl i e (λ i2. aligned ns js (λ k node h f. each (suc k) node h f) (λ k node h f g q. none (suc k) node h f g q) i2 x)
  where
    Result : ℕ → Type 0
    Result i2 = (k : ℕ) × (g : Func) × (slice_get (n ∷ ns) k ≡ Some x) × (judgement_at (j ∷ js) k ≡ means (defines g)) × (slice_get (filter_map defined_in (j ∷ js)) i2 ≡ Some g)

    skipped : (q : Judgement) → ((f : Func) → q ≡ means (defines f) → ⊥) → defined_in q ≡ None
    skipped (means (defines f)) h = absurd (h f refl)
    skipped _ h = refl

    by : (b : Bool) → is_function n.label.kind ≡ b → (i2 : ℕ) → slice_get (cond b (n ∷ filter (λ (m : Node). is_function m.label.kind) ns) (filter (λ (m : Node). is_function m.label.kind) ns)) i2 ≡ Some x
        → ((i3 : ℕ) → slice_get (filter (λ (m : Node). is_function m.label.kind) ns) i3 ≡ Some x → (k : ℕ) × (g : Func) × (slice_get ns k ≡ Some x) × (judgement_at js k ≡ means (defines g)) × (slice_get (filter_map defined_in js) i3 ≡ Some g))
        → Result i2
    by true h zero q more =
        let f = each 0 n refl h in
        let is : j ≡ means (defines f.0) = f.1 in
        (0, f.0, q, f.1, ap (λ z. slice_get (filter_map defined_in (z ∷ js)) 0) is)
    by true h (suc i2) q more =
        let f = each 0 n refl h in
        let is : j ≡ means (defines f.0) = f.1 in
        let m = more i2 q in
        (suc m.0, m.1, m.2, m.3, ap (λ z. slice_get (filter_map defined_in (z ∷ js)) (suc i2)) is ∙ m.4)
    by false h i2 q more =
        let m = more i2 q in
        let no = skipped j (λ f g. none 0 n refl h f g) in
        (suc m.0, m.1, m.2, m.3, ap (λ o. slice_get (cons_option o (filter_map defined_in js)) i2) no ∙ m.4)

listed_types : (us : List CType) → listed (types_of us) ≡ us
listed_types [] = refl
listed_types (u ∷ us) = ap (λ vs. u ∷ vs) (listed_types us)

function_long : (u : CType) (n m : ℕ) → TakesSo u n → TakesSo u m → n ≡ m
function_long u n m a b =
    let same : function a.result a.types ≡ function b.result b.types = sym a.is ∙ b.is in
    let types : a.types ≡ b.types = cc same in
    sym a.long ∙ (ap (λ ps. length (listed ps)) types ∙ b.long)

module _ (tokens : List Token) (t : Tree) (derived : IsTreeOf tokens t) (ok : Clean t)
    (functions : (n : ℕ) (node : Node) → slice_get (nodes t) n ≡ Some node → node.label.kind ≡ kind.Function → (f : Func) × (judgement_at (judgements_at (places t)) n ≡ means (defines f)))
    (meant : (n : ℕ) (node : Node) → slice_get (nodes t) n ≡ Some node → category_at t n ≡ category.declarator → is_whole (nodes t) node ≡ true → (u : CType) × (judgement_at (judgements_at (places t)) n ≡ means (declares u))) where
  low_of : (x : Name) → In x (places t).names → x.entity ≡ function_name → Low tokens t derived x
  low_of x among e = let h = (names_here tokens t derived).each x among in by h h.how
    where
      is_fun : Entity → Bool
      is_fun function_name = true
      is_fun y = false

      by : (h : Named (nodes t) x) → Declares (nodes t) h.before h.node x → Low tokens t derived x
      by h (by_enumerator i behind owner f g) = absurd (true≢false (ap is_fun (sym e ∙ g)))
      by h (by_declarator i behind owner f g) = low_by tokens t derived x h.node h.place h.there h.numbered i behind owner

  -- one first declaration
  no_earlier : (a b : Name) → In a (places t).names → is_again a b ≡ true → earlier (places t) b ≡ [] → a.behind < b.behind → ⊥
  no_earlier a b h again none lt =
      let listed = filter_in (λ (x : Name). is_again x b && nat_lt x.behind b.behind) (places t).names a h (and_true (is_again a b) (nat_lt a.behind b.behind) again (low a.behind b.behind lt)) in
      absurd (subst (λ q. In a q) none listed)
    where
      low : (i j : ℕ) → i < j → nat_lt i j ≡ true
      low i j q = grind arith

  one_first : (a b : Name) → In a (places t).names → In b (places t).names → a.entity ≡ function_name → b.entity ≡ function_name → is_again a b ≡ true → earlier (places t) a ≡ [] → earlier (places t) b ≡ [] → a ≡ b
  one_first a b h i e f again na nb = by (three_ways a.behind b.behind)
    where
      by : (a.behind < b.behind) ⊎ ((a.behind ≡ b.behind) ⊎ (b.behind < a.behind)) → a ≡ b
      by (inl lt) = absurd (no_earlier a b h again nb lt)
      by (inr (inr gt)) = absurd (no_earlier b a i (again_back a b again) na gt)
      by (inr (inl same)) =
          let la = low_of a h e in
          let lb = low_of b i f in
          let low = same_id tokens t derived la.low lb.low (in_at la.low (nodes t) la.low.id la.there) (in_at lb.low (nodes t) lb.low.id lb.there) (sym la.behind ∙ (same ∙ lb.behind)) in
          (names_here tokens t derived).alone a b h i (sym la.begins ∙ (ap (λ (x : Node). x.first) low ∙ lb.begins))

  counts_equal : (x y : Name) → In x (places t).names → In y (places t).names → x.entity ≡ function_name → y.entity ≡ function_name → is_again x y ≡ true → (dx : Declared tokens t derived functions x) (dy : Declared tokens t derived functions y) (n m : ℕ) → TakesSo dx.type n → TakesSo dy.type m → n ≡ m
  counts_equal x y hx hy ex ey again dx dy n m tx ty =
      let a = first_by tokens t derived ok functions meant (suc x.behind) x (omega arith) hx ex dx n tx in
      let b = first_by tokens t derived ok functions meant (suc y.behind) y (omega arith) hy ey dy m ty in
      let same = one_first a.name b.name a.among b.among a.fun b.fun (again_through a.name x b.name a.again (again_through x y b.name again (again_back b.name y b.again))) a.alone b.alone in
      let types : Some a.declared.type ≡ Some b.declared.type = sym a.declared.judged ∙ (ap (λ (z : Name). type_of (judgement_at (judgements_at (places t)) z.behind)) same ∙ b.declared.judged) in
      let one : a.declared.type ≡ b.declared.type = cc types in
      function_long b.declared.type n m (subst (λ u. TakesSo u n) one a.takes) b.takes

  -- ---- what a name calls

  abbrev Called : Callee → CType → Type 0
  Called (calls f) u = (r : CType) (ps : CTypes) → u ≡ function r ps → (g : Func) × (slice_get (filter_map defined_in (judgements_at (places t))) f ≡ Some g) × (length (listed ps) ≡ g.params)
  Called c u = Unit {0}

  -- the function of this number
  pub record Numbered (i : ℕ) (text : List ℕ) : Type 0 where
    pub function : Func
    pub at : slice_get (filter_map defined_in (judgements_at (places t))) i ≡ Some function
    pub place : ℕ
    pub judged : judgement_at (judgements_at (places t)) place ≡ means (defines function)
    pub node : Node
    pub there : slice_get (nodes t) place ≡ Some node
    pub named : bytes_eq (function_text (places t) node) text ≡ true

  numbered_function : (i : ℕ) (text : List ℕ) → function_number (places t) text ≡ Some i → Numbered i text
  numbered_function i text e =
      let x = position_is (λ (f : Node). bytes_eq (function_text (places t) f) text) (places t).functions i e in
      let a = aligned (nodes t) (judgements_at (places t)) (λ k node h f. functions k node h (function_kind node.label.kind f)) only i x.0 x.1 in
      record { function = a.1; at = a.4; place = a.0; judged = a.3; node = x.0; there = a.2; named = x.2 }
    where
      only : (k : ℕ) (node : Node) → slice_get (nodes t) k ≡ Some node → is_function node.label.kind ≡ false → (f : Func) → judgement_at (judgements_at (places t)) k ≡ means (defines f) → ⊥
      only k node h no_fun f q =
          let d = defined_at t k f q in
          let same : Some (d.0).node ≡ Some node = sym (d.0).there ∙ (ap (λ j. slice_get (nodes t) j) d.1 ∙ h) in
          let one : (d.0).node ≡ node = cc same in
          true≢false (sym (ap is_function (ap (λ (m : Node). m.label.kind) (sym one) ∙ (d.0).is_function)) ∙ no_fun)

  defined_so : (i : ℕ) (text : List ℕ) (n : Numbered i text) → (d : Defined t n.function) × (d.node ≡ n.node)
  defined_so i text n =
      let d = defined_at t n.place n.function n.judged in
      let same : Some (d.0).node ≡ Some n.node = sym (d.0).there ∙ (ap (λ j. slice_get (nodes t) j) d.1 ∙ n.there) in
      (d.0, cc same)

  takes_so : (g : Func) (d : Defined t g) → TakesSo d.type g.params
  takes_so g d =
      let w = takes_of tokens t derived g d (kept_of tokens t derived (Chain tokens t derived) (chains tokens t derived) g d) in
      record { result = w.result; types = types_of w.types; is = w.is; long = ap length (listed_types w.types) ∙ w.long }

  params_so : (e : Name) → In e (places t).names → e.entity ≡ function_name → (u : CType) → ((c : FunName tokens t derived ok functions meant e) → u ≡ c.declared.type) → (r : CType) (ps : CTypes) → u ≡ function r ps → (i : ℕ) → (n : Numbered i e.text) → length (listed ps) ≡ n.function.params
  unfolding of_definition
  params_so e among fun u typed r ps is i n =
      let d = defined_so i e.text n in
      let k = kept_of tokens t derived (Anything tokens t derived) (no_chains tokens t derived) n.function d.0 in
      let c = fun_name tokens t derived ok functions meant e among fun in
      let b = fun_name tokens t derived ok functions meant k.names.name k.names.among k.names.entity in
      let own : TakesSo c.declared.type (length (listed ps)) = record { result = r; types = ps; is = sym (typed c) ∙ is; long = refl } in
      let text : e.text ≡ k.names.name.text = sym ((bytes_eq-Decides (function_text (places t) n.node) e.text).0 n.named) ∙ (sym ((d.0).name ∙ ap (λ x. function_text (places t) x) d.1) ∙ text_is tokens t derived n.function d.0 k.names) in
      let again = so_again e k.names.name text (c.filed ∙ sym b.filed) in
      counts_equal e k.names.name among k.names.among fun k.names.entity again c.declared (of_definition tokens t derived ok functions meant n.function d.0 k) (length (listed ps)) n.function.params own (takes_so n.function d.0)

  number_there : (text : List ℕ) → is_getchar text ≡ false → is_putchar text ≡ false → is_getchar text || is_putchar text || is_some (function_number (places t) text) ≡ true → (i : ℕ) × (function_number (places t) text ≡ Some i)
  number_there text a b e = some_is (function_number (places t) text) (by (is_getchar text) (is_putchar text) a b e)
    where
      by : (x y : Bool) → x ≡ false → y ≡ false → x || y || is_some (function_number (places t) text) ≡ true → is_some (function_number (places t) text) ≡ true
      by false false p q h = h
      by true y p q h = absurd (true≢false p)
      by false true p q h = absurd (true≢false q)

  called_by : (e : Name) → In e (places t).names → e.entity ≡ function_name → is_getchar e.text || is_putchar e.text || is_some (function_number (places t) e.text) ≡ true → (u : CType) → ((c : FunName tokens t derived ok functions meant e) → u ≡ c.declared.type)
      → (a b : Bool) → is_getchar e.text ≡ a → is_putchar e.text ≡ b → Called (if a then reads_input else if b then writes_output else calls (unwrap_or (function_number (places t) e.text) 0)) u
  called_by e among fun there u typed true b g h = tt
  called_by e among fun there u typed false true g h = tt
  called_by e among fun there u typed false false g h =
      let i = number_there e.text g h there in
      let n = numbered_function i.0 e.text i.1 in
      λ r ps is. (n.function, ap (λ o. slice_get (filter_map defined_in (judgements_at (places t))) (unwrap_or o 0)) i.1 ∙ n.at, params_so e among fun u typed r ps is i.0 n)

  callee_called : (js : List Judgement) (node : Node) (e : Name) (u : CType) → slice_get (nodes t) (length js) ≡ Some node → IsFront (places t) js → node.label.kind ≡ kind.Var → denoted (places t).names node.id node.label.text ≡ Some e → e.entity ≡ function_name → type_of_name js e ≡ Some u → Called (callee_of (places t) e.text) u
  callee_called js node e u at front is d fun typed =
      let q = denoted_in (places t).names node.id node.label.text e d in
      let b = both_true (bytes_eq e.text node.label.text && nat_lt e.behind node.id) (in_scope e.scope node.id) q.1 in
      let c = both_true (bytes_eq e.text node.label.text) (nat_lt e.behind node.id) b.0 in
      let id = numbered tokens t derived (length js) node at in
      let lt = less e.behind node.id c.1 in
      let there : is_there (places t) e function_name ≡ true = subst (λ y. is_there (places t) e y ≡ true) fun (used tokens t derived ok meant (length js) node e at is d) in
      called_by e q.0 fun there u (λ f. name_typed tokens t derived functions e f.declared js u front (omega (arith, lt, id)) typed) (is_getchar e.text) (is_putchar e.text) refl refl
    where
      less : (i j : ℕ) → nat_lt i j ≡ true → i < j
      less i j h = grind arith

  -- ---- all calls

  abbrev Calls : Expr → Type 0
  Calls e = CallsFunction (unit_in (places t) (judgements_at (places t))) e

  free : (e : Expr) → is_free e ≡ true → Calls e
  free (call f n es) h = absurd (true≢false (sym h))
  free _ h = tt

  row_exprs : (es : List Expr) → exprs (expr_row es) ≡ es
  row_exprs [] = refl
  row_exprs (e ∷ es) = ap (λ rest. e ∷ rest) (row_exprs es)

  leaves : Leaves t Calls (λ s. Unit {0}) (λ n. Unit {0}) (λ n. Unit {0}) (λ k. Unit {0}) Called
  leaves = record {
    free = free;
    is_local = λ k h. tt;
    is_set = λ k e h. tt;
    quiet = λ s h. tt;
    is_unset = λ k h. tt;
    up = λ n k node at h i c. tt;
    body = λ n node at e h. tt;
    static = λ node n e at is q s c. tt;
    text = λ js node bytes at front is e c. tt;
    named = λ node n e at is q h c. tt;
    hidden = λ js node x h i at front e lt c. tt;
    initial = λ n node a at is e h c. tt;
    named_function = λ js node e u at front is q h g c. callee_called js node e u at front is q h g;
    calling = λ f r ps es k e. let g = k r ps refl in (g.0, g.1, ap length (row_exprs es) ∙ (e ∙ g.2));
    copying = λ js node x k to from at front e h c. tt;
  }

  pub functions_called : InEveryExpr (unit_in (places t) (judgements_at (places t))) (λ f. CallsFunction (unit_in (places t) (judgements_at (places t))))
  functions_called = functions_good (λ (f : Func). EveryStmt (λ s. AllByRecursion (EveryExpr Calls) (own_exprs s)) f.body) (judgements_at (places t))
      (λ n f e. every_stmt (Each t Calls (λ s. Unit {0}) (λ n. Unit {0}) (λ n. Unit {0}) (λ k. Unit {0}) Called) (λ s. AllByRecursion (EveryExpr Calls) (own_exprs s)) (λ s h. h.0) f.body
      (all_code t Calls (λ s. Unit {0}) (λ n. Unit {0}) (λ n. Unit {0}) (λ k. Unit {0}) Called leaves tokens derived n f e tt))
