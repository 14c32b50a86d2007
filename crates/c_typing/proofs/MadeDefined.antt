-- The functions of a unit, each with its node.
use Rattle.std.proofs.Common.{◌≡◌, ℕ, suc, ◌≤◌, Bool, true, false, ◌||◌, ◌&&◌, List, [], ◌∷◌, ◌++◌, length, map, Option, Some, None, refl, sym, ap, ◌∙◌, subst, arith, true≢false, unwrap_or}
use Rattle.std.specs.Prelude.{slice_get, filter_map, nat_lt, if◌then◌else◌, option_map, ◌==◌}
use Rattle.std.specs.List.{AllByRecursion}
use Rattle.c_lexer.specs.declared.token.Token.{Token}
use Rattle.c_syntax.specs.declared.kind.SynKind.{SynKind}
use Rattle.c_syntax.specs.declared.kind.SynKind.TheVariants as kind
use Rattle.c_syntax.specs.Trees.{Tree}
use Rattle.c_grammar.specs.Derivation.{IsTreeOf}
use Rattle.c_types.specs.declared.tree.Stmt.{Stmt}
use Rattle.c_types.specs.declared.tree.Func.{Func}
use Rattle.c_typing.specs.Types.{CType}
use Rattle.c_typing.specs.Places.{Node, nodes, node_at, kid, other_kids, own_takes, next_to_name, is_takes, is_step}
use Rattle.c_typing.specs.Names.{Places, places, function_text, parameters_of}
use Rattle.c_typing.specs.Judgements.{Fault, Meaning, defines, Judgement, means, breaks_rules, waits, besides, judgement_at, type_at, code_at, faults_in, faults_of}
use Rattle.c_typing.specs.Rules.{many_parameters}
use Rattle.c_typing.specs.Declarators.{function_declarator}
use Rattle.c_typing.specs.Statements.{as_one}
use Rattle.c_typing.specs.Typing.{locals_of, function_node, judged_by, judgements_at, defined_in, place_faults, data_faults, faults}
use Rattle.c_typing.proofs.MadeJudged.{Yields, yields_given, IsFront, all_known, stands, no_fault_of}
use Rattle.c_typing.proofs.MadeNodes.{In}
use Rattle.c_typing.proofs.MadePlaced.{found}
use Rattle.c_typing.proofs.MadeAround.{find_is}
use Rattle.c_typing.proofs.MadeForms.{is_active, is_passive_kind, passive_row, braces_row, struct_row}
use Rattle.c_typing.proofs.MadeAnything.{any_row}
use Rattle.c_typing.proofs.MadeOthers.{is_statement_kind, statement_row}
use Rattle.c_typing.proofs.MadeFunctions.{functions_good, functions_more}
use Rattle.c_typing.proofs.MadeStatements.{is_expression_kind}

-- ---- no faults

pub record Clean (t : Tree) : Type 0 where
  pub places_clean : place_faults (places t) ≡ []
  pub judged_clean : faults_of (judgements_at (places t)) ≡ []
  pub data_clean : data_faults (places t) (judgements_at (places t)) ≡ []

split_empty : (xs ys : List Fault) → xs ++ ys ≡ [] → (xs ≡ []) × (ys ≡ [])
split_empty [] ys e = (refl, e)
split_empty (x ∷ xs) ys e = absurd (cc e)

clean_by : (t : Tree) (fs : List Fault) → place_faults (places t) ++ faults_of (judgements_at (places t)) ≡ fs → faults t ≡ [] → Clean t
unfolding faults
clean_by t [] e h =
    let s = split_empty (place_faults (places t)) (faults_of (judgements_at (places t))) e in
    let is : faults t ≡ data_faults (places t) (judgements_at (places t)) = rw e refl in
    record { places_clean = s.0; judged_clean = s.1; data_clean = sym is ∙ h }
clean_by t (f ∷ fs) e h = let is : faults t ≡ f ∷ fs = rw e refl in absurd (cc (sym is ∙ h))

pub clean : (t : Tree) → faults t ≡ [] → Clean t
clean t h = clean_by t (place_faults (places t) ++ faults_of (judgements_at (places t))) refl h

-- ---- the node of a function

pub record Defined (t : Tree) (f : Func) : Type 0 where
  pub place : ℕ
  pub node : Node
  pub there : slice_get (nodes t) place ≡ Some node
  pub is_function : node.label.kind ≡ kind.Function
  pub js : List Judgement
  pub long : length js ≡ place
  pub front : IsFront (places t) js
  pub name : f.name ≡ function_text (places t) node
  pub params : f.params ≡ length (parameters_of (places t) node)
  pub locals : f.locals ≡ locals_of (places t) js node
  pub type : CType
  pub typed : type_at js (kid node 1) ≡ Some type
  pub code : List Stmt
  pub coded : code_at js (kid node 2) ≡ Some code
  pub body : f.body ≡ as_one code

module _ (t : Tree) where
  abbrev Holds : ℕ → Meaning → Type 0
  Holds n (defines f) = (d : Defined t f) × (d.place ≡ n)
  Holds n m = Unit {0}

  free : (n : ℕ) (m : Meaning) → is_active m ≡ false → Holds n m
  free n (defines f) e = absurd (true≢false e)
  free n _ e = tt

  defined_row : (js : List Judgement) (node : Node) → slice_get (nodes t) (length js) ≡ Some node → IsFront (places t) js → node.label.kind ≡ kind.Function → Yields (Holds (length js)) (function_node (places t) js node)
  unfolding function_node
  defined_row js node there front is = yields_given (Holds (length js)) (type_at js (kid node 0)) _ (λ base e. yields_given (Holds (length js)) (type_at js (kid node 1)) _ (λ u g. yields_given (Holds (length js)) (code_at js (kid node 2)) _
      (λ ss h. (record { place = length js; node = node; there = there; is_function = is; js = js; long = refl; front = front; name = refl; params = refl; locals = refl; type = u; typed = g; code = ss; coded = h; body = refl }, refl))))

  other_row : (js : List Judgement) (node : Node) → slice_get (nodes t) (length js) ≡ Some node → IsFront (places t) js → (k : SynKind) → node.label.kind ≡ k → (b : Bool) → is_expression_kind k ≡ b → (c : Bool) → is_statement_kind k ≡ c → b || (c || is_passive_kind k) ≡ true
      → Yields (Holds (length js)) (judged_by (places t) js node k)
  other_row js node there front k is true e c f g = any_row (Holds (length js)) (free (length js)) (λ ss. tt) (λ x h2. tt) (places t) js node k is e
  other_row js node there front k is false e true f g = statement_row (Holds (length js)) (λ ss. tt) (λ u ss cs. tt) (λ w. tt) (places t) js node (λ q. defined_row js node there front q) k is f
  other_row js node there front k is false e false f g = passive_row (Holds (length js)) (free (length js)) (λ ss. tt) (places t) js node k g

  row : (js : List Judgement) (node : Node) → slice_get (nodes t) (length js) ≡ Some node → IsFront (places t) js → (k : SynKind) → node.label.kind ≡ k → Yields (Holds (length js)) (judged_by (places t) js node k)
  unfolding judged_by
  row js node there front kind.StructSpec e = struct_row (places t) js node (Holds (length js)) (λ fields k. tt) (λ u. tt)
  row js node there front kind.Braces e = braces_row (Holds (length js)) (λ n cs. tt) (places t) js node
  row js node there front k e = other_row js node there front k e (is_expression_kind k) refl (is_statement_kind k) refl refl

  pub defined_at : (n : ℕ) (f : Func) → judgement_at (judgements_at (places t)) n ≡ means (defines f) → (d : Defined t f) × (d.place ≡ n)
  defined_at n f e = all_known (places t) Holds (λ js node there front known. row js node there front node.label.kind refl) n (defines f) e

  pub all_defined : AllByRecursion (Defined t) (filter_map defined_in (judgements_at (places t)))
  all_defined = functions_good (Defined t) (judgements_at (places t)) (λ n f e. (defined_at n f e).0)

  pub parameters_are_locals : AllByRecursion (λ (f : Func). f.params ≤ f.locals) (filter_map defined_in (judgements_at (places t)))
  parameters_are_locals = functions_more (Defined t) (λ (f : Func). f.params ≤ f.locals) (filter_map defined_in (judgements_at (places t))) (λ f d. let a = d.params in let b = d.locals in omega (arith, a, b)) all_defined

-- ---- at most 8 parameters

no_faults_besides : (fs : List Fault) (j : Judgement) → faults_in (besides fs j) ≡ [] → fs ≡ []
no_faults_besides [] j e = refl
no_faults_besides (f ∷ fs) (breaks_rules g gs) e = absurd (cc e)
no_faults_besides (f ∷ fs) (means m) e = absurd (cc e)
no_faults_besides (f ∷ fs) waits e = absurd (cc e)

few : (count n : ℕ) → many_parameters count n ≡ [] → count ≤ 8
few count n e = by (nat_lt 8 count) refl e
  where
    by : (b : Bool) → nat_lt 8 count ≡ b → many_parameters count n ≡ [] → count ≤ 8
    by b h g = grind arith

length-map : {A B : Type 0} (f : A → B) (xs : List A) → length (map f xs) ≡ length xs
length-map f [] = refl
length-map f (x ∷ xs) = ap suc (length-map f xs)

takes_few : (p : Places) (js : List Judgement) (node : Node) → faults_in (function_declarator p js node) ≡ [] → length (other_kids node) ≤ 8
unfolding function_declarator
takes_few p js node e =
    let parts = map (type_at js) (other_kids node) in
    let a = (split_empty (many_parameters (length parts) node.id) _ (no_faults_besides _ _ e)).0 in
    let b = few (length parts) node.id a in
    let c = length-map (type_at js) (other_kids node) in
    omega (arith, b, c)

judged_takes : (p : Places) (js : List Judgement) (node : Node) (k : SynKind) → k ≡ kind.Takes → faults_in (judged_by p js node k) ≡ [] → faults_in (function_declarator p js node) ≡ []
unfolding judged_by
judged_takes p js node k is e = subst (λ l. faults_in (judged_by p js node l) ≡ []) is e

takes_is : (k : SynKind) → is_takes k ≡ true → k ≡ kind.Takes
takes_is kind.Takes e = refl
takes_is _ e = absurd (true≢false (sym e))

-- the parameters of a function stand at a parameter list, if any
pub record TakesAt (t : Tree) (node takes : Node) : Type 0 where
  pub among : In takes (nodes t)
  pub kind_is : takes.label.kind ≡ kind.Takes
  pub next : next_to_name (nodes t) (node_at (nodes t) (kid node 1)).first ≡ Some takes

pub own_takes_at : (t : Tree) (node takes : Node) → own_takes (nodes t) node ≡ Some takes → TakesAt t node takes
own_takes_at t node takes e = by (next_to_name (nodes t) (node_at (nodes t) (kid node 1)).first) refl
  where
    at : (x : Node) → next_to_name (nodes t) (node_at (nodes t) (kid node 1)).first ≡ Some x → (b : Bool) → is_takes x.label.kind ≡ b → (if b then Some x else None) ≡ Some takes → TakesAt t node takes
    at x g true h i =
        let same : x ≡ takes = cc i in
        let f = find_is (λ (m : Node). m.first == (node_at (nodes t) (kid node 1)).first && is_step m.label.kind) (nodes t) x g in
        record { among = subst (λ (m : Node). In m (nodes t)) same f.0; kind_is = subst (λ (m : Node). m.label.kind ≡ kind.Takes) same (takes_is x.label.kind h); next = g ∙ ap Some same }
    at x g false h i = absurd (cc i)

    by : (o : Option Node) → next_to_name (nodes t) (node_at (nodes t) (kid node 1)).first ≡ o → TakesAt t node takes
    by None g = let is : own_takes (nodes t) node ≡ None = rw g refl in absurd (cc (sym is ∙ e))
    by (Some x) g = let is : own_takes (nodes t) node ≡ (if is_takes x.label.kind then Some x else None) = rw g refl in at x g (is_takes x.label.kind) refl (sym is ∙ e)

module _ (tokens : List Token) (t : Tree) (derived : IsTreeOf tokens t) (ok : Clean t) where
  parameters_few : (node : Node) (o : Option Node) → own_takes (nodes t) node ≡ o → length (unwrap_or (option_map other_kids o) []) ≤ 8
  parameters_few node None e = omega arith
  parameters_few node (Some takes) e =
      let at = own_takes_at t node takes e in
      let there = found tokens t derived takes at.among in
      let s = stands (places t) takes.id takes there in
      takes_few (places t) s.front takes (judged_takes (places t) s.front takes takes.label.kind at.kind_is (no_fault_of (places t) takes.id takes s ok.judged_clean))

  pub few_parameters : AllByRecursion (λ (f : Func). f.params ≤ 8) (filter_map defined_in (judgements_at (places t)))
  few_parameters = functions_more (Defined t) (λ (f : Func). f.params ≤ 8) (filter_map defined_in (judgements_at (places t)))
      (λ f d. subst (λ n. n ≤ 8) (sym d.params) (parameters_few d.node (own_takes (nodes t) d.node) refl)) (all_defined t)
