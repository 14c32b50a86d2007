-- The steps of a declarator begin with what stands next to its name.
use Rattle.std.proofs.Common.{◌≡◌, ◌⊎◌, inl, inr, ℕ, zero, suc, ◌<◌, ◌≤◌, Bool, true, false, ◌&&◌, cond, List, [], ◌∷◌, ◌++◌, length, map, Some, refl, sym, ap, ◌∙◌, subst, arith, true≢false, unwrap_or}
use Rattle.std.specs.Prelude.{slice_get, find, ◌==◌}
use Rattle.c_lexer.specs.declared.token.Token.{Token}
use Rattle.c_syntax.specs.declared.kind.SynKind.{SynKind}
use Rattle.c_syntax.specs.declared.kind.SynKind.TheVariants as kind
use Rattle.c_syntax.specs.Trees.{Tree}
use Rattle.c_syntax.specs.Tables.{table_of}
use Rattle.c_grammar.specs.Derivation.{IsTreeOf}
use Rattle.c_typing.specs.Types.{CType, types_of}
use Rattle.c_typing.specs.Places.{Node, nodes, kid, other_kids, is_step, is_takes, next_to_name}
use Rattle.c_typing.specs.Judgements.{Step, of_function, PlacedStep}
use Rattle.c_typing.specs.Declarators.{with_step}
use Rattle.c_typing.specs.Shapes.{Category, kids_fit, at_places, categories_of}
use Rattle.c_typing.specs.ShapesOfNodes.{as_id}
use Rattle.c_typing.proofs.ShapesNodes.{node_placed}
use Rattle.c_typing.proofs.MadeNodes.{In, in_at, nested, node_bounds, leaf_first, first_kid}
use Rattle.c_typing.proofs.MadeParts.{least_kids}
use Rattle.c_typing.proofs.MadePlaced.{numbered, found, kid_in}
use Rattle.c_typing.proofs.MadeAround.{both_true, and_true, equal_so}
use Rattle.c_typing.proofs.MadeDistinct.{same_id, three_ways}
use Rattle.c_typing.proofs.MadeDeclarators.{Chains}

-- the first element that passes
first_is : {A : Type 0} (f : A → Bool) (xs : List A) (n : ℕ) (m : A) → slice_get xs n ≡ Some m → f m ≡ true → ((k : ℕ) (x : A) → k < n → slice_get xs k ≡ Some x → f x ≡ true → ⊥) → find f xs ≡ Some m
first_is f [] n m e g h = absurd (cc e)
first_is {A} f (x ∷ xs) zero m e g h = let same : x ≡ m = cc e in ap (λ b. cond b (Some x) (find f xs)) (ap f same ∙ g) ∙ ap Some same
first_is {A} f (x ∷ xs) (suc n) m e g h = by (f x) refl (first_is f xs n m e g (λ k y lt i. h (suc k) y (omega (arith, lt)) i))
  where
    by : (b : Bool) → f x ≡ b → find f xs ≡ Some m → cond b (Some x) (find f xs) ≡ Some m
    by true i more = absurd (h 0 x (omega arith) refl i)
    by false i more = more

pub no_kids : (k : SynKind) (text : List ℕ) (cs : List Category) → (k ≡ kind.Ident) ⊎ (k ≡ kind.NoName) → kids_fit k text cs ≡ true → cs ≡ []
unfolding kids_fit
no_kids k text [] h e = refl
no_kids k text (c ∷ cs) (inl is) e = absurd (true≢false (sym (subst (λ l. kids_fit l text (c ∷ cs) ≡ true) is e)))
no_kids k text (c ∷ cs) (inr is) e = absurd (true≢false (sym (subst (λ l. kids_fit l text (c ∷ cs) ≡ true) is e)))

pub none_placed : (known : List Category) (ks : List ℕ) → at_places known (map as_id ks) ≡ [] → ks ≡ []
none_placed known [] e = refl
none_placed known (k ∷ ks) e = absurd (cc e)

split_kids : (ks : List ℕ) → In (unwrap_or (slice_get ks 0) 0) ks → (rest : List ℕ) × (ks ≡ unwrap_or (slice_get ks 0) 0 ∷ rest)
split_kids [] h = absurd h
split_kids (k ∷ ks) h = (ks, refl)

module _ (tokens : List Token) (t : Tree) (derived : IsTreeOf tokens t) where
  -- up to a node, nothing that makes a type stands next to its name
  abbrev NoStep : Node → Type 0
  NoStep node = (x : Node) → In x (nodes t) → x.first ≡ node.first → is_step x.label.kind ≡ true → x.id ≤ node.id → ⊥

  -- where that is a parameter list, the first step is of a function with as many parameters
  pub record Starts (node : Node) (ss : List PlacedStep) : Type 0 where
    pub next : Node
    pub is_next : next_to_name (nodes t) node.first ≡ Some next
    pub takes : is_takes next.label.kind ≡ true → (us : List CType) × (n : ℕ) × (more : List PlacedStep) × (ss ≡ record { node = n; step = of_function (types_of us) } ∷ more) × (length us ≡ length (other_kids next))

  abbrev pub Chain : Node → List PlacedStep → Type 0
  Chain node ss = ((ss ≡ []) × NoStep node) ⊎ Starts node ss

  name_chain : (node : Node) → In node (nodes t) → (node.label.kind ≡ kind.Ident) ⊎ (node.label.kind ≡ kind.NoName) → Chain node []
  name_chain node h e = inl (refl, none)
    where
      kids : node.kids ≡ []
      kids = none_placed (categories_of (table_of t)) node.kids (no_kids node.label.kind node.label.text (at_places (categories_of (table_of t)) (map as_id node.kids)) e (node_placed tokens t derived node.id node (found tokens t derived node h)).fits.kids)

      no_step : (node.label.kind ≡ kind.Ident) ⊎ (node.label.kind ≡ kind.NoName) → is_step node.label.kind ≡ false
      no_step (inl f) = ap is_step f
      no_step (inr f) = ap is_step f

      none : NoStep node
      none x i f g low =
          let start = leaf_first t node h kids in
          let up = node_bounds t x i in
          let same = same_id tokens t derived x node i h (omega (arith, f, low, up, start)) in
          true≢false (sym g ∙ (ap (λ (m : Node). is_step m.label.kind) same ∙ no_step e))

  module _ (node low : Node) (own : slice_get (nodes t) node.id ≡ Some node) (there : slice_get (nodes t) (kid node 0) ≡ Some low) (least : 0 < least_kids node.label.kind) where
    inside : In node (nodes t)
    inside = in_at node (nodes t) node.id own

    kid_inside : In (kid node 0) node.kids
    kid_inside = kid_in tokens t derived node.id node 0 own least

    begins : low.first ≡ node.first
    begins =
        let split = split_kids node.kids kid_inside in
        let m = first_kid t node (kid node 0) split.0 inside split.1 in
        let same : Some m.0 ≡ Some low = sym (found tokens t derived m.0 m.1) ∙ (ap (λ i. slice_get (nodes t) i) m.2 ∙ there) in
        let is : m.0 ≡ low = cc same in
        ap (λ (x : Node). x.first) (sym is) ∙ m.3

    -- between the inner declarator and this one nothing begins at the name
    between : (x : Node) → In x (nodes t) → x.first ≡ node.first → x.id < node.id → x.id ≤ low.id
    between x i f lt = by (three_ways x.id low.id)
      where
        by : (x.id < low.id) ⊎ ((x.id ≡ low.id) ⊎ (low.id < x.id)) → x.id ≤ low.id
        by (inl less) = omega (arith, less)
        by (inr (inl same)) = omega (arith, same)
        by (inr (inr more)) =
            let id = numbered tokens t derived (kid node 0) low there in
            let up = node_bounds t low (in_at low (nodes t) (kid node 0) there) in
            let start = begins in
            let wide = nested t x node (kid node 0) i inside kid_inside (omega (arith, f, start, up, id)) (omega (arith, more, id)) in
            absurd (omega (arith, wide, lt))

    next_is : is_step node.label.kind ≡ true → NoStep low → next_to_name (nodes t) node.first ≡ Some node
    next_is st none = first_is (λ (m : Node). m.first == node.first && is_step m.label.kind) (nodes t) node.id node own (and_true (node.first == node.first) (is_step node.label.kind) (same node.first) st)
        (λ k x lt e g. let b = both_true (x.first == node.first) (is_step x.label.kind) g in
        let f = equal_so x.first node.first b.0 in
        let id = numbered tokens t derived k x e in
        let h = in_at x (nodes t) k e in
        none x h (f ∙ sym begins) b.1 (between x h f (omega (arith, id, lt))))
      where
        same : (a : ℕ) → (a == a) ≡ true
        same a = grind arith

    further : (ss : List PlacedStep) (s : PlacedStep) → Starts low ss → Starts node (ss ++ s ∷ [])
    further ss s w = record {
      next = w.next;
      is_next = ap (λ i. next_to_name (nodes t) i) (sym begins) ∙ w.is_next;
      takes = λ e. let h = w.takes e in (h.0, h.1, h.2 ++ s ∷ [], ap (λ q. q ++ s ∷ []) h.3, h.4);
    }

    step_chain : (ss : List PlacedStep) (st : Step) → (node.label.kind ≡ kind.Pointer) ⊎ (node.label.kind ≡ kind.ArrayOf) → Chain low ss → Chain node (with_step ss node st)
    step_chain ss st e (inr w) = inr (further ss (record { node = node.id; step = st }) w)
    step_chain ss st e (inl none) = inr (record { next = node; is_next = next_is (steps e) none.1; takes = λ g. absurd (true≢false (sym g ∙ apart e)) })
      where
        steps : (node.label.kind ≡ kind.Pointer) ⊎ (node.label.kind ≡ kind.ArrayOf) → is_step node.label.kind ≡ true
        steps (inl f) = ap is_step f
        steps (inr f) = ap is_step f

        apart : (node.label.kind ≡ kind.Pointer) ⊎ (node.label.kind ≡ kind.ArrayOf) → is_takes node.label.kind ≡ false
        apart (inl f) = ap is_takes f
        apart (inr f) = ap is_takes f

    takes_chain : (ss : List PlacedStep) (us : List CType) → node.label.kind ≡ kind.Takes → length us ≡ length (other_kids node) → Chain low ss → Chain node (with_step ss node (of_function (types_of us)))
    takes_chain ss us e long (inr w) = inr (further ss (record { node = node.id; step = of_function (types_of us) }) w)
    takes_chain ss us e long (inl none) = inr (record {
      next = node;
      is_next = next_is (ap is_step e) none.1;
      takes = λ g. (us, node.id, [], ap (λ q. with_step q node (of_function (types_of us))) none.0, long);
    })

    paren_chain : (ss : List PlacedStep) → node.label.kind ≡ kind.Paren → Chain low ss → Chain node ss
    paren_chain ss e (inr w) = inr (record { next = w.next; is_next = ap (λ i. next_to_name (nodes t) i) (sym begins) ∙ w.is_next; takes = w.takes })
    paren_chain ss e (inl none) = inl (none.0, λ x h f g lt. by x h f g (three_ways x.id node.id) lt)
      where
        by : (x : Node) → In x (nodes t) → x.first ≡ node.first → is_step x.label.kind ≡ true → (x.id < node.id) ⊎ ((x.id ≡ node.id) ⊎ (node.id < x.id)) → x.id ≤ node.id → ⊥
        by x h f g (inl less) lt = none.1 x h (f ∙ sym begins) g (between x h f less)
        by x h f g (inr (inl same)) lt = true≢false (sym g ∙ (ap (λ (m : Node). is_step m.label.kind) (same_id tokens t derived x node h inside same) ∙ ap is_step e))
        by x h f g (inr (inr more)) lt = absurd (omega (arith, more, lt))

  one_least : (node : Node) (k : SynKind) → node.label.kind ≡ k → 0 < least_kids k → 0 < least_kids node.label.kind
  one_least node k e h = subst (λ l. 0 < least_kids l) (sym e) h

  step_least : (node : Node) → (node.label.kind ≡ kind.Pointer) ⊎ (node.label.kind ≡ kind.ArrayOf) → 0 < least_kids node.label.kind
  step_least node (inl e) = one_least node kind.Pointer e (omega arith)
  step_least node (inr e) = one_least node kind.ArrayOf e (omega arith)

  pub chains : Chains t Chain
  chains = record {
    name = name_chain;
    step = λ node low ss st a b e h c. step_chain node low a b (step_least node e) ss st e c;
    takes = λ node low ss us a b e l c. takes_chain node low a b (one_least node kind.Takes e (omega arith)) ss us e l c;
    parentheses = λ node low ss a b e c. paren_chain node low a b (one_least node kind.Paren e (omega arith)) ss e c;
  }
