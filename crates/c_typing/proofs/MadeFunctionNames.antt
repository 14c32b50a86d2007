-- The name of each function that is defined, and what the rules ask of it.
use Rattle.std.proofs.Common.{◌≡◌, inl, inr, ℕ, zero, suc, ◌<◌, ◌≤◌, Bool, true, false, cond, List, [], ◌∷◌, length, map, Option, Some, None, refl, sym, ap, ◌∙◌, subst, arith, true≢false, unwrap_or}
use Rattle.std.specs.Prelude.{slice_get, get_or, if◌then◌else◌, find, ◌==◌}
use Rattle.std.specs.Option.{is_some}
use Rattle.c_lexer.specs.declared.token.Token.{Token}
use Rattle.c_syntax.specs.declared.kind.SynKind.{SynKind}
use Rattle.c_syntax.specs.declared.kind.SynKind.TheVariants as kind
use Rattle.c_syntax.specs.Trees.{Tree}
use Rattle.c_syntax.specs.Tables.{table_of}
use Rattle.c_grammar.specs.Derivation.{IsTreeOf}
use Rattle.c_types.specs.declared.tree.Func.{Func}
use Rattle.c_typing.specs.Types.{CType}
use Rattle.c_typing.specs.Places.{Node, nodes, node_at, kid, parent_of, specs_of, own_takes, whole_declarator, Scope, scopes_of, scope_at}
use Rattle.c_typing.specs.Places.{is_declarator as declares}
use Rattle.c_typing.specs.Names.{Entity, function_name, Places, places, Name, declares_function, entity_by, name_list, names_by, name_of}
use Rattle.c_typing.specs.Judgements.{PlacedStep, Judgement, means, judgement_at, type_of, type_at}
use Rattle.c_typing.specs.Rules.{not_a_function}
use Rattle.c_typing.specs.Declarators.{declared_faults, whole_by}
use Rattle.c_typing.specs.Shapes as category
use Rattle.c_typing.specs.Shapes.{Category, no_category, kids_fit, at_places, categories_of}
use Rattle.c_typing.specs.ShapesOfNodes.{as_id, category_at}
use Rattle.c_typing.specs.Typing.{judgements_at}
use Rattle.c_typing.proofs.ShapesNodes.{node_placed}
use Rattle.c_typing.proofs.MadeJudged.{IsFront, meant_later}
use Rattle.c_typing.proofs.MadeNodes.{In}
use Rattle.c_typing.proofs.MadeParts.{least_kids}
use Rattle.c_typing.proofs.MadePlaced.{Found, numbered, node_there, kid_found, kid_in}
use Rattle.c_typing.proofs.MadeAround.{find_is, equal_so}
use Rattle.c_typing.proofs.MadeWhole.{Stem, stem_kind, stem_name, whole_of_function}
use Rattle.c_typing.proofs.MadeNames.{Names, all_names, names_have}
use Rattle.c_typing.proofs.MadeDeclarators.{Whole, Chains, typed_at}
use Rattle.c_typing.proofs.MadeDefined.{Defined}

-- ---- the declarator of a function

second_kid : (text : List ℕ) (cs : List Category) → kids_fit kind.Function text cs ≡ true → slice_get cs 1 ≡ Some category.declarator
unfolding kids_fit
second_kid text (category.specifiers ∷ category.declarator ∷ category.block ∷ []) e = refl
second_kid text cs e = absurd (true≢false (sym e))

pub place_known : (known : List Category) (ks : List ℕ) (i : ℕ) (c : Category) → slice_get (at_places known (map as_id ks)) i ≡ Some c → get_or known (unwrap_or (slice_get ks i) 0) no_category ≡ c
place_known known [] i c e = absurd (cc e)
place_known known (k ∷ ks) zero c e = cc e
place_known known (k ∷ ks) (suc i) c e = place_known known ks i c e

pub listed_in : (node whole : Node) (c : Scope) (f : Bool) (o : Option Entity) (y : Entity) → o ≡ Some y
    → In (record { text = node.label.text; node = node.id; behind = whole.id; owner = whole.parent; scope = c; entity = y; is_function = f }) (name_list node whole c f o)
listed_in node whole c f None y e = absurd (cc e)
listed_in node whole c f (Some z) y e = let same : z ≡ y = cc e in inl (ap (λ (x : Entity). record { text = node.label.text; node = node.id; behind = whole.id; owner = whole.parent; scope = c; entity = x; is_function = f }) same)

pub find_one : {A : Type 0} (f : A → Bool) (xs : List A) (x : A) → In x xs → f x ≡ true → (y : A) × (find f xs ≡ Some y)
find_one f [] x h e = absurd h
find_one {A} f (y ∷ xs) x h e = by (f y) refl h (find_one f xs x)
  where
    by : (b : Bool) → f y ≡ b → In x (y ∷ xs) → (In x xs → f x ≡ true → (z : A) × (find f xs ≡ Some z)) → (z : A) × (cond b (Some y) (find f xs) ≡ Some z)
    by true g h2 more = (y, refl)
    by false g (inl same) more = absurd (true≢false (sym e ∙ (ap f (sym same) ∙ g)))
    by false g (inr i) more = more i e

module _ (tokens : List Token) (t : Tree) (derived : IsTreeOf tokens t) where
  pub names_here : Names (nodes t) (length (nodes t)) (places t).names
  names_here = all_names (nodes t) (numbered tokens t derived)

  -- a name is found by its node
  pub name_found : (e : Name) → In e (places t).names → name_of (places t) e.node ≡ Some e
  name_found e h =
      let f = find_one (λ (a : Name). a.node == e.node) (places t).names e h (same e.node) in
      let is = find_is (λ (a : Name). a.node == e.node) (places t).names f.0 f.1 in
      f.1 ∙ ap Some (names_here.alone f.0 e is.0 h (equal_so (f.0).node e.node is.1))
    where
      same : (a : ℕ) → (a == a) ≡ true
      same a = grind arith

  pub record FunctionName (node : Node) : Type 0 where
    pub low : Node
    pub there : slice_get (nodes t) (kid node 1) ≡ Some low
    pub is_declarator : declares low.label.kind ≡ true
    pub parent : low.parent ≡ node.id
    pub starts : node.first ≤ low.first
    pub ident : Node
    pub at_first : slice_get (nodes t) low.first ≡ Some ident
    pub is_ident : ident.label.kind ≡ kind.Ident
    pub category : category_at t (kid node 1) ≡ category.declarator
    pub name : Name
    pub among : In name (places t).names
    pub by_node : name.node ≡ low.first
    pub text : name.text ≡ ident.label.text
    pub behind : name.behind ≡ low.id
    pub owner : name.owner ≡ node.id
    pub scoped : name.scope ≡ scope_at (scopes_of (nodes t)) low.first
    pub entity : name.entity ≡ function_name

  module _ (n : ℕ) (node : Node) (at : slice_get (nodes t) n ≡ Some node) (e : node.label.kind ≡ kind.Function) where
    kid_inside : In (kid node 1) node.kids
    kid_inside = kid_in tokens t derived n node 1 at (subst (λ l. 1 < least_kids l) (sym e) (omega arith))

    low_of : Found t node (kid node 1)
    low_of = kid_found tokens t derived n node (kid node 1) at kid_inside

    category_of_low : category_at t (kid node 1) ≡ category.declarator
    category_of_low =
        let p = node_placed tokens t derived n node at in
        place_known (categories_of (table_of t)) node.kids 1 category.declarator
        (second_kid node.label.text (at_places (categories_of (table_of t)) (map as_id node.kids)) (subst (λ k. kids_fit k node.label.text (at_places (categories_of (table_of t)) (map as_id node.kids)) ≡ true) e p.fits.kids))

    stem_of : Stem tokens t derived (kid node 1) n
    stem_of = record { node = low_of.node; there = low_of.there; parent = node; above = at; kid = kid_inside }

    low_declares : declares low_of.node.label.kind ≡ true
    unfolding low_of stem_of
    low_declares = stem_kind tokens t derived (kid node 1) n stem_of category_of_low

    module _ (m : Node) (first : slice_get (nodes t) low_of.node.first ≡ Some m) (is : m.label.kind ≡ kind.Ident) where
      whole : Node
      whole = whole_declarator (nodes t) m.id

      whole_is : whole ≡ low_of.node
      unfolding low_of stem_of whole
      whole_is = ap (λ i. whole_declarator (nodes t) i) (numbered tokens t derived low_of.node.first m first) ∙ whole_of_function tokens t derived (kid node 1) n stem_of category_of_low e

      owner_is : node_at (nodes t) whole.parent ≡ node
      unfolding low_of stem_of
      owner_is =
          ap (λ (x : Node). node_at (nodes t) x.parent) whole_is ∙ (ap (λ i. node_at (nodes t) i) (low_of.below ∙ numbered tokens t derived n node at) ∙ node_there tokens t derived n node at)

      before : List Name
      before = (names_have (nodes t) [] (nodes t) low_of.node.first m first).0

      is_function : Bool
      is_function = declares_function (nodes t) before m.id (specs_of (nodes t) (node_at (nodes t) whole.parent))

      entity_is : (k : SynKind) → k ≡ kind.Function → entity_by (nodes t) (node_at (nodes t) whole.parent) (specs_of (nodes t) (node_at (nodes t) whole.parent)) (scope_at (scopes_of (nodes t)) m.id) is_function k ≡ Some function_name
      entity_is k g = rw g refl

      name : Name
      name = record { text = m.label.text; node = m.id; behind = whole.id; owner = whole.parent; scope = scope_at (scopes_of (nodes t)) m.id; entity = function_name; is_function = is_function }

      name_among : In name (places t).names
      unfolding whole is_function before name
      name_among = (names_have (nodes t) [] (nodes t) low_of.node.first m first).1 name
          (subst (λ k. In name (names_by (nodes t) (scopes_of (nodes t)) before m k)) (sym is)
          (listed_in m whole (scope_at (scopes_of (nodes t)) m.id) is_function
          (entity_by (nodes t) (node_at (nodes t) whole.parent) (specs_of (nodes t) (node_at (nodes t) whole.parent)) (scope_at (scopes_of (nodes t)) m.id) is_function (node_at (nodes t) whole.parent).label.kind) function_name
          (entity_is (node_at (nodes t) whole.parent).label.kind (ap (λ (x : Node). x.label.kind) owner_is ∙ e))))

      made : FunctionName node
      unfolding name whole
      made =
          let id = numbered tokens t derived low_of.node.first m first in
          record {
            low = low_of.node;
            there = low_of.there;
            is_declarator = low_declares;
            parent = low_of.below;
            starts = low_of.from;
            ident = m;
            at_first = first;
            is_ident = is;
            category = category_of_low;
            name = name;
            among = name_among;
            by_node = id;
            text = refl;
            behind = ap (λ (x : Node). x.id) whole_is;
            owner = ap (λ (x : Node). x.parent) whole_is ∙ low_of.below;
            scoped = ap (λ i. scope_at (scopes_of (nodes t)) i) id;
            entity = refl;
          }

    pub function_name_of : FunctionName node
    unfolding low_of stem_of
    function_name_of = let s = stem_name tokens t derived (kid node 1) n stem_of category_of_low in made s.0 s.1 s.2

  -- ---- what the rules ask of it

  abbrev pub Anything : Node → List PlacedStep → Type 0
  Anything node ss = Unit {0}

  pub no_chains : Chains t Anything
  no_chains = record { name = λ node h e. tt; step = λ node low ss st a b e i h. tt; takes = λ node low ss us a b e l h. tt; parentheses = λ node low ss a b e h. tt }

  function_kept : (p : Places) (js : List Judgement) (node : Node) (u : CType) (o : Option Name) (name : Name) (k : SynKind) → k ≡ kind.Function → o ≡ Some name → name.entity ≡ function_name → whole_by p js node u o k ≡ []
      → (is_some (own_takes p.nodes (parent_of p.nodes node.id)) ≡ true) × (declared_faults p js name u node.id true function_name ≡ [])
  function_kept p js node u o name k is same entity kept = by (is_some (own_takes p.nodes (parent_of p.nodes node.id))) refl
    where
      at : whole_by p js node u (Some name) kind.Function ≡ []
      at = subst (λ q. whole_by p js node u (Some name) q ≡ []) is (subst (λ q. whole_by p js node u q k ≡ []) same kept)

      by : (b : Bool) → is_some (own_takes p.nodes (parent_of p.nodes node.id)) ≡ b → (is_some (own_takes p.nodes (parent_of p.nodes node.id)) ≡ true) × (declared_faults p js name u node.id true function_name ≡ [])
      by true g = let opened : declared_faults p js name u node.id true name.entity ≡ [] = subst (λ b. (if b then declared_faults p js name u node.id true name.entity else not_a_function false node.id) ≡ []) g at in
          (g, subst (λ q. declared_faults p js name u node.id true q ≡ []) entity opened)
      by false g = let shut : not_a_function false node.id ≡ [] = subst (λ b. (if b then declared_faults p js name u node.id true name.entity else not_a_function false node.id) ≡ []) g at in absurd (cc shut)

  -- the type of a function, and its declaration without faults
  pub record Kept (C : Node → List PlacedStep → Type 0) (f : Func) (d : Defined t f) : Type 0 where
    pub names : FunctionName d.node
    pub whole : Whole t C (kid d.node 1) names.low d.type
    pub found : name_of (places t) names.low.first ≡ Some names.name
    pub kept : declared_faults (places t) whole.js names.name d.type names.low.id true function_name ≡ []
    pub has_takes : is_some (own_takes (nodes t) d.node) ≡ true
    pub of_function : (parent_of (nodes t) names.low.id).label.kind ≡ kind.Function

  pub kept_of : (C : Node → List PlacedStep → Type 0) → Chains t C → (f : Func) (d : Defined t f) → Kept C f d
  kept_of C c f d =
      let n = function_name_of d.place d.node d.there d.is_function in
      let typed : type_of (judgement_at (judgements_at (places t)) (kid d.node 1)) ≡ Some d.type = later d.js (kid d.node 1) d.front d.typed in
      let w = typed_at tokens t derived C c (kid d.node 1) d.type n.low n.there n.is_declarator typed in
      let same : name_of (places t) n.low.first ≡ Some n.name = ap (λ i. name_of (places t) i) (sym n.by_node) ∙ name_found n.name n.among in
      let parent : parent_of (nodes t) n.low.id ≡ d.node =
      ap (λ (x : Node). node_at (nodes t) x.parent) (node_there tokens t derived n.low.id n.low (subst (λ i. slice_get (nodes t) i ≡ Some n.low) (sym (numbered tokens t derived (kid d.node 1) n.low n.there)) n.there))
      ∙ (ap (λ i. node_at (nodes t) i) (n.parent ∙ numbered tokens t derived d.place d.node d.there) ∙ node_there tokens t derived d.place d.node d.there) in
      let both = function_kept (places t) w.js n.low d.type (name_of (places t) n.low.first) n.name (parent_of (nodes t) n.low.id).label.kind (ap (λ (x : Node). x.label.kind) parent ∙ d.is_function) same n.entity w.kept in
      record {
        names = n;
        whole = w;
        found = same;
        kept = both.1;
        has_takes = subst (λ (x : Node). is_some (own_takes (nodes t) x) ≡ true) parent both.0;
        of_function = ap (λ (x : Node). x.label.kind) parent ∙ d.is_function;
      }
    where
      later : (js : List Judgement) (k : ℕ) → IsFront (places t) js → type_at js k ≡ Some d.type → type_of (judgement_at (judgements_at (places t)) k) ≡ Some d.type
      later js k front e = by (judgement_at js k) refl e
        where
          by : (j : Judgement) → judgement_at js k ≡ j → type_of j ≡ Some d.type → type_of (judgement_at (judgements_at (places t)) k) ≡ Some d.type
          by (means m) g h = ap type_of (ap (λ q. judgement_at q k) front.1 ∙ meant_later js front.0 k m g) ∙ h
          by _ g h = absurd (cc h)
