-- The names that declarations declare, and what the rules ask of them.
use Rattle.std.proofs.Common.{◌≡◌, ◌⊎◌, inl, inr, ℕ, Bool, true, false, not, List, [], ◌∷◌, map, Option, Some, None, refl, sym, ap, ◌∙◌, subst, arith, true≢false, unwrap_or}
use Rattle.std.specs.Prelude.{slice_get, filter, ◌==◌}
use Rattle.std.specs.List.{last_or}
use Rattle.c_lexer.specs.declared.token.Token.{Token}
use Rattle.c_syntax.specs.declared.kind.SynKind.{SynKind}
use Rattle.c_syntax.specs.declared.kind.SynKind.TheVariants as kind
use Rattle.c_syntax.specs.Trees.{Tree}
use Rattle.c_syntax.specs.Tables.{table_of}
use Rattle.c_grammar.specs.Derivation.{IsTreeOf}
use Rattle.c_typing.specs.Types.{CType}
use Rattle.c_typing.specs.Places.{Node, nodes, node_at, nowhere, parent_of, is_declarator, in_declarator, is_whole, whole_declarator, specs_of, Scope}
use Rattle.c_typing.specs.Names.{Entity, typedef_name, function_name, static_object, automatic, Places, places, Name, name_of, entity_by}
use Rattle.c_typing.specs.Judgements.{PlacedStep, Judgement, means, declares, judgement_at, type_of}
use Rattle.c_typing.specs.Declarators.{declared_faults, whole_by}
use Rattle.c_typing.specs.Shapes as category
use Rattle.c_typing.specs.Shapes.{Category, category_by, at_places, categories_of, kids_fit, begins_with, stands_in}
use Rattle.c_typing.specs.ShapesOfNodes.{as_id, category_at, HasParent}
use Rattle.c_typing.specs.Typing.{judgements_at}
use Rattle.c_typing.proofs.ShapesNodes.{node_placed}
use Rattle.c_typing.proofs.MadeNodes.{In, in_at, in_back, leaf_first}
use Rattle.c_typing.proofs.MadePlaced.{numbered, found, node_there}
use Rattle.c_typing.proofs.MadeAround.{both_true, and_true, equal_so}
use Rattle.c_typing.proofs.MadeTop.{has_parent}
use Rattle.c_typing.proofs.MadeWhole.{begins_named, named_so}
use Rattle.c_typing.proofs.MadeNames.{Named, Declares, by_declarator, by_enumerator}
use Rattle.c_typing.proofs.MadeDeclarators.{Whole, Chains, typed_at}
use Rattle.c_typing.proofs.MadeFunctionNames.{names_here, name_found}
use Rattle.c_typing.proofs.MadeOnce.{filter_in, last_there}
use Rattle.c_typing.proofs.MadeMain.{filter_so}
use Rattle.c_typing.proofs.MadeChains.{no_kids, none_placed}

pub last_in : {A : Type 0} (xs : List A) (o : Option A) (y : A) → last_or o xs ≡ Some y → In y xs ⊎ (o ≡ Some y)
last_in [] o y e = inr e
last_in {A} (x ∷ xs) o y e = by (last_in xs (Some x) y e)
  where
    by : In y xs ⊎ (Some x ≡ Some y) → In y (x ∷ xs) ⊎ (o ≡ Some y)
    by (inl h) = inl (inr h)
    by (inr same) = inl (inl (cc same))

-- ---- of which owners names are

abbrev pub is_object_entity : Entity → Bool
is_object_entity static_object = true
is_object_entity automatic = true
is_object_entity y = false

pub owner_of_object : (s : List Node) (owner specs : Node) (c : Scope) (f : Bool) (k : SynKind) (y : Entity) → is_object_entity y ≡ true → entity_by s owner specs c f k ≡ Some y → k ≡ kind.InitDecl
owner_of_object s owner specs c f kind.InitDecl y h e = refl
owner_of_object s owner specs c f kind.Function y h e = let same : function_name ≡ y = cc e in absurd (true≢false (sym h ∙ ap is_object_entity (sym same)))
owner_of_object s owner specs c f kind.Param y h e = absurd (true≢false (sym h ∙ ap (λ o. is_object_entity (unwrap_or o typedef_name)) (sym e)))
owner_of_object s owner specs c f k y h e = absurd (true≢false (sym h ∙ ap (λ o. is_object_entity (unwrap_or o typedef_name)) (sym e)))

module _ (tokens : List Token) (t : Tree) (derived : IsTreeOf tokens t) where
  -- the whole declarator of a name that is no enumerator
  pub record Low (x : Name) : Type 0 where
    pub ident : Node
    pub at : slice_get (nodes t) ident.id ≡ Some ident
    pub is_ident : ident.label.kind ≡ kind.Ident
    pub by_node : x.node ≡ ident.id
    pub low : Node
    pub there : slice_get (nodes t) low.id ≡ Some low
    pub declares_it : is_declarator low.label.kind ≡ true
    pub begins : low.first ≡ x.node
    pub behind : x.behind ≡ low.id
    pub owner : x.owner ≡ low.parent

  pub low_by : (x : Name) (m : Node) (place : ℕ) → slice_get (nodes t) place ≡ Some m → x.node ≡ m.id → m.label.kind ≡ kind.Ident → x.behind ≡ (whole_declarator (nodes t) m.id).id → x.owner ≡ (whole_declarator (nodes t) m.id).parent → Low x
  low_by x m place at same is behind owner = by (last_there (filter (in_declarator m.id) (nodes t)) m None listed)
    where
      id : m.id ≡ place
      id = numbered tokens t derived place m at

      own : slice_get (nodes t) m.id ≡ Some m
      own = subst (λ i. slice_get (nodes t) i ≡ Some m) (sym id) at

      inside : In m (nodes t)
      inside = in_at m (nodes t) place at

      kids : m.kids ≡ []
      kids = none_placed (categories_of (table_of t)) m.kids (no_kids m.label.kind m.label.text (at_places (categories_of (table_of t)) (map as_id m.kids)) (inl is) (node_placed tokens t derived place m at).fits.kids)

      alike : (i j : ℕ) → i ≡ j → (i == j) ≡ true
      alike i j e = grind arith

      listed : In m (filter (in_declarator m.id) (nodes t))
      listed = filter_in (in_declarator m.id) (nodes t) m inside (and_true (m.first == m.id) (is_declarator m.label.kind) (alike m.first m.id (leaf_first t m inside kids)) (ap is_declarator is))

      by : (w : Node) × (last_or None (filter (in_declarator m.id) (nodes t)) ≡ Some w) → Low x
      by (w, e) = at_low (last_in (filter (in_declarator m.id) (nodes t)) None w e)
        where
          is_low : whole_declarator (nodes t) m.id ≡ w
          is_low = ap (λ o. unwrap_or o nowhere) e

          at_low : In w (filter (in_declarator m.id) (nodes t)) ⊎ (None ≡ Some w) → Low x
          at_low (inr h) = absurd (cc h)
          at_low (inl h) =
              let f = filter_so (in_declarator m.id) (nodes t) w h in
              let b = both_true (w.first == m.id) (is_declarator w.label.kind) f.1 in
              record { ident = m; at = own; is_ident = is; by_node = same; low = w; there = found tokens t derived w f.0; declares_it = b.1; begins = equal_so w.first m.id b.0 ∙ sym same; behind = behind ∙ ap (λ (n : Node). n.id) is_low; owner = owner ∙ ap (λ (n : Node). n.parent) is_low }

  low_of : (x : Name) (n : Named (nodes t) x) → n.node.label.kind ≡ kind.Ident → Declares (nodes t) n.before n.node x → Low x
  low_of x n is (by_declarator i behind owner f e) = low_by x n.node n.place n.there n.numbered i behind owner
  low_of x n is (by_enumerator i behind owner f e) = absurd (true≢false (ap is_ident_kind (sym is ∙ i)))
    where
      is_ident_kind : SynKind → Bool
      is_ident_kind kind.Ident = true
      is_ident_kind k = false

  -- ---- what a declaration declares, beside its declarator

  pub record KeptName (C : Node → List PlacedStep → Type 0) (x : Name) : Type 0 where
    pub names : Low x
    pub owner : Node
    pub owner_there : slice_get (nodes t) names.low.parent ≡ Some owner
    pub owner_is : owner.label.kind ≡ kind.InitDecl
    pub kid : In names.low.id owner.kids
    pub category : category_at t names.low.id ≡ category.declarator
    pub type : CType
    pub judged : judgement_at (judgements_at (places t)) names.low.id ≡ means (declares type)
    pub whole : Whole t C names.low.id names.low type
    pub kept : declared_faults (places t) whole.js x type names.low.id false x.entity ≡ []

  pub declarator_so : (c : Category) → begins_named c ≡ true → (c ≡ category.init_declarator → ⊥) → c ≡ category.declarator
  declarator_so category.declarator e h = refl
  declarator_so category.init_declarator e h = absurd (h refl)
  declarator_so _ e h = absurd (true≢false (sym e))

  init_kept : (p : Places) (js : List Judgement) (low : Node) (u : CType) (o : Option Name) (x : Name) (k : SynKind) → k ≡ kind.InitDecl → o ≡ Some x → whole_by p js low u o k ≡ [] → declared_faults p js x u low.id false x.entity ≡ []
  init_kept p js low u o x k is same kept = subst (λ q. whole_by p js low u (Some x) q ≡ []) is (subst (λ q. whole_by p js low u q k ≡ []) same kept)

  module _ (meant : (n : ℕ) (node : Node) → slice_get (nodes t) n ≡ Some node → category_at t n ≡ category.declarator → is_whole (nodes t) node ≡ true → (u : CType) × (judgement_at (judgements_at (places t)) n ≡ means (declares u)))
      (C : Node → List PlacedStep → Type 0) (c : Chains t C) (x : Name) (among : In x (places t).names) (l : Low x) (o : (node_at (nodes t) x.owner).label.kind ≡ kind.InitDecl) where
    named_low : begins_named (category_at t l.low.id) ≡ true
    named_low =
        let p = node_placed tokens t derived l.low.id l.low l.there in
        let same : Some p.lowest ≡ Some l.ident = sym p.found ∙ (ap (λ i. slice_get (nodes t) i) (l.begins ∙ l.by_node) ∙ l.at) in
        let is : p.lowest ≡ l.ident = cc same in
        named_so (category_at t l.low.id) p.lowest.label.kind (ap (λ (m : Node). m.label.kind) is ∙ l.is_ident) p.begins

    parent_here : HasParent t l.low.id l.low
    parent_here = has_parent tokens t derived l.low.id l.low l.there (λ u. true≢false (sym named_low ∙ ap begins_named u))

    owner_node : node_at (nodes t) x.owner ≡ parent_here.parent
    owner_node = ap (λ i. node_at (nodes t) i) l.owner ∙ node_there tokens t derived l.low.parent parent_here.parent parent_here.found

    owner_kind : parent_here.parent.label.kind ≡ kind.InitDecl
    owner_kind = ap (λ (m : Node). m.label.kind) (sym owner_node) ∙ o

    category_low : category_at t l.low.id ≡ category.declarator
    unfolding stands_in
    category_low = declarator_so (category_at t l.low.id) named_low
        (λ e. true≢false (sym (subst (λ k. stands_in category.init_declarator k ≡ true) owner_kind (subst (λ d. stands_in d parent_here.parent.label.kind ≡ true) e parent_here.stands))))

    parent_is : parent_of (nodes t) l.low.id ≡ parent_here.parent
    parent_is = ap (λ (m : Node). node_at (nodes t) m.parent) (node_there tokens t derived l.low.id l.low l.there) ∙ node_there tokens t derived l.low.parent parent_here.parent parent_here.found

    whole_low : is_whole (nodes t) l.low ≡ true
    whole_low = ap (λ (m : Node). not (is_declarator m.label.kind)) parent_is ∙ ap (λ k. not (is_declarator k)) owner_kind

    whole_here : (u : CType) → judgement_at (judgements_at (places t)) l.low.id ≡ means (declares u) → Whole t C l.low.id l.low u
    whole_here u e = typed_at tokens t derived C c l.low.id u l.low l.there l.declares_it (ap type_of e)

    pub kept_name : KeptName C x
    kept_name =
        let m = meant l.low.id l.low l.there category_low whole_low in
        let w = whole_here m.0 m.1 in
        let same : name_of (places t) l.low.first ≡ Some x = ap (λ i. name_of (places t) i) l.begins ∙ name_found tokens t derived x among in
        record {
          names = l;
          owner = parent_here.parent;
          owner_there = parent_here.found;
          owner_is = owner_kind;
          kid = subst (λ ks. In l.low.id ks) (sym parent_here.among) (in_back l.low.id parent_here.front (l.low.id ∷ parent_here.back) (inl refl));
          category = category_low;
          type = m.0;
          judged = m.1;
          whole = w;
          kept = init_kept (places t) w.js l.low m.0 (name_of (places t) l.low.first) x (parent_of (nodes t) l.low.id).label.kind (ap (λ (n : Node). n.label.kind) parent_is ∙ owner_kind) same w.kept;
        }

  -- an object is declared by a declaration
  pub object_named : (x : Name) → In x (places t).names → is_object_entity x.entity ≡ true → Low x × ((node_at (nodes t) x.owner).label.kind ≡ kind.InitDecl)
  object_named x h e = let n = (names_here tokens t derived).each x h in by n n.how
    where
      by : (n : Named (nodes t) x) → Declares (nodes t) n.before n.node x → Low x × ((node_at (nodes t) x.owner).label.kind ≡ kind.InitDecl)
      by n (by_declarator i behind owner f g) = (low_by x n.node n.place n.there n.numbered i behind owner, owner_of_object (nodes t) (node_at (nodes t) x.owner) (specs_of (nodes t) (node_at (nodes t) x.owner)) x.scope x.is_function (node_at (nodes t) x.owner).label.kind x.entity e g)
      by n (by_enumerator i behind owner f g) = absurd (true≢false (sym e ∙ ap is_object_entity g))
