-- Which names there are, by their nodes, and which begins behind a node.
use Rattle.std.proofs.Common.{◌≡◌, ◌⊎◌, inl, inr, ℕ, zero, suc, ◌+◌, ◌<◌, Bool, true, false, List, [], ◌∷◌, ◌++◌, length, Option, Some, None, refl, sym, ap, ◌∙◌, subst, arith, true≢false, unwrap_or}
use Rattle.std.specs.Prelude.{slice_get, filter, ◌==◌}
use Rattle.c_lexer.specs.declared.token.Token.{Token}
use Rattle.c_syntax.specs.declared.kind.SynKind.{SynKind}
use Rattle.c_syntax.specs.declared.kind.SynKind.TheVariants as kind
use Rattle.c_syntax.specs.Trees.{Tree}
use Rattle.c_grammar.specs.Derivation.{IsTreeOf}
use Rattle.c_typing.specs.Places.{Node, nodes, node_at, nowhere, kind_at, text_at, is_declarator, in_declarator, whole_declarator, specs_of, Scope, scopes_of, scope_at}
use Rattle.c_typing.specs.Names.{Entity, enumerator, Name, places, entity_by, name_list, names_by, names_from, declares_function, name_of}
use Rattle.c_typing.proofs.MadeNodes.{In, in_at}
use Rattle.c_typing.proofs.MadePlaced.{numbered, node_there}
use Rattle.c_typing.proofs.MadeAround.{and_true}
use Rattle.c_typing.proofs.MadeNames.{Named, Declares, by_declarator, by_enumerator, names_have}
use Rattle.c_typing.proofs.MadeOnce.{filter_in, last_there}
use Rattle.c_typing.proofs.MadeFunctionNames.{names_here, name_found}
use Rattle.c_typing.proofs.MadeKept.{Low, low_by}
use Rattle.c_nodes.specs.Declarators.{Points, whole_of}
use Rattle.c_names.specs.Texts.{has_name}
use Rattle.c_names.specs.Denoted.{Among, is_enumerator, is_identifier, declares}
use Rattle.c_names.proofs.ChainLaws.{in_either, all_among, among_all, Ascend}

pub to_in : {A : Type 0} (x : A) (xs : List A) → Among x xs → In x xs
to_in x [] h = absurd h
to_in x (y ∷ xs) (inl e) = inl e
to_in x (y ∷ xs) (inr h) = inr (to_in x xs h)

pub from_in : {A : Type 0} (x : A) (xs : List A) → In x xs → Among x xs
from_in x [] h = absurd h
from_in x (y ∷ xs) (inl e) = inl e
from_in x (y ∷ xs) (inr h) = inr (from_in x xs h)

-- ---- names stand in the order of their nodes

ascend_with : (xs ys : List Name) → Ascend xs → Ascend ys → ((x y : Name) → Among x xs → Among y ys → x.node < y.node) → Ascend (xs ++ ys)
ascend_with [] ys s t h = t
ascend_with (x ∷ xs) ys s t h =
    (among_all (λ (b : Name). x.node < b.node) (xs ++ ys) (λ b i. by b (in_either b xs ys i)), ascend_with xs ys s.1 t (λ a b i j. h a b (inr i) j))
  where
    by : (b : Name) → Among b xs ⊎ Among b ys → x.node < b.node
    by b (inl i) = all_among (λ (c : Name). x.node < c.node) xs s.0 b i
    by b (inr i) = h x b (inl refl) i

one_ascends : (node whole : Node) (c : Scope) (f : Bool) (o : Option Entity) → Ascend (name_list node whole c f o)
one_ascends node whole c f None = tt
one_ascends node whole c f (Some y) = (tt, tt)

one_at : (node whole : Node) (c : Scope) (f : Bool) (o : Option Entity) (e : Name) → Among e (name_list node whole c f o) → e.node ≡ node.id
one_at node whole c f None e h = absurd h
one_at node whole c f (Some y) e (inl same) = ap (λ (a : Name). a.node) (sym same)
one_at node whole c f (Some y) e (inr h) = absurd h

module _ (s : List Node) where
  new_ascends : (before : List Name) (node : Node) (k : SynKind) → Ascend (names_by s (scopes_of s) before node k)
  new_ascends before node kind.Ident =
      let owner = node_at s (whole_declarator s node.id).parent in
      let c = scope_at (scopes_of s) node.id in
      let f = declares_function s before node.id (specs_of s owner) in
      one_ascends node (whole_declarator s node.id) c f (entity_by s owner (specs_of s owner) c f owner.label.kind)
  new_ascends before node kind.Enumer = one_ascends node node (scope_at (scopes_of s) node.id) false (Some enumerator)
  new_ascends before node _ = tt

  new_at : (before : List Name) (node : Node) (k : SynKind) (e : Name) → Among e (names_by s (scopes_of s) before node k) → e.node ≡ node.id
  new_at before node kind.Ident e h =
      let owner = node_at s (whole_declarator s node.id).parent in
      let c = scope_at (scopes_of s) node.id in
      let f = declares_function s before node.id (specs_of s owner) in
      one_at node (whole_declarator s node.id) c f (entity_by s owner (specs_of s owner) c f owner.label.kind) e h
  new_at before node kind.Enumer e h = one_at node node (scope_at (scopes_of s) node.id) false (Some enumerator) e h
  new_at before node _ e h = absurd h

  record Sorted (k : ℕ) (names : List Name) : Type 0 where
    ascend : Ascend names
    below : (e : Name) → Among e names → e.node < k

  module _ (numbers : (n : ℕ) (m : Node) → slice_get s n ≡ Some m → m.id ≡ n) where
    sorted_more : (k : ℕ) (names : List Name) (node : Node) → slice_get s k ≡ Some node → Sorted k names → Sorted (suc k) (names ++ names_by s (scopes_of s) names node node.label.kind)
    sorted_more k names node there g = record {
      ascend = ascend_with names new g.ascend (new_ascends names node node.label.kind) (λ x y i j. let low = g.below x i in let at = here y j in omega (arith, low, at));
      below = λ e i. by e (in_either e names new i);
    }
      where
        new : List Name
        new = names_by s (scopes_of s) names node node.label.kind

        here : (y : Name) → Among y new → y.node ≡ k
        here y j = new_at names node node.label.kind y j ∙ numbers k node there

        by : (e : Name) → Among e names ⊎ Among e new → e.node < suc k
        by e (inl i) = let low = g.below e i in omega (arith, low)
        by e (inr i) = let at = here e i in omega (arith, at)

    sorted_all : (k : ℕ) (names : List Name) (ns : List Node) → ((i : ℕ) (m : Node) → slice_get ns i ≡ Some m → slice_get s (k + i) ≡ Some m) → Sorted k names → Ascend (names_from s (scopes_of s) names ns)
    sorted_all k names [] at g = g.ascend
    sorted_all k names (node ∷ rest) at g =
        let first : slice_get s k ≡ Some node = subst (λ i. slice_get s i ≡ Some node) (omega arith) (at 0 node refl) in
        sorted_all (suc k) (names ++ names_by s (scopes_of s) names node node.label.kind) rest
        (λ i m e. subst (λ j. slice_get s j ≡ Some m) (omega arith) (at (suc i) m e)) (sorted_more k names node first g)

    all_sorted : Ascend (names_from s (scopes_of s) [] s)
    all_sorted = sorted_all 0 [] s (λ i m e. subst (λ j. slice_get s j ≡ Some m) (omega arith) e) (record { ascend = tt; below = λ e h. absurd h })

-- ---- kinds

declares_so : (s : List Node) (owner specs : Node) (c : Scope) (f : Bool) (k : SynKind) (y : Entity) → entity_by s owner specs c f k ≡ Some y → declares k ≡ true
declares_so s owner specs c f kind.InitDecl y e = refl
declares_so s owner specs c f kind.Function y e = refl
declares_so s owner specs c f kind.Param y e = refl
declares_so s owner specs c f _ y e = absurd (cc e)

pub so_declares : (s : List Node) (owner specs : Node) (c : Scope) (f : Bool) (k : SynKind) → declares k ≡ true → (y : Entity) × (entity_by s owner specs c f k ≡ Some y)
so_declares s owner specs c f kind.InitDecl e = (unwrap_or (entity_by s owner specs c f kind.InitDecl) enumerator, refl)
so_declares s owner specs c f kind.Function e = (unwrap_or (entity_by s owner specs c f kind.Function) enumerator, refl)
so_declares s owner specs c f kind.Param e = (unwrap_or (entity_by s owner specs c f kind.Param) enumerator, refl)
so_declares s owner specs c f _ e = absurd (true≢false (sym e))

enumerator_kind : (k : SynKind) → is_enumerator k ≡ true → k ≡ kind.Enumer
enumerator_kind kind.Enumer e = refl
enumerator_kind _ e = absurd (true≢false (sym e))

pub identifier_kind : (k : SynKind) → is_identifier k ≡ true → k ≡ kind.Ident
identifier_kind kind.Ident e = refl
identifier_kind _ e = absurd (true≢false (sym e))

no_enumerator : (k : SynKind) → is_declarator k ≡ true → k ≡ kind.Enumer → ⊥
no_enumerator k d e = true≢false (sym d ∙ ap is_declarator e)

same_numbers : (a b : ℕ) → a ≡ b → (a == b) ≡ true
same_numbers a b e = grind arith

-- ---- the names of a derived tree

module _ (tokens : List Token) (t : Tree) (derived : IsTreeOf tokens t) where
  pub ascend : Ascend (places t).names
  ascend = all_sorted (nodes t) (numbered tokens t derived)

  each : (e : Name) → Among e (places t).names → Named (nodes t) e
  each e h = (names_here tokens t derived).each e (to_in e (places t).names h)

  pub one_node : (a b : Name) → Among a (places t).names → Among b (places t).names → a.node ≡ b.node → a ≡ b
  one_node a b h i e = (names_here tokens t derived).alone a b (to_in a (places t).names h) (to_in b (places t).names i) e

  pub name_at : (e : Name) → Among e (places t).names → name_of (places t) e.node ≡ Some e
  name_at e h = name_found tokens t derived e (to_in e (places t).names h)

  pub name_below : (e : Name) → Among e (places t).names → e.node < length (nodes t)
  name_below e h = (names_here tokens t derived).below e (to_in e (places t).names h)

  -- a name by its node
  pub record Labelled (e : Name) : Type 0 where
    pub has : has_name (kind_at (nodes t) e.node) ≡ true
    pub text : e.text ≡ text_at (nodes t) e.node
    pub scope : e.scope ≡ scope_at (scopes_of (nodes t)) e.node

  pub here : (e : Name) (q : Named (nodes t) e) → node_at (nodes t) e.node ≡ q.node
  here e q = ap (node_at (nodes t)) (q.numbered ∙ numbered tokens t derived q.place q.node q.there) ∙ node_there tokens t derived q.place q.node q.there

  pub labelled : (e : Name) → Among e (places t).names → Labelled e
  labelled e h = let q = each e h in record {
    has = ap (λ (m : Node). has_name m.label.kind) (here e q) ∙ by q.before q.node q.how;
    text = q.text ∙ ap (λ (m : Node). m.label.text) (sym (here e q));
    scope = q.scoped ∙ ap (scope_at (scopes_of (nodes t))) (sym q.numbered);
  }
    where
      by : (before : List Name) (m : Node) → Declares (nodes t) before m e → has_name m.label.kind ≡ true
      by before m (by_declarator i b o f y) = ap has_name i
      by before m (by_enumerator i b o f y) = ap has_name i

  pub there : (n : ℕ) → n < length (nodes t) → slice_get (nodes t) n ≡ Some (node_at (nodes t) n)
  there n within = by (nodes t) n within
    where
      by : (s : List Node) (i : ℕ) → i < length s → slice_get s i ≡ Some (node_at s i)
      by [] i h = absurd (omega (arith, h))
      by (m ∷ s) zero h = refl
      by (m ∷ s) (suc i) h = by s i (omega (arith, h))

  -- ---- which name begins behind the node n

  -- an enumerator
  abbrev pub Enumerates : ℕ → Name → Type 0
  Enumerates n e = (kind_at (nodes t) n ≡ kind.Enumer) × (e.node ≡ n)

  -- or a whole declarator
  pub record Whole (n : ℕ) (e : Name) : Type 0 where
    pub is : is_declarator (kind_at (nodes t) n) ≡ true
    pub first : e.node ≡ (node_at (nodes t) n).first
    pub ident : kind_at (nodes t) e.node ≡ kind.Ident
    pub number : (w : ℕ) → Points (nodes t) w (whole_of (nodes t) e.node) → w ≡ n
    pub owner : declares (kind_at (nodes t) (node_at (nodes t) n).parent) ≡ true

  whole_of_low : (e : Name) (low : Low tokens t derived e) (n : ℕ) → e.behind ≡ n → (whole_declarator (nodes t) e.node).id ≡ n → (w : ℕ) → Points (nodes t) w (whole_of (nodes t) e.node) → w ≡ n
  whole_of_low e low n behind id w points = by (whole_of (nodes t) e.node) refl points
    where
      some : (y : Node) × (whole_of (nodes t) e.node ≡ Some y)
      some = last_there (filter (in_declarator e.node) (nodes t)) low.low None
          (filter_in (in_declarator e.node) (nodes t) low.low (in_at low.low (nodes t) low.low.id low.there) (and_true (low.low.first == e.node) (is_declarator low.low.label.kind) (same_numbers low.low.first e.node low.begins) low.declares_it))

      by : (o : Option Node) → whole_of (nodes t) e.node ≡ o → Points (nodes t) w o → w ≡ n
      by None g p = absurd (cc (sym some.1 ∙ g))
      by (Some m) g p =
          let at : m.id ≡ n = ap (λ q. (unwrap_or q nowhere).id) (sym g) ∙ id in
          sym (numbered tokens t derived w (node_at (nodes t) w) (there w p.0)) ∙ (ap (λ (x : Node). x.id) p.1 ∙ at)

  whole_by : (e : Name) (low : Low tokens t derived e) (q : Named (nodes t) e) (n : ℕ) → e.behind ≡ n → e.behind ≡ (whole_declarator (nodes t) q.node.id).id
      → declares (node_at (nodes t) e.owner).label.kind ≡ true → Whole n e
  whole_by e low q n behind is owner = record {
    is = ap (λ (m : Node). is_declarator m.label.kind) same ∙ low.declares_it;
    first = sym low.begins ∙ ap (λ (m : Node). m.first) (sym same);
    ident = ap (λ i. kind_at (nodes t) i) low.by_node ∙ (ap (λ (m : Node). m.label.kind) (node_there tokens t derived low.ident.id low.ident low.at) ∙ low.is_ident);
    number = whole_of_low e low n behind (ap (λ i. (whole_declarator (nodes t) i).id) q.numbered ∙ (sym is ∙ behind));
    owner = ap (λ i. declares (kind_at (nodes t) i)) (ap (λ (m : Node). m.parent) same ∙ sym low.owner) ∙ owner;
  }
    where
      same : node_at (nodes t) n ≡ low.low
      same = ap (node_at (nodes t)) (sym behind ∙ low.behind) ∙ node_there tokens t derived low.low.id low.low low.there

  pub begins_so : (e : Name) → Among e (places t).names → (n : ℕ) → e.behind ≡ n → Enumerates n e ⊎ Whole n e
  begins_so e h n behind = let q = each e h in by q q.how
    where
      by : (q : Named (nodes t) e) → Declares (nodes t) q.before q.node e → Enumerates n e ⊎ Whole n e
      by q (by_declarator i b o f y) =
          let low = low_by tokens t derived e q.node q.place q.there q.numbered i b o in
          let owner = node_at (nodes t) e.owner in
          inr (whole_by e low q n behind b (declares_so (nodes t) owner (specs_of (nodes t) owner) e.scope e.is_function owner.label.kind e.entity y))
      by q (by_enumerator i b o f y) =
          let at : e.node ≡ n = q.numbered ∙ (sym b ∙ behind) in
          inl (ap (kind_at (nodes t)) (sym at) ∙ (ap (λ (m : Node). m.label.kind) (here e q) ∙ i), at)

  -- the name that begins behind n, declared by a node
  pub record Start (n node : ℕ) : Type 0 where
    pub name : Name
    pub among : Among name (places t).names
    pub at : name.node ≡ node
    pub behind : name.behind ≡ n

  pub start_enumerator : (n : ℕ) → n < length (nodes t) → is_enumerator (kind_at (nodes t) n) ≡ true → Start n n
  start_enumerator n within e =
      let m = node_at (nodes t) n in
      let id = numbered tokens t derived n m (there n within) in
      let k = enumerator_kind m.label.kind e in
      let have = names_have (nodes t) [] (nodes t) n m (there n within) in
      let c = scope_at (scopes_of (nodes t)) m.id in
      let x : Name = record { text = m.label.text; node = m.id; behind = m.id; owner = m.parent; scope = c; entity = enumerator; is_function = false } in
      record {
        name = x;
        among = from_in x (places t).names (have.1 x (subst (λ q. In x (names_by (nodes t) (scopes_of (nodes t)) have.0 m q)) (sym k) (inl refl)));
        at = id;
        behind = id;
      }

  pub start_declarator : (n : ℕ) → n < length (nodes t) → (first : ℕ) → first ≡ (node_at (nodes t) n).first → first < length (nodes t)
      → Points (nodes t) n (whole_of (nodes t) first) → is_identifier (kind_at (nodes t) first) ≡ true → declares (kind_at (nodes t) (node_at (nodes t) n).parent) ≡ true → Start n first
  start_declarator n within first is low points ident owns =
      by (whole_of (nodes t) first) refl points
    where
      m : Node
      m = node_at (nodes t) first

      id : m.id ≡ first
      id = numbered tokens t derived first m (there first low)

      k : m.label.kind ≡ kind.Ident
      k = identifier_kind m.label.kind ident

      by : (o : Option Node) → whole_of (nodes t) first ≡ o → Points (nodes t) n o → Start n first
      by None g p = absurd (let q = within in omega (arith, p, q))
      by (Some w) g p = record {
        name = x;
        among = from_in x (places t).names (have.1 x (subst (λ q. In x (names_by (nodes t) (scopes_of (nodes t)) have.0 m q)) (sym k) listed));
        at = id;
        behind = ap (λ (y : Node). y.id) whole ∙ number;
      }
        where
          whole : whole_declarator (nodes t) m.id ≡ w
          whole = ap (whole_declarator (nodes t)) id ∙ ap (λ o. unwrap_or o nowhere) g

          number : w.id ≡ n
          number = ap (λ (y : Node). y.id) (sym p.1) ∙ numbered tokens t derived n (node_at (nodes t) n) (there n within)

          have : (before : List Name) × ((e : Name) → In e (names_by (nodes t) (scopes_of (nodes t)) before m m.label.kind) → In e (names_from (nodes t) (scopes_of (nodes t)) [] (nodes t)))
          have = names_have (nodes t) [] (nodes t) first m (there first low)

          owner : Node
          owner = node_at (nodes t) (whole_declarator (nodes t) m.id).parent

          c : Scope
          c = scope_at (scopes_of (nodes t)) m.id

          f : Bool
          f = declares_function (nodes t) have.0 m.id (specs_of (nodes t) owner)

          owner_is : declares owner.label.kind ≡ true
          owner_is = ap (λ (y : Node). declares (kind_at (nodes t) y.parent)) (whole ∙ sym p.1) ∙ owns

          entity : (y : Entity) × (entity_by (nodes t) owner (specs_of (nodes t) owner) c f owner.label.kind ≡ Some y)
          entity = so_declares (nodes t) owner (specs_of (nodes t) owner) c f owner.label.kind owner_is

          x : Name
          x = record { text = m.label.text; node = m.id; behind = (whole_declarator (nodes t) m.id).id; owner = (whole_declarator (nodes t) m.id).parent; scope = c; entity = entity.0; is_function = f }

          listed : In x (name_list m (whole_declarator (nodes t) m.id) c f (entity_by (nodes t) owner (specs_of (nodes t) owner) c f owner.label.kind))
          listed = subst (λ o. In x (name_list m (whole_declarator (nodes t) m.id) c f o)) (sym entity.1) (inl refl)

  -- ---- the same node declares all that begins behind n

  pub only : (n node : ℕ) → (is_enumerator (kind_at (nodes t) n) ≡ true → node ≡ n) → (is_declarator (kind_at (nodes t) n) ≡ true → node ≡ (node_at (nodes t) n).first)
      → (s : Start n node) → (e : Name) → Among e (places t).names → e.behind ≡ n → e ≡ s.name
  only n node enum decl s e h behind = one_node e s.name h s.among (by (begins_so e h n behind) ∙ sym s.at)
    where
      by : Enumerates n e ⊎ Whole n e → e.node ≡ node
      by (inl q) = q.1 ∙ sym (enum (ap is_enumerator q.0))
      by (inr w) = w.first ∙ sym (decl w.is)

  -- nothing begins behind a node that fails one of these tests
  pub none_begins : (n w : ℕ) → Points (nodes t) w (whole_of (nodes t) (node_at (nodes t) n).first)
      → is_enumerator (kind_at (nodes t) n) ≡ false
      → (is_declarator (kind_at (nodes t) n) ≡ true → w ≡ n → is_identifier (kind_at (nodes t) (node_at (nodes t) n).first) ≡ true → declares (kind_at (nodes t) (node_at (nodes t) n).parent) ≡ true → ⊥)
      → (e : Name) → Among e (places t).names → e.behind ≡ n → ⊥
  none_begins n w points enum tests e h behind = by (begins_so e h n behind)
    where
      by : Enumerates n e ⊎ Whole n e → ⊥
      by (inl q) = true≢false (sym (ap is_enumerator q.0) ∙ enum)
      by (inr x) = tests x.is (x.number w (subst (λ i. Points (nodes t) w (whole_of (nodes t) i)) (sym x.first) points)) (ap is_identifier (ap (kind_at (nodes t)) (sym x.first) ∙ x.ident)) x.owner
