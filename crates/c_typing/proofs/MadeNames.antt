-- The names of a unit, each with its node.
use Rattle.std.proofs.Common.{◌≡◌, ◌⊎◌, inl, inr, ℕ, zero, suc, ◌+◌, ◌<◌, Bool, false, List, [], ◌∷◌, ◌++◌, length, Option, Some, None, refl, sym, ap, ◌∙◌, subst, arith}
use Rattle.std.specs.Prelude.{slice_get}
use Rattle.c_syntax.specs.declared.kind.SynKind.{SynKind}
use Rattle.c_syntax.specs.declared.kind.SynKind.TheVariants as kind
use Rattle.c_typing.specs.Places.{Node, node_at, whole_declarator, specs_of, Scope, scopes_of, scope_at}
use Rattle.c_typing.specs.Names.{Entity, enumerator, Name, declares_function, entity_by, name_list, names_by, names_from}
use Rattle.c_typing.proofs.MadeNodes.{In, in_front, in_back, in_either}

-- how a node declares a name, behind these names
pub data Declares (s : List Node) (before : List Name) (node : Node) (e : Name) : Type 0 where
  by_declarator : node.label.kind ≡ kind.Ident → e.behind ≡ (whole_declarator s node.id).id → e.owner ≡ (whole_declarator s node.id).parent
      → e.is_function ≡ declares_function s before node.id (specs_of s (node_at s e.owner))
      → entity_by s (node_at s e.owner) (specs_of s (node_at s e.owner)) e.scope e.is_function (node_at s e.owner).label.kind ≡ Some e.entity → Declares s before node e
  by_enumerator : node.label.kind ≡ kind.Enumer → e.behind ≡ node.id → e.owner ≡ node.parent → e.is_function ≡ false → e.entity ≡ enumerator → Declares s before node e

pub record Named (s : List Node) (e : Name) : Type 0 where
  pub node : Node
  pub place : ℕ
  pub there : slice_get s place ≡ Some node
  pub numbered : e.node ≡ node.id
  pub text : e.text ≡ node.label.text
  pub scoped : e.scope ≡ scope_at (scopes_of s) node.id
  pub before : List Name
  pub how : Declares s before node e

-- ---- the names that one node declares

listed_one : (node whole : Node) (c : Scope) (f : Bool) (o : Option Entity) (e : Name) → In e (name_list node whole c f o)
    → (y : Entity) × (o ≡ Some y) × (record { text = node.label.text; node = node.id; behind = whole.id; owner = whole.parent; scope = c; entity = y; is_function = f } ≡ e)
listed_one node whole c f None e h = absurd h
listed_one node whole c f (Some y) e (inl same) = (y, refl, same)
listed_one node whole c f (Some y) e (inr h) = absurd h

module _ (s : List Node) where
  by_kind : (before : List Name) (node : Node) (place : ℕ) → slice_get s place ≡ Some node → (k : SynKind) → node.label.kind ≡ k → (e : Name) → In e (names_by s (scopes_of s) before node k) → Named s e
  by_kind before node place there kind.Ident is e h =
      let whole = whole_declarator s node.id in
      let owner = node_at s whole.parent in
      let specs = specs_of s owner in
      let c = scope_at (scopes_of s) node.id in
      let f = declares_function s before node.id specs in
      let one = listed_one node whole c f (entity_by s owner specs c f owner.label.kind) e h in
      subst (λ a. Named s a) one.2 (record { node = node; place = place; there = there; numbered = refl; text = refl; scoped = refl; before = before; how = by_declarator is refl refl refl one.1 })
  by_kind before node place there kind.Enumer is e h =
      let one = listed_one node node (scope_at (scopes_of s) node.id) false (Some enumerator) e h in
      subst (λ a. Named s a) one.2 (record { node = node; place = place; there = there; numbered = refl; text = refl; scoped = refl; before = before; how = by_enumerator is refl refl refl (sym (cc one.1)) })
  by_kind before node place there k is e h = absurd h

  one_alone : (node whole : Node) (c : Scope) (f : Bool) (o : Option Entity) (a b : Name) → In a (name_list node whole c f o) → In b (name_list node whole c f o) → a ≡ b
  one_alone node whole c f None a b h i = absurd h
  one_alone node whole c f (Some y) a b (inl e) (inl g) = sym e ∙ g
  one_alone node whole c f (Some y) a b (inr h) i = absurd h
  one_alone node whole c f (Some y) a b h (inr i) = absurd i

  by_alone : (before : List Name) (node : Node) (k : SynKind) (a b : Name) → In a (names_by s (scopes_of s) before node k) → In b (names_by s (scopes_of s) before node k) → a ≡ b
  by_alone before node kind.Ident a b h i =
      let whole = whole_declarator s node.id in
      let owner = node_at s whole.parent in
      let c = scope_at (scopes_of s) node.id in
      let f = declares_function s before node.id (specs_of s owner) in
      one_alone node whole c f (entity_by s owner (specs_of s owner) c f owner.label.kind) a b h i
  by_alone before node kind.Enumer a b h i = one_alone node node (scope_at (scopes_of s) node.id) false (Some enumerator) a b h i
  by_alone before node k a b h i = absurd h

  listed_at : (node whole : Node) (c : Scope) (f : Bool) (o : Option Entity) (e : Name) → In e (name_list node whole c f o) → e.node ≡ node.id
  listed_at node whole c f o e h = let one = listed_one node whole c f o e h in ap (λ (a : Name). a.node) (sym one.2)

  by_at : (before : List Name) (node : Node) (k : SynKind) (e : Name) → In e (names_by s (scopes_of s) before node k) → e.node ≡ node.id
  by_at before node kind.Ident e h =
      let whole = whole_declarator s node.id in
      let owner = node_at s whole.parent in
      let c = scope_at (scopes_of s) node.id in
      let f = declares_function s before node.id (specs_of s owner) in
      listed_at node whole c f (entity_by s owner (specs_of s owner) c f owner.label.kind) e h
  by_at before node kind.Enumer e h = listed_at node node (scope_at (scopes_of s) node.id) false (Some enumerator) e h
  by_at before node k e h = absurd h

  -- all names, and no two at one node
  pub record Names (k : ℕ) (names : List Name) : Type 0 where
    pub each : (e : Name) → In e names → Named s e
    pub below : (e : Name) → In e names → e.node < k
    pub alone : (a b : Name) → In a names → In b names → a.node ≡ b.node → a ≡ b

  module _ (numbered : (n : ℕ) (m : Node) → slice_get s n ≡ Some m → m.id ≡ n) where
    more_names : (k : ℕ) (names : List Name) (node : Node) → slice_get s k ≡ Some node → Names k names → Names (suc k) (names ++ names_by s (scopes_of s) names node node.label.kind)
    more_names k names node there g = record { each = λ e h. each e (in_either e names new h); below = λ e h. below e (in_either e names new h); alone = λ a b h i same. alone a b (in_either a names new h) (in_either b names new i) same }
      where
        new : List Name
        new = names_by s (scopes_of s) names node node.label.kind

        at : (e : Name) → In e new → e.node ≡ k
        at e h = by_at names node node.label.kind e h ∙ numbered k node there

        each : (e : Name) → In e names ⊎ In e new → Named s e
        each e (inl h) = g.each e h
        each e (inr h) = by_kind names node k there node.label.kind refl e h

        below : (e : Name) → In e names ⊎ In e new → e.node < suc k
        below e (inl h) = let b : e.node < k = g.below e h in omega (arith, b)
        below e (inr h) = let b : e.node ≡ k = at e h in omega (arith, b)

        alone : (a b : Name) → In a names ⊎ In a new → In b names ⊎ In b new → a.node ≡ b.node → a ≡ b
        alone a b (inl h) (inl i) same = g.alone a b h i same
        alone a b (inl h) (inr i) same = let c : a.node < k = g.below a h in let d : b.node ≡ k = at b i in absurd (omega (arith, c, d, same))
        alone a b (inr h) (inl i) same = let c : b.node < k = g.below b i in let d : a.node ≡ k = at a h in absurd (omega (arith, c, d, same))
        alone a b (inr h) (inr i) same = by_alone names node node.label.kind a b h i

    names_all : (k : ℕ) (names : List Name) (ns : List Node) → ((i : ℕ) (m : Node) → slice_get ns i ≡ Some m → slice_get s (k + i) ≡ Some m) → Names k names → Names (k + length ns) (names_from s (scopes_of s) names ns)
    names_all k names [] at g = subst (λ n. Names n names) (omega arith) g
    names_all k names (node ∷ rest) at g =
        let first : slice_get s k ≡ Some node = subst (λ i. slice_get s i ≡ Some node) (omega arith) (at 0 node refl) in
        subst (λ n. Names n (names_from s (scopes_of s) (names ++ names_by s (scopes_of s) names node node.label.kind) rest)) (omega arith)
        (names_all (suc k) (names ++ names_by s (scopes_of s) names node node.label.kind) rest (λ i m e. subst (λ j. slice_get s j ≡ Some m) (omega arith) (at (suc i) m e)) (more_names k names node first g))

    pub all_names : Names (length s) (names_from s (scopes_of s) [] s)
    all_names = subst (λ n. Names n (names_from s (scopes_of s) [] s)) (omega arith)
        (names_all 0 [] s (λ i m e. subst (λ j. slice_get s j ≡ Some m) (omega arith) e) (record { each = λ e h. absurd h; below = λ e h. absurd h; alone = λ a b h i same. absurd h }))

  names_kept : (names : List Name) (ns : List Node) (e : Name) → In e names → In e (names_from s (scopes_of s) names ns)
  names_kept names [] e h = h
  names_kept names (node ∷ rest) e h = names_kept (names ++ names_by s (scopes_of s) names node node.label.kind) rest e (in_front e names (names_by s (scopes_of s) names node node.label.kind) h)

  -- the names that a node declares are among them
  pub names_have : (names : List Name) (ns : List Node) (i : ℕ) (m : Node) → slice_get ns i ≡ Some m
      → (before : List Name) × ((e : Name) → In e (names_by s (scopes_of s) before m m.label.kind) → In e (names_from s (scopes_of s) names ns))
  names_have names [] i m e = absurd (cc e)
  names_have names (node ∷ rest) zero m e =
      let same : node ≡ m = cc e in (
        names,
        λ a h. names_kept (names ++ names_by s (scopes_of s) names node node.label.kind) rest a
            (in_back a names (names_by s (scopes_of s) names node node.label.kind) (subst (λ (x : Node). In a (names_by s (scopes_of s) names x x.label.kind)) (sym same) h)),
      )
  names_have names (node ∷ rest) (suc i) m e = names_have (names ++ names_by s (scopes_of s) names node node.label.kind) rest i m e
