-- A declarator of a parameter or a member has no initializer.
use Rattle.std.proofs.Common.{◌≡◌, ◌⊎◌, inl, inr, ℕ, zero, suc, ◌<◌, ◌≤◌, Bool, true, false, ◌&&◌, List, [], ◌∷◌, Option, Some, None, length, map, refl, sym, ap, ◌∙◌, subst, arith, true≢false}
use Rattle.std.specs.Prelude.{slice_get, unwrap_or, filter, ◌==◌, if◌then◌else◌}
use Rattle.std.specs.List.{last_or}
use Rattle.std.proofs.lemmas.Bool.Decides.{Decides-eqb}
use Rattle.c_lexer.specs.declared.token.Token.{Token}
use Rattle.c_syntax.specs.declared.kind.SynKind.{SynKind}
use Rattle.c_syntax.specs.declared.kind.SynKind.TheVariants as kind
use Rattle.c_syntax.specs.Trees.{Tree}
use Rattle.c_grammar.specs.Derivation.{IsTreeOf}
use Rattle.c_typing.specs.Places.{Node, nodes, node_at, nowhere, is_declarator, is_init, in_declarator, whole_declarator}
use Rattle.c_typing.specs.Shapes as category
use Rattle.c_typing.specs.Shapes.{Category, begins_with, category_by, is_absent_name, stands_in}
use Rattle.c_typing.specs.ShapesOfNodes.{category_at}
use Rattle.c_typing.proofs.ProgressForms.{is_part, split}
use Rattle.c_typing.proofs.ProgressAll.{found_at}
use Rattle.c_typing.proofs.ProgressPlaces.{Linked, AreLinked, stands, some_same}
use Rattle.c_typing.proofs.ShapesNodes.{node_placed}
use Rattle.c_typing.proofs.MadeNodes.{In, in_at, nested, node_bounds, crossed, kid_within}
use Rattle.c_typing.proofs.MadePlaced.{numbered, found, kid_found}
use Rattle.c_typing.proofs.MadeAround.{equal_so}
use Rattle.c_typing.proofs.MadeWhole.{Stem, begins_named, named_so, stem_name, whole_by}

-- ---- the last one that passes a test

abbrev pub Found : (Node → Bool) → List Node → Option Node → Type 0
Found f xs o = (k : ℕ) × (x : Node) × (slice_get xs k ≡ Some x) × (f x ≡ true) × (last_or o (filter f xs) ≡ Some x)

shift : (f : Node → Bool) (x : Node) (xs : List Node) (o : Option Node) (b : Bool) → f x ≡ b → last_or o (filter f (x ∷ xs)) ≡ last_or (if b then Some x else o) (filter f xs)
shift f x xs o true e = ap (λ b. last_or o (if b then x ∷ filter f xs else filter f xs)) e
shift f x xs o false e = ap (λ b. last_or o (if b then x ∷ filter f xs else filter f xs)) e

last_some : (f : Node → Bool) (xs : List Node) (o : Option Node) → (last_or o (filter f xs) ≡ o) ⊎ Found f xs o
last_some f [] o = inl refl
last_some f (x ∷ xs) o = by (f x) refl (last_some f xs (Some x)) (last_some f xs o)
  where
    by : (b : Bool) → f x ≡ b → ((last_or (Some x) (filter f xs) ≡ Some x) ⊎ Found f xs (Some x)) → ((last_or o (filter f xs) ≡ o) ⊎ Found f xs o) → (last_or o (filter f (x ∷ xs)) ≡ o) ⊎ Found f (x ∷ xs) o
    by true own (inl same) other = inr (0, x, refl, own, shift f x xs o true own ∙ same)
    by true own (inr (k, y, at, p, is)) other = inr (suc k, y, at, p, shift f x xs o true own ∙ is)
    by false own first (inl same) = inl (shift f x xs o false own ∙ same)
    by false own first (inr (k, y, at, p, is)) = inr (suc k, y, at, p, shift f x xs o false own ∙ is)

-- where one does
pub last_there : (f : Node → Bool) (xs : List Node) (o : Option Node) (n : ℕ) (m : Node) → slice_get xs n ≡ Some m → f m ≡ true → Found f xs o
last_there f [] o n m e t = absurd (gone e)
  where
    gone : None ≡ Some m → ⊥
    gone e = cc e
last_there f (x ∷ xs) o zero m e t = by (last_some f xs (Some x))
  where
    passes : f x ≡ true
    passes = ap f (some_same e) ∙ t

    by : ((last_or (Some x) (filter f xs) ≡ Some x) ⊎ Found f xs (Some x)) → Found f (x ∷ xs) o
    by (inl same) = (0, x, refl, passes, shift f x xs o true passes ∙ same)
    by (inr (k, y, at, p, is)) = (suc k, y, at, p, shift f x xs o true passes ∙ is)
last_there f (x ∷ xs) o (suc n) m e t = by (f x) refl (last_there f xs (Some x) n m e t) (last_there f xs o n m e t)
  where
    by : (b : Bool) → f x ≡ b → Found f xs (Some x) → Found f xs o → Found f (x ∷ xs) o
    by true own (k, y, at, p, is) other = (suc k, y, at, p, shift f x xs o true own ∙ is)
    by false own first (k, y, at, p, is) = (suc k, y, at, p, shift f x xs o false own ∙ is)

-- ---- whole declarators that have no initializer

-- these hold a declarator behind specs
abbrev pub has_none : SynKind → Bool
has_none kind.Function = true
has_none kind.Member = true
has_none kind.Param = true
has_none kind.TypeName = true
has_none k = false

owner_category : (k : SynKind) (text : List ℕ) (cs : List Category) → has_none k ≡ true → begins_named (category_by k text cs) ≡ false
unfolding category_by
owner_category kind.Function text cs e = refl
owner_category kind.Member text cs e = refl
owner_category kind.Param text cs e = refl
owner_category kind.TypeName text cs e = refl
owner_category k text cs e = absurd (true≢false (sym e))

no_declarator : (k : SynKind) → has_none k ≡ true → is_declarator k ≡ false
no_declarator kind.Function e = refl
no_declarator kind.Member e = refl
no_declarator kind.Param e = refl
no_declarator kind.TypeName e = refl
no_declarator k e = absurd (true≢false (sym e))

no_init : (k : SynKind) → has_none k ≡ true → is_init k ≡ false
no_init kind.Function e = refl
no_init kind.Member e = refl
no_init kind.Param e = refl
no_init kind.TypeName e = refl
no_init k e = absurd (true≢false (sym e))

-- what begins with the place of an absent name
begins_absent : (c : Category) → begins_with c kind.NoName ≡ true → (c ≡ category.abstract_declarator) ⊎ (c ≡ category.no_name)
unfolding begins_with
begins_absent category.abstract_declarator e = inl refl
begins_absent category.no_name e = inr refl
begins_absent c e = absurd (true≢false (sym e))

absent_stands : (c : Category) → begins_with c kind.NoName ≡ true → (k : SynKind) → stands_in c k ≡ true → is_init k ≡ false
unfolding stands_in
absent_stands c b k s = by (begins_absent c b)
  where
    abstract : (k : SynKind) → stands_in category.abstract_declarator k ≡ true → is_init k ≡ false
    abstract kind.InitDecl s = absurd (true≢false (sym s))
    abstract _ s = refl

    absent : (k : SynKind) → stands_in category.no_name k ≡ true → is_init k ≡ false
    absent kind.InitDecl s = absurd (true≢false (sym s))
    absent _ s = refl

    by : (c ≡ category.abstract_declarator) ⊎ (c ≡ category.no_name) → is_init k ≡ false
    by (inl same) = abstract k (ap (λ x. stands_in x k) (sym same) ∙ s)
    by (inr same) = absent k (ap (λ x. stands_in x k) (sym same) ∙ s)

absent_kind : (c : Category) (k : SynKind) → is_part c ≡ true → begins_with c k ≡ true → (c ≡ category.declarator) ⊎ (k ≡ kind.NoName)
unfolding begins_with
absent_kind category.declarator k p e = inl refl
absent_kind category.abstract_declarator k p e = inr (by k e)
  where
    by : (k : SynKind) → is_absent_name k ≡ true → k ≡ kind.NoName
    by kind.NoName e = refl
    by _ e = absurd (true≢false (sym e))
absent_kind category.no_name k p e = inr (by k e)
  where
    by : (k : SynKind) → is_absent_name k ≡ true → k ≡ kind.NoName
    by kind.NoName e = refl
    by _ e = absurd (true≢false (sym e))
absent_kind _ k p e = absurd (true≢false (sym p))

root_begins : (c : Category) → c ≡ category.unit → begins_with c kind.NoName ≡ true → ⊥
unfolding begins_with
root_begins c same e = true≢false (sym (ap (λ x. begins_with x kind.NoName) (sym same) ∙ e))

-- ---- larger nodes that begin with the same name

module _ (tokens : List Token) (t : Tree) (derived : IsTreeOf tokens t) (n nq : ℕ) (s : Stem tokens t derived n nq) where
  -- such a node holds the parent, which begins there, or is it
  above : (x : Node) → In x (nodes t) → x.first ≡ s.node.first → s.node.id < x.id → (s.parent ≡ x) ⊎ (s.parent.first ≡ s.node.first)
  above x h f lt =
      let id = numbered tokens t derived n s.node s.there in
      let idq = numbered tokens t derived nq s.parent s.above in
      let up = node_bounds t s.node (in_at s.node (nodes t) n s.there) in
      let q = in_at s.parent (nodes t) nq s.above in
      let wide = nested t x s.parent n h q s.kid (omega (arith, f, up, id)) (omega (arith, lt, id)) in
      let low = kid_found tokens t derived nq s.parent n s.above s.kid in
      let is : low.node ≡ s.node = some_same (sym low.there ∙ s.there) in
      let from : s.parent.first ≤ s.node.first = subst (λ (m : Node). s.parent.first ≤ m.first) is low.from in
      let inner = (kid_within t s.parent n q s.kid).1 in
      by (s.parent.id == x.id) refl q wide from inner id up
    where
      apart : (a b : ℕ) → (a == b) ≡ false → a ≤ b → a < b
      apart a b h2 g = grind arith

      by : (b : Bool) → (s.parent.id == x.id) ≡ b → In s.parent (nodes t) → s.parent.id ≤ x.id → s.parent.first ≤ s.node.first → n < s.parent.id → s.node.id ≡ n → s.node.first ≤ s.node.id → (s.parent ≡ x) ⊎ (s.parent.first ≡ s.node.first)
      by true e q wide from inner id up =
          inl (some_same (sym (found tokens t derived s.parent q) ∙ (ap (λ j. slice_get (nodes t) j) (equal_so s.parent.id x.id e) ∙ found tokens t derived x h)))
      by false e q wide from inner id up =
          let less = apart s.parent.id x.id e wide in
          let c = crossed t x s.parent h q (omega (arith, f, up, id, inner)) less in
          inr (omega (arith, c, from, f))

  module _ (is : category_at t n ≡ category.declarator) (l : AreLinked (category_at t) (nodes t)) (owner : has_none s.parent.label.kind ≡ true) where
    begins : s.parent.first ≡ s.node.first → begins_named (category_at t nq) ≡ true
    begins f =
        let p = node_placed tokens t derived nq s.parent s.above in
        let name = stem_name tokens t derived n nq s is in
        let one : p.lowest ≡ name.0 = some_same (sym p.found ∙ (ap (λ j. slice_get (nodes t) j) f ∙ name.1)) in
        named_so (category_at t nq) p.lowest.label.kind (ap (λ (m : Node). m.label.kind) one ∙ name.2) p.begins

    pub whole_named : whole_declarator (nodes t) s.node.first ≡ s.node
    whole_named = whole_by tokens t derived n nq s is (λ x h f d lt. by x d (above x h f lt))
      where
        by : (x : Node) → is_declarator x.label.kind ≡ true → (s.parent ≡ x) ⊎ (s.parent.first ≡ s.node.first) → ⊥
        by x d (inl same) = true≢false (sym d ∙ (ap (λ (m : Node). is_declarator m.label.kind) (sym same) ∙ no_declarator s.parent.label.kind owner))
        by x d (inr f) = true≢false (sym (begins f) ∙ (ap begins_named (l.shapes.shaped nq s.parent s.above).category ∙ owner_category s.parent.label.kind s.parent.label.text (map (category_at t) s.parent.kids) owner))

  -- no initializer stands behind it
  module _ (l : AreLinked (category_at t) (nodes t)) (part : is_part (category_at t n) ≡ true) (declares : is_declarator s.node.label.kind ≡ true) (owner : has_none s.parent.label.kind ≡ true) (below : s.node.parent ≡ nq) where
    named : category_at t n ≡ category.declarator → is_init (node_at (nodes t) (whole_declarator (nodes t) s.node.first).parent).label.kind ≡ false
    named is =
        ap (λ (x : Node). is_init (node_at (nodes t) x.parent).label.kind) (whole_named is l owner)
        ∙ (ap (λ k. is_init (node_at (nodes t) k).label.kind) below ∙ (ap (λ (x : Node). is_init x.label.kind) (found_at (nodes t) nq s.parent s.above) ∙ no_init s.parent.label.kind owner))

    absent : (m : Node) → slice_get (nodes t) s.node.first ≡ Some m → m.label.kind ≡ kind.NoName → is_init (node_at (nodes t) (whole_declarator (nodes t) s.node.first).parent).label.kind ≡ false
    absent m at is = by (last_there (in_declarator s.node.first) (nodes t) None n s.node s.there (ap (λ b. b && is_declarator s.node.label.kind) ((Decides-eqb s.node.first s.node.first).1 refl) ∙ declares))
      where
        by : Found (in_declarator s.node.first) (nodes t) None → is_init (node_at (nodes t) (whole_declarator (nodes t) s.node.first).parent).label.kind ≡ false
        by (k, x, there, passes, last) = ap (λ o. is_init (node_at (nodes t) (unwrap_or o nowhere).parent).label.kind) last ∙ linked (l.linked k x there)
          where
            first : x.first ≡ s.node.first
            first = (Decides-eqb x.first s.node.first).0 (split {p = x.first == s.node.first} passes).0

            begins : begins_with (category_at t k) kind.NoName ≡ true
            begins =
                let low = l.lowest k x there in
                let same : low.node ≡ m = some_same (sym low.at ∙ (ap (λ j. slice_get (nodes t) j) first ∙ at)) in
                ap (λ j. begins_with (category_at t k) j) (sym (ap (λ (y : Node). y.label.kind) same ∙ is)) ∙ low.begins

            linked : (suc k ≡ length (nodes t)) ⊎ Linked (nodes t) k x → is_init (node_at (nodes t) x.parent).label.kind ≡ false
            linked (inl last) = absurd (root_begins (category_at t k) (l.root k x there last) begins)
            linked (inr q) =
                ap (λ (y : Node). is_init y.label.kind) (found_at (nodes t) x.parent q.parent q.at)
                ∙ absent_stands (category_at t k) begins q.parent.label.kind (stands (category_at t) (nodes t) l k x q)

    pub not_init : is_init (node_at (nodes t) (whole_declarator (nodes t) s.node.first).parent).label.kind ≡ false
    not_init =
        let low = l.lowest n s.node s.there in
        by (absent_kind (category_at t n) low.node.label.kind part low.begins) low.node low.at refl
      where
        by : {k : SynKind} → (category_at t n ≡ category.declarator) ⊎ (k ≡ kind.NoName) → (m : Node) → slice_get (nodes t) s.node.first ≡ Some m → m.label.kind ≡ k → is_init (node_at (nodes t) (whole_declarator (nodes t) s.node.first).parent).label.kind ≡ false
        by (inl is) m at same = named is
        by (inr is) m at same = absent m at (same ∙ is)
