-- The whole declarator of a name: what a function or a declaration declares.
use Rattle.std.proofs.Common.{◌≡◌, ◌⊎◌, inl, inr, ℕ, zero, suc, ◌<◌, ◌≤◌, Bool, true, false, cond, List, [], ◌∷◌, Option, Some, None, refl, sym, ap, ◌∙◌, subst, arith, true≢false, unwrap_or}
use Rattle.std.specs.Prelude.{slice_get, ◌==◌, if◌then◌else◌, filter}
use Rattle.std.specs.List.{last_or}
use Rattle.c_lexer.specs.declared.token.Token.{Token}
use Rattle.c_syntax.specs.declared.kind.SynKind.{SynKind}
use Rattle.c_syntax.specs.declared.kind.SynKind.TheVariants as kind
use Rattle.c_syntax.specs.Trees.{Tree}
use Rattle.c_grammar.specs.Derivation.{IsTreeOf}
use Rattle.c_grammar.specs.Vocabulary.{is_storage_word, is_type_word}
use Rattle.c_typing.specs.Places.{Node, nodes, nowhere, is_declarator, in_declarator, whole_declarator}
use Rattle.c_typing.specs.Shapes as category
use Rattle.c_typing.specs.Shapes.{Category, no_category, category_by, word_category, declarator_over, in_parentheses, categories_of, at_places, kids_fit, begins_with, is_name, stands_in}
use Rattle.c_typing.specs.ShapesOfNodes.{category_at, HasParent}
use Rattle.c_typing.proofs.ShapesNodes.{node_placed}
use Rattle.c_typing.proofs.MadeNodes.{In, in_at, in_back, nested, node_bounds, crossed, kid_within}
use Rattle.c_typing.proofs.MadePlaced.{numbered, found, kid_found}
use Rattle.c_typing.proofs.MadeAround.{both_true, and_true, equal_so}
use Rattle.c_typing.proofs.MadeTop.{category_is, has_parent}

last_is : {A : Type 0} (f : A → Bool) (xs : List A) (n : ℕ) (m : A) (o : Option A) → slice_get xs n ≡ Some m → f m ≡ true → ((k : ℕ) (x : A) → n < k → slice_get xs k ≡ Some x → f x ≡ true → ⊥) → last_or o (filter f xs) ≡ Some m
last_is f [] n m o e g h = absurd (cc e)
last_is {A} f (x ∷ xs) zero m o e g h = by (f x) refl (none xs (λ k y i j. h (suc k) y (omega arith) i j))
  where
    same : x ≡ m
    same = cc e

    none : (ys : List A) → ((k : ℕ) (y : A) → slice_get ys k ≡ Some y → f y ≡ true → ⊥) → filter f ys ≡ []
    none [] i = refl
    none (y ∷ ys) i = at (f y) refl (none ys (λ k z. i (suc k) z))
      where
        at : (b : Bool) → f y ≡ b → filter f ys ≡ [] → cond b (y ∷ filter f ys) (filter f ys) ≡ []
        at true j more = absurd (i 0 y refl j)
        at false j more = more

    by : (b : Bool) → f x ≡ b → filter f xs ≡ [] → last_or o (cond b (x ∷ filter f xs) (filter f xs)) ≡ Some m
    by true i more = ap (λ ys. last_or (Some x) ys) more ∙ ap Some same
    by false i more = absurd (true≢false (sym (subst (λ y. f y ≡ true) (sym same) g) ∙ i))
last_is {A} f (x ∷ xs) (suc n) m o e g h = by (f x) (λ p. last_is f xs n m p e g (λ k y i. h (suc k) y (omega (arith, i))))
  where
    by : (b : Bool) → ((p : Option A) → last_or p (filter f xs) ≡ Some m) → last_or o (cond b (x ∷ filter f xs) (filter f xs)) ≡ Some m
    by true more = more (Some x)
    by false more = more o

-- a category of what begins with a name
abbrev pub begins_named : Category → Bool
begins_named category.declarator = true
begins_named category.init_declarator = true
begins_named c = false

pub named_so : (c : Category) (k : SynKind) → k ≡ kind.Ident → begins_with c k ≡ true → begins_named c ≡ true
unfolding begins_with
named_so category.declarator k e h = refl
named_so category.init_declarator k e h = refl
named_so c k e h = absurd (true≢false (sym (subst (λ l. begins_with c l ≡ true) e h)))

pub name_so : (k : SynKind) → is_name k ≡ true → k ≡ kind.Ident
name_so kind.Ident e = refl
name_so _ e = absurd (true≢false (sym e))

declarator_names : (k : SynKind) → begins_with category.declarator k ≡ true → k ≡ kind.Ident
unfolding begins_with
declarator_names k h = name_so k h

-- the categories of declarators are those of these kinds
abbrev is_declared : Category → Bool
is_declared category.declarator = true
is_declared c = false

of_word : (text : List ℕ) → is_declared (word_category text) ≡ true → ⊥
of_word text e = by (is_storage_word text) (is_type_word text) e
  where
    by : (a b : Bool) → is_declared (if a then category.storage_word else (if b then category.type_specifier else category.typedef_name)) ≡ true → ⊥
    by true b e2 = true≢false (sym e2)
    by false true e2 = true≢false (sym e2)
    by false false e2 = true≢false (sym e2)

declarator_kind : (k : SynKind) (text : List ℕ) (cs : List Category) → is_declared (category_by k text cs) ≡ true → is_declarator k ≡ true
unfolding category_by
declarator_kind kind.Ident text cs e = refl
declarator_kind kind.Pointer text cs e = refl
declarator_kind kind.ArrayOf text cs e = refl
declarator_kind kind.Takes text cs e = refl
declarator_kind kind.Paren text cs e = refl
declarator_kind kind.Word text cs e = absurd (of_word text e)
declarator_kind k text cs e = absurd (true≢false (sym e))

module _ (tokens : List Token) (t : Tree) (derived : IsTreeOf tokens t) where
  -- a node, and the one that it is a kid of
  pub record Stem (n nq : ℕ) : Type 0 where
    pub node : Node
    pub there : slice_get (nodes t) n ≡ Some node
    pub parent : Node
    pub above : slice_get (nodes t) nq ≡ Some parent
    pub kid : In n parent.kids

  module _ (n nq : ℕ) (s : Stem n nq) where
    -- a larger node that begins there holds the parent, which begins there, or is it
    above_so : (x : Node) → In x (nodes t) → x.first ≡ s.node.first → s.node.id < x.id → (s.parent ≡ x) ⊎ ((s.parent.first ≡ s.node.first) × (s.parent.id < x.id))
    above_so x h f lt =
        let id = numbered tokens t derived n s.node s.there in
        let idq = numbered tokens t derived nq s.parent s.above in
        let up = node_bounds t s.node (in_at s.node (nodes t) n s.there) in
        let q = in_at s.parent (nodes t) nq s.above in
        let wide = nested t x s.parent n h q s.kid (omega (arith, f, up, id)) (omega (arith, lt, id)) in
        let low = kid_found tokens t derived nq s.parent n s.above s.kid in
        let same : Some low.node ≡ Some s.node = sym low.there ∙ s.there in
        let is : low.node ≡ s.node = cc same in
        let from : s.parent.first ≤ s.node.first = subst (λ (m : Node). s.parent.first ≤ m.first) is low.from in
        let inner = (kid_within t s.parent n q s.kid).1 in
        by (s.parent.id == x.id) refl q wide from inner id up
      where
        apart : (a b : ℕ) → (a == b) ≡ false → a ≤ b → a < b
        apart a b h2 g = grind arith

        by : (b : Bool) → (s.parent.id == x.id) ≡ b → In s.parent (nodes t) → s.parent.id ≤ x.id → s.parent.first ≤ s.node.first → n < s.parent.id → s.node.id ≡ n → s.node.first ≤ s.node.id → (s.parent ≡ x) ⊎ ((s.parent.first ≡ s.node.first) × (s.parent.id < x.id))
        by true e q wide from inner id up =
            let same : Some s.parent ≡ Some x = sym (found tokens t derived s.parent q) ∙ (ap (λ j. slice_get (nodes t) j) (equal_so s.parent.id x.id e) ∙ found tokens t derived x h) in
            inl (cc same)
        by false e q wide from inner id up =
            let less = apart s.parent.id x.id e wide in
            let c = crossed t x s.parent h q (omega (arith, f, up, id, inner)) less in
            inr (omega (arith, c, from, f), less)

  -- a declarator
  module _ (n nq : ℕ) (s : Stem n nq) (is : category_at t n ≡ category.declarator) where
    pub stem_kind : is_declarator s.node.label.kind ≡ true
    stem_kind = let c = category_is tokens t derived n s.node s.there in declarator_kind s.node.label.kind s.node.label.text c.0 (ap is_declared (sym c.1 ∙ is))

    -- its lowest node is a name
    pub stem_name : (m : Node) × (slice_get (nodes t) s.node.first ≡ Some m) × (m.label.kind ≡ kind.Ident)
    stem_name =
        let p = node_placed tokens t derived n s.node s.there in
        (p.lowest, p.found, declarator_names p.lowest.label.kind (subst (λ c. begins_with c p.lowest.label.kind ≡ true) is p.begins))

    -- what begins at the same name
    begins_so : (k : ℕ) (x : Node) → slice_get (nodes t) k ≡ Some x → x.first ≡ s.node.first → begins_named (category_at t k) ≡ true
    begins_so k x e f =
        let p = node_placed tokens t derived k x e in
        let same : Some p.lowest ≡ Some stem_name.0 = sym p.found ∙ (ap (λ j. slice_get (nodes t) j) f ∙ stem_name.1) in
        let one : p.lowest ≡ stem_name.0 = cc same in
        named_so (category_at t k) p.lowest.label.kind (ap (λ (m : Node). m.label.kind) one ∙ stem_name.2) p.begins

    -- where no larger declarator begins there, it is the whole declarator
    pub whole_by : ((x : Node) → In x (nodes t) → x.first ≡ s.node.first → is_declarator x.label.kind ≡ true → s.node.id < x.id → ⊥) → whole_declarator (nodes t) s.node.first ≡ s.node
    whole_by none =
        let id = numbered tokens t derived n s.node s.there in
        ap (λ o. unwrap_or o nowhere) (last_is (in_declarator s.node.first) (nodes t) n s.node None s.there (and_true (s.node.first == s.node.first) (is_declarator s.node.label.kind) (same s.node.first) stem_kind)
        (λ k x lt e g. let b = both_true (x.first == s.node.first) (is_declarator x.label.kind) g in
        let idx = numbered tokens t derived k x e in
        none x (in_at x (nodes t) k e) (equal_so x.first s.node.first b.0) b.1 (omega (arith, lt, id, idx))))
      where
        same : (a : ℕ) → (a == a) ≡ true
        same a = grind arith

    pub whole_of_function : s.parent.label.kind ≡ kind.Function → whole_declarator (nodes t) s.node.first ≡ s.node
    unfolding category_by
    whole_of_function e = whole_by (λ x h f d lt. by x d (above_so n nq s x h f lt))
      where
        by : (x : Node) → is_declarator x.label.kind ≡ true → (s.parent ≡ x) ⊎ ((s.parent.first ≡ s.node.first) × (s.parent.id < x.id)) → ⊥
        by x d (inl same) = true≢false (sym d ∙ (ap (λ (m : Node). is_declarator m.label.kind) (sym same) ∙ ap is_declarator e))
        by x d (inr g) =
            let c = category_is tokens t derived nq s.parent s.above in
            let function : category_at t nq ≡ category.function = c.1 ∙ (λ (k : SynKind) (q : k ≡ kind.Function). subst (λ l. category_by l s.parent.label.text c.0 ≡ category.function) (sym q) refl) s.parent.label.kind e in
            true≢false (sym (begins_so nq s.parent s.above g.0) ∙ ap begins_named function)

    pub whole_of_declaration : s.parent.label.kind ≡ kind.InitDecl → whole_declarator (nodes t) s.node.first ≡ s.node
    unfolding category_by stands_in
    whole_of_declaration e = whole_by (λ x h f d lt. by x h f d (above_so n nq s x h f lt))
      where
        init : category_at t nq ≡ category.init_declarator
        init = let c = category_is tokens t derived nq s.parent s.above in c.1 ∙ subst (λ l. category_by l s.parent.label.text c.0 ≡ category.init_declarator) (sym e) refl

        init_no_unit : category.init_declarator ≡ category.unit → ⊥
        init_no_unit u = cc u

        declares : (k : SynKind) → stands_in category.init_declarator k ≡ true → k ≡ kind.Declaration
        declares kind.Declaration g = refl
        declares _ g = absurd (true≢false (sym g))

        above : HasParent t nq s.parent
        above = has_parent tokens t derived nq s.parent s.above (λ u. init_no_unit (sym init ∙ u))

        by : (x : Node) → In x (nodes t) → x.first ≡ s.node.first → is_declarator x.label.kind ≡ true → (s.parent ≡ x) ⊎ ((s.parent.first ≡ s.node.first) × (s.parent.id < x.id)) → ⊥
        by x h f d (inl same) = true≢false (sym d ∙ (ap (λ (m : Node). is_declarator m.label.kind) (sym same) ∙ ap is_declarator e))
        by x h f d (inr g) = last (above_so nq s.parent.parent upper x h (f ∙ sym g.0) g.1)
          where
            upper : Stem nq s.parent.parent
            upper = record { node = s.parent; there = s.above; parent = above.parent; above = above.found; kid = subst (λ ks. In nq ks) (sym above.among) (in_back nq above.front (nq ∷ above.back) (inl refl)) }

            is_declaration : above.parent.label.kind ≡ kind.Declaration
            is_declaration = declares above.parent.label.kind (subst (λ c. stands_in c above.parent.label.kind ≡ true) init above.stands)

            known : category_at t s.parent.parent ≡ category.declaration
            known = let c = category_is tokens t derived s.parent.parent above.parent above.found in c.1 ∙ subst (λ l. category_by l above.parent.label.text c.0 ≡ category.declaration) (sym is_declaration) refl

            last : (above.parent ≡ x) ⊎ ((above.parent.first ≡ s.parent.first) × (above.parent.id < x.id)) → ⊥
            last (inl same) = true≢false (sym d ∙ (ap (λ (m : Node). is_declarator m.label.kind) (sym same) ∙ ap is_declarator is_declaration))
            last (inr h2) = true≢false (sym (begins_so s.parent.parent above.parent above.found (h2.0 ∙ g.0)) ∙ ap begins_named known)
