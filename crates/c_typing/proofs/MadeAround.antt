-- The loops and switches around a node.
use Rattle.std.proofs.Common.{◌≡◌, ◌⊎◌, inl, inr, ℕ, ◌<◌, ◌≤◌, Bool, cond, true, false, ◌&&◌, ◌||◌, not, List, [], ◌∷◌, Some, refl, sym, ap, ◌∙◌, subst, arith, true≢false}
use Rattle.std.specs.Prelude.{slice_get, nat_le, ◌==◌, find}
use Rattle.std.specs.List.{list_any}
use Rattle.std.specs.Option.{is_some}
use Rattle.c_lexer.specs.declared.token.Token.{Token}
use Rattle.c_syntax.specs.declared.kind.SynKind.{SynKind}
use Rattle.c_syntax.specs.Trees.{Tree}
use Rattle.c_grammar.specs.Derivation.{IsTreeOf}
use Rattle.c_typing.specs.Places.{Node, nodes, holds}
use Rattle.c_typing.specs.Names.{places}
use Rattle.c_typing.specs.Statements.{is_inside}
use Rattle.c_typing.proofs.MadeNodes.{In, in_at, nested, kid_within}
use Rattle.c_typing.proofs.MadePlaced.{numbered, found}

-- ---- tests

pub both_true : (a b : Bool) → a && b ≡ true → (a ≡ true) × (b ≡ true)
both_true true b e = (refl, e)
both_true false b e = absurd (true≢false (sym e))

pub and_true : (a b : Bool) → a ≡ true → b ≡ true → a && b ≡ true
and_true true b e f = f
and_true false b e f = e

pub equal_so : (a b : ℕ) → (a == b) ≡ true → a ≡ b
equal_so a b e = grind arith

pub not_equal : (a b : ℕ) → not (a == b) ≡ true → a ≡ b → ⊥
not_equal a b e f = grind arith

pub differ : (a b : ℕ) → (a ≡ b → ⊥) → not (a == b) ≡ true
differ a b h = by (a == b) refl
  where
    by : (c : Bool) → (a == b) ≡ c → not c ≡ true
    by true e = absurd (h (equal_so a b e))
    by false e = refl

pub low_so : (a b : ℕ) → nat_le a b ≡ true → a ≤ b
low_so a b e = grind arith

pub so_low : (a b : ℕ) → a ≤ b → nat_le a b ≡ true
so_low a b e = grind arith

pub any_one : {A : Type 0} (f : A → Bool) (xs : List A) → list_any f xs ≡ true → (x : A) × In x xs × (f x ≡ true)
any_one f [] e = absurd (true≢false (sym e))
any_one {A} f (x ∷ xs) e = by (f x) refl e (any_one f xs)
  where
    by : (b : Bool) → f x ≡ b → b || list_any f xs ≡ true → (list_any f xs ≡ true → (y : A) × In y xs × (f y ≡ true)) → (y : A) × In y (x ∷ xs) × (f y ≡ true)
    by true g h more = (x, inl refl, g)
    by false g h more = let m = more h in (m.0, inr m.1, m.2)

pub one_any : {A : Type 0} (f : A → Bool) (xs : List A) (x : A) → In x xs → f x ≡ true → list_any f xs ≡ true
one_any f [] x h e = absurd h
one_any f (y ∷ xs) x (inl same) e = ap (λ b. b || list_any f xs) (ap f same ∙ e)
one_any f (y ∷ xs) x (inr h) e = late (f y) (one_any f xs x h e)
  where
    late : (b : Bool) → list_any f xs ≡ true → b || list_any f xs ≡ true
    late true g = refl
    late false g = g

pub found_one : {A : Type 0} (f : A → Bool) (xs : List A) → is_some (find f xs) ≡ true → (x : A) × In x xs × (f x ≡ true)
found_one f [] e = absurd (true≢false (sym e))
found_one {A} f (x ∷ xs) e = by (f x) refl e (found_one f xs)
  where
    by : (b : Bool) → f x ≡ b → is_some (cond b (Some x) (find f xs)) ≡ true → (is_some (find f xs) ≡ true → (y : A) × In y xs × (f y ≡ true)) → (y : A) × In y (x ∷ xs) × (f y ≡ true)
    by true g h more = (x, inl refl, g)
    by false g h more = let m = more h in (m.0, inr m.1, m.2)

pub find_is : {A : Type 0} (f : A → Bool) (xs : List A) (y : A) → find f xs ≡ Some y → In y xs × (f y ≡ true)
find_is f [] y e = absurd (cc e)
find_is {A} f (x ∷ xs) y e = by (f x) refl e (find_is f xs y)
  where
    by : (b : Bool) → f x ≡ b → cond b (Some x) (find f xs) ≡ Some y → (find f xs ≡ Some y → In y xs × (f y ≡ true)) → In y (x ∷ xs) × (f y ≡ true)
    by true g h more = let same : x ≡ y = cc h in (inl same, subst (λ z. f z ≡ true) same g)
    by false g h more = let m = more h in (inr m.0, m.1)

-- ---- nodes around

module _ (test : SynKind → Bool) (t : Tree) where
  -- a node of this test is around n, and is not n
  abbrev pub surrounds : ℕ → Node → Bool
  surrounds n x = test x.label.kind && (holds x n && not (x.id == n))

  abbrev pub inside : ℕ → Bool
  inside n = list_any (surrounds n) (nodes t)

  pub record Surrounding (n : ℕ) : Type 0 where
    pub node : Node
    pub among : In node (nodes t)
    pub passes : test node.label.kind ≡ true
    pub from : node.first ≤ n
    pub to : n < node.id

  pub surrounding : (n : ℕ) → inside n ≡ true → Surrounding n
  surrounding n e =
      let o = any_one (surrounds n) (nodes t) e in
      let a = both_true (test (o.0).label.kind) (holds o.0 n && not ((o.0).id == n)) o.2 in
      let b = both_true (holds o.0 n) (not ((o.0).id == n)) a.1 in
      let c = both_true (nat_le (o.0).first n) (nat_le n (o.0).id) b.0 in
      let low = low_so (o.0).first n c.0 in
      let high = low_so n (o.0).id c.1 in
      let apart = not_equal (o.0).id n b.1 in
      record { node = o.0; among = o.1; passes = a.0; from = low; to = less n (o.0).id high (λ h. apart (sym h)) }
    where
      less : (a b : ℕ) → a ≤ b → (a ≡ b → ⊥) → a < b
      less a b h g = grind arith

  pub surrounded : (n : ℕ) → Surrounding n → inside n ≡ true
  surrounded n s =
      let from = s.from in
      let to = s.to in
      one_any (surrounds n) (nodes t) s.node s.among
      (and_true (test s.node.label.kind) (holds s.node n && not (s.node.id == n)) s.passes
      (and_true (holds s.node n) (not (s.node.id == n))
      (and_true (nat_le s.node.first n) (nat_le n s.node.id) (so_low s.node.first n from) (so_low n s.node.id (omega (arith, to))))
      (differ s.node.id n (λ e. omega (arith, e, to)))))

  module _ (tokens : List Token) (derived : IsTreeOf tokens t) where
    -- what is around a kid of a node is around the node, or is it
    pub around_parent : (n k : ℕ) (node : Node) → slice_get (nodes t) n ≡ Some node → In k node.kids → Surrounding k → (test node.label.kind ≡ true) ⊎ Surrounding n
    around_parent n k node there i s =
        let h = in_at node (nodes t) n there in
        let id = numbered tokens t derived n node there in
        let wide = nested t s.node node k s.among h i s.from s.to in
        let kid = kid_within t node k h i in
        let from = s.from in
        let up = kid.1 in
        by (s.node.id == n) refl id wide from up
      where
        by : (b : Bool) → (s.node.id == n) ≡ b → node.id ≡ n → node.id ≤ s.node.id → s.node.first ≤ k → k < node.id → (test node.label.kind ≡ true) ⊎ Surrounding n
        by true e id wide from up =
            let there2 = found tokens t derived s.node s.among in
            let same : Some s.node ≡ Some node = sym there2 ∙ (ap (λ j. slice_get (nodes t) j) (equal_so s.node.id n e) ∙ there) in
            let is : s.node ≡ node = cc same in
            inl (subst (λ (x : Node). test x.label.kind ≡ true) is s.passes)
        by false e id wide from up = inr (record { node = s.node; among = s.among; passes = s.passes; from = omega (arith, from, up, id); to = apart s.node.id n e (omega (arith, id, wide)) })
          where
            apart : (a b : ℕ) → (a == b) ≡ false → b ≤ a → b < a
            apart a b h g = grind arith

    pub inside_outer : (n k : ℕ) (node : Node) → slice_get (nodes t) n ≡ Some node → In k node.kids → test node.label.kind ≡ false → inside k ≡ true → inside n ≡ true
    inside_outer n k node there i f e = by (around_parent n k node there i (surrounding k e))
      where
        by : (test node.label.kind ≡ true) ⊎ Surrounding n → inside n ≡ true
        by (inl g) = absurd (true≢false (sym g ∙ f))
        by (inr s) = surrounded n s

    -- the innermost node around a node that does not pass
    pub inside_so : (n : ℕ) (node : Node) → slice_get (nodes t) n ≡ Some node → test node.label.kind ≡ false → is_inside test (places t) node ≡ true → inside n ≡ true
    inside_so n node there f e =
        let o = found_one (λ (x : Node). nat_le node.id x.id && test x.label.kind && holds x node.id) (nodes t) e in
        let a = both_true (nat_le node.id (o.0).id && test (o.0).label.kind) (holds o.0 node.id) o.2 in
        let b = both_true (nat_le node.id (o.0).id) (test (o.0).label.kind) a.0 in
        let c = both_true (nat_le (o.0).first node.id) (nat_le node.id (o.0).id) a.1 in
        let id = numbered tokens t derived n node there in
        let low = low_so (o.0).first node.id c.0 in
        let high = low_so node.id (o.0).id c.1 in
        by o.0 o.1 b.1 id low high ((o.0).id == n) refl
      where
        by : (x : Node) → In x (nodes t) → test x.label.kind ≡ true → node.id ≡ n → x.first ≤ node.id → node.id ≤ x.id → (b : Bool) → (x.id == n) ≡ b → inside n ≡ true
        by x h g id low high true s =
            let same : Some x ≡ Some node = sym (found tokens t derived x h) ∙ (ap (λ j. slice_get (nodes t) j) (equal_so x.id n s) ∙ there) in
            let is : x ≡ node = cc same in
            absurd (true≢false (sym (subst (λ (y : Node). test y.label.kind ≡ true) is g) ∙ f))
        by x h g id low high false s = surrounded n (record { node = x; among = h; passes = g; from = omega (arith, low, id); to = apart x.id n s (omega (arith, high, id)) })
          where
            apart : (a b : ℕ) → (a == b) ≡ false → b ≤ a → b < a
            apart a b h g = grind arith
