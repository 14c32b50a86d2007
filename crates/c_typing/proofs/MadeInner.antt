-- Which node a scope belongs to, and that the scope of a place is the first that holds it.
use Rattle.std.proofs.Common.{◌≡◌, ◌⊎◌, inl, inr, ℕ, zero, suc, ◌+◌, ◌<◌, ◌≤◌, Bool, true, false, ◌||◌, ◌&&◌, cond, List, [], ◌∷◌, ◌++◌, Option, Some, None, refl, sym, ap, ◌∙◌, subst, arith, true≢false, unwrap_or}
use Rattle.std.specs.Prelude.{slice_get, if◌then◌else◌, find, nat_le}
use Rattle.c_lexer.specs.declared.token.Token.{Token}
use Rattle.c_syntax.specs.declared.kind.SynKind.{SynKind}
use Rattle.c_syntax.specs.declared.kind.SynKind.TheVariants as kind
use Rattle.c_syntax.specs.Trees.{Tree}
use Rattle.c_grammar.specs.Derivation.{IsTreeOf}
use Rattle.c_typing.specs.Places.{Node, nodes, kid, parent_of, is_function, own_takes, Scope, in_scope, plain_scope, block_scope, takes_before, belongs_to_block, scope_by, scopes_from, scopes_of, scope_at, no_scope}
use Rattle.c_typing.proofs.MadeNodes.{In, in_at}
use Rattle.c_typing.proofs.MadePlaced.{found, numbered}
use Rattle.c_typing.proofs.MadeAround.{both_true, low_so, find_is}
use Rattle.c_typing.proofs.MadeScopes.{is_body, plain_so, switch_from}

-- the places in a scope
abbrev pub Within : Node → ℕ → Type 0
Within x n = (x.first ≤ n) × (n ≤ x.id)

abbrev pub Behind : Node → ℕ → Type 0
Behind x n = (kid x 0 < n) × (n ≤ x.id)

-- the scope of this node: of the unit, of a statement, of a parameter list, or of a function
pub data ScopeOf (t : Tree) (c : Scope) (x : Node) : Type 0 where
  of_unit : x.label.kind ≡ kind.Unit → c.owner ≡ x.id → ScopeOf t c x
  of_body : is_body x.label.kind ≡ true → ((n : ℕ) → in_scope c n ≡ true → Within x n) → ScopeOf t c x
  of_takes : x.label.kind ≡ kind.Takes → belongs_to_block (nodes t) x ≡ false → ((n : ℕ) → in_scope c n ≡ true → Behind x n) → ScopeOf t c x
  of_function : x.label.kind ≡ kind.Block → (parent_of (nodes t) x.id).label.kind ≡ kind.Function → (takes : Node) → own_takes (nodes t) (parent_of (nodes t) x.id) ≡ Some takes → ((n : ℕ) → in_scope c n ≡ true → Within x n ⊎ Behind takes n) → ScopeOf t c x

function_so : (k : SynKind) → is_function k ≡ true → k ≡ kind.Function
function_so kind.Function e = refl
function_so _ e = absurd (true≢false (sym e))

module _ (tokens : List Token) (t : Tree) (derived : IsTreeOf tokens t) where
  plain_of : (x : Node) (from : ℕ) (c : Scope) → In c (plain_scope x from) → (n : ℕ) → in_scope c n ≡ true → (from ≤ n) × (n ≤ x.id)
  plain_of x from c h n e = let p = plain_so x from n c h e in (p.1, p.2)

  takes_of : (x takes : Node) (b : Bool) → is_function (parent_of (nodes t) x.id).label.kind ≡ b → (if b then own_takes (nodes t) (parent_of (nodes t) x.id) else None) ≡ Some takes
      → ((parent_of (nodes t) x.id).label.kind ≡ kind.Function) × (own_takes (nodes t) (parent_of (nodes t) x.id) ≡ Some takes)
  takes_of x takes true g e = (function_so (parent_of (nodes t) x.id).label.kind g, e)
  takes_of x takes false g e = absurd (cc e)

  block_of : (x : Node) → x.label.kind ≡ kind.Block → (o : Option Node) → takes_before (nodes t) x ≡ o → (c : Scope) → In c (block_scope x o) → ScopeOf t c x
  block_of x e None g c i = of_body (ap is_body e) (plain_of x x.first c i)
  block_of x e (Some takes) g c (inr i) = absurd i
  block_of x e (Some takes) g c (inl same) =
      let f = takes_of x takes (is_function (parent_of (nodes t) x.id).label.kind) refl g in
      of_function e f.0 takes f.1 (λ n j. by n (nat_le (kid takes 0 + 1) n && nat_le n takes.id) refl (subst (λ (d : Scope). in_scope d n ≡ true) (sym same) j))
    where
      by : (n : ℕ) (b : Bool) → (nat_le (kid takes 0 + 1) n && nat_le n takes.id) ≡ b → b || (nat_le x.first n && nat_le n x.id) ≡ true → Within x n ⊎ Behind takes n
      by n true k at =
          let b = both_true (nat_le (kid takes 0 + 1) n) (nat_le n takes.id) k in
          let low = low_so (kid takes 0 + 1) n b.0 in
          inr (omega (arith, low), low_so n takes.id b.1)
      by n false k at = let b = both_true (nat_le x.first n) (nat_le n x.id) at in inl (low_so x.first n b.0, low_so n x.id b.1)

  scope_of : (x : Node) → In x (nodes t) → (k : SynKind) → x.label.kind ≡ k → (c : Scope) → In c (scope_by (nodes t) x k) → ScopeOf t c x
  scope_of x h kind.Unit e c (inl same) = of_unit e (ap (λ (d : Scope). d.owner) (sym same))
  scope_of x h kind.Unit e c (inr i) = absurd i
  scope_of x h kind.Block e c i = block_of x e (takes_before (nodes t) x) refl c i
  scope_of x h kind.For e c i = of_body (ap is_body e) (plain_of x x.first c i)
  scope_of x h kind.Switch e c i = of_body (ap is_body e) (λ n j. let p = plain_of x (kid x 0 + 1) c i n j in let from = switch_from tokens t derived x h e in let low = p.0 in (omega (arith, from, low), p.1))
  scope_of x h kind.Takes e c i = by (belongs_to_block (nodes t) x) refl i
    where
      by : (b : Bool) → belongs_to_block (nodes t) x ≡ b → In c (if b then [] else plain_scope x (kid x 0 + 1)) → ScopeOf t c x
      by true g k = absurd k
      by false g k = of_takes e g (λ n j. let p = plain_of x (kid x 0 + 1) c k n j in let low = p.0 in (omega (arith, low), p.1))
  scope_of x h k e c i = absurd i

  -- ---- the first scope that holds a place

  pub record Innermost (i : ℕ) : Type 0 where
    pub scope : Scope
    pub node : Node
    pub among : In node (nodes t)
    pub is : scope_at (scopes_of (nodes t)) i ≡ scope
    pub holds_it : in_scope scope i ≡ true
    pub of : ScopeOf t scope node
    -- no scope of an earlier node holds it
    pub first : (y : Node) (d : Scope) → In y (nodes t) → In d (scope_by (nodes t) y y.label.kind) → in_scope d i ≡ true → node.id ≤ y.id

  -- nodes in order
  abbrev Ordered : List Node → Type 0
  Ordered ns = (a b : ℕ) (x y : Node) → a < b → slice_get ns a ≡ Some x → slice_get ns b ≡ Some y → x.id < y.id

  find_front : (i : ℕ) (xs ys : List Scope) (c : Scope) → find (λ d. in_scope d i) (xs ++ ys) ≡ Some c → (find (λ d. in_scope d i) xs ≡ Some c) ⊎ (((d : Scope) → In d xs → in_scope d i ≡ true → ⊥) × (find (λ d. in_scope d i) ys ≡ Some c))
  find_front i [] ys c e = inr (λ d h. absurd h, e)
  find_front i (x ∷ xs) ys c e = by (in_scope x i) refl e (find_front i xs ys c)
    where
      by : (b : Bool) → in_scope x i ≡ b → cond b (Some x) (find (λ d. in_scope d i) (xs ++ ys)) ≡ Some c
          → (find (λ d. in_scope d i) (xs ++ ys) ≡ Some c → (find (λ d. in_scope d i) xs ≡ Some c) ⊎ (((d : Scope) → In d xs → in_scope d i ≡ true → ⊥) × (find (λ d. in_scope d i) ys ≡ Some c)))
          → (cond b (Some x) (find (λ d. in_scope d i) xs) ≡ Some c) ⊎ (((d : Scope) → In d (x ∷ xs) → in_scope d i ≡ true → ⊥) × (find (λ d. in_scope d i) ys ≡ Some c))
      by true g h more = inl h
      by false g h more = at (more h)
        where
          none : ((d : Scope) → In d xs → in_scope d i ≡ true → ⊥) → (d : Scope) → In d (x ∷ xs) → in_scope d i ≡ true → ⊥
          none k d (inl same) j = true≢false (sym j ∙ (ap (λ (q : Scope). in_scope q i) (sym same) ∙ g))
          none k d (inr l) j = k d l j

          at : (find (λ d. in_scope d i) xs ≡ Some c) ⊎ (((d : Scope) → In d xs → in_scope d i ≡ true → ⊥) × (find (λ d. in_scope d i) ys ≡ Some c))
              → (find (λ d. in_scope d i) xs ≡ Some c) ⊎ (((d : Scope) → In d (x ∷ xs) → in_scope d i ≡ true → ⊥) × (find (λ d. in_scope d i) ys ≡ Some c))
          at (inl a) = inl a
          at (inr b) = inr (none b.0, b.1)

  -- found at a node before which none is
  pub record FoundAt (ns : List Node) (i : ℕ) (c : Scope) : Type 0 where
    pub place : ℕ
    pub node : Node
    pub there : slice_get ns place ≡ Some node
    pub mine : find (λ d. in_scope d i) (scope_by (nodes t) node node.label.kind) ≡ Some c
    pub none : (a : ℕ) (y : Node) (d : Scope) → a < place → slice_get ns a ≡ Some y → In d (scope_by (nodes t) y y.label.kind) → in_scope d i ≡ true → ⊥

  found_at : (ns : List Node) (i : ℕ) (c : Scope) → find (λ d. in_scope d i) (scopes_from (nodes t) ns) ≡ Some c → FoundAt ns i c
  found_at [] i c e = absurd (cc e)
  found_at (x ∷ ns) i c e = by (find_front i (scope_by (nodes t) x x.label.kind) (scopes_from (nodes t) ns) c e) (found_at ns i c)
    where
      by : (find (λ d. in_scope d i) (scope_by (nodes t) x x.label.kind) ≡ Some c) ⊎ (((d : Scope) → In d (scope_by (nodes t) x x.label.kind) → in_scope d i ≡ true → ⊥) × (find (λ d. in_scope d i) (scopes_from (nodes t) ns) ≡ Some c))
          → (find (λ d. in_scope d i) (scopes_from (nodes t) ns) ≡ Some c → FoundAt ns i c) → FoundAt (x ∷ ns) i c
      by (inl h) more = record { place = 0; node = x; there = refl; mine = h; none = λ a y d lt. absurd (omega (arith, lt)) }
      by (inr h) more =
          let m = more h.1 in
          record { place = suc m.place; node = m.node; there = m.there; mine = m.mine; none = none_before h.0 m }
        where
          none_before : ((d : Scope) → In d (scope_by (nodes t) x x.label.kind) → in_scope d i ≡ true → ⊥) → (m : FoundAt ns i c) → (a : ℕ) (y : Node) (d : Scope) → a < suc m.place → slice_get (x ∷ ns) a ≡ Some y → In d (scope_by (nodes t) y y.label.kind) → in_scope d i ≡ true → ⊥
          none_before g m zero y d lt s k j = let same : x ≡ y = cc s in g d (subst (λ (z : Node). In d (scope_by (nodes t) z z.label.kind)) (sym same) k) j
          none_before g m (suc a) y d lt s k j = m.none a y d (omega (arith, lt)) s k j

  pub innermost_of : (i n : ℕ) → in_scope (scope_at (scopes_of (nodes t)) i) n ≡ true → Innermost i
  innermost_of i n e = by (find (λ d. in_scope d i) (scopes_of (nodes t))) refl e
    where
      none_in : in_scope no_scope n ≡ true → ⊥
      none_in q = grind arith

      or_not : (a b : ℕ) → (a ≤ b) ⊎ (b < a)
      or_not a b = grind arith

      at : (c : Scope) → find (λ d. in_scope d i) (scopes_of (nodes t)) ≡ Some c → FoundAt (nodes t) i c → Innermost i
      at c g f =
          let inside = in_at f.node (nodes t) f.place f.there in
          let own = find_is (λ d. in_scope d i) (scope_by (nodes t) f.node f.node.label.kind) c f.mine in
          record {
            scope = c;
            node = f.node;
            among = inside;
            is = ap (λ o. unwrap_or o no_scope) g;
            holds_it = own.1;
            of = scope_of f.node inside f.node.label.kind refl c own.0;
            first = first;
          }
        where
          first : (y : Node) (d : Scope) → In y (nodes t) → In d (scope_by (nodes t) y y.label.kind) → in_scope d i ≡ true → f.node.id ≤ y.id
          first y d h k j = which (or_not f.node.id y.id)
            where
              id : f.node.id ≡ f.place
              id = numbered tokens t derived f.place f.node f.there

              which : (f.node.id ≤ y.id) ⊎ (y.id < f.node.id) → f.node.id ≤ y.id
              which (inl le) = le
              which (inr lt) = absurd (f.none y.id y d (omega (arith, lt, id)) (found tokens t derived y h) k j)

      by : (o : Option Scope) → find (λ d. in_scope d i) (scopes_of (nodes t)) ≡ o → in_scope (unwrap_or o no_scope) n ≡ true → Innermost i
      by None g h = absurd (none_in h)
      by (Some c) g h = at c g (found_at (nodes t) i c g)
