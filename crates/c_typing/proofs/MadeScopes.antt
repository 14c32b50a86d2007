-- What the scopes of a unit hold.
use Rattle.std.proofs.Common.{◌≡◌, inl, inr, ℕ, ◌+◌, ◌<◌, ◌≤◌, Bool, true, false, ◌||◌, ◌&&◌, List, [], ◌∷◌, Option, Some, None, refl, sym, ap, subst, arith, unwrap_or}
use Rattle.std.specs.Prelude.{if◌then◌else◌, find, nat_le}
use Rattle.c_lexer.specs.declared.token.Token.{Token}
use Rattle.c_syntax.specs.declared.kind.SynKind.{SynKind}
use Rattle.c_syntax.specs.declared.kind.SynKind.TheVariants as kind
use Rattle.c_syntax.specs.Trees.{Tree}
use Rattle.c_syntax.specs.Tables.{size}
use Rattle.c_grammar.specs.Derivation.{IsTreeOf}
use Rattle.c_typing.specs.Places.{Node, nodes, kid, parent_of, is_function, own_takes, Scope, in_scope, plain_scope, block_scope, takes_before, belongs_to_block, scope_by, scopes_from, scopes_of, scope_at, no_scope}
use Rattle.c_typing.proofs.MadeNodes.{In, in_either, node_below, kid_within}
use Rattle.c_typing.proofs.MadeParts.{least_kids}
use Rattle.c_typing.proofs.MadePlaced.{found, kid_in}
use Rattle.c_typing.proofs.MadeAround.{both_true, low_so, find_is}
use Rattle.c_typing.proofs.MadeTop.{unit_is_root}
use Rattle.c_typing.proofs.MadeDefined.{TakesAt, own_takes_at}

-- blocks, `for` and `switch`
abbrev pub is_body : SynKind → Bool
is_body kind.Block = true
is_body kind.For = true
is_body kind.Switch = true
is_body k = false

-- n stands in this scope: of the unit, of a statement, or of parameters
pub data ScopeAt (t : Tree) (c : Scope) (n : ℕ) : Type 0 where
  of_unit : (x : Node) → In x (nodes t) → x.label.kind ≡ kind.Unit → c.owner ≡ x.id → ScopeAt t c n
  of_body : (x : Node) → In x (nodes t) → is_body x.label.kind ≡ true → x.first ≤ n → n ≤ x.id → ScopeAt t c n
  of_parameters : (x : Node) → In x (nodes t) → x.label.kind ≡ kind.Takes → kid x 0 < n → n ≤ x.id → ScopeAt t c n

pub scopes_in : (s ns : List Node) (c : Scope) → In c (scopes_from s ns) → (x : Node) × In x ns × In c (scope_by s x x.label.kind)
scopes_in s [] c h = absurd h
scopes_in s (x ∷ ns) c h = elim (in_either c (scope_by s x x.label.kind) (scopes_from s ns) h) [
  | inl a ↦ (x, inl refl, a)
  | inr b ↦ (let m = scopes_in s ns c b in (m.0, inr m.1, m.2))
]

pub plain_so : (x : Node) (from n : ℕ) (c : Scope) → In c (plain_scope x from) → in_scope c n ≡ true → (c.owner ≡ x.id) × (from ≤ n) × (n ≤ x.id)
plain_so x from n c (inl e) h =
    let at : in_scope (record { owner = x.id; from = from; to = x.id; block_from = 1; block_to = 0 }) n ≡ true = subst (λ (d : Scope). in_scope d n ≡ true) (sym e) h in
    let range = within (nat_le from n && nat_le n x.id) (nat_le 1 n) (nat_le n 0) refl refl at in
    let b = both_true (nat_le from n) (nat_le n x.id) range in
    (ap (λ (d : Scope). d.owner) (sym e), low_so from n b.0, low_so n x.id b.1)
  where
    low_two : (a : ℕ) → nat_le 1 a && nat_le a 0 ≡ true → ⊥
    low_two a g = let b = both_true (nat_le 1 a) (nat_le a 0) g in let c1 = low_so 1 a b.0 in let c2 = low_so a 0 b.1 in absurd (omega (arith, c1, c2))

    within : (a b c : Bool) → b ≡ nat_le 1 n → c ≡ nat_le n 0 → a || (b && c) ≡ true → a ≡ true
    within true b c f g h2 = refl
    within false b c f g h2 = absurd (low_two n (subst (λ u. u && nat_le n 0 ≡ true) f (subst (λ u. b && u ≡ true) g h2)))
plain_so x from n c (inr i) h = absurd i

module _ (tokens : List Token) (t : Tree) (derived : IsTreeOf tokens t) where
  s : List Node
  s = nodes t

  takes_first : (x : Node) → In x (nodes t) → x.label.kind ≡ kind.Takes → In (kid x 0) x.kids
  takes_first x h e = kid_in tokens t derived x.id x 0 (found tokens t derived x h) (subst (λ l. 0 < least_kids l) (sym e) (omega arith))

  takes_before_at : (x takes : Node) (b : Bool) → (if b then own_takes (nodes t) (parent_of (nodes t) x.id) else None) ≡ Some takes → TakesAt t (parent_of (nodes t) x.id) takes
  takes_before_at x takes true e = own_takes_at t (parent_of (nodes t) x.id) takes e
  takes_before_at x takes false e = absurd (cc e)

  block_so : (x : Node) → In x (nodes t) → x.label.kind ≡ kind.Block → (o : Option Node) → takes_before (nodes t) x ≡ o → (n : ℕ) (c : Scope) → In c (block_scope x o) → in_scope c n ≡ true → ScopeAt t c n
  block_so x h e None g n c i j = let p = plain_so x x.first n c i j in of_body x h (ap is_body e) p.1 p.2
  block_so x h e (Some takes) g n c (inr i) j = absurd i
  block_so x h e (Some takes) g n c (inl same) j =
      let at : in_scope (record { owner = takes.id; from = kid takes 0 + 1; to = takes.id; block_from = x.first; block_to = x.id }) n ≡ true = subst (λ (d : Scope). in_scope d n ≡ true) (sym same) j in
      let q = takes_before_at x takes (is_function (parent_of (nodes t) x.id).label.kind) g in
      by (nat_le (kid takes 0 + 1) n && nat_le n takes.id) refl q at
    where
      by : (b : Bool) → (nat_le (kid takes 0 + 1) n && nat_le n takes.id) ≡ b → TakesAt t (parent_of (nodes t) x.id) takes → b || (nat_le x.first n && nat_le n x.id) ≡ true → ScopeAt t c n
      by true k q at =
          let b = both_true (nat_le (kid takes 0 + 1) n) (nat_le n takes.id) k in
          let low = low_so (kid takes 0 + 1) n b.0 in
          of_parameters takes q.among q.kind_is (omega (arith, low)) (low_so n takes.id b.1)
      by false k q at = let b = both_true (nat_le x.first n) (nat_le n x.id) at in of_body x h (ap is_body e) (low_so x.first n b.0) (low_so n x.id b.1)

  pub switch_from : (x : Node) → In x (nodes t) → x.label.kind ≡ kind.Switch → x.first ≤ kid x 0
  switch_from x h e = (kid_within t x (kid x 0) h (kid_in tokens t derived x.id x 0 (found tokens t derived x h) (subst (λ l. 0 < least_kids l) (sym e) (omega arith)))).0

  scope_so : (x : Node) → In x (nodes t) → (k : SynKind) → x.label.kind ≡ k → (n : ℕ) (c : Scope) → In c (scope_by (nodes t) x k) → in_scope c n ≡ true → ScopeAt t c n
  scope_so x h kind.Unit e n c i j = let p = plain_so x x.first n c i j in of_unit x h e p.0
  scope_so x h kind.Block e n c i j = block_so x h e (takes_before (nodes t) x) refl n c i j
  scope_so x h kind.For e n c i j = let p = plain_so x x.first n c i j in of_body x h (ap is_body e) p.1 p.2
  scope_so x h kind.Switch e n c i j =
      let p = plain_so x (kid x 0 + 1) n c i j in
      let from = switch_from x h e in
      let low = p.1 in
      of_body x h (ap is_body e) (omega (arith, from, low)) p.2
  scope_so x h kind.Takes e n c i j = by (belongs_to_block (nodes t) x) i
    where
      by : (b : Bool) → In c (if b then [] else plain_scope x (kid x 0 + 1)) → ScopeAt t c n
      by true k = absurd k
      by false k = let p = plain_so x (kid x 0 + 1) n c k j in let low = p.1 in of_parameters x h e (omega (arith, low)) p.2
  scope_so x h k e n c i j = absurd i

  pub scope_holds : (c : Scope) (n : ℕ) → In c (scopes_of (nodes t)) → in_scope c n ≡ true → ScopeAt t c n
  scope_holds c n h i = let x = scopes_in (nodes t) (nodes t) c h in scope_so x.0 x.1 (x.0).label.kind refl n c x.2 i

  none_in : (n : ℕ) → in_scope no_scope n ≡ true → ⊥
  none_in n e = grind arith

  -- the scope at a place is one of the unit, where anything stands in it
  pub scope_is : (i n : ℕ) → in_scope (scope_at (scopes_of (nodes t)) i) n ≡ true → In (scope_at (scopes_of (nodes t)) i) (scopes_of (nodes t)) × (in_scope (scope_at (scopes_of (nodes t)) i) i ≡ true)
  scope_is i n e = by (find (λ c. in_scope c i) (scopes_of (nodes t))) refl e
    where
      by : (o : Option Scope) → find (λ c. in_scope c i) (scopes_of (nodes t)) ≡ o → in_scope (unwrap_or o no_scope) n ≡ true → In (unwrap_or o no_scope) (scopes_of (nodes t)) × (in_scope (unwrap_or o no_scope) i ≡ true)
      by None g h = absurd (none_in n h)
      by (Some c) g h = find_is (λ c. in_scope c i) (scopes_of (nodes t)) c g

  pub unit_last : (x : Node) → In x (nodes t) → x.label.kind ≡ kind.Unit → x.id ≡ size t.kids
  unit_last x h e =
      let most = unit_is_root tokens t derived x.id x (found tokens t derived x h) e in
      let low = node_below t x h in
      omega (arith, most, low)
