-- A name that is declared outside of all functions has the scope of the unit.
use Rattle.std.proofs.Common.{◌≡◌, ℕ, zero, suc, ◌+◌, ◌<◌, ◌≤◌, Bool, true, false, ◌&&◌, ◌||◌, List, [], ◌∷◌, ◌++◌, length, map, Option, Some, None, refl, sym, ap, ap₂, ◌∙◌, subst, arith, true≢false, ◌⊎◌, inl, inr}
use Rattle.std.specs.Prelude.{slice_get, unwrap_or, find, nat_le, if◌then◌else◌}
use Rattle.std.specs.List.{list_any}
use Rattle.std.proofs.lemmas.Bool.Decides.{nat_tests}
use Rattle.c_typing.proofs.ProgressOperators.{found}
use Rattle.c_syntax.specs.declared.kind.SynKind.{SynKind}
use Rattle.c_syntax.specs.declared.kind.SynKind.TheVariants as kind
use Rattle.c_typing.specs.Places.{Node, node_at, kind_at, parent_of, kid, is_unit, is_function, is_takes, next_to_name, own_takes, Scope, in_scope, plain_scope, block_scope, takes_before, belongs_to_block, scope_by, scopes_from, scopes_of, no_scope, scope_at, is_file_scope}
use Rattle.c_typing.specs.Shapes.{Category, category_by, kids_fit, begins_with}
use Rattle.c_typing.proofs.ProgressAll.{found_at}
use Rattle.c_typing.proofs.ProgressKids.{KidsFrom}
use Rattle.c_typing.proofs.ProgressPlaces.{AreLinked, some_same, compare, within}
use Rattle.c_typing.proofs.ProgressInside.{inside}

no : {A : Type 0} → false ≡ true → A
no e = absurd (true≢false (sym e))

-- what has a scope of its own inside of a unit
abbrev is_inner : SynKind → Bool
is_inner kind.Block = true
is_inner kind.For = true
is_inner kind.Switch = true
is_inner kind.Takes = true
is_inner k = false

-- the name i is declared by a declaration of the unit
pub record OfUnit (ns : List Node) (i : ℕ) : Type 0 where
  pub name : Node
  pub named : slice_get ns i ≡ Some name
  pub ident : name.label.kind ≡ kind.Ident
  pub whole : ℕ
  pub declarator : Node
  pub at_whole : slice_get ns whole ≡ Some declarator
  pub first : declarator.first ≡ i
  pub from : i ≤ whole
  pub init : Node
  pub at_init : slice_get ns declarator.parent ≡ Some init
  pub is_init : init.label.kind ≡ kind.InitDecl
  pub less_init : whole < declarator.parent
  pub declaration : Node
  pub at_declaration : slice_get ns init.parent ≡ Some declaration
  pub is_declaration : declaration.label.kind ≡ kind.Declaration
  pub less_declaration : declarator.parent < init.parent
  pub unit : Node
  pub at_unit : slice_get ns declaration.parent ≡ Some unit
  pub is_the_unit : unit.label.kind ≡ kind.Unit
  pub less_unit : init.parent < declaration.parent
  pub last : suc declaration.parent ≡ length ns
  pub low_unit : unit.first ≤ i

module _ (cat : ℕ → Category) (ns : List Node) (l : AreLinked cat ns) (i : ℕ) (u : OfUnit ns i) where
  same_node : (j k : ℕ) (x y : Node) → slice_get ns j ≡ Some x → slice_get ns k ≡ Some y → j ≡ k → x ≡ y
  same_node j k x y a b e = some_same (sym a ∙ (ap (λ n. slice_get ns n) e ∙ b))

  -- a node above the declarator, of a kind that has a scope, does not hold the name
  above : (k : ℕ) (x : Node) → slice_get ns k ≡ Some x → is_inner x.label.kind ≡ true → x.first ≤ i → u.whole < k → ⊥
  above k x e inner le lt = by (compare u.declarator.parent k)
    where
      from : i ≤ u.whole
      from = u.from

      other : (n : ℕ) (y : Node) → slice_get ns n ≡ Some y → is_inner y.label.kind ≡ false → n ≡ k → ⊥
      other n y a none same = true≢false (sym inner ∙ (ap (λ (z : Node). is_inner z.label.kind) (sym (same_node n k y x a e same)) ∙ none))

      first_up : u.declarator.parent ≤ k
      first_up = let f = from in (inside cat ns l k x e u.whole u.declarator u.at_whole (omega (arith, le, f)) (omega (arith, lt))).parent lt

      second_up : u.declarator.parent < k → u.init.parent ≤ k
      second_up less =
          let f = from in let a = u.less_init in
          (inside cat ns l k x e u.declarator.parent u.init u.at_init (omega (arith, le, f, a)) (omega (arith, less))).parent less

      third_up : u.init.parent < k → u.declaration.parent ≤ k
      third_up less =
          let f = from in let a = u.less_init in let b = u.less_declaration in
          (inside cat ns l k x e u.init.parent u.declaration u.at_declaration (omega (arith, le, f, a, b)) (omega (arith, less))).parent less

      last : u.init.parent < k → ⊥
      last less =
          let t = third_up less in let w = within ns k x e in let end = u.last in
          other u.declaration.parent u.unit u.at_unit (ap is_inner u.is_the_unit) (omega (arith, t, w, end))

      middle : (u.init.parent < k) ⊎ (k ≤ u.init.parent) → u.init.parent ≤ k → ⊥
      middle (inl less) h = last less
      middle (inr ge) h = other u.init.parent u.declaration u.at_declaration (ap is_inner u.is_declaration) (omega (arith, ge, h))

      by : (u.declarator.parent < k) ⊎ (k ≤ u.declarator.parent) → ⊥
      by (inl less) = middle (compare u.init.parent k) (second_up less)
      by (inr ge) = let h = first_up in other u.declarator.parent u.init u.at_init (ap is_inner u.is_init) (omega (arith, ge, h))

  -- nor does one below it that begins before the name
  below : (k : ℕ) (x : Node) → slice_get ns k ≡ Some x → x.first < i → i ≤ k → k ≤ u.whole → ⊥
  below k x e lt from le =
      let first = u.first in
      let r = (inside cat ns l u.whole u.declarator u.at_whole k x e (omega (arith, first, from)) le).begins in
      omega (arith, r, first, lt)

  begins_before : (k : ℕ) (x : Node) → slice_get ns k ≡ Some x → is_inner x.label.kind ≡ true → x.first < i → i ≤ k → ⊥
  begins_before k x e inner lt from = by (compare u.whole k)
    where
      by : (u.whole < k) ⊎ (k ≤ u.whole) → ⊥
      by (inl more) = above k x e inner (omega (arith, lt)) more
      by (inr le) = below k x e lt from le

  -- a block, a `for` or a `switch`
  no_name_first : (k : SynKind) (text : List ℕ) (cs : List Category) → is_inner k ≡ true → is_takes k ≡ false → begins_with (category_by k text cs) kind.Ident ≡ false
  unfolding category_by begins_with
  no_name_first kind.Block text cs e f = refl
  no_name_first kind.For text cs e f = refl
  no_name_first kind.Switch text cs e f = refl
  no_name_first kind.Takes text cs e f = absurd (true≢false f)
  no_name_first _ text cs e f = no e

  holds_none : (k : ℕ) (x : Node) → slice_get ns k ≡ Some x → is_inner x.label.kind ≡ true → is_takes x.label.kind ≡ false → x.first ≤ i → i ≤ k → ⊥
  holds_none k x e inner takes le from = by (compare x.first i)
    where
      by : (x.first < i) ⊎ (i ≤ x.first) → ⊥
      by (inl lt) = begins_before k x e inner lt from
      by (inr ge) =
          let same : x.first ≡ i = omega (arith, le, ge) in
          let low = l.lowest k x e in
          let name : low.node ≡ u.name = some_same (sym low.at ∙ (ap (λ n. slice_get ns n) same ∙ u.named)) in
          let shape = l.shapes.shaped k x e in
          let none = ap₂ begins_with shape.category (ap (λ (z : Node). z.label.kind) name ∙ u.ident) ∙ no_name_first x.label.kind x.label.text (map cat x.kids) inner takes in
          true≢false (sym low.begins ∙ none)

  -- ---- scopes

  -- a scope that has the name is the unit's
  abbrev OfUnitScope : Scope → Type 0
  OfUnitScope c = in_scope c i ≡ true → is_unit (kind_at ns c.owner) ≡ true

  abbrev AllScopes : List Scope → Type 0
  AllScopes [] = Unit {0}
  AllScopes (c ∷ cs) = OfUnitScope c × AllScopes cs

  scopes_front : (xs ys : List Scope) → AllScopes xs → AllScopes ys → AllScopes (xs ++ ys)
  scopes_front [] ys h k = k
  scopes_front (c ∷ xs) ys h k = (h.0, scopes_front xs ys h.1 k)

  le_from : (a b : ℕ) → nat_le a b ≡ true → a ≤ b
  le_from a b e = grind (arith, nat_tests, e)

  and_both : (a b : Bool) → (a && b) ≡ true → (a ≡ true) × (b ≡ true)
  and_both true b e = (refl, e)
  and_both false b e = no e

  or_one : (a b : Bool) → (a || b) ≡ true → (a ≡ true) ⊎ (b ≡ true)
  or_one true b e = inl refl
  or_one false b e = inr e

  in_either : (c : Scope) → in_scope c i ≡ true → ((c.from ≤ i) × (i ≤ c.to)) ⊎ ((c.block_from ≤ i) × (i ≤ c.block_to))
  in_either c e = by (or_one (nat_le c.from i && nat_le i c.to) (nat_le c.block_from i && nat_le i c.block_to) e)
    where
      pair : (a b : ℕ) → (nat_le a i && nat_le i b) ≡ true → (a ≤ i) × (i ≤ b)
      pair a b h = let hs = and_both (nat_le a i) (nat_le i b) h in (le_from a i hs.0, le_from i b hs.1)

      by : ((nat_le c.from i && nat_le i c.to) ≡ true) ⊎ ((nat_le c.block_from i && nat_le i c.block_to) ≡ true) → ((c.from ≤ i) × (i ≤ c.to)) ⊎ ((c.block_from ≤ i) × (i ≤ c.block_to))
      by (inl h) = inl (pair c.from c.to h)
      by (inr h) = inr (pair c.block_from c.block_to h)

  plain_in : (x : Node) (from : ℕ) → (from ≤ i → i ≤ x.id → is_unit (kind_at ns x.id) ≡ true) → AllScopes (plain_scope x from)
  plain_in x from h = ((λ e. by (in_either (record { owner = x.id; from = from; to = x.id; block_from = 1; block_to = 0 }) e)), tt)
    where
      by : ((from ≤ i) × (i ≤ x.id)) ⊎ ((1 ≤ i) × (i ≤ 0)) → is_unit (kind_at ns x.id) ≡ true
      by (inl r) = h r.0 r.1
      by (inr r) = let a = r.0 in let b = r.1 in absurd (omega (arith, a, b))

  -- the first kid of a parameter list, or of a `switch`, is there
  kid_high : (k : ℕ) (x : Node) → slice_get ns k ≡ Some x → (x.label.kind ≡ kind.Takes) ⊎ (x.label.kind ≡ kind.Switch) → x.first ≤ kid x 0
  unfolding kids_fit
  kid_high k x e o = by x.kids (l.shapes.tiled k x e).kids (l.shapes.shaped k x e).kids o
    where
      by : (ks : List ℕ) → KidsFrom ns x.first k k ks → kids_fit x.label.kind x.label.text (map cat ks) ≡ true → (x.label.kind ≡ kind.Takes) ⊎ (x.label.kind ≡ kind.Switch) → x.first ≤ unwrap_or (slice_get ks 0) 0
      by (j ∷ ks) t f o = t.0.behind
      by [] t f (inl same) = no (ap (λ k. kids_fit k x.label.text []) (sym same) ∙ f)
      by [] t f (inr same) = no (ap (λ k. kids_fit k x.label.text []) (sym same) ∙ f)

  found_there : (test : Node → Bool) (x : Node) → find test ns ≡ Some x → slice_get ns x.id ≡ Some x
  found_there test x e = by ns 0 (λ j y at. ap (λ k. slice_get ns k) (zero_add j) ∙ at) e
    where
      zero_add : (j : ℕ) → 0 + j ≡ j
      zero_add j = omega arith

      by : (ms : List Node) (k : ℕ) → ((j : ℕ) (y : Node) → slice_get ms j ≡ Some y → slice_get ns (k + j) ≡ Some y) → find test ms ≡ Some x → slice_get ns x.id ≡ Some x
      by [] k h f = absurd (cc f)
      by (m ∷ ms) k h f = cases (test m) f (by ms (suc k) (λ j y at. ap (λ n. slice_get ns n) (shift j) ∙ h (suc j) y at))
        where
          shift : (j : ℕ) → suc k + j ≡ k + suc j
          shift j = omega arith

          own : slice_get ns m.id ≡ Some m
          own = let at = h 0 m refl in let id = (l.shapes.tiled (k + 0) m at).numbered in ap (λ n. slice_get ns n) id ∙ at

          cases : (b : Bool) → (if b then Some m else find test ms) ≡ Some x → (find test ms ≡ Some x → slice_get ns x.id ≡ Some x) → slice_get ns x.id ≡ Some x
          cases true f g = subst (λ (y : Node). slice_get ns y.id ≡ Some y) (some_same f) own
          cases false f g = g f

  takes_is : (k : SynKind) → is_takes k ≡ true → k ≡ kind.Takes
  takes_is kind.Takes e = refl
  takes_is _ e = no e

  own_takes_there : (f x : Node) → own_takes ns f ≡ Some x → (slice_get ns x.id ≡ Some x) × (x.label.kind ≡ kind.Takes)
  own_takes_there f x e = by (next_to_name ns (node_at ns (kid f 1)).first) refl e
    where
      chosen : (y : Node) (b : Bool) → is_takes y.label.kind ≡ b → slice_get ns y.id ≡ Some y → (if b then Some y else None) ≡ Some x → (slice_get ns x.id ≡ Some x) × (x.label.kind ≡ kind.Takes)
      chosen y true t at h = subst (λ (z : Node). (slice_get ns z.id ≡ Some z) × (z.label.kind ≡ kind.Takes)) (some_same h) (at, takes_is y.label.kind t)
      chosen y false t at h = absurd (cc h)

      by : (o : Option Node) → next_to_name ns (node_at ns (kid f 1)).first ≡ o → (elim o as (λ z. Option Node) [ None ↦ None | Some y ↦ if is_takes y.label.kind then Some y else None ]) ≡ Some x
          → (slice_get ns x.id ≡ Some x) × (x.label.kind ≡ kind.Takes)
      by None same h = absurd (cc h)
      by (Some y) same h = chosen y (is_takes y.label.kind) refl (found_there _ y same) h

  takes_there : (x y : Node) → takes_before ns x ≡ Some y → (slice_get ns y.id ≡ Some y) × (y.label.kind ≡ kind.Takes)
  takes_there x y e = by (is_function (parent_of ns x.id).label.kind) e
    where
      by : (b : Bool) → (if b then own_takes ns (parent_of ns x.id) else None) ≡ Some y → (slice_get ns y.id ≡ Some y) × (y.label.kind ≡ kind.Takes)
      by true h = own_takes_there (parent_of ns x.id) y h
      by false h = absurd (cc h)

  after_takes : (x : Node) → slice_get ns x.id ≡ Some x → x.label.kind ≡ kind.Takes → kid x 0 + 1 ≤ i → i ≤ x.id → ⊥
  after_takes x e same from to = let high = kid_high x.id x e (inl same) in begins_before x.id x e (ap is_inner same) (omega (arith, high, from)) to

  block_in : (x : Node) → slice_get ns x.id ≡ Some x → x.label.kind ≡ kind.Block → AllScopes (block_scope x (takes_before ns x))
  block_in x e same = by (takes_before ns x) (λ y. takes_there x y)
    where
      by : (o : Option Node) → ((y : Node) → o ≡ Some y → (slice_get ns y.id ≡ Some y) × (y.label.kind ≡ kind.Takes)) → AllScopes (block_scope x o)
      by None h = plain_in x x.first (λ a b. absurd (holds_none x.id x e (ap is_inner same) (ap is_takes same) a b))
      by (Some y) h =
          let t = h y refl in
          ((λ f. absurd (cases t (in_either (record { owner = y.id; from = kid y 0 + 1; to = y.id; block_from = x.first; block_to = x.id }) f))), tt)
        where
          cases : (slice_get ns y.id ≡ Some y) × (y.label.kind ≡ kind.Takes) → ((kid y 0 + 1 ≤ i) × (i ≤ y.id)) ⊎ ((x.first ≤ i) × (i ≤ x.id)) → ⊥
          cases t (inl r) = after_takes y t.0 t.1 r.0 r.1
          cases t (inr r) = holds_none x.id x e (ap is_inner same) (ap is_takes same) r.0 r.1

  scope_in : (x : Node) → slice_get ns x.id ≡ Some x → (k : SynKind) → x.label.kind ≡ k → AllScopes (scope_by ns x k)
  scope_in x e kind.Unit same = plain_in x x.first (λ a b. ap (λ (y : Node). is_unit y.label.kind) (found_at ns x.id x e) ∙ ap is_unit same)
  scope_in x e kind.Block same = block_in x e same
  scope_in x e kind.For same = plain_in x x.first (λ a b. absurd (holds_none x.id x e (ap is_inner same) (ap is_takes same) a b))
  scope_in x e kind.Switch same =
      plain_in x (kid x 0 + 1) (λ a b. let high = kid_high x.id x e (inr same) in absurd (holds_none x.id x e (ap is_inner same) (ap is_takes same) (omega (arith, high, a)) b))
  scope_in x e kind.Takes same = by (belongs_to_block ns x)
    where
      by : (b : Bool) → AllScopes (if b then [] else plain_scope x (kid x 0 + 1))
      by true = tt
      by false = plain_in x (kid x 0 + 1) (λ a b. absurd (after_takes x e same a b))
  scope_in x e _ same = tt

  all_scopes : (rest : List Node) → ((j : ℕ) (x : Node) → slice_get rest j ≡ Some x → slice_get ns x.id ≡ Some x) → AllScopes (scopes_from ns rest)
  all_scopes [] h = tt
  all_scopes (x ∷ rest) h = scopes_front (scope_by ns x x.label.kind) (scopes_from ns rest) (scope_in x (h 0 x refl) x.label.kind refl) (all_scopes rest (λ j y at. h (suc j) y at))

  -- the scope of the unit has it
  any_front : (xs ys : List Scope) → (list_any (λ c. in_scope c i) xs ≡ true) ⊎ (list_any (λ c. in_scope c i) ys ≡ true) → list_any (λ c. in_scope c i) (xs ++ ys) ≡ true
  any_front [] ys (inl e) = no e
  any_front [] ys (inr e) = e
  any_front (c ∷ xs) ys o = by (in_scope c i) o (any_front xs ys)
    where
      by : (b : Bool) → ((b || list_any (λ c. in_scope c i) xs) ≡ true) ⊎ (list_any (λ c. in_scope c i) ys ≡ true)
          → ((list_any (λ c. in_scope c i) xs ≡ true) ⊎ (list_any (λ c. in_scope c i) ys ≡ true) → list_any (λ c. in_scope c i) (xs ++ ys) ≡ true) → (b || list_any (λ c. in_scope c i) (xs ++ ys)) ≡ true
      by true o f = refl
      by false (inl e) f = f (inl e)
      by false (inr e) f = f (inr e)

  any_scope : (rest : List Node) (j : ℕ) (x : Node) → slice_get rest j ≡ Some x → list_any (λ c. in_scope c i) (scope_by ns x x.label.kind) ≡ true → list_any (λ c. in_scope c i) (scopes_from ns rest) ≡ true
  any_scope [] j x at e = absurd (cc at)
  any_scope (y ∷ rest) zero x at e =
      let same : y ≡ x = some_same at in
      any_front (scope_by ns y y.label.kind) (scopes_from ns rest) (inl (ap (λ (z : Node). list_any (λ c. in_scope c i) (scope_by ns z z.label.kind)) same ∙ e))
  any_scope (y ∷ rest) (suc j) x at e = any_front (scope_by ns y y.label.kind) (scopes_from ns rest) (inr (any_scope rest j x at e))

  le_true : (a b : ℕ) → a ≤ b → nat_le a b ≡ true
  le_true a b le = grind (arith, nat_tests, le)

  unit_has : list_any (λ c. in_scope c i) (scopes_of ns) ≡ true
  unit_has = any_scope ns u.declaration.parent u.unit u.at_unit (ap (λ k. list_any (λ c. in_scope c i) (scope_by ns u.unit k)) u.is_the_unit ∙ here)
    where
      number : u.unit.id ≡ u.declaration.parent
      number = (l.shapes.tiled u.declaration.parent u.unit u.at_unit).numbered

      here : list_any (λ c. in_scope c i) (plain_scope u.unit u.unit.first) ≡ true
      here =
          let a = u.from in let b = u.less_init in let c = u.less_declaration in let d = u.less_unit in let n = number in
          one (nat_le u.unit.first i) (nat_le i u.unit.id) (nat_le 1 i && nat_le i 0) (le_true u.unit.first i u.low_unit) (le_true i u.unit.id (omega (arith, a, b, c, d, n)))
        where
          one : (p q r : Bool) → p ≡ true → q ≡ true → (((p && q) || r) || false) ≡ true
          one true true r h k = refl
          one true false r h k = no k
          one false q r h k = no h

  found_scope : (cs : List Scope) (c : Scope) → AllScopes cs → find (λ c. in_scope c i) cs ≡ Some c → is_unit (kind_at ns c.owner) ≡ true
  found_scope [] c h e = absurd (cc e)
  found_scope (x ∷ cs) c h e = by (in_scope x i) refl e (found_scope cs c h.1)
    where
      scope_same : {a b : Scope} → Some a ≡ Some b → a ≡ b
      scope_same f = cc f

      by : (b : Bool) → in_scope x i ≡ b → (if b then Some x else find (λ c. in_scope c i) cs) ≡ Some c → (find (λ c. in_scope c i) cs ≡ Some c → is_unit (kind_at ns c.owner) ≡ true) → is_unit (kind_at ns c.owner) ≡ true
      by true s f g = subst (λ (a : Scope). is_unit (kind_at ns a.owner) ≡ true) (scope_same f) (h.0 s)
      by false s f g = g f

  pub file_scope : is_file_scope ns (scope_at (scopes_of ns) i) ≡ true
  file_scope =
      let f = found (λ c. in_scope c i) (scopes_of ns) unit_has in
      ap (λ o. is_file_scope ns (unwrap_or o no_scope)) f.is
      ∙ found_scope (scopes_of ns) f.value (all_scopes ns (λ j x at. ap (λ k. slice_get ns k) (l.shapes.tiled j x at).numbered ∙ at)) f.is
