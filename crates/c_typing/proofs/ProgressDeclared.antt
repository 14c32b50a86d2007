-- The names of a unit: what each stands for, and that it has a type behind its declarator.
use Rattle.std.proofs.Common.{◌≡◌, ℕ, suc, ◌<◌, Bool, true, false, ◌&&◌, ◌||◌, List, [], ◌∷◌, ◌++◌, map, Option, Some, None, refl, sym, ap, ◌∙◌, subst, arith, true≢false, ◌⊎◌, inl, inr}
use Rattle.std.specs.Prelude.{slice_get, take, filter, nat_lt, nat_le, codes, if◌then◌else◌}
use Rattle.std.specs.Option.{is_some}
use Rattle.std.proofs.lemmas.Bool.Decides.{nat_tests}
use Rattle.std.specs.Str.{bytes_eq}
use Rattle.c_syntax.specs.declared.kind.SynKind.{SynKind}
use Rattle.c_syntax.specs.declared.kind.SynKind.TheVariants as kind
use Rattle.c_typing.specs.Places.{Node, node_at, kind_at, whole_declarator, Scope, scope_at, specs_of, in_scope, end_of, says, is_file_scope}
use Rattle.c_typing.specs.Types.{CType}
use Rattle.c_typing.specs.Names.{is_typedef, is_static, Entity, typedef_name, function_name, static_object, automatic, enumerator, Name, Places, inner_of, innermost, names_at, denoted, declares_function, entity_by, name_list, names_by, names_from}
use Rattle.c_typing.specs.Judgements.{judgement_at, type_of, type_at}
use Rattle.c_typing.specs.Expressions.{type_of_name, word_of_enumerator}
use Rattle.c_typing.specs.Typing.{judgements_at}
use Rattle.c_typing.specs.Shapes as category
use Rattle.c_typing.specs.Shapes.{Category, category_by}
use Rattle.c_typing.proofs.ProgressBase.{earlier_at}
use Rattle.c_typing.proofs.ProgressForms.{fits, Has, has_type, has_its_type, has_word}
use Rattle.c_typing.proofs.ProgressAll.{Meant}
use Rattle.c_typing.proofs.ProgressPlaces.{AreLinked}
use Rattle.c_typing.proofs.ProgressWhole.{WholeAt, NameIs, whole_of}

no : {A : Type 0} → false ≡ true → A
no e = absurd (true≢false (sym e))

-- ---- what holds of all names

abbrev pub AllNames : (Name → Type 0) → List Name → Type 0
AllNames P [] = Unit {0}
AllNames P (e ∷ es) = P e × AllNames P es

pub all_front : (P : Name → Type 0) (xs ys : List Name) → AllNames P xs → AllNames P ys → AllNames P (xs ++ ys)
all_front P [] ys h k = k
all_front P (x ∷ xs) ys h k = (h.0, all_front P xs ys h.1 k)

pub all_from : (P : Name → Type 0) (s : List Node) (scopes : List Scope) (names : List Name) (rest : List Node) → AllNames P names
    → ((before : List Name) (k : ℕ) (node : Node) → slice_get rest k ≡ Some node → AllNames P (names_by s scopes before node node.label.kind)) → AllNames P (names_from s scopes names rest)
all_from P s scopes names [] h f = h
all_from P s scopes names (node ∷ rest) h f =
    all_from P s scopes (names ++ names_by s scopes names node node.label.kind) rest (all_front P names _ h (f names 0 node refl)) (λ before k m e. f before (suc k) m e)

pub all_filter : (P : Name → Type 0) (test : Name → Bool) (xs : List Name) → AllNames P xs → AllNames (λ e. P e × (test e ≡ true)) (filter test xs)
all_filter P test [] h = tt
all_filter P test (x ∷ xs) h = by (test x) refl (all_filter P test xs h.1)
  where
    by : (b : Bool) → test x ≡ b → AllNames (λ e. P e × (test e ≡ true)) (filter test xs) → AllNames (λ e. P e × (test e ≡ true)) (if b then x ∷ filter test xs else filter test xs)
    by true e r = ((h.0, e), r)
    by false e r = r

-- of a name that is there
abbrev OfSome : (Name → Type 0) → Option Name → Type 0
OfSome P None = Unit {0}
OfSome P (Some e) = P e

all_innermost : (P : Name → Type 0) (best : Option Name) (xs : List Name) → OfSome P best → AllNames P xs → OfSome P (innermost best xs)
all_innermost P best [] h k = h
all_innermost P best (x ∷ xs) h k = all_innermost P (inner_of best x) xs (by best h) k.1
  where
    by : (o : Option Name) → OfSome P o → OfSome P (inner_of o x)
    by None h = k.0
    by (Some a) h = cases (nat_le (end_of x.scope) (end_of a.scope))
      where
        cases : (b : Bool) → OfSome P (if b then Some x else Some a)
        cases true = k.0
        cases false = h

-- what a text names is one of the names, and begins before
pub of_denoted : (P : Name → Type 0) (names : List Name) (n : ℕ) (text : List ℕ) (e : Name) → AllNames P names → denoted names n text ≡ Some e → P e × (names_at n text e ≡ true)
of_denoted P names n text e h same =
    subst (λ o. OfSome (λ e. P e × (names_at n text e ≡ true)) o) same
    (all_innermost (λ e. P e × (names_at n text e ≡ true)) None (filter (names_at n text) names) tt (all_filter P (names_at n text) names h))

middle : (a b c : Bool) → (a && b && c) ≡ true → b ≡ true
middle true true c e = refl
middle true false c e = e
middle false b c e = no e

pub begins_before : (n : ℕ) (text : List ℕ) (e : Name) → names_at n text e ≡ true → e.behind < n
begins_before n text e h = lt_from e.behind n (middle (bytes_eq e.text text) (nat_lt e.behind n) (in_scope e.scope n) h)
  where
    lt_from : (a b : ℕ) → nat_lt a b ≡ true → a < b
    lt_from a b e = grind (arith, nat_tests, e)

-- ---- what a name stands for

-- the name of an enumerator, or one that a declarator declares
pub record IsEnumerator (ns : List Node) (e : Name) : Type 0 where
  pub node : Node
  pub at : slice_get ns e.node ≡ Some node
  pub is : node.label.kind ≡ kind.Enumer
  pub behind : e.behind ≡ e.node
  pub entity : e.entity ≡ enumerator

abbrev pub is_enumerator_entity : Entity → Bool
is_enumerator_entity enumerator = true
is_enumerator_entity k = false

pub record IsDeclaredName (cat : ℕ → Category) (ns : List Node) (e : Name) : Type 0 where
  pub whole : WholeAt cat ns e.behind
  pub owner : e.owner ≡ whole.node.parent
  pub node : Node
  pub at : slice_get ns e.node ≡ Some node
  pub is : node.label.kind ≡ kind.Ident
  pub declarator : whole_declarator ns e.node ≡ whole.node
  pub entity : is_enumerator_entity e.entity ≡ false
  pub first : whole.node.first ≡ e.node
  pub init_owner : (is_static e.entity || is_typedef e.entity) ≡ true → (node_at ns e.owner).label.kind ≡ kind.InitDecl

abbrev pub Stands : (ℕ → Category) → List Node → Name → Type 0
Stands cat ns e = IsEnumerator ns e ⊎ IsDeclaredName cat ns e

pub entity_no_enumerator : (s : List Node) (owner specs : Node) (c : Scope) (f : Bool) (k : SynKind) (x : Entity) → entity_by s owner specs c f k ≡ Some x → is_enumerator_entity x ≡ false
entity_no_enumerator s owner specs c f kind.InitDecl x e =
    ap is_enumerator_entity (sym (entity_same e)) ∙ declared (says s (codes "typedef") specs) f (is_file_scope s c || says s (codes "static") specs || says s (codes "extern") specs)
  where
    entity_same : {x y : Entity} → Some x ≡ Some y → x ≡ y
    entity_same e = cc e

    declared : (a b c : Bool) → is_enumerator_entity (if a then typedef_name else if b then function_name else if c then static_object else automatic) ≡ false
    declared true b c = refl
    declared false true c = refl
    declared false false true = refl
    declared false false false = refl
entity_no_enumerator s owner specs c f kind.Function x e = ap is_enumerator_entity (sym (entity_same e))
  where
    entity_same : {x y : Entity} → Some x ≡ Some y → x ≡ y
    entity_same e = cc e
entity_no_enumerator s owner specs c f kind.Param x e = ap is_enumerator_entity (sym (entity_same e))
  where
    entity_same : {x y : Entity} → Some x ≡ Some y → x ≡ y
    entity_same e = cc e
entity_no_enumerator s owner specs c f _ x e = absurd (cc e)

-- a static object or a type is declared with an initializer or without one
entity_static : (s : List Node) (owner specs : Node) (c : Scope) (f : Bool) (k : SynKind) (x : Entity) → entity_by s owner specs c f k ≡ Some x → (is_static x || is_typedef x) ≡ true → k ≡ kind.InitDecl
entity_static s owner specs c f kind.InitDecl x e h = refl
entity_static s owner specs c f kind.Function x e h = no (ap (λ y. is_static y || is_typedef y) (entity_same e) ∙ h)
  where
    entity_same : {x y : Entity} → Some x ≡ Some y → x ≡ y
    entity_same e = cc e
entity_static s owner specs c f kind.Param x e h = no (ap (λ y. is_static y || is_typedef y) (entity_same e) ∙ h)
  where
    entity_same : {x y : Entity} → Some x ≡ Some y → x ≡ y
    entity_same e = cc e
entity_static s owner specs c f _ x e h = absurd (cc e)

module _ (cat : ℕ → Category) (ns : List Node) (l : AreLinked cat ns) where
  names_stand : (scopes : List Scope) (before : List Name) (k : ℕ) (node : Node) → slice_get ns k ≡ Some node → AllNames (Stands cat ns) (names_by ns scopes before node node.label.kind)
  names_stand scopes before k node e = by node.label.kind refl
    where
      id : node.id ≡ k
      id = (l.shapes.tiled k node e).numbered

      here : slice_get ns node.id ≡ Some node
      here = ap (λ j. slice_get ns j) id ∙ e

      listed : (w : NameIs cat ns l node.id) (same : node.label.kind ≡ kind.Ident) (whole : Node) (c : Scope) (f : Bool) (o : Option Entity) → whole ≡ w.whole.node → ((x : Entity) → o ≡ Some x → is_enumerator_entity x ≡ false)
          → ((x : Entity) → o ≡ Some x → (is_static x || is_typedef x) ≡ true → (node_at ns w.whole.node.parent).label.kind ≡ kind.InitDecl)
          → AllNames (Stands cat ns) (name_list node whole c f o)
      listed w same whole c f None equal h i = tt
      listed w same whole c f (Some x) equal h i =
          subst (λ (v : Node). AllNames (Stands cat ns) (name_list node v c f (Some x))) (sym equal)
          (let number = (l.shapes.tiled w.place w.whole.node w.whole.at).numbered in (
            inr (record {
              whole = record { node = w.whole.node; at = ap (λ j. slice_get ns j) number ∙ w.whole.at; is = ap cat number ∙ w.whole.is; whole = w.whole.whole };
              owner = refl;
              node = node;
              at = here;
              is = same;
              declarator = w.is;
              entity = h x refl;
              first = w.first;
              init_owner = i x refl;
            }),
            tt,
          ))

      by : (kd : SynKind) → node.label.kind ≡ kd → AllNames (Stands cat ns) (names_by ns scopes before node kd)
      by kind.Ident same =
          let w = whole_of cat ns l node.id node here same in
          let whole = whole_declarator ns node.id in
          let owner = node_at ns whole.parent in
          let specs = specs_of ns owner in
          let c = scope_at scopes node.id in
          let f = declares_function ns before node.id specs in
          listed w same whole c f (entity_by ns owner specs c f owner.label.kind) w.is (entity_no_enumerator ns owner specs c f owner.label.kind)
          (λ x e st. ap (λ (v : Node). (node_at ns v.parent).label.kind) (sym w.is) ∙ entity_static ns owner specs c f owner.label.kind x e st)
      by kind.Enumer same = (inl (record { node = node; at = here; is = same; behind = refl; entity = refl }), tt)
      by _ same = tt

  pub all_names_stand : (scopes : List Scope) → AllNames (Stands cat ns) (names_from ns scopes [] ns)
  all_names_stand scopes = all_from (Stands cat ns) ns scopes [] ns tt (λ before k node e. names_stand scopes before k node e)

-- ---- types of names

module _ (cat : ℕ → Category) (p : Places) (l : AreLinked cat p.nodes) where
  -- a whole declarator before a node has a type
  pub typed_whole : (n j : ℕ) → ((k : ℕ) → k < n → Meant cat p k) → j < n → WholeAt cat p.nodes j → Has (type_at (take n (judgements_at p)) j)
  typed_whole n j before less w =
      let meant = before j less w.node w.at in
      let outer = kind_at p.nodes w.node.parent in
      let t = has_its_type outer w.node.label.kind (cat j) (judgement_at (judgements_at p) j) (ap (λ c. has_type outer c) w.is ∙ w.whole) meant in
      record { value = t.value; is = ap type_of (earlier_at (judgements_at p) n j less) ∙ t.is }

  pub typed_name : (n : ℕ) (e : Name) → ((k : ℕ) → k < n → Meant cat p k) → e.behind < n → IsDeclaredName cat p.nodes e → Has (type_of_name (take n (judgements_at p)) e)
  typed_name n e before less d =
      let js = take n (judgements_at p) in
      let t = typed_whole n e.behind before less d.whole in
      by (type_at js e.owner) t
    where
      by : (o : Option CType) → Has (type_at (take n (judgements_at p)) e.behind) → Has (if is_some o then o else type_at (take n (judgements_at p)) e.behind)
      by None t = t
      by (Some u) t = record { value = u; is = refl }

  pub valued_name : (n : ℕ) (e : Name) → ((k : ℕ) → k < n → Meant cat p k) → e.behind < n → IsEnumerator p.nodes e → Has (word_of_enumerator (judgement_at (take n (judgements_at p)) e.node))
  unfolding category_by
  valued_name n e before less d =
      let lt : e.node < n = let b = d.behind in omega (arith, less, b) in
      let shape = l.shapes.shaped e.node d.node d.at in
      let c : cat e.node ≡ category.enumerator = shape.category ∙ ap (λ k. category_by k d.node.label.text (map cat d.node.kids)) d.is in
      let meant = before e.node lt d.node d.at in
      let w = has_word (kind_at p.nodes d.node.parent) d.node.label.kind (judgement_at (judgements_at p) e.node) (ap (λ x. fits (kind_at p.nodes d.node.parent) d.node.label.kind x (judgement_at (judgements_at p) e.node)) (sym c) ∙ meant) in
      record { value = w.value; is = ap word_of_enumerator (earlier_at (judgements_at p) n e.node lt) ∙ w.is }
