-- The specs of a typedef name say `typedef`, and what names belong to.
use Rattle.std.proofs.Common.{◌≡◌, ℕ, Bool, true, false, ◌||◌, List, [], Option, Some, None, refl, sym, ap, ◌∙◌, true≢false}
use Rattle.std.specs.Prelude.{codes, if◌then◌else◌}
use Rattle.c_syntax.specs.declared.kind.SynKind.{SynKind}
use Rattle.c_syntax.specs.declared.kind.SynKind.TheVariants as kind
use Rattle.c_typing.specs.Places.{Node, Scope, is_file_scope, node_at, scope_at, specs_of, says, whole_declarator}
use Rattle.c_typing.specs.Names.{Entity, Name, automatic, declares_function, entity_by, function_name, is_typedef, name_list, names_by, names_from, static_object, typedef_name}
use Rattle.c_typing.proofs.ProgressDeclared.{AllNames, all_from, is_enumerator_entity}

abbrev pub says_typedef : List Node → Node → Bool
says_typedef s owner = says s (codes "typedef") (specs_of s owner)

-- what is said of a name
abbrev pub Says : List Node → Name → Type 0
Says s e = is_typedef e.entity ≡ true → says_typedef s (node_at s e.owner) ≡ true

some_same : {x y : Entity} → Some x ≡ Some y → x ≡ y
some_same e = cc e

by_entity : (s : List Node) (owner : Node) (c : Scope) (f : Bool) (k : SynKind) (x : Entity) → entity_by s owner (specs_of s owner) c f k ≡ Some x → is_typedef x ≡ true → says_typedef s owner ≡ true
by_entity s owner c f kind.InitDecl x e t = by (says_typedef s owner) f (is_file_scope s c || says s (codes "static") (specs_of s owner) || says s (codes "extern") (specs_of s owner)) (ap is_typedef (some_same e) ∙ t)
  where
    by : (a b d : Bool) → is_typedef (if a then typedef_name else if b then function_name else if d then static_object else automatic) ≡ true → a ≡ true
    by true b d e = refl
    by false true d e = absurd (true≢false (sym e))
    by false false true e = absurd (true≢false (sym e))
    by false false false e = absurd (true≢false (sym e))
by_entity s owner c f kind.Function x e t = absurd (true≢false (sym (ap is_typedef (some_same e) ∙ t)))
by_entity s owner c f kind.Param x e t = absurd (true≢false (sym (ap is_typedef (some_same e) ∙ t)))
by_entity s owner c f k x e t = absurd (none e)
  where
    none : {y : Entity} → None ≡ Some y → ⊥
    none e = cc e

listed : (s : List Node) (node whole : Node) (c : Scope) (f : Bool) (o : Option Entity) → ((x : Entity) → o ≡ Some x → is_typedef x ≡ true → says_typedef s (node_at s whole.parent) ≡ true) → AllNames (Says s) (name_list node whole c f o)
listed s node whole c f None h = tt
listed s node whole c f (Some x) h = (λ t. h x refl t, tt)

by_node : (s : List Node) (scopes : List Scope) (before : List Name) (k : ℕ) (node : Node) → AllNames (Says s) (names_by s scopes before node node.label.kind)
by_node s scopes before k node = by node.label.kind
  where
    by : (k : SynKind) → AllNames (Says s) (names_by s scopes before node k)
    by kind.Ident =
        let whole = whole_declarator s node.id in
        let owner = node_at s whole.parent in
        let c = scope_at scopes node.id in
        let f = declares_function s before node.id (specs_of s owner) in
        listed s node whole c f (entity_by s owner (specs_of s owner) c f owner.label.kind) (λ x e t. by_entity s owner c f owner.label.kind x e t)
    by kind.Enumer = (λ t. absurd (true≢false (sym t)), tt)
    by _ = tt

pub all_say : (s : List Node) (scopes : List Scope) → AllNames (Says s) (names_from s scopes [] s)
all_say s scopes = all_from (Says s) s scopes [] s tt (λ before k node e. by_node s scopes before k node)

-- ---- what declares a name

abbrev pub declares_names : SynKind → Bool
declares_names kind.InitDecl = true
declares_names kind.Function = true
declares_names kind.Param = true
declares_names k = false

abbrev pub IsOwned : List Node → Name → Type 0
IsOwned s e = is_enumerator_entity e.entity ≡ false → declares_names (node_at s e.owner).label.kind ≡ true

owner_kind : (s : List Node) (owner specs : Node) (c : Scope) (f : Bool) (k : SynKind) (x : Entity) → entity_by s owner specs c f k ≡ Some x → declares_names k ≡ true
owner_kind s owner specs c f kind.InitDecl x e = refl
owner_kind s owner specs c f kind.Function x e = refl
owner_kind s owner specs c f kind.Param x e = refl
owner_kind s owner specs c f _ x e = absurd (none e)
  where
    none : {y : Entity} → None ≡ Some y → ⊥
    none e = cc e

owned_list : (s : List Node) (node whole : Node) (c : Scope) (f : Bool) (o : Option Entity) → ((x : Entity) → o ≡ Some x → declares_names (node_at s whole.parent).label.kind ≡ true) → AllNames (IsOwned s) (name_list node whole c f o)
owned_list s node whole c f None h = tt
owned_list s node whole c f (Some x) h = (λ t. h x refl, tt)

owned_by : (s : List Node) (scopes : List Scope) (before : List Name) (k : ℕ) (node : Node) → AllNames (IsOwned s) (names_by s scopes before node node.label.kind)
owned_by s scopes before k node = by node.label.kind
  where
    by : (k : SynKind) → AllNames (IsOwned s) (names_by s scopes before node k)
    by kind.Ident =
        let whole = whole_declarator s node.id in
        let owner = node_at s whole.parent in
        let c = scope_at scopes node.id in
        let f = declares_function s before node.id (specs_of s owner) in
        owned_list s node whole c f (entity_by s owner (specs_of s owner) c f owner.label.kind) (λ x e. owner_kind s owner (specs_of s owner) c f owner.label.kind x e)
    by kind.Enumer = (λ t. absurd (true≢false t), tt)
    by _ = tt

pub all_owned : (s : List Node) (scopes : List Scope) → AllNames (IsOwned s) (names_from s scopes [] s)
all_owned s scopes = all_from (IsOwned s) s scopes [] s tt (λ before k node e. owned_by s scopes before k node)
