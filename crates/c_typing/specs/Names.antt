-- What the identifiers of a unit name, and the numbers of objects, functions and locals: counts and finds over the nodes, which
-- look at no type. C99 6.2.1 to 6.2.4, 6.7.2.3.
use Rattle.std.specs.Prelude.{ℕ, ◌+◌, Bool, true, false, List, [], ◌∷◌, ◌++◌, ◌&&◌, ◌||◌, ◌==◌, not, nat_le, nat_lt, if◌then◌else◌, Option, Some, None, find, filter, length, position, unwrap_or, codes, option_map}
use Rattle.std.specs.Option.{is_some}
use Rattle.std.specs.Str.{bytes_eq}
use Rattle.c_syntax.specs.declared.kind.SynKind.{SynKind}
use Rattle.c_syntax.specs.declared.kind.SynKind.TheVariants as kind
use Rattle.c_syntax.specs.Trees.{Tree, one}
use Rattle.c_typing.specs.Places.{Node, node_at, kind_at, text_at, parent_of, kid, has_kid, other_kids, index_in, holds, nodes, by_first_token, nowhere, is_word, is_takes, is_function, whole_declarator, next_to_name, own_takes, specs_of, says, Scope, scopes_of, scope_at, in_scope, end_of, is_file_scope}

-- what a name is
pub data Entity : Type 0 where
  typedef_name : Entity
  function_name : Entity
  -- an object that is there as long as the program runs (6.2.4, 3), or an automatic one
  static_object : Entity
  automatic : Entity
  -- the parameter of this index
  parameter : ℕ → Entity
  enumerator : Entity

pub record Name : Type 0 where
  pub text : List ℕ
  -- its node
  pub node : ℕ
  -- its scope begins behind this node: its declarator, or its enumerator (6.2.1, 7)
  pub behind : ℕ
  -- what the declarator belongs to
  pub owner : ℕ
  pub scope : Scope
  pub entity : Entity
  -- its type is a function's
  pub is_function : Bool

-- of two names, the one of the inner scope; of the same scope, the later one
abbrev pub inner_of : Option Name → Name → Option Name
inner_of None b = Some b
inner_of (Some a) b = if nat_le (end_of b.scope) (end_of a.scope) then Some b else Some a

abbrev pub innermost : Option Name → List Name → Option Name
innermost best [] = best
innermost best (e ∷ rest) = innermost (inner_of best e) rest

abbrev pub names_at : ℕ → List ℕ → Name → Bool
names_at n text e = bytes_eq e.text text && nat_lt e.behind n && in_scope e.scope n

-- what an identifier names at the node n
abbrev pub denoted : List Name → ℕ → List ℕ → Option Name
denoted names n text = innermost None (filter (names_at n text) names)

-- ---- the names of a unit, in order

abbrev pub is_typedef : Entity → Bool
is_typedef typedef_name = true
is_typedef e = false

abbrev pub is_static : Entity → Bool
is_static static_object = true
is_static e = false

abbrev pub is_automatic : Entity → Bool
is_automatic automatic = true
is_automatic e = false

-- the name is a typedef name of a function type
abbrev pub names_function_type : Option Name → Bool
names_function_type None = false
names_function_type (Some e) = is_typedef e.entity && e.is_function

-- specs say a function type: a typedef name does
abbrev pub says_function : List Node → List Name → Node → Bool
says_function s names specs = is_some (find (λ n. is_word (kind_at s n) && names_function_type (denoted names n (text_at s n))) specs.kids)

-- the declarator of the name i, behind these specs, declares a function
abbrev pub declares_function : List Node → List Name → ℕ → Node → Bool
declares_function s names i specs = by (next_to_name s i)
  where
    by : Option Node → Bool
    by None = says_function s names specs
    by (Some node) = is_takes node.label.kind

-- what the declarator of a declaration declares (6.2.2, 6.2.4)
abbrev pub declared_entity : List Node → Node → Scope → Bool → Entity
declared_entity s specs c is_function =
    if says s (codes "typedef") specs then typedef_name else
    if is_function then function_name else
    if is_file_scope s c || says s (codes "static") specs || says s (codes "extern") specs then static_object else automatic

abbrev pub entity_by : List Node → Node → Node → Scope → Bool → SynKind → Option Entity
entity_by s owner specs c is_function kind.InitDecl = Some (declared_entity s specs c is_function)
entity_by s owner specs c is_function kind.Function = Some function_name
entity_by s owner specs c is_function kind.Param = Some (parameter (index_in (other_kids (node_at s owner.parent)) owner.id))
entity_by s owner specs c is_function k = None

abbrev pub name_list : Node → Node → Scope → Bool → Option Entity → List Name
name_list node whole c is_function None = []
name_list node whole c is_function (Some entity) =
    record { text = node.label.text; node = node.id; behind = whole.id; owner = whole.parent; scope = c; entity = entity; is_function = is_function } ∷ []

-- the name that a declarator declares, after these names; that of a member is no ordinary name (6.2.3)
abbrev pub declared_name : List Node → List Scope → List Name → Node → Node → List Name
declared_name s scopes names node whole =
    let owner = node_at s whole.parent in
    let specs = specs_of s owner in
    let c = scope_at scopes node.id in
    let is_function = declares_function s names node.id specs in
    name_list node whole c is_function (entity_by s owner specs c is_function owner.label.kind)

abbrev pub names_by : List Node → List Scope → List Name → Node → SynKind → List Name
names_by s scopes names node kind.Ident = declared_name s scopes names node (whole_declarator s node.id)
names_by s scopes names node kind.Enumer = name_list node node (scope_at scopes node.id) false (Some enumerator)
names_by s scopes names node k = []

abbrev pub names_from : List Node → List Scope → List Name → List Node → List Name
names_from s scopes names [] = names
names_from s scopes names (node ∷ rest) = names_from s scopes (names ++ names_by s scopes names node node.label.kind) rest

-- ---- tags (6.7.2.3)

pub record Tag : Type 0 where
  pub text : List ℕ
  pub node : ℕ
  pub is_enum : Bool
  pub has_body : Bool
  pub scope : Scope
  -- the node that declares what it names, and the scope where that is declared; none was in scope before
  pub names : ℕ
  pub home : ℕ
  pub is_new : Bool
  -- what it names was declared as the other kind
  pub clashes : Bool

abbrev pub inner_tag : Option Tag → Tag → Option Tag
inner_tag None b = Some b
inner_tag (Some a) b = if nat_le (end_of b.scope) (end_of a.scope) then Some b else Some a

abbrev pub innermost_tag : Option Tag → List Tag → Option Tag
innermost_tag best [] = best
innermost_tag best (e ∷ rest) = innermost_tag (inner_tag best e) rest

-- a declaration is the tag alone: `struct t;` declares it in its scope (6.7.2.3, 7)
abbrev pub is_declaration : SynKind → Bool
is_declaration kind.Declaration = true
is_declaration k = false

abbrev pub is_lone : List Node → Node → Bool
is_lone s node =
    let specs = parent_of s node.id in
    length specs.kids == 1 && is_declaration (parent_of s specs.id).label.kind && length (parent_of s specs.id).kids == 1

abbrev pub fresh_tag : Node → Bool → Scope → Tag
fresh_tag node is_enum c = record { text = node.label.text; node = node.id; is_enum = is_enum; has_body = has_kid node 0; scope = c; names = node.id; home = c.owner; is_new = true; clashes = false }

-- after another tag of the same text is in scope: a body, or the tag alone, declares a new one in an inner scope
abbrev pub tag_after : Node → Bool → Scope → Bool → Option Tag → Tag
tag_after node is_enum c declares None = fresh_tag node is_enum c
tag_after node is_enum c declares (Some e) =
    if declares && not (e.home == c.owner) then fresh_tag node is_enum c
    else record (fresh_tag node is_enum c) { names = e.names; home = e.home; is_new = false; clashes = not (same_kind e.is_enum is_enum) }
  where
    same_kind : Bool → Bool → Bool
    same_kind true b = b
    same_kind false b = not b

abbrev pub add_tag : List Node → List Scope → List Tag → Node → Bool → List Tag
add_tag s scopes tags node is_enum =
    let declares = has_kid node 0 || (not is_enum && is_lone s node) in
    let earlier = filter (λ (e : Tag). bytes_eq e.text node.label.text && in_scope e.scope node.id) tags in
    if length node.label.text == 0 then tags else tags ++ tag_after node is_enum (scope_at scopes node.id) declares (innermost_tag None earlier) ∷ []

abbrev pub tags_by : List Node → List Scope → List Tag → Node → SynKind → List Tag
tags_by s scopes tags node kind.StructSpec = add_tag s scopes tags node false
tags_by s scopes tags node kind.EnumSpec = add_tag s scopes tags node true
tags_by s scopes tags node k = tags

-- in the order of the first tokens: the scope of a tag begins right behind it (6.2.1, 7)
abbrev pub tags_from : List Node → List Scope → List Tag → List ℕ → List Tag
tags_from s scopes tags [] = tags
tags_from s scopes tags (n ∷ rest) = tags_from s scopes (tags_by s scopes tags (node_at s n) (kind_at s n)) rest

-- ---- all of it

pub record Places : Type 0 where
  pub nodes : List Node
  pub scopes : List Scope
  pub names : List Name
  pub tags : List Tag
  -- the functions that are defined, in order
  pub functions : List Node

abbrev pub places_of : List Node → List ℕ → Places
places_of s order =
    let scopes = scopes_of s in
    record { nodes = s; scopes = scopes; names = names_from s scopes [] s; tags = tags_from s scopes [] order; functions = filter (λ node. is_function node.label.kind) s }

abbrev pub places : Tree → Places
places t = places_of (nodes t) (by_first_token 0 (one t))

-- ---- names at their places

-- the name that a node declares
abbrev pub name_of : Places → ℕ → Option Name
name_of p n = find (λ e. e.node == n) p.names

abbrev pub tag_of : Places → ℕ → Option Tag
tag_of p n = find (λ e. e.node == n) p.tags

-- two names are declared in one scope
abbrev pub is_again : Name → Name → Bool
is_again a b = bytes_eq a.text b.text && a.scope.owner == b.scope.owner

-- the names that a name declares again, in order
abbrev pub earlier : Places → Name → List Name
earlier p e = filter (λ a. is_again a e && nat_lt a.behind e.behind) p.names

-- a declaration has an initializer, or a function a body (6.7.8, 6.9.1); of a parameter or an enumerator it says nothing
abbrev pub is_initialized : Places → Name → Bool
is_initialized p e = has_kid (node_at p.nodes e.owner) 1

-- ---- objects (6.9.2): what is declared without `extern`, or with an initializer, is defined

abbrev pub defines_object : Places → Name → Bool
defines_object p e =
    is_static e.entity && (is_initialized p e || not (says p.nodes (codes "extern") (specs_of p.nodes (node_at p.nodes e.owner))))

abbrev pub is_defined_object : Places → Name → Bool
is_defined_object p e = is_some (find (λ a. is_again a e && defines_object p a) p.names)

-- the objects with names, each by its first declaration
abbrev pub objects_of : Places → List Name
objects_of p = filter (λ e. is_static e.entity && length (earlier p e) == 0 && is_defined_object p e) p.names

-- the number of an object among them, where it is defined
abbrev pub object_number : Places → Name → Option ℕ
object_number p e = position (λ a. is_again a e) (objects_of p)

-- ---- functions

abbrev pub function_text : Places → Node → List ℕ
function_text p f = text_at p.nodes (node_at p.nodes (kid f 1)).first

abbrev pub function_number : Places → List ℕ → Option ℕ
function_number p text = position (λ f. bytes_eq (function_text p f) text) p.functions

-- the function that n stands in
abbrev pub function_around : Places → ℕ → Node
function_around p n = unwrap_or (find (λ f. holds f n) p.functions) nowhere

-- the parameters of a function that is defined, named or not
abbrev pub parameters_of : Places → Node → List ℕ
parameters_of p f = unwrap_or (option_map other_kids (own_takes p.nodes f)) []

-- ---- locals: the parameters, then the automatic objects, each in order of appearance; hidden ones follow

abbrev pub automatics_in : Places → Node → List Name
automatics_in p f = filter (λ e. is_automatic e.entity && holds f e.node) p.names

abbrev pub named_locals : Places → Node → ℕ
named_locals p f = length (parameters_of p f) + length (automatics_in p f)

abbrev pub local_number : Places → Name → ℕ
local_number p e = by e.entity
  where
    by : Entity → ℕ
    by (parameter i) = i
    by other =
        let f = function_around p e.node in
        length (parameters_of p f) + unwrap_or (position (λ a. a.node == e.node) (automatics_in p f)) 0
