-- The nodes of a syntax tree by their places in post-order: kids before their parents, so that the nodes of a subtree are an
-- interval of numbers that ends in its root.
use Rattle.std.specs.Prelude.{ℕ, ◌+◌, Bool, true, false, List, [], ◌∷◌, ◌++◌, ◌&&◌, ◌||◌, ◌==◌, not, nat_le, if◌then◌else◌, Option, Some, None, find, filter, map, drop, position, slice_get, unwrap_or}
use Rattle.std.specs.List.{last_or}
use Rattle.std.specs.Option.{is_some}
use Rattle.std.specs.Str.{bytes_eq}
use Rattle.c_syntax.specs.declared.kind.SynKind.{SynKind}
use Rattle.c_syntax.specs.declared.kind.SynKind.TheVariants as kind
use Rattle.c_syntax.specs.declared.label.Label.{Label}
use Rattle.c_syntax.specs.declared.syntax.SynId.{SynId}
use Rattle.c_syntax.specs.Trees.{Tree, Forest, none, tree, one}
use Rattle.c_syntax.specs.Tables.{size, roots}

pub record Node : Type 0 where
  pub id : ℕ
  pub label : Label
  pub kids : List ℕ
  -- the lowest node of its subtree
  pub first : ℕ
  -- the node that it is a kid of; of the root, a number that no node has
  pub parent : ℕ

abbrev pub numbers : List SynId → List ℕ
numbers ids = map (λ (id : SynId). id.number) ids

-- the nodes of trees whose numbers begin at `first`, the kids of this parent
abbrev pub nodes_of : ℕ → ℕ → Forest → List Node
nodes_of first parent none = []
nodes_of first parent (tree label kids rest) =
    let id = first + size kids in
    nodes_of first id kids
    ++ (record { id = id; label = label; kids = numbers (roots first kids); first = first; parent = parent } ∷ nodes_of (id + 1) parent rest)

abbrev pub nodes : Tree → List Node
nodes t = nodes_of 0 (size (one t)) (one t)

-- the numbers of the roots of trees and of all below them, each root before what is below it: the order of the first tokens
abbrev pub by_first_token : ℕ → Forest → List ℕ
by_first_token first none = []
by_first_token first (tree label kids rest) =
    let id = first + size kids in (id ∷ by_first_token first kids) ++ by_first_token (id + 1) rest

-- ---- nodes of a table

-- what stands for a node that is not there
abbrev pub nowhere : Node
nowhere = record { id = 0; label = record { kind = kind.Empty; text = []; bytes = []; value = 0; start = 0 }; kids = []; first = 1; parent = 0 }

abbrev pub node_at : List Node → ℕ → Node
node_at s n = unwrap_or (slice_get s n) nowhere

abbrev pub kind_at : List Node → ℕ → SynKind
kind_at s n = (node_at s n).label.kind

abbrev pub text_at : List Node → ℕ → List ℕ
text_at s n = (node_at s n).label.text

abbrev pub parent_of : List Node → ℕ → Node
parent_of s n = node_at s (node_at s n).parent

-- the kid of this index
abbrev pub kid : Node → ℕ → ℕ
kid node i = unwrap_or (slice_get node.kids i) 0

abbrev pub has_kid : Node → ℕ → Bool
has_kid node i = is_some (slice_get node.kids i)

abbrev pub other_kids : Node → List ℕ
other_kids node = drop 1 node.kids

abbrev pub index_in : List ℕ → ℕ → ℕ
index_in ids n = unwrap_or (position (λ m. m == n) ids) 0

-- n stands in the subtree of the node
abbrev pub holds : Node → ℕ → Bool
holds node n = nat_le node.first n && nat_le n node.id

-- the innermost node of this test that n stands in
abbrev pub around : (Node → Bool) → List Node → ℕ → Option Node
around test s n = find (λ node. nat_le n node.id && test node && holds node n) s

-- ---- tests of kinds

abbrev pub is_word : SynKind → Bool
is_word kind.Word = true
is_word k = false

abbrev pub is_declarator : SynKind → Bool
is_declarator kind.Ident = true
is_declarator kind.NoName = true
is_declarator kind.Paren = true
is_declarator kind.Pointer = true
is_declarator kind.ArrayOf = true
is_declarator kind.Takes = true
is_declarator k = false

-- a part of a declarator that makes a type of another
abbrev pub is_step : SynKind → Bool
is_step kind.Pointer = true
is_step kind.ArrayOf = true
is_step kind.Takes = true
is_step k = false

abbrev pub is_takes : SynKind → Bool
is_takes kind.Takes = true
is_takes k = false

abbrev pub is_paren : SynKind → Bool
is_paren kind.Paren = true
is_paren k = false

abbrev pub is_function : SynKind → Bool
is_function kind.Function = true
is_function k = false

abbrev pub is_braces : SynKind → Bool
is_braces kind.Braces = true
is_braces k = false

abbrev pub is_init : SynKind → Bool
is_init kind.InitDecl = true
is_init k = false

abbrev pub is_param : SynKind → Bool
is_param kind.Param = true
is_param k = false

abbrev pub is_string : SynKind → Bool
is_string kind.Str = true
is_string k = false

abbrev pub is_unit : SynKind → Bool
is_unit kind.Unit = true
is_unit k = false

abbrev pub is_loop : SynKind → Bool
is_loop kind.While = true
is_loop kind.Do = true
is_loop kind.For = true
is_loop k = false

abbrev pub is_switch : SynKind → Bool
is_switch kind.Switch = true
is_switch k = false

-- ---- declarators: all nodes of one have the same lowest node, which is its name, or the place of an absent one

abbrev pub in_declarator : ℕ → Node → Bool
in_declarator i node = node.first == i && is_declarator node.label.kind

-- the whole declarator of the name i
abbrev pub whole_declarator : List Node → ℕ → Node
whole_declarator s i = unwrap_or (last_or None (filter (in_declarator i) s)) nowhere

-- the part that stands next to the name i, parentheses aside
abbrev pub next_to_name : List Node → ℕ → Option Node
next_to_name s i = find (λ node. node.first == i && is_step node.label.kind) s

-- the node is next to its name
abbrev pub is_next_to_name : List Node → Node → Bool
is_next_to_name s node = by (next_to_name s node.first)
  where
    by : Option Node → Bool
    by None = false
    by (Some other) = other.id == node.id

-- this node is the declarator of its parent, and no part of another one
abbrev pub is_whole : List Node → Node → Bool
is_whole s node = not (is_declarator (parent_of s node.id).label.kind)

-- the parameter list next to the name of a function that is defined
abbrev pub own_takes : List Node → Node → Option Node
own_takes s function = by (next_to_name s (node_at s (kid function 1)).first)
  where
    by : Option Node → Option Node
    by None = None
    by (Some node) = if is_takes node.label.kind then Some node else None

-- the specs of what a declarator belongs to
abbrev pub specs_by : List Node → Node → SynKind → ℕ
specs_by s owner kind.InitDecl = kid (node_at s owner.parent) 0
specs_by s owner k = kid owner 0

abbrev pub specs_of : List Node → Node → Node
specs_of s owner = node_at s (specs_by s owner owner.label.kind)

-- specs have this word
abbrev pub says : List Node → List ℕ → Node → Bool
says s word specs = is_some (find (λ n. is_word (kind_at s n) && bytes_eq (text_at s n) word) specs.kids)

-- ---- scopes (6.2.1): the unit, each block, each `for`, the braces of each `switch`, each parameter list; that of a function
-- that is defined is one with the block behind it

pub record Scope : Type 0 where
  -- the node that the scope belongs to
  pub owner : ℕ
  -- the nodes in it, from one up to another
  pub from : ℕ
  pub to : ℕ
  -- and those of the block of a function, behind its parameters; where there is none, from 1 to 0
  pub block_from : ℕ
  pub block_to : ℕ

-- n stands in the scope
abbrev pub in_scope : Scope → ℕ → Bool
in_scope c n = (nat_le c.from n && nat_le n c.to) || (nat_le c.block_from n && nat_le n c.block_to)

-- of two scopes that n stands in, the inner one ends before
abbrev pub end_of : Scope → ℕ
end_of c = if c.block_to == 0 then c.to else c.block_to

abbrev pub plain_scope : Node → ℕ → List Scope
plain_scope node from = record { owner = node.id; from = from; to = node.id; block_from = 1; block_to = 0 } ∷ []

-- the scope of a block: of that of a function, the one that begins with the parameters
abbrev pub block_scope : Node → Option Node → List Scope
block_scope block None = plain_scope block block.first
block_scope block (Some takes) =
    record { owner = takes.id; from = kid takes 0 + 1; to = takes.id; block_from = block.first; block_to = block.id } ∷ []

-- the parameters of the function that a block belongs to
abbrev pub takes_before : List Node → Node → Option Node
takes_before s block = if is_function (parent_of s block.id).label.kind then own_takes s (parent_of s block.id) else None

-- a parameter list stands next to the name of a function that is defined
abbrev pub belongs_to_block : List Node → Node → Bool
belongs_to_block s takes =
    is_next_to_name s takes && is_function (node_at s (whole_declarator s takes.first).parent).label.kind

abbrev pub scope_by : List Node → Node → SynKind → List Scope
scope_by s node kind.Unit = plain_scope node node.first
scope_by s node kind.Block = block_scope node (takes_before s node)
scope_by s node kind.For = plain_scope node node.first
scope_by s node kind.Switch = plain_scope node (kid node 0 + 1)
scope_by s node kind.Takes = if belongs_to_block s node then [] else plain_scope node (kid node 0 + 1)
scope_by s node k = []

abbrev pub scopes_from : List Node → List Node → List Scope
scopes_from s [] = []
scopes_from s (node ∷ rest) = scope_by s node node.label.kind ++ scopes_from s rest

-- all scopes, inner ones first
abbrev pub scopes_of : List Node → List Scope
scopes_of s = scopes_from s s

abbrev pub no_scope : Scope
no_scope = record { owner = 0; from = 1; to = 0; block_from = 1; block_to = 0 }

-- the innermost scope that n stands in
abbrev pub scope_at : List Scope → ℕ → Scope
scope_at scopes n = unwrap_or (find (λ c. in_scope c n) scopes) no_scope

-- the whole unit
abbrev pub is_file_scope : List Node → Scope → Bool
is_file_scope s c = is_unit (kind_at s c.owner)
