-- What the identifiers of a table denote.
use Rattle.std.specs.Prelude.{◌≡◌, ◌⊎◌, ℕ, ◌<◌, Bool, true, false, List, [], ◌∷◌, Option, Some, None, get_or, length, map, option_map, slice_set}
use Rattle.std.specs.List.{range_with_len}
use Rattle.c_lexer.specs.declared.token.Token.{Token}
use Rattle.c_syntax.specs.declared.kind.SynKind.{SynKind}
use Rattle.c_syntax.specs.declared.kind.SynKind.TheVariants as kind
use Rattle.c_syntax.specs.declared.syntax.SynNode.{SynNode}
use Rattle.c_syntax.specs.Trees.{Tree}
use Rattle.c_syntax.specs.Tables.{table_of}
use Rattle.c_grammar.specs.Derivation.{IsTreeOf}
use Rattle.c_typing.specs.Places.{kind_at, text_at, scopes_of, scope_at, no_scope}
use Rattle.c_typing.specs.Names.{Places, places, Name, denoted}
use Rattle.c_nodes.specs.declared.spans.Span.{Span}
use Rattle.c_nodes.specs.Parents.{tree_in, nodes_in}
use Rattle.c_nodes.specs.Declarators.{AreNext, AreWholes}
use Rattle.c_nodes.specs.Spans.{found_in}
use Rattle.c_nodes.specs.Scopes.{scope_of}
use Rattle.c_names.specs.declared.chain.Entry.{Entry}
use Rattle.c_names.specs.Chains.{IsEntered, IsVisible}
use Rattle.c_names.specs.Texts.{AreTexts, first_of, has_name}

-- the table of a tree that some tokens derive
abbrev pub IsOfTokens : List SynNode → Type 0
IsOfTokens table = (tokens : List Token) × (t : Tree) × IsTreeOf tokens t × (table ≡ table_of t)

-- the same of the tree that a table stands for
pub record IsDerived (table : List SynNode) : Type 0 where
  pub tokens : List Token
  pub derived : IsTreeOf tokens (tree_in table)

unfoldable pub places_in : List SynNode → Places
places_in table = places (tree_in table)

-- an identifier that denotes something: in an expression, or among specifiers
abbrev pub is_use : SynKind → Bool
is_use kind.Var = true
is_use kind.Word = true
is_use k = false

abbrev pub node_of : Option Name → Option ℕ
node_of e = option_map (λ (a : Name). a.node) e

-- the node of what a use denotes; to another node none is given
abbrev pub IsDenoted : List SynNode → ℕ → Option ℕ → Type 0
IsDenoted table n found =
    (is_use (kind_at (nodes_in table) n) ≡ true → found ≡ node_of (denoted (places_in table).names n (text_at (nodes_in table) n)))
    × (is_use (kind_at (nodes_in table) n) ≡ false → found ≡ None)

-- for each node, the node that declares what it denotes
pub record AreDenoted (table : List SynNode) (found : List (Option ℕ)) : Type 0 where
  pub long : length found ≡ length table
  pub are : (n : ℕ) → n < length table → IsDenoted table n (get_or found n None)

-- ---- how they are found

abbrev pub is_enumerator : SynKind → Bool
is_enumerator kind.Enumer = true
is_enumerator k = false

abbrev pub is_identifier : SynKind → Bool
is_identifier kind.Ident = true
is_identifier k = false

-- the names of its declarators are ordinary ones (6.2.3)
abbrev pub declares : SynKind → Bool
declares kind.InitDecl = true
declares kind.Function = true
declares kind.Param = true
declares k = false

abbrev pub Among : {A : Type 0} → A → List A → Type 0
Among x [] = ⊥
Among x (y ∷ ys) = (y ≡ x) ⊎ Among x ys

-- nodes with their declarators, their scopes and their texts
pub record IsScoped (table : List SynNode) (whole next_to first : List ℕ) (spans : List Span) (scope : List ℕ) : Type 0 where
  pub derived : IsDerived table
  pub wholes : AreWholes table whole
  pub next : AreNext table next_to
  pub texts : AreTexts table first
  pub scopes : map scope_of spans ≡ scopes_of (nodes_in table)
  pub inner : scope ≡ map (found_in spans) (range_with_len 0 (length table))

-- the innermost scope that a node stands in
abbrev pub IsScopeAt : List SynNode → ℕ → Option Span → Type 0
IsScopeAt table n None = scope_at (scopes_of (nodes_in table)) n ≡ no_scope
IsScopeAt table n (Some span) = (scope_at (scopes_of (nodes_in table)) n ≡ scope_of span) × Among (scope_of span) (scopes_of (nodes_in table))

-- the node of the name whose scope begins behind this node
pub record Begins (table : List SynNode) (n node : ℕ) : Type 0 where
  pub derived : IsDerived table
  pub nodes : length (nodes_in table) ≡ length table
  pub name : Name
  pub among : Among name (places_in table).names
  pub at : name.node ≡ node
  pub within : node < length table
  pub behind : name.behind ≡ n
  pub alone : (e : Name) → Among e (places_in table).names → e.behind ≡ n → e ≡ name
  pub scope : name.scope ≡ scope_at (scopes_of (nodes_in table)) node
  pub named : has_name (kind_at (nodes_in table) node) ≡ true

abbrev pub IsBegun : List SynNode → ℕ → Option ℕ → Type 0
IsBegun table n None = (e : Name) → Among e (places_in table).names → e.behind ≡ n → ⊥
IsBegun table n (Some node) = Begins table n node

-- the chains of names behind this node, by their texts
pub data IsStep (table : List SynNode) (n : ℕ) (old new : List (List Entry)) : Type 0 where
  nothing : new ≡ old → ((e : Name) → Among e (places_in table).names → e.behind ≡ n → e.scope ≡ no_scope) → IsStep table n old new
  entered : (entry : Entry) (text : ℕ) (chain : List Entry) → Begins table n entry.node → scope_at (scopes_of (nodes_in table)) entry.node ≡ scope_of entry.scope
      → Among (scope_of entry.scope) (scopes_of (nodes_in table)) → first_of (nodes_in table) (text_at (nodes_in table) entry.node) ≡ Some text
      → IsEntered n entry (get_or old text []) chain → new ≡ slice_set old text chain → IsStep table n old new

-- of a use, what the chain of its text says
abbrev pub Sees : List SynNode → ℕ → List (List Entry) → Option ℕ → Type 0
Sees table n chains found = is_use (kind_at (nodes_in table) n) ≡ true
    → (text : ℕ) × (first_of (nodes_in table) (text_at (nodes_in table) n) ≡ Some text) × IsVisible n (get_or chains text []) found
