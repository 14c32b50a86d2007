-- Which identifiers are typedef names. C99 6.2.1, 6.7.7.
use Rattle.std.specs.Prelude.{ℕ, Bool, true, false, List, [], ◌∷◌, ◌++◌, ◌||◌, ◌&&◌, if◌then◌else◌, codes}
use Rattle.std.specs.List.{list_any}
use Rattle.std.specs.Str.{bytes_eq}
use Rattle.c_syntax.specs.declared.kind.SynKind.{SynKind}
use Rattle.c_syntax.specs.declared.kind.SynKind.TheVariants as kind
use Rattle.c_syntax.specs.Trees.{Tree, Forest, none, tree, one}
use Rattle.c_grammar.specs.Vocabulary.{is_storage_word}

-- a name that a scope declares, as a typedef name or as something else
pub record Entry : Type 0 where
  pub name : List ℕ
  pub is_typedef : Bool

-- the scopes around a place, from the innermost on, each with its names so far
abbrev pub Names : Type 0
Names = List (List Entry)

abbrev pub declares : List ℕ → List Entry → Bool
declares name scope = list_any (λ e. bytes_eq e.name name) scope

abbrev pub declares_typedef : List ℕ → List Entry → Bool
declares_typedef name scope = list_any (λ e. e.is_typedef && bytes_eq e.name name) scope

-- the innermost scope that declares the name has a typedef of it
abbrev pub is_typedef_name : Names → List ℕ → Bool
is_typedef_name [] name = false
is_typedef_name (scope ∷ outer) name = if declares name scope then declares_typedef name scope else is_typedef_name outer name

-- a new scope
abbrev pub opened : Names → Names
opened names = [] ∷ names

-- more names in the innermost scope, where there is one
abbrev pub add : Names → List Entry → Names
add [] entries = []
add (scope ∷ outer) entries = (scope ++ entries) ∷ outer

-- ---- what trees declare

-- all trees but the first
abbrev pub behind_first : Forest → Forest
behind_first none = none
behind_first (tree label kids rest) = rest

-- the name that the first tree, a declarator, declares; the empty text where it has none, which no token of a text has
abbrev pub name_by : SynKind → List ℕ → List ℕ → List ℕ
name_by kind.Ident text inner = text
name_by kind.Pointer text inner = inner
name_by kind.ArrayOf text inner = inner
name_by kind.Takes text inner = inner
name_by kind.Paren text inner = inner
name_by other text inner = []

abbrev pub name_of : Forest → List ℕ
name_of none = []
name_of (tree label kids rest) = name_by label.kind label.text (name_of kids)

-- the first tree is a name, in parentheses or not
abbrev pub is_bare_by : SynKind → Bool → Bool
is_bare_by kind.Ident inner = true
is_bare_by kind.Paren inner = inner
is_bare_by other inner = false

abbrev pub is_bare_name : Forest → Bool
is_bare_name none = false
is_bare_name (tree label kids rest) = is_bare_by label.kind (is_bare_name kids)

-- the parameters of the suffix next to the name of the first tree, a declarator; none where that suffix has none
abbrev pub parameters_by : SynKind → Forest → Forest → Forest
parameters_by kind.Takes kids inner = if is_bare_name kids then behind_first kids else inner
parameters_by kind.Pointer kids inner = inner
parameters_by kind.ArrayOf kids inner = inner
parameters_by kind.Paren kids inner = inner
parameters_by other kids inner = none

abbrev pub parameters_of : Forest → Forest
parameters_of none = none
parameters_of (tree label kids rest) = parameters_by label.kind kids (parameters_of kids)

-- a word among specs
abbrev pub is_word_by : SynKind → Bool → Bool
is_word_by kind.Word same = same
is_word_by other same = false

abbrev pub has_word : List ℕ → Forest → Bool
has_word text none = false
has_word text (tree label kids rest) = is_word_by label.kind (bytes_eq label.text text) || has_word text rest

-- the first tree is specs with the word `typedef`
abbrev pub says_typedef : Forest → Bool
says_typedef none = false
says_typedef (tree label kids rest) = has_word (codes "typedef") kids

-- one of the specs says a type: it is a word for a type, a typedef name, a struct or an enum
abbrev pub says_type_by : SynKind → List ℕ → Bool
says_type_by kind.Word text = if is_storage_word text then false else true
says_type_by kind.StructSpec text = true
says_type_by kind.EnumSpec text = true
says_type_by other text = false

abbrev pub says_type : Tree → Bool
says_type t = says_type_by t.label.kind t.label.text

abbrev pub entry : List ℕ → Bool → List Entry
entry name is_typedef = record { name = name; is_typedef = is_typedef } ∷ []

-- what a node declares in the scope that it stands in, behind specs that say `typedef` or do not, where `first` is what the
-- first of its kids declares there and `later` is what the others do. C99 6.2.1: blocks, `for` statements, and parameters with
-- their bodies are scopes of their own; the scope of a name begins right behind its declarator, and that of an enumerator behind
-- all of it. The braces of a `switch` are one too, behind its expression, and no other part of an `if`, a loop or a `switch` is,
-- unlike 6.8.4 and 6.8.5. Members and tags declare nothing here
abbrev pub entries_by : SynKind → List ℕ → Bool → Forest → List Entry → List Entry → List Entry
entries_by kind.Block text is_typedef kids first later = []
entries_by kind.For text is_typedef kids first later = []
entries_by kind.Param text is_typedef kids first later = []
entries_by kind.Switch text is_typedef kids first later = first
entries_by kind.InitDecl text is_typedef kids first later = (first ++ entry (name_of kids) is_typedef) ++ later
entries_by kind.Enumer text is_typedef kids first later = (first ++ later) ++ entry text false
entries_by kind.Function text is_typedef kids first later = (first ++ later) ++ entry (name_of (behind_first kids)) false
entries_by other text is_typedef kids first later = first ++ later

-- the kids stand behind the specs of a declaration that say `typedef`
abbrev pub declares_types : SynKind → Forest → Bool
declares_types kind.Declaration kids = says_typedef kids
declares_types other kids = false

abbrev mutual
  -- what the first of trees declares, behind specs that say `typedef` or do not
  pub first_entries : Bool → Forest → List Entry
  first_entries is_typedef none = []
  first_entries is_typedef (tree label kids rest) =
      let types = declares_types label.kind kids in
      entries_by label.kind label.text is_typedef kids (first_entries types kids) (later_entries types kids)

  -- what the others declare
  pub later_entries : Bool → Forest → List Entry
  later_entries is_typedef none = []
  later_entries is_typedef (tree label kids rest) = first_entries is_typedef rest ++ later_entries is_typedef rest

-- what trees declare
abbrev pub entries_behind : Bool → Forest → List Entry
entries_behind is_typedef ts = first_entries is_typedef ts ++ later_entries is_typedef ts

abbrev pub entries : Tree → List Entry
entries t = entries_behind false (one t)

-- the names behind a tree
abbrev pub after : Names → Tree → Names
after names t = add names (entries t)

-- the names behind a declarator that is declared as a typedef name or as something else
abbrev pub after_declarator : Names → Bool → Tree → Names
after_declarator names is_typedef t = add names (entries t ++ entry (name_of (one t)) is_typedef)

-- the names that parameters declare in their scope
abbrev pub parameter_entries : Forest → List Entry
parameter_entries none = []
parameter_entries (tree label kids rest) =
    (entries_behind false kids ++ entry (name_of (behind_first kids)) false) ++ parameter_entries rest

abbrev pub after_parameter : Names → Tree → Names
after_parameter names t = add names (parameter_entries (one t))

-- the names where the body of a function begins: those behind its name, and a scope with its parameters
abbrev pub in_body : Names → Tree → Tree → Names
in_body names specs declarator = parameter_entries (parameters_of (one declarator)) ∷ after_declarator (after names specs) false declarator
