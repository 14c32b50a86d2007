-- The shapes of nodes: which text a node of each kind has, and which kids, in a tree that is derived. C99 6.5, 6.7, 6.8 and 6.9,
-- without what docs/DECISIONS.md leaves out.
--
-- Each tree has a syntactic category (C99 6.1), told from its root, and where the root is a `Pointer`, an `ArrayOf` or a `Paren`
-- from its first kid. `text_fits` and `kids_fit` are the tables, with a line for each kind; a node has its shape where its text
-- and the categories of its kids are in them. `stands_in` and `begins_with` say what follows from them for parents and for the
-- names of declarators. `are_read_by` takes the scopes of the grammar through a tree.
use Rattle.std.specs.Prelude.{◌≡◌, ℕ, suc, ◌+◌, Bool, true, false, List, [], ◌∷◌, ◌++◌, map, get_or, ◌||◌, ◌&&◌, not, if◌then◌else◌, nat_le, ◌==◌, codes}
use Rattle.std.specs.List.{list_all}
use Rattle.c_syntax.specs.declared.kind.SynKind.{SynKind}
use Rattle.c_syntax.specs.declared.kind.SynKind.TheVariants as kind
use Rattle.c_syntax.specs.declared.syntax.SynId.{SynId}
use Rattle.c_syntax.specs.declared.syntax.SynNode.{SynNode}
use Rattle.c_syntax.specs.Trees.{Tree, Forest, none, tree, one}
use Rattle.c_syntax.specs.Tables.{StandsFor}
use Rattle.c_grammar.specs.Vocabulary.{is_among, is_identifier, is_type_word, is_storage_word}
use Rattle.c_grammar.specs.Scopes.{Names, opened, add, after, after_declarator, after_parameter, parameter_entries, parameters_of, is_typedef_name, says_typedef, entries_behind}
use Rattle.c_grammar.specs.Derivation.{Standing, at_first, behind_label, behind_statement, may_end, is_labelled, is_lone_void, ends_open}

-- ---- categories

pub data Category : Type 0 where
  unit : Category
  function : Category
  declaration : Category
  init_declarator : Category
  braces : Category
  specifiers : Category
  -- among specifiers: a word that says no type, a typedef name, and all else
  storage_word : Category
  typedef_name : Category
  type_specifier : Category
  member : Category
  enumerator : Category
  -- with a name, without one, and the place of an absent name alone
  declarator : Category
  abstract_declarator : Category
  no_name : Category
  parameter : Category
  type_name : Category
  block : Category
  -- `;` alone, or an absent part of `for`
  empty : Category
  -- any other statement
  statement : Category
  -- `case` or `default`
  switch_label : Category
  -- by its level, from the tightest, 0
  expression : ℕ → Category
  -- of no tree that is derived
  no_category : Category

-- the levels of expressions: of `a`, `a(b)`, `-a` and `(t)a`; of binary operators from 4 to 13; of `a ? b : c`, `a = b` and `a, b`
abbrev pub primary_level : ℕ
primary_level = 0

abbrev pub postfix_level : ℕ
postfix_level = 1

abbrev pub unary_level : ℕ
unary_level = 2

abbrev pub cast_level : ℕ
cast_level = 3

abbrev pub conditional_level : ℕ
conditional_level = 14

abbrev pub assignment_level : ℕ
assignment_level = 15

abbrev pub comma_level : ℕ
comma_level = 16

-- the binary operators, the tightest first. C99 6.5.5 to 6.5.14
abbrev pub binary_operators : List (List (List ℕ))
binary_operators =
    (codes "*" ∷ codes "/" ∷ codes "%" ∷ []) ∷
    (codes "+" ∷ codes "-" ∷ []) ∷
    (codes "<<" ∷ codes ">>" ∷ []) ∷
    (codes "<" ∷ codes ">" ∷ codes "<=" ∷ codes ">=" ∷ []) ∷
    (codes "==" ∷ codes "!=" ∷ []) ∷
    (codes "&" ∷ []) ∷
    (codes "^" ∷ []) ∷
    (codes "|" ∷ []) ∷
    (codes "&&" ∷ []) ∷
    (codes "||" ∷ []) ∷ []

-- the number of the first of the lists that has the text, counted from this one; 0 where none has
abbrev pub place_among : ℕ → List (List (List ℕ)) → List ℕ → ℕ
place_among n [] text = 0
place_among n (operators ∷ more) text = if is_among operators text then n else place_among (suc n) more text

-- from 1 to 10; 0 of all else
unfoldable pub binary_level : List ℕ → ℕ
binary_level text = place_among 1 binary_operators text

-- C99 6.5.3.1 and 6.5.2.4
abbrev pub is_increment : List ℕ → Bool
is_increment text = is_among (codes "++" ∷ codes "--" ∷ []) text

-- C99 6.5.3
abbrev pub is_unary : List ℕ → Bool
is_unary text = is_among (codes "++" ∷ codes "--" ∷ codes "&" ∷ codes "*" ∷ codes "+" ∷ codes "-" ∷ codes "~" ∷ codes "!" ∷ []) text

-- C99 6.5.16
abbrev pub is_assignment : List ℕ → Bool
is_assignment text = is_among (
    codes "=" ∷ codes "*=" ∷ codes "/=" ∷ codes "%=" ∷ codes "+=" ∷ codes "-=" ∷ codes "<<=" ∷ codes ">>=" ∷ codes "&=" ∷ codes "^=" ∷ codes "|=" ∷ []) text

-- the category of a word among specifiers
abbrev pub word_category : List ℕ → Category
word_category text = if is_storage_word text then storage_word else if is_type_word text then type_specifier else typedef_name

-- a `*` or `[]` before or behind what these kids begin with
abbrev pub declarator_over : List Category → Category
declarator_over (declarator ∷ rest) = declarator
declarator_over (abstract_declarator ∷ rest) = abstract_declarator
declarator_over (no_name ∷ rest) = abstract_declarator
declarator_over others = no_category

-- parentheses around these kids
abbrev pub in_parentheses : List Category → Category
in_parentheses (expression level ∷ rest) = expression primary_level
in_parentheses others = declarator_over others

-- the category of a tree whose root has this kind and this text, from those of its kids
unfoldable pub category_by : SynKind → List ℕ → List Category → Category
category_by kind.Unit text kids = unit
category_by kind.Function text kids = function
category_by kind.Declaration text kids = declaration
category_by kind.InitDecl text kids = init_declarator
category_by kind.Braces text kids = braces
category_by kind.Specs text kids = specifiers
category_by kind.Word text kids = word_category text
category_by kind.StructSpec text kids = type_specifier
category_by kind.Member text kids = member
category_by kind.EnumSpec text kids = type_specifier
category_by kind.Enumer text kids = enumerator
category_by kind.Ident text kids = declarator
category_by kind.Pointer text kids = declarator_over kids
category_by kind.ArrayOf text kids = declarator_over kids
category_by kind.Takes text kids = declarator
category_by kind.Param text kids = parameter
category_by kind.NoName text kids = no_name
category_by kind.TypeName text kids = type_name
category_by kind.Block text kids = block
category_by kind.Empty text kids = empty
category_by kind.ExprStmt text kids = statement
category_by kind.If text kids = statement
category_by kind.While text kids = statement
category_by kind.Do text kids = statement
category_by kind.For text kids = statement
category_by kind.Break text kids = statement
category_by kind.Continue text kids = statement
category_by kind.Return text kids = statement
category_by kind.Switch text kids = statement
category_by kind.Case text kids = switch_label
category_by kind.Default text kids = switch_label
category_by kind.Paren text kids = in_parentheses kids
category_by (kind.Int type) text kids = expression primary_level
category_by kind.Char text kids = expression primary_level
category_by kind.Str text kids = expression primary_level
category_by kind.Var text kids = expression primary_level
category_by kind.Index text kids = expression postfix_level
category_by kind.Call text kids = expression postfix_level
category_by kind.Dot text kids = expression postfix_level
category_by kind.Arrow text kids = expression postfix_level
category_by kind.Post text kids = expression postfix_level
category_by kind.Unary text kids = expression unary_level
category_by kind.SizeExpr text kids = expression unary_level
category_by kind.SizeType text kids = expression unary_level
category_by kind.Cast text kids = expression cast_level
category_by kind.Binary text kids = expression (cast_level + binary_level text)
category_by kind.Cond text kids = expression conditional_level
category_by kind.Assign text kids = expression assignment_level
category_by kind.Comma text kids = expression comma_level

-- the categories of trees in a row
abbrev pub categories : Forest → List Category
categories none = []
categories (tree label kids rest) = category_by label.kind label.text (categories kids) ∷ categories rest

abbrev pub category_of : Tree → Category
category_of t = category_by t.label.kind t.label.text (categories t.kids)

-- ---- classes of categories

-- an expression of this level at most
unfoldable pub is_within : ℕ → Category → Bool
is_within most (expression level) = nat_le level most
is_within most others = false

abbrev pub is_postfix_expression : Category → Bool
is_postfix_expression c = is_within postfix_level c

abbrev pub is_unary_expression : Category → Bool
is_unary_expression c = is_within unary_level c

abbrev pub is_cast_expression : Category → Bool
is_cast_expression c = is_within cast_level c

-- what an operand of this binary operator is at most, on its left
abbrev pub is_left_operand : List ℕ → Category → Bool
is_left_operand operator c = is_within (cast_level + binary_level operator) c

-- and on its right: one level tighter
abbrev pub is_right_operand : List ℕ → Category → Bool
is_right_operand operator (expression level) = nat_le (suc level) (cast_level + binary_level operator)
is_right_operand operator others = false

-- what stands before `?`
abbrev pub is_binary_expression : Category → Bool
is_binary_expression c = is_within (cast_level + 10) c

-- which a constant expression is (C99 6.6)
abbrev pub is_conditional_expression : Category → Bool
is_conditional_expression c = is_within conditional_level c

abbrev pub is_assignment_expression : Category → Bool
is_assignment_expression c = is_within assignment_level c

abbrev pub is_expression : Category → Bool
is_expression c = is_within comma_level c

-- what a unary operator stands before: a unary expression behind `++` and `--`, else a cast expression
abbrev pub is_operand : List ℕ → Category → Bool
is_operand operator c = if is_increment operator then is_unary_expression c else is_cast_expression c

abbrev pub is_optional_expression : Category → Bool
is_optional_expression empty = true
is_optional_expression c = is_expression c

-- what `for` begins with
abbrev pub is_first_clause : Category → Bool
is_first_clause declaration = true
is_first_clause c = is_optional_expression c

abbrev pub is_external : Category → Bool
is_external function = true
is_external declaration = true
is_external others = false

abbrev pub is_init_declarator : Category → Bool
is_init_declarator init_declarator = true
is_init_declarator others = false

abbrev pub is_initializer : Category → Bool
is_initializer braces = true
is_initializer c = is_assignment_expression c

abbrev pub is_member : Category → Bool
is_member member = true
is_member others = false

abbrev pub is_enumerator : Category → Bool
is_enumerator enumerator = true
is_enumerator others = false

abbrev pub is_declarator : Category → Bool
is_declarator declarator = true
is_declarator others = false

abbrev pub is_parameter : Category → Bool
is_parameter parameter = true
is_parameter others = false

-- what stands in a type name behind the specifiers
abbrev pub is_abstract : Category → Bool
is_abstract abstract_declarator = true
is_abstract no_name = true
is_abstract others = false

-- with a name or without
abbrev pub is_any_declarator : Category → Bool
is_any_declarator declarator = true
is_any_declarator c = is_abstract c

-- what stands in parentheses
abbrev pub is_in_parentheses : Category → Bool
is_in_parentheses declarator = true
is_in_parentheses abstract_declarator = true
is_in_parentheses c = is_expression c

abbrev pub is_statement : Category → Bool
is_statement block = true
is_statement empty = true
is_statement statement = true
is_statement others = false

abbrev pub is_block_item : Category → Bool
is_block_item declaration = true
is_block_item c = is_statement c

-- ---- rows of categories

abbrev pub at_most_one : (Category → Bool) → List Category → Bool
at_most_one test [] = true
at_most_one test (c ∷ []) = test c
at_most_one test others = false

abbrev pub one_or_more : (Category → Bool) → List Category → Bool
one_or_more test [] = false
one_or_more test (c ∷ more) = list_all test (c ∷ more)

-- specifiers, where those before them say a type or do not: a typedef name stands only where none says one
unfoldable pub are_specifiers : Bool → List Category → Bool
are_specifiers typed [] = true
are_specifiers typed (storage_word ∷ more) = are_specifiers typed more
are_specifiers typed (type_specifier ∷ more) = are_specifiers true more
are_specifiers false (typedef_name ∷ more) = are_specifiers true more
are_specifiers typed others = false

-- what stands in the braces of a `switch`, from such a place on: groups, each of labels and then statements
unfoldable pub are_groups : Standing → List Category → Bool
are_groups standing [] = may_end standing
are_groups standing (switch_label ∷ more) = are_groups behind_label more
are_groups standing (c ∷ more) = is_labelled standing && (is_statement c && are_groups behind_statement more)

-- ---- the tables

-- the kids of a node of this kind, with this text
unfoldable pub kids_fit : SynKind → List ℕ → List Category → Bool
kids_fit kind.Unit text externals = one_or_more is_external externals
kids_fit kind.Function text (specifiers ∷ declarator ∷ block ∷ []) = true
kids_fit kind.Declaration text (specifiers ∷ declared) = list_all is_init_declarator declared
kids_fit kind.InitDecl text (declarator ∷ initial) = at_most_one is_initializer initial
kids_fit kind.Braces text values = one_or_more is_initializer values
kids_fit kind.Specs text (c ∷ more) = are_specifiers false (c ∷ more)
kids_fit kind.Word text [] = true
kids_fit kind.StructSpec tag members = list_all is_member members
kids_fit kind.Member text (specifiers ∷ declarators) = one_or_more is_declarator declarators
kids_fit kind.EnumSpec tag enumerators = list_all is_enumerator enumerators
kids_fit kind.Enumer text value = at_most_one is_conditional_expression value
kids_fit kind.Ident text [] = true
kids_fit kind.Pointer text (inner ∷ []) = is_any_declarator inner
kids_fit kind.ArrayOf text (inner ∷ size) = is_any_declarator inner && at_most_one is_conditional_expression size
kids_fit kind.Takes text (declarator ∷ parameters) = list_all is_parameter parameters
kids_fit kind.Param text (specifiers ∷ declared ∷ []) = is_any_declarator declared
kids_fit kind.NoName text [] = true
kids_fit kind.TypeName text (specifiers ∷ derived ∷ []) = is_abstract derived
kids_fit kind.Block text items = list_all is_block_item items
kids_fit kind.ExprStmt text (value ∷ []) = is_expression value
kids_fit kind.Empty text [] = true
kids_fit kind.If text (condition ∷ first ∷ []) = is_expression condition && is_statement first
kids_fit kind.If text (condition ∷ first ∷ second ∷ []) = is_expression condition && (is_statement first && is_statement second)
kids_fit kind.While text (condition ∷ body ∷ []) = is_expression condition && is_statement body
kids_fit kind.Do text (body ∷ condition ∷ []) = is_statement body && is_expression condition
kids_fit kind.For text (first ∷ condition ∷ step ∷ body ∷ []) =
    is_first_clause first && (is_optional_expression condition && (is_optional_expression step && is_statement body))
kids_fit kind.Break text [] = true
kids_fit kind.Continue text [] = true
kids_fit kind.Return text value = at_most_one is_expression value
kids_fit kind.Switch text (value ∷ groups) = is_expression value && are_groups at_first groups
kids_fit kind.Case text (constant ∷ []) = is_conditional_expression constant
kids_fit kind.Default text [] = true
kids_fit kind.Paren text (inner ∷ []) = is_in_parentheses inner
kids_fit (kind.Int type) text [] = true
kids_fit kind.Char text [] = true
kids_fit kind.Str text [] = true
kids_fit kind.Var text [] = true
kids_fit kind.Unary operator (operand ∷ []) = is_operand operator operand
kids_fit kind.Post operator (operand ∷ []) = is_postfix_expression operand
kids_fit kind.Binary operator (left ∷ right ∷ []) = is_left_operand operator left && is_right_operand operator right
kids_fit kind.Assign operator (place ∷ value ∷ []) = is_unary_expression place && is_assignment_expression value
kids_fit kind.Cond text (condition ∷ first ∷ second ∷ []) =
    is_binary_expression condition && (is_expression first && is_conditional_expression second)
kids_fit kind.Comma text (left ∷ right ∷ []) = is_expression left && is_assignment_expression right
kids_fit kind.Index text (array ∷ index ∷ []) = is_postfix_expression array && is_expression index
kids_fit kind.Call text (callee ∷ arguments) = is_postfix_expression callee && list_all is_assignment_expression arguments
kids_fit kind.Dot text (operand ∷ []) = is_postfix_expression operand
kids_fit kind.Arrow text (operand ∷ []) = is_postfix_expression operand
kids_fit kind.Cast text (type_name ∷ operand ∷ []) = is_cast_expression operand
kids_fit kind.SizeExpr text (operand ∷ []) = is_unary_expression operand
kids_fit kind.SizeType text (type_name ∷ []) = true
kids_fit kind text others = false

abbrev pub holds_statements : SynKind → Bool
holds_statements kind.Block = true
holds_statements kind.If = true
holds_statements kind.While = true
holds_statements kind.Do = true
holds_statements kind.For = true
holds_statements kind.Switch = true
holds_statements others = false

abbrev pub holds_expressions : SynKind → Bool
holds_expressions kind.InitDecl = true
holds_expressions kind.Braces = true
holds_expressions kind.Enumer = true
holds_expressions kind.ArrayOf = true
holds_expressions kind.ExprStmt = true
holds_expressions kind.If = true
holds_expressions kind.While = true
holds_expressions kind.Do = true
holds_expressions kind.For = true
holds_expressions kind.Return = true
holds_expressions kind.Switch = true
holds_expressions kind.Case = true
holds_expressions kind.Paren = true
holds_expressions kind.Unary = true
holds_expressions kind.Post = true
holds_expressions kind.Binary = true
holds_expressions kind.Assign = true
holds_expressions kind.Cond = true
holds_expressions kind.Comma = true
holds_expressions kind.Index = true
holds_expressions kind.Call = true
holds_expressions kind.Dot = true
holds_expressions kind.Arrow = true
holds_expressions kind.Cast = true
holds_expressions kind.SizeExpr = true
holds_expressions others = false

-- the nodes that a node of this category is a kid of; a consequence of `kids_fit`, read from below
unfoldable pub stands_in : Category → SynKind → Bool
stands_in function kind.Unit = true
stands_in declaration kind.Unit = true
stands_in declaration kind.Block = true
stands_in declaration kind.For = true
stands_in init_declarator kind.Declaration = true
stands_in braces kind.InitDecl = true
stands_in braces kind.Braces = true
stands_in specifiers kind.Function = true
stands_in specifiers kind.Declaration = true
stands_in specifiers kind.Member = true
stands_in specifiers kind.Param = true
stands_in specifiers kind.TypeName = true
stands_in storage_word kind.Specs = true
stands_in typedef_name kind.Specs = true
stands_in type_specifier kind.Specs = true
stands_in member kind.StructSpec = true
stands_in enumerator kind.EnumSpec = true
stands_in declarator kind.Function = true
stands_in declarator kind.InitDecl = true
stands_in declarator kind.Member = true
stands_in declarator kind.Param = true
stands_in declarator kind.Pointer = true
stands_in declarator kind.ArrayOf = true
stands_in declarator kind.Takes = true
stands_in declarator kind.Paren = true
stands_in abstract_declarator kind.Param = true
stands_in abstract_declarator kind.TypeName = true
stands_in abstract_declarator kind.Pointer = true
stands_in abstract_declarator kind.ArrayOf = true
stands_in abstract_declarator kind.Paren = true
stands_in no_name kind.Param = true
stands_in no_name kind.TypeName = true
stands_in no_name kind.Pointer = true
stands_in no_name kind.ArrayOf = true
stands_in parameter kind.Takes = true
stands_in type_name kind.Cast = true
stands_in type_name kind.SizeType = true
stands_in block kind.Function = true
stands_in block k = holds_statements k
stands_in empty k = holds_statements k
stands_in statement k = holds_statements k
stands_in switch_label kind.Switch = true
stands_in (expression level) k = holds_expressions k
stands_in c k = false

-- the text of a node of this kind: where no line says another, it is empty
unfoldable pub text_fits : SynKind → List ℕ → Bool
text_fits kind.Word text = is_storage_word text || (is_type_word text || is_identifier text)
text_fits kind.Ident text = is_identifier text
text_fits kind.Var text = is_identifier text
text_fits kind.Enumer text = is_identifier text
text_fits kind.Dot text = is_identifier text
text_fits kind.Arrow text = is_identifier text
text_fits kind.StructSpec text = is_identifier text
text_fits kind.EnumSpec text = is_identifier text
text_fits kind.Unary text = is_unary text
text_fits kind.Post text = is_increment text
text_fits kind.Binary text = nat_le 1 (binary_level text)
text_fits kind.Assign text = is_assignment text
text_fits kind [] = true
text_fits kind others = false

-- the bytes of a string; empty in any other node
unfoldable pub bytes_fit : SynKind → List ℕ → Bool
bytes_fit kind.Str bytes = true
bytes_fit kind [] = true
bytes_fit kind others = false

-- the value of a number or a character; 0 in any other node
unfoldable pub value_fits : SynKind → ℕ → Bool
value_fits (kind.Int type) value = true
value_fits kind.Char value = true
value_fits kind value = value == 0

-- what the grammar says of kids beside their categories: before an `else` no statement ends in an `if` without one, and the
-- parameters are not the word `void` alone
unfoldable pub are_apart : SynKind → Forest → Bool
are_apart kind.If (tree condition ck (tree first fk (tree second sk none))) = not (ends_open (record { label = first; kids = fk }))
are_apart kind.Takes (tree inner ik parameters) = not (is_lone_void parameters)
are_apart kind kids = true

-- ---- the shape of a node

unfoldable pub has_shape : Tree → Bool
has_shape t =
    text_fits t.label.kind t.label.text && (bytes_fit t.label.kind t.label.bytes && (value_fits t.label.kind t.label.value
    && (are_apart t.label.kind t.kids && kids_fit t.label.kind t.label.text (categories t.kids))))

-- each of their nodes has its shape
unfoldable pub are_shaped : Forest → Bool
are_shaped none = true
are_shaped (tree label kids rest) = has_shape (record { label = label; kids = kids }) && (are_shaped kids && are_shaped rest)

-- the node at this place is the root of a tree, and each node of it has its shape
abbrev pub IsShapedAt : List SynNode → SynId → Type 0
IsShapedAt table id = (t : Tree) × StandsFor table id t × (are_shaped (one t) ≡ true)

-- ---- shapes by the places of nodes

-- what these categories are at these places
abbrev pub at_places : List Category → List SynId → List Category
at_places known ids = map (λ (id : SynId). get_or known id.number no_category) ids

-- the categories of the nodes of a table, behind those that are known: each from those of its kids, which stand before it
abbrev pub categories_behind : List Category → List SynNode → List Category
categories_behind known [] = known
categories_behind known (n ∷ rest) = categories_behind (known ++ category_by n.kind n.text (at_places known n.kids) ∷ []) rest

abbrev pub categories_of : List SynNode → List Category
categories_of table = categories_behind [] table

-- the node at this place has the category at this place, and its text and the categories of its kids are in the tables
pub record Fits (known : List Category) (place : ℕ) (n : SynNode) : Type 0 where
  pub category : get_or known place no_category ≡ category_by n.kind n.text (at_places known n.kids)
  pub text : text_fits n.kind n.text ≡ true
  pub bytes : bytes_fit n.kind n.bytes ≡ true
  pub value : value_fits n.kind n.value ≡ true
  pub kids : kids_fit n.kind n.text (at_places known n.kids) ≡ true

-- ---- names of declarators

-- the kind of the lowest node of a tree, by that of its root and its kids
abbrev pub lowest_kind : SynKind → Forest → SynKind
lowest_kind k none = k
lowest_kind k (tree label kids rest) = lowest_kind label.kind kids

abbrev pub is_name : SynKind → Bool
is_name kind.Ident = true
is_name k = false

abbrev pub is_absent_name : SynKind → Bool
is_absent_name kind.NoName = true
is_absent_name k = false

-- the lowest node of a declarator is its name, or the place of the absent name; that of no other tree is one, but that an
-- `InitDecl` begins with its declarator
unfoldable pub begins_with : Category → SynKind → Bool
begins_with declarator lowest = is_name lowest
begins_with init_declarator lowest = is_name lowest
begins_with abstract_declarator lowest = is_absent_name lowest
begins_with no_name lowest = is_absent_name lowest
begins_with c lowest = not (is_name lowest || is_absent_name lowest)

-- ---- how identifiers are read

-- what a tree is among its parent's kids, where the names before it or behind it are not those of a plain row
pub data Role : Type 0 where
  in_row : Role
  -- of a function
  function_specifiers : Role
  function_declarator : Role
  function_body : Role
  -- of a declaration; behind specifiers that say `typedef` or do not; of a declarator with its initializer
  declaration_specifiers : Role
  declared : Bool → Role
  declared_name : Bool → Role
  -- the inner declarator of a function, and its parameters
  taking : Role
  taken : Role
  -- the expression of a `switch`
  switched : Role

-- the role of the first kid of a node of this kind, which has this role itself
abbrev pub first_role : Role → SynKind → Role
first_role role kind.Function = function_specifiers
first_role role kind.Declaration = declaration_specifiers
first_role (declared is_typedef) kind.InitDecl = declared_name is_typedef
first_role role kind.Takes = taking
first_role role kind.Switch = switched
first_role role k = in_row

-- the role of the kid behind a tree of this role
abbrev pub next_role : Role → Tree → Role
next_role function_specifiers t = function_declarator
next_role function_declarator t = function_body
next_role declaration_specifiers t = declared (says_typedef (one t))
next_role (declared is_typedef) t = declared is_typedef
next_role taking t = taken
next_role taken t = taken
next_role role t = in_row

-- the names before the first kid: blocks and `for` statements are scopes; that of a function's body begins with the parameters
abbrev pub names_inside : Role → SynKind → Names → Names
names_inside function_body kind.Block names = names
names_inside role kind.Block names = opened names
names_inside role kind.For names = opened names
names_inside role k names = names

-- the names behind a tree of this role. C99 6.2.1
abbrev pub names_behind : Role → Names → Tree → Names
names_behind function_declarator names t = parameter_entries (parameters_of (one t)) ∷ after_declarator names false t
names_behind (declared is_typedef) names t = add names (entries_behind is_typedef (one t))
names_behind (declared_name is_typedef) names t = after_declarator names is_typedef t
names_behind taking names t = opened (after names t)
names_behind taken names t = after_parameter names t
names_behind switched names t = opened (after names t)
names_behind role names t = after names t

-- where these names stand before it, a word among specifiers is a keyword or a typedef name, and a name in an expression is no
-- typedef name
abbrev pub is_read_by : Names → SynKind → List ℕ → Bool
is_read_by names kind.Word text = is_type_word text || is_storage_word text || is_typedef_name names text
is_read_by names kind.Var text = not (is_typedef_name names text)
is_read_by names k text = true

-- all identifiers of trees in a row are read so, where the first has this role, and these names stand before it
unfoldable pub are_read_by : Role → Names → Forest → Bool
are_read_by role names none = true
are_read_by role names (tree label kids rest) =
    is_read_by names label.kind label.text && (are_read_by (first_role role label.kind) (names_inside role label.kind names) kids
    && are_read_by (next_role role (record { label = label; kids = kids })) (names_behind role names (record { label = label; kids = kids })) rest)

-- those of a unit
abbrev pub IsReadByNames : Tree → Type 0
IsReadByNames t = are_read_by in_row (opened []) (one t) ≡ true
