-- Rows are units as texts. Their tokens are read here by a plain reading function, which stands for nothing but these texts: blanks,
-- words, integer constants, characters and strings with simple escapes, and the longest punctuators. Their trees are what the reading
-- function of the grammar finds; by its law they are derived.
use Prim.Native.String.{String}
use Rattle.std.specs.Prelude.{◌≡◌, ℕ, map, filter, find, slice_get, zero, suc, ◌+◌, Bool, true, false, List, [], ◌∷◌, ◌++◌, ◌==◌, ◌&&◌, if◌then◌else◌, take, drop, length, Option, Some, None, unwrap_or, option_map, slice_index, codes}
use Rattle.std.specs.List.{prefix_len, list_all}
use Rattle.std.specs.Str.{bytes_eq}
use Rattle.c_lexer.specs.declared.token.IntType.{IntType}
use Rattle.c_lexer.specs.declared.token.TokenKind.{TokenKind}
use Rattle.c_lexer.specs.declared.token.TokenKind.TheVariants as token
use Rattle.c_lexer.specs.declared.token.Token.{Token}
use Rattle.c_lexer.specs.declared.token.Punct.{Punct}
use Rattle.c_lexer.specs.declared.token.Punct.TheVariants.{Semicolon}
use Rattle.c_lexer.specs.Characters.{is_blank, is_digit, is_nondigit, is_word_byte}
use Rattle.c_lexer.specs.Literals.{escape_value}
use Rattle.c_lexer.specs.Readings.{mark_of, constant_of}
use Rattle.c_syntax.specs.declared.kind.SynKind.{SynKind}
use Rattle.c_syntax.specs.declared.kind.SynKind.TheVariants as kind
use Rattle.c_syntax.specs.TreeText.{kind_word}
use Rattle.c_syntax.specs.Trees.{Tree, none, plain_node}
use Rattle.c_grammar.specs.Answers.{Answer, found, and_then, fit, ahead_by, ahead, expect_by, expect, expect_word_by, expect_word, expect_identifier_by, expect_identifier}
use Rattle.c_grammar.specs.Reading.{parameters_in, void_in, goes_on_behind_void_by, joined_by, joined_behind, begins_specifier_by, is_unary_by, is_named_by, is_absent_by, has_name, needs_name, behind_const_by, behind_const, lower, if_any, after_any, primary_by, suffix_by, suffixes, postfix_in, size_in, unary_by, unary_in, cast_by, cast_in, operand_by, operands, binary_in, choice_by, conditional_in, assigned_by, assignment_in, comma_by, commas, expression_in, body_in, tagged_by, tag_by, specifier_by, specifier_in, specifier_list_in, specifiers_in, specs_first, takes_in, declared_suffix_by, declared_suffixes, undeclared_in, declared_by, declared_in, parameter_in, type_name_in, member_in, value_by, enumerator_by, enumerator_in, initializer_by, initializer_in, initialized_by, init_declarator_in, init_behind_by, init_behind_in, declaration_behind, declaration_in, declaration_from, function_by, external_in, body_by, optional_expression_in, in_parentheses_then, if_in, while_in, do_in, for_behind, for_in, switch_in, label_by, label_in, return_in, expression_statement_in, keyword_by, statement_by, statement_in, goal_in, listed, listed_in_braces, members_in, items_in, group_item_in, groups_in, externals_by, externals_in, arguments_in, length_in, declarators_behind, rows_in, level, read, read_unit}
use Rattle.c_types.specs.declared.tree.Expr.{Expr}
use Rattle.c_types.specs.declared.tree.Unit.{Unit as Whole}
use Rattle.c_typing.specs.Judgements.{Fault, rule, too_big, Typing, typing_at}
use Rattle.c_typing.specs.Places.{Node, nodes, kid}
use Rattle.c_typing.specs.Names.{places}
use Rattle.c_typing.specs.Conversions.{value_of}
use Rattle.c_typing.specs.Expressions.{variable_by, variable, prefix_step, postfix_step, subscript, called, call_by, dot, arrow, address_operator, dereference, sign_operator, not_operator, unary, measured_type, cast, binary_by, binary_operator, conditional, comma, assignment, compound_by, assign}
use Rattle.c_typing.specs.Declarators.{typedef_type, spec_word, specs, struct_body, struct_specifier, enum_specifier, enumerator_after, enumerator_value, enumerator_node, whole_type, declarator, pointer_declarator, absent_length_step, length_step, array_declarator, function_declarator, member, parameter_node, type_name}
use Rattle.c_typing.specs.Initializers.{string, braces_for, braces, initialized_object, init_by, init_declarator}
use Rattle.c_typing.specs.Statements.{declaration, block_node, expression_statement, if_statement, while_statement, do_statement, for_statement, break_statement, continue_statement, return_by, return_statement, case_label, default_label, switch_statement}
use Rattle.c_typing.specs.Typing.{judgements_at, function_node, unit_node, judged_by, judged_from, faults, unit_of}

-- ---- tokens

-- what stands at the front of a text, and how many bytes it has
pub record Piece : Type 0 where
  pub tokens : List Token
  pub bytes : ℕ

abbrev pub piece : TokenKind → ℕ → Piece
piece kind bytes = record { tokens = record { kind = kind; start = 0; end = 0 } ∷ []; bytes = bytes }

-- the bytes of a literal up to its quote, and how many bytes of the text they are
pub record Body : Type 0 where
  pub values : List ℕ
  pub bytes : ℕ

abbrev pub more : ℕ → ℕ → Body → Body
more value bytes b = record { values = value ∷ b.values; bytes = bytes + b.bytes }

abbrev pub body_of : ℕ → List ℕ → Body
body_of quote [] = record { values = []; bytes = 0 }
body_of quote (b ∷ []) = record { values = []; bytes = 1 }
body_of quote (a ∷ b ∷ rest) =
    if a == quote then record { values = []; bytes = 1 }
    else if a == 92 then more (unwrap_or (escape_value b) 0) 2 (body_of quote rest) else more a 1 (body_of quote (b ∷ rest))

abbrev pub integer_piece : List ℕ → ℕ → Piece
integer_piece text n = by (constant_of (take n text))
  where
    by : Option (ℕ × IntType) → Piece
    by None = piece (token.Punct Semicolon) n
    by (Some (value, type)) = piece (token.Int value type) n

abbrev pub literal_piece : Bool → Body → Piece
literal_piece true b = piece (token.Str b.values) (1 + b.bytes)
literal_piece false b = piece (token.Char (slice_index b.values 0)) (1 + b.bytes)

abbrev pub mark_piece : List ℕ → Piece
mark_piece text = by (mark_of (take 3 text)) (mark_of (take 2 text)) (mark_of (take 1 text))
  where
    by : Option Punct → Option Punct → Option Punct → Piece
    by (Some mark) b c = piece (token.Punct mark) 3
    by None (Some mark) c = piece (token.Punct mark) 2
    by None None c = piece (token.Punct (unwrap_or c Semicolon)) 1

abbrev pub piece_of : List ℕ → Piece
piece_of [] = record { tokens = []; bytes = 1 }
piece_of (b ∷ rest) =
    if is_blank b then record { tokens = []; bytes = 1 }
    else if is_nondigit b then (let n = prefix_len is_word_byte (b ∷ rest) in piece (token.Word (take n (b ∷ rest))) n)
    else if is_digit b then integer_piece (b ∷ rest) (prefix_len is_word_byte (b ∷ rest))
    else if b == 34 then literal_piece true (body_of 34 rest)
    else if b == 39 then literal_piece false (body_of 39 rest) else mark_piece (b ∷ rest)

abbrev pub tokens_within : ℕ → List ℕ → List Token
tokens_within zero text = []
tokens_within (suc n) text = (piece_of text).tokens ++ tokens_within n (drop (piece_of text).bytes text)

-- the tokens of a text
abbrev pub tokens : List ℕ → List Token
tokens text = tokens_within (length text) text

-- ---- trees

abbrev pub tree_in : Answer Tree → Tree
tree_in (found t rest) = t
tree_in answer = plain_node kind.Empty 0 none

unfoldable pub tree_of : List ℕ → Tree
unfolding and_then fit ahead_by ahead expect_by expect expect_word_by expect_word expect_identifier_by expect_identifier parameters_in void_in
    goes_on_behind_void_by joined_by joined_behind begins_specifier_by is_unary_by is_named_by is_absent_by has_name needs_name behind_const_by
    behind_const lower if_any after_any primary_by suffix_by suffixes postfix_in size_in unary_by unary_in cast_by cast_in operand_by operands binary_in
    choice_by conditional_in assigned_by assignment_in comma_by commas expression_in body_in tagged_by tag_by specifier_by specifier_in specifier_list_in
    specifiers_in specs_first takes_in declared_suffix_by declared_suffixes undeclared_in declared_by declared_in parameter_in type_name_in member_in
    value_by enumerator_by enumerator_in initializer_by initializer_in initialized_by init_declarator_in init_behind_by init_behind_in declaration_behind
    declaration_in declaration_from function_by external_in body_by optional_expression_in in_parentheses_then if_in while_in do_in for_behind for_in
    switch_in label_by label_in return_in expression_statement_in keyword_by statement_by statement_in goal_in listed listed_in_braces members_in items_in
    group_item_in groups_in externals_by externals_in arguments_in length_in declarators_behind rows_in level read read_unit
tree_of text = tree_in (read_unit 60 (tokens text))

-- ---- nodes: each is named by its line in the dump of the tree, without numbers, and by how many such lines stand before it

abbrev with_blank : List ℕ → List ℕ
with_blank [] = []
with_blank (b ∷ bs) = 32 ∷ b ∷ bs

abbrev pub line_of : Node → List ℕ
line_of n = kind_word n.label.kind ++ with_blank n.label.text

abbrev pub node_in : Tree → String → ℕ → ℕ
node_in t line i = by (slice_get (filter (λ n. bytes_eq (line_of n) (codes line)) (nodes t)) i)
  where
    by : Option Node → ℕ
    by None = 0
    by (Some n) = n.id

-- ---- rows on faults

pub data Expected : Type 0 where
  -- this rule at this node
  at : ℕ → String → ℕ → Expected
  -- a type, or the end of an object, of this size at this node
  size_at : ℕ → String → ℕ → Expected

abbrev pub fault_of : Tree → Expected → Fault
fault_of t (at r line i) = rule r (node_in t line i)
fault_of t (size_at size line i) = too_big (node_in t line i) size

-- a unit, and all its faults
abbrev pub Row : Type 0
Row = String × List Expected

abbrev pub breaks : String → ℕ → String → ℕ → Row
breaks text r line i = (text, at r line i ∷ [])

abbrev pub keeps : String → Row
keeps text = (text, [])

abbrev pub same_fault : Fault → Fault → Bool
same_fault (rule r n) (rule q m) = r == q && n == m
same_fault (too_big n a) (too_big m b) = n == m && a == b
same_fault f g = false

abbrev pub same_faults : List Fault → List Fault → Bool
same_faults [] [] = true
same_faults (f ∷ fs) (g ∷ gs) = same_fault f g && same_faults fs gs
same_faults fs gs = false

-- the faults and the unit of a tree, where all that they compute with unfolds
unfoldable pub faults_of : Tree → List Fault
unfolding variable_by variable prefix_step postfix_step subscript called call_by dot arrow address_operator dereference sign_operator not_operator unary
    measured_type cast binary_by binary_operator conditional comma assignment compound_by assign typedef_type spec_word specs struct_body struct_specifier
    enum_specifier enumerator_after enumerator_value enumerator_node whole_type declarator pointer_declarator absent_length_step length_step
    array_declarator function_declarator member parameter_node type_name string braces_for braces initialized_object init_by init_declarator declaration
    block_node expression_statement if_statement while_statement do_statement for_statement break_statement continue_statement return_by return_statement
    case_label default_label switch_statement function_node unit_node judged_by judged_from faults unit_of
faults_of t = faults t

unfoldable pub whole_of : Tree → Whole
unfolding variable_by variable prefix_step postfix_step subscript called call_by dot arrow address_operator dereference sign_operator not_operator unary
    measured_type cast binary_by binary_operator conditional comma assignment compound_by assign typedef_type spec_word specs struct_body struct_specifier
    enum_specifier enumerator_after enumerator_value enumerator_node whole_type declarator pointer_declarator absent_length_step length_step
    array_declarator function_declarator member parameter_node type_name string braces_for braces initialized_object init_by init_declarator declaration
    block_node expression_statement if_statement while_statement do_statement for_statement break_statement continue_statement return_by return_statement
    case_label default_label switch_statement function_node unit_node judged_by judged_from faults unit_of
whole_of t = unit_of t

unfoldable pub holds : Row → Bool
unfolding tree_of faults_of
holds row = let t = tree_of (codes row.0) in same_faults (faults_of t) (map (fault_of t) row.1)

-- all rows hold
abbrev pub Hold : List Row → Type 0
Hold rows = list_all holds rows ≡ true

-- ---- rows on typed forms

unfoldable pub unit_in : String → Whole
unfolding tree_of whole_of
unit_in text = whole_of (tree_of (codes text))

-- the code of the value of the first expression that is a statement
abbrev is_expression_statement : SynKind → Bool
is_expression_statement kind.ExprStmt = true
is_expression_statement k = false

abbrev first_statement : Tree → ℕ
first_statement t = by (find (λ n. is_expression_statement n.label.kind) (nodes t))
  where
    by : Option Node → ℕ
    by None = 0
    by (Some n) = kid n 0

abbrev value_code : Option Typing → Option Expr
value_code x = option_map (λ y. (value_of y).code) x

unfoldable pub code_in : List ℕ → Option Expr
unfolding tree_of variable_by variable prefix_step postfix_step subscript called call_by dot arrow address_operator dereference sign_operator not_operator unary
    measured_type cast binary_by binary_operator conditional comma assignment compound_by assign typedef_type spec_word specs struct_body struct_specifier
    enum_specifier enumerator_after enumerator_value enumerator_node whole_type declarator pointer_declarator absent_length_step length_step
    array_declarator function_declarator member parameter_node type_name string braces_for braces initialized_object init_by init_declarator declaration
    block_node expression_statement if_statement while_statement do_statement for_statement break_statement continue_statement return_by return_statement
    case_label default_label switch_statement function_node unit_node judged_by judged_from faults unit_of
code_in text = let t = tree_of text in value_code (typing_at (judgements_at (places t)) (first_statement t))
