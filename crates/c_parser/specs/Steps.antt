-- Parts of readings, by the names and the tokens at their place. These serve the parser's inner functions alone:
-- a reader of the contract of `parse` need not read them.
use Rattle.std.specs.Prelude.{◌&&◌, ◌||◌, not, if◌then◌else◌, ⊤, ◌⊎◌, ◌<◌, ℕ, suc, Bool, true, false, List, length, codes}
use Rattle.c_lexer.specs.declared.token.Token.{Token}
use Rattle.c_lexer.specs.declared.token.Punct.{Punct}
use Rattle.c_lexer.specs.declared.token.Punct.TheVariants.{Semicolon, Colon, LeftBracket, RightBracket, LeftParenthesis, RightParenthesis, RightBrace, Dot, Arrow, PlusPlus, MinusMinus}
use Rattle.c_lexer.specs.Marks.{mark_text}
use Rattle.c_syntax.specs.declared.kind.SynKind.{SynKind}
use Rattle.c_syntax.specs.declared.kind.SynKind.TheVariants as kind
use Rattle.c_syntax.specs.Trees.{Tree, Forest, none, ◌then◌, one, two, three, text_node, plain_node, constant_node}
use Rattle.c_grammar.specs.Vocabulary.{is_assignment, is_unary_operator, level_of, Place}
use Rattle.c_grammar.specs.Scopes.{Names, after, after_declarator, opened, in_body}
use Rattle.c_grammar.specs.Derivation.{start, ends_open}
use Rattle.c_grammar.specs.Derivation as derivation
use Rattle.c_grammar.specs.Answers.{Answer, found, wrong, and_then, fit, Ahead, mark_ahead, string_ahead, ahead, expect, expect_word, expect_identifier}
use Rattle.c_parser.specs.declared.statement.Standing.{Standing}
use Rattle.c_parser.specs.declared.statement.Standing.TheVariants as standing
use Rattle.c_grammar.specs.Reading as reading
use Rattle.c_grammar.specs.Reading.{
  Reader,
  Goal,
  Rows,
  behind_one,
  behind_const,
  begins_with_mark,
  begins_with_word,
  begins_specifier,
  is_absent_by,
  after_any,
  comma_by,
  assigned_by,
  choice_by,
  operand_by,
  suffix_by,
  primary_by,
  postfix_in,
  size_in,
  tag_by,
  body_in,
  value_by,
  specifier_list_in,
  members_in,
  declared_suffixes,
  declared_suffix_by,
  takes_in,
  void_in,
  parameters_in,
  rows_in,
  declarators_behind,
  init_behind_by,
  body_by,
  items_in,
  declaration_in,
  statement_in,
  keyword_by,
  if_in,
  while_in,
  do_in,
  for_in,
  for_behind,
  switch_in,
  return_in,
  in_parentheses_then,
}

-- ---- the first token

abbrev pub begins_suffix : Ahead → Bool
begins_suffix (mark_ahead LeftBracket at rest) = true
begins_suffix (mark_ahead LeftParenthesis at rest) = true
begins_suffix (mark_ahead Dot at rest) = true
begins_suffix (mark_ahead Arrow at rest) = true
begins_suffix (mark_ahead PlusPlus at rest) = true
begins_suffix (mark_ahead MinusMinus at rest) = true
begins_suffix other = false

abbrev pub begins_string : Ahead → Bool
begins_string (string_ahead bytes at rest) = true
begins_string other = false

abbrev pub assigns_by : Ahead → Bool
assigns_by (mark_ahead op at rest) = is_assignment op
assigns_by other = false

-- no binary operator of these levels is ahead
abbrev pub no_operator : ℕ → ℕ → Ahead → Type 0
no_operator tightest loosest (mark_ahead op at rest) = (level_of op < tightest) ⊎ (loosest < level_of op)
no_operator tightest loosest other = ⊤

-- ---- expressions

module _ (d : ℕ) (r : Reader) where
  abbrev pub comma_at : Names → Tree → List Token → Answer Tree
  comma_at names x ts = comma_by d r names x ts found (ahead ts)

  abbrev pub assigned_at : Names → Tree → List Token → Answer Tree
  assigned_at names x ts = assigned_by d r names x ts (ahead ts)

  abbrev pub choice_at : Names → Tree → List Token → Answer Tree
  choice_at names x ts = choice_by d r names x ts (ahead ts)

  abbrev pub operand_at : ℕ → Names → Tree → List Token → Answer Tree
  operand_at n names x ts = operand_by d r n names x ts found (ahead ts)

  abbrev pub suffix_at : Names → Tree → List Token → Answer Tree
  suffix_at names x ts = suffix_by d r names x ts found (ahead ts)

  abbrev pub primary_at : Names → List Token → Answer Tree
  primary_at names ts = primary_by d r names ts (ahead ts)

  -- a cast, from behind its parenthesis
  abbrev pub cast_to : ℕ → Names → List Token → Answer Tree
  cast_to start names ts = fit 2 d ts (and_then (r.tree_of Goal.type_name names ts) (λ t behind.
      expect RightParenthesis behind (λ behind2.
      and_then (r.tree_of Goal.cast (after names t) behind2) (λ x end. found (plain_node kind.Cast start (two t x)) end))))

  -- a mark before an operand, from the mark on
  abbrev pub marked_at : Goal → List ℕ → ℕ → Names → List Token → Answer Tree
  marked_at g text start names ts = fit 2 d (behind_one ts) (and_then (r.tree_of g names (behind_one ts)) (λ x end. found (text_node kind.Unary text start (one x)) end))

  -- the same of a unary operator; no other mark stands there
  abbrev pub operated_at : Punct → ℕ → Names → List Token → Answer Tree
  operated_at mark start names ts = if is_unary_operator mark then marked_at Goal.cast (mark_text mark) start names ts else postfix_in d r names ts

  -- what stands behind `sizeof`
  abbrev pub size_in_at : ℕ → Names → List Token → Answer Tree
  size_in_at start names ts = size_in d r names (record { start = start; end = start }) ts (ahead ts)

module _ (r : Reader) where
  abbrev pub size_of_operand : ℕ → Names → List Token → Answer Tree
  size_of_operand start names ts = and_then (r.tree_of Goal.unary names ts) (λ x end. found (plain_node kind.SizeExpr start (one x)) end)

  abbrev pub size_of_type : ℕ → Names → List Token → Answer Tree
  size_of_type start names ts = and_then (r.tree_of Goal.type_name names ts) (λ t behind.
      expect RightParenthesis behind (λ end. found (plain_node kind.SizeType start (one t)) end))

  abbrev pub indexed : Names → Tree → List Token → Answer Tree
  indexed names x ts = and_then (r.tree_of Goal.expression (after names x) ts) (λ y behind.
      expect RightBracket behind (λ end. found (plain_node kind.Index (start x) (two x y)) end))

  abbrev pub called : Names → Tree → List Token → Answer Tree
  called names x ts = and_then (r.trees_of Rows.arguments (after names x) ts) (λ ys behind.
      expect RightParenthesis behind (λ end. found (plain_node kind.Call (start x) (x then ys)) end))

abbrev pub selected : SynKind → Names → Tree → List Token → Answer Tree
selected kind names x ts = expect_identifier ts (λ text end. found (text_node kind text (start x) (one x)) end)

abbrev pub constant_at : ℕ → SynKind → ℕ → ℕ → Names → List Token → Answer Tree
constant_at d kind value start names ts = fit 1 d (behind_one ts) (found (constant_node kind value start) (behind_one ts))

-- ---- specs

abbrev pub place : ℕ → Place
place start = record { start = start; end = start }

abbrev pub word_at : ℕ → List ℕ → ℕ → Names → List Token → Answer Tree
word_at d text start names ts = fit 1 d (behind_one ts) (found (text_node kind.Word text start none) (behind_one ts))

module _ (d : ℕ) (r : Reader) where
  module _ (kind : SynKind) (row : Rows) where
    -- behind `struct` or `enum`
    abbrev pub tag_of : ℕ → Names → List Token → Answer Tree
    tag_of start names ts = tag_by d r kind row names (place start) ts (ahead ts)

    abbrev pub tagged_at : ℕ → Names → List Token → Answer Tree
    tagged_at start names ts = fit 1 d (behind_one ts) (tag_of start names (behind_one ts))

    abbrev pub body_of : List ℕ → ℕ → Names → List Token → Answer Tree
    body_of tag start names ts = body_in d r kind row names tag (place start) ts

  abbrev pub value_of : List ℕ → ℕ → Names → List Token → Answer Tree
  value_of text start names ts = value_by d r names text (place start) ts (ahead ts)

  abbrev pub specifiers_of : Names → List Token → Answer Forest
  specifiers_of names ts = specifier_list_in d r (suc (length ts)) false names ts

  abbrev pub members_of : Names → List Token → Answer Forest
  members_of names ts = members_in d r (suc (length ts)) names ts

  -- ---- declarators, each from its first token on

  abbrev pub pointer_of : reading.Mode → ℕ → Names → List Token → Answer Tree
  pointer_of mode start names ts = fit 2 d (behind_one ts) (
      and_then (r.tree_of (Goal.declared mode) names (behind_const (behind_one ts))) (λ x end. found (plain_node kind.Pointer start (one x)) end))

  abbrev pub enclosed_of : reading.Mode → ℕ → Names → List Token → Answer Tree
  enclosed_of mode start names ts = fit 2 d (behind_one ts) (
      and_then (r.tree_of (Goal.declared mode) names (behind_one ts)) (λ x behind.
      if is_absent_by x.label.kind then wrong behind else
      expect RightParenthesis behind (declared_suffixes d r d names (plain_node kind.Paren start (one x)))))

  abbrev pub named_of : List ℕ → ℕ → Names → List Token → Answer Tree
  named_of text start names ts = fit 1 d (behind_one ts) (declared_suffixes d r d names (text_node kind.Ident text start none) (behind_one ts))

  -- ---- what stands behind a declarator

  abbrev pub suffixes_at : Names → Tree → List Token → Answer Tree
  suffixes_at names x ts = declared_suffixes d r d names x ts

  abbrev pub declared_suffix_at : Names → Tree → List Token → Answer Tree
  declared_suffix_at names x ts = declared_suffix_by d r names x ts found (ahead ts)

  abbrev pub takes_at : Names → Tree → List Token → Answer Tree
  takes_at names x ts = takes_in d r names x ts found

  abbrev pub void_at : Names → Tree → List Token → Answer Tree
  void_at names x ts = void_in d r names x ts (behind_one ts) found

  abbrev pub parameters_at : Names → Tree → List Token → Answer Tree
  parameters_at names x ts = parameters_in d r names x ts found

  -- parameters in a scope of their own, up to their closing parenthesis
  abbrev pub scoped_at : Names → List Token → Answer Forest
  scoped_at names ts = and_then (rows_in d r Rows.parameters (opened names) ts) (λ xs behind. expect RightParenthesis behind (λ end. found xs end))

abbrev pub nothing_at : Names → Tree → List Token → Answer Tree
nothing_at names x ts = found (plain_node kind.Takes (start x) (one x)) (behind_one ts)

abbrev pub array_of : Reader → Names → Tree → List Token → Answer Tree
array_of r names x ts = and_then (r.trees_of Rows.optional_length (after_any names x) ts) (λ n behind.
    expect RightBracket behind (λ end. found (plain_node kind.ArrayOf (start x) (x then n)) end))

abbrev pub begins_declared_suffix : Bool → List Token → Bool
begins_declared_suffix is_named ts = begins_with_mark LeftBracket ts || (is_named && begins_with_mark LeftParenthesis ts)

-- ---- declarations and functions

abbrev pub function_of : Reader → Names → Tree → Tree → List Token → Answer Tree
function_of r names s x ts = and_then (r.tree_of Goal.body (in_body names s x) ts) (λ b end. found (plain_node kind.Function (start s) (three s x b)) end)

module _ (d : ℕ) (r : Reader) where
  abbrev pub declared_row_from : Bool → Names → Tree → List Token → Answer Forest
  declared_row_from is_typedef names x ts = declarators_behind d r is_typedef x names ts

  abbrev pub initialized_from : Bool → Names → Tree → List Token → Answer Tree
  initialized_from is_typedef names x ts = init_behind_by d r is_typedef names x ts (ahead ts)

abbrev pub initialized_of : Reader → Bool → Names → Tree → List Token → Answer Tree
initialized_of r is_typedef names x ts = and_then (r.tree_of Goal.initializer (after_declarator names is_typedef x) ts) (λ y end. found (plain_node kind.InitDecl (start x) (two x y)) end)

abbrev pub uninitialized_at : Names → Tree → List Token → Answer Tree
uninitialized_at names x ts = found (plain_node kind.InitDecl (start x) (one x)) ts

-- ---- statements, each from its first token on

module _ (d : ℕ) (r : Reader) where
  abbrev pub body_at : Names → List Token → Answer Tree
  body_at names ts = body_by d r names ts (ahead ts)

  abbrev pub block_at : Names → List Token → Answer Tree
  block_at names ts = body_by d r (opened names) ts (ahead ts)

  abbrev pub items_of : Names → List Token → Answer Forest
  items_of names ts = items_in d r (suc (length ts)) names ts

  abbrev pub item_of : Names → List Token → Answer Tree
  item_of names ts = if begins_specifier false names ts then declaration_in d r names ts else statement_in d r names ts

  abbrev pub keyword_of : List ℕ → ℕ → Names → List Token → Answer Tree
  keyword_of text start names ts = keyword_by d r names ts text (place start) (behind_one ts)

  abbrev pub if_of : ℕ → Names → List Token → Answer Tree
  if_of start names ts = fit 2 d (behind_one ts) (if_in d r names (place start) (behind_one ts))

  abbrev pub while_of : ℕ → Names → List Token → Answer Tree
  while_of start names ts = fit 2 d (behind_one ts) (while_in d r names (place start) (behind_one ts))

  abbrev pub do_of : ℕ → Names → List Token → Answer Tree
  do_of start names ts = fit 2 d (behind_one ts) (do_in d r names (place start) (behind_one ts))

  abbrev pub for_of : ℕ → Names → List Token → Answer Tree
  for_of start names ts = fit 2 d (behind_one ts) (for_in d r names (place start) (behind_one ts))

  abbrev pub return_of : ℕ → Names → List Token → Answer Tree
  return_of start names ts = fit 1 d (behind_one ts) (return_in d r names (place start) (behind_one ts))

  abbrev pub switch_of : ℕ → Names → List Token → Answer Tree
  switch_of start names ts = fit 2 d (behind_one ts) (switch_in d r names (place start) (behind_one ts))

  -- the groups of a `switch` in a scope of their own, up to their closing brace
  abbrev pub scoped_groups_of : Names → List Token → Answer Forest
  scoped_groups_of names ts = and_then (rows_in d r Rows.groups (opened names) ts) (λ items behind. expect RightBrace behind (λ end. found items end))

  abbrev pub case_of : ℕ → Names → List Token → Answer Tree
  case_of start names ts = fit 2 d (behind_one ts) (and_then (r.tree_of Goal.conditional names (behind_one ts)) (λ x behind.
      expect Colon behind (λ end. found (plain_node kind.Case start (one x)) end)))

-- an `else` that is ahead belongs to the `if` that this statement ends
abbrev pub takes_else : Bool → List Token → Bool
takes_else ends_open ts = begins_with_word (codes "else") ts && not ends_open

module _ (r : Reader) where
  -- an expression in parentheses
  abbrev pub condition_of : Names → List Token → Answer Tree
  condition_of names ts = in_parentheses_then 0 r names ts found

  -- the condition of a `do`, from its keyword on
  abbrev pub do_condition_of : Names → List Token → Answer Tree
  do_condition_of names ts = expect_word (codes "while") ts (λ behind. and_then (condition_of names behind) (λ x behind2. expect Semicolon behind2 (λ end. found x end)))

  -- the branches of an `if`, from behind its condition x
  abbrev pub then_of : ℕ → Names → Tree → List Token → Answer Tree
  then_of start names x ts = and_then (r.tree_of Goal.statement (after names x) ts) (λ s end.
      if takes_else (ends_open s) end then
      and_then (r.tree_of Goal.statement (after (after names x) s) (behind_one end)) (λ t last. found (plain_node kind.If start (three x s t)) last)
      else found (plain_node kind.If start (two x s)) end)

  -- an expression or nothing, and this mark
  abbrev pub optional_before : Punct → Names → List Token → Answer Tree
  optional_before mark names ts = and_then (r.tree_of Goal.optional_expression names ts) (λ x behind. expect mark behind (λ end. found x end))

  -- the first part of a `for`, in its scope
  abbrev pub for_first_of : Names → List Token → Answer Tree
  for_first_of names ts = if begins_specifier false names ts then r.tree_of Goal.declaration names ts else optional_before Semicolon names ts

  -- a `for` from behind its parenthesis, in its scope
  abbrev pub for_parts_of : ℕ → Names → List Token → Answer Tree
  for_parts_of start names ts = and_then (for_first_of names ts) (for_behind 0 r names (place start))

abbrev pub empty_of : ℕ → ℕ → Names → List Token → Answer Tree
empty_of d start names ts = fit 1 d (behind_one ts) (found (plain_node kind.Empty start none) (behind_one ts))

abbrev pub jump_of : ℕ → SynKind → ℕ → Names → List Token → Answer Tree
jump_of d kind start names ts = fit 1 d (behind_one ts) (expect Semicolon (behind_one ts) (λ end. found (plain_node kind start none) end))

abbrev pub is_jump : SynKind → Bool
is_jump kind.Break = true
is_jump kind.Continue = true
is_jump other = false

abbrev pub default_of : ℕ → ℕ → Names → List Token → Answer Tree
default_of d start names ts = fit 1 d (behind_one ts) (expect Colon (behind_one ts) (λ end. found (plain_node kind.Default start none) end))

-- a place among the groups of a `switch`
abbrev pub standing_of : Standing → derivation.Standing
standing_of standing.First = derivation.at_first
standing_of standing.Label = derivation.behind_label
standing_of standing.Statement = derivation.behind_statement
