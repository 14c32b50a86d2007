-- A function that reads the tree of a part, with a budget for its height. It serves laws and inner functions alone: a reader of
-- the contracts of `one_tree` and of `parse` need not read it.
use Rattle.std.specs.Prelude.{ℕ, zero, suc, Bool, true, false, List, [], ◌∷◌, ◌++◌, length, ◌==◌, ◌||◌, ◌&&◌, not, if◌then◌else◌, codes}
use Rattle.std.specs.Str.{bytes_eq}
use Rattle.c_lexer.specs.declared.token.Punct.{Punct}
use Rattle.c_lexer.specs.declared.token.Punct.TheVariants.{LeftBracket, RightBracket, LeftParenthesis, RightParenthesis, LeftBrace, RightBrace, Dot, Arrow, PlusPlus, MinusMinus, Star, Question, Colon, Semicolon, Equal, Comma}
use Rattle.c_lexer.specs.declared.token.Token.{Token}
use Rattle.c_lexer.specs.declared.token.TokenKind.{TokenKind}
use Rattle.c_lexer.specs.declared.token.TokenKind.TheVariants as token
use Rattle.c_lexer.specs.Marks.{mark_text}
use Rattle.c_syntax.specs.declared.kind.SynKind.{SynKind}
use Rattle.c_syntax.specs.declared.kind.SynKind.TheVariants as kind
use Rattle.c_syntax.specs.Trees.{Tree, Forest, none, tree, ◌then◌, one, two, three, text_node, plain_node, int_node, char_node, string_node, height}
use Rattle.c_grammar.specs.Vocabulary.{is_identifier, is_type_word, is_storage_word, is_unary_operator, is_assignment, level_of, Place, start_of}
use Rattle.c_grammar.specs.Scopes.{Names, opened, is_typedef_name, add, says_type, says_typedef, after, after_declarator, after_parameter, entries_behind, in_body}
use Rattle.c_grammar.specs.Derivation.{Standing, at_first, behind_label, behind_statement, start, first_start, no_name, ends_open}
use Rattle.c_grammar.specs.Answers.{Answer, found, wrong, deep, and_then, fit, Ahead, mark_ahead, word_ahead, integer_ahead, character_ahead, string_ahead, ahead, same_mark, expect, expect_word, expect_identifier}

-- ---- what is read

-- whether a declarator has a name
pub data Mode : Type 0 where
  named : Mode
  unnamed : Mode
  either : Mode

-- what has one tree
pub data Goal : Type 0 where
  external : Goal
  declaration : Goal
  init_declarator : Bool → Goal
  -- what stands behind its declarator
  init_behind : Bool → Tree → Goal
  initializer : Goal
  specifiers : Goal
  specifier : Bool → Goal
  member : Goal
  enumerator : Goal
  declared : Mode → Goal
  parameter : Goal
  type_name : Goal
  -- statements in braces, in the scope that there is
  body : Goal
  statement : Goal
  optional_expression : Goal
  expression : Goal
  assignment : Goal
  conditional : Goal
  binary : ℕ → Goal
  cast : Goal
  unary : Goal

-- what has trees
pub data Rows : Type 0 where
  externals : Rows
  init_declarators : Bool → Rows
  -- the first of them behind its declarator
  init_declarators_behind : Bool → Tree → Rows
  initializers : Rows
  specifier_list : Bool → Rows
  members : Rows
  declarators : Rows
  enumerators : Rows
  parameters : Rows
  block_items : Rows
  -- of a `switch`
  groups : Rows
  arguments : Rows
  optional_length : Rows

-- the readings of all that, within one budget
pub record Reader : Type 0 where
  pub tree_of : Goal → Names → List Token → Answer Tree
  pub trees_of : Rows → Names → List Token → Answer Forest

-- ---- expressions

-- the strings in front, joined behind these bytes, and what is left
unfoldable pub joined_by : List ℕ → TokenKind → List Token → List ℕ × List Token → List ℕ × List Token
joined_by bytes (token.Str more) here deeper = deeper
joined_by bytes other here deeper = (bytes, here)

abbrev pub string_in : TokenKind → List ℕ
string_in (token.Str bytes) = bytes
string_in other = []

unfoldable pub joined_behind : List ℕ → List Token → List ℕ × List Token
joined_behind bytes [] = (bytes, [])
joined_behind bytes (t ∷ rest) = joined_by bytes t.kind (t ∷ rest) (joined_behind (bytes ++ string_in t.kind) rest)

-- a name that is no typedef name
abbrev pub is_variable : Names → List ℕ → Bool
is_variable names text = is_identifier text && not (is_typedef_name names text)

-- specs begin here, where they say a type already or do not
unfoldable pub begins_specifier_by : Bool → Names → Ahead → Bool
begins_specifier_by typed names (word_ahead text at rest) =
    is_type_word text || (is_storage_word text || (bytes_eq text (codes "struct") || (bytes_eq text (codes "enum") || (not typed && (is_identifier text && is_typedef_name names text)))))
begins_specifier_by typed names other = false

abbrev pub begins_specifier : Bool → Names → List Token → Bool
begins_specifier typed names ts = begins_specifier_by typed names (ahead ts)

abbrev pub begins_with_mark_by : Punct → Ahead → Bool
begins_with_mark_by p (mark_ahead q at rest) = same_mark p q
begins_with_mark_by p other = false

abbrev pub begins_with_mark : Punct → List Token → Bool
begins_with_mark p ts = begins_with_mark_by p (ahead ts)

-- the tree is a unary expression: no cast, no binary, no conditional one
unfoldable pub is_unary_by : SynKind → Bool
is_unary_by kind.Cast = false
is_unary_by kind.Binary = false
is_unary_by kind.Cond = false
is_unary_by other = true

-- a declarator has a name
unfoldable pub is_named_by : SynKind → Bool → Bool
is_named_by kind.Ident below = true
is_named_by kind.Pointer below = below
is_named_by kind.ArrayOf below = below
is_named_by kind.Takes below = below
is_named_by kind.Paren below = below
is_named_by other below = false

abbrev pub is_named : Forest → Bool
is_named none = false
is_named (tree label kids rest) = is_named_by label.kind (is_named kids)

-- it has nothing at all
unfoldable pub is_absent_by : SynKind → Bool
is_absent_by kind.NoName = true
is_absent_by other = false

unfoldable pub has_name : Mode → Bool
has_name named = true
has_name unnamed = false
has_name either = true

unfoldable pub needs_name : Mode → Bool
needs_name named = true
needs_name unnamed = false
needs_name either = false

-- the words `const` in front left out
unfoldable pub behind_const_by : TokenKind → List Token → List Token → List Token
behind_const_by (token.Word text) here deeper = if bytes_eq text (codes "const") then deeper else here
behind_const_by other here deeper = here

unfoldable pub behind_const : List Token → List Token
behind_const [] = []
behind_const (t ∷ rest) = behind_const_by t.kind (t ∷ rest) (behind_const rest)

abbrev pub begins_with_word_by : List ℕ → Ahead → Bool
begins_with_word_by text (word_ahead other at rest) = bytes_eq text other
begins_with_word_by text other = false

abbrev pub begins_with_word : List ℕ → List Token → Bool
begins_with_word text ts = begins_with_word_by text (ahead ts)

-- what stands behind the first token
abbrev pub behind_one : List Token → List Token
behind_one [] = []
behind_one (t ∷ rest) = rest

-- a parameter can go on with this token behind the word `void`
unfoldable pub goes_on_behind_void_by : Ahead → Bool
goes_on_behind_void_by (word_ahead text at rest) = begins_specifier_by true [] (word_ahead text at rest) || is_identifier text
goes_on_behind_void_by (mark_ahead p at rest) = same_mark Star p || (same_mark LeftParenthesis p || (same_mark LeftBracket p || same_mark Comma p))
goes_on_behind_void_by other = false

abbrev pub goes_on_behind_void : List Token → Bool
goes_on_behind_void ts = goes_on_behind_void_by (ahead ts)

-- a node without a token of its own reads its first part within the next lower budget; at 0 its own reading serves, which
-- goes too deep at the first token
unfoldable pub lower : {T : Type 0} → ℕ → Answer T → Answer T → Answer T
lower zero own nested = own
lower (suc d) own nested = nested

-- a node without any token
unfoldable pub if_any : {T : Type 0} → ℕ → List Token → Answer T → Answer T
if_any zero ts answer = deep ts
if_any (suc d) ts answer = answer

-- a label of a `switch` begins here
abbrev pub begins_label : List Token → Bool
begins_label ts = begins_with_word (codes "case") ts || begins_with_word (codes "default") ts

-- no group begins here, or the brace behind the groups stands here
abbrev pub ends_groups : Standing → List Token → Bool
ends_groups at_first ts = not (begins_label ts)
ends_groups behind_label ts = false
ends_groups behind_statement ts = begins_with_mark RightBrace ts

-- the place behind the label or the statement that begins here
abbrev pub standing_behind : List Token → Standing
standing_behind ts = if begins_label ts then behind_label else behind_statement

-- the names behind a declarator; an absent one declares nothing
unfoldable pub after_any : Names → Tree → Names
after_any names x = if is_absent_by x.label.kind then names else after names x

-- ---- within a budget d, where r reads within the next lower one

module _ (d : ℕ) (r : Reader) where
  -- ---- expressions

  unfoldable pub primary_by : Names → List Token → Ahead → Answer Tree
  primary_by names ts (word_ahead text at rest) = if is_variable names text then fit 1 d rest (found (text_node kind.Var text at.start none) rest) else wrong ts
  primary_by names ts (integer_ahead value type at rest) = fit 1 d rest (found (int_node type value at.start) rest)
  primary_by names ts (character_ahead value at rest) = fit 1 d rest (found (char_node value at.start) rest)
  primary_by names ts (string_ahead bytes at rest) = let more = joined_behind bytes rest in fit 1 d rest (found (string_node more.0 at.start) more.1)
  primary_by names ts (mark_ahead LeftParenthesis at rest) = fit 2 d rest (
      and_then (r.tree_of expression names rest) (λ x behind.
      expect RightParenthesis behind (λ end. found (plain_node kind.Paren at.start (one x)) end)))
  primary_by names ts other = wrong ts

  -- behind x, where `go` goes on with a longer chain
  unfoldable pub suffix_by : Names → Tree → List Token → (Tree → List Token → Answer Tree) → Ahead → Answer Tree
  suffix_by names x ts go (mark_ahead LeftBracket at rest) = fit (suc (height x)) d rest (
      and_then (r.tree_of expression (after names x) rest) (λ y behind.
      expect RightBracket behind (λ end. go (plain_node kind.Index (start x) (two x y)) end)))
  suffix_by names x ts go (mark_ahead LeftParenthesis at rest) = fit (suc (height x)) d rest (
      and_then (r.trees_of arguments (after names x) rest) (λ ys behind.
      expect RightParenthesis behind (λ end. go (plain_node kind.Call (start x) (x then ys)) end)))
  suffix_by names x ts go (mark_ahead Dot at rest) = fit (suc (height x)) d rest (
      expect_identifier rest (λ text end. go (text_node kind.Dot text (start x) (one x)) end))
  suffix_by names x ts go (mark_ahead Arrow at rest) = fit (suc (height x)) d rest (
      expect_identifier rest (λ text end. go (text_node kind.Arrow text (start x) (one x)) end))
  suffix_by names x ts go (mark_ahead PlusPlus at rest) = fit (suc (height x)) d rest (go (text_node kind.Post (codes "++") (start x) (one x)) rest)
  suffix_by names x ts go (mark_ahead MinusMinus at rest) = fit (suc (height x)) d rest (go (text_node kind.Post (codes "--") (start x) (one x)) rest)
  suffix_by names x ts go other = found x ts

  -- k more suffixes at most; each makes the tree higher, so that the budget ends before they do
  unfoldable pub suffixes : ℕ → Names → Tree → List Token → Answer Tree
  suffixes zero names x ts = suffix_by names x ts (λ y rest. deep rest) (ahead ts)
  suffixes (suc k) names x ts = suffix_by names x ts (suffixes k names) (ahead ts)

  unfoldable pub postfix_in : Names → List Token → Answer Tree
  postfix_in names ts = and_then (primary_by names ts (ahead ts)) (suffixes d names)

  -- a parenthesis behind `sizeof` begins a type name or an expression of height 2, so that either makes a height of 3
  unfoldable pub size_in : Names → Place → List Token → Ahead → Answer Tree
  size_in names at rest (mark_ahead LeftParenthesis at2 rest2) = fit 3 d rest2 (if begins_specifier false names rest2 then
      and_then (r.tree_of type_name names rest2) (λ t behind.
      expect RightParenthesis behind (λ end. found (plain_node kind.SizeType at.start (one t)) end))
      else and_then (r.tree_of unary names rest) (λ x end. found (plain_node kind.SizeExpr at.start (one x)) end))
  size_in names at rest other = and_then (r.tree_of unary names rest) (λ x end. found (plain_node kind.SizeExpr at.start (one x)) end)

  unfoldable pub unary_by : Names → List Token → Ahead → Answer Tree
  unary_by names ts (mark_ahead PlusPlus at rest) = fit 2 d rest (and_then (r.tree_of unary names rest) (λ x end. found (text_node kind.Unary (codes "++") at.start (one x)) end))
  unary_by names ts (mark_ahead MinusMinus at rest) = fit 2 d rest (and_then (r.tree_of unary names rest) (λ x end. found (text_node kind.Unary (codes "--") at.start (one x)) end))
  unary_by names ts (mark_ahead op at rest) = if is_unary_operator op then
      fit 2 d rest (and_then (r.tree_of cast names rest) (λ x end. found (text_node kind.Unary (mark_text op) at.start (one x)) end))
      else postfix_in names ts
  unary_by names ts (word_ahead text at rest) = if bytes_eq text (codes "sizeof") then fit 2 d rest (size_in names at rest (ahead rest)) else postfix_in names ts
  unary_by names ts other = postfix_in names ts

  unfoldable pub unary_in : Names → List Token → Answer Tree
  unary_in names ts = unary_by names ts (ahead ts)

  unfoldable pub cast_by : Names → List Token → Ahead → Answer Tree
  cast_by names ts (mark_ahead LeftParenthesis at rest) = if begins_specifier false names rest then
      fit 2 d rest (and_then (r.tree_of type_name names rest) (λ t behind.
      expect RightParenthesis behind (λ behind2.
      and_then (r.tree_of cast (after names t) behind2) (λ x end. found (plain_node kind.Cast at.start (two t x)) end))))
      else unary_in names ts
  cast_by names ts other = unary_in names ts

  unfoldable pub cast_in : Names → List Token → Answer Tree
  cast_in names ts = cast_by names ts (ahead ts)

  -- behind x, an operator of level n + 1
  unfoldable pub operand_by : ℕ → Names → Tree → List Token → (Tree → List Token → Answer Tree) → Ahead → Answer Tree
  operand_by n names x ts go (mark_ahead op at rest) = if level_of op == suc n then
      fit (suc (height x)) d rest (and_then (r.tree_of (binary n) (after names x) rest) (λ y end. go (text_node kind.Binary (mark_text op) (start x) (two x y)) end))
      else found x ts
  operand_by n names x ts go other = found x ts

  unfoldable pub operands : ℕ → ℕ → Names → Tree → List Token → Answer Tree
  operands zero n names x ts = operand_by n names x ts (λ y rest. deep rest) (ahead ts)
  operands (suc k) n names x ts = operand_by n names x ts (operands k n names) (ahead ts)

  unfoldable pub binary_in : ℕ → Names → List Token → Answer Tree
  binary_in zero names ts = cast_in names ts
  binary_in (suc n) names ts = and_then (binary_in n names ts) (operands d n names)

  unfoldable pub choice_by : Names → Tree → List Token → Ahead → Answer Tree
  choice_by names x ts (mark_ahead Question at rest) = fit (suc (height x)) d rest (
      and_then (r.tree_of expression (after names x) rest) (λ y behind.
      expect Colon behind (λ behind2.
      and_then (r.tree_of conditional (after (after names x) y) behind2) (λ z end. found (plain_node kind.Cond (start x) (three x y z)) end))))
  choice_by names x ts other = found x ts

  unfoldable pub conditional_in : Names → List Token → Answer Tree
  conditional_in names ts = and_then (binary_in 10 names ts) (λ x rest. choice_by names x rest (ahead rest))

  unfoldable pub assigned_by : Names → Tree → List Token → Ahead → Answer Tree
  assigned_by names x ts (mark_ahead op at rest) = if is_assignment op && is_unary_by x.label.kind then
      fit (suc (height x)) d rest (and_then (r.tree_of assignment (after names x) rest) (λ y end. found (text_node kind.Assign (mark_text op) (start x) (two x y)) end))
      else found x ts
  assigned_by names x ts other = found x ts

  unfoldable pub assignment_in : Names → List Token → Answer Tree
  assignment_in names ts = and_then (conditional_in names ts) (λ x rest. assigned_by names x rest (ahead rest))

  unfoldable pub comma_by : Names → Tree → List Token → (Tree → List Token → Answer Tree) → Ahead → Answer Tree
  comma_by names x ts go (mark_ahead Comma at rest) =
      fit (suc (height x)) d rest (and_then (r.tree_of assignment (after names x) rest) (λ y end. go (plain_node kind.Comma (start x) (two x y)) end))
  comma_by names x ts go other = found x ts

  unfoldable pub commas : ℕ → Names → Tree → List Token → Answer Tree
  commas zero names x ts = comma_by names x ts (λ y rest. deep rest) (ahead ts)
  commas (suc k) names x ts = comma_by names x ts (commas k names) (ahead ts)

  unfoldable pub expression_in : Names → List Token → Answer Tree
  expression_in names ts = and_then (assignment_in names ts) (commas d names)

  -- ---- types

  unfoldable pub body_in : SynKind → Rows → Names → List ℕ → Place → List Token → Answer Tree
  body_in kind row names tag at rest = fit 2 d rest (
      and_then (r.trees_of row names rest) (λ ts behind.
      expect RightBrace behind (λ end. found (text_node kind tag at.start ts) end)))

  unfoldable pub tagged_by : SynKind → Rows → Names → List ℕ → Place → List Token → Ahead → Answer Tree
  tagged_by kind row names tag at rest (mark_ahead LeftBrace at2 behind) = body_in kind row names tag at behind
  tagged_by kind row names tag at rest other = found (text_node kind tag at.start none) rest

  -- behind `struct` or `enum`
  unfoldable pub tag_by : SynKind → Rows → Names → Place → List Token → Ahead → Answer Tree
  tag_by kind row names at rest (word_ahead tag at2 behind) = if is_identifier tag then tagged_by kind row names tag at behind (ahead behind) else wrong rest
  tag_by kind row names at rest (mark_ahead LeftBrace at2 behind) = body_in kind row names [] at behind
  tag_by kind row names at rest other = wrong rest

  unfoldable pub specifier_by : Bool → Names → List Token → Ahead → Answer Tree
  specifier_by typed names ts (word_ahead text at rest) =
      if is_type_word text || is_storage_word text then fit 1 d rest (found (text_node kind.Word text at.start none) rest)
      else (if bytes_eq text (codes "struct") then fit 1 d rest (tag_by kind.StructSpec members names at rest (ahead rest))
      else (if bytes_eq text (codes "enum") then fit 1 d rest (tag_by kind.EnumSpec enumerators names at rest (ahead rest))
      else (if not typed && (is_identifier text && is_typedef_name names text) then fit 1 d rest (found (text_node kind.Word text at.start none) rest)
      else wrong ts)))
  specifier_by typed names ts other = wrong ts

  unfoldable pub specifier_in : Bool → Names → List Token → Answer Tree
  specifier_in typed names ts = specifier_by typed names ts (ahead ts)

  -- k is more than the tokens
  unfoldable pub specifier_list_in : ℕ → Bool → Names → List Token → Answer Forest
  specifier_list_in zero typed names ts = wrong ts
  specifier_list_in (suc k) typed names ts = and_then (specifier_in typed names ts) (λ t rest.
      if begins_specifier (typed || says_type t) (after names t) rest then
      and_then (specifier_list_in k (typed || says_type t) (after names t) rest) (λ more end. found (t then more) end)
      else found (one t) rest)

  unfoldable pub specifiers_in : Names → List Token → Answer Tree
  specifiers_in names ts = and_then (lower d (specifier_list_in (suc (length ts)) false names ts) (r.trees_of (specifier_list false) names ts))
      (λ more end. found (plain_node kind.Specs (first_start more) more) end)

  -- specs in front of another part
  unfoldable pub specs_first : Names → List Token → Answer Tree
  specs_first names ts = lower d (specifiers_in names ts) (r.tree_of specifiers names ts)

  unfoldable pub parameters_in : Names → Tree → List Token → (Tree → List Token → Answer Tree) → Answer Tree
  parameters_in names x rest go = and_then (r.trees_of parameters (opened (after names x)) rest) (λ ts behind.
      expect RightParenthesis behind (λ end. go (plain_node kind.Takes (start x) (x then ts)) end))

  -- the word `void` before the tokens ts stands alone, or goes on with ts to a parameter of height 3
  unfoldable pub void_in : Names → Tree → List Token → List Token → (Tree → List Token → Answer Tree) → Answer Tree
  void_in names x rest ts go =
      if begins_with_mark RightParenthesis ts then go (plain_node kind.Takes (start x) (one x)) (behind_one ts)
      else (if goes_on_behind_void ts then fit 4 d (behind_one ts) (parameters_in names x rest go)
      else wrong ts)

  -- the parameters behind `(`
  unfoldable pub takes_in : Names → Tree → List Token → (Tree → List Token → Answer Tree) → Answer Tree
  takes_in names x rest go =
      if begins_with_mark RightParenthesis rest then go (plain_node kind.Takes (start x) (one x)) (behind_one rest)
      else (if begins_with_word (codes "void") rest then void_in names x rest (behind_one rest) go
      else parameters_in names x rest go)

  unfoldable pub declared_suffix_by : Names → Tree → List Token → (Tree → List Token → Answer Tree) → Ahead → Answer Tree
  declared_suffix_by names x ts go (mark_ahead LeftBracket at rest) = fit (suc (height x)) d rest (
      and_then (r.trees_of optional_length (after_any names x) rest) (λ n behind.
      expect RightBracket behind (λ end. go (plain_node kind.ArrayOf (start x) (x then n)) end)))
  declared_suffix_by names x ts go (mark_ahead LeftParenthesis at rest) = if is_named (one x) then fit (suc (height x)) d rest (takes_in names x rest go) else found x ts
  declared_suffix_by names x ts go other = found x ts

  unfoldable pub declared_suffixes : ℕ → Names → Tree → List Token → Answer Tree
  declared_suffixes zero names x ts = declared_suffix_by names x ts (λ y rest. deep rest) (ahead ts)
  declared_suffixes (suc k) names x ts = declared_suffix_by names x ts (declared_suffixes k names) (ahead ts)

  unfoldable pub undeclared_in : Mode → Names → List Token → Answer Tree
  undeclared_in mode names ts = if needs_name mode then wrong ts else if_any d ts (declared_suffixes d names (no_name ts) ts)

  unfoldable pub declared_by : Mode → Names → List Token → Ahead → Answer Tree
  declared_by mode names ts (mark_ahead Star at rest) = fit 2 d rest (
      and_then (r.tree_of (declared mode) names (behind_const rest)) (λ x end. found (plain_node kind.Pointer at.start (one x)) end))
  declared_by mode names ts (mark_ahead LeftParenthesis at rest) = fit 2 d rest (
      and_then (r.tree_of (declared mode) names rest) (λ x behind.
      if is_absent_by x.label.kind then wrong behind else
      expect RightParenthesis behind (declared_suffixes d names (plain_node kind.Paren at.start (one x)))))
  declared_by mode names ts (word_ahead text at rest) = if is_identifier text && has_name mode then
      fit 1 d rest (declared_suffixes d names (text_node kind.Ident text at.start none) rest)
      else undeclared_in mode names ts
  declared_by mode names ts other = undeclared_in mode names ts

  unfoldable pub declared_in : Mode → Names → List Token → Answer Tree
  declared_in mode names ts = declared_by mode names ts (ahead ts)

  unfoldable pub parameter_in : Names → List Token → Answer Tree
  parameter_in names ts = and_then (specs_first names ts) (λ s rest.
      and_then (r.tree_of (declared either) (after names s) rest) (λ x end. found (plain_node kind.Param (start s) (two s x)) end))

  unfoldable pub type_name_in : Names → List Token → Answer Tree
  type_name_in names ts = and_then (specs_first names ts) (λ s rest.
      and_then (r.tree_of (declared unnamed) (after names s) rest) (λ x end. found (plain_node kind.TypeName (start s) (two s x)) end))

  unfoldable pub member_in : Names → List Token → Answer Tree
  member_in names ts = and_then (specs_first names ts) (λ s rest.
      and_then (r.trees_of declarators (after names s) rest) (λ xs behind.
      expect Semicolon behind (λ end. found (plain_node kind.Member (start s) (s then xs)) end)))

  unfoldable pub value_by : Names → List ℕ → Place → List Token → Ahead → Answer Tree
  value_by names text at ts (mark_ahead Equal at2 rest) = fit 2 d rest (
      and_then (r.tree_of conditional names rest) (λ x end. found (text_node kind.Enumer text at.start (one x)) end))
  value_by names text at ts other = found (text_node kind.Enumer text at.start none) ts

  unfoldable pub enumerator_by : Names → List Token → Ahead → Answer Tree
  enumerator_by names ts (word_ahead text at rest) = if is_identifier text then fit 1 d rest (value_by names text at rest (ahead rest)) else wrong ts
  enumerator_by names ts other = wrong ts

  unfoldable pub enumerator_in : Names → List Token → Answer Tree
  enumerator_in names ts = enumerator_by names ts (ahead ts)

  -- ---- declarations

  unfoldable pub initializer_by : Names → List Token → Ahead → Answer Tree
  initializer_by names ts (mark_ahead LeftBrace at rest) = fit 2 d rest (
      and_then (r.trees_of initializers names rest) (λ xs behind.
      expect RightBrace behind (λ end. found (plain_node kind.Braces at.start xs) end)))
  initializer_by names ts other = assignment_in names ts

  unfoldable pub initializer_in : Names → List Token → Answer Tree
  initializer_in names ts = initializer_by names ts (ahead ts)

  unfoldable pub initialized_by : Bool → Names → Tree → List Token → Ahead → Answer Tree
  initialized_by is_typedef names x ts (mark_ahead Equal at rest) =
      and_then (r.tree_of initializer (after_declarator names is_typedef x) rest) (λ y end. found (plain_node kind.InitDecl (start x) (two x y)) end)
  initialized_by is_typedef names x ts other = found (plain_node kind.InitDecl (start x) (one x)) ts

  unfoldable pub init_declarator_in : Bool → Names → List Token → Answer Tree
  init_declarator_in is_typedef names ts = and_then (lower d (declared_in named names ts) (r.tree_of (declared named) names ts)) (λ x rest.
      initialized_by is_typedef names x rest (ahead rest))

  -- an initialized declarator from behind its declarator x, which was read within the same budget
  unfoldable pub init_behind_by : Bool → Names → Tree → List Token → Ahead → Answer Tree
  init_behind_by is_typedef names x ts (mark_ahead Equal at rest) = fit (suc (height x)) d rest (
      and_then (r.tree_of initializer (after_declarator names is_typedef x) rest) (λ y end. found (plain_node kind.InitDecl (start x) (two x y)) end))
  init_behind_by is_typedef names x ts (mark_ahead Comma at rest) = fit (suc (height x)) d rest (found (plain_node kind.InitDecl (start x) (one x)) ts)
  init_behind_by is_typedef names x ts (mark_ahead Semicolon at rest) = fit (suc (height x)) d rest (found (plain_node kind.InitDecl (start x) (one x)) ts)
  init_behind_by is_typedef names x ts next = wrong ts

  unfoldable pub init_behind_in : Bool → Tree → Names → List Token → Answer Tree
  init_behind_in is_typedef x names ts = init_behind_by is_typedef names x ts (ahead ts)

  -- behind specs
  unfoldable pub declaration_behind : Names → Tree → List Token → Answer Tree
  declaration_behind names s ts = if begins_with_mark Semicolon ts then found (plain_node kind.Declaration (start s) (one s)) (behind_one ts)
      else and_then (r.trees_of (init_declarators (says_typedef (one s))) (after names s) ts) (λ xs behind.
      expect Semicolon behind (λ end. found (plain_node kind.Declaration (start s) (s then xs)) end))

  unfoldable pub declaration_in : Names → List Token → Answer Tree
  declaration_in names ts = and_then (specs_first names ts) (declaration_behind names)

  -- a declaration behind its specs and its first declarator
  unfoldable pub declaration_from : Names → Tree → Tree → List Token → Answer Tree
  declaration_from names s x ts = and_then (r.trees_of (init_declarators_behind (says_typedef (one s)) x) (after names s) ts) (λ xs behind.
      expect Semicolon behind (λ end. found (plain_node kind.Declaration (start s) (s then xs)) end))

  -- the body of a function, or what goes on with a declaration
  unfoldable pub function_by : Names → Tree → Tree → List Token → Ahead → Answer Tree
  function_by names s x ts (mark_ahead LeftBrace at rest) = and_then (r.tree_of body (in_body names s x) ts) (λ b end.
      found (plain_node kind.Function (start s) (three s x b)) end)
  function_by names s x ts next = declaration_from names s x ts

  unfoldable pub external_in : Names → List Token → Answer Tree
  external_in names ts = and_then (specs_first names ts) (λ s rest.
      if begins_with_mark Semicolon rest then found (plain_node kind.Declaration (start s) (one s)) (behind_one rest)
      else and_then (r.tree_of (declared named) (after names s) rest) (λ x behind. function_by names s x behind (ahead behind)))

  -- ---- statements

  unfoldable pub body_by : Names → List Token → Ahead → Answer Tree
  body_by names ts (mark_ahead LeftBrace at rest) = fit 1 d rest (
      and_then (r.trees_of block_items names rest) (λ items behind.
      expect RightBrace behind (λ end. found (plain_node kind.Block at.start items) end)))
  body_by names ts other = wrong ts

  unfoldable pub optional_expression_in : Names → List Token → Answer Tree
  optional_expression_in names ts = if begins_with_mark Semicolon ts || begins_with_mark RightParenthesis ts then if_any d ts (found (plain_node kind.Empty (start_of ts) none) ts)
      else expression_in names ts

  -- an expression in parentheses, and then
  unfoldable pub in_parentheses_then : Names → List Token → (Tree → List Token → Answer Tree) → Answer Tree
  in_parentheses_then names ts go = expect LeftParenthesis ts (λ rest.
      and_then (r.tree_of expression names rest) (λ x behind.
      expect RightParenthesis behind (go x)))

  unfoldable pub if_in : Names → Place → List Token → Answer Tree
  if_in names at ts = in_parentheses_then names ts (λ x behind.
      and_then (r.tree_of statement (after names x) behind) (λ s end.
      if begins_with_word (codes "else") end && not (ends_open s) then
      and_then (r.tree_of statement (after (after names x) s) (behind_one end)) (λ t last. found (plain_node kind.If at.start (three x s t)) last)
      else found (plain_node kind.If at.start (two x s)) end))

  unfoldable pub while_in : Names → Place → List Token → Answer Tree
  while_in names at ts = in_parentheses_then names ts (λ x behind.
      and_then (r.tree_of statement (after names x) behind) (λ s end. found (plain_node kind.While at.start (two x s)) end))

  unfoldable pub do_in : Names → Place → List Token → Answer Tree
  do_in names at ts = and_then (r.tree_of statement names ts) (λ s behind.
      expect_word (codes "while") behind (λ behind2.
      in_parentheses_then (after names s) behind2 (λ x behind3.
      expect Semicolon behind3 (λ end. found (plain_node kind.Do at.start (two s x)) end))))

  -- behind the first part of `for`
  unfoldable pub for_behind : Names → Place → Tree → List Token → Answer Tree
  for_behind names at f ts = and_then (r.tree_of optional_expression (after names f) ts) (λ x behind.
      expect Semicolon behind (λ behind2.
      and_then (r.tree_of optional_expression (after (after names f) x) behind2) (λ y behind3.
      expect RightParenthesis behind3 (λ behind4.
      and_then (r.tree_of statement (after (after (after names f) x) y) behind4) (λ s end. found (plain_node kind.For at.start (f then three x y s)) end)))))

  unfoldable pub for_in : Names → Place → List Token → Answer Tree
  for_in names at ts = expect LeftParenthesis ts (λ rest.
      if begins_specifier false (opened names) rest then and_then (r.tree_of declaration (opened names) rest) (for_behind (opened names) at)
      else and_then (r.tree_of optional_expression (opened names) rest) (λ f behind. expect Semicolon behind (for_behind (opened names) at f)))

  unfoldable pub return_in : Names → Place → List Token → Answer Tree
  return_in names at ts = if begins_with_mark Semicolon ts then found (plain_node kind.Return at.start none) (behind_one ts)
      else and_then (r.tree_of expression names ts) (λ x behind.
      expect Semicolon behind (λ end. found (plain_node kind.Return at.start (one x)) end))

  unfoldable pub switch_in : Names → Place → List Token → Answer Tree
  switch_in names at ts = in_parentheses_then names ts (λ x behind.
      expect LeftBrace behind (λ behind2.
      and_then (r.trees_of groups (opened (after names x)) behind2) (λ items behind3.
      expect RightBrace behind3 (λ end. found (plain_node kind.Switch at.start (x then items)) end))))

  unfoldable pub expression_statement_in : Names → List Token → Answer Tree
  expression_statement_in names ts = and_then (lower d (expression_in names ts) (r.tree_of expression names ts)) (λ x behind.
      expect Semicolon behind (λ end. found (plain_node kind.ExprStmt (start x) (one x)) end))

  unfoldable pub keyword_by : Names → List Token → List ℕ → Place → List Token → Answer Tree
  keyword_by names ts text at rest =
      if bytes_eq text (codes "if") then fit 2 d rest (if_in names at rest)
      else (if bytes_eq text (codes "while") then fit 2 d rest (while_in names at rest)
      else (if bytes_eq text (codes "do") then fit 2 d rest (do_in names at rest)
      else (if bytes_eq text (codes "for") then fit 2 d rest (for_in names at rest)
      else (if bytes_eq text (codes "return") then fit 1 d rest (return_in names at rest)
      else (if bytes_eq text (codes "break") then fit 1 d rest (expect Semicolon rest (λ end. found (plain_node kind.Break at.start none) end))
      else (if bytes_eq text (codes "continue") then fit 1 d rest (expect Semicolon rest (λ end. found (plain_node kind.Continue at.start none) end))
      else (if bytes_eq text (codes "switch") then fit 2 d rest (switch_in names at rest)
      else expression_statement_in names ts)))))))

  unfoldable pub statement_by : Names → List Token → Ahead → Answer Tree
  statement_by names ts (mark_ahead LeftBrace at rest) = body_by (opened names) ts (mark_ahead LeftBrace at rest)
  statement_by names ts (mark_ahead Semicolon at rest) = fit 1 d rest (found (plain_node kind.Empty at.start none) rest)
  statement_by names ts (word_ahead text at rest) = keyword_by names ts text at rest
  statement_by names ts other = expression_statement_in names ts

  unfoldable pub statement_in : Names → List Token → Answer Tree
  statement_in names ts = statement_by names ts (ahead ts)

  -- a label of a `switch`
  unfoldable pub label_by : Names → List Token → Ahead → Answer Tree
  label_by names ts (word_ahead text at rest) =
      if bytes_eq text (codes "case") then fit 2 d rest (
      and_then (r.tree_of conditional names rest) (λ x behind.
      expect Colon behind (λ end. found (plain_node kind.Case at.start (one x)) end)))
      else (if bytes_eq text (codes "default") then fit 1 d rest (expect Colon rest (λ end. found (plain_node kind.Default at.start none) end))
      else wrong ts)
  label_by names ts other = wrong ts

  unfoldable pub label_in : Names → List Token → Answer Tree
  label_in names ts = label_by names ts (ahead ts)

  -- ---- all goals

  unfoldable pub goal_in : Goal → Names → List Token → Answer Tree
  goal_in external names ts = external_in names ts
  goal_in declaration names ts = declaration_in names ts
  goal_in (init_declarator is_typedef) names ts = init_declarator_in is_typedef names ts
  goal_in (init_behind is_typedef x) names ts = init_behind_in is_typedef x names ts
  goal_in initializer names ts = initializer_in names ts
  goal_in specifiers names ts = specifiers_in names ts
  goal_in (specifier typed) names ts = specifier_in typed names ts
  goal_in member names ts = member_in names ts
  goal_in enumerator names ts = enumerator_in names ts
  goal_in (declared mode) names ts = declared_in mode names ts
  goal_in parameter names ts = parameter_in names ts
  goal_in type_name names ts = type_name_in names ts
  goal_in body names ts = body_by names ts (ahead ts)
  goal_in statement names ts = statement_in names ts
  goal_in optional_expression names ts = optional_expression_in names ts
  goal_in expression names ts = expression_in names ts
  goal_in assignment names ts = assignment_in names ts
  goal_in conditional names ts = conditional_in names ts
  goal_in (binary n) names ts = binary_in n names ts
  goal_in cast names ts = cast_in names ts
  goal_in unary names ts = unary_in names ts

  -- ---- rows; k is more than the tokens

  -- one tree after another, with a comma between
  unfoldable pub listed : (Names → List Token → Answer Tree) → (Names → Tree → Names) → ℕ → Names → List Token → Answer Forest
  listed item next zero names ts = wrong ts
  listed item next (suc k) names ts = and_then (item names ts) (λ t rest.
      if begins_with_mark Comma rest then and_then (listed item next k (next names t) (behind_one rest)) (λ more end. found (t then more) end)
      else found (one t) rest)

  -- the same, where a comma may stand before the brace at the end
  unfoldable pub listed_in_braces : (Names → List Token → Answer Tree) → ℕ → Names → List Token → Answer Forest
  listed_in_braces item zero names ts = wrong ts
  listed_in_braces item (suc k) names ts = and_then (item names ts) (λ t rest.
      if begins_with_mark Comma rest then
      (if begins_with_mark RightBrace (behind_one rest) then found (one t) (behind_one rest)
      else and_then (listed_in_braces item k (after names t) (behind_one rest)) (λ more end. found (t then more) end))
      else found (one t) rest)

  unfoldable pub members_in : ℕ → Names → List Token → Answer Forest
  members_in zero names ts = wrong ts
  members_in (suc k) names ts = and_then (member_in names ts) (λ t rest.
      if begins_specifier false (after names t) rest then and_then (members_in k (after names t) rest) (λ more end. found (t then more) end)
      else found (one t) rest)

  unfoldable pub items_in : ℕ → Names → List Token → Answer Forest
  items_in zero names ts = wrong ts
  items_in (suc k) names ts = if begins_with_mark RightBrace ts then found none ts
      else and_then (if begins_specifier false names ts then declaration_in names ts else statement_in names ts) (λ t rest.
      and_then (items_in k (after names t) rest) (λ more end. found (t then more) end))

  -- a label or a statement among the groups of a `switch`
  unfoldable pub group_item_in : Names → List Token → Answer Tree
  group_item_in names ts = if begins_label ts then label_in names ts else statement_in names ts

  unfoldable pub groups_in : ℕ → Standing → Names → List Token → Answer Forest
  groups_in zero standing names ts = wrong ts
  groups_in (suc k) standing names ts = if ends_groups standing ts then found none ts
      else and_then (group_item_in names ts) (λ t rest.
      and_then (groups_in k (standing_behind ts) (after names t) rest) (λ more end. found (t then more) end))

  unfoldable pub externals_by : Tree → List Token → Answer Forest → Answer Forest
  externals_by t [] deeper = found (one t) []
  externals_by t (next ∷ rest) deeper = and_then deeper (λ more end. found (t then more) end)

  unfoldable pub externals_in : ℕ → Names → List Token → Answer Forest
  externals_in zero names ts = wrong ts
  externals_in (suc k) names ts = and_then (external_in names ts) (λ t rest. externals_by t rest (externals_in k (after names t) rest))

  unfoldable pub arguments_in : Names → List Token → Answer Forest
  arguments_in names ts = if begins_with_mark RightParenthesis ts then found none ts else listed assignment_in after (suc (length ts)) names ts

  unfoldable pub length_in : Names → List Token → Answer Forest
  length_in names ts = if begins_with_mark RightBracket ts then found none ts else and_then (conditional_in names ts) (λ x end. found (one x) end)

  unfoldable pub declarators_behind : Bool → Tree → Names → List Token → Answer Forest
  declarators_behind is_typedef x names ts = and_then (init_behind_in is_typedef x names ts) (λ t rest.
      if begins_with_mark Comma rest then
      and_then (listed (init_declarator_in is_typedef) (λ ns t. add ns (entries_behind is_typedef (one t))) (suc (length rest)) (add names (entries_behind is_typedef (one t))) (behind_one rest)) (λ more end. found (t then more) end)
      else found (one t) rest)

  unfoldable pub rows_in : Rows → Names → List Token → Answer Forest
  rows_in externals names ts = externals_in (suc (length ts)) names ts
  rows_in (init_declarators is_typedef) names ts = listed (init_declarator_in is_typedef) (λ ns t. add ns (entries_behind is_typedef (one t))) (suc (length ts)) names ts
  rows_in (init_declarators_behind is_typedef x) names ts = declarators_behind is_typedef x names ts
  rows_in initializers names ts = listed_in_braces initializer_in (suc (length ts)) names ts
  rows_in (specifier_list typed) names ts = specifier_list_in (suc (length ts)) typed names ts
  rows_in members names ts = members_in (suc (length ts)) names ts
  rows_in declarators names ts = listed (declared_in named) after (suc (length ts)) names ts
  rows_in enumerators names ts = listed_in_braces enumerator_in (suc (length ts)) names ts
  rows_in parameters names ts = listed parameter_in after_parameter (suc (length ts)) names ts
  rows_in block_items names ts = items_in (suc (length ts)) names ts
  rows_in groups names ts = groups_in (suc (length ts)) at_first names ts
  rows_in arguments names ts = arguments_in names ts
  rows_in optional_length names ts = length_in names ts

-- ---- by the budget

unfoldable pub level : ℕ → Reader → Reader
level d r = record { tree_of = goal_in d r; trees_of = rows_in d r }

-- there is no lower budget than 0
abbrev pub no_reader : Reader
no_reader = record { tree_of = λ goal names ts. wrong ts; trees_of = λ row names ts. wrong ts }

unfoldable pub read : ℕ → Reader
read zero = level zero no_reader
read (suc d) = level (suc d) (read d)

-- what reads within the next lower budget
abbrev pub below : ℕ → Reader
below zero = no_reader
below (suc d) = read d

-- the tree of a unit, within a budget
unfoldable pub read_unit : ℕ → List Token → Answer Tree
read_unit zero ts = and_then ((read zero).trees_of externals (opened []) ts) (λ more end. deep end)
read_unit (suc d) ts = and_then ((read d).trees_of externals (opened []) ts) (λ more end. found (plain_node kind.Unit (first_start more) more) end)
