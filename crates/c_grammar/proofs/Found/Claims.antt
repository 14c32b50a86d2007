-- What a derivation says of the reading of the same tokens, at every budget, where the tokens behind are such that no longer
-- part stands there.
use Rattle.std.proofs.Common.{◌≡◌, ℕ, zero, suc, ◌<◌, Bool, true, false, List, [], length}
use Rattle.std.specs.Prelude.{◌==◌, ◌||◌, ◌&&◌, not, nat_lt, codes}
use Rattle.c_lexer.specs.declared.token.Punct.TheVariants.{LeftBracket, RightBracket, LeftParenthesis, RightParenthesis, LeftBrace, RightBrace, Dot, Arrow, PlusPlus, MinusMinus, Question, Colon, Semicolon, Comma}
use Rattle.c_lexer.specs.declared.token.Token.{Token}
use Rattle.c_syntax.specs.Trees.{Tree, Forest, one, height, forest_height}
use Rattle.c_grammar.specs.Vocabulary.{level_of, is_assignment}
use Rattle.c_grammar.specs.Scopes.{Names, opened, after, after_parameter, add, entries_behind}
use Rattle.c_grammar.specs.Derivation.{Part, Row, ends_open}
use Rattle.c_grammar.specs.Answers.{Answer, Ahead, mark_ahead, string_ahead, ahead}
use Rattle.c_grammar.specs.Reading.{named, unnamed, either, begins_with_mark, begins_with_word, begins_specifier, is_named, is_absent_by, primary_by, postfix_in, suffixes, unary_in, cast_in, binary_in, operands, conditional_in, assignment_in, expression_in, commas, specifier_in, specifier_list_in, specifiers_in, declared_in, declared_suffixes, parameter_in, type_name_in, member_in, enumerator_in, initializer_in, init_declarator_in, declaration_in, external_in, body_by, statement_in, label_in, optional_expression_in, listed, listed_in_braces, members_in, items_in, groups_in, externals_in, arguments_in, length_in, below}
use Rattle.c_grammar.proofs.Budgets.{Finds, Chain}

-- ---- what may stand behind a part

-- no string
abbrev pub no_string_by : Ahead → Bool
no_string_by (string_ahead bytes at rest) = false
no_string_by other = true

abbrev pub no_string : List Token → Bool
no_string b = no_string_by (ahead b)

-- no suffix of an expression
abbrev pub no_suffix_by : Ahead → Bool
no_suffix_by (mark_ahead LeftBracket at rest) = false
no_suffix_by (mark_ahead LeftParenthesis at rest) = false
no_suffix_by (mark_ahead Dot at rest) = false
no_suffix_by (mark_ahead Arrow at rest) = false
no_suffix_by (mark_ahead PlusPlus at rest) = false
no_suffix_by (mark_ahead MinusMinus at rest) = false
no_suffix_by other = true

-- no string and no suffix
abbrev pub ends_postfix : List Token → Bool
ends_postfix b = no_string b && no_suffix_by (ahead b)

-- no operator up to this level
abbrev pub no_operator_by : ℕ → Ahead → Bool
no_operator_by n (mark_ahead op at rest) = level_of op == 0 || nat_lt n (level_of op)
no_operator_by n other = true

abbrev pub ends_binary : ℕ → List Token → Bool
ends_binary n b = ends_postfix b && no_operator_by n (ahead b)

abbrev pub ends_conditional : List Token → Bool
ends_conditional b = ends_binary 10 b && not (begins_with_mark Question b)

abbrev pub no_assignment_by : Ahead → Bool
no_assignment_by (mark_ahead op at rest) = not (is_assignment op)
no_assignment_by other = true

abbrev pub ends_assignment : List Token → Bool
ends_assignment b = ends_conditional b && no_assignment_by (ahead b)

abbrev pub ends_expression : List Token → Bool
ends_expression b = ends_assignment b && not (begins_with_mark Comma b)

-- no suffix of a declarator
abbrev pub ends_declarator : List Token → Bool
ends_declarator b = not (begins_with_mark LeftBracket b) && not (begins_with_mark LeftParenthesis b)

-- no word of specs, apart from typedef names, and no body of a struct
abbrev pub ends_specs : Names → List Token → Bool
ends_specs names b = not (begins_specifier true names b) && not (begins_with_mark LeftBrace b)

-- `,`, `)`, `]`, `}`, `;` or `:`
abbrev pub closes : List Token → Bool
closes b = begins_with_mark Comma b || (begins_with_mark RightParenthesis b || (begins_with_mark RightBracket b || (begins_with_mark RightBrace b || (begins_with_mark Semicolon b || begins_with_mark Colon b))))

abbrev pub Is : Bool → Type 0
Is b = b ≡ true

-- ---- parts

-- a type name in parentheses begins here
abbrev pub begins_type_by : Names → Ahead → Bool
begins_type_by names (mark_ahead LeftParenthesis at rest) = begins_specifier false names rest
begins_type_by names other = false

module _ (names : Names) (d : ℕ) (a b : List Token) (t : Tree) where
  -- unary expressions are read as casts
  pub record UnaryRead : Type 0 where
    pub finds : Finds (unary_in d (below d) names a) d (height t) t b
    pub casts : cast_in d (below d) names a ≡ unary_in d (below d) names a
    pub no_type : begins_type_by names (ahead a) ≡ false

  -- chains of suffixes, which are read as unary expressions and casts
  pub record PostfixRead : Type 0 where
    pub chain : Chain d (postfix_in d (below d) names a) (λ k. suffixes d (below d) k names) (height t) t b
    pub unaries : unary_in d (below d) names a ≡ postfix_in d (below d) names a
    pub casts : cast_in d (below d) names a ≡ unary_in d (below d) names a
    pub no_type : begins_type_by names (ahead a) ≡ false

  pub record PrimaryRead : Type 0 where
    pub finds : Finds (primary_by d (below d) names a (ahead a)) d (height t) t b
    pub unaries : unary_in d (below d) names a ≡ postfix_in d (below d) names a
    pub casts : cast_in d (below d) names a ≡ unary_in d (below d) names a
    pub no_type : begins_type_by names (ahead a) ≡ false

  -- declarators, with a name and without, in the modes that take them
  pub record DeclaratorRead : Type 0 where
    pub alone : Finds (declared_in d (below d) named names a) d (height t) t b
    pub also : Finds (declared_in d (below d) either names a) d (height t) t b
    pub name : Is (is_named (one t))

  pub record AbstractRead : Type 0 where
    pub alone : Finds (declared_in d (below d) unnamed names a) d (height t) t b
    pub also : Finds (declared_in d (below d) either names a) d (height t) t b
    pub name : is_named (one t) ≡ false
    pub there : is_absent_by t.label.kind ≡ false

  pub record DirectRead : Type 0 where
    pub alone : Chain d (declared_in d (below d) named names a) (λ k. declared_suffixes d (below d) k names) (height t) t b
    pub also : Chain d (declared_in d (below d) either names a) (λ k. declared_suffixes d (below d) k names) (height t) t b
    pub name : Is (is_named (one t))

  pub record DirectAbstractRead : Type 0 where
    pub alone : Chain d (declared_in d (below d) unnamed names a) (λ k. declared_suffixes d (below d) k names) (height t) t b
    pub also : Chain d (declared_in d (below d) either names a) (λ k. declared_suffixes d (below d) k names) (height t) t b
    pub name : is_named (one t) ≡ false
    pub there : is_absent_by t.label.kind ≡ false

-- what stands behind a statement: no `else`, where it could take one
abbrev pub ends_statement : Tree → List Token → Bool
ends_statement t b = not (ends_open t && begins_with_word (codes "else") b)

-- what the derivation of a part says
abbrev pub Complete : Names → Part → List Token → List Token → Tree → Type 0
Complete names Part.unit a b t = Unit {0}
Complete names Part.external a b t = (d : ℕ) → Finds (external_in d (below d) names a) d (height t) t b
Complete names Part.declaration a b t = (d : ℕ) → Finds (declaration_in d (below d) names a) d (height t) t b
Complete names (Part.init_declarator is_typedef) a b t = Is (closes b) → (d : ℕ) → Finds (init_declarator_in d (below d) is_typedef names a) d (height t) t b
Complete names Part.initializer a b t = Is (closes b) → (d : ℕ) → Finds (initializer_in d (below d) names a) d (height t) t b
Complete names Part.specifiers a b t = Is (ends_specs names b) → (d : ℕ) → Finds (specifiers_in d (below d) names a) d (height t) t b
Complete names (Part.specifier typed) a b t = begins_with_mark LeftBrace b ≡ false → (d : ℕ) → Finds (specifier_in d (below d) typed names a) d (height t) t b
Complete names Part.struct_specifier a b t = begins_with_mark LeftBrace b ≡ false → (typed : Bool) (d : ℕ) → Finds (specifier_in d (below d) typed names a) d (height t) t b
Complete names Part.enum_specifier a b t = begins_with_mark LeftBrace b ≡ false → (typed : Bool) (d : ℕ) → Finds (specifier_in d (below d) typed names a) d (height t) t b
Complete names Part.member a b t = (d : ℕ) → Finds (member_in d (below d) names a) d (height t) t b
Complete names Part.enumerator a b t = Is (closes b) → (d : ℕ) → Finds (enumerator_in d (below d) names a) d (height t) t b
Complete names Part.declarator a b t = Is (ends_declarator b) → (d : ℕ) → DeclaratorRead names d a b t
Complete names Part.direct_declarator a b t = (d : ℕ) → DirectRead names d a b t
Complete names Part.parameter a b t = Is (closes b) → (d : ℕ) → Finds (parameter_in d (below d) names a) d (height t) t b
Complete names Part.type_name a b t = Is (closes b) → (d : ℕ) → Finds (type_name_in d (below d) names a) d (height t) t b
Complete names Part.abstract_declarator a b t = Is (closes b) → (d : ℕ) → AbstractRead names d a b t
Complete names Part.direct_abstract a b t = (d : ℕ) → DirectAbstractRead names d a b t
Complete names Part.block a b t = (d : ℕ) → Finds (body_by d (below d) (opened names) a (ahead a)) d (height t) t b
Complete names Part.statement a b t = Is (ends_statement t b) → (d : ℕ) → Finds (statement_in d (below d) names a) d (height t) t b
Complete names Part.switch_label a b t = (d : ℕ) → Finds (label_in d (below d) names a) d (height t) t b
Complete names Part.optional_expression a b t = Is (begins_with_mark Semicolon b || begins_with_mark RightParenthesis b) → (d : ℕ) → Finds (optional_expression_in d (below d) names a) d (height t) t b
Complete names Part.expression a b t = Is (ends_assignment b) → (d : ℕ) → Chain d (expression_in d (below d) names a) (λ k. commas d (below d) k names) (height t) t b
Complete names Part.assignment a b t = Is (ends_assignment b) → (d : ℕ) → Finds (assignment_in d (below d) names a) d (height t) t b
Complete names Part.conditional a b t = Is (ends_conditional b) → (d : ℕ) → Finds (conditional_in d (below d) names a) d (height t) t b
Complete names (Part.binary zero) a b t = Is (ends_postfix b) → (d : ℕ) → Finds (binary_in d (below d) zero names a) d (height t) t b
Complete names (Part.binary (suc n)) a b t = Is (ends_binary n b) → (d : ℕ) → Chain d (binary_in d (below d) (suc n) names a) (λ k. operands d (below d) k n names) (height t) t b
Complete names Part.cast a b t = Is (ends_postfix b) → (d : ℕ) → Finds (cast_in d (below d) names a) d (height t) t b
Complete names Part.unary a b t = Is (ends_postfix b) → (d : ℕ) → UnaryRead names d a b t
Complete names Part.postfix a b t = Is (no_string b) → (d : ℕ) → PostfixRead names d a b t
Complete names Part.primary a b t = Is (no_string b) → (d : ℕ) → PrimaryRead names d a b t

-- the reading of a list may have any counter that is more than the tokens
abbrev pub Counted : (ℕ → Answer Forest) → List Token → ℕ → Forest → List Token → Type 0
Counted reading a d ts b = (k : ℕ) → length a < k → Finds (reading k) d (forest_height ts) ts b

-- what the derivation of a row says
abbrev pub CompleteRow : Names → Row → List Token → List Token → Forest → Type 0
CompleteRow names Row.externals a b ts = b ≡ [] → (d : ℕ) → Counted (λ k. externals_in d (below d) k names a) a d ts b
CompleteRow names (Row.init_declarators is_typedef) a b ts = Is (begins_with_mark Semicolon b)
    → (d : ℕ) → Counted (λ k. listed d (below d) (init_declarator_in d (below d) is_typedef) (λ ns t. add ns (entries_behind is_typedef (one t))) k names a) a d ts b
CompleteRow names Row.initializers a b ts = Is (begins_with_mark RightBrace b) → (d : ℕ) → Counted (λ k. listed_in_braces d (below d) (initializer_in d (below d)) k names a) a d ts b
CompleteRow names (Row.specifier_list typed) a b ts = Is (ends_specs names b) → (d : ℕ) → Counted (λ k. specifier_list_in d (below d) k typed names a) a d ts b
CompleteRow names Row.members a b ts = Is (begins_with_mark RightBrace b) → (d : ℕ) → Counted (λ k. members_in d (below d) k names a) a d ts b
CompleteRow names Row.declarators a b ts = Is (begins_with_mark Semicolon b) → (d : ℕ) → Counted (λ k. listed d (below d) (declared_in d (below d) named) after k names a) a d ts b
CompleteRow names Row.enumerators a b ts = Is (begins_with_mark RightBrace b) → (d : ℕ) → Counted (λ k. listed_in_braces d (below d) (enumerator_in d (below d)) k names a) a d ts b
CompleteRow names Row.parameters a b ts = Is (begins_with_mark RightParenthesis b) → (d : ℕ) → Counted (λ k. listed d (below d) (parameter_in d (below d)) after_parameter k names a) a d ts b
CompleteRow names Row.block_items a b ts = Is (begins_with_mark RightBrace b) → (d : ℕ) → Counted (λ k. items_in d (below d) k names a) a d ts b
CompleteRow names (Row.groups standing) a b ts = Is (begins_with_mark RightBrace b) → (d : ℕ) → Counted (λ k. groups_in d (below d) k standing names a) a d ts b
CompleteRow names Row.arguments a b ts = Is (begins_with_mark RightParenthesis b) → (d : ℕ) → Finds (arguments_in d (below d) names a) d (forest_height ts) ts b
CompleteRow names Row.argument_list a b ts = Is (begins_with_mark RightParenthesis b) → (d : ℕ) → Counted (λ k. listed d (below d) (assignment_in d (below d)) after k names a) a d ts b
CompleteRow names Row.optional_length a b ts = Is (begins_with_mark RightBracket b) → (d : ℕ) → Finds (length_in d (below d) names a) d (forest_height ts) ts b
