-- The kids of nodes that have a fixed number of them, by the table of shapes.
use Rattle.std.proofs.Common.{◌≡◌, ℕ, Bool, true, false, List, [], ◌∷◌, refl, sym, true≢false}
use Rattle.std.specs.Prelude.{get_or, if◌then◌else◌}
use Rattle.c_syntax.specs.declared.kind.SynKind.TheVariants as kind
use Rattle.c_typing.specs.Shapes as category
use Rattle.c_typing.specs.Shapes.{Category, no_category, is_within, is_right_operand, is_operand, is_increment, is_expression, is_optional_expression, is_first_clause, is_init_declarator, is_initializer, is_member, is_enumerator, is_parameter, are_specifiers, are_groups, one_or_more, is_statement, is_block_item, is_any_declarator, is_abstract, is_declarator, at_most_one, kids_fit, declarator_over, in_parentheses, is_in_parentheses, word_category, category_by}
use Rattle.c_typing.proofs.ProgressForms.{is_some_expression, is_code, is_part, split}

no : {A : Type 0} → false ≡ true → A
no e = absurd (true≢false (sym e))

-- ---- classes

pub within : (n : ℕ) (c : Category) → is_within n c ≡ true → is_some_expression c ≡ true
unfolding is_within
within n (category.expression level) e = refl
within n _ e = e

pub right : (text : List ℕ) (c : Category) → is_right_operand text c ≡ true → is_some_expression c ≡ true
right text (category.expression level) e = refl
right text _ e = e

pub operand : (text : List ℕ) (c : Category) → is_operand text c ≡ true → is_some_expression c ≡ true
unfolding is_within
operand text c e = by (is_increment text) e
  where
    by : (b : Bool) → (if b then is_within 2 c else is_within 3 c) ≡ true → is_some_expression c ≡ true
    by true e = within 2 c e
    by false e = within 3 c e

pub statement : (c : Category) → is_statement c ≡ true → is_code c ≡ true
statement category.block e = refl
statement category.empty e = refl
statement category.statement e = refl
statement _ e = no e

pub item : (c : Category) → is_block_item c ≡ true → is_code c ≡ true
item category.declaration e = refl
item category.block e = refl
item category.empty e = refl
item category.statement e = refl
item _ e = no e

pub part : (c : Category) → is_any_declarator c ≡ true → is_part c ≡ true
part category.declarator e = refl
part category.abstract_declarator e = refl
part category.no_name e = refl
part _ e = no e

pub abstract : (c : Category) → is_abstract c ≡ true → is_part c ≡ true
abstract category.abstract_declarator e = refl
abstract category.no_name e = refl
abstract _ e = no e

-- ---- the kids that are expressions, by their places

abbrev pub Operand : List Category → ℕ → Type 0
Operand cs i = is_some_expression (get_or cs i no_category) ≡ true

abbrev pub Code : List Category → ℕ → Type 0
Code cs i = is_code (get_or cs i no_category) ≡ true

pub of_unary : (text : List ℕ) (cs : List Category) → kids_fit kind.Unary text cs ≡ true → Operand cs 0
unfolding kids_fit
of_unary text (c ∷ []) e = operand text c e
of_unary text _ e = no e

pub of_post : (text : List ℕ) (cs : List Category) → kids_fit kind.Post text cs ≡ true → Operand cs 0
unfolding kids_fit
of_post text (c ∷ []) e = within 1 c e
of_post text _ e = no e

pub of_binary : (text : List ℕ) (cs : List Category) → kids_fit kind.Binary text cs ≡ true → Operand cs 0 × Operand cs 1
unfolding kids_fit
of_binary text (c ∷ d ∷ []) e = let es = split e in (within _ c es.0, right text d es.1)
of_binary text _ e = no e

pub of_assign : (text : List ℕ) (cs : List Category) → kids_fit kind.Assign text cs ≡ true → Operand cs 0 × Operand cs 1
unfolding kids_fit
of_assign text (c ∷ d ∷ []) e = let es = split e in (within 2 c es.0, within 15 d es.1)
of_assign text _ e = no e

pub of_cond : (text : List ℕ) (cs : List Category) → kids_fit kind.Cond text cs ≡ true → Operand cs 0 × Operand cs 1 × Operand cs 2
unfolding kids_fit
of_cond text (c ∷ d ∷ f ∷ []) e = let es = split e in let fs = split es.1 in (within 13 c es.0, within 16 d fs.0, within 14 f fs.1)
of_cond text _ e = no e

pub of_comma : (text : List ℕ) (cs : List Category) → kids_fit kind.Comma text cs ≡ true → Operand cs 0 × Operand cs 1
unfolding kids_fit
of_comma text (c ∷ d ∷ []) e = let es = split e in (within 16 c es.0, within 15 d es.1)
of_comma text _ e = no e

pub of_index : (text : List ℕ) (cs : List Category) → kids_fit kind.Index text cs ≡ true → Operand cs 0 × Operand cs 1
unfolding kids_fit
of_index text (c ∷ d ∷ []) e = let es = split e in (within 1 c es.0, within 16 d es.1)
of_index text _ e = no e

pub of_dot : (text : List ℕ) (cs : List Category) → kids_fit kind.Dot text cs ≡ true → Operand cs 0
unfolding kids_fit
of_dot text (c ∷ []) e = within 1 c e
of_dot text _ e = no e

pub of_arrow : (text : List ℕ) (cs : List Category) → kids_fit kind.Arrow text cs ≡ true → Operand cs 0
unfolding kids_fit
of_arrow text (c ∷ []) e = within 1 c e
of_arrow text _ e = no e

pub of_cast : (text : List ℕ) (cs : List Category) → kids_fit kind.Cast text cs ≡ true → (get_or cs 0 no_category ≡ category.type_name) × Operand cs 1
unfolding kids_fit
of_cast text (category.type_name ∷ d ∷ []) e = (refl, within 3 d e)
of_cast text _ e = no e

pub of_size_expression : (text : List ℕ) (cs : List Category) → kids_fit kind.SizeExpr text cs ≡ true → Operand cs 0
unfolding kids_fit
of_size_expression text (c ∷ []) e = within 2 c e
of_size_expression text _ e = no e

pub of_size_type : (text : List ℕ) (cs : List Category) → kids_fit kind.SizeType text cs ≡ true → get_or cs 0 no_category ≡ category.type_name
unfolding kids_fit
of_size_type text (category.type_name ∷ []) e = refl
of_size_type text _ e = no e

-- ---- statements

pub of_expression_statement : (text : List ℕ) (cs : List Category) → kids_fit kind.ExprStmt text cs ≡ true → Operand cs 0
unfolding kids_fit
of_expression_statement text (c ∷ []) e = within 16 c e
of_expression_statement text _ e = no e

pub of_while : (text : List ℕ) (cs : List Category) → kids_fit kind.While text cs ≡ true → Operand cs 0 × Code cs 1
unfolding kids_fit
of_while text (c ∷ d ∷ []) e = let es = split e in (within 16 c es.0, statement d es.1)
of_while text _ e = no e

pub of_do : (text : List ℕ) (cs : List Category) → kids_fit kind.Do text cs ≡ true → Code cs 0 × Operand cs 1
unfolding kids_fit
of_do text (c ∷ d ∷ []) e = let es = split e in (statement c es.0, within 16 d es.1)
of_do text _ e = no e

pub of_case : (text : List ℕ) (cs : List Category) → kids_fit kind.Case text cs ≡ true → Operand cs 0
unfolding kids_fit
of_case text (c ∷ []) e = within 14 c e
of_case text _ e = no e

-- ---- declarators

pub of_pointer : (text : List ℕ) (cs : List Category) → kids_fit kind.Pointer text cs ≡ true → is_part (get_or cs 0 no_category) ≡ true
unfolding kids_fit
of_pointer text (c ∷ []) e = part c e
of_pointer text _ e = no e

pub of_parameter : (text : List ℕ) (cs : List Category) → kids_fit kind.Param text cs ≡ true → is_part (get_or cs 1 no_category) ≡ true
unfolding kids_fit
of_parameter text (category.specifiers ∷ c ∷ []) e = part c e
of_parameter text _ e = no e

pub of_type_name : (text : List ℕ) (cs : List Category) → kids_fit kind.TypeName text cs ≡ true → is_part (get_or cs 1 no_category) ≡ true
unfolding kids_fit
of_type_name text (category.specifiers ∷ c ∷ []) e = abstract c e
of_type_name text _ e = no e

pub of_function : (text : List ℕ) (cs : List Category) → kids_fit kind.Function text cs ≡ true
    → (get_or cs 0 no_category ≡ category.specifiers) × (get_or cs 1 no_category ≡ category.declarator) × (get_or cs 2 no_category ≡ category.block)
unfolding kids_fit
of_function text (category.specifiers ∷ category.declarator ∷ category.block ∷ []) e = (refl, refl, refl)
of_function text _ e = no e
