-- The kids that a node of each kind has, by the table of shapes.
use Rattle.std.proofs.Common.{◌≡◌, ℕ, Bool, true, false, ◌&&◌, not, List, [], ◌∷◌, refl, sym, true≢false, ◌⊎◌, inl, inr}
use Rattle.std.specs.Prelude.{get_or, if◌then◌else◌}
use Rattle.std.specs.List.{list_all}
use Rattle.c_syntax.specs.declared.kind.SynKind.{SynKind}
use Rattle.c_syntax.specs.declared.kind.SynKind.TheVariants as kind
use Rattle.c_typing.specs.Shapes as category
use Rattle.c_typing.specs.Shapes.{Category, no_category, is_within, is_right_operand, is_operand, is_increment, is_expression, is_optional_expression, is_first_clause, is_init_declarator, is_initializer, is_member, is_enumerator, is_parameter, are_specifiers, are_groups, one_or_more, is_statement, is_block_item, is_any_declarator, is_abstract, is_declarator, at_most_one, kids_fit, declarator_over, in_parentheses, is_in_parentheses, word_category, category_by}
use Rattle.c_grammar.specs.Vocabulary.{is_type_word, is_storage_word}
use Rattle.c_typing.proofs.ProgressForms.{is_some_expression, is_code, is_part, has_type, is_specifier, is_item, split}
use Rattle.c_typing.specs.Places.{is_declarator as is_declarator_kind}
use Rattle.c_typing.proofs.ShapesBase.{both}
use Rattle.c_grammar.specs.Derivation.{Standing, at_first, behind_label, behind_statement, is_labelled}
use Rattle.c_typing.proofs.ProgressShapes.{statement, item, part}
pub use Rattle.c_typing.proofs.ProgressShapes.{within, of_unary, of_post, of_binary, of_assign, of_cond, of_comma, of_index, of_dot, of_arrow, of_cast, of_size_expression, of_size_type, of_expression_statement, of_while, of_do, of_case, of_pointer, of_parameter, of_type_name, of_function, Operand, Code}

no : {A : Type 0} → false ≡ true → A
no e = absurd (true≢false (sym e))

-- ---- kids in a row

abbrev pub rest : List Category → List Category
rest [] = []
rest (c ∷ cs) = cs

pub each : (p q : Category → Bool) → ((c : Category) → p c ≡ true → q c ≡ true) → (cs : List Category) → list_all p cs ≡ true → list_all q cs ≡ true
each p q f [] e = refl
each p q f (c ∷ cs) e = let es = split e in both (f c es.0) (each p q f cs es.1)

some : (p q : Category → Bool) → ((c : Category) → p c ≡ true → q c ≡ true) → (cs : List Category) → one_or_more p cs ≡ true → list_all q cs ≡ true
some p q f [] e = refl
some p q f (c ∷ cs) e = each p q f (c ∷ cs) e

specifier : (typed : Bool) (cs : List Category) → are_specifiers typed cs ≡ true → list_all is_specifier cs ≡ true
unfolding are_specifiers
specifier typed [] e = refl
specifier typed (category.storage_word ∷ more) e = specifier typed more e
specifier typed (category.type_specifier ∷ more) e = specifier true more e
specifier false (category.typedef_name ∷ more) e = specifier true more e
specifier typed (_ ∷ more) e = no e

switch_items : (standing : Standing) (cs : List Category) → are_groups standing cs ≡ true → list_all is_item cs ≡ true
unfolding are_groups
switch_items standing [] e = refl
switch_items standing (category.switch_label ∷ more) e = switch_items behind_label more e
switch_items standing (category.block ∷ more) e = switch_items behind_statement more (split {p = is_labelled standing} e).1
switch_items standing (category.empty ∷ more) e = switch_items behind_statement more (split {p = is_labelled standing} e).1
switch_items standing (category.statement ∷ more) e = switch_items behind_statement more (split {p = is_labelled standing} e).1
switch_items standing (_ ∷ more) e = no (split {p = is_labelled standing} e).1

pub of_declaration : (text : List ℕ) (cs : List Category) → kids_fit kind.Declaration text cs ≡ true → (get_or cs 0 no_category ≡ category.specifiers) × (list_all is_init_declarator (rest cs) ≡ true)
unfolding kids_fit
of_declaration text (category.specifiers ∷ more) e = (refl, e)
of_declaration text _ e = no e

pub of_initializer : (text : List ℕ) (cs : List Category) → kids_fit kind.InitDecl text cs ≡ true → (get_or cs 0 no_category ≡ category.declarator) × (at_most_one is_initializer (rest cs) ≡ true)
unfolding kids_fit
of_initializer text (category.declarator ∷ more) e = (refl, e)
of_initializer text _ e = no e

pub of_specs : (text : List ℕ) (cs : List Category) → kids_fit kind.Specs text cs ≡ true → list_all is_specifier cs ≡ true
unfolding kids_fit
of_specs text (c ∷ more) e = specifier false (c ∷ more) e
of_specs text [] e = no e

pub of_struct : (text : List ℕ) (cs : List Category) → kids_fit kind.StructSpec text cs ≡ true → list_all is_member cs ≡ true
unfolding kids_fit
of_struct text cs e = e

pub of_enum : (text : List ℕ) (cs : List Category) → kids_fit kind.EnumSpec text cs ≡ true → list_all is_enumerator cs ≡ true
unfolding kids_fit
of_enum text cs e = e

optional : (p : Category → Bool) → ((c : Category) → p c ≡ true → is_some_expression c ≡ true) → (cs : List Category) → at_most_one p cs ≡ true → list_all is_some_expression cs ≡ true
optional p f [] e = refl
optional p f (c ∷ []) e = both (f c e) refl
optional p f (c ∷ d ∷ cs) e = no e

pub of_enumerator : (text : List ℕ) (cs : List Category) → kids_fit kind.Enumer text cs ≡ true → list_all is_some_expression cs ≡ true
unfolding kids_fit
of_enumerator text cs e = optional _ (within 14) cs e

pub of_return : (text : List ℕ) (cs : List Category) → kids_fit kind.Return text cs ≡ true → list_all is_some_expression cs ≡ true
unfolding kids_fit
of_return text cs e = optional _ (within 16) cs e

pub of_member : (text : List ℕ) (cs : List Category) → kids_fit kind.Member text cs ≡ true → list_all is_declarator (rest cs) ≡ true
unfolding kids_fit
of_member text (category.specifiers ∷ more) e = some is_declarator is_declarator (λ c e. e) more e
of_member text _ e = no e

pub of_takes : (text : List ℕ) (cs : List Category) → kids_fit kind.Takes text cs ≡ true → (is_part (get_or cs 0 no_category) ≡ true) × (list_all is_parameter (rest cs) ≡ true)
unfolding kids_fit
of_takes text (category.declarator ∷ more) e = (refl, e)
of_takes text _ e = no e

pub of_array : (text : List ℕ) (cs : List Category) → kids_fit kind.ArrayOf text cs ≡ true → (is_part (get_or cs 0 no_category) ≡ true) × (list_all is_some_expression (rest cs) ≡ true)
unfolding kids_fit
of_array text (c ∷ more) e = let es = split e in (part c es.0, optional _ (within 14) more es.1)
of_array text [] e = no e

pub of_block : (text : List ℕ) (cs : List Category) → kids_fit kind.Block text cs ≡ true → list_all is_code cs ≡ true
unfolding kids_fit
of_block text cs e = each is_block_item is_code item cs e

pub of_if : (text : List ℕ) (cs : List Category) → kids_fit kind.If text cs ≡ true → Operand cs 0 × Code cs 1 × (list_all is_code (rest (rest cs)) ≡ true)
unfolding kids_fit
of_if text (c ∷ d ∷ []) e = let es = split e in (within 16 c es.0, statement d es.1, refl)
of_if text (c ∷ d ∷ f ∷ []) e = let es = split e in let fs = split es.1 in (within 16 c es.0, statement d fs.0, both (statement f fs.1) refl)
of_if text _ e = no e

-- a part of `for`
abbrev pub is_for_part : Category → Bool
is_for_part category.empty = true
is_for_part c = is_some_expression c

abbrev pub is_for_first : Category → Bool
is_for_first category.declaration = true
is_for_first c = is_for_part c

for_part : (c : Category) → is_optional_expression c ≡ true → is_for_part c ≡ true
unfolding is_within
for_part category.empty e = refl
for_part (category.expression l) e = refl
for_part _ e = no e

for_first : (c : Category) → is_first_clause c ≡ true → is_for_first c ≡ true
unfolding is_within
for_first category.declaration e = refl
for_first category.empty e = refl
for_first (category.expression l) e = refl
for_first _ e = no e

pub of_for : (text : List ℕ) (cs : List Category) → kids_fit kind.For text cs ≡ true
    → (is_for_first (get_or cs 0 no_category) ≡ true) × (is_for_part (get_or cs 1 no_category) ≡ true) × (is_for_part (get_or cs 2 no_category) ≡ true) × Code cs 3
unfolding kids_fit is_within
of_for text (c ∷ d ∷ f ∷ g ∷ []) e =
    let es = split e in let fs = split es.1 in let gs = split fs.1 in (for_first c es.0, for_part d fs.0, for_part f gs.0, statement g gs.1)
of_for text _ e = no e

pub of_switch : (text : List ℕ) (cs : List Category) → kids_fit kind.Switch text cs ≡ true → Operand cs 0 × (list_all is_item (rest cs) ≡ true)
unfolding kids_fit
of_switch text (c ∷ more) e = let es = split e in (within 16 c es.0, switch_items at_first more es.1)
of_switch text [] e = no e

pub of_call : (text : List ℕ) (cs : List Category) → kids_fit kind.Call text cs ≡ true → Operand cs 0 × (list_all is_some_expression (rest cs) ≡ true)
unfolding kids_fit
of_call text (c ∷ more) e = let es = split e in (within 1 c es.0, each _ is_some_expression (within 15) more es.1)
of_call text [] e = no e

-- ---- the categories of nodes that are made of those of their kids

pub part_over : (cs : List Category) → is_part (get_or cs 0 no_category) ≡ true → is_part (declarator_over cs) ≡ true
part_over (category.declarator ∷ cs) e = refl
part_over (category.abstract_declarator ∷ cs) e = refl
part_over (category.no_name ∷ cs) e = refl
part_over (_ ∷ cs) e = no e
part_over [] e = no e

-- in parentheses stands an expression, or a part of a declarator
pub record InParentheses (cs : List Category) : Type 0 where
  pub inner : Category
  pub only : cs ≡ inner ∷ []
  pub fits : is_in_parentheses inner ≡ true

pub of_parentheses : (text : List ℕ) (cs : List Category) → kids_fit kind.Paren text cs ≡ true → InParentheses cs
unfolding kids_fit
of_parentheses text (c ∷ []) e = record { inner = c; only = refl; fits = e }
of_parentheses text _ e = no e

-- neither `;` nor a declaration
abbrev pub is_other : Category → Bool
is_other category.empty = false
is_other category.declaration = false
is_other c = true

other_over : (cs : List Category) → is_other (declarator_over cs) ≡ true
other_over (category.declarator ∷ cs) = refl
other_over (category.abstract_declarator ∷ cs) = refl
other_over (category.no_name ∷ cs) = refl
other_over (_ ∷ cs) = refl
other_over [] = refl

other_parentheses : (cs : List Category) → is_other (in_parentheses cs) ≡ true
other_parentheses (category.expression l ∷ cs) = refl
other_parentheses (category.declarator ∷ cs) = refl
other_parentheses (category.abstract_declarator ∷ cs) = refl
other_parentheses (category.no_name ∷ cs) = refl
other_parentheses (_ ∷ cs) = refl
other_parentheses [] = refl

other_word : (text : List ℕ) → is_other (word_category text) ≡ true
other_word text = by (is_storage_word text) (is_type_word text)
  where
    by : (s t : Bool) → is_other (if s then category.storage_word else if t then category.type_specifier else category.typedef_name) ≡ true
    by true t = refl
    by false true = refl
    by false false = refl

-- `;` and declarations are what they say
abbrev pub is_plain : SynKind → Bool
is_plain kind.Empty = false
is_plain kind.Declaration = false
is_plain k = true

pub other_kind : (k : SynKind) (text : List ℕ) (cs : List Category) → is_plain k ≡ true → is_other (category_by k text cs) ≡ true
unfolding category_by
other_kind kind.Empty text cs e = no e
other_kind kind.Declaration text cs e = no e
other_kind kind.Word text cs e = other_word text
other_kind kind.Pointer text cs e = other_over cs
other_kind kind.ArrayOf text cs e = other_over cs
other_kind kind.Paren text cs e = other_parentheses cs
other_kind _ text cs e = refl

pub first_expression : (c : Category) → is_for_first c ≡ true → is_other c ≡ true → is_some_expression c ≡ true
first_expression category.empty e f = no f
first_expression category.declaration e f = no f
first_expression (category.expression l) e f = refl
first_expression _ e f = no e

pub part_expression : (c : Category) → is_for_part c ≡ true → is_other c ≡ true → is_some_expression c ≡ true
part_expression category.empty e f = no f
part_expression (category.expression l) e f = refl
part_expression _ e f = no e

-- what braces have, and a declarator behind its `=`
abbrev pub is_initial : Category → Bool
is_initial category.braces = true
is_initial c = is_some_expression c

initial : (c : Category) → is_initializer c ≡ true → is_initial c ≡ true
unfolding is_within
initial category.braces e = refl
initial (category.expression l) e = refl
initial _ e = no e

pub of_braces : (text : List ℕ) (cs : List Category) → kids_fit kind.Braces text cs ≡ true → list_all is_initial cs ≡ true
unfolding kids_fit
of_braces text cs e = some is_initializer is_initial initial cs e

pub apart : {p q : Bool} → p && q ≡ true → (p ≡ true) × (q ≡ true)
apart {p = p} {q = q} e = split {p = p} {q = q} e

pub parted : (c : Category) → is_in_parentheses c ≡ true → (is_some_expression c ≡ true) ⊎ (is_part c ≡ true)
parted category.declarator e = inr refl
parted category.abstract_declarator e = inr refl
parted (category.expression l) e = inl refl
parted c e = inl (within 16 c e)

pub part_brackets : (c : Category) → is_part c ≡ true → is_part (in_parentheses (c ∷ [])) ≡ true
part_brackets category.declarator e = refl
part_brackets category.abstract_declarator e = refl
part_brackets category.no_name e = refl
part_brackets _ e = no e

-- ---- classes of one category

pub only_init_declarator : (c : Category) → is_init_declarator c ≡ true → c ≡ category.init_declarator
only_init_declarator category.init_declarator e = refl
only_init_declarator _ e = no e

pub only_member : (c : Category) → is_member c ≡ true → c ≡ category.member
only_member category.member e = refl
only_member _ e = no e

pub only_enumerator : (c : Category) → is_enumerator c ≡ true → c ≡ category.enumerator
only_enumerator category.enumerator e = refl
only_enumerator _ e = no e

pub whole_has_type : (c : Category) → is_declarator c ≡ true → has_type kind.Member c ≡ true
whole_has_type category.declarator e = refl
whole_has_type _ e = no e

pub parameter_has_type : (c : Category) → is_parameter c ≡ true → has_type kind.Takes c ≡ true
parameter_has_type category.parameter e = refl
parameter_has_type _ e = no e

pub part_has_type : (k : SynKind) (c : Category) → not (is_declarator_kind k) ≡ true → is_part c ≡ true → has_type k c ≡ true
part_has_type k category.declarator w e = w
part_has_type k category.abstract_declarator w e = w
part_has_type k category.no_name w e = w
part_has_type k _ w e = no e

abbrev pub is_declarator_only : Category → Bool
is_declarator_only category.declarator = true
is_declarator_only c = false

abbrev pub is_unit_only : Category → Bool
is_unit_only category.unit = true
is_unit_only c = false

pub only_declarator : (c : Category) → is_declarator_only c ≡ true → c ≡ category.declarator
only_declarator category.declarator e = refl
only_declarator _ e = no e

pub optional_initial : (cs : List Category) → at_most_one is_initializer cs ≡ true → list_all is_initial cs ≡ true
optional_initial [] e = refl
optional_initial (c ∷ []) e = both (initial c e) refl
optional_initial (c ∷ d ∷ cs) e = no e
