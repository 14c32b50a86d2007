-- What the tables of shapes say of operators, levels and rows.
use Rattle.std.proofs.Common.{true≢false, ◌≡◌, ℕ, suc, ◌+◌, ◌≤◌, Bool, true, false, ◌&&◌, ◌||◌, not, List, [], ◌∷◌, refl, sym, arith}
use Rattle.std.specs.Prelude.{nat_le, if◌then◌else◌}
use Rattle.std.specs.List.{list_all}
use Rattle.std.proofs.lemmas.Bool.Decides.{nat_tests}
use Rattle.c_lexer.specs.declared.token.Punct.{Punct}
use Rattle.c_lexer.specs.declared.token.Punct.TheVariants as punct
use Rattle.c_lexer.specs.Marks.{mark_text}
use Rattle.c_syntax.specs.Trees.{Tree, Forest, ◌then◌, one}
use Rattle.c_grammar.specs.Vocabulary as vocabulary
use Rattle.c_grammar.specs.Vocabulary.{is_identifier, is_type_word, is_storage_word}
use Rattle.c_grammar.specs.Derivation.{Standing, behind_statement, is_labelled}
use Rattle.c_typing.specs.Shapes as category
use Rattle.c_typing.specs.Shapes.{Category, binary_level, is_unary, is_increment, is_assignment, is_within, is_right_operand, is_expression, is_optional_expression, is_first_clause, is_assignment_expression, is_initializer, is_in_parentheses, is_statement, is_block_item, is_operand, is_cast_expression, is_left_operand, in_parentheses, at_most_one, one_or_more, are_specifiers, are_groups, cast_level, word_category, has_shape, are_shaped}

pub both : {p q : Bool} → p ≡ true → q ≡ true → (p && q) ≡ true
both e f = rw e f

-- ---- operators

-- the texts of the marks are in the tables
abbrev InTables : Punct → Type 0
InTables op = (binary_level (mark_text op) ≡ vocabulary.level_of op)
    × ((not (vocabulary.is_unary_operator op) || is_unary (mark_text op)) ≡ true)
    × ((not (vocabulary.is_unary_operator op) || not (is_increment (mark_text op))) ≡ true)
    × ((not (vocabulary.is_assignment op) || is_assignment (mark_text op)) ≡ true)

in_tables : (op : Punct) → InTables op
unfolding binary_level
in_tables punct.LeftBracket = (refl, refl, refl, refl)
in_tables punct.RightBracket = (refl, refl, refl, refl)
in_tables punct.LeftParenthesis = (refl, refl, refl, refl)
in_tables punct.RightParenthesis = (refl, refl, refl, refl)
in_tables punct.LeftBrace = (refl, refl, refl, refl)
in_tables punct.RightBrace = (refl, refl, refl, refl)
in_tables punct.Dot = (refl, refl, refl, refl)
in_tables punct.Arrow = (refl, refl, refl, refl)
in_tables punct.PlusPlus = (refl, refl, refl, refl)
in_tables punct.MinusMinus = (refl, refl, refl, refl)
in_tables punct.Ampersand = (refl, refl, refl, refl)
in_tables punct.Star = (refl, refl, refl, refl)
in_tables punct.Plus = (refl, refl, refl, refl)
in_tables punct.Minus = (refl, refl, refl, refl)
in_tables punct.Tilde = (refl, refl, refl, refl)
in_tables punct.Exclamation = (refl, refl, refl, refl)
in_tables punct.Slash = (refl, refl, refl, refl)
in_tables punct.Percent = (refl, refl, refl, refl)
in_tables punct.ShiftLeft = (refl, refl, refl, refl)
in_tables punct.ShiftRight = (refl, refl, refl, refl)
in_tables punct.Less = (refl, refl, refl, refl)
in_tables punct.Greater = (refl, refl, refl, refl)
in_tables punct.LessEqual = (refl, refl, refl, refl)
in_tables punct.GreaterEqual = (refl, refl, refl, refl)
in_tables punct.EqualEqual = (refl, refl, refl, refl)
in_tables punct.NotEqual = (refl, refl, refl, refl)
in_tables punct.Caret = (refl, refl, refl, refl)
in_tables punct.Bar = (refl, refl, refl, refl)
in_tables punct.AmpersandAmpersand = (refl, refl, refl, refl)
in_tables punct.BarBar = (refl, refl, refl, refl)
in_tables punct.Question = (refl, refl, refl, refl)
in_tables punct.Colon = (refl, refl, refl, refl)
in_tables punct.Semicolon = (refl, refl, refl, refl)
in_tables punct.Equal = (refl, refl, refl, refl)
in_tables punct.StarEqual = (refl, refl, refl, refl)
in_tables punct.SlashEqual = (refl, refl, refl, refl)
in_tables punct.PercentEqual = (refl, refl, refl, refl)
in_tables punct.PlusEqual = (refl, refl, refl, refl)
in_tables punct.MinusEqual = (refl, refl, refl, refl)
in_tables punct.ShiftLeftEqual = (refl, refl, refl, refl)
in_tables punct.ShiftRightEqual = (refl, refl, refl, refl)
in_tables punct.AmpersandEqual = (refl, refl, refl, refl)
in_tables punct.CaretEqual = (refl, refl, refl, refl)
in_tables punct.BarEqual = (refl, refl, refl, refl)
in_tables punct.Comma = (refl, refl, refl, refl)

pub level_of_mark : (op : Punct) → binary_level (mark_text op) ≡ vocabulary.level_of op
level_of_mark op = (in_tables op).0

implied : {p q : Bool} → (not p || q) ≡ true → p ≡ true → q ≡ true
implied {p = true} h e = h
implied {p = false} h e = absurd (true≢false (sym e))

pub unary_mark : (op : Punct) → vocabulary.is_unary_operator op ≡ true → is_unary (mark_text op) ≡ true
unary_mark op = implied (in_tables op).1

pub no_increment : (op : Punct) → vocabulary.is_unary_operator op ≡ true → is_increment (mark_text op) ≡ false
no_increment op e = by (is_increment (mark_text op)) (implied (in_tables op).2 e)
  where
    by : (p : Bool) → not p ≡ true → p ≡ false
    by false e = refl
    by true e = absurd (true≢false (sym e))

pub assignment_mark : (op : Punct) → vocabulary.is_assignment op ≡ true → is_assignment (mark_text op) ≡ true
assignment_mark op = implied (in_tables op).3

-- ---- levels

-- what is within a level is within each higher one
pub within_more : (m n : ℕ) (c : Category) → m ≤ n → is_within m c ≡ true → is_within n c ≡ true
unfolding is_within
within_more m n (Category.expression level) le e = grind (arith, nat_tests, le, e)
within_more m n _ le e = e

-- a chain of operators of this level, and its operands
pub chain_within : (n : ℕ) (text : List ℕ) → binary_level text ≡ suc n → is_within (cast_level + suc n) (category.expression (cast_level + binary_level text)) ≡ true
unfolding is_within
chain_within n text e = grind (arith, nat_tests, e)

pub left_operand : (n : ℕ) (text : List ℕ) (c : Category) → binary_level text ≡ suc n → is_within (cast_level + suc n) c ≡ true → is_left_operand text c ≡ true
left_operand n text c e f = rw e f

pub right_operand : (n : ℕ) (text : List ℕ) (c : Category) → binary_level text ≡ suc n → is_within (cast_level + n) c ≡ true → is_right_operand text c ≡ true
unfolding is_within
right_operand n text (category.expression level) e f = grind (arith, nat_tests, e, f)
right_operand n text _ e f = f

pub some_level : (n : ℕ) (text : List ℕ) → binary_level text ≡ suc n → nat_le 1 (binary_level text) ≡ true
some_level n text e = grind (arith, nat_tests, e)

-- ---- classes

pub optional_of : (c : Category) → is_expression c ≡ true → is_optional_expression c ≡ true
unfolding is_within
optional_of category.empty e = refl
optional_of _ e = e

pub first_of : (c : Category) → is_optional_expression c ≡ true → is_first_clause c ≡ true
unfolding is_within
first_of category.declaration e = refl
first_of _ e = e

pub initializer_of : (c : Category) → is_assignment_expression c ≡ true → is_initializer c ≡ true
unfolding is_within
initializer_of category.braces e = refl
initializer_of _ e = e

pub item_of : (c : Category) → is_statement c ≡ true → is_block_item c ≡ true
item_of category.declaration e = refl
item_of _ e = e

pub within_parentheses : (c : Category) → is_expression c ≡ true → is_in_parentheses c ≡ true
unfolding is_within
within_parentheses category.declarator e = refl
within_parentheses category.abstract_declarator e = refl
within_parentheses _ e = e

pub parenthesized : (c : Category) → is_expression c ≡ true → in_parentheses (c ∷ []) ≡ category.expression 0
unfolding is_within
parenthesized (category.expression level) e = refl
parenthesized _ e = absurd (true≢false (sym e))

-- ---- rows

pub all_of : (p : Category → Bool) (cs : List Category) → one_or_more p cs ≡ true → list_all p cs ≡ true
all_of p [] e = refl
all_of p (c ∷ cs) e = e

pub one_more : (p : Category → Bool) (c : Category) (cs : List Category) → p c ≡ true → one_or_more p cs ≡ true → one_or_more p (c ∷ cs) ≡ true
one_more p c cs e f = both e (all_of p cs f)

pub labelled : (standing : Standing) (c : Category) (cs : List Category) → is_labelled standing ≡ true → is_statement c ≡ true → are_groups behind_statement cs ≡ true
    → are_groups standing (c ∷ cs) ≡ true
unfolding are_groups
labelled standing category.block cs e f g = both e g
labelled standing category.empty cs e f g = both e g
labelled standing category.statement cs e f g = both e g
labelled standing _ cs e f g = absurd (true≢false (sym f))

-- a word that says a type or none, behind specifiers that say a type or none
pub keyword_stands : (typed : Bool) (text : List ℕ) (cs : List Category) → is_type_word text || is_storage_word text ≡ true
    → are_specifiers typed (word_category text ∷ cs) ≡ are_specifiers (typed || (if is_storage_word text then false else true)) cs
unfolding are_specifiers
keyword_stands typed text cs e = by typed (is_type_word text) (is_storage_word text) e
  where
    by : (typed type storage : Bool) → type || storage ≡ true
        → are_specifiers typed ((if storage then category.storage_word else if type then category.type_specifier else category.typedef_name) ∷ cs)
        ≡ are_specifiers (typed || (if storage then false else true)) cs
    by true type true e = refl
    by false type true e = refl
    by true true false e = refl
    by false true false e = refl
    by typed false false e = absurd (true≢false (sym e))

-- any word, behind specifiers that say none
pub name_stands : (text : List ℕ) (cs : List Category) → are_specifiers false (word_category text ∷ cs) ≡ are_specifiers (if is_storage_word text then false else true) cs
unfolding are_specifiers
name_stands text cs = by (is_type_word text) (is_storage_word text)
  where
    by : (type storage : Bool)
        → are_specifiers false ((if storage then category.storage_word else if type then category.type_specifier else category.typedef_name) ∷ cs)
        ≡ are_specifiers (if storage then false else true) cs
    by type true = refl
    by true false = refl
    by false false = refl

-- a struct or an enum, behind specifiers that say a type or none
pub type_stands : (typed : Bool) (cs : List Category) (c : Category) (says : Bool) → c ≡ category.type_specifier → says ≡ true → are_specifiers typed (c ∷ cs) ≡ are_specifiers (typed || says) cs
unfolding are_specifiers
type_stands true cs c says e f = rw e refl
type_stands false cs c says e f = rw (e, f) refl

pub specifier_text : (text : List ℕ) → is_type_word text || is_storage_word text ≡ true → is_storage_word text || (is_type_word text || is_identifier text) ≡ true
specifier_text text e = by (is_type_word text) (is_storage_word text) (is_identifier text) e
  where
    by : (p q r : Bool) → p || q ≡ true → q || (p || r) ≡ true
    by p true r e = refl
    by true false r e = refl
    by false false r e = absurd (true≢false (sym e))

pub name_text : (text : List ℕ) → is_identifier text ≡ true → is_storage_word text || (is_type_word text || is_identifier text) ≡ true
name_text text e = by (is_type_word text) (is_storage_word text) (is_identifier text) e
  where
    by : (p q r : Bool) → r ≡ true → q || (p || r) ≡ true
    by p true r e = refl
    by true false r e = refl
    by false false r e = e

-- ---- trees in a row

-- one tree before others
pub before : (t : Tree) (ts : Forest) → are_shaped (one t) ≡ true → are_shaped ts ≡ true → are_shaped (t then ts) ≡ true
unfolding are_shaped
before t ts e f = by (has_shape t) (are_shaped t.kids) (are_shaped ts) e f
  where
    by : (p q r : Bool) → p && (q && true) ≡ true → r ≡ true → p && (q && r) ≡ true
    by true true r e f = f
    by true false r e f = absurd (true≢false (sym e))
    by false q r e f = absurd (true≢false (sym e))

-- a root over shaped kids
pub over : (t : Tree) → has_shape t ≡ true → are_shaped t.kids ≡ true → are_shaped (one t) ≡ true
unfolding are_shaped
over t e f = by (has_shape t) (are_shaped t.kids) e f
  where
    by : (p q : Bool) → p ≡ true → q ≡ true → p && (q && true) ≡ true
    by p q e f = rw (e, f) refl
