-- What a part begins with: specs, an expression, or what begins statements alone.
use Rattle.std.specs.Prelude.{◌≡◌, refl, ℕ, Bool, true, false, ◌||◌, ◌&&◌, not, List, [], ◌∷◌, codes}
use Rattle.std.specs.List.{list_all}
use Rattle.std.specs.Str.{bytes_eq}
use Rattle.std.proofs.Common.{sym, subst, true≢false}
use Rattle.std.proofs.lemmas.Slice.Eq.{bytes_eq-Decides}
use Rattle.c_lexer.specs.declared.token.Punct.{Punct}
use Rattle.c_lexer.specs.declared.token.Punct.TheVariants.{LeftParenthesis, LeftBrace, PlusPlus, MinusMinus, Semicolon}
use Rattle.c_lexer.specs.declared.token.Token.{Token}
use Rattle.c_lexer.specs.declared.token.TokenKind.{TokenKind}
use Rattle.c_lexer.specs.declared.token.TokenKind.TheVariants as token
use Rattle.c_syntax.specs.Trees.{Tree, Forest}
use Rattle.c_grammar.specs.Vocabulary.{is_identifier, is_type_word, is_storage_word, is_among, is_unary_operator}
use Rattle.c_grammar.specs.Scopes.{Names, is_typedef_name}
use Rattle.c_grammar.specs.Derivation as grammar
use Rattle.c_grammar.specs.Derivation.{Part, Row, Derives, Lists}

pub data Front : Type 0 where
  of_specs : Front
  of_expression : Front
  of_statement : Front
  other : Front

-- ---- the front of a list

abbrev pub keyword_front : Bool → Bool → Bool → Front
keyword_front true size statement = of_specs
keyword_front false true statement = of_expression
keyword_front false false true = of_statement
keyword_front false false false = other

-- of a word that is an identifier or not, a typedef name or not, and begins specs as a keyword or does not
abbrev pub word_front : Bool → Bool → Bool → List ℕ → Front
word_front true true begins text = of_specs
word_front true false begins text = of_expression
word_front false typed begins text =
    keyword_front (begins || is_among (codes "struct" ∷ codes "enum" ∷ []) text) (bytes_eq (codes "sizeof") text)
    (is_among (codes "if" ∷ codes "while" ∷ codes "do" ∷ codes "for" ∷ codes "break" ∷ codes "continue" ∷ codes "return" ∷ codes "switch" ∷ []) text)

abbrev pub mark_front : Bool → Punct → Front
mark_front true punct = of_expression
mark_front false LeftParenthesis = of_expression
mark_front false PlusPlus = of_expression
mark_front false MinusMinus = of_expression
mark_front false LeftBrace = of_statement
mark_front false Semicolon = of_statement
mark_front false punct = other

abbrev pub kind_front : Names → TokenKind → Front
kind_front names (token.Word text) = word_front (is_identifier text) (is_typedef_name names text) (is_type_word text || is_storage_word text) text
kind_front names (token.Punct punct) = mark_front (is_unary_operator punct) punct
kind_front names kind = of_expression

abbrev pub front : Names → List Token → Front
front names [] = other
front names (t ∷ rest) = kind_front names t.kind

-- ---- the fronts of parts

abbrev pub begins_statement : Front → Bool
begins_statement of_expression = true
begins_statement of_statement = true
begins_statement of_specs = false
begins_statement other = false

abbrev pub HasFront : Names → Part → List Token → Type 0
HasFront names Part.unit a = front names a ≡ of_specs
HasFront names Part.external a = front names a ≡ of_specs
HasFront names Part.declaration a = front names a ≡ of_specs
HasFront names Part.specifiers a = front names a ≡ of_specs
HasFront names (Part.specifier typed) a = front names a ≡ of_specs
HasFront names Part.struct_specifier a = front names a ≡ of_specs
HasFront names Part.member a = front names a ≡ of_specs
HasFront names Part.enum_specifier a = front names a ≡ of_specs
HasFront names Part.parameter a = front names a ≡ of_specs
HasFront names Part.type_name a = front names a ≡ of_specs
HasFront names Part.block a = front names a ≡ of_statement
HasFront names Part.statement a = begins_statement (front names a) ≡ true
HasFront names Part.expression a = front names a ≡ of_expression
HasFront names Part.assignment a = front names a ≡ of_expression
HasFront names Part.conditional a = front names a ≡ of_expression
HasFront names (Part.binary n) a = front names a ≡ of_expression
HasFront names Part.cast a = front names a ≡ of_expression
HasFront names Part.unary a = front names a ≡ of_expression
HasFront names Part.postfix a = front names a ≡ of_expression
HasFront names Part.primary a = front names a ≡ of_expression
HasFront names part a = Unit {0}

abbrev pub RowHasFront : Names → Row → List Token → Type 0
RowHasFront names Row.externals a = front names a ≡ of_specs
RowHasFront names (Row.specifier_list typed) a = front names a ≡ of_specs
RowHasFront names row a = Unit {0}

-- ---- words

-- what holds of some texts holds of a text among them
pub among : (test : List ℕ → Bool) (texts : List (List ℕ)) (text : List ℕ) → list_all test texts ≡ true → is_among texts text ≡ true → test text ≡ true
among test [] text all e = absurd (true≢false (sym e))
among test (t ∷ texts) text all e = by (λ all e. among test texts text all e) (test t) refl (bytes_eq t text) refl all e
  where
    by : (list_all test texts ≡ true → is_among texts text ≡ true → test text ≡ true)
        → (p : Bool) → test t ≡ p → (q : Bool) → bytes_eq t text ≡ q → p && list_all test texts ≡ true → q || is_among texts text ≡ true → test text ≡ true
    by later true f true g all e = subst (λ u. test u ≡ true) ((bytes_eq-Decides t text).0 g) f
    by later true f false g all e = later all e
    by later false f q g all e = absurd (true≢false (sym all))

pub not_true : (p : Bool) → not p ≡ true → p ≡ false
not_true true e = sym e
not_true false e = refl

-- the keywords among specs are no identifiers
abbrev type_words : List (List ℕ)
type_words = codes "void" ∷ codes "char" ∷ codes "short" ∷ codes "int" ∷ codes "long" ∷ codes "signed" ∷ codes "unsigned" ∷ codes "_Bool" ∷ []

abbrev storage_words : List (List ℕ)
storage_words = codes "typedef" ∷ codes "extern" ∷ codes "static" ∷ codes "auto" ∷ codes "register" ∷ codes "const" ∷ []

pub no_identifier : (text : List ℕ) → is_type_word text || is_storage_word text ≡ true → is_identifier text ≡ false
no_identifier text e = by (is_type_word text) refl e
  where
    by : (p : Bool) → is_type_word text ≡ p → p || is_storage_word text ≡ true → is_identifier text ≡ false
    by true f e = not_true (is_identifier text) (among (λ t. not (is_identifier t)) type_words text refl f)
    by false f e = not_true (is_identifier text) (among (λ t. not (is_identifier t)) storage_words text refl e)

pub keyword_specs : (names : Names) (text : List ℕ) → is_type_word text || is_storage_word text ≡ true → kind_front names (token.Word text) ≡ of_specs
keyword_specs names text e = rw (no_identifier text e, e) refl

pub typedef_specs : (names : Names) (text : List ℕ) → is_identifier text ≡ true → is_typedef_name names text ≡ true → kind_front names (token.Word text) ≡ of_specs
typedef_specs names text e f = rw (e, f) refl

variable_expression : (names : Names) (text : List ℕ) → is_identifier text ≡ true → is_typedef_name names text ≡ false → kind_front names (token.Word text) ≡ of_expression
variable_expression names text e f = rw (e, f) refl

operator_expression : (punct : Punct) → is_unary_operator punct ≡ true → mark_front (is_unary_operator punct) punct ≡ of_expression
operator_expression punct e = rw e refl

-- ---- each part has its front

from_block : (f : Front) → f ≡ of_statement → begins_statement f ≡ true
from_block f e = rw e refl

from_expression : (f : Front) → f ≡ of_expression → begins_statement f ≡ true
from_expression f e = rw e refl

mutual
  pub has_front : {names : Names} {part : Part} {a b : List Token} {t : Tree} → Derives names part a b t → HasFront names part a
  has_front (grammar.unit_of ts) = row_has_front ts
  has_front (grammar.function s d items) = has_front s
  has_front (grammar.declared d) = has_front d
  has_front (grammar.bare_declaration s) = has_front s
  has_front (grammar.full_declaration s ds) = has_front s
  has_front (grammar.specs ts) = row_has_front ts
  has_front (grammar.specifier_word {text = text} {names = names} e) = keyword_specs names text e
  has_front (grammar.typedef_name {text = text} {names = names} e f) = typedef_specs names text e f
  has_front (grammar.struct_of d) = has_front d
  has_front (grammar.enum_of d) = has_front d
  has_front (grammar.struct_without_tag ms) = refl
  has_front (grammar.struct_with_tag e ms) = refl
  has_front (grammar.struct_tag e) = refl
  has_front (grammar.member_of s ds) = has_front s
  has_front (grammar.enum_without_tag es) = refl
  has_front (grammar.enum_with_tag e es) = refl
  has_front (grammar.enum_tag e) = refl
  has_front (grammar.named_parameter s d) = has_front s
  has_front (grammar.abstract_parameter s d) = has_front s
  has_front (grammar.bare_parameter s) = has_front s
  has_front (grammar.derived_type s d) = has_front s
  has_front (grammar.bare_type s) = has_front s
  has_front (grammar.block_of ts) = refl
  has_front (grammar.block_statement d) = from_block _ (has_front d)
  has_front grammar.empty_statement = refl
  has_front (grammar.expression_statement d) = from_expression _ (has_front d)
  has_front (grammar.if_then x s) = refl
  has_front (grammar.if_else x s e t) = refl
  has_front (grammar.while_do x s) = refl
  has_front (grammar.do_while s x) = refl
  has_front (grammar.for_declaration f x y s) = refl
  has_front (grammar.for_expression f x y s) = refl
  has_front (grammar.switch_of x ts) = refl
  has_front grammar.break_of = refl
  has_front grammar.continue_of = refl
  has_front grammar.return_nothing = refl
  has_front (grammar.return_value x) = refl
  has_front (grammar.single_expression x) = has_front x
  has_front (grammar.comma l r) = has_front l
  has_front (grammar.assigned l e r) = has_front l
  has_front (grammar.unassigned x) = has_front x
  has_front (grammar.unconditional x) = has_front x
  has_front (grammar.choice x y z) = has_front x
  has_front (grammar.chain l e r) = has_front l
  has_front (grammar.tighter x) = has_front x
  has_front (grammar.tightest x) = has_front x
  has_front (grammar.cast_to t x) = refl
  has_front (grammar.uncast x) = has_front x
  has_front (grammar.increment x) = refl
  has_front (grammar.decrement x) = refl
  has_front (grammar.operator e x) = operator_expression _ e
  has_front (grammar.size_of_expression x) = refl
  has_front (grammar.size_of_type t) = refl
  has_front (grammar.plain x) = has_front x
  has_front (grammar.primary_of x) = has_front x
  has_front (grammar.index x y) = has_front x
  has_front (grammar.call x ts) = has_front x
  has_front (grammar.dot x e) = has_front x
  has_front (grammar.arrow x e) = has_front x
  has_front (grammar.post_increment x) = has_front x
  has_front (grammar.post_decrement x) = has_front x
  has_front (grammar.variable {text = text} {names = names} e f) = variable_expression names text e f
  has_front grammar.integer_constant = refl
  has_front grammar.character_constant = refl
  has_front (grammar.string_literal e) = refl
  has_front (grammar.in_parentheses x) = refl
  has_front _ = tt

  pub row_has_front : {names : Names} {row : Row} {a b : List Token} {ts : Forest} → Lists names row a b ts → RowHasFront names row a
  row_has_front (grammar.last_external t) = has_front t
  row_has_front (grammar.more_externals t ts) = has_front t
  row_has_front (grammar.last_specifier t e) = has_front t
  row_has_front (grammar.more_specifiers t ts) = has_front t
  row_has_front _ = tt
