-- What types and declarators begin with, and that they are not empty.
use Rattle.std.proofs.Common.{◌≡◌, ℕ, ◌<◌, ◌≤◌, Bool, true, false, ◌||◌, List, ◌∷◌, length, length-append, refl, sym, ap, ◌∙◌, true≢false, codes, bytes_eq, arith}
use Rattle.std.proofs.lemmas.Slice.Eq.{bytes_eq-Decides}
use Rattle.c_lexer.specs.declared.token.Punct.{Punct}
use Rattle.c_lexer.specs.declared.token.Punct.TheVariants.{RightBrace}
use Rattle.c_lexer.specs.declared.token.Token.{Token}
use Rattle.c_syntax.specs.Trees.{Tree, Forest}
use Rattle.c_grammar.specs.Vocabulary.{is_identifier, is_type_word, is_storage_word}
use Rattle.c_grammar.specs.Scopes.{Names}
use Rattle.c_grammar.specs.Fronts.{IsFront}
use Rattle.c_grammar.specs.Derivation as rule
use Rattle.c_grammar.specs.Derivation.{Part, Row, Derives, Lists, Qualifiers, begins_with_typedef_name, is_typedef_token}
use Rattle.c_grammar.specs.Answers.{Ahead, mark_ahead, ahead, ahead_by}
use Rattle.c_grammar.specs.Reading.{begins_specifier_by, begins_specifier, begins_with_mark_by, begins_with_mark, behind_const, behind_const_by}
use Rattle.c_grammar.proofs.FirstTokens.{no_identifier}
use Rattle.c_grammar.proofs.FrontLaw.{front_of, fronts_of}
use Rattle.c_grammar.proofs.Found.Claims.{ends_specs}
use Rattle.c_grammar.proofs.Found.TypeEnds.{or_left, or_right}

-- ---- identifiers are no keywords

not_true : (p : Bool) → (p ≡ true → ⊥) → p ≡ false
not_true true f = absurd (f refl)
not_true false f = refl

module _ (text : List ℕ) (e : is_identifier text ≡ true) where
  pub no_spec_word : is_type_word text || is_storage_word text ≡ false
  no_spec_word = not_true _ (λ f. true≢false (sym e ∙ no_identifier text f))

  pub no_type_word : is_type_word text ≡ false
  no_type_word = not_true _ (λ f. true≢false (sym e ∙ no_identifier text (or_left _ _ f)))

  pub no_storage_word : is_storage_word text ≡ false
  no_storage_word = not_true _ (λ f. true≢false (sym e ∙ no_identifier text (or_right (is_type_word text) _ f)))

  -- nor a text that is a keyword
  pub no_keyword : (keyword : List ℕ) → is_identifier keyword ≡ false → bytes_eq text keyword ≡ false
  no_keyword keyword f = not_true _ (λ same. true≢false (sym e ∙ ap is_identifier ((bytes_eq-Decides text keyword).0 same) ∙ f))

-- ---- specs in front

-- a specifier begins with a word
pub specifier_no_mark : (p : Punct) (typed : Bool) (names : Names) (a : List Token) → begins_specifier typed names a ≡ true → begins_with_mark p a ≡ false
unfolding begins_specifier_by
specifier_no_mark p typed names a e = at (ahead a) e
  where
    at : (x : Ahead) → begins_specifier_by typed names x ≡ true → begins_with_mark_by p x ≡ false
    at (mark_ahead q place rest) e = absurd (true≢false (sym e))
    at other e = refl

pub struct_begins : {names : Names} {a b : List Token} {t : Tree} (typed : Bool) → Derives names rule.struct_specifier a b t
    → begins_specifier typed names a ≡ true
unfolding begins_specifier_by ahead ahead_by
struct_begins typed (rule.struct_without_tag ms) = refl
struct_begins typed (rule.struct_with_tag e ms) = refl
struct_begins typed (rule.struct_tag e) = refl

pub enum_begins : {names : Names} {a b : List Token} {t : Tree} (typed : Bool) → Derives names rule.enum_specifier a b t → begins_specifier typed names a ≡ true
unfolding begins_specifier_by ahead ahead_by
enum_begins typed (rule.enum_without_tag es) = refl
enum_begins typed (rule.enum_with_tag e es) = refl
enum_begins typed (rule.enum_tag e) = refl

word_begins : (p q r : Bool) → p || q ≡ true → p || (q || r) ≡ true
word_begins true q r e = refl
word_begins false true r e = refl
word_begins false false r e = absurd (true≢false (sym e))

pub specifier_begins : {names : Names} {typed : Bool} {a b : List Token} {t : Tree} → Derives names (rule.specifier typed) a b t
    → begins_specifier typed names a ≡ true
unfolding begins_specifier_by ahead ahead_by
specifier_begins (rule.specifier_word {text = text} e) = word_begins (is_type_word text) (is_storage_word text) _ e
specifier_begins (rule.typedef_name {text = text} e f) =
    rw (no_type_word text e, no_storage_word text e, no_keyword text e (codes "struct") refl, no_keyword text e (codes "enum") refl, e, f) refl
specifier_begins (rule.struct_of d) = struct_begins _ d
specifier_begins (rule.enum_of d) = enum_begins _ d

pub list_begins : {names : Names} {typed : Bool} {a b : List Token} {ts : Forest} → Lists names (rule.specifier_list typed) a b ts
    → begins_specifier typed names a ≡ true
list_begins (rule.last_specifier t e) = specifier_begins t
list_begins (rule.more_specifiers t ts) = specifier_begins t

pub specs_begin : {names : Names} {a b : List Token} {t : Tree} → Derives names rule.specifiers a b t → begins_specifier false names a ≡ true
specs_begin (rule.specs ts) = list_begins ts

pub member_begins : {names : Names} {a b : List Token} {t : Tree} → Derives names rule.member a b t → begins_specifier false names a ≡ true
member_begins (rule.member_of s ds) = specs_begin s

pub members_begin : {names : Names} {a b : List Token} {ts : Forest} → Lists names rule.members a b ts → begins_specifier false names a ≡ true
members_begin (rule.last_member t) = member_begins t
members_begin (rule.more_members t ts) = member_begins t

pub parameter_begins : {names : Names} {a b : List Token} {t : Tree} → Derives names rule.parameter a b t → begins_specifier false names a ≡ true
parameter_begins (rule.named_parameter s d) = specs_begin s
parameter_begins (rule.abstract_parameter s d) = specs_begin s
parameter_begins (rule.bare_parameter s) = specs_begin s

pub parameters_begin : {names : Names} {a b : List Token} {ts : Forest} → Lists names rule.parameters a b ts → begins_specifier false names a ≡ true
parameters_begin (rule.last_parameter t) = parameter_begins t
parameters_begin (rule.more_parameters t ts) = parameter_begins t

-- ---- declarators in front

-- no specs and no `const`
pub record DeclaratorFront (a : List Token) : Type 0 where
  pub specs : (names : Names) → ends_specs names a ≡ true
  pub const : behind_const a ≡ a

pub direct_front : {names : Names} {a b : List Token} {t : Tree} → Derives names rule.direct_declarator a b t → DeclaratorFront a
unfolding begins_specifier_by ahead ahead_by behind_const behind_const_by
direct_front (rule.declared_name {text = text} e) = record {
  specs = λ names. rw (no_type_word text e, no_storage_word text e, no_keyword text e (codes "struct") refl, no_keyword text e (codes "enum") refl) refl;
  const = rw (no_keyword text e (codes "const") refl) refl;
}
direct_front (rule.declarator_in_parentheses d) = record { specs = λ names. refl; const = refl }
direct_front (rule.array_of d n) = direct_front d
direct_front (rule.takes_anything d) = direct_front d
direct_front (rule.takes_void d) = direct_front d
direct_front (rule.takes d ps e) = direct_front d

pub declarator_front : {names : Names} {a b : List Token} {t : Tree} → Derives names rule.declarator a b t → DeclaratorFront a
unfolding begins_specifier_by ahead ahead_by behind_const behind_const_by
declarator_front (rule.pointer q d) = record { specs = λ names. refl; const = refl }
declarator_front (rule.direct d) = direct_front d

pub declarators_front : {names : Names} {a b : List Token} {ts : Forest} → Lists names rule.declarators a b ts → DeclaratorFront a
declarators_front (rule.last_declarator t) = declarator_front t
declarators_front (rule.more_declarators t ts) = declarator_front t

pub direct_abstract_front : {names : Names} {a b : List Token} {t : Tree} → Derives names rule.direct_abstract a b t → DeclaratorFront a
unfolding begins_specifier_by ahead ahead_by behind_const behind_const_by
direct_abstract_front (rule.abstract_in_parentheses d) = record { specs = λ names. refl; const = refl }
direct_abstract_front (rule.bare_array n) = record { specs = λ names. refl; const = refl }
direct_abstract_front (rule.abstract_array d n) = direct_abstract_front d

pub abstract_front : {names : Names} {a b : List Token} {t : Tree} → Derives names rule.abstract_declarator a b t → DeclaratorFront a
unfolding begins_specifier_by ahead ahead_by behind_const behind_const_by
abstract_front (rule.abstract_pointer q d) = record { specs = λ names. refl; const = refl }
abstract_front (rule.bare_pointer q) = record { specs = λ names. refl; const = refl }
abstract_front (rule.direct_of d) = direct_abstract_front d

-- the words `const` in front are left out
pub behind_qualifiers : {a b : List Token} → Qualifiers a b → behind_const b ≡ b → behind_const a ≡ b
unfolding behind_const behind_const_by
behind_qualifiers rule.no_qualifier e = e
behind_qualifiers (rule.qualifier q) e = behind_qualifiers q e

pub enumerator_no_brace : {names : Names} {a b : List Token} {t : Tree} → Derives names rule.enumerator a b t → begins_with_mark RightBrace a ≡ false
unfolding ahead ahead_by
enumerator_no_brace (rule.enumerator_name e) = refl
enumerator_no_brace (rule.enumerator_value e v) = refl

pub enumerators_no_brace : {names : Names} {a b : List Token} {ts : Forest} → Lists names rule.enumerators a b ts → begins_with_mark RightBrace a ≡ false
enumerators_no_brace (rule.last_enumerator t) = enumerator_no_brace t
enumerators_no_brace (rule.last_enumerator_with_comma t) = enumerator_no_brace t
enumerators_no_brace (rule.more_enumerators t ts) = enumerator_no_brace t

-- ---- lengths

no_longer : {R : List Token → List Token → Type 0} {a b : List Token} → IsFront R a b → length b ≤ length a
no_longer {a = a} {b = b} f = omega (arith, ap length f.split ∙ length-append f.front b)

pub specifier_shorter : {names : Names} {typed : Bool} {a b : List Token} {t : Tree} → Derives names (rule.specifier typed) a b t → length b < length a
specifier_shorter (rule.specifier_word e) = omega arith
specifier_shorter (rule.typedef_name e f) = omega arith
specifier_shorter (rule.struct_of d) = struct_shorter d
  where
    struct_shorter : {names : Names} {a b : List Token} {t : Tree} → Derives names rule.struct_specifier a b t → length b < length a
    struct_shorter (rule.struct_without_tag ms) = omega (arith, no_longer (fronts_of ms))
    struct_shorter (rule.struct_with_tag e ms) = omega (arith, no_longer (fronts_of ms))
    struct_shorter (rule.struct_tag e) = omega arith
specifier_shorter (rule.enum_of d) = enum_shorter d
  where
    enum_shorter : {names : Names} {a b : List Token} {t : Tree} → Derives names rule.enum_specifier a b t → length b < length a
    enum_shorter (rule.enum_without_tag es) = omega (arith, no_longer (fronts_of es))
    enum_shorter (rule.enum_with_tag e es) = omega (arith, no_longer (fronts_of es))
    enum_shorter (rule.enum_tag e) = omega arith

pub member_shorter : {names : Names} {a b : List Token} {t : Tree} → Derives names rule.member a b t → length b < length a
member_shorter (rule.member_of s ds) = omega (arith, no_longer (front_of s), no_longer (fronts_of ds))

-- what stands before a token is not longer, and so what is behind it is shorter
pub before_token : {names : Names} {part : Part} {a b : List Token} {t : Tree} {next : Token} → Derives names part a (next ∷ b) t → length b < length a
before_token d = omega (arith, no_longer (front_of d))
