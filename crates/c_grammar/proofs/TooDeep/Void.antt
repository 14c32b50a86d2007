-- What completes parameters that begin with the word `void`, and what parameters make of a declarator.
use Rattle.std.proofs.Common.{◌≡◌, ℕ, Bool, true, false, ◌||◌, List, [], ◌∷◌, ◌++◌, refl, sym, true≢false, codes, bytes_eq}
use Rattle.c_lexer.specs.declared.token.Punct.{Punct}
use Rattle.c_lexer.specs.declared.token.Punct.TheVariants.{LeftBracket, RightBracket, LeftParenthesis, RightParenthesis, Star, Comma}
use Rattle.c_lexer.specs.declared.token.Token.{Token}
use Rattle.c_syntax.specs.declared.kind.SynKind.TheVariants as kind
use Rattle.c_syntax.specs.Trees.{Tree, Forest, none, one, text_node}
use Rattle.c_grammar.specs.Vocabulary.{Place, mark, word, is_identifier, is_type_word, is_storage_word}
use Rattle.c_grammar.specs.Scopes.{Names, opened, after}
use Rattle.c_grammar.specs.Derivation as rule
use Rattle.c_grammar.specs.Derivation.{Derives, Lists, is_lone_void}
use Rattle.c_grammar.specs.Answers.{Ahead, word_ahead, mark_ahead}
use Rattle.c_grammar.specs.Reading.{begins_specifier_by, goes_on_behind_void_by, behind_one}
use Rattle.c_grammar.proofs.SoundSteps.{IsAhead, is_nothing, is_mark, is_word, is_integer, is_character, is_string, word_is}
use Rattle.c_grammar.proofs.SoundShapes.{IsVoid, is_void, parameters_void}
use Rattle.c_grammar.proofs.TooDeep.Steps.{Closing, Has, has, Cut}
use Rattle.c_grammar.proofs.TooDeep.Parts.{a_mark, a_word, a_name, int_specifiers}

-- ---- parameters of a declarator

-- whether they are `void` alone or not
pub takes_parameters : {names : Names} {a b c : List Token} {at at2 : Place} {x : Tree} {ps : Forest}
    → Derives names rule.direct_declarator a (mark LeftParenthesis at ∷ b) x
    → Lists (opened (after names x)) rule.parameters b (mark RightParenthesis at2 ∷ c) ps
    → Has (Derives names rule.direct_declarator) a c
takes_parameters {names = names} {a} {b} {c} {at} {at2} {x} {ps = ps} g m = by (is_lone_void ps) refl
  where
    alone : {b : List Token} → IsVoid b (mark RightParenthesis at2 ∷ c) → Derives names rule.direct_declarator a (mark LeftParenthesis at ∷ b) x → Has (Derives names rule.direct_declarator) a c
    alone is_void g = has _ (rule.takes_void g)

    by : (lone : Bool) → is_lone_void ps ≡ lone → Has (Derives names rule.direct_declarator) a c
    by true e = alone (parameters_void m e) g
    by false e = has _ (rule.takes g m e)

-- ---- behind `void`

void_list : {names : Names} {at : Place} {z : List Token} → Lists names (rule.specifier_list false) (word (codes "void") at ∷ z) z (one (text_node kind.Word (codes "void") at.start none))
void_list = rule.last_specifier (rule.specifier_word refl) refl

-- one of these is so
one_of : {X : Type 0} (p q r s t : Bool) → (p || (q || (r || (s || false)))) || t ≡ true
    → (p || q ≡ true → X) → (r ≡ true → X) → (s ≡ true → X) → (t ≡ true → X) → X
one_of true q r s t e first_ second_ third_ last_ = first_ refl
one_of false true r s t e first_ second_ third_ last_ = first_ refl
one_of false false true s t e first_ second_ third_ last_ = second_ refl
one_of false false false true t e first_ second_ third_ last_ = third_ refl
one_of false false false false t e first_ second_ third_ last_ = last_ e

-- parameters that begin with `void`, from behind the token t
record Goes (names : Names) (at : Place) (t : Token) : Type 0 where
  least : List Token
  completes : (z : List Token) → Closing z → Has (Lists names rule.parameters) (word (codes "void") at ∷ t ∷ (least ++ z)) z

word_goes : (names : Names) (at : Place) (text : List ℕ) (at2 : Place) → goes_on_behind_void_by (word_ahead text at2 []) ≡ true → Goes names at (word text at2)
unfolding goes_on_behind_void_by begins_specifier_by
word_goes names at text at2 e = one_of (is_type_word text) (is_storage_word text) (bytes_eq text (codes "struct")) (bytes_eq text (codes "enum")) (is_identifier text) e
    (λ e. record {
      least = [];
      completes = λ z _.
          has _ (rule.last_parameter (rule.bare_parameter (rule.specs (rule.more_specifiers (rule.specifier_word refl) (rule.last_specifier (rule.specifier_word e) refl)))));
    })
    (λ e. rw (word_is text _ e) (record {
      least = a_name ∷ [];
      completes = λ z _.
          has _ (rule.last_parameter (rule.bare_parameter (rule.specs (rule.more_specifiers (rule.specifier_word refl) (rule.last_specifier (rule.struct_of (rule.struct_tag refl)) refl)))));
    }))
    (λ e. rw (word_is text _ e) (record {
      least = a_name ∷ [];
      completes = λ z _.
          has _ (rule.last_parameter (rule.bare_parameter (rule.specs (rule.more_specifiers (rule.specifier_word refl) (rule.last_specifier (rule.enum_of (rule.enum_tag refl)) refl)))));
    }))
    (λ e. record { least = []; completes = λ z _. has _ (rule.last_parameter (rule.named_parameter (rule.specs void_list) (rule.direct (rule.declared_name e)))) })

mark_goes : (names : Names) (at : Place) (p : Punct) (at2 : Place) → goes_on_behind_void_by (mark_ahead p at2 []) ≡ true → Goes names at (mark p at2)
unfolding goes_on_behind_void_by
mark_goes names at Star at2 e = record { least = []; completes = λ z _. has _ (rule.last_parameter (rule.abstract_parameter (rule.specs void_list) (rule.bare_pointer rule.no_qualifier))) }
mark_goes names at LeftParenthesis at2 e = record {
  least = a_mark Star ∷ a_mark RightParenthesis ∷ [];
  completes = λ z _.
      has _ (rule.last_parameter (rule.abstract_parameter (rule.specs void_list) (rule.direct_of (rule.abstract_in_parentheses (rule.bare_pointer rule.no_qualifier)))));
}
mark_goes names at LeftBracket at2 e = record {
  least = a_mark RightBracket ∷ [];
  completes = λ z _.
      has _ (rule.last_parameter (rule.abstract_parameter (rule.specs void_list) (rule.direct_of (rule.bare_array rule.no_length))));
}
mark_goes names at Comma at2 e = record {
  least = a_word (codes "int") ∷ [];
  completes = λ z _.
      has _ (rule.more_parameters (rule.bare_parameter (rule.specs void_list)) (rule.last_parameter (rule.bare_parameter int_specifiers)));
}
mark_goes names at _ at2 e = absurd (true≢false (sym e))

-- behind `void` and the token that goes on
pub void_cut : (names : Names) (at : Place) {ts : List Token} {h : Ahead} → IsAhead ts h → goes_on_behind_void_by h ≡ true
    → Cut (Has (Lists names rule.parameters)) (word (codes "void") at ∷ ts) (behind_one ts)
unfolding goes_on_behind_void_by begins_specifier_by
void_cut names at is_nothing e = absurd (true≢false (sym e))
void_cut names at (is_word {text = text} {at = at2}) e = let g = word_goes names at text at2 e in
    record { head = _; front = word text at2 ∷ []; split = refl; least = g.least; completes = g.completes }
void_cut names at (is_mark {p = p} {at = at2}) e = let g = mark_goes names at p at2 e in
    record { head = _; front = mark p at2 ∷ []; split = refl; least = g.least; completes = g.completes }
void_cut names at is_integer e = absurd (true≢false (sym e))
void_cut names at is_character e = absurd (true≢false (sym e))
void_cut names at is_string e = absurd (true≢false (sym e))
