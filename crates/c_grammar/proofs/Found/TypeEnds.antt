-- What stands behind types and declarators, by the first token.
use Rattle.std.proofs.Common.{◌≡◌, Bool, true, false, not, ◌||◌, ◌&&◌, List, [], ◌∷◌, refl, sym, ap, true≢false, bytes_eq}
use Rattle.std.proofs.lemmas.Slice.Eq.{bytes_eq-Decides}
use Rattle.c_lexer.specs.declared.token.Punct.{Punct}
use Rattle.c_lexer.specs.declared.token.Punct.TheVariants.{LeftBracket, RightBracket, LeftParenthesis, RightParenthesis, LeftBrace, RightBrace, Question, Colon, Semicolon, Equal, Comma}
use Rattle.c_lexer.specs.declared.token.Token.{Token}
use Rattle.c_lexer.specs.declared.token.TokenKind.{TokenKind}
use Rattle.c_lexer.specs.declared.token.TokenKind.TheVariants as token
use Rattle.c_lexer.specs.Marks.{mark_text}
use Rattle.c_grammar.specs.Vocabulary.{is_identifier, is_type_word, is_storage_word, Place}
use Rattle.c_grammar.specs.Scopes.{Names, is_typedef_name}
use Rattle.c_grammar.specs.Derivation.{begins_with_typedef_name, is_typedef_token}
use Rattle.c_grammar.specs.Answers.{Ahead, mark_ahead, word_ahead, ahead, ahead_by, same_mark}
use Rattle.c_grammar.specs.Reading.{begins_specifier_by, begins_specifier, begins_with_mark_by, begins_with_mark, behind_const, behind_const_by}
use Rattle.c_grammar.proofs.Found.Claims.{closes, ends_declarator, ends_specs, ends_conditional, no_string_by, no_suffix_by, no_operator_by}

-- ---- marks

pub or_left : (p q : Bool) → p ≡ true → p || q ≡ true
or_left p q e = rw e refl

pub or_right : (p q : Bool) → q ≡ true → p || q ≡ true
or_right true q e = refl
or_right false q e = e

-- where one mark is ahead, another is not
pub begins_as : (p r : Punct) (b : List Token) → begins_with_mark p b ≡ true → begins_with_mark r b ≡ same_mark r p
begins_as p r b e = at (ahead b) e
  where
    at : (x : Ahead) → begins_with_mark_by p x ≡ true → begins_with_mark_by r x ≡ same_mark r p
    at (mark_ahead q place rest) e = ap (λ t. bytes_eq (mark_text r) t) (sym ((bytes_eq-Decides (mark_text p) (mark_text q)).0 e))
    at other e = absurd (true≢false (sym e))

pub right_parenthesis_closes : (b : List Token) → begins_with_mark RightParenthesis b ≡ true → closes b ≡ true
right_parenthesis_closes b e = or_right (begins_with_mark Comma b) _ (or_left _ _ e)

pub right_bracket_closes : (b : List Token) → begins_with_mark RightBracket b ≡ true → closes b ≡ true
right_bracket_closes b e = or_right (begins_with_mark Comma b) _ (or_right (begins_with_mark RightParenthesis b) _ (or_left _ _ e))

pub right_brace_closes : (b : List Token) → begins_with_mark RightBrace b ≡ true → closes b ≡ true
right_brace_closes b e = or_right (begins_with_mark Comma b) _ (or_right (begins_with_mark RightParenthesis b) _ (or_right (begins_with_mark RightBracket b) _ (or_left _ _ e)))

pub semicolon_closes : (b : List Token) → begins_with_mark Semicolon b ≡ true → closes b ≡ true
semicolon_closes b e = or_right (begins_with_mark Comma b) _ (or_right (begins_with_mark RightParenthesis b) _ (or_right (begins_with_mark RightBracket b) _ (or_right (begins_with_mark RightBrace b) _ (or_left _ _ e))))

-- ---- behind parts

abbrev closes_by : Ahead → Bool
closes_by x = begins_with_mark_by Comma x || (begins_with_mark_by RightParenthesis x || (begins_with_mark_by RightBracket x || (begins_with_mark_by RightBrace x || (begins_with_mark_by Semicolon x || begins_with_mark_by Colon x))))

module _ (P : Ahead → Type 0) (all : (p : Punct) (at : Place) (rest : List Token) → closes_by (mark_ahead p at rest) ≡ true → P (mark_ahead p at rest)) where
  closing_by : (x : Ahead) → closes_by x ≡ true → P x
  closing_by (mark_ahead p at rest) e = all p at rest e
  closing_by other e = absurd (true≢false (sym e))

-- what holds of the six marks holds of what closes
pub closing : (P : Ahead → Type 0)
    → ((at : Place) (rest : List Token) → P (mark_ahead Comma at rest))
    → ((at : Place) (rest : List Token) → P (mark_ahead RightParenthesis at rest))
    → ((at : Place) (rest : List Token) → P (mark_ahead RightBracket at rest))
    → ((at : Place) (rest : List Token) → P (mark_ahead RightBrace at rest))
    → ((at : Place) (rest : List Token) → P (mark_ahead Semicolon at rest))
    → ((at : Place) (rest : List Token) → P (mark_ahead Colon at rest))
    → (b : List Token) → closes b ≡ true → P (ahead b)
closing P f g h i j k b e = closing_by P by (ahead b) e
  where
    by : (p : Punct) (at : Place) (rest : List Token) → closes_by (mark_ahead p at rest) ≡ true → P (mark_ahead p at rest)
    by Comma at rest e = f at rest
    by RightParenthesis at rest e = g at rest
    by RightBracket at rest e = h at rest
    by RightBrace at rest e = i at rest
    by Semicolon at rest e = j at rest
    by Colon at rest e = k at rest
    by other at rest e = absurd (true≢false (sym e))

pub closes_bracket : (b : List Token) → closes b ≡ true → begins_with_mark LeftBracket b ≡ false
closes_bracket = closing (λ x. begins_with_mark_by LeftBracket x ≡ false) (λ at rest. refl) (λ at rest. refl) (λ at rest. refl) (λ at rest. refl) (λ at rest. refl) (λ at rest. refl)

pub closes_parenthesis : (b : List Token) → closes b ≡ true → begins_with_mark LeftParenthesis b ≡ false
closes_parenthesis = closing (λ x. begins_with_mark_by LeftParenthesis x ≡ false) (λ at rest. refl) (λ at rest. refl) (λ at rest. refl) (λ at rest. refl) (λ at rest. refl) (λ at rest. refl)

pub closes_equal : (b : List Token) → closes b ≡ true → begins_with_mark Equal b ≡ false
closes_equal = closing (λ x. begins_with_mark_by Equal x ≡ false) (λ at rest. refl) (λ at rest. refl) (λ at rest. refl) (λ at rest. refl) (λ at rest. refl) (λ at rest. refl)

pub closes_declarator : (b : List Token) → closes b ≡ true → ends_declarator b ≡ true
closes_declarator b e = rw (closes_bracket b e, closes_parenthesis b e) refl

pub closes_specs : (names : Names) (b : List Token) → closes b ≡ true → ends_specs names b ≡ true
unfolding begins_specifier_by
closes_specs names = closing (λ x. not (begins_specifier_by true names x) && not (begins_with_mark_by LeftBrace x) ≡ true)
    (λ at rest. refl) (λ at rest. refl) (λ at rest. refl) (λ at rest. refl) (λ at rest. refl) (λ at rest. refl)

pub closes_conditional : (b : List Token) → closes b ≡ true → ends_conditional b ≡ true
closes_conditional = closing (λ x. ((no_string_by x && no_suffix_by x) && no_operator_by 10 x) && not (begins_with_mark_by Question x) ≡ true)
    (λ at rest. refl) (λ at rest. refl) (λ at rest. refl) (λ at rest. refl) (λ at rest. refl) (λ at rest. refl)

-- ---- specs end

spec_end : (p q r s typed i n l : Bool) → not (p || (q || (r || (s || false)))) && l ≡ true → typed || not (i && n) ≡ true
    → p || (q || (r || (s || (not typed && (i && n))))) ≡ false
spec_end true q r s typed i n l e f = absurd (true≢false (sym e))
spec_end false true r s typed i n l e f = absurd (true≢false (sym e))
spec_end false false true s typed i n l e f = absurd (true≢false (sym e))
spec_end false false false true typed i n l e f = absurd (true≢false (sym e))
spec_end false false false false true i n l e f = refl
spec_end false false false false false true true l e f = absurd (true≢false (sym f))
spec_end false false false false false true false l e f = refl
spec_end false false false false false false n l e f = refl

-- no longer specs stand there
pub specs_end : (typed : Bool) (names other : Names) (b : List Token) → ends_specs names b ≡ true → typed || not (begins_with_typedef_name other b) ≡ true
    → begins_specifier typed other b ≡ false
unfolding begins_specifier_by ahead ahead_by
specs_end typed names other [] e f = refl
specs_end typed names other (t ∷ rest) e f = at t.kind _ e f
  where
    at : (kind : TokenKind) (place : Place)
        → not (begins_specifier_by true names (ahead_by kind place rest)) && not (begins_with_mark_by LeftBrace (ahead_by kind place rest)) ≡ true
        → typed || not (is_typedef_token other kind) ≡ true → begins_specifier_by typed other (ahead_by kind place rest) ≡ false
    at (token.Word text) place e f = spec_end (is_type_word text) (is_storage_word text) _ _ typed (is_identifier text) (is_typedef_name other text) true e f
    at (token.Punct p) place e f = refl
    at (token.Int v type) place e f = refl
    at (token.Char v) place e f = refl
    at (token.Str bytes) place e f = refl

-- no names bear on that
pub specs_end_any : (names other : Names) (b : List Token) → ends_specs names b ≡ true → ends_specs other b ≡ true
unfolding begins_specifier_by
specs_end_any names other b e = at (ahead b) e
  where
    at : (x : Ahead) → not (begins_specifier_by true names x) && not (begins_with_mark_by LeftBrace x) ≡ true
        → not (begins_specifier_by true other x) && not (begins_with_mark_by LeftBrace x) ≡ true
    at (word_ahead text place rest) e = e
    at other e = e

pub specs_no_brace : (names : Names) (b : List Token) → ends_specs names b ≡ true → begins_with_mark LeftBrace b ≡ false
specs_no_brace names b e = second (begins_specifier true names b) (begins_with_mark LeftBrace b) e
  where
    second : (p q : Bool) → not p && not q ≡ true → q ≡ false
    second true q e = absurd (true≢false (sym e))
    second false q e = not_so q e
      where
        not_so : (q : Bool) → not q ≡ true → q ≡ false
        not_so true e = sym e
        not_so false e = refl

-- ---- no `const`

pub closes_const : (b : List Token) → closes b ≡ true → behind_const b ≡ b
unfolding ahead ahead_by behind_const behind_const_by
closes_const [] e = refl
closes_const (t ∷ rest) e = at t.kind _ e
  where
    at : (kind : TokenKind) (place : Place) → closes_by (ahead_by kind place rest) ≡ true → behind_const_by kind (t ∷ rest) (behind_const rest) ≡ t ∷ rest
    at (token.Word text) place e = absurd (true≢false (sym e))
    at other place e = refl
