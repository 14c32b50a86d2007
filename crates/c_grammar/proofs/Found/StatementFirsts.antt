-- What the first tokens of a part decide.
use Rattle.std.proofs.Common.{◌≡◌, ℕ, Bool, true, false, List, [], ◌∷◌, refl, sym, ap, ◌∙◌, subst, true≢false}
use Rattle.std.proofs.lemmas.Slice.Eq.{bytes_eq-Decides}
use Rattle.std.specs.Prelude.{◌||◌, ◌&&◌, codes}
use Rattle.std.specs.Str.{bytes_eq}
use Rattle.c_lexer.specs.declared.token.Punct.{Punct}
use Rattle.c_lexer.specs.declared.token.Punct.TheVariants.{LeftParenthesis, RightParenthesis, PlusPlus, MinusMinus, LeftBrace, RightBrace, Semicolon}
use Rattle.c_lexer.specs.declared.token.Token.{Token}
use Rattle.c_lexer.specs.declared.token.TokenKind.{TokenKind}
use Rattle.c_lexer.specs.declared.token.TokenKind.TheVariants as token
use Rattle.c_syntax.specs.Trees.{Tree}
use Rattle.c_grammar.specs.Vocabulary.{is_identifier, is_type_word, is_storage_word, is_unary_operator, Place, word}
use Rattle.c_grammar.specs.Scopes.{Names, is_typedef_name}
use Rattle.c_grammar.specs.Derivation as grammar
use Rattle.c_grammar.specs.Derivation.{Part, Row, Derives, Lists}
use Rattle.c_grammar.specs.Answers.{ahead, ahead_by}
use Rattle.c_grammar.specs.Reading.{Reader, begins_specifier, begins_specifier_by, begins_with_mark, begins_with_mark_by, begins_with_word, begins_with_word_by, begins_label, statement_by, keyword_by, expression_statement_in, initializer_by, assignment_in}
use Rattle.c_grammar.proofs.Found.Claims.{Is, ends_specs}
use Rattle.c_grammar.proofs.FirstTokens.{Front, of_specs, of_expression, of_statement, front, kind_front, mark_front, keyword_front, word_front, begins_statement, no_identifier, typedef_specs, keyword_specs}

-- ---- words

-- a text of which something holds is none of which it does not hold
apart : (test : List ℕ → Type 0) (text other : List ℕ) → test text → (test other → ⊥) → bytes_eq text other ≡ false
apart test text other holds fails = by (bytes_eq text other) refl
  where
    by : (p : Bool) → bytes_eq text other ≡ p → p ≡ false
    by true e = absurd (fails (subst test ((bytes_eq-Decides text other).0 e) holds))
    by false e = refl

same_text : (text other : List ℕ) → bytes_eq other text ≡ true → bytes_eq text other ≡ true
same_text text other e = (bytes_eq-Decides text other).1 (sym ((bytes_eq-Decides other text).0 e))

abbrev IsName : List ℕ → Type 0
IsName text = is_identifier text ≡ true

either_false : (p q : Bool) → (p || q ≡ true → ⊥) → (p ≡ false) × (q ≡ false)
either_false true q no_way = absurd (no_way refl)
either_false false true no_way = absurd (no_way refl)
either_false false false no_way = (refl, refl)

-- an identifier begins no specs, apart from typedef names
name_ends_specs : (text : List ℕ) → is_identifier text ≡ true
    → is_type_word text || (is_storage_word text || (bytes_eq text (codes "struct") || (bytes_eq text (codes "enum") || false))) ≡ false
name_ends_specs text e =
    let words = either_false (is_type_word text) (is_storage_word text) (λ f. true≢false (sym e ∙ no_identifier text f)) in
    let struct = apart IsName text (codes "struct") e (λ f. true≢false (sym f)) in
    let enum = apart IsName text (codes "enum") e (λ f. true≢false (sym f)) in
    rw (words.0, words.1, struct, enum) refl

-- ---- specs or none

module _ (names : Names) (text : List ℕ) where
  -- the word begins specs
  abbrev begins : Bool
  begins = is_type_word text || (is_storage_word text || (bytes_eq text (codes "struct") || (bytes_eq text (codes "enum") || (is_identifier text && is_typedef_name names text))))

  word_begins_front : begins ≡ true → kind_front names (token.Word text) ≡ of_specs
  word_begins_front = by (is_type_word text) refl (is_storage_word text) refl (bytes_eq text (codes "struct")) refl (bytes_eq text (codes "enum")) refl (is_identifier text) refl (is_typedef_name names text) refl
    where
      at : (w : List ℕ) → bytes_eq text w ≡ true → kind_front names (token.Word w) ≡ of_specs → kind_front names (token.Word text) ≡ of_specs
      at w e f = subst (λ t. kind_front names (token.Word t) ≡ of_specs) (sym ((bytes_eq-Decides text w).0 e)) f

      by : (tw : Bool) → is_type_word text ≡ tw → (sw : Bool) → is_storage_word text ≡ sw
          → (st : Bool) → bytes_eq text (codes "struct") ≡ st → (en : Bool) → bytes_eq text (codes "enum") ≡ en
          → (id : Bool) → is_identifier text ≡ id → (td : Bool) → is_typedef_name names text ≡ td
          → tw || (sw || (st || (en || (id && td)))) ≡ true → kind_front names (token.Word text) ≡ of_specs
      by true e sw f st g en h id i td j all = keyword_specs names text (rw e refl)
      by false e true f st g en h id i td j all = keyword_specs names text (rw (e, f) refl)
      by false e false f true g en h id i td j all = at (codes "struct") g refl
      by false e false f false g true h id i td j all = at (codes "enum") h refl
      by false e false f false g false h true i true j all = typedef_specs names text i j
      by false e false f false g false h true i false j all = absurd (true≢false (sym all))
      by false e false f false g false h false i td j all = absurd (true≢false (sym all))

  last_true : (p q r s : Bool) → p || (q || (r || (s || true))) ≡ true
  last_true true q r s = refl
  last_true false true r s = refl
  last_true false false true s = refl
  last_true false false false true = refl
  last_true false false false false = refl

  front_begins_word : kind_front names (token.Word text) ≡ of_specs → begins ≡ true
  front_begins_word = by (is_identifier text) (is_typedef_name names text)
    where
      from_keyword : (p q r : Bool) → keyword_front p q r ≡ of_specs → p ≡ true
      from_keyword true q r e = refl
      from_keyword false true r e = absurd (cc e)
      from_keyword false false true e = absurd (cc e)
      from_keyword false false false e = absurd (cc e)

      turned : (tw sw st en s2 n2 last : Bool) → (s2 ≡ true → st ≡ true) → (n2 ≡ true → en ≡ true)
          → (tw || sw) || (s2 || (n2 || false)) ≡ true → tw || (sw || (st || (en || last))) ≡ true
      turned true sw st en s2 n2 last f g e = refl
      turned false true st en s2 n2 last f g e = refl
      turned false false st en true n2 last f g e = rw (f refl) refl
      turned false false true en false true last f g e = refl
      turned false false false en false true last f g e = rw (g refl) refl
      turned false false st en false false last f g e = absurd (true≢false (sym e))

      by : (id td : Bool) → word_front id td (is_type_word text || is_storage_word text) text ≡ of_specs
          → is_type_word text || (is_storage_word text || (bytes_eq text (codes "struct") || (bytes_eq text (codes "enum") || (id && td)))) ≡ true
      by true true e = last_true (is_type_word text) (is_storage_word text) (bytes_eq text (codes "struct")) (bytes_eq text (codes "enum"))
      by true false e = absurd (cc e)
      by false td e =
          turned (is_type_word text) (is_storage_word text) (bytes_eq text (codes "struct")) (bytes_eq text (codes "enum")) (bytes_eq (codes "struct") text) (bytes_eq (codes "enum") text) false
          (same_text text (codes "struct")) (same_text text (codes "enum")) (from_keyword _ _ _ e)

-- ---- the first token

no_mark_specs : (unary : Bool) (p : Punct) → mark_front unary p ≡ of_specs → ⊥
no_mark_specs true p e = cc e
no_mark_specs false LeftParenthesis e = cc e
no_mark_specs false PlusPlus e = cc e
no_mark_specs false MinusMinus e = cc e
no_mark_specs false LeftBrace e = cc e
no_mark_specs false Semicolon e = cc e
no_mark_specs false p e = cc e

pub specs_begin : (names : Names) (a : List Token) → front names a ≡ of_specs → begins_specifier false names a ≡ true
unfolding begins_specifier_by ahead ahead_by
specs_begin names [] e = absurd (cc e)
specs_begin names (t ∷ rest) e = by t.kind e
  where
    by : (k : TokenKind) → kind_front names k ≡ of_specs → begins_specifier_by false names (ahead_by k (record { start = t.start; end = t.end }) rest) ≡ true
    by (token.Word text) e = front_begins_word names text e
    by (token.Punct p) e = absurd (no_mark_specs (is_unary_operator p) p e)
    by (token.Int value type) e = absurd (cc e)
    by (token.Char value) e = absurd (cc e)
    by (token.Str bytes) e = absurd (cc e)

pub no_specs_begin : (names : Names) (a : List Token) → begins_statement (front names a) ≡ true → begins_specifier false names a ≡ false
unfolding begins_specifier_by ahead ahead_by
no_specs_begin names [] e = refl
no_specs_begin names (t ∷ rest) e = by t.kind e
  where
    test : (text : List ℕ) (p : Bool) → begins names text ≡ p → begins_statement (kind_front names (token.Word text)) ≡ true → p ≡ false
    test text true f e = absurd (true≢false (sym e ∙ ap begins_statement (word_begins_front names text f)))
    test text false f e = refl

    by : (k : TokenKind) → begins_statement (kind_front names k) ≡ true → begins_specifier_by false names (ahead_by k (record { start = t.start; end = t.end }) rest) ≡ false
    by (token.Word text) e = test text (begins names text) refl e
    by other e = refl

-- an expression as a statement
module _ (d : ℕ) (r : Reader) (names : Names) where
  no_keyword : (text other : List ℕ) → kind_front names (token.Word other) ≡ of_statement → kind_front names (token.Word text) ≡ of_expression → bytes_eq text other ≡ false
  no_keyword text other f e = apart (λ t. kind_front names (token.Word t) ≡ of_expression) text other e (λ g. cc (f, g))

  pub reads_expression : (a : List Token) → front names a ≡ of_expression → statement_by d r names a (ahead a) ≡ expression_statement_in d r names a
  unfolding statement_by keyword_by ahead ahead_by
  reads_expression [] e = absurd (cc e)
  reads_expression (t ∷ rest) e = by t.kind e
    where
      at : Place
      at = record { start = t.start; end = t.end }

      by : (k : TokenKind) → kind_front names k ≡ of_expression → statement_by d r names (t ∷ rest) (ahead_by k at rest) ≡ expression_statement_in d r names (t ∷ rest)
      by (token.Word text) e =
          rw (
            no_keyword text (codes "if") refl e,
            no_keyword text (codes "while") refl e,
            no_keyword text (codes "do") refl e,
            no_keyword text (codes "for") refl e,
            no_keyword text (codes "return") refl e,
            no_keyword text (codes "break") refl e,
            no_keyword text (codes "continue") refl e,
            no_keyword text (codes "switch") refl e,
          ) refl
      by (token.Punct LeftBrace) e = absurd (cc e)
      by (token.Punct Semicolon) e = absurd (cc e)
      by other e = refl

  -- and as an initializer
  pub reads_assignment : (a : List Token) → front names a ≡ of_expression → initializer_by d r names a (ahead a) ≡ assignment_in d r names a
  unfolding initializer_by ahead ahead_by
  reads_assignment [] e = absurd (cc e)
  reads_assignment (t ∷ rest) e = by t.kind e
    where
      at : Place
      at = record { start = t.start; end = t.end }

      by : (k : TokenKind) → kind_front names k ≡ of_expression → initializer_by d r names (t ∷ rest) (ahead_by k at rest) ≡ assignment_in d r names (t ∷ rest)
      by (token.Punct LeftBrace) e = absurd (cc e)
      by other e = refl

-- marks that no part begins with
module _ (names : Names) where
  pub no_brace : (a : List Token) → (front names a ≡ Front.other → ⊥) → begins_with_mark RightBrace a ≡ false
  unfolding ahead ahead_by
  no_brace [] no_way = refl
  no_brace (t ∷ rest) no_way = by t.kind no_way
    where
      by : (k : TokenKind) → (kind_front names k ≡ Front.other → ⊥) → begins_with_mark_by RightBrace (ahead_by k (record { start = t.start; end = t.end }) rest) ≡ false
      by (token.Punct RightBrace) no_way = absurd (no_way refl)
      by other no_way = refl

  pub no_parenthesis : (a : List Token) → (front names a ≡ Front.other → ⊥) → begins_with_mark RightParenthesis a ≡ false
  unfolding ahead ahead_by
  no_parenthesis [] no_way = refl
  no_parenthesis (t ∷ rest) no_way = by t.kind no_way
    where
      by : (k : TokenKind) → (kind_front names k ≡ Front.other → ⊥) → begins_with_mark_by RightParenthesis (ahead_by k (record { start = t.start; end = t.end }) rest) ≡ false
      by (token.Punct RightParenthesis) no_way = absurd (no_way refl)
      by other no_way = refl

  pub no_semicolon : (a : List Token) → (front names a ≡ of_statement → ⊥) → begins_with_mark Semicolon a ≡ false
  unfolding ahead ahead_by
  no_semicolon [] no_way = refl
  no_semicolon (t ∷ rest) no_way = by t.kind no_way
    where
      by : (k : TokenKind) → (kind_front names k ≡ of_statement → ⊥) → begins_with_mark_by Semicolon (ahead_by k (record { start = t.start; end = t.end }) rest) ≡ false
      by (token.Punct Semicolon) no_way = absurd (no_way refl)
      by other no_way = refl

  -- nor a word like `else`
  no_such_word : (word : List ℕ) → kind_front names (token.Word word) ≡ Front.other → (a : List Token) → (front names a ≡ Front.other → ⊥) → begins_with_word word a ≡ false
  unfolding ahead ahead_by
  no_such_word word f [] no_way = refl
  no_such_word word f (t ∷ rest) no_way = by t.kind no_way
    where
      at : (text : List ℕ) → (kind_front names (token.Word text) ≡ Front.other → ⊥) → (p : Bool) → bytes_eq word text ≡ p → p ≡ false
      at text no_way true e = absurd (no_way (subst (λ t. kind_front names (token.Word t) ≡ Front.other) ((bytes_eq-Decides word text).0 e) f))
      at text no_way false e = refl

      by : (k : TokenKind) → (kind_front names k ≡ Front.other → ⊥) → begins_with_word_by word (ahead_by k (record { start = t.start; end = t.end }) rest) ≡ false
      by (token.Word text) no_way = at text no_way (bytes_eq word text) refl
      by other no_way = refl

  pub no_else_word : (a : List Token) → (front names a ≡ Front.other → ⊥) → begins_with_word (codes "else") a ≡ false
  no_else_word a no_way = no_such_word (codes "else") refl a no_way

  pub no_label_begins : (a : List Token) → (front names a ≡ Front.other → ⊥) → begins_label a ≡ false
  no_label_begins a no_way = rw (no_such_word (codes "case") refl a no_way, no_such_word (codes "default") refl a no_way) refl

-- ---- declarators

abbrev pub DeclaratorBegins : List Token → Type 0
DeclaratorBegins a = (begins_with_mark Semicolon a ≡ false) × ((names : Names) → Is (ends_specs names a))

abbrev pub BeginsDeclarator : Part → List Token → Type 0
BeginsDeclarator Part.declarator a = DeclaratorBegins a
BeginsDeclarator Part.direct_declarator a = DeclaratorBegins a
BeginsDeclarator part a = Unit {0}

name_begins : (text : List ℕ) (at : Place) (b : List Token) → is_identifier text ≡ true → DeclaratorBegins (word text at ∷ b)
unfolding begins_specifier_by ahead ahead_by
name_begins text at b e = (refl, λ names. rw (name_ends_specs text e) refl)

pub declarator_begins : {names : Names} {part : Part} {a b : List Token} {t : Tree} → Derives names part a b t → BeginsDeclarator part a
unfolding begins_specifier_by ahead ahead_by
declarator_begins (grammar.pointer q d) = (refl, λ names. refl)
declarator_begins (grammar.direct d) = declarator_begins d
declarator_begins (grammar.declared_name {text = text} {at = at} {b = b} e) = name_begins text at b e
declarator_begins (grammar.declarator_in_parentheses d) = (refl, λ names. refl)
declarator_begins (grammar.array_of d n) = declarator_begins d
declarator_begins (grammar.takes_anything d) = declarator_begins d
declarator_begins (grammar.takes_void d) = declarator_begins d
declarator_begins (grammar.takes d ps e) = declarator_begins d
declarator_begins _ = tt
