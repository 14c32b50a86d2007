-- What is read as specs, a declarator or a type name within a budget is derived, where the next lower budget reads so.
use Rattle.std.proofs.Common.{◌≡◌, ℕ, zero, suc, ◌≤◌, Bool, true, false, ◌&&◌, ◌||◌, not, List, [], ◌∷◌, length, refl, ap, true≢false, arith, codes, bytes_eq}
use Rattle.c_lexer.specs.declared.token.Punct.TheVariants.{LeftBrace, RightBrace}
use Rattle.c_lexer.specs.declared.token.Token.{Token}
use Rattle.c_lexer.specs.declared.token.TokenKind.{TokenKind}
use Rattle.c_lexer.specs.declared.token.TokenKind.TheVariants as token
use Rattle.c_syntax.specs.declared.kind.SynKind.{SynKind}
use Rattle.c_syntax.specs.declared.kind.SynKind.TheVariants as kind
use Rattle.c_syntax.specs.Trees.{Tree, Forest, none, text_node}
use Rattle.c_grammar.specs.Vocabulary.{Place, mark, word, is_identifier, is_type_word, is_storage_word}
use Rattle.c_grammar.specs.Scopes.{Names, is_typedef_name, says_type, after}
use Rattle.c_grammar.specs.Derivation as rule
use Rattle.c_grammar.specs.Derivation.{Derives, Lists, start, no_name, is_typedef_token, begins_with_typedef_name}
use Rattle.c_grammar.specs.Answers.{Answer, Ahead, ahead, ahead_by}
use Rattle.c_grammar.specs.Reading.{Reader, Goal, Rows, lower, begins_specifier, begins_specifier_by, body_in, tagged_by, tag_by, specifier_by, specifier_in, specifier_list_in, specifiers_in, specs_first}
use Rattle.c_grammar.specs.Meanings.{AreTrees}
use Rattle.c_grammar.proofs.FirstTokens.{not_true}
use Rattle.c_grammar.proofs.SoundSteps.{Says, says_found, says_wrong, Is, Are, says_then, says_map, says_if, says_fit, says_lower, says_close, IsAhead, is_mark, is_word, ahead_is, word_is, both_true}
use Rattle.c_grammar.proofs.SoundShapes.{some_specs}
use Rattle.c_grammar.proofs.SoundExpressions.{IsSound, says_good, says_as}

-- there is no tree within no budget
pub says_lower_tree : {R : List Token → List Token → Tree → Type 0} {a : List Token} (d : ℕ) {own nested : Answer Tree}
    → Says (Is (suc d) R a) own
    → Says (Is d R a) nested
    → Says (Is d R a) (lower d own nested)
says_lower_tree d own nested = says_lower d (λ z. says_map own (λ t b g. absurd (omega (arith, z, g.fits)))) nested

-- ---- within the budget d

last_false : (p q r s t : Bool) → p || (q || (r || (s || t))) ≡ false → t ≡ false
last_false true q r s t e = absurd (true≢false e)
last_false false true r s t e = absurd (true≢false e)
last_false false false true s t e = absurd (true≢false e)
last_false false false false true t e = absurd (true≢false e)
last_false false false false false t e = e

-- where no specifier goes on, no typedef name would be read as one
no_more_specs : (p q : Bool) (names : Names) (rest : List Token) → begins_specifier (p || q) names rest ≡ false → p || q || not (begins_with_typedef_name names rest) ≡ true
unfolding ahead ahead_by begins_specifier_by
no_more_specs true q names rest e = refl
no_more_specs false true names rest e = refl
no_more_specs false false names [] e = refl
no_more_specs false false names (t ∷ rest) e = by t.kind e
  where
    by : (k : TokenKind) → begins_specifier_by false names (ahead_by k (record { start = t.start; end = t.end }) rest) ≡ false → not (is_typedef_token names k) ≡ true
    by (token.Word text) e = ap not (last_false (is_type_word text) (is_storage_word text) (bytes_eq text (codes "struct")) (bytes_eq text (codes "enum")) (is_identifier text && is_typedef_name names text) e)
    by (token.Punct p) e = refl
    by (token.Int value type) e = refl
    by (token.Char value) e = refl
    by (token.Str bytes) e = refl

module _ (d : ℕ) (r : Reader) (sound : IsSound d r) where
  body_sound : {R : List Token → List Token → Tree → Type 0} (k : SynKind) (row : Rows) (names : Names) (tag : List ℕ) (at : Place) (a rest : List Token)
      → ((c : List Token) (at2 : Place) (ts : Forest) → AreTrees row names rest (mark RightBrace at2 ∷ c) ts → R a c (text_node k tag at.start ts))
      → Says (Is (suc d) R a) (body_in d r k row names tag at rest)
  unfolding body_in
  body_sound k row names tag at a rest body = says_fit _ _ _ (λ le.
      says_then (sound.trees row names rest) (λ ts behind s.
      says_close RightBrace s (λ at2 end e. says_good (body end at2 ts e) (omega arith))))

  -- `struct` and `enum`
  module _ (R : List Token → List Token → Tree → Type 0) (k : SynKind) (row : Rows) (names : Names) (keyword : List ℕ) (at : Place)
      (without_tag : (a b : List Token) (at2 at3 : Place) (ts : Forest)
      → AreTrees row names a (mark RightBrace at3 ∷ b) ts
      → R (word keyword at ∷ mark LeftBrace at2 ∷ a) b (text_node k [] at.start ts))
      (with_tag : (text : List ℕ) (a b : List Token) (at2 at3 at4 : Place) (ts : Forest)
      → is_identifier text ≡ true
      → AreTrees row names a (mark RightBrace at4 ∷ b) ts
      → R (word keyword at ∷ word text at2 ∷ mark LeftBrace at3 ∷ a) b (text_node k text at.start ts))
      (tag_alone : (text : List ℕ) (b : List Token) (at2 : Place)
      → is_identifier text ≡ true
      → R (word keyword at ∷ word text at2 ∷ b) b (text_node k text at.start none)) where
    tagged_sound : (tag : List ℕ) (at2 : Place) → 1 ≤ d → is_identifier tag ≡ true → {rest : List Token} {h : Ahead} → IsAhead rest h
        → Says (Is (suc d) R (word keyword at ∷ word tag at2 ∷ rest)) (tagged_by d r k row names tag at rest h)
    unfolding tagged_by
    tagged_sound tag at2 le e (is_mark {p = LeftBrace} {at = at3} {rest = behind}) =
        body_sound k row names tag at _ behind (λ c at4 ts m. with_tag tag behind c at2 at3 at4 ts e m)
    tagged_sound tag at2 le e {rest} _ = says_good (tag_alone tag rest at2 e) (omega (arith, le))

    tag_sound : 1 ≤ d → {rest : List Token} {h : Ahead} → IsAhead rest h → Says (Is (suc d) R (word keyword at ∷ rest)) (tag_by d r k row names at rest h)
    unfolding tag_by
    tag_sound le (is_word {text = tag} {at = at2} {rest = behind}) = says_if (is_identifier tag) (λ e. tagged_sound tag at2 le e (ahead_is behind)) (λ e. says_wrong)
    tag_sound le (is_mark {p = LeftBrace} {at = at2} {rest = behind}) = body_sound k row names [] at _ behind (λ c at3 ts m. without_tag behind c at2 at3 ts m)
    tag_sound le _ = says_wrong

  struct_sound : (names : Names) (at : Place) (rest : List Token) → 1 ≤ d
      → Says (Is (suc d) (Derives names rule.struct_specifier) (word (codes "struct") at ∷ rest)) (tag_by d r kind.StructSpec Rows.members names at rest (ahead rest))
  struct_sound names at rest le = tag_sound (Derives names rule.struct_specifier) kind.StructSpec Rows.members names (codes "struct") at
      (λ a b at2 at3 ts m. rule.struct_without_tag m)
      (λ text a b at2 at3 at4 ts e m. rule.struct_with_tag e m)
      (λ text b at2 e. rule.struct_tag e)
      le (ahead_is rest)

  enum_sound : (names : Names) (at : Place) (rest : List Token) → 1 ≤ d
      → Says (Is (suc d) (Derives names rule.enum_specifier) (word (codes "enum") at ∷ rest)) (tag_by d r kind.EnumSpec Rows.enumerators names at rest (ahead rest))
  enum_sound names at rest le = tag_sound (Derives names rule.enum_specifier) kind.EnumSpec Rows.enumerators names (codes "enum") at
      (λ a b at2 at3 ts m. rule.enum_without_tag m)
      (λ text a b at2 at3 at4 ts e m. rule.enum_with_tag e m)
      (λ text b at2 e. rule.enum_tag e)
      le (ahead_is rest)

  specifier_sound_by : (typed : Bool) (names : Names) {ts : List Token} {h : Ahead} → IsAhead ts h → Says (Is (suc d) (Derives names (rule.specifier typed)) ts) (specifier_by d r typed names ts h)
  unfolding specifier_by
  specifier_sound_by typed names (is_word {text = text} {at = at} {rest = rest}) = says_if (is_type_word text || is_storage_word text)
      (λ e. says_fit _ _ _ (λ le. says_good (rule.specifier_word e) (omega (arith, le))))
      (λ _. says_if (bytes_eq text (codes "struct"))
      (λ e. says_fit _ _ _ (λ le. rw (word_is text _ e) (says_as (λ t b. rule.struct_of) (struct_sound names at rest le))))
      (λ _. says_if (bytes_eq text (codes "enum"))
      (λ e. says_fit _ _ _ (λ le. rw (word_is text _ e) (says_as (λ t b. rule.enum_of) (enum_sound names at rest le))))
      (λ _. says_if (not typed && (is_identifier text && is_typedef_name names text))
      (λ e. says_fit _ _ _ (λ le. rw (not_true typed (both_true e).0) (says_good (rule.typedef_name (both_true (both_true e).1).0 (both_true (both_true e).1).1) (omega (arith, le)))))
      (λ _. says_wrong))))
  specifier_sound_by typed names _ = says_wrong

  pub specifier_sound : (typed : Bool) (names : Names) (ts : List Token) → Says (Is (suc d) (Derives names (rule.specifier typed)) ts) (specifier_in d r typed names ts)
  unfolding specifier_in
  specifier_sound typed names ts = specifier_sound_by typed names (ahead_is ts)

  pub specifier_list_sound : (k : ℕ) (typed : Bool) (names : Names) (ts : List Token)
      → Says (Are (suc d) (Lists names (rule.specifier_list typed)) ts) (specifier_list_in d r k typed names ts)
  unfolding specifier_list_in
  specifier_list_sound zero typed names ts = says_wrong
  specifier_list_sound (suc k) typed names ts = says_then (specifier_sound typed names ts) (λ t rest g.
      says_if (begins_specifier (typed || says_type t) (after names t) rest)
      (λ e. says_then (specifier_list_sound k (typed || says_type t) (after names t) rest) (λ more end s.
      says_found (record { holds = rule.more_specifiers g.holds s.holds; fits = omega arith })))
      (λ e. says_found (record { holds = rule.last_specifier g.holds (no_more_specs typed (says_type t) (after names t) rest e); fits = omega arith })))

  pub specifiers_sound : (names : Names) (ts : List Token) → Says (Is (suc d) (Derives names rule.specifiers) ts) (specifiers_in d r names ts)
  unfolding specifiers_in
  specifiers_sound names ts = says_then
      (says_lower d (λ z. says_map (specifier_list_sound (suc (length ts)) false names ts) (λ t b g. absurd (omega (arith, z, g.fits, some_specs g.holds)))) (sound.trees (Rows.specifier_list false) names ts))
      (λ more end s. says_good (rule.specs s.holds) (omega (arith, s.fits)))

  pub specs_sound : (names : Names) (ts : List Token) → Says (Is d (Derives names rule.specifiers) ts) (specs_first d r names ts)
  unfolding specs_first
  specs_sound names ts = says_lower_tree d (specifiers_sound names ts) (sound.tree Goal.specifiers names ts)
