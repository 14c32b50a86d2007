-- Where specs go too deep, the tokens before the place are completed, where the next lower budget reads so.
use Rattle.std.proofs.Common.{◌≡◌, ℕ, zero, suc, Bool, true, false, ◌||◌, ◌&&◌, not, List, [], ◌∷◌, ◌++◌, length, refl, codes, bytes_eq}
use Rattle.c_lexer.specs.declared.token.Punct.TheVariants.{LeftBrace, RightBrace, Semicolon}
use Rattle.c_lexer.specs.declared.token.Token.{Token}
use Rattle.c_syntax.specs.declared.kind.SynKind.{SynKind}
use Rattle.c_syntax.specs.declared.kind.SynKind.TheVariants as kind
use Rattle.c_syntax.specs.Trees.{Tree, Forest, text_node}
use Rattle.c_grammar.specs.Vocabulary.{Place, mark, word, is_identifier, is_type_word, is_storage_word}
use Rattle.c_grammar.specs.Scopes.{Names, is_typedef_name, says_type, after}
use Rattle.c_grammar.specs.Derivation as rule
use Rattle.c_grammar.specs.Derivation.{Derives, Lists, is_typedef_token, begins_with_typedef_name}
use Rattle.c_grammar.specs.Answers.{Ahead, ahead}
use Rattle.c_grammar.specs.Reading.{Reader, Goal, Rows, begins_specifier, body_in, tagged_by, tag_by, specifier_by, specifier_in, specifier_list_in, specifiers_in, specs_first}
use Rattle.c_grammar.specs.Meanings.{AreTrees}
use Rattle.c_grammar.proofs.FirstTokens.{not_true}
use Rattle.c_grammar.proofs.SoundSteps.{IsAhead, is_mark, is_word, ahead_is, word_is, both_true}
use Rattle.c_grammar.proofs.SoundExpressions.{IsSound}
use Rattle.c_grammar.proofs.SoundTypes.{specifier_sound}
use Rattle.c_grammar.proofs.FrontLaw.{front_of}
use Rattle.c_grammar.proofs.TooDeep.Steps.{Closing, Has, has, Cuts, cuts_found, cuts_wrong, cuts_as, cuts_token, cuts_if, cuts_fit, cuts_lower, cuts_then, cuts_last, cuts_expect}
use Rattle.c_grammar.proofs.TooDeep.Parts.{HasCuts, stand_alone, no_typedef_first, cuts_trees, nowhere, a_mark, a_word, a_name, int_specifiers, name_declarator}

-- ---- no typedef name stands behind

closing_specs : (p q : Bool) (names : Names) (z : List Token) → Closing z → p || q || not (begins_with_typedef_name names z) ≡ true
closing_specs true q names z h = refl
closing_specs false true names z h = refl
closing_specs false false names z h = rw (no_typedef_first names z h) refl

-- ---- within the budget d

module _ (d : ℕ) (r : Reader) (sound : IsSound d r) (cuts : HasCuts d r) where
  -- `struct` and `enum`, where this list completes their braces
  module _ (R : List Token → List Token → Tree → Type 0) (k : SynKind) (row : Rows) (alone : stand_alone row ≡ true) (names : Names) (keyword : List ℕ) (at : Place)
      (least : List Token) (some : (z : List Token) → Has (λ a b. AreTrees row names a (a_mark RightBrace ∷ b)) (least ++ z) z)
      (without_tag : (a b : List Token) (at2 at3 : Place) (ts : Forest)
      → AreTrees row names a (mark RightBrace at3 ∷ b) ts
      → R (word keyword at ∷ mark LeftBrace at2 ∷ a) b (text_node k [] at.start ts))
      (with_tag : (text : List ℕ) (a b : List Token) (at2 at3 at4 : Place) (ts : Forest)
      → is_identifier text ≡ true
      → AreTrees row names a (mark RightBrace at4 ∷ b) ts
      → R (word keyword at ∷ word text at2 ∷ mark LeftBrace at3 ∷ a) b (text_node k text at.start ts)) where
    body_cuts : (tag : List ℕ) (Q : List Token → List Token → Type 0) (at2 : Place) (rest : List Token)
        → ((a b : List Token) (at3 : Place) (ts : Forest) → AreTrees row names a (mark RightBrace at3 ∷ b) ts → Q (mark LeftBrace at2 ∷ a) b)
        → Cuts Q (mark LeftBrace at2 ∷ rest) (body_in d r k row names tag at rest)
    unfolding body_in
    body_cuts tag Q at2 rest braces = cuts_fit 2 d least (λ z _. braces (least ++ z) z nowhere (some z).what (some z).holds) (λ _.
        cuts_token (cuts_trees d r sound cuts row alone names rest (a_mark RightBrace ∷ []) (λ z _. refl) (λ z _ a ts m. braces a z nowhere ts m) (λ ts behind.
        cuts_expect RightBrace behind (λ at3 c. cuts_found))))

    tagged_cuts : (tag : List ℕ) (at2 : Place) → is_identifier tag ≡ true → {rest : List Token} {h : Ahead} → IsAhead rest h
        → Cuts (λ a z. Has R (word keyword at ∷ word tag at2 ∷ a) z) rest (tagged_by d r k row names tag at rest h)
    unfolding tagged_by
    tagged_cuts tag at2 e (is_mark {p = LeftBrace} {at = at3} {rest = behind}) =
        body_cuts tag (λ a z. Has R (word keyword at ∷ word tag at2 ∷ a) z) at3 behind (λ a b at4 ts m. has _ (with_tag tag a b at2 at3 at4 ts e m))
    tagged_cuts tag at2 e _ = cuts_found

    tag_cuts : {rest : List Token} {h : Ahead} → IsAhead rest h → Cuts (λ a z. Has R (word keyword at ∷ a) z) rest (tag_by d r k row names at rest h)
    unfolding tag_by
    tag_cuts (is_word {text = tag} {at = at2} {rest = behind}) = cuts_if (is_identifier tag) (λ e. cuts_token (tagged_cuts tag at2 e (ahead_is behind))) (λ e. cuts_wrong)
    tag_cuts (is_mark {p = LeftBrace} {at = at2} {rest = behind}) =
        body_cuts [] (λ a z. Has R (word keyword at ∷ a) z) at2 behind (λ a b at3 ts m. has _ (without_tag a b at2 at3 ts m))
    tag_cuts _ = cuts_wrong

  struct_cuts : (names : Names) (at : Place) (rest : List Token)
      → Cuts (λ a z. Has (Derives names rule.struct_specifier) (word (codes "struct") at ∷ a) z) rest (tag_by d r kind.StructSpec Rows.members names at rest (ahead rest))
  struct_cuts names at rest = tag_cuts (Derives names rule.struct_specifier) kind.StructSpec Rows.members refl names (codes "struct") at
      (a_word (codes "int") ∷ a_name ∷ a_mark Semicolon ∷ a_mark RightBrace ∷ [])
      (λ z. has _ (rule.last_member (rule.member_of int_specifiers (rule.last_declarator name_declarator))))
      (λ a b at2 at3 ts m. rule.struct_without_tag m)
      (λ text a b at2 at3 at4 ts e m. rule.struct_with_tag e m)
      (ahead_is rest)

  enum_cuts : (names : Names) (at : Place) (rest : List Token)
      → Cuts (λ a z. Has (Derives names rule.enum_specifier) (word (codes "enum") at ∷ a) z) rest (tag_by d r kind.EnumSpec Rows.enumerators names at rest (ahead rest))
  enum_cuts names at rest = tag_cuts (Derives names rule.enum_specifier) kind.EnumSpec Rows.enumerators refl names (codes "enum") at
      (a_name ∷ a_mark RightBrace ∷ [])
      (λ z. has _ (rule.last_enumerator (rule.enumerator_name refl)))
      (λ a b at2 at3 ts m. rule.enum_without_tag m)
      (λ text a b at2 at3 at4 ts e m. rule.enum_with_tag e m)
      (ahead_is rest)

  specifier_cuts_by : (typed : Bool) (names : Names) {ts : List Token} {h : Ahead} → IsAhead ts h → Cuts (Has (Derives names (rule.specifier typed))) ts (specifier_by d r typed names ts h)
  unfolding specifier_by
  specifier_cuts_by typed names (is_word {text = text} {at = at} {rest = rest}) = cuts_if (is_type_word text || is_storage_word text)
      (λ e. cuts_fit _ _ [] (λ z _. has _ (rule.specifier_word e)) (λ _. cuts_found))
      (λ _. cuts_if (bytes_eq text (codes "struct"))
      (λ e. rw (word_is text _ e) (cuts_fit _ _ (a_name ∷ []) (λ z _. has _ (rule.struct_of (rule.struct_tag refl))) (λ _.
      cuts_token (cuts_as (λ a z g. has _ (rule.struct_of g.holds)) (struct_cuts names at rest)))))
      (λ _. cuts_if (bytes_eq text (codes "enum"))
      (λ e. rw (word_is text _ e) (cuts_fit _ _ (a_name ∷ []) (λ z _. has _ (rule.enum_of (rule.enum_tag refl))) (λ _.
      cuts_token (cuts_as (λ a z g. has _ (rule.enum_of g.holds)) (enum_cuts names at rest)))))
      (λ _. cuts_if (not typed && (is_identifier text && is_typedef_name names text))
      (λ e. rw (not_true typed (both_true e).0) (cuts_fit _ _ [] (λ z _. has _ (rule.typedef_name (both_true (both_true e).1).0 (both_true (both_true e).1).1)) (λ _. cuts_found)))
      (λ _. cuts_wrong))))
  specifier_cuts_by typed names _ = cuts_wrong

  pub specifier_cuts : (typed : Bool) (names : Names) (ts : List Token) → Cuts (Has (Derives names (rule.specifier typed))) ts (specifier_in d r typed names ts)
  unfolding specifier_in
  specifier_cuts typed names ts = specifier_cuts_by typed names (ahead_is ts)

  pub specifier_list_cuts : (k : ℕ) (typed : Bool) (names : Names) (ts : List Token)
      → Cuts (Has (Lists names (rule.specifier_list typed))) ts (specifier_list_in d r k typed names ts)
  unfolding specifier_list_in
  specifier_list_cuts zero typed names ts = cuts_wrong
  specifier_list_cuts (suc k) typed names ts = cuts_then {S = Derives names (rule.specifier typed)}
      (specifier_cuts typed names ts) (specifier_sound d r sound typed names ts) (λ t b g. front_of g.holds)
      [] (λ z h. h) (λ z h a t g. has _ (rule.last_specifier g (closing_specs typed (says_type t) (after names t) z h)))
      (λ t rest g. cuts_if (begins_specifier (typed || says_type t) (after names t) rest)
      (λ e. cuts_last {S = Lists (after names t) (rule.specifier_list (typed || says_type t))} (specifier_list_cuts k (typed || says_type t) (after names t) rest)
      [] (λ z h. h) (λ z _ c us m a p. has _ (rule.more_specifiers p m))
      (λ us end. cuts_found))
      (λ e. cuts_found))

  pub specifiers_cuts : (names : Names) (ts : List Token) → Cuts (Has (Derives names rule.specifiers)) ts (specifiers_in d r names ts)
  unfolding specifiers_in
  specifiers_cuts names ts = cuts_last {S = Lists names (rule.specifier_list false)}
      (cuts_lower d (λ _. specifier_list_cuts (suc (length ts)) false names ts) (cuts.trees (Rows.specifier_list false) refl names ts))
      [] (λ z h. h) (λ z _ a us m. has _ (rule.specs m))
      (λ us end. cuts_found)

  pub specs_cuts : (names : Names) (ts : List Token) → Cuts (Has (Derives names rule.specifiers)) ts (specs_first d r names ts)
  unfolding specs_first
  specs_cuts names ts = cuts_lower d (λ _. specifiers_cuts names ts) (cuts.tree Goal.specifiers refl names ts)
