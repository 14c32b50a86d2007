-- Specs, tags and enumerators, by their first tokens.
use Rattle.std.proofs.Common.{◌≡◌, ℕ, Bool, true, false, ◌||◌, ◌&&◌, not, List, [], ◌∷◌, codes, if◌then◌else◌, refl, sym, ap, ap₂, ◌∙◌, true≢false, bytes_eq}
use Rattle.c_lexer.specs.declared.token.Punct.{Punct}
use Rattle.c_lexer.specs.declared.token.Punct.TheVariants.{LeftBrace, RightBrace, Equal}
use Rattle.c_lexer.specs.declared.token.Token.{Token}
use Rattle.c_lexer.specs.declared.token.TokenKind.{TokenKind}
use Rattle.c_lexer.specs.declared.token.TokenKind.TheVariants as token
use Rattle.c_syntax.specs.declared.kind.SynKind.{SynKind}
use Rattle.c_syntax.specs.declared.kind.SynKind.TheVariants as kind
use Rattle.c_syntax.specs.Trees.{none, one, text_node}
use Rattle.c_grammar.specs.Vocabulary.{Place, word, start_of, is_identifier, is_type_word, is_storage_word}
use Rattle.c_grammar.specs.Scopes.{Names, is_typedef_name}
use Rattle.c_grammar.specs.Answers.{found, wrong, and_then, fit, Ahead, mark_ahead, word_ahead, ahead, expect, expect_identifier, expect_identifier_by, same_mark}
use Rattle.c_grammar.specs.Reading.{Reader, Goal, Rows, begins_with_mark, begins_with_mark_by, behind_one, specifier_in, specifier_by, tag_by, tagged_by, body_in, value_by, enumerator_in, enumerator_by}
use Rattle.c_grammar.proofs.SoundSteps.{IsAhead, is_nothing, is_mark, is_word, is_integer, is_character, is_string, ahead_is}
use Rattle.c_parts.specs.Pushed.{IsBelow}
use Rattle.c_parser.specs.declared.parser.Parser.{Parser}
use Rattle.c_parser.specs.Gives.{Keeps, PassesName}
use Rattle.c_parser.specs.Steps.{place, word_at, tag_of, tagged_at, body_of, value_of}
use Rattle.c_parser.proofs.ExpressionLaws.{some_ahead_mark}
use Rattle.c_parser.proofs.Stopping.{chosen, not_chosen, entered}
use Rattle.c_parser.proofs.Tokens.{place_of, ahead_word}

module _ (d : ℕ) (r : Reader) where
  -- ---- only the start of a place counts

  tagged_place : (k : SynKind) (row : Rows) (names : Names) (tag : List ℕ) (at : Place) (rest : List Token) (h : Ahead)
      → tagged_by d r k row names tag at rest h ≡ tagged_by d r k row names tag (place at.start) rest h
  unfolding tagged_by body_in
  tagged_place k row names tag at rest (mark_ahead LeftBrace at2 behind) = refl
  tagged_place k row names tag at rest other = refl

  tag_place : (k : SynKind) (row : Rows) (names : Names) (at : Place) (rest : List Token) (h : Ahead)
      → tag_by d r k row names at rest h ≡ tag_by d r k row names (place at.start) rest h
  unfolding tag_by body_in
  tag_place k row names at rest (word_ahead tag at2 behind) = ap (λ x. if is_identifier tag then x else wrong rest) (tagged_place k row names tag at behind (ahead behind))
  tag_place k row names at rest (mark_ahead LeftBrace at2 behind) = refl
  tag_place k row names at rest other = refl

  value_place : (names : Names) (text : List ℕ) (at : Place) (ts : List Token) (h : Ahead) → value_by d r names text at ts h ≡ value_by d r names text (place at.start) ts h
  unfolding value_by
  value_place names text at ts (mark_ahead Equal at2 rest) = refl
  value_place names text at ts other = refl

  -- ---- one of the specs

  module _ (typed : Bool) (names : Names) (ts : List Token) where
    pub specifier_nothing : ts ≡ [] → specifier_in d r typed names ts ≡ wrong ts
    unfolding specifier_in specifier_by ahead
    specifier_nothing e = rw e refl

    pub specifier_no_word : (t : Token) → ts ≡ t ∷ behind_one ts → ((text : List ℕ) → t.kind ≡ token.Word text → ⊥) → specifier_in d r typed names ts ≡ wrong ts
    unfolding specifier_in specifier_by
    specifier_no_word t split no_word = by (ahead_is ts) (λ text at rest e. no_word text (ap first_kind (sym split ∙ e)))
      where
        first_kind : List Token → TokenKind
        first_kind [] = token.Word []
        first_kind (u ∷ us) = u.kind

        by : {us : List Token} {h : Ahead} → IsAhead us h → ((text : List ℕ) (at : Place) (rest : List Token) → us ≡ word text at ∷ rest → ⊥) → specifier_by d r typed names ts h ≡ wrong ts
        by (is_word {text = text} {at = at} {rest = rest}) other = absurd (other text at rest refl)
        by is_nothing other = refl
        by is_mark other = refl
        by is_integer other = refl
        by is_character other = refl
        by is_string other = refl

    module _ (t : Token) (name text : List ℕ) (split : ts ≡ t ∷ behind_one ts) (is : t.kind ≡ token.Word name) (same : text ≡ name) where
      ahead_text : ahead ts ≡ word_ahead text (place_of t) (behind_one ts)
      ahead_text = ahead_word ts t text split (is ∙ ap token.Word (sym same))

      pub specifier_is_word : (is_type_word text || is_storage_word text) ≡ true → specifier_in d r typed names ts ≡ word_at d text t.start names ts
      unfolding specifier_in specifier_by
      specifier_is_word e = ap (specifier_by d r typed names ts) ahead_text ∙ chosen _ _ _ e

      module _ (no_word : (is_type_word text || is_storage_word text) ≡ false) where
        pub specifier_struct : bytes_eq text (codes "struct") ≡ true → specifier_in d r typed names ts ≡ tagged_at d r kind.StructSpec Rows.members t.start names ts
        unfolding specifier_in specifier_by
        specifier_struct e =
            ap (specifier_by d r typed names ts) ahead_text ∙ not_chosen _ _ _ no_word ∙ chosen _ _ _ e
            ∙ ap (fit 1 d (behind_one ts)) (tag_place kind.StructSpec Rows.members names (place_of t) (behind_one ts) (ahead (behind_one ts)))

        module _ (no_struct : bytes_eq text (codes "struct") ≡ false) where
          pub specifier_enum : bytes_eq text (codes "enum") ≡ true → specifier_in d r typed names ts ≡ tagged_at d r kind.EnumSpec Rows.enumerators t.start names ts
          unfolding specifier_in specifier_by
          specifier_enum e =
              ap (specifier_by d r typed names ts) ahead_text ∙ not_chosen _ _ _ no_word ∙ not_chosen _ _ _ no_struct ∙ chosen _ _ _ e
              ∙ ap (fit 1 d (behind_one ts)) (tag_place kind.EnumSpec Rows.enumerators names (place_of t) (behind_one ts) (ahead (behind_one ts)))

          module _ (no_enum : bytes_eq text (codes "enum") ≡ false) where
            pub specifier_name : (not typed && (is_identifier text && is_typedef_name names text)) ≡ true → specifier_in d r typed names ts ≡ word_at d text t.start names ts
            unfolding specifier_in specifier_by
            specifier_name e =
                ap (specifier_by d r typed names ts) ahead_text ∙ not_chosen _ _ _ no_word ∙ not_chosen _ _ _ no_struct ∙ not_chosen _ _ _ no_enum ∙ chosen _ _ _ e

            pub specifier_wrong : (not typed && (is_identifier text && is_typedef_name names text)) ≡ false → specifier_in d r typed names ts ≡ wrong ts
            unfolding specifier_in specifier_by
            specifier_wrong e =
                ap (specifier_by d r typed names ts) ahead_text ∙ not_chosen _ _ _ no_word ∙ not_chosen _ _ _ no_struct ∙ not_chosen _ _ _ no_enum ∙ not_chosen _ _ _ e

  -- ---- a tag

  -- from behind its keyword
  pub tagged_entered : (k : SynKind) (row : Rows) (begin : ℕ) (p q : Parser) (lower : ℕ) → Keeps p q → q.rest.now ≡ behind_one p.rest.now → IsBelow 0 d lower
      → tagged_at d r k row begin p.names p.rest.now ≡ tag_of d r k row begin q.names q.rest.now
  tagged_entered k row begin p q lower kept mid below_is =
      entered 0 d lower (behind_one p.rest.now) _ below_is ∙ ap₂ (tag_of d r k row begin) (sym kept.names_are) (sym mid)

  module _ (k : SynKind) (row : Rows) (names : Names) where
    tag_no_mark : (at : Place) (ts rest : List Token) (p : Punct) (at2 : Place) → same_mark LeftBrace p ≡ false → tag_by d r k row names at ts (mark_ahead p at2 rest) ≡ wrong ts
    unfolding tag_by
    tag_no_mark at ts rest LeftBrace at2 e = absurd (true≢false e)
    tag_no_mark at ts rest other at2 e = refl

    pub tag_expected : (begin : ℕ) (ts : List Token) → begins_with_mark LeftBrace ts ≡ false
        → tag_of d r k row begin names ts ≡ expect_identifier ts (λ tag behind. tagged_by d r k row names tag (place begin) behind (ahead behind))
    unfolding tag_by expect_identifier expect_identifier_by
    tag_expected begin ts e = by (ahead_is ts) e
      where
        by : {ts : List Token} {h : Ahead} → IsAhead ts h → begins_with_mark_by LeftBrace h ≡ false
            → tag_by d r k row names (place begin) ts h ≡ expect_identifier_by ts (λ tag behind. tagged_by d r k row names tag (place begin) behind (ahead behind)) h
        by is_nothing e = refl
        by (is_mark {p = p} {at = at} {rest = rest}) e = tag_no_mark (place begin) _ rest p at e
        by is_word e = refl
        by is_integer e = refl
        by is_character e = refl
        by is_string e = refl

    -- without a name
    pub tag_body : (begin : ℕ) (ts : List Token) → begins_with_mark LeftBrace ts ≡ true → tag_of d r k row begin names ts ≡ body_of d r k row [] begin names (behind_one ts)
    unfolding tag_by
    tag_body begin ts e = ap (tag_by d r k row names (place begin) ts) (some_ahead_mark LeftBrace ts e).1

    tagged_no_mark : (tag : List ℕ) (at : Place) (ts rest : List Token) (p : Punct) (at2 : Place) → same_mark LeftBrace p ≡ false
        → tagged_by d r k row names tag at ts (mark_ahead p at2 rest) ≡ found (text_node k tag at.start none) ts
    unfolding tagged_by
    tagged_no_mark tag at ts rest LeftBrace at2 e = absurd (true≢false e)
    tagged_no_mark tag at ts rest other at2 e = refl

    -- without a body
    pub tagged_alone : (tag : List ℕ) (begin : ℕ) (ts : List Token) → begins_with_mark LeftBrace ts ≡ false
        → tagged_by d r k row names tag (place begin) ts (ahead ts) ≡ found (text_node k tag begin none) ts
    unfolding tagged_by
    tagged_alone tag begin ts e = by (ahead_is ts) e
      where
        by : {ts : List Token} {h : Ahead} → IsAhead ts h → begins_with_mark_by LeftBrace h ≡ false → tagged_by d r k row names tag (place begin) ts h ≡ found (text_node k tag begin none) ts
        by is_nothing e = refl
        by (is_mark {p = p} {at = at} {rest = rest}) e = tagged_no_mark tag (place begin) _ rest p at e
        by is_word e = refl
        by is_integer e = refl
        by is_character e = refl
        by is_string e = refl

    pub tagged_with_body : (tag : List ℕ) (begin : ℕ) (ts : List Token) → begins_with_mark LeftBrace ts ≡ true
        → tagged_by d r k row names tag (place begin) ts (ahead ts) ≡ body_of d r k row tag begin names (behind_one ts)
    unfolding tagged_by
    tagged_with_body tag begin ts e = ap (tagged_by d r k row names tag (place begin) ts) (some_ahead_mark LeftBrace ts e).1

    pub body_shape : (tag : List ℕ) (begin : ℕ) (ts : List Token)
        → body_of d r k row tag begin names ts ≡ fit 2 d ts (and_then (r.trees_of row names ts) (λ xs behind. expect RightBrace behind (λ end. found (text_node k tag begin xs) end)))
    unfolding body_in
    body_shape tag begin ts = refl

  -- ---- an enumerator

  pub enumerator_expected : (names : Names) (ts : List Token)
      → enumerator_in d r names ts ≡ expect_identifier ts (λ text rest. fit 1 d rest (value_of d r text (start_of ts) names rest))
  unfolding enumerator_in enumerator_by expect_identifier expect_identifier_by
  enumerator_expected names ts = by (ahead_is ts)
    where
      by : {ts : List Token} {h : Ahead} → IsAhead ts h
          → enumerator_by d r names ts h ≡ expect_identifier_by ts (λ text rest. fit 1 d rest (value_of d r text (start_of ts) names rest)) h
      by is_nothing = refl
      by is_mark = refl
      by (is_word {text = text} {at = at} {rest = rest}) =
          ap (λ x. if is_identifier text then fit 1 d rest x else wrong (word text at ∷ rest)) (value_place names text at rest (ahead rest))
      by is_integer = refl
      by is_character = refl
      by is_string = refl

  -- an enumerator from behind its name
  pub enumerator_named : (p q : Parser) (name : List ℕ) (begin lower : ℕ) → PassesName name p q → begin ≡ start_of p.rest.now → IsBelow 0 d lower
      → enumerator_in d r p.names p.rest.now ≡ value_of d r name begin q.names q.rest.now
  enumerator_named p q name begin lower passes b below_is =
      enumerator_expected p.names p.rest.now ∙ passes.goes_on _ ∙ entered 0 d lower q.rest.now _ below_is
      ∙ ap (λ at. value_of d r name at p.names q.rest.now) (sym b) ∙ ap (λ n. value_of d r name begin n q.rest.now) (sym passes.kept.names_are)

  module _ (text : List ℕ) (begin : ℕ) (names : Names) (ts : List Token) where
    pub value_shape : begins_with_mark Equal ts ≡ true
        → value_of d r text begin names ts ≡ fit 2 d (behind_one ts) (and_then (r.tree_of Goal.conditional names (behind_one ts)) (λ x end. found (text_node kind.Enumer text begin (one x)) end))
    unfolding value_by
    value_shape e = ap (value_by d r names text (place begin) ts) (some_ahead_mark Equal ts e).1

    pub value_nothing : begins_with_mark Equal ts ≡ false → value_of d r text begin names ts ≡ found (text_node kind.Enumer text begin none) ts
    unfolding value_by
    value_nothing e = by (ahead_is ts) e
      where
        no_mark : (us rest : List Token) (p : Punct) (at : Place) → same_mark Equal p ≡ false → value_by d r names text (place begin) us (mark_ahead p at rest) ≡ found (text_node kind.Enumer text begin none) us
        no_mark us rest Equal at e = absurd (true≢false e)
        no_mark us rest other at e = refl

        by : {us : List Token} {h : Ahead} → IsAhead us h → begins_with_mark_by Equal h ≡ false → value_by d r names text (place begin) us h ≡ found (text_node kind.Enumer text begin none) us
        by is_nothing e = refl
        by (is_mark {p = p} {at = at} {rest = rest}) e = no_mark _ rest p at e
        by is_word e = refl
        by is_integer e = refl
        by is_character e = refl
        by is_string e = refl
