-- What readings look at of the first token, and the marks and words that they expect.
use Rattle.std.proofs.Common.{◌≡◌, ℕ, Bool, true, false, ◌||◌, not, List, [], ◌∷◌, refl, ap, ◌∙◌, if◌then◌else◌, codes, bytes_eq}
use Rattle.c_lexer.specs.declared.token.Punct.{Punct}
use Rattle.c_lexer.specs.declared.token.Punct.TheVariants.{RightBrace}
use Rattle.c_lexer.specs.declared.token.Token.{Token}
use Rattle.c_lexer.specs.declared.token.TokenKind.{TokenKind}
use Rattle.c_lexer.specs.declared.token.TokenKind.TheVariants as token
use Rattle.c_grammar.specs.Vocabulary.{Place, is_identifier}
use Rattle.c_grammar.specs.Scopes.{Names}
use Rattle.c_grammar.specs.Derivation as rule
use Rattle.c_grammar.specs.Derivation.{Standing}
use Rattle.c_grammar.specs.Answers.{Answer, Ahead, ahead, ahead_by, same_mark, expect, expect_by, expect_word, expect_word_by, expect_identifier, expect_identifier_by}
use Rattle.c_grammar.specs.Fronts.{first}
use Rattle.c_grammar.specs.Reading.{begins_specifier, begins_specifier_by, begins_with_mark, begins_with_mark_by, begins_with_word, begins_with_word_by, begins_label, ends_groups, standing_behind, goes_on_behind_void, goes_on_behind_void_by}
use Rattle.c_grammar.proofs.SoundSteps.{IsAhead, is_nothing, is_mark, is_word, is_integer, is_character, is_string, ahead_is}
use Rattle.c_grammar.proofs.KeptSteps.{Keeps, keeps_at, keeps_no_token, keeps_if_first, all_wrong, inside, behind_if}

-- a condition that asks for the first token alone
pub by_first : (P : Ahead → Bool)
    → ((k : TokenKind) (at : Place) (a b : List Token) → P (ahead_by k at a) ≡ P (ahead_by k at b))
    → (a b : List Token)
    → first a ≡ first b
    → P (ahead a) ≡ P (ahead b)
unfolding ahead
by_first P same [] [] e = refl
by_first P same [] (u ∷ b) e = absurd (cc e)
by_first P same (t ∷ a) [] e = absurd (cc e)
by_first P same (t ∷ a) (u ∷ b) e =
    let eq : t ≡ u = cc e in
    same t.kind (record { start = t.start; end = t.end }) a b ∙ ap (λ v. P (ahead_by v.kind (record { start = v.start; end = v.end }) b)) eq

specifier_kind : (typed : Bool) (names : Names) (k : TokenKind) (at : Place) (a b : List Token) → begins_specifier_by typed names (ahead_by k at a) ≡ begins_specifier_by typed names (ahead_by k at b)
unfolding begins_specifier_by ahead_by
specifier_kind typed names (token.Word text) at a b = refl
specifier_kind typed names (token.Punct p) at a b = refl
specifier_kind typed names (token.Int value type) at a b = refl
specifier_kind typed names (token.Char value) at a b = refl
specifier_kind typed names (token.Str bytes) at a b = refl

mark_kind : (p : Punct) (k : TokenKind) (at : Place) (a b : List Token) → begins_with_mark_by p (ahead_by k at a) ≡ begins_with_mark_by p (ahead_by k at b)
unfolding ahead_by
mark_kind p (token.Word text) at a b = refl
mark_kind p (token.Punct q) at a b = refl
mark_kind p (token.Int value type) at a b = refl
mark_kind p (token.Char value) at a b = refl
mark_kind p (token.Str bytes) at a b = refl

word_kind : (text : List ℕ) (k : TokenKind) (at : Place) (a b : List Token) → begins_with_word_by text (ahead_by k at a) ≡ begins_with_word_by text (ahead_by k at b)
unfolding ahead_by
word_kind p (token.Word text) at a b = refl
word_kind p (token.Punct q) at a b = refl
word_kind p (token.Int value type) at a b = refl
word_kind p (token.Char value) at a b = refl
word_kind p (token.Str bytes) at a b = refl

goes_on_kind : (k : TokenKind) (at : Place) (a b : List Token) → goes_on_behind_void_by (ahead_by k at a) ≡ goes_on_behind_void_by (ahead_by k at b)
unfolding goes_on_behind_void_by begins_specifier_by ahead_by
goes_on_kind (token.Word text) at a b = refl
goes_on_kind (token.Punct q) at a b = refl
goes_on_kind (token.Int value type) at a b = refl
goes_on_kind (token.Char value) at a b = refl
goes_on_kind (token.Str bytes) at a b = refl

pub specifier_first : (typed : Bool) (names : Names) (a b : List Token) → first a ≡ first b → begins_specifier typed names a ≡ begins_specifier typed names b
specifier_first typed names a b e = by_first (begins_specifier_by typed names) (specifier_kind typed names) a b e

pub mark_first_decides : (p : Punct) (a b : List Token) → first a ≡ first b → begins_with_mark p a ≡ begins_with_mark p b
mark_first_decides p a b e = by_first (begins_with_mark_by p) (mark_kind p) a b e

pub word_first_decides : (text : List ℕ) (a b : List Token) → first a ≡ first b → begins_with_word text a ≡ begins_with_word text b
word_first_decides text a b e = by_first (begins_with_word_by text) (word_kind text) a b e

pub label_first_decides : (a b : List Token) → first a ≡ first b → begins_label a ≡ begins_label b
label_first_decides a b e =
    ap (λ v. v || begins_with_word (codes "default") a) (word_first_decides (codes "case") a b e)
    ∙ ap (λ v. begins_with_word (codes "case") b || v) (word_first_decides (codes "default") a b e)

pub groups_end_by_first : (standing : Standing) (a b : List Token) → first a ≡ first b → ends_groups standing a ≡ ends_groups standing b
groups_end_by_first rule.at_first a b e = ap not (label_first_decides a b e)
groups_end_by_first rule.behind_label a b e = refl
groups_end_by_first rule.behind_statement a b e = mark_first_decides RightBrace a b e

pub standing_first : (a b : List Token) → first a ≡ first b → standing_behind a ≡ standing_behind b
standing_first a b e = ap (λ p. if p then rule.behind_label else rule.behind_statement) (label_first_decides a b e)

pub goes_on_first : (a b : List Token) → first a ≡ first b → goes_on_behind_void a ≡ goes_on_behind_void b
goes_on_first a b e = by_first goes_on_behind_void_by goes_on_kind a b e

pub keeps_if_specifier : {T : Type 0} (typed : Bool) (names : Names) {A B : List Token → Answer T} (ts : List Token)
    → (begins_specifier typed names ts ≡ true → Keeps 1 A ts)
    → (begins_specifier typed names ts ≡ false → Keeps 1 B ts)
    → Keeps 1 (λ c. if begins_specifier typed names c then A c else B c) ts
keeps_if_specifier typed names ts yes_ no_ = keeps_if_first (begins_specifier typed names) (specifier_first typed names) yes_ no_

pub keeps_if_mark : {T : Type 0} (p : Punct) {A B : List Token → Answer T} (ts : List Token)
    → (begins_with_mark p ts ≡ true → Keeps 1 A ts)
    → (begins_with_mark p ts ≡ false → Keeps 1 B ts)
    → Keeps 1 (λ c. if begins_with_mark p c then A c else B c) ts
keeps_if_mark p ts yes_ no_ = keeps_if_first (begins_with_mark p) (mark_first_decides p) yes_ no_

pub keeps_if_word : {T : Type 0} (text : List ℕ) {A B : List Token → Answer T} (ts : List Token)
    → (begins_with_word text ts ≡ true → Keeps 1 A ts)
    → (begins_with_word text ts ≡ false → Keeps 1 B ts)
    → Keeps 1 (λ c. if begins_with_word text c then A c else B c) ts
keeps_if_word text ts yes_ no_ = keeps_if_first (begins_with_word text) (word_first_decides text) yes_ no_

-- ---- what is expected

pub keeps_expect : {U : Type 0} (p : Punct) (ts : List Token) {go : List Token → Answer U}
    → ((c : List Token) → Keeps 0 go c)
    → Keeps 1 (λ c. expect p c go) ts
unfolding expect expect_by ahead ahead_by
keeps_expect {U} p ts {go = go} next = by (ahead_is ts) next
  where
    by : {ts : List Token} {h : Ahead} → IsAhead ts h → ((c : List Token) → Keeps 0 go c) → Keeps 1 (λ c. expect_by p c go (ahead c)) ts
    by is_nothing next = keeps_no_token refl
    by (is_mark {p = q} {rest = rest}) next = keeps_at (behind_if (same_mark p q) (λ e. inside (next rest)) (λ e. all_wrong (λ c. refl)))
    by is_word next = keeps_at (all_wrong (λ c. refl))
    by is_integer next = keeps_at (all_wrong (λ c. refl))
    by is_character next = keeps_at (all_wrong (λ c. refl))
    by is_string next = keeps_at (all_wrong (λ c. refl))

pub keeps_expect_word : {U : Type 0} (text : List ℕ) (ts : List Token) {go : List Token → Answer U}
    → ((c : List Token) → Keeps 0 go c)
    → Keeps 1 (λ c. expect_word text c go) ts
unfolding expect_word expect_word_by ahead ahead_by
keeps_expect_word {U} text ts {go = go} next = by (ahead_is ts) next
  where
    by : {ts : List Token} {h : Ahead} → IsAhead ts h → ((c : List Token) → Keeps 0 go c) → Keeps 1 (λ c. expect_word_by text c go (ahead c)) ts
    by is_nothing next = keeps_no_token refl
    by (is_word {text = other} {rest = rest}) next = keeps_at (behind_if (bytes_eq text other) (λ e. inside (next rest)) (λ e. all_wrong (λ c. refl)))
    by is_mark next = keeps_at (all_wrong (λ c. refl))
    by is_integer next = keeps_at (all_wrong (λ c. refl))
    by is_character next = keeps_at (all_wrong (λ c. refl))
    by is_string next = keeps_at (all_wrong (λ c. refl))

pub keeps_expect_identifier : {U : Type 0} (ts : List Token) {go : List ℕ → List Token → Answer U}
    → ((text : List ℕ) (c : List Token) → Keeps 0 (go text) c)
    → Keeps 1 (λ c. expect_identifier c go) ts
unfolding expect_identifier expect_identifier_by ahead ahead_by
keeps_expect_identifier {U} ts {go = go} next = by (ahead_is ts) next
  where
    by : {ts : List Token} {h : Ahead} → IsAhead ts h → ((text : List ℕ) (c : List Token) → Keeps 0 (go text) c) → Keeps 1 (λ c. expect_identifier_by c go (ahead c)) ts
    by is_nothing next = keeps_no_token refl
    by (is_word {text = text} {rest = rest}) next = keeps_at (behind_if (is_identifier text) (λ e. inside (next text rest)) (λ e. all_wrong (λ c. refl)))
    by is_mark next = keeps_at (all_wrong (λ c. refl))
    by is_integer next = keeps_at (all_wrong (λ c. refl))
    by is_character next = keeps_at (all_wrong (λ c. refl))
    by is_string next = keeps_at (all_wrong (λ c. refl))
