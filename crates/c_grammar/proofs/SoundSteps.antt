-- Answers that say something where they have found a tree, and how they follow one another.
use Rattle.std.proofs.Common.{◌≡◌, ℕ, zero, suc, ◌<◌, ◌≤◌, Bool, true, false, ◌&&◌, List, [], ◌∷◌, Some, nat_lt, if◌then◌else◌, refl, sym, ap, ◌∙◌, subst, arith, true≢false, bytes_eq}
use Rattle.std.proofs.lemmas.Bool.Decides.{nat_tests}
use Rattle.std.proofs.lemmas.Slice.Eq.{bytes_eq-Decides}
use Rattle.c_lexer.specs.declared.token.IntType.{IntType}
use Rattle.c_lexer.specs.declared.token.Punct.{Punct}
use Rattle.c_lexer.specs.declared.token.Token.{Token}
use Rattle.c_lexer.specs.declared.token.TokenKind.{TokenKind}
use Rattle.c_lexer.specs.declared.token.TokenKind.TheVariants as token
use Rattle.c_lexer.specs.Marks.{mark_text}
use Rattle.c_lexer.proofs.MarkTexts.{mark_read}
use Rattle.c_lexer.specs.Readings.{mark_of}
use Rattle.c_syntax.specs.Trees.{Tree, Forest, height, forest_height}
use Rattle.c_grammar.specs.Vocabulary.{Place, mark, word, integer, character, string, is_identifier}
use Rattle.c_grammar.specs.Answers.{Answer, found, wrong, deep, and_then, fit, Ahead, nothing_ahead, mark_ahead, word_ahead, integer_ahead, character_ahead, string_ahead, ahead, ahead_by, same_mark, expect, expect_by, expect_word, expect_word_by, expect_identifier, expect_identifier_by}
use Rattle.c_grammar.specs.Reading.{begins_with_mark, begins_with_mark_by, begins_with_word, begins_with_word_by, behind_one, lower, if_any}

-- P holds of what the answer has found and of the tokens behind it
pub data Says {T : Type 0} (P : T → List Token → Type 0) : Answer T → Type 0 where
  says_found : {t : T} {b : List Token} → P t b → Says P (found t b)
  says_wrong : {b : List Token} → Says P (wrong b)
  says_deep : {b : List Token} → Says P (deep b)

-- a tree, or trees, from a up to b, of a size below n
pub record Good {T : Type 0} (size : T → ℕ) (n : ℕ) (R : List Token → List Token → T → Type 0) (a : List Token) (t : T) (b : List Token) : Type 0 where
  pub holds : R a b t
  pub fits : size t < n

abbrev pub Is : ℕ → (List Token → List Token → Tree → Type 0) → List Token → Tree → List Token → Type 0
Is = Good height

abbrev pub Are : ℕ → (List Token → List Token → Forest → Type 0) → List Token → Forest → List Token → Type 0
Are = Good forest_height

-- ---- answers

pub said : {T : Type 0} {P : T → List Token → Type 0} {x : Answer T} (t : T) (b : List Token) → Says P x → x ≡ found t b → P t b
said {P = P} t b s e = by (subst (Says P) e s)
  where
    by : Says P (found t b) → P t b
    by (says_found p) = p

pub says_then : {T U : Type 0} {P : T → List Token → Type 0} {Q : U → List Token → Type 0} {x : Answer T} {go : T → List Token → Answer U}
    → Says P x
    → ((t : T) (b : List Token) → P t b → Says Q (go t b))
    → Says Q (and_then x go)
unfolding and_then
says_then (says_found p) next = next _ _ p
says_then says_wrong next = says_wrong
says_then says_deep next = says_deep

pub says_map : {T : Type 0} {P Q : T → List Token → Type 0} {x : Answer T} → Says P x → ((t : T) (b : List Token) → P t b → Q t b) → Says Q x
says_map (says_found p) f = says_found (f _ _ p)
says_map says_wrong f = says_wrong
says_map says_deep f = says_deep

pub says_if : {T : Type 0} {Q : T → List Token → Type 0} (b : Bool) {x y : Answer T}
    → (b ≡ true → Says Q x)
    → (b ≡ false → Says Q y)
    → Says Q (if b then x else y)
says_if true yes_ no_ = yes_ refl
says_if false yes_ no_ = no_ refl

pub says_fit : {T : Type 0} {Q : T → List Token → Type 0} (needed d : ℕ) (rest : List Token) {x : Answer T}
    → (needed ≤ d → Says Q x)
    → Says Q (fit needed d rest x)
unfolding fit
says_fit needed d rest next = says_if (nat_lt d needed) (λ e. says_deep) (λ e. next (grind (arith, nat_tests)))

pub says_lower : {T : Type 0} {P : T → List Token → Type 0} (d : ℕ) {own nested : Answer T}
    → (d ≡ 0 → Says P own)
    → Says P nested
    → Says P (lower d own nested)
unfolding lower
says_lower zero own nested = own refl
says_lower (suc d) own nested = nested

pub says_any : {T : Type 0} {P : T → List Token → Type 0} (d : ℕ) (ts : List Token) {x : Answer T}
    → (1 ≤ d → Says P x)
    → Says P (if_any d ts x)
unfolding if_any
says_any zero ts next = says_deep
says_any (suc d) ts next = next (omega arith)

-- ---- the first token

pub data IsAhead : List Token → Ahead → Type 0 where
  is_nothing : IsAhead [] nothing_ahead
  is_mark : {p : Punct} {at : Place} {rest : List Token} → IsAhead (mark p at ∷ rest) (mark_ahead p at rest)
  is_word : {text : List ℕ} {at : Place} {rest : List Token} → IsAhead (word text at ∷ rest) (word_ahead text at rest)
  is_integer : {value : ℕ} {type : IntType} {at : Place} {rest : List Token} → IsAhead (integer value type at ∷ rest) (integer_ahead value type at rest)
  is_character : {value : ℕ} {at : Place} {rest : List Token} → IsAhead (character value at ∷ rest) (character_ahead value at rest)
  is_string : {bytes : List ℕ} {at : Place} {rest : List Token} → IsAhead (string bytes at ∷ rest) (string_ahead bytes at rest)

ahead_is_by : (k : TokenKind) (at : Place) (rest : List Token) → IsAhead (record { kind = k; start = at.start; end = at.end } ∷ rest) (ahead_by k at rest)
unfolding ahead_by
ahead_is_by (token.Punct p) at rest = is_mark
ahead_is_by (token.Word text) at rest = is_word
ahead_is_by (token.Int value type) at rest = is_integer
ahead_is_by (token.Char value) at rest = is_character
ahead_is_by (token.Str bytes) at rest = is_string

pub ahead_is : (ts : List Token) → IsAhead ts (ahead ts)
unfolding ahead
ahead_is [] = is_nothing
ahead_is (t ∷ rest) = ahead_is_by t.kind (record { start = t.start; end = t.end }) rest

-- ---- marks and words

pub mark_is : (p q : Punct) → same_mark p q ≡ true → p ≡ q
mark_is p q e =
    let texts : mark_text p ≡ mark_text q = (bytes_eq-Decides (mark_text p) (mark_text q)).0 e in
    let same : Some p ≡ Some q = sym (mark_read p) ∙ (ap mark_of texts ∙ mark_read q) in
    cc

pub word_is : (text other : List ℕ) → bytes_eq text other ≡ true → text ≡ other
word_is text other e = (bytes_eq-Decides text other).0 e

pub data BeginsWith (p : Punct) : List Token → Type 0 where
  mark_first : {at : Place} {rest : List Token} → BeginsWith p (mark p at ∷ rest)

pub begins_mark : (p : Punct) (ts : List Token) → begins_with_mark p ts ≡ true → BeginsWith p ts
begins_mark p ts e = by (ahead_is ts) e
  where
    by : {ts : List Token} {h : Ahead} → IsAhead ts h → begins_with_mark_by p h ≡ true → BeginsWith p ts
    by is_nothing e = absurd (true≢false (sym e))
    by (is_mark {p = q} {at = at} {rest = rest}) e = subst (λ m. BeginsWith p (mark m at ∷ rest)) (mark_is p q e) mark_first
    by is_word e = absurd (true≢false (sym e))
    by is_integer e = absurd (true≢false (sym e))
    by is_character e = absurd (true≢false (sym e))
    by is_string e = absurd (true≢false (sym e))

pub data BeginsWithWord (text : List ℕ) : List Token → Type 0 where
  word_first : {at : Place} {rest : List Token} → BeginsWithWord text (word text at ∷ rest)

pub begins_word : (text : List ℕ) (ts : List Token) → begins_with_word text ts ≡ true → BeginsWithWord text ts
begins_word text ts e = by (ahead_is ts) e
  where
    by : {ts : List Token} {h : Ahead} → IsAhead ts h → begins_with_word_by text h ≡ true → BeginsWithWord text ts
    by is_nothing e = absurd (true≢false (sym e))
    by is_mark e = absurd (true≢false (sym e))
    by (is_word {text = other} {at = at} {rest = rest}) e = subst (λ m. BeginsWithWord text (word m at ∷ rest)) (word_is text other e) word_first
    by is_integer e = absurd (true≢false (sym e))
    by is_character e = absurd (true≢false (sym e))
    by is_string e = absurd (true≢false (sym e))

pub mark_split : (p : Punct) (ts : List Token) → begins_with_mark p ts ≡ true → (at : Place) × (ts ≡ mark p at ∷ behind_one ts)
mark_split p ts e = by (begins_mark p ts e)
  where
    by : {ts : List Token} → BeginsWith p ts → (at : Place) × (ts ≡ mark p at ∷ behind_one ts)
    by (mark_first {at = at}) = (at, refl)

pub word_split : (text : List ℕ) (ts : List Token) → begins_with_word text ts ≡ true → (at : Place) × (ts ≡ word text at ∷ behind_one ts)
word_split text ts e = by (begins_word text ts e)
  where
    by : {ts : List Token} → BeginsWithWord text ts → (at : Place) × (ts ≡ word text at ∷ behind_one ts)
    by (word_first {at = at}) = (at, refl)

-- the same tree before the same tokens
pub before : {T : Type 0} {size : T → ℕ} {n : ℕ} {R : List Token → List Token → T → Type 0} {a b c : List Token} {t : T} → Good size n R a t b → b ≡ c → R a c t
before {R = R} {a = a} {t = t} g e = subst (λ x. R a x t) e g.holds

-- this mark, and then a reading
pub says_expect : {U : Type 0} {Q : U → List Token → Type 0} (p : Punct) (ts : List Token) {go : List Token → Answer U}
    → ((at : Place) (c : List Token) → ts ≡ mark p at ∷ c → Says Q (go c))
    → Says Q (expect p ts go)
unfolding expect expect_by
says_expect {Q = Q} p ts {go = go} next = by (ahead_is ts) next
  where
    by : {ts : List Token} {h : Ahead} → IsAhead ts h → ((at : Place) (c : List Token) → ts ≡ mark p at ∷ c → Says Q (go c)) → Says Q (expect_by p ts go h)
    by is_nothing next = says_wrong
    by (is_mark {p = q} {at = at} {rest = rest}) next = says_if (same_mark p q) (λ e. next at rest (ap (λ m. mark m at ∷ rest) (sym (mark_is p q e)))) (λ e. says_wrong)
    by is_word next = says_wrong
    by is_integer next = says_wrong
    by is_character next = says_wrong
    by is_string next = says_wrong

-- the same behind a tree, or trees
pub says_close : {T U : Type 0} {size : T → ℕ} {n : ℕ} {R : List Token → List Token → T → Type 0} {a : List Token} {t : T} {ts : List Token}
    → {Q : U → List Token → Type 0} (p : Punct) {go : List Token → Answer U}
    → Good size n R a t ts
    → ((at : Place) (c : List Token) → R a (mark p at ∷ c) t → Says Q (go c))
    → Says Q (expect p ts go)
says_close {R = R} {a = a} {t = t} {ts = ts} p g next = says_expect p ts (λ at c e. next at c (subst (λ b. R a b t) e g.holds))

pub says_expect_word : {U : Type 0} {Q : U → List Token → Type 0} (text : List ℕ) (ts : List Token) {go : List Token → Answer U}
    → ((at : Place) (c : List Token) → ts ≡ word text at ∷ c → Says Q (go c))
    → Says Q (expect_word text ts go)
unfolding expect_word expect_word_by
says_expect_word {Q = Q} text ts {go = go} next = by (ahead_is ts) next
  where
    by : {ts : List Token} {h : Ahead} → IsAhead ts h → ((at : Place) (c : List Token) → ts ≡ word text at ∷ c → Says Q (go c)) → Says Q (expect_word_by text ts go h)
    by is_nothing next = says_wrong
    by is_mark next = says_wrong
    by (is_word {text = other} {at = at} {rest = rest}) next = says_if (bytes_eq text other) (λ e. next at rest (ap (λ m. word m at ∷ rest) (sym (word_is text other e)))) (λ e. says_wrong)
    by is_integer next = says_wrong
    by is_character next = says_wrong
    by is_string next = says_wrong

pub says_expect_identifier : {U : Type 0} {Q : U → List Token → Type 0} (ts : List Token) {go : List ℕ → List Token → Answer U}
    → ((text : List ℕ) (at : Place) (c : List Token) → ts ≡ word text at ∷ c → is_identifier text ≡ true → Says Q (go text c))
    → Says Q (expect_identifier ts go)
unfolding expect_identifier expect_identifier_by
says_expect_identifier {Q = Q} ts {go = go} next = by (ahead_is ts) next
  where
    by : {ts : List Token} {h : Ahead} → IsAhead ts h → ((text : List ℕ) (at : Place) (c : List Token) → ts ≡ word text at ∷ c → is_identifier text ≡ true → Says Q (go text c)) → Says Q (expect_identifier_by ts go h)
    by is_nothing next = says_wrong
    by is_mark next = says_wrong
    by (is_word {text = text} {at = at} {rest = rest}) next = says_if (is_identifier text) (λ e. next text at rest refl e) (λ e. says_wrong)
    by is_integer next = says_wrong
    by is_character next = says_wrong
    by is_string next = says_wrong

pub both_true : {p q : Bool} → p && q ≡ true → (p ≡ true) × (q ≡ true)
both_true {p} {q} e = by p e
  where
    by : (p : Bool) → p && q ≡ true → (p ≡ true) × (q ≡ true)
    by true e = (refl, e)
    by false e = absurd (true≢false (sym e))
