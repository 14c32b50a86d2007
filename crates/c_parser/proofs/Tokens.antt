-- The first of the tokens that are left, by its kind.
use Rattle.std.proofs.Common.{◌≡◌, ℕ, suc, ◌<◌, ◌≤◌, Bool, true, false, List, [], ◌∷◌, ◌++◌, length, codes, if◌then◌else◌, refl, sym, ap, ◌∙◌, arith, true≢false, bytes_eq, nat_lt}
use Rattle.std.proofs.lemmas.Bool.Decides.{nat_tests}
use Rattle.std.proofs.lemmas.Slice.Eq.{bytes_eq-Decides}
use Rattle.c_lexer.specs.declared.token.Punct.{Punct}
use Rattle.c_lexer.specs.declared.token.IntType.{IntType}
use Rattle.c_lexer.specs.declared.token.Token.{Token}
use Rattle.c_lexer.specs.declared.token.TokenKind.{TokenKind}
use Rattle.c_lexer.specs.declared.token.TokenKind.TheVariants as token
use Rattle.c_syntax.specs.Trees.{Tree, string_node}
use Rattle.c_grammar.specs.Scopes.{Names}
use Rattle.c_grammar.specs.Vocabulary.{Place, mark, word, integer, character, string}
use Rattle.c_grammar.specs.Answers.{Answer, found, wrong, deep, fit, Ahead, word_ahead, ahead, ahead_by, expect, expect_by, expect_word, expect_word_by}
use Rattle.c_grammar.specs.Reading.{behind_one, behind_const, behind_const_by, begins_with_mark, begins_with_mark_by, begins_with_word, begins_with_word_by, joined_behind, joined_by, Reader, primary_by}
use Rattle.c_grammar.proofs.SoundSteps.{IsAhead, is_nothing, is_mark, is_word, is_integer, is_character, is_string, ahead_is}
use Rattle.c_parser.specs.Steps.{begins_string}

abbrev pub place_of : Token → Place
place_of t = record { start = t.start; end = t.end }

-- ---- a token as the rules name it

pub mark_token : (ts : List Token) (t : Token) (p : Punct) → ts ≡ t ∷ behind_one ts → t.kind ≡ token.Punct p → ts ≡ mark p (place_of t) ∷ behind_one ts
mark_token ts t p e k = e ∙ ap (λ (x : TokenKind). record { kind = x; start = t.start; end = t.end } ∷ behind_one ts) k

pub word_token : (ts : List Token) (t : Token) (text : List ℕ) → ts ≡ t ∷ behind_one ts → t.kind ≡ token.Word text → ts ≡ word text (place_of t) ∷ behind_one ts
word_token ts t text e k = e ∙ ap (λ (x : TokenKind). record { kind = x; start = t.start; end = t.end } ∷ behind_one ts) k

pub integer_token : (ts : List Token) (t : Token) (value : ℕ) (type : IntType) → ts ≡ t ∷ behind_one ts → t.kind ≡ token.Int value type → ts ≡ integer value type (place_of t) ∷ behind_one ts
integer_token ts t value type e k = e ∙ ap (λ (x : TokenKind). record { kind = x; start = t.start; end = t.end } ∷ behind_one ts) k

pub character_token : (ts : List Token) (t : Token) (value : ℕ) → ts ≡ t ∷ behind_one ts → t.kind ≡ token.Char value → ts ≡ character value (place_of t) ∷ behind_one ts
character_token ts t value e k = e ∙ ap (λ (x : TokenKind). record { kind = x; start = t.start; end = t.end } ∷ behind_one ts) k

pub string_token : (ts : List Token) (t : Token) (bytes : List ℕ) → ts ≡ t ∷ behind_one ts → t.kind ≡ token.Str bytes → ts ≡ string bytes (place_of t) ∷ behind_one ts
string_token ts t bytes e k = e ∙ ap (λ (x : TokenKind). record { kind = x; start = t.start; end = t.end } ∷ behind_one ts) k

-- the same with a place that is not told
pub some_mark : (ts : List Token) (t : Token) (p : Punct) → ts ≡ t ∷ behind_one ts → t.kind ≡ token.Punct p → (at : Place) × (ts ≡ mark p at ∷ behind_one ts)
some_mark ts t p e k = (place_of t, mark_token ts t p e k)

pub some_string : (ts : List Token) (t : Token) (bytes : List ℕ) → ts ≡ t ∷ behind_one ts → t.kind ≡ token.Str bytes → (at : Place) × (ts ≡ string bytes at ∷ behind_one ts)
some_string ts t bytes e k = (place_of t, string_token ts t bytes e k)

-- ---- what is ahead

pub ahead_word : (ts : List Token) (t : Token) (text : List ℕ) → ts ≡ t ∷ behind_one ts → t.kind ≡ token.Word text → ahead ts ≡ word_ahead text (place_of t) (behind_one ts)
unfolding ahead ahead_by
ahead_word ts t text e k = ap ahead (word_token ts t text e k)

-- ---- the words `const`

bytes_eq_sym : (a b : List ℕ) → bytes_eq a b ≡ bytes_eq b a
bytes_eq_sym a b = by (bytes_eq a b) (bytes_eq b a) refl refl
  where
    by : (x y : Bool) → bytes_eq a b ≡ x → bytes_eq b a ≡ y → x ≡ y
    by true true e f = refl
    by false false e f = refl
    by true false e f = sym ((bytes_eq-Decides b a).1 (sym ((bytes_eq-Decides a b).0 e))) ∙ f
    by false true e f = sym e ∙ (bytes_eq-Decides a b).1 (sym ((bytes_eq-Decides b a).0 f))

pub behind_one_const : (ts : List Token) → begins_with_word (codes "const") ts ≡ true → behind_const (behind_one ts) ≡ behind_const ts
unfolding behind_const behind_const_by
behind_one_const ts e = by (ahead_is ts) e
  where
    by : {ts : List Token} {h : Ahead} → IsAhead ts h → begins_with_word_by (codes "const") h ≡ true → behind_const (behind_one ts) ≡ behind_const ts
    by is_nothing e = absurd (true≢false (sym e))
    by is_mark e = absurd (true≢false (sym e))
    by (is_word {text = text} {at = at} {rest = rest}) e = ap (λ b. if b then behind_const rest else (word text at ∷ rest)) (sym (bytes_eq_sym text (codes "const") ∙ e))
    by is_integer e = absurd (true≢false (sym e))
    by is_character e = absurd (true≢false (sym e))
    by is_string e = absurd (true≢false (sym e))

pub behind_no_const : (ts : List Token) → begins_with_word (codes "const") ts ≡ false → ts ≡ behind_const ts
unfolding behind_const behind_const_by
behind_no_const ts e = by (ahead_is ts) e
  where
    by : {ts : List Token} {h : Ahead} → IsAhead ts h → begins_with_word_by (codes "const") h ≡ false → ts ≡ behind_const ts
    by is_nothing e = refl
    by is_mark e = refl
    by (is_word {text = text} {at = at} {rest = rest}) e = ap (λ b. if b then behind_const rest else (word text at ∷ rest)) (sym (bytes_eq_sym text (codes "const") ∙ e))
    by is_integer e = refl
    by is_character e = refl
    by is_string e = refl

-- ---- lengths

pub shorter_word : (text : List ℕ) (ts : List Token) → begins_with_word text ts ≡ true → length (behind_one ts) < length ts
shorter_word text ts e = by (ahead_is ts) e
  where
    by : {ts : List Token} {h : Ahead} → IsAhead ts h → begins_with_word_by text h ≡ true → length (behind_one ts) < length ts
    by is_nothing e = absurd (true≢false (sym e))
    by is_mark e = omega arith
    by is_word e = omega arith
    by is_integer e = omega arith
    by is_character e = omega arith
    by is_string e = omega arith

pub shorter_one : (ts : List Token) (t : Token) → ts ≡ t ∷ behind_one ts → length (behind_one ts) < length ts
shorter_one ts t e = let h : length ts ≡ suc (length (behind_one ts)) = ap length e in omega arith

pub some_shorter : (ts rest : List Token) → rest ≡ behind_one ts → 1 ≤ length ts → length rest < length ts
some_shorter [] rest e some = absurd (omega (arith, some))
some_shorter (t ∷ ts) rest e some = let h = ap length e in omega (arith, h)

pub behind_one_shorter : (ts : List Token) → length (behind_one ts) ≤ length ts
behind_one_shorter [] = omega arith
behind_one_shorter (t ∷ rest) = omega arith

-- a part behind a first token
pub shorter_behind : (ts mid rest : List Token) → mid ≡ behind_one ts → length rest < length mid → length rest < length ts
shorter_behind ts mid rest e h = let a = behind_one_shorter ts in let b = ap length e in omega (arith, a, b, h)

pub still_shorter : (n : ℕ) (ts rest : List Token) → rest ≡ behind_one ts → length ts ≤ n → length rest ≤ n
still_shorter n ts rest e h = let l = behind_one_shorter ts in let m = ap length e in omega arith

-- ---- strings

pub joined_more : (bytes more : List ℕ) (at : Place) (rest : List Token) → joined_behind bytes (string more at ∷ rest) ≡ joined_behind (bytes ++ more) rest
unfolding joined_behind joined_by
joined_more bytes more at rest = refl

pub joined_end : (bytes : List ℕ) (ts : List Token) → begins_string (ahead ts) ≡ false → joined_behind bytes ts ≡ (bytes, ts)
unfolding joined_behind joined_by
joined_end bytes ts e = by (ahead_is ts) e
  where
    by : {ts : List Token} {h : Ahead} → IsAhead ts h → begins_string h ≡ false → joined_behind bytes ts ≡ (bytes, ts)
    by is_nothing e = refl
    by is_mark e = refl
    by is_word e = refl
    by is_integer e = refl
    by is_character e = refl
    by is_string e = absurd (true≢false e)

-- one more string is joined
pub joined_step : (bytes more slice joined : List ℕ) (ts rest initial : List Token) (first : List ℕ)
    → (at : Place) × (ts ≡ string more at ∷ behind_one ts)
    → slice ≡ more
    → joined ≡ bytes ++ slice
    → rest ≡ behind_one ts
    → joined_behind bytes ts ≡ joined_behind first initial
    → joined_behind joined rest ≡ joined_behind first initial
joined_step bytes more slice joined ts rest initial first s a b c e =
    let m = joined_more bytes more s.0 (behind_one ts) in
    let n = ap (joined_behind bytes) s.1 in
    cc

-- ---- budgets

fit_by : {T : Type 0} (b : Bool) (x y : T) → b ≡ false → (if b then x else y) ≡ y
fit_by true x y e = absurd (true≢false e)
fit_by false x y e = refl

pub fit_enough : {T : Type 0} (needed d : ℕ) (rest : List Token) (x : Answer T) → needed ≤ d → fit needed d rest x ≡ x
unfolding fit
fit_enough needed d rest x h = fit_by (nat_lt d needed) (deep rest) x (grind (arith, nat_tests))

-- ---- a string literal is read

string_read_at : (d : ℕ) (r : Reader) (names : Names) (ts : List Token) (first bytes : List ℕ) (left : List Token) (at : Place)
    → ts ≡ string first at ∷ behind_one ts
    → 1 ≤ d
    → joined_behind first (behind_one ts) ≡ (bytes, left)
    → primary_by d r names ts (ahead ts) ≡ found (string_node bytes at.start) left
unfolding ahead ahead_by primary_by
string_read_at d r names ts first bytes left at e h j =
    ap (λ us. primary_by d r names ts (ahead us)) e
    ∙ ap (λ (m : List ℕ × List Token). fit 1 d (behind_one ts) (found (string_node m.0 at.start) m.1)) j
    ∙ fit_enough 1 d (behind_one ts) (found (string_node bytes at.start) left) h

pub string_read : (d : ℕ) (r : Reader) (names : Names) (ts initial left : List Token) (first bytes : List ℕ) (start : ℕ) (t : Tree)
    → (at : Place) × ((ts ≡ string first at ∷ behind_one ts) × (start ≡ at.start))
    → 1 ≤ d
    → initial ≡ behind_one ts
    → joined_behind bytes left ≡ joined_behind first initial
    → begins_string (ahead left) ≡ false
    → t ≡ string_node bytes start
    → primary_by d r names ts (ahead ts) ≡ found t left
string_read d r names ts initial left first bytes start t s h i j e f =
    let last = joined_end bytes left e in
    let read = string_read_at d r names ts first bytes left s.0 s.1.0 h cc in
    let same : string_node bytes s.0.start ≡ t = sym (f ∙ ap (string_node bytes) s.1.1) in
    read ∙ ap (λ x. found x left) same

-- ---- a mark or a word that is expected

pub mark_there : {U : Type 0} (expected : Punct) (ts : List Token) (go : List Token → Answer U) → begins_with_mark expected ts ≡ true → expect expected ts go ≡ go (behind_one ts)
unfolding expect expect_by
mark_there {U = U} expected ts go e = by (ahead_is ts) e
  where
    by : {ts : List Token} {h : Ahead} → IsAhead ts h → begins_with_mark_by expected h ≡ true → expect_by expected ts go h ≡ go (behind_one ts)
    by is_nothing e = absurd (true≢false (sym e))
    by (is_mark {p = p} {at = at} {rest = rest}) e = ap (λ b. if b then go rest else wrong (mark p at ∷ rest)) e
    by is_word e = absurd (true≢false (sym e))
    by is_integer e = absurd (true≢false (sym e))
    by is_character e = absurd (true≢false (sym e))
    by is_string e = absurd (true≢false (sym e))

pub mark_absent : {U : Type 0} (expected : Punct) (ts : List Token) (go : List Token → Answer U) → begins_with_mark expected ts ≡ false → expect expected ts go ≡ wrong ts
unfolding expect expect_by
mark_absent {U = U} expected ts go e = by (ahead_is ts) e
  where
    by : {ts : List Token} {h : Ahead} → IsAhead ts h → begins_with_mark_by expected h ≡ false → expect_by expected ts go h ≡ wrong ts
    by is_nothing e = refl
    by (is_mark {p = p} {at = at} {rest = rest}) e = ap (λ b. if b then go rest else wrong (mark p at ∷ rest)) e
    by is_word e = refl
    by is_integer e = refl
    by is_character e = refl
    by is_string e = refl

pub word_there : {U : Type 0} (text : List ℕ) (ts : List Token) (go : List Token → Answer U) → begins_with_word text ts ≡ true → expect_word text ts go ≡ go (behind_one ts)
unfolding expect_word expect_word_by
word_there {U = U} text ts go e = by (ahead_is ts) e
  where
    by : {ts : List Token} {h : Ahead} → IsAhead ts h → begins_with_word_by text h ≡ true → expect_word_by text ts go h ≡ go (behind_one ts)
    by is_nothing e = absurd (true≢false (sym e))
    by is_mark e = absurd (true≢false (sym e))
    by (is_word {text = other} {at = at} {rest = rest}) e = ap (λ b. if b then go rest else wrong (word other at ∷ rest)) e
    by is_integer e = absurd (true≢false (sym e))
    by is_character e = absurd (true≢false (sym e))
    by is_string e = absurd (true≢false (sym e))

pub word_absent : {U : Type 0} (text : List ℕ) (ts : List Token) (go : List Token → Answer U) → begins_with_word text ts ≡ false → expect_word text ts go ≡ wrong ts
unfolding expect_word expect_word_by
word_absent {U = U} text ts go e = by (ahead_is ts) e
  where
    by : {ts : List Token} {h : Ahead} → IsAhead ts h → begins_with_word_by text h ≡ false → expect_word_by text ts go h ≡ wrong ts
    by is_nothing e = refl
    by is_mark e = refl
    by (is_word {text = other} {at = at} {rest = rest}) e = ap (λ b. if b then go rest else wrong (word other at ∷ rest)) e
    by is_integer e = refl
    by is_character e = refl
    by is_string e = refl

-- ---- the first token with its place, as a function's caller has it

pub placed_mark : (ts : List Token) (t : Token) (p : Punct) → ts ≡ t ∷ behind_one ts → t.kind ≡ token.Punct p → (at : Place) × ((ts ≡ mark p at ∷ behind_one ts) × (t.start ≡ at.start))
placed_mark ts t p e k = (place_of t, (mark_token ts t p e k, refl))

pub placed_word : (ts : List Token) (t : Token) (text text2 : List ℕ) → ts ≡ t ∷ behind_one ts → t.kind ≡ token.Word text → text2 ≡ text
    → (at : Place) × ((ts ≡ word text2 at ∷ behind_one ts) × (t.start ≡ at.start))
placed_word ts t text text2 e k same = (place_of t, (word_token ts t text e k ∙ ap (λ w. word w (place_of t) ∷ behind_one ts) (sym same), refl))

pub placed_string : (ts : List Token) (t : Token) (bytes : List ℕ) → ts ≡ t ∷ behind_one ts → t.kind ≡ token.Str bytes → (at : Place) × ((ts ≡ string bytes at ∷ behind_one ts) × (t.start ≡ at.start))
placed_string ts t bytes e k = (place_of t, (string_token ts t bytes e k, refl))

pub some_token : (ts : List Token) (t : Token) → ts ≡ t ∷ behind_one ts → 1 ≤ length ts
some_token ts t e = let h : length ts ≡ suc (length (behind_one ts)) = ap length e in omega (arith, h)
