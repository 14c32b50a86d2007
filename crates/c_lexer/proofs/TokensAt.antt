-- The token that a text begins with, by its class.
use Rattle.std.proofs.Common.{◌≡◌, ℕ, zero, suc, ◌+◌, ◌<◌, ◌≤◌, Bool, true, false, List, [], ◌∷◌, ◌==◌, Option, Some, None, refl, sym, ap, ◌∙◌, subst, arith, length, take, slice_index, is_some, nat_le, ⊎_elim}
use Rattle.std.specs.List.{list_all, prefix_len, zip}
use Rattle.std.specs.Str.{IsUtf8}
use Rattle.std.proofs.lemmas.Str.{IsUtf8-from_ascii}
use Rattle.std.proofs.lemmas.Bool.{cases_lt}
use Rattle.std.proofs.lemmas.Bool.Decides.{nat_tests}
use Rattle.std.proofs.lemmas.List.{length-take-le}
use Rattle.c_lexer.specs.declared.token.IntType.{IntType}
use Rattle.c_lexer.specs.declared.token.Punct.{Punct}
use Rattle.c_lexer.specs.declared.token.TokenKind.{TokenKind}
use Rattle.c_lexer.specs.declared.token.TokenKind.TheVariants as kind
use Rattle.c_lexer.specs.Characters.{is_nondigit, is_word_byte}
use Rattle.c_lexer.specs.Numbers.{begins_number, continues_number, is_number_run}
use Rattle.c_lexer.specs.Literals.{is_inside, single_quote, double_quote, StandsFor}
use Rattle.c_lexer.specs.Spellings.{IsToken, word, integer, character, string, punctuator, IsLongest}
use Rattle.c_lexer.specs.Readings.{IsTokenAt, HasNoToken, constant_of, mark_of}
use Rattle.c_lexer.proofs.Fronts.{both, mark_row}
use Rattle.c_lexer.proofs.OneToken as one
use Rattle.c_lexer.proofs.Constants.{constant_read, constant_found}
use Rattle.c_lexer.proofs.MarkTexts.{mark_has_text}
use Rattle.c_lexer.proofs.Spelled.{passes}
use Rattle.c_lexer.proofs.Tests.{middle, middle_front, literal_at, literal_middle}
use Rattle.c_lexer.proofs.Longest.{spelled_as_word, spelled_as_character, spelled_as_string, word_longest, word_front, number_longest, number_run, literal_longest, literal_none, mark_longest, mark_none}

-- a number run that is no constant
pub no_constant : (text : List ℕ) → one.class_of text ≡ 1 → constant_of text ≡ None → (k : TokenKind) → IsToken text k → ⊥
no_constant text c none k p = other text k p none (sym c ∙ one.token_is_of_class text k p)
  where
    other : (t : List ℕ) (l : TokenKind) (q : IsToken t l) → constant_of t ≡ None → 1 ≡ one.token_class t l q → ⊥
    other _ _ (word t h) n i = omega (arith, i)
    other _ _ (integer t v y h e) n i = absurd (cc (sym n ∙ constant_read t v y e))
    other _ _ (character t j v h s) n i = omega (arith, i)
    other _ _ (string t j bs h s) n i = omega (arith, i)
    other _ _ (punctuator t m h) n i = omega (arith, i)

-- ---- words

pub word_at : (a : ℕ) (rest : List ℕ) → is_nondigit a ≡ true → IsTokenAt (a ∷ rest) (suc (prefix_len is_word_byte rest)) (kind.Word (take (suc (prefix_len is_word_byte rest)) (a ∷ rest)))
word_at a rest h =
    let l = word_longest a rest h in
    let front = take (suc (prefix_len is_word_byte rest)) (a ∷ rest) in
    let class : one.class_of front ≡ 0 = ap (λ t. one.by_tests t (a == single_quote) (a == double_quote) (begins_number front)) h in
    record { longest = l; token = word front (sym (spelled_as_word front class) ∙ passes front l.spelled) }

-- ---- numbers

module _ (a : ℕ) (rest : List ℕ) (h : begins_number (a ∷ rest) ≡ true) where
  abbrev size : ℕ
  size = suc (prefix_len continues_number (zip (a ∷ rest) rest))

  abbrev front : List ℕ
  front = take size (a ∷ rest)

  is_run : is_number_run front ≡ true
  is_run = number_run a rest h

  pub number_at : (value : ℕ) (type : IntType) → constant_of front ≡ Some (value, type) → IsTokenAt (a ∷ rest) size (kind.Int value type)
  number_at value type e = record { longest = number_longest a rest h; token = integer front value type is_run (constant_found front value type e) }

  pub no_number_at : constant_of front ≡ None → HasNoToken (a ∷ rest)
  no_number_at e n k l t = no_constant front (one.number_class front is_run) e k (subst (λ j. IsToken (take j (a ∷ rest)) k) (one.one_longest (a ∷ rest) n size l (number_longest a rest h)) t)

-- ---- literals

-- the token of a character constant or a string: what stands inside, with the two quotes
module _ (rest : List ℕ) (n : ℕ) (lt : n < length rest) where
  pub character_at : (value : ℕ) → slice_index rest n ≡ single_quote → is_inside single_quote (take n rest) ≡ true → StandsFor (take n rest) (value ∷ []) → IsTokenAt (single_quote ∷ rest) (suc (suc n)) (kind.Char value)
  character_at value closes inside stands =
      let l = literal_longest single_quote 2 refl (λ xs. refl) spelled_as_character rest n lt closes inside in
      let front = single_quote ∷ take (suc n) rest in
      record { longest = l; token = character front (take n rest) value (literal_at single_quote rest n lt closes inside) stands }

  pub string_at : (bytes : List ℕ) → slice_index rest n ≡ double_quote → is_inside double_quote (take n rest) ≡ true → StandsFor (take n rest) bytes → IsTokenAt (double_quote ∷ rest) (suc (suc n)) (kind.Str bytes)
  string_at bytes closes inside stands =
      let l = literal_longest double_quote 3 refl (λ xs. refl) spelled_as_string rest n lt closes inside in
      let front = double_quote ∷ take (suc n) rest in
      record { longest = l; token = string front (take n rest) bytes (literal_at double_quote rest n lt closes inside) stands }

  pub no_character_at : slice_index rest n ≡ single_quote → is_inside single_quote (take n rest) ≡ true → ((value : ℕ) → StandsFor (take n rest) (value ∷ []) → ⊥) → HasNoToken (single_quote ∷ rest)
  no_character_at closes inside none m k l t =
      let longest = literal_longest single_quote 2 refl (λ xs. refl) spelled_as_character rest n lt closes inside in
      let token = subst (λ j. IsToken (take j (single_quote ∷ rest)) k) (one.one_longest (single_quote ∷ rest) m (suc (suc n)) l longest) t in
      other (single_quote ∷ take (suc n) rest) k token (one.token_is_of_class (single_quote ∷ take (suc n) rest) k token) (middle_front single_quote rest n lt)
    where
      other : (text : List ℕ) (j : TokenKind) (q : IsToken text j) → 2 ≡ one.token_class text j q → middle text ≡ take n rest → ⊥
      other _ _ (word text h) i e = omega (arith, i)
      other _ _ (integer text v y h f) i e = omega (arith, i)
      other _ _ (character text j v h s) i e = none v (subst (λ x. StandsFor x (v ∷ [])) (sym (literal_middle single_quote j text h) ∙ e) s)
      other _ _ (string text j bs h s) i e = omega (arith, i)
      other _ _ (punctuator text mark h) i e = omega (arith, i)

  pub no_string_at : slice_index rest n ≡ double_quote → is_inside double_quote (take n rest) ≡ true → ((bytes : List ℕ) → StandsFor (take n rest) bytes → ⊥) → HasNoToken (double_quote ∷ rest)
  no_string_at closes inside none m k l t =
      let longest = literal_longest double_quote 3 refl (λ xs. refl) spelled_as_string rest n lt closes inside in
      let token = subst (λ j. IsToken (take j (double_quote ∷ rest)) k) (one.one_longest (double_quote ∷ rest) m (suc (suc n)) l longest) t in
      other (double_quote ∷ take (suc n) rest) k token (one.token_is_of_class (double_quote ∷ take (suc n) rest) k token) (middle_front double_quote rest n lt)
    where
      other : (text : List ℕ) (j : TokenKind) (q : IsToken text j) → 3 ≡ one.token_class text j q → middle text ≡ take n rest → ⊥
      other _ _ (word text h) i e = omega (arith, i)
      other _ _ (integer text v y h f) i e = omega (arith, i)
      other _ _ (character text j v h s) i e = omega (arith, i)
      other _ _ (string text j bs h s) i e = none bs (subst (λ x. StandsFor x bs) (sym (literal_middle double_quote j text h) ∙ e) s)
      other _ _ (punctuator text mark h) i e = omega (arith, i)

-- a literal that is not closed
pub no_character_end : (rest : List ℕ) → ((n : ℕ) → n < length rest → slice_index rest n ≡ single_quote → is_inside single_quote (take n rest) ≡ true → ⊥) → HasNoToken (single_quote ∷ rest)
no_character_end rest none n k l t = literal_none single_quote 2 refl (λ xs. refl) spelled_as_character rest none n l

pub no_string_end : (rest : List ℕ) → ((n : ℕ) → n < length rest → slice_index rest n ≡ double_quote → is_inside double_quote (take n rest) ≡ true → ⊥) → HasNoToken (double_quote ∷ rest)
no_string_end rest none n k l t = literal_none double_quote 3 refl (λ xs. refl) spelled_as_string rest none n l

-- ---- marks

no_mark_from : (text : List ℕ) → is_some (mark_of text) ≡ false → mark_of text ≡ None
no_mark_from text h = at (mark_of text) h
  where
    at : (m : Option Punct) → is_some m ≡ false → m ≡ None
    at None e = refl
    at (Some x) e = absurd (cc e)

-- no mark has more than three bytes
pub no_long_mark : (text : List ℕ) (k : ℕ) → 3 < k → k ≤ length text → mark_of (take k text) ≡ None
no_long_mark text k lt le = no_mark_from (take k text) (at (is_some (mark_of (take k text))) refl)
  where
    at : (b : Bool) → is_some (mark_of (take k text)) ≡ b → is_some (mark_of (take k text)) ≡ false
    at false e = e
    at true e =
        let m = mark_row (λ row. nat_le (length row.0) 3) (take k text) refl e in
        let most = m.passes in
        let short : length m.row.0 ≤ 3 = grind (arith, nat_tests) in
        absurd (omega (arith, lt, short, ap length m.same, length-take-le k text le))

pub no_mark_past_two : (text : List ℕ) → (3 ≤ length text → mark_of (take 3 text) ≡ None) → (k : ℕ) → 2 < k → k ≤ length text → mark_of (take k text) ≡ None
no_mark_past_two text three k lt le =
    ⊎_elim (λ past. no_long_mark text k past le) (λ at. let same : k ≡ 3 = omega (arith, lt, at) in subst (λ j. mark_of (take j text) ≡ None) (sym same) (three (omega (arith, le, same)))) (cases_lt 3 k)

pub no_mark_past_one : (text : List ℕ) → (3 ≤ length text → mark_of (take 3 text) ≡ None) → (2 ≤ length text → mark_of (take 2 text) ≡ None) → (k : ℕ) → 1 < k → k ≤ length text → mark_of (take k text) ≡ None
no_mark_past_one text three two k lt le =
    ⊎_elim (λ past. no_mark_past_two text three k past le) (λ at. let same : k ≡ 2 = omega (arith, lt, at) in subst (λ j. mark_of (take j text) ≡ None) (sym same) (two (omega (arith, le, same)))) (cases_lt 2 k)

pub no_mark_here : (text : List ℕ) → (3 ≤ length text → mark_of (take 3 text) ≡ None) → (2 ≤ length text → mark_of (take 2 text) ≡ None) → (1 ≤ length text → mark_of (take 1 text) ≡ None) → (k : ℕ) → k ≤ length text → mark_of (take k text) ≡ None
no_mark_here text three two one zero le = refl
no_mark_here text three two one (suc k) le =
    ⊎_elim (λ past. no_mark_past_one text three two (suc k) past le) (λ at. let same : suc k ≡ 1 = omega (arith, at) in subst (λ j. mark_of (take j text) ≡ None) (sym same) (one (omega (arith, le, same)))) (cases_lt 1 (suc k))

-- ---- as the code has them

-- a number run by its size
pub number_found : (text rest : List ℕ) (a k : ℕ) (front : List ℕ) → text ≡ a ∷ rest → begins_number text ≡ true → k ≡ prefix_len continues_number (zip text rest) → front ≡ take (1 + k) text → (value : ℕ) (type : IntType) → constant_of front ≡ Some (value, type) → IsTokenAt text (1 + k) (kind.Int value type)
number_found text rest a k front split begins s f value type e =
    let next : suc k ≡ 1 + k = omega arith in
    let here = ap suc (s ∙ ap (λ t. prefix_len continues_number (zip t rest)) split) in
    let begins_here = subst (λ t. begins_number t ≡ true) split begins in
    let text_is : front ≡ take (suc (prefix_len continues_number (zip (a ∷ rest) rest))) (a ∷ rest) = f ∙ ap (λ j. take j text) (sym next ∙ here) ∙ ap (take (suc (prefix_len continues_number (zip (a ∷ rest) rest)))) split in
    let found = number_at a rest begins_here value type (sym (ap constant_of text_is) ∙ e) in
    subst (λ n. IsTokenAt text n (kind.Int value type)) (sym here ∙ next) (subst (λ t. IsTokenAt t (suc (prefix_len continues_number (zip (a ∷ rest) rest))) (kind.Int value type)) (sym split) found)

pub number_none : (text rest : List ℕ) (a k : ℕ) (front : List ℕ) → text ≡ a ∷ rest → begins_number text ≡ true → k ≡ prefix_len continues_number (zip text rest) → front ≡ take (1 + k) text → constant_of front ≡ None → HasNoToken text
number_none text rest a k front split begins s f e =
    let next : suc k ≡ 1 + k = omega arith in
    let here = ap suc (s ∙ ap (λ t. prefix_len continues_number (zip t rest)) split) in
    let text_is : front ≡ take (suc (prefix_len continues_number (zip (a ∷ rest) rest))) (a ∷ rest) = f ∙ ap (λ j. take j text) (sym next ∙ here) ∙ ap (take (suc (prefix_len continues_number (zip (a ∷ rest) rest)))) split in
    subst HasNoToken (sym split) (no_number_at a rest (subst (λ t. begins_number t ≡ true) split begins) (sym (ap constant_of text_is) ∙ e))

-- a word by its size
pub word_found : (text rest : List ℕ) (a k : ℕ) → text ≡ a ∷ rest → is_nondigit a ≡ true → k ≡ prefix_len is_word_byte rest → IsTokenAt text (1 + k) (kind.Word (take (1 + k) text))
word_found text rest a k split h s =
    let next : suc (prefix_len is_word_byte rest) ≡ 1 + k = omega (arith, s) in
    subst (λ n. IsTokenAt text n (kind.Word (take n text))) next (subst (λ t. IsTokenAt t (suc (prefix_len is_word_byte rest)) (kind.Word (take (suc (prefix_len is_word_byte rest)) t))) (sym split) (word_at a rest h))

pub word_requires : (text rest : List ℕ) (a k : ℕ) (front : List ℕ) → text ≡ a ∷ rest → is_nondigit a ≡ true → k ≡ prefix_len is_word_byte rest → front ≡ take (1 + k) text → list_all is_word_byte front ≡ true
word_requires text rest a k front split h s f =
    let next : suc (prefix_len is_word_byte rest) ≡ 1 + k = omega (arith, s) in
    ap (list_all is_word_byte) (f ∙ ap (λ j. take j text) (sym next) ∙ ap (take (suc (prefix_len is_word_byte rest))) split) ∙ word_front a rest h

-- a word is text
ascii : (text : List ℕ) → list_all is_word_byte text ≡ true → (i : ℕ) → slice_index text i < 128
ascii [] h i = omega arith
ascii (b ∷ text) h zero = let first = (both (is_word_byte b) _ h).0 in grind (arith, nat_tests)
ascii (b ∷ text) h (suc i) = ascii text (both (is_word_byte b) _ h).1 i

pub word_is_text : (text : List ℕ) → list_all is_word_byte text ≡ true → IsUtf8 text
word_is_text text h = IsUtf8-from_ascii text (ascii text h)

-- a mark by its size
pub mark_found : (text rest : List ℕ) (a n : ℕ) (mark : Punct) → text ≡ a ∷ rest → is_nondigit a ≡ false → (a == single_quote) ≡ false → (a == double_quote) ≡ false → begins_number text ≡ false
    → 0 < n → n ≤ length text → mark_of (take n text) ≡ Some mark → ((k : ℕ) → n < k → k ≤ length text → mark_of (take k text) ≡ None) → IsTokenAt text n (kind.Punct mark)
mark_found text rest a n mark split no_letter single double no_number some within is longer =
    let longest = mark_longest a rest no_letter single double (subst (λ u. begins_number u ≡ false) split no_number) n mark some (subst (λ u. n ≤ length u) split within) (subst (λ u. mark_of (take n u) ≡ Some mark) split is)
    (λ k lt le. subst (λ u. mark_of (take k u) ≡ None) split (longer k lt (subst (λ u. k ≤ length u) (sym split) le))) in
    record { longest = subst (λ u. IsLongest u n) (sym split) longest; token = punctuator (take n text) mark (mark_has_text (take n text) mark is) }

pub mark_missing : (text rest : List ℕ) (a : ℕ) → text ≡ a ∷ rest → is_nondigit a ≡ false → (a == single_quote) ≡ false → (a == double_quote) ≡ false → begins_number text ≡ false
    → ((k : ℕ) → k ≤ length text → mark_of (take k text) ≡ None) → HasNoToken text
mark_missing text rest a split no_letter single double no_number none n k l t =
    mark_none a rest no_letter single double (subst (λ u. begins_number u ≡ false) split no_number) (λ i le. subst (λ u. mark_of (take i u) ≡ None) split (none i (subst (λ u. i ≤ length u) (sym split) le))) n (subst (λ u. IsLongest u n) split l)
