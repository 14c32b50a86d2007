-- The longest spelling, by the class of the text.
use Rattle.std.proofs.Common.{◌≡◌, ℕ, zero, suc, ◌+◌, ◌-◌, ◌<◌, ◌≤◌, ◌⊎◌, inl, inr, Bool, true, false, cond, List, [], ◌∷◌, ◌==◌, ◌||◌, ◌&&◌, not, Option, Some, None, is_some, refl, sym, ap, ◌∙◌, subst, arith, length, take, drop, slice_index}
use Rattle.std.specs.List.{list_all, prefix_len, zip}
use Rattle.std.proofs.lemmas.Bool.Decides.{nat_tests}
use Rattle.std.proofs.lemmas.List.Sums.{prefix_len-le-length}
use Rattle.c_lexer.specs.declared.token.Punct.{Punct}
use Rattle.c_lexer.specs.Characters.{newline, is_nondigit, is_digit, is_word_byte}
use Rattle.c_lexer.specs.Readings.{mark_of}
use Rattle.c_lexer.specs.Numbers.{begins_number, continues_number, is_number_run}
use Rattle.c_lexer.specs.Literals.{backslash, is_inside, single_quote, double_quote}
use Rattle.c_lexer.specs.Spellings.{is_word, IsLongest}
use Rattle.c_lexer.proofs.Fronts.{both}
use Rattle.c_lexer.proofs.Insides.{front_past, inside_append}
use Rattle.c_lexer.proofs.Tests.{is_literal, is_spelling, literal_front}
use Rattle.c_lexer.proofs.Spelled.{passes, longest_by_test}
use Rattle.c_lexer.proofs.OneToken.{class_of, by_tests, word_class, number_class, character_class, string_class, punctuator_class}

-- ---- spellings of a class

is_false : (b : Bool) → (b ≡ true → ⊥) → b ≡ false
is_false true h = absurd (h refl)
is_false false h = refl

no_word : (text : List ℕ) (k : ℕ) → class_of text ≡ k → (k ≡ 0 → ⊥) → is_word text ≡ false
no_word text k c other = is_false (is_word text) (λ h. other (sym c ∙ word_class text h))

no_number : (text : List ℕ) (k : ℕ) → class_of text ≡ k → (k ≡ 1 → ⊥) → is_number_run text ≡ false
no_number text k c other = is_false (is_number_run text) (λ h. other (sym c ∙ number_class text h))

no_character : (text : List ℕ) (k : ℕ) → class_of text ≡ k → (k ≡ 2 → ⊥) → is_literal single_quote text ≡ false
no_character text k c other = is_false (is_literal single_quote text) (λ h. other (sym c ∙ character_class text h))

no_string : (text : List ℕ) (k : ℕ) → class_of text ≡ k → (k ≡ 3 → ⊥) → is_literal double_quote text ≡ false
no_string text k c other = is_false (is_literal double_quote text) (λ h. other (sym c ∙ string_class text h))

no_mark : (text : List ℕ) (k : ℕ) → class_of text ≡ k → (k ≡ 4 → ⊥) → is_some (mark_of text) ≡ false
no_mark text k c other = at (mark_of text) refl
  where
    at : (m : Option Punct) → mark_of text ≡ m → is_some m ≡ false
    at None e = refl
    at (Some m) e = absurd (other (sym c ∙ punctuator_class text m e))

or_false : (b : Bool) → (b || false) ≡ b
or_false true = refl
or_false false = refl

pub spelled_as_word : (text : List ℕ) → class_of text ≡ 0 → is_spelling text ≡ is_word text
unfolding is_spelling
spelled_as_word text c =
    ap (λ t. is_word text || (t || (is_literal single_quote text || (is_literal double_quote text || is_some (mark_of text))))) (no_number text 0 c (λ e. omega (arith, e)))
    ∙ ap (λ t. is_word text || (t || (is_literal double_quote text || is_some (mark_of text)))) (no_character text 0 c (λ e. omega (arith, e)))
    ∙ ap (λ t. is_word text || (t || is_some (mark_of text))) (no_string text 0 c (λ e. omega (arith, e)))
    ∙ ap (λ t. is_word text || t) (no_mark text 0 c (λ e. omega (arith, e)))
    ∙ or_false (is_word text)

pub spelled_as_number : (text : List ℕ) → class_of text ≡ 1 → is_spelling text ≡ is_number_run text
unfolding is_spelling
spelled_as_number text c =
    ap (λ t. t || (is_number_run text || (is_literal single_quote text || (is_literal double_quote text || is_some (mark_of text))))) (no_word text 1 c (λ e. omega (arith, e)))
    ∙ ap (λ t. is_number_run text || (t || (is_literal double_quote text || is_some (mark_of text)))) (no_character text 1 c (λ e. omega (arith, e)))
    ∙ ap (λ t. is_number_run text || (t || is_some (mark_of text))) (no_string text 1 c (λ e. omega (arith, e)))
    ∙ ap (λ t. is_number_run text || t) (no_mark text 1 c (λ e. omega (arith, e)))
    ∙ or_false (is_number_run text)

pub spelled_as_character : (text : List ℕ) → class_of text ≡ 2 → is_spelling text ≡ is_literal single_quote text
unfolding is_spelling
spelled_as_character text c =
    ap (λ t. t || (is_number_run text || (is_literal single_quote text || (is_literal double_quote text || is_some (mark_of text))))) (no_word text 2 c (λ e. omega (arith, e)))
    ∙ ap (λ t. t || (is_literal single_quote text || (is_literal double_quote text || is_some (mark_of text)))) (no_number text 2 c (λ e. omega (arith, e)))
    ∙ ap (λ t. is_literal single_quote text || (t || is_some (mark_of text))) (no_string text 2 c (λ e. omega (arith, e)))
    ∙ ap (λ t. is_literal single_quote text || t) (no_mark text 2 c (λ e. omega (arith, e)))
    ∙ or_false (is_literal single_quote text)

pub spelled_as_string : (text : List ℕ) → class_of text ≡ 3 → is_spelling text ≡ is_literal double_quote text
unfolding is_spelling
spelled_as_string text c =
    ap (λ t. t || (is_number_run text || (is_literal single_quote text || (is_literal double_quote text || is_some (mark_of text))))) (no_word text 3 c (λ e. omega (arith, e)))
    ∙ ap (λ t. t || (is_literal single_quote text || (is_literal double_quote text || is_some (mark_of text)))) (no_number text 3 c (λ e. omega (arith, e)))
    ∙ ap (λ t. t || (is_literal double_quote text || is_some (mark_of text))) (no_character text 3 c (λ e. omega (arith, e)))
    ∙ ap (λ t. is_literal double_quote text || t) (no_mark text 3 c (λ e. omega (arith, e)))
    ∙ or_false (is_literal double_quote text)

pub spelled_as_mark : (text : List ℕ) → class_of text ≡ 4 → is_spelling text ≡ is_some (mark_of text)
unfolding is_spelling
spelled_as_mark text c =
    ap (λ t. t || (is_number_run text || (is_literal single_quote text || (is_literal double_quote text || is_some (mark_of text))))) (no_word text 4 c (λ e. omega (arith, e)))
    ∙ ap (λ t. t || (is_literal single_quote text || (is_literal double_quote text || is_some (mark_of text)))) (no_number text 4 c (λ e. omega (arith, e)))
    ∙ ap (λ t. t || (is_literal double_quote text || is_some (mark_of text))) (no_character text 4 c (λ e. omega (arith, e)))
    ∙ ap (λ t. t || is_some (mark_of text)) (no_string text 4 c (λ e. omega (arith, e)))

-- ---- fronts of runs

front_passes : {X : Type 0} (p : X → Bool) (xs : List X) → list_all p (take (prefix_len p xs) xs) ≡ true
front_passes p [] = refl
front_passes p (x ∷ xs) = at (front_passes p xs) (p x) refl
  where
    at : list_all p (take (prefix_len p xs) xs) ≡ true → (b : Bool) → p x ≡ b → list_all p (take (cond b (1 + prefix_len p xs) 0) (x ∷ xs)) ≡ true
    at rest true e =
        let next : suc (prefix_len p xs) ≡ 1 + prefix_len p xs = omega arith in
        subst (λ j. list_all p (take j (x ∷ xs)) ≡ true) next (ap (λ t. t && list_all p (take (prefix_len p xs) xs)) e ∙ rest)
    at rest false e = refl

past_fails : {X : Type 0} (p : X → Bool) (xs : List X) (j : ℕ) → prefix_len p xs < j → j ≤ length xs → list_all p (take j xs) ≡ false
past_fails p [] j lt le = absurd (omega (arith, lt, le))
past_fails p (x ∷ xs) zero lt le = absurd (omega (arith, lt))
past_fails p (x ∷ xs) (suc j) lt le = at (past_fails p xs j) (p x) refl
  where
    at : (prefix_len p xs < j → j ≤ length xs → list_all p (take j xs) ≡ false) → (b : Bool) → p x ≡ b → (p x && list_all p (take j xs)) ≡ false
    at rest true e = let less : prefix_len p (x ∷ xs) < suc j = lt in let here : prefix_len p (x ∷ xs) ≡ 1 + prefix_len p xs = ap (λ t. cond t (1 + prefix_len p xs) 0) e in
        ap (λ t. t && list_all p (take j xs)) e ∙ rest (omega (arith, less, here)) (omega (arith, le))
    at rest false e = ap (λ t. t && list_all p (take j xs)) e

-- ---- words

pub word_longest : (a : ℕ) (rest : List ℕ) → is_nondigit a ≡ true → IsLongest (a ∷ rest) (suc (prefix_len is_word_byte rest))
word_longest a rest h = longest_by_test (a ∷ rest) (suc (prefix_len is_word_byte rest))
    (omega arith)
    (let within = prefix_len-le-length is_word_byte rest in omega (arith, within))
    (spelled_as_word (a ∷ take size rest) (class size) ∙ ap (λ t. t && list_all is_word_byte (take size rest)) h ∙ front_passes is_word_byte rest)
    (λ m lt le. longer m lt le)
  where
    size : ℕ
    size = prefix_len is_word_byte rest

    class : (j : ℕ) → class_of (a ∷ take j rest) ≡ 0
    class j = ap (λ t. by_tests t (a == single_quote) (a == double_quote) (begins_number (a ∷ take j rest))) h

    longer : (m : ℕ) → suc size < m → m ≤ length (a ∷ rest) → is_spelling (take m (a ∷ rest)) ≡ false
    longer zero lt le = absurd (omega (arith, lt))
    longer (suc j) lt le =
        spelled_as_word (a ∷ take j rest) (class j) ∙ ap (λ t. t && list_all is_word_byte (take j rest)) h ∙ past_fails is_word_byte rest j (omega (arith, lt)) (omega (arith, le))

-- ---- number runs

-- what begins a number is of that class
class_of_number : (text : List ℕ) → begins_number text ≡ true → class_of text ≡ 1
class_of_number [] h = absurd (cc h)
class_of_number (a ∷ rest) h =
    let tests = digits rest h in
    ap (λ t. by_tests t (a == single_quote) (a == double_quote) (begins_number (a ∷ rest))) tests.0
    ∙ ap (λ t. by_tests false t (a == double_quote) (begins_number (a ∷ rest))) tests.1
    ∙ ap (λ t. by_tests false false t (begins_number (a ∷ rest))) tests.2
    ∙ ap (by_tests false false false) h
  where
    digits : (more : List ℕ) → begins_number (a ∷ more) ≡ true → (is_nondigit a ≡ false) × ((a == single_quote) ≡ false) × ((a == double_quote) ≡ false)
    digits [] b = (grind (arith, nat_tests), grind (arith, nat_tests), grind (arith, nat_tests))
    digits (c ∷ more) b = (grind (arith, nat_tests), grind (arith, nat_tests), grind (arith, nat_tests))

-- the pairs of neighbours of a front are a front of the pairs
zip_front : (a : ℕ) (rest : List ℕ) (j : ℕ) → zip (a ∷ take j rest) (take j rest) ≡ take j (zip (a ∷ rest) rest)
zip_front a [] zero = refl
zip_front a [] (suc j) = refl
zip_front a (b ∷ rest) zero = refl
zip_front a (b ∷ rest) (suc j) = ap (λ xs. (a, b) ∷ xs) (zip_front b rest j)

zip_length : (a : ℕ) (rest : List ℕ) → length (zip (a ∷ rest) rest) ≡ length rest
zip_length a [] = refl
zip_length a (b ∷ rest) = ap suc (zip_length b rest)

module _ (a : ℕ) (rest : List ℕ) (h : begins_number (a ∷ rest) ≡ true) where
  abbrev pairs : List (ℕ × ℕ)
  pairs = zip (a ∷ rest) rest

  run : (j : ℕ) → is_number_run (a ∷ take j rest) ≡ (begins_number (a ∷ take j rest) && list_all continues_number (take j pairs))
  run j = ap (λ xs. begins_number (a ∷ take j rest) && list_all continues_number xs) (zip_front a rest j)

  -- a front of two bytes or more begins a number too, and so does one of a digit
  begins : (j : ℕ) → (is_digit a ≡ true) ⊎ (0 < j) → begins_number (a ∷ take j rest) ≡ true
  begins j w = at rest j h w
    where
      at : (more : List ℕ) (i : ℕ) → begins_number (a ∷ more) ≡ true → (is_digit a ≡ true) ⊎ (0 < i) → begins_number (a ∷ take i more) ≡ true
      at [] zero g (inl d) = d
      at [] (suc i) g v = g
      at [] zero g (inr lt) = absurd (omega (arith, lt))
      at (b ∷ more) zero g (inl d) = d
      at (b ∷ more) zero g (inr lt) = absurd (omega (arith, lt))
      at (b ∷ more) (suc i) g v = g

  -- a run that begins with a dot goes on
  starts : (is_digit a ≡ true) ⊎ (0 < prefix_len continues_number pairs)
  starts = at rest h
    where
      at : (more : List ℕ) → begins_number (a ∷ more) ≡ true → (is_digit a ≡ true) ⊎ (0 < prefix_len continues_number (zip (a ∷ more) more))
      at [] g = inl g
      at (b ∷ more) g = dot (is_digit a) refl
        where
          dot : (t : Bool) → is_digit a ≡ t → (is_digit a ≡ true) ⊎ (0 < prefix_len continues_number (zip (a ∷ b ∷ more) (b ∷ more)))
          dot true e = inl e
          dot false e =
              let goes_on : continues_number (a, b) ≡ true = grind (arith, nat_tests) in
              inr (subst (λ t. 0 < cond t (1 + prefix_len continues_number (zip (b ∷ more) more)) 0) (sym goes_on) (omega arith))

  number_class_of : (j : ℕ) → (is_digit a ≡ true) ⊎ (0 < j) → class_of (a ∷ take j rest) ≡ 1
  number_class_of j w = class_of_number (a ∷ take j rest) (begins j w)

  pub number_run : is_number_run (a ∷ take (prefix_len continues_number pairs) rest) ≡ true
  number_run = run (prefix_len continues_number pairs) ∙ ap (λ t. t && list_all continues_number (take (prefix_len continues_number pairs) pairs)) (begins (prefix_len continues_number pairs) starts) ∙ front_passes continues_number pairs

  pub number_longest : IsLongest (a ∷ rest) (suc (prefix_len continues_number pairs))
  number_longest = longest_by_test (a ∷ rest) (suc (prefix_len continues_number pairs))
      (omega arith)
      (let within = prefix_len-le-length continues_number pairs in omega (arith, within, zip_length a rest))
      (spelled_as_number (a ∷ take size rest) (number_class_of size starts) ∙ number_run)
      (λ m lt le. longer m lt le)
    where
      size : ℕ
      size = prefix_len continues_number pairs

      longer : (m : ℕ) → suc size < m → m ≤ length (a ∷ rest) → is_spelling (take m (a ∷ rest)) ≡ false
      longer zero lt le = absurd (omega (arith, lt))
      longer (suc j) lt le =
          let two : 0 < j = omega (arith, lt) in
          spelled_as_number (a ∷ take j rest) (number_class_of j (inr two)) ∙ run j ∙ ap (λ t. t && list_all continues_number (take j pairs)) (begins j (inr two))
          ∙ past_fails continues_number pairs j (omega (arith, lt)) (omega (arith, le, zip_length a rest))

-- ---- literals

quote_stops : (quote : ℕ) (rest : List ℕ) → (quote == backslash) ≡ false → is_inside quote (quote ∷ rest) ≡ false
quote_stops quote [] h = grind (arith, nat_tests)
quote_stops quote (c ∷ rest) h =
    let plain : not (quote == quote || (quote == newline || quote == backslash)) ≡ false = grind (arith, nat_tests) in
    ap (λ t. (t && (not (c == newline) && is_inside quote rest)) || (not (quote == quote || (quote == newline || quote == backslash)) && is_inside quote (c ∷ rest))) h
    ∙ ap (λ t. t && is_inside quote (c ∷ rest)) plain

module _ (quote k : ℕ) (other : (quote == backslash) ≡ false) (class : (xs : List ℕ) → class_of (quote ∷ xs) ≡ k)
    (spelled : (text : List ℕ) → class_of text ≡ k → is_spelling text ≡ is_literal quote text) (rest : List ℕ) where
  front : (n : ℕ) → n < length rest → is_spelling (quote ∷ take (suc n) rest) ≡ (slice_index rest n == quote && is_inside quote (take n rest))
  front n lt = spelled (quote ∷ take (suc n) rest) (class (take (suc n) rest)) ∙ literal_front quote rest n lt

  short : is_spelling (quote ∷ []) ≡ false
  short = spelled (quote ∷ []) (class [])

  pub literal_longest : (n : ℕ) → n < length rest → slice_index rest n ≡ quote → is_inside quote (take n rest) ≡ true → IsLongest (quote ∷ rest) (suc (suc n))
  literal_longest n lt closes inside = longest_by_test (quote ∷ rest) (suc (suc n))
      (omega arith)
      (omega (arith, lt))
      (let last : (slice_index rest n == quote) ≡ true = grind (arith, nat_tests) in front n lt ∙ ap (λ t. t && is_inside quote (take n rest)) last ∙ inside)
      (λ m less le. longer m less le)
    where
      past : (j : ℕ) → n < j → j < length rest → is_inside quote (take j rest) ≡ false
      past j less within =
          let more = j - (n + 1) in
          let split : j ≡ n + suc more = omega (arith, less) in
          ap (λ i. is_inside quote (take i rest)) split
          ∙ ap (is_inside quote) (front_past quote rest n more lt)
          ∙ inside_append quote (take n rest) (slice_index rest n ∷ take more (drop (n + 1) rest)) inside
          ∙ ap (λ b. is_inside quote (b ∷ take more (drop (n + 1) rest))) closes
          ∙ quote_stops quote (take more (drop (n + 1) rest)) other

      and_false : (b : Bool) → (b && false) ≡ false
      and_false true = refl
      and_false false = refl

      longer : (m : ℕ) → suc (suc n) < m → m ≤ length (quote ∷ rest) → is_spelling (take m (quote ∷ rest)) ≡ false
      longer zero less le = absurd (omega (arith, less))
      longer (suc zero) less le = absurd (omega (arith, less))
      longer (suc (suc j)) less le =
          front j (omega (arith, le)) ∙ ap (λ t. slice_index rest j == quote && t) (past j (omega (arith, less)) (omega (arith, le))) ∙ and_false (slice_index rest j == quote)

  pub literal_none : ((n : ℕ) → n < length rest → slice_index rest n ≡ quote → is_inside quote (take n rest) ≡ true → ⊥) → (n : ℕ) → IsLongest (quote ∷ rest) n → ⊥
  literal_none none zero l = let some = l.some in omega (arith, some)
  literal_none none (suc zero) l = absurd (cc (sym short ∙ passes (quote ∷ []) l.spelled))
  literal_none none (suc (suc j)) l =
      let within = l.within in
      let lt : j < length rest = omega (arith, within) in
      let parts = both (slice_index rest j == quote) _ (sym (front j lt) ∙ passes (quote ∷ take (suc j) rest) l.spelled) in
      let test = parts.0 in
      none j lt (grind (arith, nat_tests)) parts.1

-- ---- marks

module _ (a : ℕ) (rest : List ℕ) (no_digit : is_nondigit a ≡ false) (no_single : (a == single_quote) ≡ false) (no_double : (a == double_quote) ≡ false) (no_number : begins_number (a ∷ rest) ≡ false) where
  mark_class : (j : ℕ) → class_of (a ∷ take j rest) ≡ 4
  mark_class j =
      ap (λ t. by_tests t (a == single_quote) (a == double_quote) (begins_number (a ∷ take j rest))) no_digit
      ∙ ap (λ t. by_tests false t (a == double_quote) (begins_number (a ∷ take j rest))) no_single
      ∙ ap (λ t. by_tests false false t (begins_number (a ∷ take j rest))) no_double
      ∙ ap (by_tests false false false) (begins_none rest j no_number)
    where
      begins_none : (more : List ℕ) (i : ℕ) → begins_number (a ∷ more) ≡ false → begins_number (a ∷ take i more) ≡ false
      begins_none [] zero g = g
      begins_none [] (suc i) g = g
      begins_none (b ∷ more) zero g = grind (arith, nat_tests)
      begins_none (b ∷ more) (suc i) g = g

  mark_front : (j : ℕ) → is_spelling (a ∷ take j rest) ≡ is_some (mark_of (a ∷ take j rest))
  mark_front j = spelled_as_mark (a ∷ take j rest) (mark_class j)

  pub mark_longest : (n : ℕ) (mark : Punct) → 0 < n → n ≤ length (a ∷ rest) → mark_of (take n (a ∷ rest)) ≡ Some mark → ((k : ℕ) → n < k → k ≤ length (a ∷ rest) → mark_of (take k (a ∷ rest)) ≡ None) → IsLongest (a ∷ rest) n
  mark_longest zero mark some within is longer = absurd (omega (arith, some))
  mark_longest (suc j) mark some within is longer = longest_by_test (a ∷ rest) (suc j)
      (some)
      (within)
      (mark_front j ∙ ap is_some is)
      (λ m less le. past m less le)
    where
      past : (m : ℕ) → suc j < m → m ≤ length (a ∷ rest) → is_spelling (take m (a ∷ rest)) ≡ false
      past zero less le = absurd (omega (arith, less))
      past (suc i) less le = mark_front i ∙ ap is_some (longer (suc i) less le)

  pub mark_none : ((k : ℕ) → k ≤ length (a ∷ rest) → mark_of (take k (a ∷ rest)) ≡ None) → (n : ℕ) → IsLongest (a ∷ rest) n → ⊥
  mark_none none zero l = let some = l.some in omega (arith, some)
  mark_none none (suc j) l = absurd (cc (sym (ap is_some (none (suc j) l.within)) ∙ sym (mark_front j) ∙ passes (a ∷ take j rest) l.spelled))

-- as many pairs as the shorter list has elements
pub zip_within : (xs ys : List ℕ) → length (zip xs ys) ≤ length ys
zip_within [] ys = omega arith
zip_within (x ∷ xs) [] = omega arith
zip_within (x ∷ xs) (y ∷ ys) = let rest = zip_within xs ys in omega (arith, rest)

-- a word's front is one
pub word_front : (a : ℕ) (rest : List ℕ) → is_nondigit a ≡ true → list_all is_word_byte (take (suc (prefix_len is_word_byte rest)) (a ∷ rest)) ≡ true
word_front a rest h = let first : is_word_byte a ≡ true = ap (λ t. t || is_digit a) h in ap (λ t. t && list_all is_word_byte (take (prefix_len is_word_byte rest) rest)) first ∙ front_passes is_word_byte rest
