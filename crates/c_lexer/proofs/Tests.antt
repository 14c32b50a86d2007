-- Spellings by tests, which compute.
use Rattle.std.proofs.Common.{◌≡◌, ℕ, suc, ◌+◌, ◌-◌, ◌<◌, Bool, List, [], ◌∷◌, ◌++◌, ◌==◌, ◌||◌, ◌&&◌, true, false, refl, sym, ap, ◌∙◌, arith, length, take, drop, get_or, slice_index, nat_le, is_some, length-append, get_or-take}
use Rattle.std.proofs.lemmas.Bool.Decides.{nat_tests}
use Rattle.std.proofs.lemmas.Grind.{take_at_read}
use Rattle.std.proofs.lemmas.List.{length-take-le, take-take, take_all}
use Rattle.c_lexer.specs.Literals.{is_inside, IsLiteral, single_quote, double_quote}
use Rattle.c_lexer.specs.Numbers.{is_number_run}
use Rattle.c_lexer.specs.Readings.{mark_of}
use Rattle.c_lexer.specs.Spellings.{is_word}

-- the text without its first byte and its last
abbrev pub middle : List ℕ → List ℕ
middle text = take (length text - 2) (drop 1 text)

-- a quote, what may stand inside, and the quote again
abbrev pub is_literal : ℕ → List ℕ → Bool
is_literal quote text =
    nat_le 2 (length text) && (get_or text 0 0 == quote && (get_or text (length text - 1) 0 == quote && is_inside quote (middle text)))

-- a text that is spelled as a token
unfoldable pub is_spelling : List ℕ → Bool
is_spelling text =
    is_word text || (is_number_run text || (is_literal single_quote text || (is_literal double_quote text || is_some (mark_of text))))

-- ---- literals

-- the parts of the test of a literal, by its length
parts_of : ℕ → ℕ → List ℕ → Bool
parts_of quote size xs = nat_le 2 size && (quote == quote && (get_or (quote ∷ xs) (size - 1) 0 == quote && is_inside quote (take (size - 2) xs)))

pub literal_front : (quote : ℕ) (rest : List ℕ) (n : ℕ) → n < length rest → is_literal quote (quote ∷ take (suc n) rest) ≡ (slice_index rest n == quote && is_inside quote (take n rest))
unfolding parts_of
literal_front quote rest n lt =
    let size : length (quote ∷ take (suc n) rest) ≡ n + 2 = omega (arith, length-take-le (suc n) rest (omega (arith, lt))) in
    let two : nat_le 2 (n + 2) ≡ true = grind (arith, nat_tests) in
    let same : (quote == quote) ≡ true = grind (arith, nat_tests) in
    let one_less : n + 2 - 1 ≡ suc n = omega arith in
    let two_less : n + 2 - 2 ≡ n = omega arith in
    let last : get_or (quote ∷ take (suc n) rest) (n + 2 - 1) 0 ≡ slice_index rest n =
    ap (λ j. get_or (quote ∷ take (suc n) rest) j 0) one_less ∙ get_or-take (suc n) rest n 0 (omega arith) in
    let inside : take (n + 2 - 2) (take (suc n) rest) ≡ take n rest =
    ap (λ j. take j (take (suc n) rest)) two_less ∙ take-take n (suc n) rest (omega arith) in
    ap (λ j. parts_of quote j (take (suc n) rest)) size
    ∙ ap (λ t. t && (quote == quote && (get_or (quote ∷ take (suc n) rest) (n + 2 - 1) 0 == quote && is_inside quote (take (n + 2 - 2) (take (suc n) rest))))) two
    ∙ ap (λ t. t && (get_or (quote ∷ take (suc n) rest) (n + 2 - 1) 0 == quote && is_inside quote (take (n + 2 - 2) (take (suc n) rest)))) same
    ∙ ap (λ b. b == quote && is_inside quote (take (n + 2 - 2) (take (suc n) rest))) last
    ∙ ap (λ xs. slice_index rest n == quote && is_inside quote xs) inside

pub middle_front : (quote : ℕ) (rest : List ℕ) (n : ℕ) → n < length rest → middle (quote ∷ take (suc n) rest) ≡ take n rest
middle_front quote rest n lt =
    let length_is : length (take (suc n) rest) ≡ suc n = length-take-le (suc n) rest (omega (arith, lt)) in
    let less : suc (length (take (suc n) rest)) - 2 ≡ n = omega (arith, length_is) in
    ap (λ j. take j (take (suc n) rest)) less ∙ take-take n (suc n) rest (omega arith)

-- the front of a literal up to its second quote is one
pub literal_at : (quote : ℕ) (rest : List ℕ) (n : ℕ) → n < length rest → slice_index rest n ≡ quote → is_inside quote (take n rest) ≡ true → IsLiteral quote (take n rest) (quote ∷ take (suc n) rest)
literal_at quote rest n lt closes inside =
    let next : n + 1 ≡ suc n = omega arith in
    let front : take (suc n) rest ≡ take n rest ++ quote ∷ [] = ap (λ j. take j rest) (sym next) ∙ (take_at_read rest n 0 lt).1 ∙ ap (λ b. take n rest ++ b ∷ []) closes in
    record { split = ap (λ xs. quote ∷ xs) front; allowed = inside }

-- ---- what a literal is by the test

read_at_end : (xs : List ℕ) (b : ℕ) → slice_index (xs ++ b ∷ []) (length xs) ≡ b
read_at_end [] b = refl
read_at_end (x ∷ xs) b = read_at_end xs b

front_of_append : (xs ys : List ℕ) → take (length xs) (xs ++ ys) ≡ xs
front_of_append [] ys = refl
front_of_append (x ∷ xs) ys = ap (λ zs. x ∷ zs) (front_of_append xs ys)

module _ (quote : ℕ) (inside text : List ℕ) (l : IsLiteral quote inside text) where
  abbrev behind : List ℕ
  behind = inside ++ quote ∷ []

  shorter : length inside < length behind
  shorter = omega (arith, length-append inside (quote ∷ []))

  all : quote ∷ take (suc (length inside)) behind ≡ text
  all = ap (λ xs. quote ∷ xs) (take_all (suc (length inside)) behind (omega (arith, length-append inside (quote ∷ [])))) ∙ sym l.split

  pub literal_passes : is_literal quote text ≡ true
  literal_passes =
      let last : (slice_index behind (length inside) == quote) ≡ true = let e = read_at_end inside quote in grind (arith, nat_tests) in
      ap (is_literal quote) (sym all) ∙ literal_front quote behind (length inside) shorter
      ∙ ap (λ t. t && is_inside quote (take (length inside) behind)) last
      ∙ ap (is_inside quote) (front_of_append inside (quote ∷ [])) ∙ l.allowed

  pub literal_middle : middle text ≡ inside
  literal_middle = ap middle (sym all) ∙ middle_front quote behind (length inside) shorter ∙ front_of_append inside (quote ∷ [])

both : (a b : Bool) → (a && b) ≡ true → (a ≡ true) × (b ≡ true)
both true b e = (refl, e)
both false b e = absurd (cc e)

pub passes_literal : (quote : ℕ) (text : List ℕ) → is_literal quote text ≡ true → (inside : List ℕ) × IsLiteral quote inside text
passes_literal quote [] e = absurd (cc e)
passes_literal quote (a ∷ []) e = absurd (cc e)
passes_literal quote (a ∷ b ∷ more) e =
    let rest = b ∷ more in
    let n = length more in
    let lt : n < length rest = omega arith in
    let whole : take (suc n) rest ≡ rest = take_all (suc n) rest (omega arith) in
    let p = both (nat_le 2 (length (a ∷ rest))) _ e in
    let first = (both (a == quote) _ p.1).0 in
    let same : a ≡ quote = grind (arith, nat_tests) in
    let here : is_literal quote (quote ∷ take (suc n) rest) ≡ true = ap (λ xs. is_literal quote (quote ∷ xs)) whole ∙ ap (λ c. is_literal quote (c ∷ rest)) (sym same) ∙ e in
    let parts = both (slice_index rest n == quote) _ (sym (literal_front quote rest n lt) ∙ here) in
    let test = parts.0 in
    let closes : slice_index rest n ≡ quote = grind (arith, nat_tests) in
    let l = literal_at quote rest n lt closes parts.1 in
    (take n rest, record { split = ap (λ c. c ∷ rest) same ∙ ap (λ xs. quote ∷ xs) (sym whole) ∙ l.split; allowed = l.allowed })
