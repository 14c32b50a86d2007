-- Comments and skipped lines, as the code finds them.
use Rattle.std.proofs.Common.{◌≡◌, ℕ, zero, suc, ◌+◌, ◌<◌, ◌≤◌, ◌⊎◌, inl, inr, Bool, true, false, cond, List, [], ◌∷◌, ◌++◌, ◌==◌, ◌||◌, ◌&&◌, not, refl, sym, ap, ◌∙◌, subst, arith, length, take, drop, slice_index, length-append}
use Rattle.std.specs.List.{prefix_len, list_all}
use Rattle.std.proofs.lemmas.Bool.Decides.{nat_tests}
use Rattle.std.proofs.lemmas.List.{take-append-drop, drop_more, length-take-le}
use Rattle.std.proofs.lemmas.List.Sums.{prefix_len-le-length}
use Rattle.c_lexer.specs.Characters.{newline, is_blank}
use Rattle.c_lexer.specs.declared.token.TokenKind.{TokenKind}
use Rattle.c_lexer.specs.Spellings.{IsLongest, IsToken}
use Rattle.c_lexer.specs.Tokens.{begins_comment, EndsLine, IsOneLine, has_close, line_front, IsLineComment, IsBlockComment, IsSkipped, IsPiece, blank, line_comment, block_comment, skipped_line, token}
use Rattle.c_lexer.specs.Readings.{IsBlankPiece, HasNoPiece}

abbrev on_line : ℕ → Bool
on_line b = not (b == newline)

-- the rest of a line
rest_of_line : (text : List ℕ) → IsOneLine (take (prefix_len on_line text) text) × EndsLine (drop (prefix_len on_line text) text)
rest_of_line [] = (tt, tt)
rest_of_line (b ∷ text) = at (rest_of_line text) (on_line b) refl
  where
    at : IsOneLine (take (prefix_len on_line text) text) × EndsLine (drop (prefix_len on_line text) text) → (t : Bool) → on_line b ≡ t → IsOneLine (take (cond t (1 + prefix_len on_line text) 0) (b ∷ text)) × EndsLine (drop (cond t (1 + prefix_len on_line text) 0) (b ∷ text))
    at rest true e =
        let next : suc (prefix_len on_line text) ≡ 1 + prefix_len on_line text = omega arith in
        subst (λ j. IsOneLine (take j (b ∷ text)) × EndsLine (drop j (b ∷ text))) next ((grind (arith, nat_tests), rest.0), rest.1)
    at rest false e = (tt, grind (arith, nat_tests))

line_length : (text : List ℕ) → length (take (prefix_len on_line text) text) ≡ prefix_len on_line text
line_length text = length-take-le (prefix_len on_line text) text (prefix_len-le-length on_line text)

pub line_comment_found : (rest : List ℕ) (n : ℕ) → n ≡ prefix_len on_line rest → IsLineComment (47 ∷ 47 ∷ rest) (n + 2)
line_comment_found rest n e = let r = rest_of_line rest in record {
  body = take (prefix_len on_line rest) rest;
  after = drop (prefix_len on_line rest) rest;
  split = ap (λ t. 47 ∷ 47 ∷ t) (sym (take-append-drop (prefix_len on_line rest) rest));
  line = r.0;
  whole = r.1;
  size = omega (arith, e, line_length rest);
}

pub skipped_found : (before rest : List ℕ) (n : ℕ) → list_all is_blank (line_front before) ≡ true → n ≡ prefix_len on_line rest → IsSkipped before (35 ∷ rest) (n + 1)
skipped_found before rest n front e = let r = rest_of_line rest in record {
  begins = front;
  body = take (prefix_len on_line rest) rest;
  after = drop (prefix_len on_line rest) rest;
  split = ap (λ t. 35 ∷ t) (sym (take-append-drop (prefix_len on_line rest) rest));
  line = r.0;
  whole = r.1;
  size = omega (arith, e, line_length rest);
}

-- a text without `*/` up to a place has none there
no_close : (text : List ℕ) (n : ℕ) → n ≤ length text → ((k : ℕ) → k < n → slice_index text k ≡ 42 → slice_index text (k + 1) ≡ 47 → ⊥) → has_close (take n text) ≡ false
no_close text zero le none = refl
no_close [] (suc n) le none = refl
no_close (a ∷ []) (suc zero) le none = refl
no_close (a ∷ []) (suc (suc n)) le none = absurd (omega (arith, le))
no_close (a ∷ b ∷ text) (suc zero) le none = refl
no_close (a ∷ b ∷ text) (suc (suc n)) le none =
    ap (λ t. t || has_close (b ∷ take n text)) first ∙ no_close (b ∷ text) (suc n) (omega (arith, le)) (λ k lt e f. none (suc k) (omega (arith, lt)) e (next k f))
  where
    first : (a == 42 && b == 47) ≡ false
    first = at (a == 42 && b == 47) refl
      where
        at : (t : Bool) → (a == 42 && b == 47) ≡ t → (a == 42 && b == 47) ≡ false
        at false e = e
        at true e = let star : a ≡ 42 = grind (arith, nat_tests) in let slash : b ≡ 47 = grind (arith, nat_tests) in absurd (none 0 (omega arith) star slash)

    next : (k : ℕ) → slice_index (b ∷ text) (k + 1) ≡ 47 → slice_index (a ∷ b ∷ text) (suc k + 1) ≡ 47
    next k f = let one_on : suc (k + 1) ≡ suc k + 1 = omega arith in subst (λ j. slice_index (a ∷ b ∷ text) j ≡ 47) one_on f

pub block_comment_found : (rest : List ℕ) (n : ℕ) → n + 1 < length rest → slice_index rest n ≡ 42 → slice_index rest (n + 1) ≡ 47 → ((k : ℕ) → k < n → slice_index rest k ≡ 42 → slice_index rest (k + 1) ≡ 47 → ⊥) → IsBlockComment (47 ∷ 42 ∷ rest) (n + 4)
block_comment_found rest n lt star slash first = record {
  body = take n rest;
  after = drop (n + 1 + 1) rest;
  split = ap (λ t. 47 ∷ 42 ∷ t) (sym (take-append-drop n rest) ∙ ap (λ t. take n rest ++ t) tail);
  first = no_close rest n (omega (arith, lt)) first;
  size = omega (arith, length-take-le n rest (omega (arith, lt)));
}
  where
    tail : drop n rest ≡ 42 ∷ 47 ∷ drop (n + 1 + 1) rest
    tail = drop_more rest n 0 (omega (arith, lt)) ∙ ap (λ b. b ∷ drop (n + 1) rest) star
        ∙ ap (λ t. 42 ∷ t) (drop_more rest (n + 1) 0 lt ∙ ap (λ b. b ∷ drop (n + 1 + 1) rest) slash)

pub block_comment_none : (rest : List ℕ) → ((k : ℕ) → k + 1 < length rest → slice_index rest k ≡ 42 → slice_index rest (k + 1) ≡ 47 → ⊥) → (m : ℕ) → IsBlockComment (47 ∷ 42 ∷ rest) m → ⊥
block_comment_none rest none m c =
    let split : rest ≡ c.body ++ 42 ∷ 47 ∷ c.after = cc c.split in
    none (length c.body) (omega (arith, ap length split, length-append c.body (42 ∷ 47 ∷ c.after)))
    (ap (λ t. slice_index t (length c.body)) split ∙ at_seam c.body 42 (47 ∷ c.after))
    (ap (λ t. slice_index t (length c.body + 1)) split ∙ past_seam c.body 42 47 c.after)
  where
    at_seam : (xs : List ℕ) (b : ℕ) (ys : List ℕ) → slice_index (xs ++ b ∷ ys) (length xs) ≡ b
    at_seam [] b ys = refl
    at_seam (x ∷ xs) b ys = at_seam xs b ys

    past_seam : (xs : List ℕ) (b d : ℕ) (ys : List ℕ) → slice_index (xs ++ b ∷ d ∷ ys) (length xs + 1) ≡ d
    past_seam [] b d ys = refl
    past_seam (x ∷ xs) b d ys = let one_on : suc (length xs + 1) ≡ suc (length xs) + 1 = omega arith in subst (λ j. slice_index (x ∷ (xs ++ b ∷ d ∷ ys)) j ≡ d) one_on (past_seam xs b d ys)

-- a comment that is not closed
pub no_star_comment : (rest : List ℕ) → ((k : ℕ) → k + 1 < length rest → slice_index rest k ≡ 42 → slice_index rest (k + 1) ≡ 47 → ⊥) → (n : ℕ) → IsLineComment (47 ∷ 42 ∷ rest) n ⊎ IsBlockComment (47 ∷ 42 ∷ rest) n → ⊥
no_star_comment rest none n (inl c) = let other : ◌≡◌ {A = ℕ} 42 47 = cc c.split in omega (arith, other)
no_star_comment rest none n (inr c) = block_comment_none rest none n c

-- ---- pieces

pub slash_is_none : (before text rest : List ℕ) → text ≡ 47 ∷ rest → ((n : ℕ) → IsLineComment (47 ∷ rest) n ⊎ IsBlockComment (47 ∷ rest) n → ⊥) → (n : ℕ) → IsBlankPiece before text n → ⊥
slash_is_none before text rest split none n (inl (b, more, e, h, one)) =
    let same : b ≡ 47 = cc (sym e ∙ split) in absurd (cc (subst (λ x. is_blank x ≡ true) same h))
slash_is_none before text rest split none n (inr (inl c)) = none n (inl (subst (λ t. IsLineComment t n) split c))
slash_is_none before text rest split none n (inr (inr (inl c))) = none n (inr (subst (λ t. IsBlockComment t n) split c))
slash_is_none before text rest split none n (inr (inr (inr s))) = let other : ◌≡◌ {A = ℕ} 47 35 = cc (sym split ∙ s.split) in omega (arith, other)

pub skipped_is_blank : (before text rest : List ℕ) (n : ℕ) → text ≡ 35 ∷ rest → list_all is_blank (line_front before) ≡ true → n ≡ prefix_len on_line rest → IsBlankPiece before text (n + 1)
skipped_is_blank before text rest n split front e = inr (inr (inr (subst (λ t. IsSkipped before t (n + 1)) (sym split) (skipped_found before rest n front e))))

module _ (bytes : List ℕ) (at : ℕ) where
  pub piece_of_blank : (n : ℕ) → IsBlankPiece (take at bytes) (drop at bytes) n → IsPiece bytes at n []
  piece_of_blank n (inl (b, rest, e, h, one)) = subst (λ k. IsPiece bytes at k []) (sym one) (blank b rest e h)
  piece_of_blank n (inr (inl c)) = line_comment n c
  piece_of_blank n (inr (inr (inl c))) = block_comment n c
  piece_of_blank n (inr (inr (inr s))) = skipped_line n s

  pub no_piece : ((n : ℕ) → IsBlankPiece (take at bytes) (drop at bytes) n → ⊥) → ((n : ℕ) (k : TokenKind) → begins_comment (drop at bytes) ≡ false → IsLongest (drop at bytes) n → IsToken (take n (drop at bytes)) k → ⊥) → HasNoPiece bytes at
  no_piece none other _ _ (blank b rest e h) = none 1 (inl (b, rest, e, h, refl))
  no_piece none other _ _ (line_comment n c) = none n (inr (inl c))
  no_piece none other _ _ (block_comment n c) = none n (inr (inr (inl c)))
  no_piece none other _ _ (skipped_line n s) = none n (inr (inr (inr s)))
  no_piece none other _ _ (token n k g l t) = other n k g l t
