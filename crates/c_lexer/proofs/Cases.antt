-- Short texts: the tokens of some, and the place at which others have none.
use Rattle.std.proofs.Common.{◌≡◌, ℕ, ◌+◌, inl, Bool, true, false, List, [], ◌∷◌, ◌++◌, ◌==◌, ◌||◌, ◌&&◌, codes, refl, sym, ap, ◌∙◌, subst, arith, take, drop, lit<, lit≤}
use Rattle.c_lexer.specs.declared.token.IntType.TheVariants.{Int}
use Rattle.c_lexer.specs.declared.token.Punct.TheVariants as mark
use Rattle.c_lexer.specs.declared.token.Token.{Token}
use Rattle.c_lexer.specs.declared.token.TokenKind.{TokenKind}
use Rattle.c_lexer.specs.declared.token.TokenKind.TheVariants as kind
use Rattle.c_lexer.specs.Literals.{StandsFor, nothing, plain, hexadecimal, octal}
use Rattle.c_lexer.specs.Numbers as number
use Rattle.c_lexer.specs.Spellings.{IsToken, word, integer, character, string, punctuator}
use Rattle.c_lexer.specs.Tokens.{begins_comment, has_close, IsPiece, blank, line_comment, block_comment, skipped_line, token, Reaches, here, piece, HasTokens, IsLexical}
use Rattle.c_lexer.proofs.OneToken as one
use Rattle.c_lexer.proofs.OneList as list
use Rattle.c_lexer.specs.Readings.{HasNoPiece}
use Rattle.c_lexer.proofs.Steps.{is_lexical, is_longest, longest}
use Rattle.c_lexer.proofs.Tests.{middle, is_spelling, literal_middle}
use Rattle.c_lexer.proofs.TokensAt.{no_constant}

abbrev at : TokenKind → ℕ → ℕ → Token
at k from to = record { kind = k; start = from; end = to }

-- a token stands at a place
token_here : (bytes : List ℕ) (from n : ℕ) (k : TokenKind) → begins_comment (drop from bytes) ≡ false → is_longest (drop from bytes) n ≡ true → IsToken (take n (drop from bytes)) k → IsPiece bytes from n (at k from (from + n) ∷ [])
token_here bytes from n k c l t = token n k c (longest (drop from bytes) n l) t

-- ---- texts that have tokens

plus-plus-plus : HasTokens (codes "a+++b") (at (kind.Word (codes "a")) 0 1 ∷ at (kind.Punct mark.PlusPlus) 1 3 ∷ at (kind.Punct mark.Plus) 3 4 ∷ at (kind.Word (codes "b")) 4 5 ∷ [])
unfolding is_spelling
plus-plus-plus =
    piece 0 1 5 _ _ (token_here _ 0 1 (kind.Word (codes "a")) refl refl (word (codes "a") refl))
    (piece 1 2 5 _ _ (token_here _ 1 2 (kind.Punct mark.PlusPlus) refl refl (punctuator (codes "++") mark.PlusPlus refl))
    (piece 3 1 5 _ _ (token_here _ 3 1 (kind.Punct mark.Plus) refl refl (punctuator (codes "+") mark.Plus refl))
    (piece 4 1 5 _ _ (token_here _ 4 1 (kind.Word (codes "b")) refl refl (word (codes "b") refl))
    (here 5))))

-- `/**/`
empty-comment : HasTokens (codes "/**/") []
empty-comment = piece 0 4 4 _ _ (block_comment 4 (record { body = []; after = []; split = refl; first = refl; size = refl })) (here 4)

-- `a//b`
word-and-comment : HasTokens (codes "a//b") (at (kind.Word (codes "a")) 0 1 ∷ [])
unfolding is_spelling
word-and-comment =
    piece 0 1 4 _ _ (token_here _ 0 1 (kind.Word (codes "a")) refl refl (word (codes "a") refl))
    (piece 1 3 4 _ _ (line_comment 3 (record { body = codes "b"; after = []; split = refl; line = (refl, tt); whole = tt; size = refl }))
    (here 4))

-- ` # x` and the newline after it, and then `b`
skipped-line : HasTokens (codes " # x\nb") (at (kind.Word (codes "b")) 5 6 ∷ [])
unfolding is_spelling
skipped-line =
    piece 0 1 6 _ _ (blank 32 (codes "# x\nb") refl refl)
    (piece 1 3 6 _ _ (skipped_line 3 (record { begins = refl; body = codes " x"; after = codes "\nb"; split = refl; line = (refl, (refl, tt)); whole = refl; size = refl }))
    (piece 4 1 6 _ _ (blank 10 (codes "b") refl refl)
    (piece 5 1 6 _ _ (token_here _ 5 1 (kind.Word (codes "b")) refl refl (word (codes "b") refl))
    (here 6))))

-- `'\x41'`
hexadecimal-escape : HasTokens (codes "'\\x41'") (at (kind.Char 65) 0 6 ∷ [])
unfolding is_spelling
hexadecimal-escape =
    piece 0 6 6 _ _ (token_here _ 0 6 (kind.Char 65) refl refl
    (character (codes "'\\x41'") (codes "\\x41") 65 (record { split = refl; allowed = refl }) (hexadecimal (codes "x41") (codes "41") [] [] refl (record { some = lit≤ tt; each = (refl, (refl, tt)); whole = tt }) (lit≤ tt) nothing)))
    (here 6)

-- `"\1234"`: the octal escape has three digits
octal-escape : HasTokens (codes "\"\\1234\"") (at (kind.Str (83 ∷ 52 ∷ [])) 0 7 ∷ [])
unfolding is_spelling
octal-escape =
    piece 0 7 7 _ _ (token_here _ 0 7 (kind.Str (83 ∷ 52 ∷ [])) refl refl
    (string (codes "\"\\1234\"") (codes "\\1234") (83 ∷ 52 ∷ []) (record { split = refl; allowed = refl }) (octal (codes "1234") (codes "123") (codes "4") (52 ∷ []) refl (record { some = lit≤ tt; most = lit≤ tt; each = (refl, (refl, (refl, tt))); whole = inl refl }) (lit≤ tt)
    (plain 52 [] [] refl nothing))))
    (here 7)

hexadecimal-e : number.IsConstant (codes "0xE") 14 Int
hexadecimal-e = record {
  front = codes "0x";
  digits = codes "E";
  suffix = [];
  split = refl;
  base = 16;
  numeral = number.hexadecimal 120 69 [] refl refl refl;
  ending = record { has_u = false; has_l = false };
  suffix_is = refl;
  value_is = refl;
  type_is = refl;
}

decimal-one : number.IsConstant (codes "1") 1 Int
decimal-one = record {
  front = [];
  digits = codes "1";
  suffix = [];
  split = refl;
  base = 10;
  numeral = number.decimal 49 [] refl refl;
  ending = record { has_u = false; has_l = false };
  suffix_is = refl;
  value_is = refl;
  type_is = refl;
}

-- `0xE +1`
run-ends-at-a-blank : HasTokens (codes "0xE +1") (at (kind.Int 14 Int) 0 3 ∷ at (kind.Punct mark.Plus) 4 5 ∷ at (kind.Int 1 Int) 5 6 ∷ [])
unfolding is_spelling
run-ends-at-a-blank =
    piece 0 3 6 _ _ (token_here _ 0 3 (kind.Int 14 Int) refl refl (integer (codes "0xE") 14 Int refl hexadecimal-e))
    (piece 3 1 6 _ _ (blank 32 (codes "+1") refl refl)
    (piece 4 1 6 _ _ (token_here _ 4 1 (kind.Punct mark.Plus) refl refl (punctuator (codes "+") mark.Plus refl))
    (piece 5 1 6 _ _ (token_here _ 5 1 (kind.Int 1 Int) refl refl (integer (codes "1") 1 Int refl decimal-one))
    (here 6))))

-- ---- places that have none

-- where the longest spelling stands for no token
no_token_here : (bytes : List ℕ) (from n : ℕ) → list.class_of (drop from bytes) ≡ 4 → is_longest (drop from bytes) n ≡ true → ((k : TokenKind) → IsToken (take n (drop from bytes)) k → ⊥) → HasNoPiece bytes from
no_token_here bytes from n c l none m tokens p = other m tokens p (sym c ∙ list.piece_is_of_class bytes from m tokens p)
  where
    other : (k : ℕ) (ts : List Token) (q : IsPiece bytes from k ts) → 4 ≡ list.piece_class bytes from k ts q → ⊥
    other _ _ (blank b rest e h) i = omega (arith, i)
    other _ _ (line_comment k d) i = omega (arith, i)
    other _ _ (block_comment k d) i = omega (arith, i)
    other _ _ (skipped_line k d) i = omega (arith, i)
    other _ _ (token k what g w t) i = none what (subst (λ j. IsToken (take j (drop from bytes)) what) (one.one_longest (drop from bytes) k n w (longest (drop from bytes) n l)) t)

-- `0xE+1`: one number run
run-with-a-sign : IsLexical (codes "0xE+1") 0
unfolding is_spelling
run-with-a-sign = is_lexical (codes "0xE+1") 0 [] (lit< tt) (here 0) (no_token_here (codes "0xE+1") 0 5 refl refl (no_constant (codes "0xE+1") refl refl))

-- `08`
bad-octal : IsLexical (codes "08") 0
unfolding is_spelling
bad-octal = is_lexical (codes "08") 0 [] (lit< tt) (here 0) (no_token_here (codes "08") 0 2 refl refl (no_constant (codes "08") refl refl))

-- `''`: nothing stands for a character
empty-character : IsLexical (codes "''") 0
unfolding is_spelling
empty-character = is_lexical (codes "''") 0 [] (lit< tt) (here 0) (no_token_here (codes "''") 0 2 refl refl none)
  where
    no_value : (value : ℕ) → StandsFor [] (value ∷ []) → ⊥
    no_value value s = absurd (cc (one.one_meaning [] (value ∷ []) [] s nothing))

    other : (t : List ℕ) (l : TokenKind) (q : IsToken t l) → middle t ≡ [] → 2 ≡ one.token_class t l q → ⊥
    other _ _ (word t h) m i = omega (arith, i)
    other _ _ (integer t v y h e) m i = omega (arith, i)
    other _ _ (character t j v h s) m i = no_value v (subst (λ x. StandsFor x (v ∷ [])) (sym (literal_middle 39 j t h) ∙ m) s)
    other _ _ (string t j bs h s) m i = omega (arith, i)
    other _ _ (punctuator t p h) m i = omega (arith, i)

    none : (k : TokenKind) → IsToken (codes "''") k → ⊥
    none k p = other (codes "''") k p refl (one.token_is_of_class (codes "''") k p)

-- `/* */ # x`: the `#` is not the first byte of its line
hash-after-a-comment : IsLexical (codes "/* */ # x") 6
hash-after-a-comment = is_lexical (codes "/* */ # x") 6 [] (lit< tt) reached none
  where
    reached : Reaches (codes "/* */ # x") 0 6 []
    reached =
        piece 0 5 6 _ _ (block_comment 5 (record { body = codes " "; after = codes " # x"; split = refl; first = refl; size = refl }))
        (piece 5 1 6 _ _ (blank 32 (codes "# x") refl refl) (here 6))

    other : (n : ℕ) (ts : List Token) (q : IsPiece (codes "/* */ # x") 6 n ts) → 3 ≡ list.piece_class (codes "/* */ # x") 6 n ts q → ⊥
    other _ _ (blank b rest e h) i = omega (arith, i)
    other _ _ (line_comment k d) i = omega (arith, i)
    other _ _ (block_comment k d) i = omega (arith, i)
    other _ _ (skipped_line k d) i = absurd (cc d.begins)
    other _ _ (token k what g w t) i = omega (arith, i)

    none : HasNoPiece (codes "/* */ # x") 6
    none n ts p = other n ts p (list.piece_is_of_class (codes "/* */ # x") 6 n ts p)

-- `/* x`: a comment that is not closed
open-comment : IsLexical (codes "/* x") 0
open-comment = is_lexical (codes "/* x") 0 [] (lit< tt) (here 0) none
  where
    closes_after : (a : ℕ) (rest : List ℕ) → has_close rest ≡ true → has_close (a ∷ rest) ≡ true
    closes_after a [] h = absurd (cc h)
    closes_after a (b ∷ rest) h = later (a == 42 && b == 47) (has_close (b ∷ rest)) h
      where
        later : (x y : Bool) → y ≡ true → (x || y) ≡ true
        later true y g = refl
        later false y g = g

    closes : (body after : List ℕ) → has_close (body ++ 42 ∷ 47 ∷ after) ≡ true
    closes [] after = refl
    closes (a ∷ body) after = closes_after a (body ++ 42 ∷ 47 ∷ after) (closes body after)

    other : (n : ℕ) (ts : List Token) (q : IsPiece (codes "/* x") 0 n ts) → 2 ≡ list.piece_class (codes "/* x") 0 n ts q → ⊥
    other _ _ (blank b rest e h) i = omega (arith, i)
    other _ _ (line_comment k d) i = omega (arith, i)
    other _ _ (block_comment k d) i =
        let inside : codes " x" ≡ d.body ++ 42 ∷ 47 ∷ d.after = cc d.split in
        absurd (cc (ap has_close inside ∙ closes d.body d.after))
    other _ _ (skipped_line k d) i = omega (arith, i)
    other _ _ (token k what g w t) i = omega (arith, i)

    none : HasNoPiece (codes "/* x") 0
    none n ts p = other n ts p (list.piece_is_of_class (codes "/* x") 0 n ts p)
