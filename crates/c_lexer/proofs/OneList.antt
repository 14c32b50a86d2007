-- At a place stands one piece at most, and bytes have one list of tokens at most.
use Rattle.std.proofs.Common.{◌≡◌, ℕ, zero, suc, ◌+◌, ◌<◌, ◌≤◌, Bool, true, false, List, [], ◌∷◌, ◌++◌, ◌==◌, ◌||◌, ◌&&◌, refl, sym, ap, ◌∙◌, subst, arith, length, take, drop, append_assoc, length-append, length-drop}
use Rattle.std.proofs.lemmas.Bool.Decides.{nat_tests}
use Rattle.std.proofs.lemmas.List.{append-nil}
use Rattle.c_lexer.specs.declared.token.Token.{Token}
use Rattle.c_lexer.specs.declared.token.TokenKind.{TokenKind}
use Rattle.c_lexer.specs.Characters.{is_blank}
use Rattle.c_lexer.specs.Spellings.{IsToken, IsLongest}
use Rattle.c_lexer.specs.Tokens.{begins_comment, EndsLine, IsOneLine, has_close, IsLineComment, IsBlockComment, IsSkipped, IsPiece, blank, line_comment, block_comment, skipped_line, token, Reaches, here, piece, HasTokens}
use Rattle.c_lexer.proofs.Fronts.{plain_front}
use Rattle.c_lexer.proofs.OneToken.{one_token, one_longest}
use Rattle.c_lexer.proofs.Spelled.{passes}

-- ---- where comments end

-- what is left of a line ends in one place
one_line : (xs us ys vs : List ℕ) → IsOneLine xs → IsOneLine ys → EndsLine us → EndsLine vs → xs ++ us ≡ ys ++ vs → xs ≡ ys
one_line [] us [] vs h k f g e = refl
one_line [] us (y ∷ ys) vs h k f g e = let end : EndsLine (y ∷ (ys ++ vs)) = subst EndsLine e f in let other = k.0 in absurd (grind (arith, nat_tests))
one_line (x ∷ xs) us [] vs h k f g e = let end : EndsLine (x ∷ (xs ++ us)) = subst EndsLine (sym e) g in let other = h.0 in absurd (grind (arith, nat_tests))
one_line (x ∷ xs) us (y ∷ ys) vs h k f g e = cc (e, one_line xs us ys vs h.1 k.1 f g (cc e))

-- a text without `*/` has none in its rest
no_close_after : (a : ℕ) (rest : List ℕ) → has_close (a ∷ rest) ≡ false → has_close rest ≡ false
no_close_after a [] e = refl
no_close_after a (b ∷ rest) e = second ((a == 42) && (b == 47)) (has_close (b ∷ rest)) e
  where
    second : (x y : Bool) → (x || y) ≡ false → y ≡ false
    second true y h = absurd (cc h)
    second false y h = h

-- `*/` closes
closed : (a b : ℕ) (rest : List ℕ) → a ≡ 42 → b ≡ 47 → has_close (a ∷ b ∷ rest) ≡ false → ⊥
closed a b rest e f h = grind (arith, nat_tests)

-- the first `*/` is in one place
one_close : (xs us ys vs : List ℕ) → has_close xs ≡ false → has_close ys ≡ false → xs ++ 42 ∷ 47 ∷ us ≡ ys ++ 42 ∷ 47 ∷ vs → xs ≡ ys
one_close [] us [] vs h k e = refl
one_close [] us (y ∷ []) vs h k e = let other : ◌≡◌ {A = ℕ} 47 42 = cc e in absurd (omega (arith, other))
one_close [] us (y ∷ z ∷ ys) vs h k e = absurd (closed y z ys (cc e) (cc e) k)
one_close (x ∷ []) us [] vs h k e = let other : ◌≡◌ {A = ℕ} 42 47 = cc e in absurd (omega (arith, other))
one_close (x ∷ w ∷ xs) us [] vs h k e = absurd (closed x w xs (cc e) (cc e) h)
one_close (x ∷ xs) us (y ∷ ys) vs h k e = cc (e, one_close xs us ys vs (no_close_after x xs h) (no_close_after y ys k) (cc e))

one_line_comment : (text : List ℕ) (m n : ℕ) → IsLineComment text m → IsLineComment text n → m ≡ n
one_line_comment text m n c d =
    let same : c.body ++ c.after ≡ d.body ++ d.after = cc (sym c.split ∙ d.split) in
    c.size ∙ ap (λ body. 2 + length body) (one_line c.body c.after d.body d.after c.line d.line c.whole d.whole same) ∙ sym d.size

one_block_comment : (text : List ℕ) (m n : ℕ) → IsBlockComment text m → IsBlockComment text n → m ≡ n
one_block_comment text m n c d =
    let same : c.body ++ 42 ∷ 47 ∷ c.after ≡ d.body ++ 42 ∷ 47 ∷ d.after = cc (sym c.split ∙ d.split) in
    c.size ∙ ap (λ body. 4 + length body) (one_close c.body c.after d.body d.after c.first d.first same) ∙ sym d.size

one_skipped : (before text : List ℕ) (m n : ℕ) → IsSkipped before text m → IsSkipped before text n → m ≡ n
one_skipped before text m n c d =
    let same : c.body ++ c.after ≡ d.body ++ d.after = cc (sym c.split ∙ d.split) in
    c.size ∙ ap (λ body. 1 + length body) (one_line c.body c.after d.body d.after c.line d.line c.whole d.whole same) ∙ sym d.size

-- ---- pieces

-- a class for each way to begin: 0 a blank, 1 and 2 the two comments, 3 a skipped line, 4 a token
abbrev pub by_tests : Bool → Bool → Bool → Bool → ℕ
by_tests true hash line block = 0
by_tests false true line block = 3
by_tests false false true block = 1
by_tests false false false true = 2
by_tests false false false false = 4

abbrev pub class_of : List ℕ → ℕ
class_of [] = 5
class_of (a ∷ []) = by_tests (is_blank a) (a == 35) false false
class_of (a ∷ b ∷ rest) = by_tests (is_blank a) (a == 35) (a == 47 && b == 47) (a == 47 && b == 42)

blank_class : (b : ℕ) (rest : List ℕ) → is_blank b ≡ true → class_of (b ∷ rest) ≡ 0
blank_class b [] h = ap (λ t. by_tests t (b == 35) false false) h
blank_class b (c ∷ rest) h = ap (λ t. by_tests t (b == 35) (b == 47 && c == 47) (b == 47 && c == 42)) h

hash_class : (rest : List ℕ) → class_of (35 ∷ rest) ≡ 3
hash_class [] = refl
hash_class (b ∷ rest) = refl

-- what begins a spelling, and no comment
token_class : (text : List ℕ) (n : ℕ) → begins_comment text ≡ false → IsLongest text n → class_of text ≡ 4
token_class [] n h l = let some = l.some in let within = l.within in absurd (omega (arith, some, within))
token_class (a ∷ rest) zero h l = let some = l.some in absurd (omega (arith, some))
token_class (a ∷ rest) (suc n) h l = at rest h
  where
    front : (is_blank a ≡ false) × ((a == 35) ≡ false)
    front = plain_front a (take n rest) (passes (a ∷ take n rest) l.spelled)

    at : (more : List ℕ) → begins_comment (a ∷ more) ≡ false → class_of (a ∷ more) ≡ 4
    at [] g = ap (λ t. by_tests t (a == 35) false false) front.0 ∙ ap (λ t. by_tests false t false false) front.1
    at (b ∷ more) g =
        let line : (a == 47 && b == 47) ≡ false = grind (arith, nat_tests) in
        let block : (a == 47 && b == 42) ≡ false = grind (arith, nat_tests) in
        ap (λ t. by_tests t (a == 35) (a == 47 && b == 47) (a == 47 && b == 42)) front.0
        ∙ ap (λ t. by_tests false t (a == 47 && b == 47) (a == 47 && b == 42)) front.1
        ∙ ap (λ t. by_tests false false t (a == 47 && b == 42)) line
        ∙ ap (λ t. by_tests false false false t) block

module _ (bytes : List ℕ) (at : ℕ) where
  abbrev text : List ℕ
  text = drop at bytes

  abbrev pub piece_class : (n : ℕ) (tokens : List Token) → IsPiece bytes at n tokens → ℕ
  piece_class _ _ (blank b rest e h) = 0
  piece_class _ _ (line_comment n c) = 1
  piece_class _ _ (block_comment n c) = 2
  piece_class _ _ (skipped_line n c) = 3
  piece_class _ _ (token n kind h l t) = 4

  pub piece_is_of_class : (n : ℕ) (tokens : List Token) (p : IsPiece bytes at n tokens) → class_of text ≡ piece_class n tokens p
  piece_is_of_class _ _ (blank b rest e h) = ap class_of e ∙ blank_class b rest h
  piece_is_of_class _ _ (line_comment n c) = ap class_of c.split
  piece_is_of_class _ _ (block_comment n c) = ap class_of c.split
  piece_is_of_class _ _ (skipped_line n c) = ap class_of c.split ∙ hash_class (c.body ++ c.after)
  piece_is_of_class _ _ (token n kind h l t) = token_class text n h l

  -- the token of a spelling, at its place
  abbrev token_at : ℕ → TokenKind → List Token
  token_at n kind = record { kind = kind; start = at; end = at + n } ∷ []

  pub one_piece : (m n : ℕ) (ts us : List Token) → IsPiece bytes at m ts → IsPiece bytes at n us → (m ≡ n) × (ts ≡ us)
  one_piece m n ts us p q = same m n ts us p q (sym (piece_is_of_class m ts p) ∙ piece_is_of_class n us q)
    where
      same : (k l : ℕ) (vs ws : List Token) (u : IsPiece bytes at k vs) (v : IsPiece bytes at l ws) → piece_class k vs u ≡ piece_class l ws v → (k ≡ l) × (vs ≡ ws)
      same _ _ _ _ (blank b rest e h) (blank c more f g) i = (refl, refl)
      same _ _ _ _ (blank b rest e h) (line_comment n c) i = absurd (omega (arith, i))
      same _ _ _ _ (blank b rest e h) (block_comment n c) i = absurd (omega (arith, i))
      same _ _ _ _ (blank b rest e h) (skipped_line n c) i = absurd (omega (arith, i))
      same _ _ _ _ (blank b rest e h) (token n kind g l t) i = absurd (omega (arith, i))
      same _ _ _ _ (line_comment n c) (blank b rest e h) i = absurd (omega (arith, i))
      same _ _ _ _ (line_comment n c) (line_comment k d) i = (one_line_comment text n k c d, refl)
      same _ _ _ _ (line_comment n c) (block_comment k d) i = absurd (omega (arith, i))
      same _ _ _ _ (line_comment n c) (skipped_line k d) i = absurd (omega (arith, i))
      same _ _ _ _ (line_comment n c) (token k kind g l t) i = absurd (omega (arith, i))
      same _ _ _ _ (block_comment n c) (blank b rest e h) i = absurd (omega (arith, i))
      same _ _ _ _ (block_comment n c) (line_comment k d) i = absurd (omega (arith, i))
      same _ _ _ _ (block_comment n c) (block_comment k d) i = (one_block_comment text n k c d, refl)
      same _ _ _ _ (block_comment n c) (skipped_line k d) i = absurd (omega (arith, i))
      same _ _ _ _ (block_comment n c) (token k kind g l t) i = absurd (omega (arith, i))
      same _ _ _ _ (skipped_line n c) (blank b rest e h) i = absurd (omega (arith, i))
      same _ _ _ _ (skipped_line n c) (line_comment k d) i = absurd (omega (arith, i))
      same _ _ _ _ (skipped_line n c) (block_comment k d) i = absurd (omega (arith, i))
      same _ _ _ _ (skipped_line n c) (skipped_line k d) i = (one_skipped (take at bytes) text n k c d, refl)
      same _ _ _ _ (skipped_line n c) (token k kind g l t) i = absurd (omega (arith, i))
      same _ _ _ _ (token n kind g l t) (blank b rest e h) i = absurd (omega (arith, i))
      same _ _ _ _ (token n kind g l t) (line_comment k d) i = absurd (omega (arith, i))
      same _ _ _ _ (token n kind g l t) (block_comment k d) i = absurd (omega (arith, i))
      same _ _ _ _ (token n kind g l t) (skipped_line k d) i = absurd (omega (arith, i))
      same _ _ _ _ (token n kind g l t) (token k other h r u) i =
          let length_same = one_longest text n k l r in
          let kind_same = one_token (take k text) kind other (subst (λ j. IsToken (take j text) kind) length_same t) u in
          (length_same, ap (λ j. token_at j kind) length_same ∙ ap (token_at k) kind_same)

  -- a piece has a byte at least
  pub piece_moves : (n : ℕ) (tokens : List Token) → IsPiece bytes at n tokens → 0 < n
  piece_moves _ _ (blank b rest e h) = omega arith
  piece_moves _ _ (line_comment n c) = let size = c.size in omega (arith, size)
  piece_moves _ _ (block_comment n c) = let size = c.size in omega (arith, size)
  piece_moves _ _ (skipped_line n c) = let size = c.size in omega (arith, size)
  piece_moves _ _ (token n kind h l t) = l.some

-- ---- lists

module _ (bytes : List ℕ) (at : ℕ) (inside : at ≤ length bytes) where
  -- a piece stands within the bytes
  pub piece_within : (n : ℕ) (tokens : List Token) → IsPiece bytes at n tokens → at + n ≤ length bytes
  piece_within _ _ (blank b rest e h) = omega (arith, inside, ap length e, length-drop at bytes)
  piece_within _ _ (line_comment n c) = let size = c.size in omega (arith, inside, size, ap length c.split, length-drop at bytes, length-append c.body c.after)
  piece_within _ _ (block_comment n c) = let size = c.size in omega (arith, inside, size, ap length c.split, length-drop at bytes, length-append c.body (42 ∷ 47 ∷ c.after))
  piece_within _ _ (skipped_line n c) = let size = c.size in omega (arith, inside, size, ap length c.split, length-drop at bytes, length-append c.body c.after)
  piece_within _ _ (token n kind h l t) = let within = l.within in omega (arith, inside, within, length-drop at bytes)

module _ (bytes : List ℕ) where
  -- and so does what pieces reach
  pub reach_within : (at end : ℕ) (tokens : List Token) → at ≤ length bytes → Reaches bytes at end tokens → end ≤ length bytes
  reach_within _ _ _ inside (here at) = inside
  reach_within _ _ _ inside (piece at n end tokens rest p r) = reach_within (at + n) end rest (piece_within bytes at inside n tokens p) r

module _ (bytes : List ℕ) where
  -- pieces lead on
  pub forward : (at end : ℕ) (tokens : List Token) → Reaches bytes at end tokens → at ≤ end
  forward _ _ _ (here at) = omega arith
  forward _ _ _ (piece at n end tokens rest p r) = let on = forward (at + n) end rest r in omega (arith, on)

  -- what pieces reach, of two ends the farther is reached by way of the nearer
  pub on_one_way : (at near far : ℕ) (ts us : List Token) → Reaches bytes at near ts → Reaches bytes at far us → near ≤ far → (vs : List Token) × Reaches bytes near far vs × (us ≡ ts ++ vs)
  on_one_way _ _ far _ us (here at) q le = (us, q, refl)
  on_one_way _ _ _ _ _ (piece at n near ts rest p r) (here _) le =
      let on = forward (at + n) near rest r in let moves = piece_moves bytes at n ts p in absurd (omega (arith, on, moves, le))
  on_one_way _ _ _ _ _ (piece at n near ts rest p r) (piece _ k far us more q s) le =
      let same = one_piece bytes at n k ts us p q in
      let from_there = on_one_way (at + n) near far rest more r (subst (λ j. Reaches bytes (at + j) far more) (sym same.0) s) le in
      (from_there.0, from_there.1, ap (λ xs. xs ++ more) (sym same.1) ∙ ap (λ xs. ts ++ xs) from_there.2 ∙ sym (append_assoc ts rest from_there.0))

  -- pieces that lead nowhere have no tokens
  stays : (at end : ℕ) (tokens : List Token) → Reaches bytes at end tokens → at ≡ end → tokens ≡ []
  stays _ _ _ (here at) e = refl
  stays _ _ _ (piece at n end tokens rest p r) e =
      let on = forward (at + n) end rest r in let moves = piece_moves bytes at n tokens p in absurd (omega (arith, on, moves, e))

  -- bytes have one list of tokens at most
  pub one_list : (ts us : List Token) → HasTokens bytes ts → HasTokens bytes us → ts ≡ us
  one_list ts us p q =
      let way = on_one_way 0 (length bytes) (length bytes) ts us p q (omega arith) in
      sym (way.2 ∙ ap (λ vs. ts ++ vs) (stays (length bytes) (length bytes) way.0 way.1 refl) ∙ append-nil ts)
