-- What may stand between quotes, from front to front.
use Rattle.std.proofs.Common.{◌≡◌, ◌≢◌, ℕ, suc, ◌+◌, ◌-◌, ◌<◌, ◌≤◌, ⊎_elim, Bool, true, false, List, [], ◌∷◌, ◌++◌, ◌==◌, ◌||◌, ◌&&◌, not, refl, sym, ap, ◌∙◌, subst, arith, length, take, drop, slice_index, append_assoc}
use Rattle.std.proofs.lemmas.Bool.{cases_lt}
use Rattle.std.proofs.lemmas.Bool.Decides.{nat_tests}
use Rattle.std.proofs.lemmas.Grind.{take_at_read}
use Rattle.std.proofs.lemmas.List.{take-append-drop, length-take-le, drop_more}
use Rattle.std.proofs.Math.Seq.{take-append-add}
use Rattle.c_lexer.specs.Characters.{newline}
use Rattle.c_lexer.specs.Literals.{is_inside, backslash}
use Rattle.c_lexer.proofs.Fronts.{both, either}

-- a byte that stands for itself
abbrev is_plain : ℕ → ℕ → Bool
is_plain quote b = not (b == quote || (b == newline || b == backslash))

-- what goes on behind a plain byte
plain_step : (quote b : ℕ) (rest : List ℕ) → is_plain quote b ≡ true → is_inside quote (b ∷ rest) ≡ is_inside quote rest
plain_step quote b [] h = h
plain_step quote b (c ∷ rest) h =
    let no_escape : (b == backslash) ≡ false = grind (arith, nat_tests) in
    ap (λ t. (t && (not (c == newline) && is_inside quote rest)) || (is_plain quote b && is_inside quote (c ∷ rest))) no_escape
    ∙ ap (λ t. t && is_inside quote (c ∷ rest)) h

-- what goes on behind an escape
pair_step : (quote b : ℕ) (rest : List ℕ) → is_inside quote (backslash ∷ b ∷ rest) ≡ (not (b == newline) && is_inside quote rest)
pair_step quote b rest =
    ap (λ t. (not (b == newline) && is_inside quote rest) || (t && is_inside quote (b ∷ rest))) (not_or_true (backslash == quote))
    ∙ or_false (not (b == newline) && is_inside quote rest)
  where
    not_or_true : (x : Bool) → not (x || true) ≡ false
    not_or_true true = refl
    not_or_true false = refl

    or_false : (x : Bool) → (x || false) ≡ x
    or_false true = refl
    or_false false = refl

-- behind what may stand inside, a text is judged by itself
pub inside_append : (quote : ℕ) (xs ys : List ℕ) → is_inside quote xs ≡ true → is_inside quote (xs ++ ys) ≡ is_inside quote ys
inside_append quote [] ys h = refl
inside_append quote (b ∷ []) ys h = plain_step quote b ys h
inside_append quote (a ∷ b ∷ rest) ys h = ⊎_elim (escape (inside_append quote rest ys)) (plain (inside_append quote (b ∷ rest) ys)) (either (a == backslash && (not (b == newline) && is_inside quote rest)) _ h)
  where
    escape : (is_inside quote rest ≡ true → is_inside quote (rest ++ ys) ≡ is_inside quote ys) → (a == backslash && (not (b == newline) && is_inside quote rest)) ≡ true → is_inside quote (a ∷ b ∷ (rest ++ ys)) ≡ is_inside quote ys
    escape step e =
        let parts = both (a == backslash) _ e in
        let more = both (not (b == newline)) _ parts.1 in
        let test = parts.0 in
        let same : a ≡ backslash = grind (arith, nat_tests) in
        subst (λ x. is_inside quote (x ∷ b ∷ (rest ++ ys)) ≡ is_inside quote ys) (sym same)
        (pair_step quote b (rest ++ ys) ∙ ap (λ t. t && is_inside quote (rest ++ ys)) more.0 ∙ step more.1)

    plain : (is_inside quote (b ∷ rest) ≡ true → is_inside quote (b ∷ (rest ++ ys)) ≡ is_inside quote ys) → (is_plain quote a && is_inside quote (b ∷ rest)) ≡ true → is_inside quote (a ∷ b ∷ (rest ++ ys)) ≡ is_inside quote ys
    plain step e = let parts = both (is_plain quote a) _ e in plain_step quote a (b ∷ (rest ++ ys)) parts.0 ∙ step parts.1

-- a newline stops a literal, and so does a backslash before one
newline_stops : (quote : ℕ) (rest : List ℕ) → is_inside quote (newline ∷ rest) ≡ false
newline_stops quote [] = not_or (newline == quote)
  where
    not_or : (x : Bool) → not (x || true) ≡ false
    not_or true = refl
    not_or false = refl
newline_stops quote (c ∷ rest) = ap (λ t. t && is_inside quote (c ∷ rest)) (not_or (newline == quote))
  where
    not_or : (x : Bool) → not (x || true) ≡ false
    not_or true = refl
    not_or false = refl

backslash_stops : (quote : ℕ) → is_inside quote (backslash ∷ []) ≡ false
backslash_stops quote = not_or (backslash == quote)
  where
    not_or : (x : Bool) → not (x || true) ≡ false
    not_or true = refl
    not_or false = refl

-- how far a literal is read: what came may stand inside, up to a backslash where one came just before, and no quote in
-- it closes
pub record Scanned (quote : ℕ) (text : List ℕ) (is_escaped : Bool) (index : ℕ) : Type 0 where
  pub fresh : is_escaped ≡ false → is_inside quote (take index text) ≡ true
  pub pending : is_escaped ≡ true → (m : ℕ) × (suc m ≡ index) × (slice_index text m ≡ backslash) × (is_inside quote (take m text) ≡ true)
  pub unclosed : (n : ℕ) → n < index → slice_index text n ≡ quote → is_inside quote (take n text) ≡ true → ⊥

module _ (quote : ℕ) (text : List ℕ) where
  one_more : (index : ℕ) → index < length text → take (index + 1) text ≡ take index text ++ slice_index text index ∷ []
  one_more index lt = (take_at_read text index 0 lt).1

  pub scanned_next : (is_escaped : Bool) (index : ℕ) → Scanned quote text is_escaped index → index < length text → slice_index text index ≢ newline → (not is_escaped && slice_index text index == quote) ≡ false → Scanned quote text (not is_escaped && slice_index text index == backslash) (index + 1)
  scanned_next false index s lt line other = record {
    fresh = λ h. let plain : is_plain quote (slice_index text index) ≡ true = grind (arith, nat_tests) in
        ap (is_inside quote) (one_more index lt) ∙ inside_append quote (take index text) (slice_index text index ∷ []) (s.fresh refl) ∙ plain;
    pending = λ h. (index, omega arith, grind (arith, nat_tests), s.fresh refl);
    unclosed = λ n le e inside. ⊎_elim (λ less. s.unclosed n less e inside) (λ ge. let same : n ≡ index = omega (arith, le, ge) in at n same e) (cases_lt n index);
  }
    where
      at : (n : ℕ) → n ≡ index → slice_index text n ≡ quote → ⊥
      at n same e = let here : slice_index text index ≡ quote = subst (λ k. slice_index text k ≡ quote) same e in grind (arith, nat_tests)
  scanned_next true index s lt line other = record {
    fresh = λ h. ap (is_inside quote) two_more ∙ inside_append quote (take p.0 text) (backslash ∷ slice_index text index ∷ []) p.3 ∙ pair_step quote (slice_index text index) [] ∙ both_hold;
    pending = λ h. absurd (cc h);
    unclosed = λ n le e inside. ⊎_elim (λ less. s.unclosed n less e inside) (λ ge. let same : n ≡ index = omega (arith, le, ge) in absurd (cc (sym stopped ∙ subst (λ k. is_inside quote (take k text) ≡ true) same inside))) (cases_lt n index);
  }
    where
      p : (m : ℕ) × (suc m ≡ index) × (slice_index text m ≡ backslash) × (is_inside quote (take m text) ≡ true)
      p = s.pending refl

      before : take index text ≡ take p.0 text ++ backslash ∷ []
      before = ap (λ k. take k text) (omega (arith, p.1)) ∙ one_more p.0 (omega (arith, p.1, lt)) ∙ ap (λ b. take p.0 text ++ b ∷ []) p.2

      two_more : take (index + 1) text ≡ take p.0 text ++ backslash ∷ slice_index text index ∷ []
      two_more = one_more index lt ∙ ap (λ front. front ++ slice_index text index ∷ []) before ∙ append_assoc (take p.0 text) (backslash ∷ []) (slice_index text index ∷ [])

      both_hold : (not (slice_index text index == newline) && true) ≡ true
      both_hold = grind (arith, nat_tests)

      stopped : is_inside quote (take index text) ≡ false
      stopped = ap (is_inside quote) before ∙ inside_append quote (take p.0 text) (backslash ∷ []) p.3 ∙ backslash_stops quote

  -- a front past a place, in two parts
  pub front_past : (index k : ℕ) → index < length text → take (index + suc k) text ≡ take index text ++ slice_index text index ∷ take k (drop (index + 1) text)
  front_past index k lt =
      ap (take (index + suc k)) (sym (take-append-drop index text))
      ∙ ap (λ j. take (j + suc k) (take index text ++ drop index text)) (sym (length-take-le index text (omega (arith, lt))))
      ∙ take-append-add (take index text) (drop index text) (suc k)
      ∙ ap (λ rest. take index text ++ take (suc k) rest) (drop_more text index 0 lt)

  -- past a newline no quote closes
  pub scanned_newline : (is_escaped : Bool) (index : ℕ) → Scanned quote text is_escaped index → index < length text → slice_index text index ≡ newline → quote ≢ newline → (n : ℕ) → n < length text → slice_index text n ≡ quote → is_inside quote (take n text) ≡ true → ⊥
  scanned_newline is_escaped index s lt line other n within e inside =
      ⊎_elim (λ less. s.unclosed n less e inside) (λ ge. ⊎_elim (λ same. here (omega (arith, same, ge))) (λ past. stopped is_escaped s (past_of past)) (cases_lt n (index + 1))) (cases_lt n index)
    where
      here : n ≡ index → ⊥
      here same = other (sym e ∙ ap (slice_index text) same ∙ line)

      past_of : index + 1 ≤ n → (k : ℕ) × (n ≡ index + suc k)
      past_of le = (n - (index + 1), omega (arith, le))

      stopped : (escaped : Bool) → Scanned quote text escaped index → (k : ℕ) × (n ≡ index + suc k) → ⊥
      stopped false t (k, same) =
          let front = ap (λ j. take j text) same ∙ front_past index k lt ∙ ap (λ b. take index text ++ b ∷ take k (drop (index + 1) text)) line in
          absurd (cc (sym inside ∙ ap (is_inside quote) front ∙ inside_append quote (take index text) (newline ∷ take k (drop (index + 1) text)) (t.fresh refl) ∙ newline_stops quote (take k (drop (index + 1) text))))
      stopped true t (k, same) =
          let p = t.pending refl in
          let longer : n ≡ p.0 + suc (suc k) = let before = p.1 in omega (arith, same, before) in
          let front = ap (λ j. take j text) longer ∙ front_past p.0 (suc k) (let before = p.1 in omega (arith, before, lt)) ∙ ap (λ b. take p.0 text ++ b ∷ take (suc k) (drop (p.0 + 1) text)) p.2 in
          let rest : take (suc k) (drop (p.0 + 1) text) ≡ newline ∷ take k (drop (index + 1) text) =
          ap (λ j. take (suc k) (drop j text)) (let before = p.1 in omega (arith, before)) ∙ ap (take (suc k)) (drop_more text index 0 lt) ∙ ap (λ b. b ∷ take k (drop (index + 1) text)) line in
          absurd (cc (sym inside ∙ ap (is_inside quote) front ∙ inside_append quote (take p.0 text) (backslash ∷ take (suc k) (drop (p.0 + 1) text)) p.3
          ∙ ap (λ r. is_inside quote (backslash ∷ r)) rest ∙ pair_step quote newline (take k (drop (index + 1) text))))
