-- Operators that a loop reads level by level: what is still to be read behind the tree so far, from one level up to another.
use Rattle.std.proofs.Common.{◌≡◌, ℕ, zero, suc, ◌+◌, ◌-◌, ◌<◌, ◌≤◌, ◌==◌, inl, inr, Bool, true, false, List, ◌∷◌, length, nat_lt, if◌then◌else◌, refl, sym, ap, ◌∙◌, subst, arith}
use Rattle.std.proofs.lemmas.Bool.Decides.{nat_tests}
use Rattle.c_lexer.specs.declared.token.Punct.{Punct}
use Rattle.c_lexer.specs.declared.token.Token.{Token}
use Rattle.c_lexer.specs.Marks.{mark_text}
use Rattle.c_syntax.specs.declared.kind.SynKind.TheVariants as kind
use Rattle.c_syntax.specs.Trees.{Tree, two, text_node, height}
use Rattle.c_grammar.specs.Scopes.{Names, after}
use Rattle.c_grammar.specs.Derivation.{start}
use Rattle.c_grammar.specs.Vocabulary.{Place, mark, level_of}
use Rattle.c_grammar.specs.Answers.{Answer, found, deep, and_then, Ahead, nothing_ahead, mark_ahead, word_ahead, integer_ahead, character_ahead, string_ahead, ahead}
use Rattle.c_grammar.specs.Reading.{Reader, Goal, behind_one, operand_by, operands, binary_in, cast_in}
use Rattle.c_parts.specs.declared.budget.Stop.{Stop}
use Rattle.c_parts.specs.declared.part.Part.{Part}
use Rattle.c_parser.specs.declared.parser.Parser.{Parser}
use Rattle.c_parser.specs.Gives.{Stops, IsRead}
use Rattle.c_parser.specs.Steps.{no_operator}
use Rattle.c_parser.proofs.Stopping.{stops_then, stops_same}
use Rattle.c_parser.proofs.Chains.{Splits, behind_link}
use Rattle.c_parser.proofs.ExpressionLaws.{ahead_mark}
use Rattle.c_parser.proofs.Links.{open_then, when_true, when_false}

-- so much above a level
abbrev up : ℕ → ℕ → ℕ
up zero l = l
up (suc j) l = suc (up j l)

up_is : (j l : ℕ) → up j l ≡ j + l
up_is zero l = omega arith
up_is (suc j) l = let e = up_is j l in omega (arith, e)

up_above : (j l : ℕ) → l ≤ up j l
up_above j l = let e = up_is j l in omega (arith, e)

up_to : (l top : ℕ) → l ≤ top → up (top - l) l ≡ top
up_to l top h = let e = up_is (top - l) l in omega (arith, e, h)

-- ---- operators of one level

module _ (d : ℕ) (r : Reader) (names : Names) where
  operand_then : (n : ℕ) (x : Tree) (ts rest : List Token) (go : Tree → List Token → Answer Tree) (op : Punct) (at : Place) → level_of op ≡ suc n
      → operand_by d r n names x ts go (mark_ahead op at rest) ≡ and_then (operand_by d r n names x ts found (mark_ahead op at rest)) go
  unfolding operand_by
  operand_then n x ts rest go op at e =
      let is : (level_of op == suc n) ≡ true = grind (arith, nat_tests) in
      when_true _ _ _ is
      ∙ open_then (suc (height x)) d rest (r.tree_of (Goal.binary n) (after names x) rest) (λ y. text_node kind.Binary (mark_text op) (start x) (two x y)) go
      ∙ ap (λ (z : Answer Tree). and_then z go) (sym (when_true _ _ _ is))

  operands_split_at : (n : ℕ) (x : Tree) (ts rest : List Token) (op : Punct) (at : Place) → level_of op ≡ suc n → ahead ts ≡ mark_ahead op at rest
      → Splits (λ k. operands d r k n names) x ts (operand_by d r n names x ts found (ahead ts))
  unfolding operands
  operands_split_at n x ts rest op at e a zero = rw a (operand_then n x ts rest (λ y rest. deep rest) op at e)
  operands_split_at n x ts rest op at e a (suc k) = rw a (operand_then n x ts rest (operands d r k n names) op at e)

  -- an operator of level n + 1 is ahead, or none
  abbrev pub IsOperator : ℕ → List Token → Type 0
  IsOperator l ts = (op : Punct) × ((at : Place) × ((level_of op ≡ l) × (ahead ts ≡ mark_ahead op at (behind_one ts))))

  pub operands_split : (n : ℕ) (x : Tree) (ts : List Token) → IsOperator (suc n) ts → Splits (λ k. operands d r k n names) x ts (operand_by d r n names x ts found (ahead ts))
  operands_split n x ts (op, (at, (e, a))) = operands_split_at n x ts (behind_one ts) op at e a

  operand_ends : (n : ℕ) (x : Tree) (ts : List Token) (go : Tree → List Token → Answer Tree) (h : Ahead) → no_operator (suc n) (suc n) h → operand_by d r n names x ts go h ≡
      found x ts
  unfolding operand_by
  operand_ends n x ts go nothing_ahead e = refl
  operand_ends n x ts go (mark_ahead op at rest) (inl e) = when_false (level_of op == suc n) _ _ (grind (arith, nat_tests))
  operand_ends n x ts go (mark_ahead op at rest) (inr e) = when_false (level_of op == suc n) _ _ (grind (arith, nat_tests))
  operand_ends n x ts go (word_ahead text at rest) e = refl
  operand_ends n x ts go (integer_ahead value type at rest) e = refl
  operand_ends n x ts go (character_ahead value at rest) e = refl
  operand_ends n x ts go (string_ahead bytes at rest) e = refl

  operands_end : (k n : ℕ) (x : Tree) (ts : List Token) → no_operator (suc n) (suc n) (ahead ts) → operands d r k n names x ts ≡ found x ts
  unfolding operands
  operands_end zero n x ts e = operand_ends n x ts (λ y rest. deep rest) (ahead ts) e
  operands_end (suc k) n x ts e = operand_ends n x ts (operands d r k n names) (ahead ts) e

  -- ---- several levels

  -- what is still to be read behind x from level m, with so many links of it left, up to level n
  abbrev pub climb : ℕ → ℕ → ℕ → Tree → List Token → Answer Tree
  climb k m zero x ts = found x ts
  climb k m (suc n) x ts = if nat_lt (suc n) m then found x ts else and_then (climb k m n x ts) (operands d r (if suc n == m then k else d) n names)

  -- the whole is that, with links enough for the budget
  abbrev pub IsClimb : Answer Tree → ℕ → ℕ → ℕ → Tree → List Token → Type 0
  IsClimb whole m n height x ts = (k : ℕ) × ((d ≤ k + height) × (whole ≡ climb k m n x ts))

  climb_below : (k m n : ℕ) (x : Tree) (ts : List Token) → n < m → climb k m n x ts ≡ found x ts
  climb_below k m zero x ts h = refl
  climb_below k m (suc n) x ts h = when_true (nat_lt (suc n) m) _ _ (grind (arith, nat_tests))

  climb_step : (k m n : ℕ) (x : Tree) (ts : List Token) → m ≤ suc n → climb k m (suc n) x ts ≡ and_then (climb k m n x ts) (operands d r (if suc n == m then k else d) n names)
  climb_step k m n x ts h = when_false (nat_lt (suc n) m) _ _ (grind (arith, nat_tests))

  -- ---- the first operand

  climb_all : (n : ℕ) (names0 : Names) (ts0 : List Token) (x : Tree) (ts : List Token) → cast_in d r names ts0 ≡ found x ts → binary_in d r n names ts0 ≡ climb d 1 n x ts
  unfolding binary_in
  climb_all zero names0 ts0 x ts e = e
  climb_all (suc n) names0 ts0 x ts e =
      ap (λ (z : Answer Tree). and_then z (operands d r d n names)) (climb_all n names0 ts0 x ts e)
      ∙ ap (λ (k : ℕ). and_then (climb d 1 n x ts) (operands d r k n names)) (same (suc n == 1))
      ∙ sym (climb_step d 1 n x ts (omega arith))
    where
      same : (b : Bool) → d ≡ (if b then d else d)
      same true = refl
      same false = refl

  pub climb_first : (n : ℕ) (ts0 : List Token) (height : ℕ) (x : Tree) (ts : List Token) → cast_in d r names ts0 ≡ found x ts → IsClimb (binary_in d r n names ts0) 1 n height x ts
  climb_first n ts0 height x ts e = (d, (omega arith, climb_all n names ts0 x ts e))

  pub climb_first_stops : (n : ℕ) (ts0 rest : List Token) (s : Stop) → Stops (cast_in d r names ts0) rest s → Stops (binary_in d r n names ts0) rest s
  unfolding binary_in
  climb_first_stops zero ts0 rest s h = h
  climb_first_stops (suc n) ts0 rest s h = stops_then (binary_in d r n names ts0) (operands d r d n names) rest s (climb_first_stops n ts0 rest s h)

  -- ---- no operator

  no_operator_at : (m n l : ℕ) (h : Ahead) → no_operator m n h → m ≤ l → l ≤ n → no_operator l l h
  no_operator_at m n l nothing_ahead e a b = tt
  no_operator_at m n l (mark_ahead op at rest) (inl e) a b = inl (omega (arith, e, a))
  no_operator_at m n l (mark_ahead op at rest) (inr e) a b = inr (omega (arith, e, b))
  no_operator_at m n l (word_ahead text at rest) e a b = tt
  no_operator_at m n l (integer_ahead value type at rest) e a b = tt
  no_operator_at m n l (character_ahead value at rest) e a b = tt
  no_operator_at m n l (string_ahead bytes at rest) e a b = tt

  climb_none : (k m n top : ℕ) (x : Tree) (ts : List Token) → no_operator m top (ahead ts) → n ≤ top → climb k m n x ts ≡ found x ts
  unfolding and_then
  climb_none k m zero top x ts none h = refl
  climb_none k m (suc n) top x ts none h = by (climb_none k m n top x ts none (omega (arith, h))) (nat_lt (suc n) m) refl
    where
      by : climb k m n x ts ≡ found x ts → (b : Bool) → nat_lt (suc n) m ≡ b → climb k m (suc n) x ts ≡ found x ts
      by lower true e = climb_below k m (suc n) x ts (grind (arith, nat_tests))
      by lower false e =
          let over : m ≤ suc n = grind (arith, nat_tests) in
          climb_step k m n x ts over
          ∙ ap (λ (z : Answer Tree). and_then z (operands d r (if suc n == m then k else d) n names)) lower
          ∙ operands_end (if suc n == m then k else d) n x ts (no_operator_at m top (suc n) (ahead ts) none over h)

  pub climb_end : (whole : Answer Tree) (m n height : ℕ) (x : Tree) (ts : List Token) → IsClimb whole m n height x ts → no_operator m n (ahead ts) → whole ≡ found x ts
  climb_end whole m n height x ts (k, (enough, e)) none = e ∙ climb_none k m n n x ts none (omega arith)

  -- ---- an operator of level l

  not_below : (l m n : ℕ) (ts : List Token) → IsOperator l ts → n < l → no_operator m n (ahead ts)
  not_below l m n ts (op, (at, (e, a))) h = rw a (inr (omega (arith, e, h)))

  -- the links of its level that are left
  level_links : (k m l height : ℕ) → d ≤ k + height → d ≤ (if l == m then k else d) + height
  level_links k m l height h = by (l == m)
    where
      by : (b : Bool) → d ≤ (if b then k else d) + height
      by true = h
      by false = omega arith

  -- the levels up to that of the operator
  climb_to : (k m n : ℕ) (x : Tree) (ts : List Token) → IsOperator (suc n) ts → m ≤ suc n
      → climb k m (suc n) x ts ≡ operands d r (if suc n == m then k else d) n names x ts
  unfolding and_then
  climb_to k m n x ts is h =
      climb_step k m n x ts h
      ∙ ap (λ (z : Answer Tree). and_then z (operands d r (if suc n == m then k else d) n names))
      (climb_none k m n n x ts (not_below (suc n) m n ts is (omega arith)) (omega arith))

  -- the levels above it
  climb_above : (k m l j : ℕ) (x : Tree) (ts : List Token) → m ≤ l → climb k m (suc (up j l)) x ts ≡ and_then (climb k m (up j l) x ts) (operands d r d (up j l) names)
  climb_above k m l j x ts h =
      climb_step k m (up j l) x ts (let a = up_above j l in omega (arith, h, a))
      ∙ ap (λ (c : ℕ). and_then (climb k m (up j l) x ts) (operands d r c (up j l) names)) (when_false (suc (up j l) == m) k d (let a = up_above j l in grind (arith, nat_tests)))

  -- one link less of its level
  climb_one : (k n : ℕ) (y : Tree) (rest : List Token) → climb k (suc n) (suc n) y rest ≡ operands d r k n names y rest
  unfolding and_then
  climb_one k n y rest =
      climb_step k (suc n) n y rest (omega arith)
      ∙ ap (λ (z : Answer Tree). and_then z (operands d r (if suc n == suc n then k else d) n names)) (climb_below k (suc n) n y rest (omega arith))
      ∙ ap (λ (c : ℕ). operands d r c n names y rest) (when_true (suc n == suc n) k d (grind (arith, nat_tests)))

  climb_link : (k k2 m n j : ℕ) (x y : Tree) (ts rest : List Token) → IsOperator (suc n) ts → m ≤ suc n → (if suc n == m then k else d) ≡ suc k2
      → operand_by d r n names x ts found (ahead ts) ≡ found y rest
      → climb k m (up j (suc n)) x ts ≡ climb k2 (suc n) (up j (suc n)) y rest
  unfolding and_then
  climb_link k k2 m n zero x y ts rest is h left e =
      climb_to k m n x ts is h ∙ ap (λ (c : ℕ). operands d r c n names x ts) left ∙ operands_split n x ts is (suc k2)
      ∙ ap (λ (z : Answer Tree). and_then z (operands d r k2 n names)) e ∙ sym (climb_one k2 n y rest)
  climb_link k k2 m n (suc j) x y ts rest is h left e =
      climb_above k m (suc n) j x ts h
      ∙ ap (λ (z : Answer Tree). and_then z (operands d r d (up j (suc n)) names)) (climb_link k k2 m n j x y ts rest is h left e)
      ∙ sym (climb_above k2 (suc n) (suc n) j y rest (omega arith))

  climb_link_stops : (k m n j : ℕ) (x : Tree) (ts rest : List Token) (s : Stop) → IsOperator (suc n) ts → m ≤ suc n
      → Stops (operand_by d r n names x ts found (ahead ts)) rest s → Stops (climb k m (up j (suc n)) x ts) rest s
  climb_link_stops k m n zero x ts rest s is h e =
      stops_same _ _ rest s (climb_to k m n x ts is h ∙ operands_split n x ts is (if suc n == m then k else d))
      (stops_then (operand_by d r n names x ts found (ahead ts)) (behind_link (λ k. operands d r k n names) (if suc n == m then k else d)) rest s e)
  climb_link_stops k m n (suc j) x ts rest s is h e =
      stops_same _ _ rest s (climb_above k m (suc n) j x ts h)
      (stops_then (climb k m (up j (suc n)) x ts) (operands d r d (up j (suc n)) names) rest s (climb_link_stops k m n j x ts rest s is h e))

  climb_next_by : (whole : Answer Tree) (k m n j top height height2 left : ℕ) (x y : Tree) (ts rest : List Token)
      → whole ≡ climb k m top x ts → up j (suc n) ≡ top → d ≤ left + height → (if suc n == m then k else d) ≡ left
      → IsOperator (suc n) ts → m ≤ suc n → operand_by d r n names x ts found (ahead ts) ≡ found y rest → height < height2 → height2 ≤ d
      → IsClimb whole (suc n) top height2 y rest
  climb_next_by whole k m n j top height height2 zero x y ts rest e there enough left is h f higher fits = absurd (omega (arith, enough, higher, fits))
  climb_next_by whole k m n j top height height2 (suc k2) x y ts rest e there enough left is h f higher fits =
      let same : climb k m top x ts ≡ climb k2 (suc n) top y rest = subst (λ (t : ℕ). climb k m t x ts ≡ climb k2 (suc n) t y rest) there
      (climb_link k k2 m n j x y ts rest is h left f) in
      (k2, (omega (arith, enough, higher), e ∙ same))

  -- one operator of level l and the operand behind it have been read
  pub climb_next : (whole : Answer Tree) (m n l top height height2 : ℕ) (x y : Tree) (ts rest : List Token)
      → IsClimb whole m top height x ts → IsOperator l ts → l ≡ suc n → m ≤ l → l ≤ top
      → operand_by d r n names x ts found (ahead ts) ≡ found y rest → height < height2 → height2 ≤ d
      → IsClimb whole l top height2 y rest
  climb_next whole m n l top height height2 x y ts rest (k, (enough, e)) is at low high f higher fits =
      subst (λ (l : ℕ). IsClimb whole l top height2 y rest) (sym at)
      (climb_next_by whole k m n (top - suc n) top height height2 (if suc n == m then k else d) x y ts rest e (up_to (suc n) top (omega (arith, at, high)))
      (level_links k m (suc n) height enough) refl
      (subst (λ (l : ℕ). IsOperator l ts) at is) (omega (arith, at, low)) f higher fits)

  pub climb_stops : (whole : Answer Tree) (m n l top height : ℕ) (x : Tree) (ts rest : List Token) (s : Stop)
      → IsClimb whole m top height x ts → IsOperator l ts → l ≡ suc n → m ≤ l → l ≤ top
      → Stops (operand_by d r n names x ts found (ahead ts)) rest s → Stops whole rest s
  climb_stops whole m n l top height x ts rest s (k, (enough, e)) is at low high h =
      stops_same _ whole rest s e
      (subst (λ (t : ℕ). Stops (climb k m t x ts) rest s) (up_to (suc n) top (omega (arith, at, high)))
      (climb_link_stops k m n (top - suc n) x ts rest s (subst (λ (l : ℕ). IsOperator l ts) at is) (omega (arith, at, low)) h))

-- what is ahead where the code has found an operator
pub operator_ahead : (l : ℕ) (ts : List Token) (op : Punct) {P Q : Type 0} → P × (Q × ((level_of op ≡ l) × ((at : Place) × (ts ≡ mark op at ∷ behind_one ts))))
    → (op : Punct) × ((at : Place) × ((level_of op ≡ l) × (ahead ts ≡ mark_ahead op at (behind_one ts))))
operator_ahead l ts op (p, (q, (e, (at, a)))) = (op, (at, (e, ahead_mark op ts at a)))

-- what a loop has read of binary operators: those of this level are the last
pub record IsClimbed (d : ℕ) (r : Reader) (names : Names) (whole : Answer Tree) (tightest top : ℕ) (under : List Tree) (most : ℕ) (p : Parser) (part : Part) : Type 0 where
  pub tree : Tree
  pub read : IsClimb d r names whole tightest top part.height tree p.rest.now
  pub some : 1 ≤ tightest
  pub is_read : IsRead (after names) tree under p part
  pub low : part.height ≤ d
  pub shorter : length p.rest.now < most
