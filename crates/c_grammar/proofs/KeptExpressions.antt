-- The readings of expressions keep their answers, where those within the next lower budget do.
use Rattle.std.proofs.Common.{◌≡◌, ℕ, zero, suc, ◌+◌, ◌<◌, ◌≤◌, ◌⊎◌, inl, inr, Bool, true, false, ◌&&◌, List, [], ◌∷◌, ◌++◌, ◌==◌, if◌then◌else◌, refl, sym, ap, subst, arith, codes, bytes_eq}
use Rattle.c_lexer.specs.declared.token.Punct.{Punct}
use Rattle.c_lexer.specs.declared.token.Punct.TheVariants.{LeftBracket, RightBracket, LeftParenthesis, RightParenthesis, Dot, Arrow, PlusPlus, MinusMinus, Question, Colon, Comma}
use Rattle.c_lexer.specs.declared.token.Token.{Token}
use Rattle.c_lexer.specs.declared.token.TokenKind.{TokenKind}
use Rattle.c_lexer.specs.declared.token.TokenKind.TheVariants as token
use Rattle.c_lexer.specs.Marks.{mark_text}
use Rattle.c_syntax.specs.declared.kind.SynKind.TheVariants as kind
use Rattle.c_syntax.specs.Trees.{Tree, ◌then◌, one, two, text_node, plain_node, string_node, height}
use Rattle.c_grammar.specs.Vocabulary.{Place, mark, word, integer, character, is_unary_operator, is_assignment, level_of}
use Rattle.c_grammar.specs.Scopes.{Names, after}
use Rattle.c_grammar.specs.Answers.{Answer, found, deep, and_then, fit, Ahead, ahead, ahead_by, expect}
use Rattle.c_grammar.specs.Fronts.{first}
use Rattle.c_grammar.specs.Reading.{Reader, Goal, Rows, needs_name, joined_behind, joined_by, is_variable, begins_specifier, is_unary_by, primary_by, suffix_by, suffixes, postfix_in, size_in, unary_by, unary_in, cast_by, cast_in, operand_by, operands, binary_in, choice_by, conditional_in, assigned_by, assignment_in, comma_by, commas, expression_in}
use Rattle.c_grammar.proofs.Budgets.{order, beyond}
use Rattle.c_grammar.proofs.SoundSteps.{IsAhead, is_nothing, is_mark, is_word, is_integer, is_character, is_string, ahead_is}
use Rattle.c_grammar.proofs.KeptSteps.{Keeps, keeps_found, keeps_deep, keeps_less, keeps_then, keeps_fit, keeps_fits, keeps_here, keeps_token, keeps_end, keeps_no_token, keeps_at_end, Behind, all_found, all_wrong, inside, keeps_at, behind_it, behind_if}
use Rattle.c_grammar.proofs.KeptFirst.{keeps_if_specifier, keeps_expect, keeps_expect_identifier}

-- what has a tree without a token is read by no reader below the budget 2
abbrev pub least_of : Goal → ℕ
least_of Goal.optional_expression = 2
least_of (Goal.declared mode) = if needs_name mode then 0 else 2
least_of other = 0

-- a reader within the budgets below d keeps its answers; also behind a token that takes another look at what is behind it
pub record IsKept (d : ℕ) (r : Reader) : Type 0 where
  pub tree : (goal : Goal) (names : Names) (ts : List Token) → least_of goal ≤ d → Keeps 1 (r.tree_of goal names) ts
  pub trees : (row : Rows) (names : Names) (ts : List Token) → Keeps 1 (r.trees_of row names) ts
  pub parenthesis : (names : Names) (at : Place) (ts : List Token) → 3 ≤ d → Keeps 1 (λ c. r.tree_of Goal.unary names (mark LeftParenthesis at ∷ c)) ts
  pub void_list : (names : Names) (at : Place) (ts : List Token) → 2 ≤ d → Keeps 1 (λ c. r.trees_of (Rows.specifier_list false) names (word (codes "void") at ∷ c)) ts
  pub void_specifiers : (names : Names) (at : Place) (ts : List Token) → 3 ≤ d → Keeps 1 (λ c. r.tree_of Goal.specifiers names (word (codes "void") at ∷ c)) ts
  pub void_parameters : (names : Names) (at : Place) (ts : List Token) → 4 ≤ d → Keeps 1 (λ c. r.trees_of Rows.parameters names (word (codes "void") at ∷ c)) ts

-- ---- strings in a row

abbrev Joined : List ℕ → List Token → Type 0
Joined bytes ts = (q : List Token)
    × (ts ≡ q ++ (joined_behind bytes ts).1)
    × ((c : List Token) → first c ≡ first (joined_behind bytes ts).1 → joined_behind bytes (q ++ c) ≡ ((joined_behind bytes ts).0, c))

joined_token : (k : TokenKind) (at : Place) (bytes : List ℕ) (rest : List Token)
    → ((more : List ℕ) → Joined more rest)
    → Joined bytes (record { kind = k; start = at.start; end = at.end } ∷ rest)
unfolding joined_behind joined_by
joined_token (token.Str more) at bytes rest next = let n = next (bytes ++ more) in
    (record { kind = token.Str more; start = at.start; end = at.end } ∷ n.0, ap (λ a. record { kind = token.Str more; start = at.start; end = at.end } ∷ a) n.1, n.2)
joined_token (token.Punct p) at bytes rest next = ([], refl, by)
  where
    by : (c : List Token) → first c ≡ first (mark p at ∷ rest) → joined_behind bytes c ≡ (bytes, c)
    by [] e = absurd (cc e)
    by (u ∷ c) e = let same : u ≡ mark p at = cc e in subst (λ v. joined_behind bytes (v ∷ c) ≡ (bytes, v ∷ c)) (sym same) refl
joined_token (token.Word text) at bytes rest next = ([], refl, by)
  where
    by : (c : List Token) → first c ≡ first (word text at ∷ rest) → joined_behind bytes c ≡ (bytes, c)
    by [] e = absurd (cc e)
    by (u ∷ c) e = let same : u ≡ word text at = cc e in subst (λ v. joined_behind bytes (v ∷ c) ≡ (bytes, v ∷ c)) (sym same) refl
joined_token (token.Int value type) at bytes rest next = ([], refl, by)
  where
    by : (c : List Token) → first c ≡ first (integer value type at ∷ rest) → joined_behind bytes c ≡ (bytes, c)
    by [] e = absurd (cc e)
    by (u ∷ c) e = let same : u ≡ integer value type at = cc e in subst (λ v. joined_behind bytes (v ∷ c) ≡ (bytes, v ∷ c)) (sym same) refl
joined_token (token.Char value) at bytes rest next = ([], refl, by)
  where
    by : (c : List Token) → first c ≡ first (character value at ∷ rest) → joined_behind bytes c ≡ (bytes, c)
    by [] e = absurd (cc e)
    by (u ∷ c) e = let same : u ≡ character value at = cc e in subst (λ v. joined_behind bytes (v ∷ c) ≡ (bytes, v ∷ c)) (sym same) refl

joined : (bytes : List ℕ) (ts : List Token) → Joined bytes ts
unfolding joined_behind
joined bytes [] = ([], refl, by)
  where
    by : (c : List Token) → first c ≡ first [] → joined_behind bytes c ≡ (bytes, c)
    by [] e = refl
    by (u ∷ c) e = absurd (cc e)
joined bytes (t ∷ rest) = joined_token t.kind (record { start = t.start; end = t.end }) bytes rest (λ more. joined more rest)

strings_kept : (bytes : List ℕ) (at : ℕ) (ts : List Token) → Keeps 0 (λ c. found (string_node (joined_behind bytes c).0 at) (joined_behind bytes c).1) ts
strings_kept bytes at ts = let j = joined bytes ts in
    keeps_found j.0 (joined_behind bytes ts).1 (string_node (joined_behind bytes ts).0 at) j.1 (λ c h. ap (λ more. found (string_node more.0 at) more.1) (j.2 c h))

-- ---- within the budget d

if_both : {T : Type 0} {x y z : T} (b : Bool) → x ≡ z → y ≡ z → (if b then x else y) ≡ z
if_both true e f = e
if_both false e f = f

module _ (d : ℕ) (r : Reader) (kept : IsKept d r) where
  primary_kept : (names : Names) {ts : List Token} {h : Ahead} → IsAhead ts h → Keeps 1 (λ c. primary_by d r names c (ahead c)) ts
  unfolding primary_by ahead ahead_by
  primary_kept names is_nothing = keeps_no_token refl
  primary_kept names (is_word {text = text}) = keeps_at (behind_if (is_variable names text)
      (λ e. inside (keeps_fit _ _ (λ le. keeps_here)))
      (λ e. all_wrong (λ c. refl)))
  primary_kept names is_integer = keeps_at (inside (keeps_fit _ _ (λ le. keeps_here)))
  primary_kept names is_character = keeps_at (inside (keeps_fit _ _ (λ le. keeps_here)))
  primary_kept names (is_string {bytes = bytes} {at = at} {rest = rest}) = keeps_at (inside (keeps_fit _ _ (λ le. strings_kept bytes at.start rest)))
  primary_kept names (is_mark {p = LeftParenthesis}) = keeps_at (inside (keeps_fit _ _ (λ le. keeps_less (
      keeps_then (kept.tree Goal.expression _ _ (omega arith)) (λ x behind _.
      keeps_expect RightParenthesis behind (λ end. keeps_here))))))
  primary_kept names is_mark = keeps_at (all_wrong (λ c. refl))

  suffix_kept : (names : Names) (x : Tree) {go : Tree → List Token → Answer Tree} {ts : List Token} {h : Ahead}
      → ((y : Tree) (b : List Token) → height x < height y → suc (height x) ≤ d → Keeps 1 (go y) b)
      → IsAhead ts h
      → Keeps 1 (λ c. suffix_by d r names x c go (ahead c)) ts
  unfolding suffix_by ahead ahead_by
  suffix_kept names x next is_nothing = keeps_at_end x refl
  suffix_kept names x next (is_mark {p = LeftBracket}) = keeps_at (inside (keeps_fit _ _ (λ le. keeps_less (
      keeps_then (kept.tree Goal.expression _ _ (omega arith)) (λ y behind _.
      keeps_expect RightBracket behind (λ end. keeps_less (next _ end (omega arith) le)))))))
  suffix_kept names x next (is_mark {p = LeftParenthesis}) = keeps_at (inside (keeps_fit _ _ (λ le. keeps_less (
      keeps_then (kept.trees Rows.arguments _ _) (λ ys behind _.
      keeps_expect RightParenthesis behind (λ end. keeps_less (next _ end (omega arith) le)))))))
  suffix_kept names x next (is_mark {p = Dot}) = keeps_at (inside (keeps_fit _ _ (λ le. keeps_less (
      keeps_expect_identifier _ (λ text end. keeps_less (next _ end (omega arith) le))))))
  suffix_kept names x next (is_mark {p = Arrow}) = keeps_at (inside (keeps_fit _ _ (λ le. keeps_less (
      keeps_expect_identifier _ (λ text end. keeps_less (next _ end (omega arith) le))))))
  suffix_kept names x next (is_mark {p = PlusPlus}) = keeps_at (inside (keeps_fit _ _ (λ le. keeps_less (next _ _ (omega arith) le))))
  suffix_kept names x next (is_mark {p = MinusMinus}) = keeps_at (inside (keeps_fit _ _ (λ le. keeps_less (next _ _ (omega arith) le))))
  suffix_kept names x next _ = keeps_at (all_found x (λ c. refl))

  suffixes_kept : (k : ℕ) (names : Names) (x : Tree) (ts : List Token) → d ≤ k + height x → Keeps 1 (suffixes d r k names x) ts
  unfolding suffixes
  suffixes_kept zero names x ts far = suffix_kept names x (λ y b lt le. absurd (omega (arith, far, le))) (ahead_is ts)
  suffixes_kept (suc k) names x ts far = suffix_kept names x (λ y b lt le. suffixes_kept k names y b (omega (arith, far, lt))) (ahead_is ts)

  postfix_kept : (names : Names) (ts : List Token) → Keeps 1 (postfix_in d r names) ts
  unfolding postfix_in
  postfix_kept names ts = keeps_then (primary_kept names (ahead_is ts)) (λ x b _. suffixes_kept d names x b (omega arith))

  -- ---- unary expressions and casts

  size_kept : (names : Names) (at : Place) → 2 ≤ d → {rest : List Token} {h : Ahead} → IsAhead rest h → Keeps 1 (λ c. size_in d r names at c (ahead c)) rest
  unfolding size_in ahead ahead_by
  size_kept names at two_fit = by
    where
      expression_size : (ts : List Token) → Keeps 1 (λ c. and_then (r.tree_of Goal.unary names c) (λ x end. found (plain_node kind.SizeExpr at.start (one x)) end)) ts
      expression_size ts = keeps_then (kept.tree Goal.unary names ts (omega arith)) (λ x end _. keeps_here)

      by : {rest : List Token} {h : Ahead} → IsAhead rest h → Keeps 1 (λ c. size_in d r names at c (ahead c)) rest
      by is_nothing = keeps_end (expression_size []) refl
      by (is_mark {p = LeftParenthesis} {at = at2} {rest = rest2}) = keeps_at (inside (keeps_fit _ _ (λ le. keeps_less (keeps_if_specifier false names rest2
          (λ _. keeps_then (kept.tree Goal.type_name _ _ (omega arith)) (λ t behind _. keeps_expect RightParenthesis behind (λ end. keeps_here)))
          (λ _. keeps_then (kept.parenthesis names at2 rest2 le) (λ x end _. keeps_here))))))
      by _ = keeps_token (expression_size _) (λ c. refl)

  other_operator_kept : (names : Names) (op : Punct) (at : Place) (rest : List Token)
      → Behind (mark op at) (λ c. if is_unary_operator op then
      fit 2 d c (and_then (r.tree_of Goal.cast names c) (λ x end. found (text_node kind.Unary (mark_text op) at.start (one x)) end))
      else postfix_in d r names (mark op at ∷ c)) rest
  other_operator_kept names op at rest = behind_if (is_unary_operator op)
      (λ e. inside (keeps_fit _ _ (λ le. keeps_less (keeps_then (kept.tree Goal.cast _ _ (omega arith)) (λ x end _. keeps_here)))))
      (λ e. behind_it (postfix_kept names (mark op at ∷ rest)))

  operator_kept : (names : Names) (op : Punct) (at : Place) (rest : List Token) → Keeps 1 (λ c. unary_by d r names c (ahead c)) (mark op at ∷ rest)
  unfolding unary_by ahead ahead_by
  operator_kept names PlusPlus at rest = keeps_at (inside (keeps_fit _ _ (λ le. keeps_less (keeps_then (kept.tree Goal.unary _ _ (omega arith)) (λ x end _. keeps_here)))))
  operator_kept names MinusMinus at rest = keeps_at (inside (keeps_fit _ _ (λ le. keeps_less (keeps_then (kept.tree Goal.unary _ _ (omega arith)) (λ x end _. keeps_here)))))
  operator_kept names op at rest = keeps_at (other_operator_kept names op at rest)

  unary_kept_by : (names : Names) {ts : List Token} {h : Ahead} → IsAhead ts h → Keeps 1 (λ c. unary_by d r names c (ahead c)) ts
  unfolding unary_by ahead ahead_by
  unary_kept_by names (is_mark {p = p} {at = at} {rest = rest}) = operator_kept names p at rest
  unary_kept_by names (is_word {text = text} {at = at} {rest = rest}) = keeps_at (behind_if (bytes_eq text (codes "sizeof"))
      (λ e. inside (keeps_fit _ _ (λ le. keeps_less (size_kept names at le (ahead_is rest)))))
      (λ e. behind_it (postfix_kept names _)))
  unary_kept_by names is_nothing = keeps_end (postfix_kept names []) refl
  unary_kept_by names _ = keeps_token (postfix_kept names _) (λ c. refl)

  pub unary_kept : (names : Names) (ts : List Token) → Keeps 1 (unary_in d r names) ts
  unfolding unary_in
  unary_kept names ts = unary_kept_by names (ahead_is ts)

  -- behind a parenthesis, where the budget is high enough
  pub unary_parenthesis_kept : (names : Names) (at : Place) (ts : List Token) → 2 ≤ d → Keeps 1 (λ c. unary_in d r names (mark LeftParenthesis at ∷ c)) ts
  unfolding unary_in unary_by postfix_in primary_by ahead ahead_by
  unary_parenthesis_kept names at ts le = keeps_then
      (keeps_fits _ _ le (keeps_then (kept.tree Goal.expression names ts (omega arith)) (λ x behind _. keeps_expect RightParenthesis behind (λ end. keeps_here))))
      (λ x b _. suffixes_kept d names x b (omega arith))

  -- and where it is not
  unary_too_deep : (names : Names) (at : Place) (c : List Token) → d < 2 → unary_in d r names (mark LeftParenthesis at ∷ c) ≡ deep c
  unfolding unary_in unary_by postfix_in primary_by ahead ahead_by and_then
  unary_too_deep names at c lt = ap (λ x. and_then x (suffixes d r d names)) (beyond 2 d c _ lt)

  cast_parenthesis_kept : (names : Names) (at : Place) (rest : List Token) → (2 ≤ d) ⊎ (d < 2)
      → Keeps 0 (λ c. if begins_specifier false names c then
      fit 2 d c (and_then (r.tree_of Goal.type_name names c) (λ t behind.
      expect RightParenthesis behind (λ behind2.
      and_then (r.tree_of Goal.cast (after names t) behind2) (λ x end. found (plain_node kind.Cast at.start (two t x)) end))))
      else unary_in d r names (mark LeftParenthesis at ∷ c)) rest
  cast_parenthesis_kept names at rest (inl le) = keeps_less (keeps_if_specifier false names rest
      (λ _. keeps_fits _ _ le (keeps_then (kept.tree Goal.type_name names rest (omega arith)) (λ t behind _.
      keeps_expect RightParenthesis behind (λ behind2. keeps_less (
      keeps_then (kept.tree Goal.cast _ _ (omega arith)) (λ x end _. keeps_here))))))
      (λ _. unary_parenthesis_kept names at rest le))
  cast_parenthesis_kept names at rest (inr lt) = keeps_deep [] rest refl (λ z. absurd (omega (arith, z)))
      (λ c. if_both (begins_specifier false names c) (beyond 2 d c _ lt) (unary_too_deep names at c lt))

  cast_kept_by : (names : Names) {ts : List Token} {h : Ahead} → IsAhead ts h → Keeps 1 (λ c. cast_by d r names c (ahead c)) ts
  unfolding cast_by ahead ahead_by
  cast_kept_by names is_nothing = keeps_end (unary_kept names []) refl
  cast_kept_by names (is_mark {p = LeftParenthesis} {at = at} {rest = rest}) = keeps_at (inside (cast_parenthesis_kept names at rest (order 2 d)))
  cast_kept_by names _ = keeps_token (unary_kept names _) (λ c. refl)

  pub cast_kept : (names : Names) (ts : List Token) → Keeps 1 (cast_in d r names) ts
  unfolding cast_in
  cast_kept names ts = cast_kept_by names (ahead_is ts)

  -- ---- binary expressions and what is built of them

  operand_kept : (n : ℕ) (names : Names) (x : Tree) {go : Tree → List Token → Answer Tree} {ts : List Token} {h : Ahead}
      → ((y : Tree) (b : List Token) → height x < height y → suc (height x) ≤ d → Keeps 1 (go y) b)
      → IsAhead ts h
      → Keeps 1 (λ c. operand_by d r n names x c go (ahead c)) ts
  unfolding operand_by ahead ahead_by
  operand_kept n names x next is_nothing = keeps_at_end x refl
  operand_kept n names x next (is_mark {p = op}) = keeps_at (behind_if (level_of op == suc n)
      (λ e. inside (keeps_fit _ _ (λ le. keeps_less (keeps_then (kept.tree (Goal.binary n) _ _ (omega arith)) (λ y end _. next _ end (omega arith) le)))))
      (λ e. all_found x (λ c. refl)))
  operand_kept n names x next _ = keeps_at (all_found x (λ c. refl))

  operands_kept : (k n : ℕ) (names : Names) (x : Tree) (ts : List Token) → d ≤ k + height x → Keeps 1 (operands d r k n names x) ts
  unfolding operands
  operands_kept zero n names x ts far = operand_kept n names x (λ y b lt le. absurd (omega (arith, far, le))) (ahead_is ts)
  operands_kept (suc k) n names x ts far = operand_kept n names x (λ y b lt le. operands_kept k n names y b (omega (arith, far, lt))) (ahead_is ts)

  pub binary_kept : (n : ℕ) (names : Names) (ts : List Token) → Keeps 1 (binary_in d r n names) ts
  unfolding binary_in
  binary_kept zero names ts = cast_kept names ts
  binary_kept (suc n) names ts = keeps_then (binary_kept n names ts) (λ x b _. operands_kept d n names x b (omega arith))

  choice_kept : (names : Names) (x : Tree) {ts : List Token} {h : Ahead} → IsAhead ts h → Keeps 1 (λ c. choice_by d r names x c (ahead c)) ts
  unfolding choice_by ahead ahead_by
  choice_kept names x is_nothing = keeps_at_end x refl
  choice_kept names x (is_mark {p = Question}) = keeps_at (inside (keeps_fit _ _ (λ le. keeps_less (
      keeps_then (kept.tree Goal.expression _ _ (omega arith)) (λ y behind _.
      keeps_expect Colon behind (λ behind2. keeps_less (
      keeps_then (kept.tree Goal.conditional _ _ (omega arith)) (λ z end _. keeps_here))))))))
  choice_kept names x _ = keeps_at (all_found x (λ c. refl))

  pub conditional_kept : (names : Names) (ts : List Token) → Keeps 1 (conditional_in d r names) ts
  unfolding conditional_in
  conditional_kept names ts = keeps_then (binary_kept 10 names ts) (λ x rest _. choice_kept names x (ahead_is rest))

  assigned_kept : (names : Names) (x : Tree) {ts : List Token} {h : Ahead} → IsAhead ts h → Keeps 1 (λ c. assigned_by d r names x c (ahead c)) ts
  unfolding assigned_by ahead ahead_by
  assigned_kept names x is_nothing = keeps_at_end x refl
  assigned_kept names x (is_mark {p = op}) = keeps_at (behind_if (is_assignment op && is_unary_by x.label.kind)
      (λ e. inside (keeps_fit _ _ (λ le. keeps_less (keeps_then (kept.tree Goal.assignment _ _ (omega arith)) (λ y end _. keeps_here)))))
      (λ e. all_found x (λ c. refl)))
  assigned_kept names x _ = keeps_at (all_found x (λ c. refl))

  pub assignment_kept : (names : Names) (ts : List Token) → Keeps 1 (assignment_in d r names) ts
  unfolding assignment_in
  assignment_kept names ts = keeps_then (conditional_kept names ts) (λ x rest _. assigned_kept names x (ahead_is rest))

  comma_kept : (names : Names) (x : Tree) {go : Tree → List Token → Answer Tree} {ts : List Token} {h : Ahead}
      → ((y : Tree) (b : List Token) → height x < height y → suc (height x) ≤ d → Keeps 1 (go y) b)
      → IsAhead ts h
      → Keeps 1 (λ c. comma_by d r names x c go (ahead c)) ts
  unfolding comma_by ahead ahead_by
  comma_kept names x next is_nothing = keeps_at_end x refl
  comma_kept names x next (is_mark {p = Comma}) = keeps_at (inside (keeps_fit _ _ (λ le. keeps_less (
      keeps_then (kept.tree Goal.assignment _ _ (omega arith)) (λ y end _. next _ end (omega arith) le)))))
  comma_kept names x next _ = keeps_at (all_found x (λ c. refl))

  commas_kept : (k : ℕ) (names : Names) (x : Tree) (ts : List Token) → d ≤ k + height x → Keeps 1 (commas d r k names x) ts
  unfolding commas
  commas_kept zero names x ts far = comma_kept names x (λ y b lt le. absurd (omega (arith, far, le))) (ahead_is ts)
  commas_kept (suc k) names x ts far = comma_kept names x (λ y b lt le. commas_kept k names y b (omega (arith, far, lt))) (ahead_is ts)

  pub expression_kept : (names : Names) (ts : List Token) → Keeps 1 (expression_in d r names) ts
  unfolding expression_in
  expression_kept names ts = keeps_then (assignment_kept names ts) (λ x b _. commas_kept d names x b (omega arith))
