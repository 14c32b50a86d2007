-- What is read as an expression within a budget is derived, where the next lower budget reads so.
use Rattle.std.proofs.Common.{◌≡◌, ℕ, zero, suc, ◌≤◌, true, false, ◌&&◌, List, ◌∷◌, ◌==◌, if◌then◌else◌, sym, subst, arith, true≢false, codes, bytes_eq}
use Rattle.std.proofs.lemmas.Bool.Decides.{Decides-eqb}
use Rattle.c_lexer.specs.declared.token.Punct.{Punct}
use Rattle.c_lexer.specs.declared.token.Punct.TheVariants.{LeftBracket, RightBracket, LeftParenthesis, RightParenthesis, Dot, Arrow, PlusPlus, MinusMinus, Question, Colon, Comma}
use Rattle.c_lexer.specs.declared.token.Token.{Token}
use Rattle.c_lexer.specs.Marks.{mark_text}
use Rattle.c_syntax.specs.declared.kind.SynKind.TheVariants as kind
use Rattle.c_syntax.specs.Trees.{Tree, ◌then◌, one, text_node, height}
use Rattle.c_grammar.specs.Vocabulary.{Place, mark, word, is_unary_operator, is_assignment, level_of}
use Rattle.c_grammar.specs.Scopes.{Names}
use Rattle.c_grammar.specs.Derivation as rule
use Rattle.c_grammar.specs.Derivation.{Derives, Lists, Literals, start}
use Rattle.c_grammar.specs.Answers.{Answer, found, and_then, fit, Ahead, mark_ahead}
use Rattle.c_grammar.specs.Reading.{Reader, Goal, Rows, is_variable, begins_specifier, is_unary_by, primary_by, suffix_by, suffixes, postfix_in, size_in, unary_by, unary_in, cast_by, cast_in, operand_by, operands, binary_in, choice_by, conditional_in, assigned_by, assignment_in, comma_by, commas, expression_in}
use Rattle.c_grammar.specs.Meanings.{IsTree, AreTrees}
use Rattle.c_grammar.proofs.FirstTokens.{not_true}
use Rattle.c_grammar.proofs.SoundShapes.{literals_behind}
use Rattle.c_grammar.proofs.SoundSteps.{Says, says_found, says_wrong, says_deep, Is, Are, says_then, says_if, says_fit, says_close, says_expect_identifier, IsAhead, is_nothing, is_mark, is_word, is_integer, is_character, is_string, ahead_is, word_is, both_true}

-- what a reader finds is derived, and lower than d
pub record IsSound (d : ℕ) (r : Reader) : Type 0 where
  pub tree : (goal : Goal) (names : Names) (ts : List Token) → Says (Is d (IsTree goal names) ts) (r.tree_of goal names ts)
  pub trees : (row : Rows) (names : Names) (ts : List Token) → Says (Are d (AreTrees row names) ts) (r.trees_of row names ts)

-- a tree that is derived and no higher than d
pub good : {d : ℕ} {R : List Token → List Token → Tree → Type 0} {a b : List Token} {t : Tree} → R a b t → height t ≤ d → Is (suc d) R a t b
good h f = record { holds = h; fits = omega (arith, f) }

pub says_good : {d : ℕ} {R : List Token → List Token → Tree → Type 0} {a b : List Token} {t : Tree} → R a b t → height t ≤ d → Says (Is (suc d) R a) (found t b)
says_good h f = says_found (good h f)

-- a tree as one of another part
pub says_as : {n : ℕ} {R S : List Token → List Token → Tree → Type 0} {a : List Token} {x : Answer Tree}
    → ((t : Tree) (b : List Token) → R a b t → S a b t)
    → Says (Is n R a) x
    → Says (Is n S a) x
says_as f (says_found g) = says_found (record { holds = f _ _ g.holds; fits = g.fits })
says_as f says_wrong = says_wrong
says_as f says_deep = says_deep

-- ---- a conditional expression whose tree is unary is unary

as_unary_by : {names : Names} {n : ℕ} {a b : List Token} {x : Tree} → Derives names (rule.binary n) a b x → is_unary_by x.label.kind ≡ true → Derives names rule.unary a b x
unfolding is_unary_by
as_unary_by (rule.chain l h r) e = absurd (true≢false (sym e))
as_unary_by (rule.tighter x) e = as_unary_by x e
as_unary_by (rule.tightest x) e = by x e
  where
    by : {names : Names} {a b : List Token} {x : Tree} → Derives names rule.cast a b x → is_unary_by x.label.kind ≡ true → Derives names rule.unary a b x
    by (rule.cast_to t x) e = absurd (true≢false (sym e))
    by (rule.uncast x) e = x

pub as_unary : {names : Names} {a b : List Token} {x : Tree} → Derives names rule.conditional a b x → is_unary_by x.label.kind ≡ true → Derives names rule.unary a b x
unfolding is_unary_by
as_unary (rule.unconditional x) e = as_unary_by x e
as_unary (rule.choice x y z) e = absurd (true≢false (sym e))

-- ---- within the budget d

module _ (d : ℕ) (r : Reader) (sound : IsSound d r) where
  pub primary_sound : {names : Names} {ts : List Token} {h : Ahead} → IsAhead ts h → Says (Is (suc d) (Derives names rule.primary) ts) (primary_by d r names ts h)
  unfolding primary_by
  primary_sound {names} (is_word {text = text}) = says_if (is_variable names text)
      (λ e. says_fit _ _ _ (λ k. says_good (rule.variable (both_true e).0 (not_true _ (both_true e).1)) (omega arith)))
      (λ e. says_wrong)
  primary_sound is_integer = says_fit _ _ _ (λ k. says_good rule.integer_constant (omega arith))
  primary_sound is_character = says_fit _ _ _ (λ k. says_good rule.character_constant (omega arith))
  primary_sound (is_string {bytes = bytes} {at = at} {rest = rest}) = says_fit _ _ _ (λ k. says_good (rule.string_literal (literals_behind bytes at rest)) (omega arith))
  primary_sound (is_mark {p = LeftParenthesis}) = says_fit _ _ _ (λ k.
      says_then (sound.tree Goal.expression _ _) (λ x behind s.
      says_close RightParenthesis s (λ at2 end e. says_good (rule.in_parentheses e) (omega arith))))
  primary_sound _ = says_wrong

  suffix_sound : {names : Names} {a ts : List Token} {x : Tree} {go : Tree → List Token → Answer Tree} {h : Ahead}
      → ((y : Tree) (b : List Token) → Is (suc d) (Derives names rule.postfix) a y b → Says (Is (suc d) (Derives names rule.postfix) a) (go y b))
      → Is (suc d) (Derives names rule.postfix) a x ts
      → IsAhead ts h
      → Says (Is (suc d) (Derives names rule.postfix) a) (suffix_by d r names x ts go h)
  unfolding suffix_by
  suffix_sound next g (is_mark {p = LeftBracket}) = says_fit _ _ _ (λ k.
      says_then (sound.tree Goal.expression _ _) (λ y behind s.
      says_close RightBracket s (λ at2 end e. next _ _ (good (rule.index g.holds e) (omega arith)))))
  suffix_sound next g (is_mark {p = LeftParenthesis}) = says_fit _ _ _ (λ k.
      says_then (sound.trees Rows.arguments _ _) (λ ys behind s.
      says_close RightParenthesis s (λ at2 end e. next _ _ (good (rule.call g.holds e) (omega arith)))))
  suffix_sound {names} {a} {x = x} next g (is_mark {p = Dot} {at = at}) = says_fit _ _ _ (λ k.
      says_expect_identifier _ (λ text at2 c e h. next _ _ (good (rule.dot (subst (λ b. Derives names rule.postfix a (mark Dot at ∷ b) x) e g.holds) h) (omega arith))))
  suffix_sound {names} {a} {x = x} next g (is_mark {p = Arrow} {at = at}) = says_fit _ _ _ (λ k.
      says_expect_identifier _ (λ text at2 c e h. next _ _ (good (rule.arrow (subst (λ b. Derives names rule.postfix a (mark Arrow at ∷ b) x) e g.holds) h) (omega arith))))
  suffix_sound next g (is_mark {p = PlusPlus}) = says_fit _ _ _ (λ k. next _ _ (good (rule.post_increment g.holds) (omega arith)))
  suffix_sound next g (is_mark {p = MinusMinus}) = says_fit _ _ _ (λ k. next _ _ (good (rule.post_decrement g.holds) (omega arith)))
  suffix_sound next g _ = says_found g

  suffixes_sound : (k : ℕ) {names : Names} {a : List Token} (x : Tree) (ts : List Token)
      → Is (suc d) (Derives names rule.postfix) a x ts
      → Says (Is (suc d) (Derives names rule.postfix) a) (suffixes d r k names x ts)
  unfolding suffixes
  suffixes_sound zero x ts g = suffix_sound (λ y b s. says_deep) g (ahead_is ts)
  suffixes_sound (suc k) x ts g = suffix_sound (λ y b s. suffixes_sound k y b s) g (ahead_is ts)

  postfix_sound : (names : Names) (ts : List Token) → Says (Is (suc d) (Derives names rule.postfix) ts) (postfix_in d r names ts)
  unfolding postfix_in
  postfix_sound names ts = says_then (says_as (λ t b. rule.primary_of) (primary_sound (ahead_is ts))) (suffixes_sound d)

  as_postfix : (names : Names) (ts : List Token) → Says (Is (suc d) (Derives names rule.unary) ts) (postfix_in d r names ts)
  as_postfix names ts = says_as (λ t b. rule.plain) (postfix_sound names ts)

  size_sound : {names : Names} {at : Place} {rest : List Token} {h : Ahead} → 2 ≤ d → IsAhead rest h
      → Says (Is (suc d) (Derives names rule.unary) (word (codes "sizeof") at ∷ rest)) (size_in d r names at rest h)
  unfolding size_in
  size_sound {names} k (is_mark {p = LeftParenthesis} {rest = rest2}) = says_fit _ _ _ (λ _. says_if (begins_specifier false names rest2)
      (λ e. says_then (sound.tree Goal.type_name _ _) (λ t behind s.
      says_close RightParenthesis s (λ at2 end c. says_good (rule.size_of_type c) (omega arith))))
      (λ e. says_then (sound.tree Goal.unary _ _) (λ x end s. says_good (rule.size_of_expression s.holds) (omega arith))))
  size_sound k _ = says_then (sound.tree Goal.unary _ _) (λ x end s. says_good (rule.size_of_expression s.holds) (omega arith))

  other_operator_sound : (names : Names) (op : Punct) (at : Place) (rest : List Token)
      → Says (Is (suc d) (Derives names rule.unary) (mark op at ∷ rest)) (if is_unary_operator op then
      fit 2 d rest (and_then (r.tree_of Goal.cast names rest) (λ x end. found (text_node kind.Unary (mark_text op) at.start (one x)) end))
      else postfix_in d r names (mark op at ∷ rest))
  other_operator_sound names op at rest = says_if (is_unary_operator op)
      (λ e. says_fit _ _ _ (λ k. says_then (sound.tree Goal.cast _ _) (λ x end s. says_good (rule.operator e s.holds) (omega arith))))
      (λ e. as_postfix names (mark op at ∷ rest))

  operator_sound : (names : Names) (op : Punct) (at : Place) (rest : List Token)
      → Says (Is (suc d) (Derives names rule.unary) (mark op at ∷ rest)) (unary_by d r names (mark op at ∷ rest) (mark_ahead op at rest))
  unfolding unary_by
  operator_sound names PlusPlus at rest = says_fit _ _ _ (λ k. says_then (sound.tree Goal.unary _ _) (λ x end s. says_good (rule.increment s.holds) (omega arith)))
  operator_sound names MinusMinus at rest = says_fit _ _ _ (λ k. says_then (sound.tree Goal.unary _ _) (λ x end s. says_good (rule.decrement s.holds) (omega arith)))
  operator_sound names op at rest = other_operator_sound names op at rest

  unary_sound_by : {names : Names} {ts : List Token} {h : Ahead} → IsAhead ts h → Says (Is (suc d) (Derives names rule.unary) ts) (unary_by d r names ts h)
  unfolding unary_by
  unary_sound_by {names} (is_mark {p = p} {at = at} {rest = rest}) = operator_sound names p at rest
  unary_sound_by {names} (is_word {text = text} {rest = rest}) = says_if (bytes_eq text (codes "sizeof"))
      (λ e. says_fit _ _ _ (λ k. rw (word_is text _ e) (size_sound k (ahead_is rest))))
      (λ e. as_postfix names _)
  unary_sound_by {names} _ = as_postfix names _

  pub unary_sound : (names : Names) (ts : List Token) → Says (Is (suc d) (Derives names rule.unary) ts) (unary_in d r names ts)
  unfolding unary_in
  unary_sound names ts = unary_sound_by (ahead_is ts)

  as_uncast : (names : Names) (ts : List Token) → Says (Is (suc d) (Derives names rule.cast) ts) (unary_in d r names ts)
  as_uncast names ts = says_as (λ t b. rule.uncast) (unary_sound names ts)

  cast_sound_by : {names : Names} {ts : List Token} {h : Ahead} → IsAhead ts h → Says (Is (suc d) (Derives names rule.cast) ts) (cast_by d r names ts h)
  unfolding cast_by
  cast_sound_by {names} (is_mark {p = LeftParenthesis} {rest = rest}) = says_if (begins_specifier false names rest)
      (λ e. says_fit _ _ _ (λ k. says_then (sound.tree Goal.type_name _ _) (λ t behind s.
      says_close RightParenthesis s (λ at2 behind2 c.
      says_then (sound.tree Goal.cast _ _) (λ x end s2. says_good (rule.cast_to c s2.holds) (omega arith))))))
      (λ e. as_uncast names _)
  cast_sound_by {names} _ = as_uncast names _

  pub cast_sound : (names : Names) (ts : List Token) → Says (Is (suc d) (Derives names rule.cast) ts) (cast_in d r names ts)
  unfolding cast_in
  cast_sound names ts = cast_sound_by (ahead_is ts)

  operand_sound : (n : ℕ) {names : Names} {a ts : List Token} {x : Tree} {go : Tree → List Token → Answer Tree} {h : Ahead}
      → ((y : Tree) (b : List Token) → Is (suc d) (Derives names (rule.binary (suc n))) a y b → Says (Is (suc d) (Derives names (rule.binary (suc n))) a) (go y b))
      → Is (suc d) (Derives names (rule.binary (suc n))) a x ts
      → IsAhead ts h
      → Says (Is (suc d) (Derives names (rule.binary (suc n))) a) (operand_by d r n names x ts go h)
  unfolding operand_by
  operand_sound n next g (is_mark {p = op}) = says_if (level_of op == suc n)
      (λ e. says_fit _ _ _ (λ k. says_then (sound.tree (Goal.binary n) _ _) (λ y end s.
      next _ _ (good (rule.chain g.holds ((Decides-eqb (level_of op) (suc n)).0 e) s.holds) (omega arith)))))
      (λ e. says_found g)
  operand_sound n next g is_nothing = says_found g
  operand_sound n next g _ = says_found g

  operands_sound : (k n : ℕ) {names : Names} {a : List Token} (x : Tree) (ts : List Token)
      → Is (suc d) (Derives names (rule.binary (suc n))) a x ts
      → Says (Is (suc d) (Derives names (rule.binary (suc n))) a) (operands d r k n names x ts)
  unfolding operands
  operands_sound zero n x ts g = operand_sound n (λ y b s. says_deep) g (ahead_is ts)
  operands_sound (suc k) n x ts g = operand_sound n (λ y b s. operands_sound k n y b s) g (ahead_is ts)

  pub binary_sound : (n : ℕ) (names : Names) (ts : List Token) → Says (Is (suc d) (Derives names (rule.binary n)) ts) (binary_in d r n names ts)
  unfolding binary_in
  binary_sound zero names ts = says_as (λ t b. rule.tightest) (cast_sound names ts)
  binary_sound (suc n) names ts = says_then (says_as (λ t b. rule.tighter) (binary_sound n names ts)) (operands_sound d n)

  choice_sound : {names : Names} {a ts : List Token} {x : Tree} {h : Ahead}
      → Is (suc d) (Derives names (rule.binary 10)) a x ts
      → IsAhead ts h
      → Says (Is (suc d) (Derives names rule.conditional) a) (choice_by d r names x ts h)
  unfolding choice_by
  choice_sound g (is_mark {p = Question}) = says_fit _ _ _ (λ k. says_then (sound.tree Goal.expression _ _) (λ y behind s.
      says_close Colon s (λ at2 behind2 c.
      says_then (sound.tree Goal.conditional _ _) (λ z end s2. says_good (rule.choice g.holds c s2.holds) (omega arith)))))
  choice_sound g _ = says_found (record { holds = rule.unconditional g.holds; fits = g.fits })

  pub conditional_sound : (names : Names) (ts : List Token) → Says (Is (suc d) (Derives names rule.conditional) ts) (conditional_in d r names ts)
  unfolding conditional_in
  conditional_sound names ts = says_then (binary_sound 10 names ts) (λ x rest g. choice_sound g (ahead_is rest))

  assigned_sound : {names : Names} {a ts : List Token} {x : Tree} {h : Ahead}
      → Is (suc d) (Derives names rule.conditional) a x ts
      → IsAhead ts h
      → Says (Is (suc d) (Derives names rule.assignment) a) (assigned_by d r names x ts h)
  unfolding assigned_by
  assigned_sound {x = x} g (is_mark {p = op}) = says_if (is_assignment op && is_unary_by x.label.kind)
      (λ e. says_fit _ _ _ (λ k. says_then (sound.tree Goal.assignment _ _) (λ y end s.
      says_good (rule.assigned (as_unary g.holds (both_true e).1) (both_true e).0 s.holds) (omega arith))))
      (λ e. says_found (record { holds = rule.unassigned g.holds; fits = g.fits }))
  assigned_sound g is_nothing = says_found (record { holds = rule.unassigned g.holds; fits = g.fits })
  assigned_sound g _ = says_found (record { holds = rule.unassigned g.holds; fits = g.fits })

  pub assignment_sound : (names : Names) (ts : List Token) → Says (Is (suc d) (Derives names rule.assignment) ts) (assignment_in d r names ts)
  unfolding assignment_in
  assignment_sound names ts = says_then (conditional_sound names ts) (λ x rest g. assigned_sound g (ahead_is rest))

  comma_sound : {names : Names} {a ts : List Token} {x : Tree} {go : Tree → List Token → Answer Tree} {h : Ahead}
      → ((y : Tree) (b : List Token) → Is (suc d) (Derives names rule.expression) a y b → Says (Is (suc d) (Derives names rule.expression) a) (go y b))
      → Is (suc d) (Derives names rule.expression) a x ts
      → IsAhead ts h
      → Says (Is (suc d) (Derives names rule.expression) a) (comma_by d r names x ts go h)
  unfolding comma_by
  comma_sound next g (is_mark {p = Comma}) = says_fit _ _ _ (λ k. says_then (sound.tree Goal.assignment _ _) (λ y end s.
      next _ _ (good (rule.comma g.holds s.holds) (omega arith))))
  comma_sound next g _ = says_found g

  commas_sound : (k : ℕ) {names : Names} {a : List Token} (x : Tree) (ts : List Token)
      → Is (suc d) (Derives names rule.expression) a x ts
      → Says (Is (suc d) (Derives names rule.expression) a) (commas d r k names x ts)
  unfolding commas
  commas_sound zero x ts g = comma_sound (λ y b s. says_deep) g (ahead_is ts)
  commas_sound (suc k) x ts g = comma_sound (λ y b s. commas_sound k y b s) g (ahead_is ts)

  pub expression_sound : (names : Names) (ts : List Token) → Says (Is (suc d) (Derives names rule.expression) ts) (expression_in d r names ts)
  unfolding expression_in
  expression_sound names ts = says_then (says_as (λ t b. rule.single_expression) (assignment_sound names ts)) (commas_sound d)
