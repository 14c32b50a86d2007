-- What the cases of declarations and statements have in common: readings by the budget below, nodes without a token of their
-- own, expressions that end, and lengths.
use Rattle.std.proofs.Common.{◌≡◌, ℕ, zero, suc, ◌≤◌, Bool, true, false, List, [], ◌∷◌, refl, sym, ap, arith, true≢false}
use Rattle.std.specs.Prelude.{max, not, ◌||◌, ◌&&◌, if◌then◌else◌}
use Rattle.c_lexer.specs.declared.token.Punct.TheVariants.{RightParenthesis, RightBracket, RightBrace, Question, Colon, Semicolon, Comma}
use Rattle.c_lexer.specs.declared.token.Token.{Token}
use Rattle.c_lexer.specs.declared.token.TokenKind.{TokenKind}
use Rattle.c_lexer.specs.declared.token.TokenKind.TheVariants as token
use Rattle.c_syntax.specs.Trees.{Tree, Forest, height}
use Rattle.c_grammar.specs.Vocabulary.{Place}
use Rattle.c_grammar.specs.Scopes.{Names}
use Rattle.c_grammar.specs.Derivation.{Part}
use Rattle.c_grammar.specs.Answers.{Answer, found, and_then, fit, Ahead, mark_ahead, ahead, ahead_by}
use Rattle.c_grammar.specs.Reading.{Goal, Rows, Reader, level, read, goal_in, rows_in, lower, begins_with_mark, begins_with_mark_by, expression_in, commas, comma_by, below}
use Rattle.c_grammar.proofs.Budgets.{Leads, Finds, leads_then, leads_height, leads_from, leads_up, then_deep, chain_ends, node_leads}
use Rattle.c_grammar.proofs.Found.Claims.{Complete, Is, no_string_by, no_suffix_by, no_operator_by, no_assignment_by, ends_assignment, ends_expression}

-- ---- what reads at a level

pub read_tree : (e : ℕ) (goal : Goal) (names : Names) (ts : List Token) → (read e).tree_of goal names ts ≡ goal_in e (below e) goal names ts
unfolding read level
read_tree zero goal names ts = refl
read_tree (suc e) goal names ts = refl

pub read_trees : (e : ℕ) (row : Rows) (names : Names) (ts : List Token) → (read e).trees_of row names ts ≡ rows_in e (below e) row names ts
unfolding read level
read_trees zero row names ts = refl
read_trees (suc e) row names ts = refl

pub tree_finds : (goal : Goal) (names : Names) (ts : List Token) {e h : ℕ} {b : List Token} {t : Tree}
    → Finds (goal_in e (below e) goal names ts) e h t b
    → Finds ((read e).tree_of goal names ts) e h t b
tree_finds goal names ts {e} f = leads_from _ _ e _ _ (read_tree e goal names ts) f

pub trees_find : (row : Rows) (names : Names) (ts : List Token) {e h : ℕ} {b : List Token} {t : Forest}
    → Finds (rows_in e (below e) row names ts) e h t b
    → Finds ((read e).trees_of row names ts) e h t b
trees_find row names ts {e} f = leads_from _ _ e _ _ (read_trees e row names ts) f

-- ---- a node without a token of its own: its first part is read within the next lower budget

module _ (goal : Goal) (names : Names) (ts : List Token) {c : List Token} {h : ℕ} {t : Tree} (own : (e : ℕ) → Finds (goal_in e (below e) goal names ts) e h t c) (some : 1 ≤ h) where
  pub lower_finds : (d : ℕ) → Finds (lower d (goal_in d (below d) goal names ts) ((below d).tree_of goal names ts)) d (suc h) t c
  unfolding lower
  lower_finds zero = record { low = λ le. absurd (omega (arith, le)); high = λ lt. (own zero).high some }
  lower_finds (suc e) = leads_up _ e h _ (tree_finds goal names ts (own e))

  -- it and then the other parts
  pub node_then : {T : Type 0} {k : ℕ} {next : Answer T} (go : Reader → Tree → List Token → Answer T)
      → ((e : ℕ) → Leads (go (read e) t c) e k next)
      → (d : ℕ) → Leads (and_then (lower d (goal_in d (below d) goal names ts) ((below d).tree_of goal names ts)) (go (below d))) d (suc (max h k)) next
  unfolding lower
  node_then go rest zero = record { low = λ le. absurd (omega (arith, le)); high = λ lt. then_deep _ _ ((own zero).high some) }
  node_then {k = k} go rest (suc e) = leads_up _ e (max h k) _ (leads_then _ _ e h k t c _ (tree_finds goal names ts (own e)) (rest e))

-- ---- an expression that ends

module _ (d : ℕ) (r : Reader) (names : Names) (x : Tree) (ts : List Token) where
  no_comma_by : (go : Tree → List Token → Answer Tree) (a : Ahead) → begins_with_mark_by Comma a ≡ false → comma_by d r names x ts go a ≡ found x ts
  unfolding comma_by
  no_comma_by go (mark_ahead Comma at rest) e = absurd (true≢false e)
  no_comma_by go other e = refl

  no_comma : begins_with_mark Comma ts ≡ false → (k : ℕ) → commas d r k names x ts ≡ found x ts
  unfolding commas
  no_comma e zero = no_comma_by _ (ahead ts) e
  no_comma e (suc k) = no_comma_by _ (ahead ts) e

pub both_left : (p q : Bool) → p && q ≡ true → p ≡ true
both_left true q e = refl
both_left false q e = e

pub both_right : (p q : Bool) → p && q ≡ true → q ≡ true
both_right true q e = e
both_right false q e = absurd (true≢false (sym e))

pub is_false : (p : Bool) → not p ≡ true → p ≡ false
is_false true e = sym e
is_false false e = refl

pub expression_finds : (names : Names) (a b : List Token) (x : Tree) → Complete names Part.expression a b x → Is (ends_expression b)
    → (d : ℕ) → Finds (expression_in d (below d) names a) d (height x) x b
expression_finds names a b x c ends d =
    chain_ends d _ _ (height x) x b (c (both_left (ends_assignment b) _ ends) d)
    (no_comma d (below d) names x b (is_false (begins_with_mark Comma b) (both_right (ends_assignment b) _ ends)))

-- what stands behind an expression: `;` or `)`
pub ends_at_mark : (b : List Token) → begins_with_mark Semicolon b || begins_with_mark RightParenthesis b ≡ true → Is (ends_expression b)
unfolding ahead ahead_by
ends_at_mark [] e = absurd (true≢false (sym e))
ends_at_mark (t ∷ rest) e = by t.kind e
  where
    at : Place
    at = record { start = t.start; end = t.end }

    test : TokenKind → Bool
    test k = begins_with_mark_by Semicolon (ahead_by k at rest) || begins_with_mark_by RightParenthesis (ahead_by k at rest)

    by : (k : TokenKind) → test k ≡ true → Is (ends_expression (record { kind = k; start = t.start; end = t.end } ∷ rest))
    by (token.Punct Semicolon) e = refl
    by (token.Punct RightParenthesis) e = refl
    by other e = absurd (true≢false (sym e))

-- ---- what closes a part

abbrev pub closes_by : Ahead → Bool
closes_by a = begins_with_mark_by Comma a || (begins_with_mark_by RightParenthesis a || (begins_with_mark_by RightBracket a || (begins_with_mark_by RightBrace a || (begins_with_mark_by Semicolon a || begins_with_mark_by Colon a))))

abbrev pub ends_assignment_by : Ahead → Bool
ends_assignment_by a = (((no_string_by a && no_suffix_by a) && no_operator_by 10 a) && not (begins_with_mark_by Question a)) && no_assignment_by a

pub closes_assignment : (a : Ahead) → closes_by a ≡ true → ends_assignment_by a ≡ true
closes_assignment (mark_ahead Comma at rest) e = refl
closes_assignment (mark_ahead RightParenthesis at rest) e = refl
closes_assignment (mark_ahead RightBracket at rest) e = refl
closes_assignment (mark_ahead RightBrace at rest) e = refl
closes_assignment (mark_ahead Semicolon at rest) e = refl
closes_assignment (mark_ahead Colon at rest) e = refl
closes_assignment other e = absurd (true≢false (sym e))

-- the end of a row is no comma
pub ends_row : (a : Ahead) → begins_with_mark_by Semicolon a || (begins_with_mark_by RightBrace a || begins_with_mark_by RightParenthesis a) ≡ true
    → (closes_by a ≡ true) × (begins_with_mark_by Comma a ≡ false)
ends_row (mark_ahead Semicolon at rest) e = (refl, refl)
ends_row (mark_ahead RightBrace at rest) e = (refl, refl)
ends_row (mark_ahead RightParenthesis at rest) e = (refl, refl)
ends_row other e = absurd (true≢false (sym e))

-- ---- tests that turn out

pub leads_true : {T : Type 0} (p : Bool) (x y : Answer T) (d h : ℕ) (next : Answer T) → p ≡ true → Leads x d h next → Leads (if p then x else y) d h next
leads_true p x y d h next e r = leads_from _ x d h next (ap (λ b. if b then x else y) e) r

pub leads_false : {T : Type 0} (p : Bool) (x y : Answer T) (d h : ℕ) (next : Answer T) → p ≡ false → Leads y d h next → Leads (if p then x else y) d h next
leads_false p x y d h next e r = leads_from _ y d h next (ap (λ b. if b then x else y) e) r

pub token_node : {T : Type 0} (needed h k : ℕ) (rest : List Token) (parts : Reader → Answer T) (next : Answer T) → 1 ≤ needed → needed ≤ suc h → suc h ≡ k
    → ((e : ℕ) → Leads (parts (read e)) e h next) → (d : ℕ) → Leads (fit needed d rest (parts (below d))) d k next
token_node needed h k rest parts next some least same kids d = leads_height _ d (suc h) k next same (node_leads needed h rest parts next some least kids d)
