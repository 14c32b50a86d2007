-- What statements without statements in them read, as far as each call has come.
use Rattle.std.proofs.Common.{◌≡◌, ◌≢◌, ℕ, true, false, List, codes, refl, sym, ap, ◌∙◌, true≢false}
use Rattle.c_lexer.specs.declared.token.Token.{Token}
use Rattle.c_lexer.specs.declared.token.Punct.{Punct}
use Rattle.c_lexer.specs.declared.token.Punct.TheVariants.{LeftParenthesis, RightParenthesis, Semicolon}
use Rattle.c_syntax.specs.declared.kind.SynKind.{SynKind}
use Rattle.c_syntax.specs.declared.kind.SynKind.TheVariants as kind
use Rattle.c_syntax.specs.Trees.{Tree, none, one, plain_node}
use Rattle.c_grammar.specs.Scopes.{Names}
use Rattle.c_grammar.specs.Derivation.{ends_open}
use Rattle.c_grammar.specs.Answers.{Answer, found, and_then, expect}
use Rattle.c_grammar.specs.Reading.{Reader, Goal, below, level, goal_in, lower, expression_in, optional_expression_in, expression_statement_in, in_parentheses_then, return_in, begins_with_mark, begins_with_word, behind_one}
use Rattle.c_parts.specs.Nodes.{declares_nothing}
use Rattle.c_parts.proofs.Levels.{next_tree}
use Rattle.c_parts.specs.Pushed.{IsBelow}
use Rattle.c_parser.specs.declared.parser.Parser.{Parser}
use Rattle.c_parser.specs.Gives.{Passes}
use Rattle.c_parser.specs.Steps.{place, condition_of, do_condition_of, optional_before, return_of, jump_of, is_jump}
use Rattle.c_parser.proofs.Stopping.{chosen, not_chosen, passed, passed_word}
use Rattle.c_parser.proofs.Spans.{entered_at}

-- ---- conditions

abbrev pub condition_go : ℕ → Names → List Token → Answer Tree
condition_go d names rest = and_then (expression_in d (below d) names rest) (λ x behind. expect RightParenthesis behind (λ end. found x end))

pub condition_open : (d : ℕ) (names : Names) (ts : List Token) → condition_of (level d (below d)) names ts ≡ expect LeftParenthesis ts (condition_go d names)
unfolding in_parentheses_then level goal_in
condition_open d names ts = refl

pub condition_inside : (d : ℕ) (p a : Parser) → Passes (begins_with_mark LeftParenthesis p.rest.now) p a
    → condition_of (level d (below d)) p.names p.rest.now ≡ condition_go d a.names a.rest.now
condition_inside d p a pass = condition_open d p.names p.rest.now ∙ passed LeftParenthesis p a (condition_go d p.names) pass
    ∙ ap (λ (n : Names). condition_go d n a.rest.now) (sym pass.kept.names_are)

abbrev pub do_go : Reader → Names → List Token → Answer Tree
do_go r names behind = and_then (condition_of r names behind) (λ x behind2. expect Semicolon behind2 (λ end. found x end))

pub do_inside : (r : Reader) (p a : Parser) → Passes (begins_with_word (codes "while") p.rest.now) p a → do_condition_of r p.names p.rest.now ≡ do_go r a.names a.rest.now
do_inside r p a pass = passed_word (codes "while") p a (do_go r p.names) pass ∙ ap (λ (n : Names). do_go r n a.rest.now) (sym pass.kept.names_are)

-- ---- an expression or nothing, and a mark

pub before_inside : (d : ℕ) (mark : Punct) (names : Names) (ts : List Token)
    → optional_before (level d (below d)) mark names ts ≡ and_then (optional_expression_in d (below d) names ts) (λ x behind. expect mark behind (λ end. found x end))
unfolding level goal_in
before_inside d mark names ts = refl

-- ---- `return`

module _ (d : ℕ) (r : Reader) (names : Names) (start : ℕ) (ts : List Token) where
  pub return_empty : begins_with_mark Semicolon ts ≡ true → return_in d r names (place start) ts ≡ found (plain_node kind.Return start none) (behind_one ts)
  unfolding return_in
  return_empty e = chosen _ _ _ e

  pub return_value : begins_with_mark Semicolon ts ≡ false
      → return_in d r names (place start) ts ≡ and_then (r.tree_of Goal.expression names ts) (λ x behind. expect Semicolon behind (λ end. found (plain_node kind.Return start (one x)) end))
  unfolding return_in
  return_value e = not_chosen _ _ _ e

pub return_inside : (d lower : ℕ) → IsBelow 0 d lower → (r : Reader) (names : Names) (start : ℕ) (ts mid : List Token) → mid ≡ behind_one ts
    → return_of d r start names ts ≡ return_in d r names (place start) mid
return_inside d lower below_is r names start ts mid e = entered_at 0 d lower below_is (return_in d r names (place start)) ts mid e

-- ---- jumps

abbrev pub jump_go : SynKind → ℕ → List Token → Answer Tree
jump_go kind start ts = expect Semicolon ts (λ end. found (plain_node kind start none) end)

pub jump_inside : (d lower : ℕ) → IsBelow 0 d lower → (kind : SynKind) (names : Names) (start : ℕ) (ts mid : List Token) → mid ≡ behind_one ts
    → jump_of d kind start names ts ≡ jump_go kind start mid
jump_inside d lower below_is kind names start ts mid e = entered_at 0 d lower below_is (jump_go kind start) ts mid e

pub jump_quiet : (k : SynKind) → is_jump k ≡ true → declares_nothing k ≡ true
jump_quiet kind.Break e = refl
jump_quiet kind.Continue e = refl
jump_quiet other e = absurd (true≢false (sym e))

pub jump_closed : (k : SynKind) (start : ℕ) → is_jump k ≡ true → false ≡ ends_open (plain_node k start none)
jump_closed kind.Break start e = refl
jump_closed kind.Continue start e = refl
jump_closed other start e = absurd (true≢false (sym e))

-- ---- expressions

abbrev pub statement_go : Tree → List Token → Answer Tree
statement_go x behind = expect Semicolon behind (λ end. found (plain_node kind.ExprStmt x.label.start (one x)) end)

pub statement_inside : (d next : ℕ) → (d ≡ 0 → next ≡ 0) → (d ≢ 0 → below d ≡ level next (below next)) → (names : Names) (ts : List Token)
    → expression_statement_in d (below d) names ts ≡ and_then (expression_in next (below next) names ts) statement_go
unfolding expression_statement_in goal_in
statement_inside d next at_none more names ts = ap (λ (x : Answer Tree). and_then x statement_go) (next_tree d next at_none more Goal.expression names ts)
