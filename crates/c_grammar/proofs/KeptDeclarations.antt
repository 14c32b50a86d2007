-- The readings of declarations keep their answers, where those within the next lower budget do.
use Rattle.std.proofs.Common.{◌≡◌, ℕ, ◌<◌, ◌≤◌, ◌⊎◌, inl, inr, Bool, false, List, [], ◌∷◌, refl, arith, true≢false}
use Rattle.c_lexer.specs.declared.token.Punct.TheVariants.{LeftBrace, RightBrace, Semicolon, Equal, Comma}
use Rattle.c_lexer.specs.declared.token.Token.{Token}
use Rattle.c_syntax.specs.declared.kind.SynKind.TheVariants as kind
use Rattle.c_syntax.specs.Trees.{Tree, one, three, plain_node}
use Rattle.c_grammar.specs.Scopes.{Names, says_typedef, after, in_body}
use Rattle.c_grammar.specs.Derivation.{start}
use Rattle.c_grammar.specs.Answers.{found, and_then, fit, Ahead, ahead, ahead_by}
use Rattle.c_grammar.specs.Reading.{Reader, Goal, Rows, Mode, needs_name, initializer_by, initializer_in, initialized_by, init_declarator_in, init_behind_by, init_behind_in, declaration_behind, declaration_in, declaration_from, function_by, external_in}
use Rattle.c_grammar.proofs.Budgets.{order, beyond, within}
use Rattle.c_grammar.proofs.SoundSteps.{IsAhead, is_nothing, is_mark, ahead_is, mark_split}
use Rattle.c_grammar.proofs.SoundExpressions.{IsSound}
use Rattle.c_grammar.proofs.KeptSteps.{Keeps, keeps_deep, keeps_less, keeps_then, keeps_lower, keeps_fit, keeps_here, keeps_token, keeps_end, keeps_no_token, keeps_at_end, Behind, all_found, all_wrong, inside, keeps_at, keeps_behind}
use Rattle.c_grammar.proofs.KeptFirst.{keeps_if_mark, keeps_expect}
use Rattle.c_grammar.proofs.KeptExpressions.{IsKept, least_of, assignment_kept}
use Rattle.c_grammar.proofs.KeptTypes.{specs_kept}
use Rattle.c_grammar.proofs.KeptDeclarators.{declared_kept}

-- it finds what needs none of its tokens, where the budget lets it
behind_fit : {T : Type 0} (needed d : ℕ) (x : T) (t : Token) (rest : List Token) → Behind t (λ c. fit needed d c (found x (t ∷ c))) rest
behind_fit needed d x t rest = by (order needed d)
  where
    by : (needed ≤ d) ⊎ (d < needed) → Behind t (λ c. fit needed d c (found x (t ∷ c))) rest
    by (inl le) = all_found x (λ c. within needed d c (found x (t ∷ c)) le)
    by (inr lt) = inside (keeps_deep [] rest refl (λ z. absurd (omega (arith, z))) (λ c. beyond needed d c (found x (t ∷ c)) lt))

pub named_ready : (d : ℕ) → needs_name Mode.named ≡ false → 1 ≤ d
unfolding needs_name
named_ready d e = absurd (true≢false e)

named_least : (d : ℕ) → least_of (Goal.declared Mode.named) ≤ d
unfolding needs_name
named_least d = omega arith

module _ (d : ℕ) (r : Reader) (sound : IsSound d r) (kept : IsKept d r) where
  initializer_kept_by : (names : Names) {ts : List Token} {h : Ahead} → IsAhead ts h → Keeps 1 (λ c. initializer_by d r names c (ahead c)) ts
  unfolding initializer_by ahead ahead_by
  initializer_kept_by names is_nothing = keeps_end (assignment_kept d r kept names []) refl
  initializer_kept_by names (is_mark {p = LeftBrace}) = keeps_at (inside (keeps_fit _ _ (λ le. keeps_less (
      keeps_then (kept.trees Rows.initializers _ _) (λ xs behind _.
      keeps_expect RightBrace behind (λ end. keeps_here))))))
  initializer_kept_by names _ = keeps_token (assignment_kept d r kept names _) (λ c. refl)

  pub initializer_kept : (names : Names) (ts : List Token) → Keeps 1 (initializer_in d r names) ts
  unfolding initializer_in
  initializer_kept names ts = initializer_kept_by names (ahead_is ts)

  initialized_kept : (is_typedef : Bool) (names : Names) (x : Tree) {ts : List Token} {h : Ahead} → IsAhead ts h
      → Keeps 1 (λ c. initialized_by d r is_typedef names x c (ahead c)) ts
  unfolding initialized_by ahead ahead_by
  initialized_kept is_typedef names x is_nothing = keeps_at_end _ refl
  initialized_kept is_typedef names x (is_mark {p = Equal}) = keeps_at (inside (keeps_less (
      keeps_then (kept.tree Goal.initializer _ _ (omega arith)) (λ y end _. keeps_here))))
  initialized_kept is_typedef names x _ = keeps_at (all_found _ (λ c. refl))

  pub init_declarator_kept : (is_typedef : Bool) (names : Names) (ts : List Token) → Keeps 1 (init_declarator_in d r is_typedef names) ts
  unfolding init_declarator_in
  init_declarator_kept is_typedef names ts = keeps_then
      (keeps_lower d (λ _. declared_kept d r sound kept Mode.named (named_ready d) names ts) (λ _. kept.tree (Goal.declared Mode.named) names ts (named_least d)))
      (λ x rest _. initialized_kept is_typedef names x (ahead_is rest))

  init_behind_kept_by : (is_typedef : Bool) (names : Names) (x : Tree) {ts : List Token} {h : Ahead} → IsAhead ts h
      → Keeps 1 (λ c. init_behind_by d r is_typedef names x c (ahead c)) ts
  unfolding init_behind_by ahead ahead_by
  init_behind_kept_by is_typedef names x is_nothing = keeps_no_token refl
  init_behind_kept_by is_typedef names x (is_mark {p = Equal}) = keeps_at (inside (keeps_fit _ _ (λ le. keeps_less (
      keeps_then (kept.tree Goal.initializer _ _ (omega arith)) (λ y end _. keeps_here)))))
  init_behind_kept_by is_typedef names x (is_mark {p = Comma}) = keeps_at (behind_fit _ _ _ _ _)
  init_behind_kept_by is_typedef names x (is_mark {p = Semicolon}) = keeps_at (behind_fit _ _ _ _ _)
  init_behind_kept_by is_typedef names x _ = keeps_at (all_wrong (λ c. refl))

  pub init_behind_kept : (is_typedef : Bool) (x : Tree) (names : Names) (ts : List Token) → Keeps 1 (init_behind_in d r is_typedef x names) ts
  unfolding init_behind_in
  init_behind_kept is_typedef x names ts = init_behind_kept_by is_typedef names x (ahead_is ts)

  declaration_behind_kept : (names : Names) (s : Tree) (ts : List Token) → Keeps 1 (declaration_behind d r names s) ts
  unfolding declaration_behind
  declaration_behind_kept names s ts = keeps_if_mark Semicolon ts
      (λ e. keeps_behind {G = λ c. found (plain_node kind.Declaration (start s) (one s)) c} (mark_split Semicolon ts e).1 keeps_here)
      (λ _. keeps_then (kept.trees (Rows.init_declarators (says_typedef (one s))) (after names s) ts) (λ xs behind _.
      keeps_expect Semicolon behind (λ end. keeps_here)))

  pub declaration_kept : (names : Names) (ts : List Token) → Keeps 1 (declaration_in d r names) ts
  unfolding declaration_in
  declaration_kept names ts = keeps_then (specs_kept d r sound kept names ts) (λ s b _. declaration_behind_kept names s b)

  declaration_from_kept : (names : Names) (s x : Tree) (ts : List Token) → Keeps 1 (declaration_from d r names s x) ts
  unfolding declaration_from
  declaration_from_kept names s x ts = keeps_then (kept.trees (Rows.init_declarators_behind (says_typedef (one s)) x) (after names s) ts) (λ xs behind _.
      keeps_expect Semicolon behind (λ end. keeps_here))

  function_body_kept : (names : Names) (s x : Tree) (ts : List Token)
      → Keeps 1 (λ c. and_then (r.tree_of Goal.body (in_body names s x) c) (λ b end. found (plain_node kind.Function (start s) (three s x b)) end)) ts
  function_body_kept names s x ts = keeps_then (kept.tree Goal.body (in_body names s x) ts (omega arith)) (λ b end _. keeps_here)

  function_kept : (names : Names) (s x : Tree) {ts : List Token} {h : Ahead} → IsAhead ts h → Keeps 1 (λ c. function_by d r names s x c (ahead c)) ts
  unfolding function_by ahead ahead_by
  function_kept names s x is_nothing = keeps_end (declaration_from_kept names s x []) refl
  function_kept names s x (is_mark {p = LeftBrace}) = keeps_token (function_body_kept names s x _) (λ c. refl)
  function_kept names s x _ = keeps_token (declaration_from_kept names s x _) (λ c. refl)

  pub external_kept : (names : Names) (ts : List Token) → Keeps 1 (external_in d r names) ts
  unfolding external_in
  external_kept names ts = keeps_then (specs_kept d r sound kept names ts) (λ s rest _. keeps_if_mark Semicolon rest
      (λ e. keeps_behind {G = λ c. found (plain_node kind.Declaration (start s) (one s)) c} (mark_split Semicolon rest e).1 keeps_here)
      (λ _. keeps_then (kept.tree (Goal.declared Mode.named) (after names s) rest (named_least d)) (λ x behind _. function_kept names s x (ahead_is behind))))
