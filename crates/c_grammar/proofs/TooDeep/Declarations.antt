-- Where a declaration goes too deep, the tokens before the place are completed, where the next lower budget reads so.
use Rattle.std.proofs.Common.{true≢false, ℕ, Bool, List, [], ◌∷◌, refl}
use Rattle.c_lexer.specs.declared.token.Punct.TheVariants.{LeftBrace, RightBrace, Semicolon, Equal}
use Rattle.c_lexer.specs.declared.token.Token.{Token}
use Rattle.c_syntax.specs.Trees.{Tree, one}
use Rattle.c_grammar.specs.Vocabulary.{mark}
use Rattle.c_grammar.specs.Scopes.{Names, says_typedef, after, in_body}
use Rattle.c_grammar.specs.Derivation as rule
use Rattle.c_grammar.specs.Derivation.{Derives, Lists}
use Rattle.c_grammar.specs.Answers.{Ahead, ahead, and_then}
use Rattle.c_grammar.specs.Meanings.{IsTree}
use Rattle.c_grammar.specs.Reading.{needs_name, Reader, Goal, Rows, Mode, begins_with_mark, declared_in, initializer_by, initializer_in, initialized_by, init_declarator_in, declaration_behind, declaration_in, declaration_from, function_by, external_in}
use Rattle.c_grammar.proofs.SoundSteps.{IsAhead, is_mark, ahead_is}
use Rattle.c_grammar.proofs.SoundExpressions.{IsSound}
use Rattle.c_grammar.proofs.SoundTypes.{says_lower_tree, specs_sound}
use Rattle.c_grammar.proofs.SoundDeclarators.{declarator_of, declared_sound}
use Rattle.c_grammar.proofs.SoundStatements.{function_of}
use Rattle.c_grammar.proofs.FrontLaw.{front_of}
use Rattle.c_grammar.proofs.TooDeep.Steps.{Has, has, Cuts, cuts_found, cuts_as, cuts_token, cuts_if, cuts_fit, cuts_lower, Behind, cuts_then, cuts_final, cuts_expect}
use Rattle.c_grammar.proofs.TooDeep.Parts.{HasCuts, tree_front, cuts_tree, cuts_trees, a_mark, a_zero, zero_tree, zero_assignment}
use Rattle.c_grammar.proofs.TooDeep.Types.{specs_cuts}
use Rattle.c_grammar.proofs.TooDeep.Declarators.{declared_cuts}
use Rattle.c_grammar.proofs.TooDeep.Expressions.{cuts_part, assignment_cuts}

pub zero_initializer : {names : Names} {z : List Token} → Derives names rule.initializer (a_zero ∷ z) z zero_tree
zero_initializer = rule.initial_value zero_assignment

module _ (d : ℕ) (r : Reader) (sound : IsSound d r) (cuts : HasCuts d r) where
  -- a declarator with a name
  pub named_cuts : (names : Names) (ts : List Token) → Cuts (Has (IsTree (Goal.declared Mode.named) names)) ts (declared_in d r Mode.named names ts)
  unfolding needs_name
  named_cuts names ts = declared_cuts d r sound cuts Mode.named names ts (λ e. absurd (true≢false e))

  -- ---- initialized declarators

  initializer_cuts_by : (names : Names) {ts : List Token} {h : Ahead} → IsAhead ts h → Cuts (Has (Derives names rule.initializer)) ts (initializer_by d r names ts h)
  unfolding initializer_by
  initializer_cuts_by names (is_mark {p = LeftBrace} {rest = rest}) = cuts_fit _ _ (a_zero ∷ a_mark RightBrace ∷ []) (λ z _. has _ (rule.braces (rule.last_initializer zero_initializer))) (λ k.
      cuts_token (cuts_trees d r sound cuts Rows.initializers refl names rest (a_mark RightBrace ∷ []) (λ z _. refl) (λ z _ a t g. has _ (rule.braces g)) (λ xs behind.
      cuts_expect RightBrace behind (λ at c. cuts_found))))
  initializer_cuts_by names _ = cuts_part {S = Derives names rule.assignment} {S2 = Derives names rule.initializer} (λ a z t. rule.initial_value) (assignment_cuts d r sound cuts names _)

  pub initializer_cuts : (names : Names) (ts : List Token) → Cuts (Has (Derives names rule.initializer)) ts (initializer_in d r names ts)
  unfolding initializer_in
  initializer_cuts names ts = initializer_cuts_by names (ahead_is ts)

  -- behind the declarator x
  initialized_cuts : (is_typedef : Bool) {names : Names} (x : Tree) {ts : List Token} {h : Ahead} → IsAhead ts h
      → Cuts (Behind (IsTree (Goal.declared Mode.named) names) x (Has (Derives names (rule.init_declarator is_typedef)))) ts (initialized_by d r is_typedef names x ts h)
  unfolding initialized_by
  initialized_cuts is_typedef x (is_mark {p = Equal} {rest = rest}) = cuts_token (cuts_tree d r sound cuts Goal.initializer refl _ rest [] (λ z h. h)
      (λ z _ b y h a g. has _ (rule.initialized (declarator_of g) h))
      (λ y end. cuts_found))
  initialized_cuts is_typedef x _ = cuts_found

  pub init_declarator_cuts : (is_typedef : Bool) (names : Names) (ts : List Token)
      → Cuts (Has (Derives names (rule.init_declarator is_typedef))) ts (init_declarator_in d r is_typedef names ts)
  unfolding init_declarator_in
  init_declarator_cuts is_typedef names ts = cuts_then {S = IsTree (Goal.declared Mode.named) names}
      (cuts_lower d (λ _. named_cuts names ts) (cuts.tree (Goal.declared Mode.named) refl names ts))
      (says_lower_tree d (declared_sound d r sound Mode.named names ts) (sound.tree (Goal.declared Mode.named) names ts))
      (λ t b g. tree_front (Goal.declared Mode.named) refl names ts b t g.holds)
      [] (λ z h. h) (λ z _ a t g. has _ (rule.uninitialized (declarator_of g)))
      (λ x rest g. initialized_cuts is_typedef x (ahead_is rest))

  -- ---- declarations

  declaration_behind_cuts : {names : Names} (s : Tree) (ts : List Token)
      → Cuts (Behind (Derives names rule.specifiers) s (Has (Derives names rule.declaration))) ts (declaration_behind d r names s ts)
  unfolding declaration_behind
  declaration_behind_cuts {names} s ts = cuts_if (begins_with_mark Semicolon ts)
      (λ e. cuts_found)
      (λ _. cuts_trees d r sound cuts (Rows.init_declarators (says_typedef (one s))) refl (after names s) ts (a_mark Semicolon ∷ []) (λ z _. refl)
      (λ z _ b xs h a g. has _ (rule.full_declaration g h))
      (λ xs behind. cuts_expect Semicolon behind (λ at c. cuts_found)))

  pub declaration_cuts : (names : Names) (ts : List Token) → Cuts (Has (Derives names rule.declaration)) ts (declaration_in d r names ts)
  unfolding declaration_in
  declaration_cuts names ts = cuts_then {S = Derives names rule.specifiers}
      (specs_cuts d r sound cuts names ts)
      (specs_sound d r sound names ts)
      (λ t b g. front_of g.holds)
      (a_mark Semicolon ∷ []) (λ z _. refl) (λ z _ a t g. has _ (rule.bare_declaration g))
      (λ s b g. declaration_behind_cuts s b)

  -- ---- external declarations

  -- behind the specs s and the declarator x
  abbrev External : Names → Tree → Tree → List Token → List Token → Type 0
  External names s x = Behind (Derives (after names s) rule.declarator) x (Behind (Derives names rule.specifiers) s (Has (Derives names rule.external)))

  declaration_from_cuts : {names : Names} (s x : Tree) (ts : List Token) → Cuts (External names s x) ts (declaration_from d r names s x ts)
  unfolding declaration_from
  declaration_from_cuts {names} s x ts = cuts_final
      (cuts_as (λ c z q b h a g. has _ (rule.declared (rule.full_declaration g (q b h).1.holds))) (cuts.behind (says_typedef (one s)) x (after names s) ts))
      (λ xs behind. cuts_expect Semicolon behind (λ at c. cuts_found))

  function_cuts : {names : Names} (s x : Tree) {ts : List Token} {h : Ahead} → IsAhead ts h → Cuts (External names s x) ts (function_by d r names s x ts h)
  unfolding function_by
  function_cuts {names} s x (is_mark {p = LeftBrace} {at = at} {rest = rest}) = cuts_tree d r sound cuts Goal.body refl (in_body names s x) (mark LeftBrace at ∷ rest) [] (λ z h. h)
      (λ z _ c t i b h a g. has _ (function_of g h i))
      (λ b end. cuts_found)
  function_cuts s x _ = declaration_from_cuts s x _

  external_behind_cuts : {names : Names} (s : Tree) (rest : List Token)
      → Cuts (Behind (Derives names rule.specifiers) s (Has (Derives names rule.external))) rest
      (and_then (r.tree_of (Goal.declared Mode.named) (after names s) rest) (λ x behind. function_by d r names s x behind (ahead behind)))
  external_behind_cuts {names} s rest = cuts_tree d r sound cuts (Goal.declared Mode.named) refl (after names s) rest (a_mark Semicolon ∷ []) (λ z _. refl)
      (λ z _ b x h a g. has _ (rule.declared (rule.full_declaration g (rule.last_init_declarator (rule.uninitialized (declarator_of h))))))
      (λ x behind. cuts_as (λ c z q b h a g. q b (declarator_of h) a g) (function_cuts s x (ahead_is behind)))

  pub external_cuts : (names : Names) (ts : List Token) → Cuts (Has (Derives names rule.external)) ts (external_in d r names ts)
  unfolding external_in
  external_cuts names ts = cuts_then {S = Derives names rule.specifiers}
      (specs_cuts d r sound cuts names ts)
      (specs_sound d r sound names ts)
      (λ t b g. front_of g.holds)
      (a_mark Semicolon ∷ []) (λ z _. refl) (λ z _ a t g. has _ (rule.declared (rule.bare_declaration g)))
      (λ s rest g. cuts_if (begins_with_mark Semicolon rest)
      (λ e. cuts_found)
      (λ e. external_behind_cuts s rest))
