-- What is read behind a declarator: its front and its places; and a reader that reads nothing.
use Rattle.std.proofs.Common.{ℕ, suc, Bool, List, [], ◌∷◌, refl, length}
use Rattle.c_lexer.specs.declared.token.Punct.TheVariants.{Semicolon, Equal, Comma}
use Rattle.c_lexer.specs.declared.token.Token.{Token}
use Rattle.c_syntax.specs.Trees.{Tree, one}
use Rattle.c_grammar.specs.Scopes.{Names, add, entries_behind, after_declarator}
use Rattle.c_grammar.specs.Derivation as rule
use Rattle.c_grammar.specs.Derivation.{Lists}
use Rattle.c_grammar.specs.Fronts.{IsFront}
use Rattle.c_grammar.specs.Answers.{Ahead}
use Rattle.c_grammar.specs.Reading.{Reader, Goal, no_reader, begins_with_mark, behind_one, init_behind_by, init_behind_in, init_declarator_in, listed, declarators_behind}
use Rattle.c_grammar.specs.Meanings.{IsTree}
use Rattle.c_grammar.proofs.FrontSteps.{front_here, front_map, front_token}
use Rattle.c_grammar.proofs.FrontLaw.{front_of}
use Rattle.c_grammar.proofs.SoundSteps.{Says, says_found, says_wrong, says_then, says_fit, IsAhead, is_mark, ahead_is}
use Rattle.c_grammar.proofs.SoundExpressions.{IsSound}
use Rattle.c_grammar.proofs.TooDeep.Steps.{Has, has, Cuts, cuts_found, cuts_wrong, cuts_if, cuts_fit, cuts_token, cuts_next, cuts_last, cuts_behind_mark}
use Rattle.c_grammar.proofs.TooDeep.Parts.{EndsBehind, HasCuts, cuts_tree, nowhere, a_mark, a_name, a_zero, zero_assignment, name_declarator}

module _ (d : ℕ) (r : Reader) (sound : IsSound d r) (is_typedef : Bool) (x : Tree) where
  -- what is read behind the declarator moves as a part does
  abbrev Moves : Names → List Token → Tree → List Token → Type 0
  Moves names ts t b = IsFront (λ y z. IsTree (Goal.init_behind is_typedef x) names y z t) ts b

  behind_front : {names : Names} {ts : List Token} {h : Ahead} → IsAhead ts h → Says (Moves names ts) (init_behind_by d r is_typedef names x ts h)
  unfolding init_behind_by
  behind_front {names} (is_mark {p = Equal} {rest = rest}) = says_fit _ _ _ (λ k. says_then (sound.tree Goal.initializer (after_declarator names is_typedef x) rest) (λ i end s.
      says_found (front_token (front_map (front_of s.holds) (λ y z h a g. rule.initialized g h)))))
  behind_front (is_mark {p = Comma}) = says_fit _ _ _ (λ k. says_found (front_here (λ c e a g. rule.uninitialized g)))
  behind_front (is_mark {p = Semicolon}) = says_fit _ _ _ (λ k. says_found (front_here (λ c e a g. rule.uninitialized g)))
  behind_front _ = says_wrong

  pub init_behind_front : (names : Names) (ts : List Token) → Says (Moves names ts) (init_behind_in d r is_typedef x names ts)
  unfolding init_behind_in
  init_behind_front names ts = behind_front (ahead_is ts)

  -- ---- and its places

  init_behind_cuts_by : (cuts : HasCuts d r) {names : Names} {ts : List Token} {h : Ahead} → IsAhead ts h → Cuts (EndsBehind is_typedef x names) ts (init_behind_by d r is_typedef names x ts h)
  unfolding init_behind_by
  init_behind_cuts_by cuts {names} (is_mark {p = Equal} {rest = rest}) = cuts_fit _ _ (a_zero ∷ a_mark Semicolon ∷ [])
      (λ z _ a g. (nowhere, has _ (rule.last_init_declarator (rule.initialized g (rule.initial_value zero_assignment))))) (λ k.
      cuts_token (cuts_tree d r sound cuts Goal.initializer refl (after_declarator names is_typedef x) rest (a_mark Semicolon ∷ []) (λ z _. refl)
      (λ z _ b i h a g. (nowhere, has _ (rule.last_init_declarator (rule.initialized g h)))) (λ i end. cuts_found)))
  init_behind_cuts_by cuts (is_mark {p = Comma}) = cuts_fit _ _ (a_name ∷ a_mark Semicolon ∷ [])
      (λ z _ a g. (nowhere, has _ (rule.more_init_declarators (rule.uninitialized g) (rule.last_init_declarator (rule.uninitialized name_declarator))))) (λ k. cuts_found)
  init_behind_cuts_by cuts (is_mark {p = Semicolon} {at = at}) = cuts_fit _ _ []
      (λ z _ a g. (at, has _ (rule.last_init_declarator (rule.uninitialized g)))) (λ k. cuts_found)
  init_behind_cuts_by cuts _ = cuts_wrong

  pub init_behind_cuts : HasCuts d r → (names : Names) (ts : List Token) → Cuts (EndsBehind is_typedef x names) ts (init_behind_in d r is_typedef x names ts)
  unfolding init_behind_in
  init_behind_cuts cuts names ts = init_behind_cuts_by cuts (ahead_is ts)

  -- and those of declarators, where lists of them have theirs
  pub declarators_behind_cuts : HasCuts d r
      → ((names : Names) (k : ℕ) (ts : List Token) → Cuts (Has (Lists names (rule.init_declarators is_typedef))) ts
      (listed d r (init_declarator_in d r is_typedef) (λ ns t. add ns (entries_behind is_typedef (one t))) k names ts))
      → (names : Names) (ts : List Token) → Cuts (EndsBehind is_typedef x names) ts (declarators_behind d r is_typedef x names ts)
  unfolding declarators_behind
  declarators_behind_cuts cuts lists names ts = cuts_next {S = IsTree (Goal.init_behind is_typedef x) names} (init_behind_cuts cuts names ts) (init_behind_front names ts) (λ t b moves. moves)
      (λ t rest g. let names2 = add names (entries_behind is_typedef (one t)) in cuts_if (begins_with_mark Comma rest)
      (λ e. cuts_behind_mark Comma rest e (λ at. cuts_last {S = Lists names2 (rule.init_declarators is_typedef)} (lists names2 (suc (length rest)) (behind_one rest))
      (a_mark Semicolon ∷ []) (λ z _. refl)
      (λ z _ b us h c i a p. (nowhere, has _ (rule.more_init_declarators (i a p) h)))
      (λ us end. cuts_found)))
      (λ e. cuts_found))

pub none_cuts : HasCuts 0 no_reader
none_cuts = record { tree = λ goal e names ts. cuts_wrong; any = λ goal e le names ts. cuts_wrong; trees = λ row e names ts. cuts_wrong; behind = λ is_typedef x names ts. cuts_wrong }
