-- Where a parameter, a type name, a member, an enumerator or a row of them goes too deep, the tokens before the place are
-- completed, where the next lower budget reads so.
use Rattle.std.proofs.Common.{◌≡◌, ℕ, zero, suc, ◌≤◌, true, false, List, [], ◌∷◌, ◌++◌, length, refl, arith, true≢false}
use Rattle.c_lexer.specs.declared.token.Punct.TheVariants.{Star, Semicolon, Equal}
use Rattle.c_lexer.specs.declared.token.Token.{Token}
use Rattle.c_syntax.specs.Trees.{Tree, height}
use Rattle.c_grammar.specs.Vocabulary.{Place, word, is_identifier}
use Rattle.c_grammar.specs.Scopes.{Names, after, after_parameter}
use Rattle.c_grammar.specs.Derivation as rule
use Rattle.c_grammar.specs.Derivation.{Derives, Lists}
use Rattle.c_grammar.specs.Answers.{Answer, Ahead, and_then}
use Rattle.c_grammar.specs.Reading.{Reader, Goal, Rows, Mode, needs_name, begins_specifier, specs_first, declared_in, parameter_in, type_name_in, member_in, value_by, enumerator_by, enumerator_in, listed, listed_in_braces, members_in}
use Rattle.c_grammar.specs.Meanings.{IsDeclared}
use Rattle.c_grammar.proofs.FrontLaw.{front_of}
use Rattle.c_grammar.proofs.SoundSteps.{IsAhead, is_mark, is_word, ahead_is}
use Rattle.c_grammar.proofs.SoundShapes.{some_specs}
use Rattle.c_grammar.proofs.SoundExpressions.{IsSound}
use Rattle.c_grammar.proofs.SoundTypes.{specs_sound}
use Rattle.c_grammar.proofs.SoundDeclarators.{declarator_of, parameter_of, type_of, declared_sound, parameter_sound, member_sound, enumerator_sound}
use Rattle.c_grammar.proofs.TooDeep.Steps.{Closing, Has, has, Cuts, cuts_found, cuts_wrong, cuts_token, cuts_if, cuts_fit, Behind, cuts_then, cuts_last, cuts_expect}
use Rattle.c_grammar.proofs.TooDeep.Parts.{HasCuts, tree_front, a_mark, a_name, a_zero, zero_conditional, name_declarator}
use Rattle.c_grammar.proofs.TooDeep.Rows.{listed_cuts, listed_in_braces_cuts}
use Rattle.c_grammar.proofs.TooDeep.Types.{specs_cuts}
use Rattle.c_grammar.proofs.TooDeep.Declarators.{declared_cuts}

-- specs have specs below them
pub specs_height : {names : Names} {a b : List Token} {s : Tree} → Derives names rule.specifiers a b s → 2 ≤ height s
specs_height (rule.specs m) = omega (arith, some_specs m)

module _ (d : ℕ) (r : Reader) (sound : IsSound d r) (cuts : HasCuts d r) where
  -- specs and then more, where the tail completes a cut of the specs; the budget is then more than 2
  pub cuts_specs : {R : List Token → List Token → Type 0} {go : Tree → List Token → Answer Tree} (names : Names) (ts tail : List Token)
      → ((z : List Token) → Closing z → Closing (tail ++ z))
      → ((z : List Token) → Closing z → (a : List Token) (s : Tree) → Derives names rule.specifiers a (tail ++ z) s → R a z)
      → ((s : Tree) (b : List Token) → 3 ≤ d → Cuts (Behind (Derives names rule.specifiers) s R) b (go s b))
      → Cuts R ts (and_then (specs_first d r names ts) go)
  cuts_specs names ts tail closing join next = cuts_then {S = Derives names rule.specifiers}
      (specs_cuts d r sound cuts names ts) (specs_sound d r sound names ts) (λ t b g. front_of g.holds)
      tail closing join
      (λ s b g. next s b (omega (arith, g.fits, specs_height g.holds)))

  pub parameter_cuts : (names : Names) (ts : List Token) → Cuts (Has (Derives names rule.parameter)) ts (parameter_in d r names ts)
  unfolding parameter_in
  parameter_cuts names ts = cuts_specs names ts [] (λ z h. h) (λ z _ a s g. has _ (rule.bare_parameter g)) (λ s rest k.
      cuts_last {S = IsDeclared Mode.either (after names s)} (cuts.any (Goal.declared Mode.either) refl (omega (arith, k)) (after names s) rest)
      [] (λ z h. h) (λ z _ c x m a p. has _ (parameter_of p m))
      (λ x end. cuts_found))

  pub type_name_cuts : (names : Names) (ts : List Token) → Cuts (Has (Derives names rule.type_name)) ts (type_name_in d r names ts)
  unfolding type_name_in
  type_name_cuts names ts = cuts_specs names ts [] (λ z h. h) (λ z _ a s g. has _ (rule.bare_type g)) (λ s rest k.
      cuts_last {S = IsDeclared Mode.unnamed (after names s)} (cuts.any (Goal.declared Mode.unnamed) refl (omega (arith, k)) (after names s) rest)
      [] (λ z h. h) (λ z _ c x m a p. has _ (type_of p m))
      (λ x end. cuts_found))

  -- a cut of the specs is completed by `*` and a name, since a name alone could go on with the specs
  pub member_cuts : (names : Names) (ts : List Token) → Cuts (Has (Derives names rule.member)) ts (member_in d r names ts)
  unfolding member_in
  member_cuts names ts = cuts_specs names ts (a_mark Star ∷ a_name ∷ a_mark Semicolon ∷ []) (λ z _. refl)
      (λ z _ a s g. has _ (rule.member_of g (rule.last_declarator (rule.pointer rule.no_qualifier name_declarator)))) (λ s rest k.
      cuts_last {S = Lists (after names s) rule.declarators} (cuts.trees Rows.declarators refl (after names s) rest)
      (a_mark Semicolon ∷ []) (λ z _. refl) (λ z _ c xs m a p. has _ (rule.member_of p m))
      (λ xs behind. cuts_expect Semicolon behind (λ at c. cuts_found)))

  value_cuts : (names : Names) (text : List ℕ) (at : Place) → is_identifier text ≡ true → {ts : List Token} {h : Ahead} → IsAhead ts h
      → Cuts (λ a z. Has (Derives names rule.enumerator) (word text at ∷ a) z) ts (value_by d r names text at ts h)
  unfolding value_by
  value_cuts names text at e (is_mark {p = Equal} {rest = rest}) = cuts_fit 2 d (a_zero ∷ []) (λ z _. has _ (rule.enumerator_value e zero_conditional)) (λ _.
      cuts_token (cuts_last {S = Derives names rule.conditional} (cuts.tree Goal.conditional refl names rest)
      [] (λ z h. h) (λ z _ a t g. has _ (rule.enumerator_value e g))
      (λ x end. cuts_found)))
  value_cuts names text at e _ = cuts_found

  enumerator_cuts_by : (names : Names) {ts : List Token} {h : Ahead} → IsAhead ts h → Cuts (Has (Derives names rule.enumerator)) ts (enumerator_by d r names ts h)
  unfolding enumerator_by
  enumerator_cuts_by names (is_word {text = text} {at = at} {rest = rest}) = cuts_if (is_identifier text)
      (λ e. cuts_fit 1 d [] (λ z _. has _ (rule.enumerator_name e)) (λ _. cuts_token (value_cuts names text at e (ahead_is rest))))
      (λ e. cuts_wrong)
  enumerator_cuts_by names _ = cuts_wrong

  pub enumerator_cuts : (names : Names) (ts : List Token) → Cuts (Has (Derives names rule.enumerator)) ts (enumerator_in d r names ts)
  unfolding enumerator_in
  enumerator_cuts names ts = enumerator_cuts_by names (ahead_is ts)

  -- ---- rows

  pub members_cuts : (k : ℕ) (names : Names) (ts : List Token) → Cuts (Has (Lists names rule.members)) ts (members_in d r k names ts)
  unfolding members_in
  members_cuts zero names ts = cuts_wrong
  members_cuts (suc k) names ts = cuts_then {S = Derives names rule.member} (member_cuts names ts) (member_sound d r sound names ts) (λ t b g. front_of g.holds)
      [] (λ z h. h) (λ z _ a t g. has _ (rule.last_member g))
      (λ t rest g. cuts_if (begins_specifier false (after names t) rest)
      (λ e. cuts_last {S = Lists (after names t) rule.members} (members_cuts k (after names t) rest)
      [] (λ z h. h) (λ z _ c us m a p. has _ (rule.more_members p m))
      (λ us end. cuts_found))
      (λ e. cuts_found))

  pub declarators_cuts : (names : Names) (ts : List Token)
      → Cuts (Has (Lists names rule.declarators)) ts (listed d r (declared_in d r Mode.named) after (suc (length ts)) names ts)
  unfolding needs_name
  declarators_cuts names ts = listed_cuts d r
      (λ ns. IsDeclared Mode.named ns) (λ ns. Lists ns rule.declarators) (declared_in d r Mode.named) after
      (λ ns us. declared_cuts d r sound cuts Mode.named ns us (λ e. absurd (true≢false e)))
      (declared_sound d r sound Mode.named)
      (λ ns a b t g. tree_front (Goal.declared Mode.named) refl ns a b t g)
      (λ ns a b t h. rule.last_declarator (declarator_of h))
      (λ ns a b c at t us h. rule.more_declarators (declarator_of h))
      (suc (length ts)) names ts

  pub parameters_row_cuts : (names : Names) (ts : List Token)
      → Cuts (Has (Lists names rule.parameters)) ts (listed d r (parameter_in d r) after_parameter (suc (length ts)) names ts)
  parameters_row_cuts names ts = listed_cuts d r
      (λ ns. Derives ns rule.parameter) (λ ns. Lists ns rule.parameters) (parameter_in d r) after_parameter
      parameter_cuts
      (parameter_sound d r sound)
      (λ ns a b t. front_of)
      (λ ns a b t. rule.last_parameter)
      (λ ns a b c at t us. rule.more_parameters)
      (suc (length ts)) names ts

  pub enumerators_cuts : (names : Names) (ts : List Token)
      → Cuts (Has (Lists names rule.enumerators)) ts (listed_in_braces d r (enumerator_in d r) (suc (length ts)) names ts)
  enumerators_cuts names ts = listed_in_braces_cuts d r
      (λ ns. Derives ns rule.enumerator) (λ ns. Lists ns rule.enumerators) (enumerator_in d r)
      enumerator_cuts
      (enumerator_sound d r sound)
      (λ ns a b t. front_of)
      (λ ns a b t. rule.last_enumerator)
      (λ ns a b c at t us. rule.more_enumerators)
      (suc (length ts)) names ts
