-- Where a unit goes too deep, the tokens before the place begin a unit, where each budget completes its places if the next
-- lower one does.
use Rattle.std.proofs.Common.{◌≡◌, ℕ, zero, suc, ◌≤◌, List, [], ◌∷◌, ◌++◌, refl, arith}
use Rattle.c_lexer.specs.declared.token.Token.{Token}
use Rattle.c_syntax.specs.Trees.{Tree, Forest, forest_height}
use Rattle.c_grammar.specs.Scopes.{Names, opened}
use Rattle.c_grammar.specs.Derivation as rule
use Rattle.c_grammar.specs.Derivation.{Derives, Lists, IsTreeOf}
use Rattle.c_grammar.specs.Answers.{deep}
use Rattle.c_grammar.specs.Reading.{Reader, Rows, level, no_reader, read, read_unit}
use Rattle.c_grammar.proofs.FrontLaw.{fronts_of}
use Rattle.c_grammar.proofs.SoundExpressions.{IsSound}
use Rattle.c_grammar.proofs.Sound.{read_sound, none_sound}
use Rattle.c_grammar.proofs.TooDeep.Steps.{Has, has, Cuts, cuts_found, cuts_last, cuts_then, cut_of}
use Rattle.c_grammar.proofs.TooDeep.Parts.{HasCuts}
use Rattle.c_grammar.proofs.TooDeep.Moves.{none_cuts}

some_external : {names : Names} {a b : List Token} {ts : Forest} → Lists names rule.externals a b ts → 1 ≤ forest_height ts
some_external (rule.last_external t) = omega arith
some_external (rule.more_externals t ts) = omega arith

module _ (step : (d : ℕ) (r : Reader) → IsSound d r → HasCuts d r → HasCuts (suc d) (level d r)) where
  pub read_cuts : (d : ℕ) → HasCuts (suc d) (read d)
  unfolding read
  read_cuts zero = step 0 no_reader none_sound none_cuts
  read_cuts (suc d) = step (suc d) (read d) (read_sound d) (read_cuts d)

  unit_cuts : (d : ℕ) (ts : List Token) → Cuts (Has (Derives (opened []) rule.unit)) ts (read_unit d ts)
  unfolding read_unit
  unit_cuts zero ts = cuts_then {S = Lists (opened []) rule.externals} ((read_cuts zero).trees Rows.externals refl (opened []) ts)
      ((read_sound zero).trees Rows.externals (opened []) ts) (λ us b g. fronts_of g.holds)
      [] (λ z h. h) (λ z _ a us h. has _ (rule.unit_of h))
      (λ us b g. let some = some_external g.holds in absurd (omega (arith, some, g.fits)))
  unit_cuts (suc d) ts = cuts_last {S = Lists (opened []) rule.externals} ((read_cuts d).trees Rows.externals refl (opened []) ts)
      [] (λ z h. h) (λ z _ a us h. has _ (rule.unit_of h))
      (λ us b. cuts_found)

  pub unit_completes : (d : ℕ) (ts rest : List Token) → read_unit d ts ≡ deep rest
      → (pre : List Token) × (other : List Token) × (t : Tree) × (ts ≡ pre ++ rest) × IsTreeOf (pre ++ other) t
  unit_completes d ts rest e =
      let c = cut_of rest (unit_cuts d ts) e in
      let whole = c.completes [] refl in
      (c.head ∷ c.front, c.least ++ [], whole.what, c.split, whole.holds)
