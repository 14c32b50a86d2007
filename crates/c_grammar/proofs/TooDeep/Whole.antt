-- Where a unit goes too deep, the tokens before the place begin a unit.
use Rattle.std.proofs.Common.{◌≡◌, ℕ, suc, ◌≤◌, Bool, true, List, length, refl, arith, true≢false, sym, ◌++◌}
use Rattle.c_lexer.specs.declared.token.Token.{Token}
use Rattle.c_syntax.specs.Trees.{Tree}
use Rattle.c_grammar.specs.Scopes.{Names}
use Rattle.c_grammar.specs.Derivation as rule
use Rattle.c_grammar.specs.Derivation.{IsTreeOf}
use Rattle.c_grammar.specs.Answers.{deep}
use Rattle.c_grammar.specs.Reading.{Reader, Goal, Rows, Mode, level, goal_in, rows_in, read_unit}
use Rattle.c_grammar.specs.Meanings.{IsTree, AreTrees}
use Rattle.c_grammar.proofs.SoundExpressions.{IsSound}
use Rattle.c_grammar.proofs.TooDeep.Steps.{Has, Cuts}
use Rattle.c_grammar.proofs.TooDeep.Parts.{HasCuts, EndsBehind, takes_token, stands_alone, stand_alone}
use Rattle.c_grammar.proofs.TooDeep.Expressions.{unary_cuts, cast_cuts, binary_cuts, conditional_cuts, assignment_cuts, expression_cuts}
use Rattle.c_grammar.proofs.TooDeep.Lists.{arguments_cuts, length_cuts, optional_expression_cuts}
use Rattle.c_grammar.proofs.TooDeep.Types.{specifier_cuts, specifier_list_cuts, specifiers_cuts}
use Rattle.c_grammar.proofs.TooDeep.Members.{parameter_cuts, type_name_cuts, member_cuts, enumerator_cuts, members_cuts, declarators_cuts, parameters_row_cuts, enumerators_cuts}
use Rattle.c_grammar.proofs.TooDeep.Declarators.{declared_cuts}
use Rattle.c_grammar.proofs.TooDeep.Declarations.{named_cuts, initializer_cuts, init_declarator_cuts, declaration_cuts, external_cuts}
use Rattle.c_grammar.proofs.TooDeep.Statements.{body_cuts, statement_cuts}
use Rattle.c_grammar.proofs.TooDeep.Unit as whole
use Rattle.c_grammar.proofs.TooDeep.Items.{initializers_cuts, init_declarators_cuts, behind_cuts, items_cuts, groups_cuts, externals_cuts}

-- each budget completes its places where the next lower one does
module _ (d : ℕ) (r : Reader) (sound : IsSound d r) (cuts : HasCuts d r) where
  goal_cuts : (goal : Goal) → takes_token goal ≡ true → (names : Names) (ts : List Token) → Cuts (Has (IsTree goal names)) ts (goal_in d r goal names ts)
  unfolding goal_in
  goal_cuts Goal.external e names ts = external_cuts d r sound cuts names ts
  goal_cuts Goal.declaration e names ts = declaration_cuts d r sound cuts names ts
  goal_cuts (Goal.init_declarator is_typedef) e names ts = init_declarator_cuts d r sound cuts is_typedef names ts
  goal_cuts (Goal.init_behind is_typedef x) e names ts = absurd (true≢false (sym e))
  goal_cuts Goal.initializer e names ts = initializer_cuts d r sound cuts names ts
  goal_cuts Goal.specifiers e names ts = specifiers_cuts d r sound cuts names ts
  goal_cuts (Goal.specifier typed) e names ts = specifier_cuts d r sound cuts typed names ts
  goal_cuts Goal.member e names ts = member_cuts d r sound cuts names ts
  goal_cuts Goal.enumerator e names ts = enumerator_cuts d r sound cuts names ts
  goal_cuts (Goal.declared Mode.named) e names ts = named_cuts d r sound cuts names ts
  goal_cuts (Goal.declared Mode.unnamed) e names ts = absurd (true≢false (sym e))
  goal_cuts (Goal.declared Mode.either) e names ts = absurd (true≢false (sym e))
  goal_cuts Goal.parameter e names ts = parameter_cuts d r sound cuts names ts
  goal_cuts Goal.type_name e names ts = type_name_cuts d r sound cuts names ts
  goal_cuts Goal.body e names ts = body_cuts d r sound cuts names ts
  goal_cuts Goal.statement e names ts = statement_cuts d r sound cuts names ts
  goal_cuts Goal.optional_expression e names ts = absurd (true≢false (sym e))
  goal_cuts Goal.expression e names ts = expression_cuts d r sound cuts names ts
  goal_cuts Goal.assignment e names ts = assignment_cuts d r sound cuts names ts
  goal_cuts Goal.conditional e names ts = conditional_cuts d r sound cuts names ts
  goal_cuts (Goal.binary n) e names ts = binary_cuts d r sound cuts n names ts
  goal_cuts Goal.cast e names ts = cast_cuts d r sound cuts names ts
  goal_cuts Goal.unary e names ts = unary_cuts d r sound cuts names ts

  any_cuts : (goal : Goal) → stands_alone goal ≡ true → 2 ≤ suc d → (names : Names) (ts : List Token) → Cuts (Has (IsTree goal names)) ts (goal_in d r goal names ts)
  unfolding goal_in
  any_cuts (Goal.init_behind is_typedef x) e le names ts = absurd (true≢false (sym e))
  any_cuts (Goal.declared mode) e le names ts = declared_cuts d r sound cuts mode names ts (λ _. omega (arith, le))
  any_cuts Goal.optional_expression e le names ts = optional_expression_cuts d r sound cuts (omega (arith, le)) names ts
  any_cuts other e le names ts = goal_cuts other refl names ts

  row_cuts : (row : Rows) → stand_alone row ≡ true → (names : Names) (ts : List Token) → Cuts (Has (AreTrees row names)) ts (rows_in d r row names ts)
  unfolding rows_in
  row_cuts Rows.externals e names ts = externals_cuts d r sound cuts (suc (length ts)) names ts
  row_cuts (Rows.init_declarators is_typedef) e names ts = init_declarators_cuts d r sound cuts is_typedef (suc (length ts)) names ts
  row_cuts (Rows.init_declarators_behind is_typedef x) e names ts = absurd (true≢false (sym e))
  row_cuts Rows.initializers e names ts = initializers_cuts d r sound cuts names ts
  row_cuts (Rows.specifier_list typed) e names ts = specifier_list_cuts d r sound cuts (suc (length ts)) typed names ts
  row_cuts Rows.members e names ts = members_cuts d r sound cuts (suc (length ts)) names ts
  row_cuts Rows.declarators e names ts = declarators_cuts d r sound cuts names ts
  row_cuts Rows.enumerators e names ts = enumerators_cuts d r sound cuts names ts
  row_cuts Rows.parameters e names ts = parameters_row_cuts d r sound cuts names ts
  row_cuts Rows.block_items e names ts = items_cuts d r sound cuts (suc (length ts)) names ts
  row_cuts Rows.groups e names ts = groups_cuts d r sound cuts (suc (length ts)) rule.at_first names ts
  row_cuts Rows.arguments e names ts = arguments_cuts d r sound cuts names ts
  row_cuts Rows.optional_length e names ts = length_cuts d r sound cuts names ts

  declarators_cuts_behind : (is_typedef : Bool) (x : Tree) (names : Names) (ts : List Token)
      → Cuts (EndsBehind is_typedef x names) ts (rows_in d r (Rows.init_declarators_behind is_typedef x) names ts)
  unfolding rows_in
  declarators_cuts_behind is_typedef x names ts = behind_cuts d r sound cuts is_typedef x names ts

  level_cuts : HasCuts (suc d) (level d r)
  unfolding level
  level_cuts = record { tree = goal_cuts; any = any_cuts; trees = row_cuts; behind = declarators_cuts_behind }

-- where the reading of a unit goes too deep, the tokens before the place begin a unit that has a tree
pub unit_completes : (d : ℕ) (ts rest : List Token) → read_unit d ts ≡ deep rest
    → (pre : List Token) × (other : List Token) × (t : Tree) × (ts ≡ pre ++ rest) × IsTreeOf (pre ++ other) t
unit_completes = whole.unit_completes level_cuts
