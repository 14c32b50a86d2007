-- What the reading of the unit says of its tokens.
use Rattle.std.proofs.Common.{◌≡◌, length, ◌-◌, ap, ◌∙◌, subst}
use Rattle.c_grammar.specs.Scopes.{opened}
use Rattle.c_syntax.specs.Tables.{stack_of}
use Rattle.c_parts.specs.declared.budget.Stop.TheVariants.{Wrong, Deep}
use Rattle.c_parser.specs.Parsing.{IsWrong, IsTooDeep}
use Rattle.c_parser.proofs.UnitFaults.{unit_stop, unit_found, unit_whole, unit_wrong, unit_too_deep, unit_table, unit_only, tree_no_wrong, tree_no_deep}
use Rattle.c_parser.proofs.unit.parse.Goals as goal

pub finish-requires : goal.finish-requires
finish-requires c = unit_whole c.args.tokens.now c.as_slice.result.now c.unit-unit.new.self c.in-Ok.unit c.as_slice.ensures
    (c.in-Ok.ensures (c.in_ok-open.ensures.ok ∙ ap opened c.new-names.ensures) (ap stack_of c.new.ensures))

pub returns-in-Ok-clause-tree : goal.returns-in-Ok-clause-tree
returns-in-Ok-clause-tree c =
    let given = c.in-Ok.ensures (c.in_ok-open.ensures.ok ∙ ap opened c.new-names.ensures) (ap stack_of c.new.ensures) in
    unit_table c.args.tokens.now given.tree c.finish.result (unit_found c.args.tokens.now c.as_slice.result.now c.unit-unit.new.self c.in-Ok.unit c.as_slice.ensures given)
    (c.finish.ensures given.tree given.pushed.stack_is)

pub returns-in-Ok-clause-only : goal.returns-in-Ok-clause-only
returns-in-Ok-clause-only c = λ t tree.
    let given = c.in-Ok.ensures (c.in_ok-open.ensures.ok ∙ ap opened c.new-names.ensures) (ap stack_of c.new.ensures) in
    unit_only c.args.tokens.now given.tree t c.finish.result (unit_found c.args.tokens.now c.as_slice.result.now c.unit-unit.new.self c.in-Ok.unit c.as_slice.ensures given)
    (c.finish.ensures given.tree given.pushed.stack_is) tree

pub returns-in-Wrong-clause-finds : goal.returns-in-Wrong-clause-finds
returns-in-Wrong-clause-finds c = λ t tree low.
    absurd (tree_no_wrong c.args.tokens.now c.unit-unit.new.self.rest.now t (
    unit_stop c.args.tokens.now c.as_slice.result.now c.unit-unit.new.self.rest.now c.in-Err.stop Wrong c.as_slice.ensures c.in-Wrong.is
    (c.in-Err.ensures (c.in_ok-open.ensures.ok ∙ ap opened c.new-names.ensures) (ap stack_of c.new.ensures))) tree)

pub returns-in-Wrong-clause-syntax : goal.returns-in-Wrong-clause-syntax
returns-in-Wrong-clause-syntax c = λ at e.
    let place : length c.args.tokens.now - length c.unit-unit.new.self.rest.now ≡ at = cc (e, c.len.ensures, c.saturating_sub-number.ensures) in
    subst (IsWrong c.args.tokens.now) place (unit_wrong c.args.tokens.now c.unit-unit.new.self.rest.now (
    unit_stop c.args.tokens.now c.as_slice.result.now c.unit-unit.new.self.rest.now c.in-Err.stop Wrong c.as_slice.ensures c.in-Wrong.is
    (c.in-Err.ensures (c.in_ok-open.ensures.ok ∙ ap opened c.new-names.ensures) (ap stack_of c.new.ensures))))

pub returns-in-Deep-clause-finds : goal.returns-in-Deep-clause-finds
returns-in-Deep-clause-finds c = λ t tree low.
    absurd (tree_no_deep c.args.tokens.now c.unit-unit.new.self.rest.now t (
    unit_stop c.args.tokens.now c.as_slice.result.now c.unit-unit.new.self.rest.now c.in-Err.stop Deep c.as_slice.ensures c.in-Deep.is
    (c.in-Err.ensures (c.in_ok-open.ensures.ok ∙ ap opened c.new-names.ensures) (ap stack_of c.new.ensures))) tree low)

pub returns-in-Deep-clause-too_deep : goal.returns-in-Deep-clause-too_deep
returns-in-Deep-clause-too_deep c = λ at e.
    let place : length c.args.tokens.now - length c.unit-unit.new.self.rest.now ≡ at = cc (e, c.len.ensures, c.saturating_sub-number.ensures) in
    subst (IsTooDeep c.args.tokens.now) place (unit_too_deep c.args.tokens.now c.unit-unit.new.self.rest.now (
    unit_stop c.args.tokens.now c.as_slice.result.now c.unit-unit.new.self.rest.now c.in-Err.stop Deep c.as_slice.ensures c.in-Deep.is
    (c.in-Err.ensures (c.in_ok-open.ensures.ok ∙ ap opened c.new-names.ensures) (ap stack_of c.new.ensures))))
