use Rattle.std.proofs.Common.{[]}
use Rattle.std.specs.Prelude.{unwrap_or}
use Rattle.c_typing.specs.Judgements.{layouts}
use Rattle.c_typing.specs.Conversions.{choice_type}
use Rattle.c_operations.proofs.OperandLaws.{operand_is}
use Rattle.c_operations.proofs.ChoiceLaws.{choice_allowed, choice_refused}
use Rattle.c_operations.proofs.choices.choice.Goals as goal

pub returns-in_err-kind-clause-is : goal.returns-in_err-kind-clause-is
returns-in_err-kind-clause-is c = λ js n d x y at laid g h i.
    choice_refused c.type_of_choice.new.table js n c.args.node d x y at c.from_residual.result c.in_err-kind.field-0.0 c.from_residual.ensures.1
    (c.in_err-kind.ensures.is (layouts js) x y (operand_is c.args.table.now c.args.first c.operand_of.result x c.operand_of.ensures h) (operand_is c.args.table.now c.args.second c.operand_of-2.result y c.operand_of-2.ensures i))

pub chosen-requires : goal.chosen-requires
chosen-requires c =
    let x = c.requires.first.0 in
    let y = c.requires.second.0 in (
      unwrap_or (choice_type [] x y) x.type,
      (c.in_ok-kind.ensures.is [] x y (operand_is c.args.table.now c.args.first c.operand_of.result x c.operand_of.ensures c.requires.first.1)
          (operand_is c.args.table.now c.args.second c.operand_of-2.result y c.operand_of-2.ensures c.requires.second.1)).1,
    )

pub returns-clause-is : goal.returns-clause-is
returns-clause-is c = λ js n d x y at laid g h i.
    let old = c.args.table.now in
    let made = c.in_ok-kind.ensures.is (layouts js) x y (operand_is old c.args.first c.operand_of.result x c.operand_of.ensures h) (operand_is old c.args.second c.operand_of-2.result y c.operand_of-2.ensures i) in
    choice_allowed c.type_of_choice.new.table js n c.args.node d x y at c.in_ok-chosen.field-0 made.0
    (c.in_ok-chosen.ensures old (unwrap_or (choice_type (layouts js) x y) x.type) d x y made.1 g h i)
