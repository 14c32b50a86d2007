use Rattle.std.proofs.Common.{ap, ◌∙◌}
use Rattle.c_typing.specs.Types.{is_scalar}
use Rattle.c_typing.specs.Rules.{bad_operand}
use Rattle.c_typing.specs.Expressions.{conditional}
use Rattle.c_operations.proofs.ChoiceLaws.{besides_none}
use Rattle.c_operations.proofs.choices.conditional.Goals as goal

pub returns-clause-is : goal.returns-clause-is
returns-clause-is c = λ js n d x y at laid g h i.
    besides_none c.choice.new.table 0 c.choice.result (bad_operand (is_scalar d.type) n.id) (conditional js n d x y)
    (ap (bad_operand (is_scalar d.type)) at ∙ (c.in_ok-condition.ensures d.type g.type).0) (c.choice.ensures.is js n d x y at laid g h i)
