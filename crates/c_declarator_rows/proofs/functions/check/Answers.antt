use Rattle.c_typing.specs.Rules.{bad_parameter}
use Rattle.c_declarator_rows.proofs.FunctionRowLaws.{check_same, many}
use Rattle.c_declarator_rows.proofs.functions.check.Goals as goal

pub returns-then-count-gt8 : goal.returns-then-count-gt8
returns-then-count-gt8 c = λ ts named. many c.args.count c.args.node (bad_parameter ts c.args.node) c.if-count-gt8.true

pub returns : goal.returns
returns c = check_same c.args.table.now c.args.takes.now c.args.count c.args.node c.check_parameters.result c.requires.count c.if-count-gt8.false c.check_parameters.ensures
