use Rattle.c_typing.specs.Judgements.{type_at}
use Rattle.c_meanings.specs.Meanings.{judged_to}
use Rattle.c_expression_rows.proofs.NameRowLaws.{first_type, second_type}
use Rattle.c_expression_rows.proofs.declared.type_of_name.Goals as goal

pub returns-in-Some : goal.returns-in-Some
returns-in-Some c = first_type _ (type_at (judged_to c.args.nodes.now c.args.node) c.args.owner) (type_at (judged_to c.args.nodes.now c.args.node) c.args.behind) (c.in-Some.ensures {u = tt})

pub returns-in-None : goal.returns-in-None
returns-in-None c = second_type _ (type_at (judged_to c.args.nodes.now c.args.node) c.args.owner) (type_at (judged_to c.args.nodes.now c.args.node) c.args.behind) c.type_before-in-None.result (c.in-None.ensures {u = tt}) c.type_before-in-None.ensures
