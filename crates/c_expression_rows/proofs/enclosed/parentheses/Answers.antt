use Rattle.std.proofs.Common.{◌+◌, ap, sym}
use Rattle.std.specs.Prelude.{is_some}
use Rattle.c_syntax.specs.declared.kind.SynKind.TheVariants as kind
use Rattle.c_typing.specs.Places.{is_whole}
use Rattle.c_nodes.specs.Parents.{nodes_in}
use Rattle.c_meanings.specs.Meanings.{kid_in, node_in}
use Rattle.c_meanings.proofs.MeaningLaws.{kids_of, no_operand, operand_seen}
use Rattle.c_expression_rows.proofs.ParenthesesLaws.{expression_inside, is_part, nothing_inside, operand_row, part_inside, steps_row, waiting_after}
use Rattle.c_expression_rows.proofs.enclosed.parentheses.Goals as goal

pub operand_at-requires-clause-kids : goal.operand_at-requires-clause-kids
operand_at-requires-clause-kids c = kids_of c.args.nodes.now c.args.node 0 c.args.meanings.now c.requires.ready c.requires.within kind.Paren c.requires.kind

pub take_operand-operand-requires-clause-kids : goal.take_operand-operand-requires-clause-kids
take_operand-operand-requires-clause-kids c = kids_of c.args.nodes.now c.args.node 0 c.args.meanings.now c.requires.ready c.requires.within kind.Paren c.requires.kind

pub take_steps-requires-clause-kids : goal.take_steps-requires-clause-kids
take_steps-requires-clause-kids c = kids_of c.args.nodes.now c.args.node 0 c.args.meanings.now c.requires.ready c.requires.within kind.Paren c.requires.kind

pub take_operand-operand-requires-clause-there : goal.take_operand-operand-requires-clause-there
take_operand-operand-requires-clause-there c = let (x, e) = operand_seen _ c.operand_at.result c.operand_at.ensures (sym (c.if-is_some.ensures {u = tt})) in ap is_some e

pub returns-then-is_some : goal.returns-then-is_some
returns-then-is_some c =
    let table = c.args.nodes.now in
    let n = c.args.node in
    let (x, e) = operand_seen _ c.operand_at.result c.operand_at.ensures (sym (c.if-is_some.ensures {u = tt})) in
    operand_row table n (kid_in table n 0 + 1) c.args.meanings.now c.take_operand-operand.new.self c.take_operand-operand.ensures.ready c.requires.within c.take_operand-operand.ensures.left c.take_operand-operand.result x
    (expression_inside table n c.requires.kind x e) (c.take_operand-operand.ensures.is x e)

pub returns-in-Some : goal.returns-in-Some
returns-in-Some c =
    let table = c.args.nodes.now in
    let n = c.args.node in
    let none = no_operand _ c.operand_at.result c.operand_at.ensures (sym (c.if-is_some.ensures {u = tt})) in
    let (rs, e, are) = c.in-Some.ensures.is in
    steps_row table n (kid_in table n 0 + 1) c.args.meanings.now c.take_steps.new.self c.in-Some.ensures.ready c.requires.within c.in-Some.ensures.left c.in-Some.steps rs
    (part_inside table n c.requires.kind none rs e (is_part (is_whole (nodes_in table) (node_in table n)) _ rs c.requires.part e)) are

pub returns-in-None : goal.returns-in-None
returns-in-None c =
    let table = c.args.nodes.now in
    let n = c.args.node in
    let none = no_operand _ c.operand_at.result c.operand_at.ensures (sym (c.if-is_some.ensures {u = tt})) in
    waiting_after table n (kid_in table n 0 + 1) c.args.meanings.now c.take_steps.new.self c.in-None.ensures.ready c.requires.within c.in-None.ensures.left (nothing_inside table n c.requires.kind none c.in-None.ensures.is)
