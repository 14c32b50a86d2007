use Rattle.std.proofs.Common.{ap, arith, sym}
use Rattle.std.specs.Prelude.{is_some}
use Rattle.c_typing.specs.Judgements.{typing_at}
use Rattle.c_meanings.specs.Meanings.{judged_to, node_in}
use Rattle.c_meanings.proofs.MeaningLaws.{no_operand, operand_seen}
use Rattle.c_expression_rows.proofs.ArgumentLaws.{all_seen, as_many_ids, index_more, missing_at}
use Rattle.c_expression_rows.proofs.arguments.are_arguments.Goals as goal

pub loop-index-init : goal.loop-index-init
loop-index-init c = λ i from less. absurd (omega (arith, from, less))

pub operand_at-requires-clause-kids : goal.operand_at-requires-clause-kids
operand_at-requires-clause-kids c = let long = as_many_ids c.kids-index-end.result.now (node_in c.args.nodes.now c.args.node).kids c.kids-index-end.ensures.are in let less = c.loop-index-test.true in omega (arith, long, less)

pub returns-then-is_none : goal.returns-then-is_none
returns-then-is_none c =
    let kids = (node_in c.args.nodes.now c.args.node).kids in
    let long = as_many_ids c.kids-index-end.result.now kids c.kids-index-end.ensures.are in
    let less = c.loop-index-test.true in
    let from = c.loop-index.auto.index in
    sym (missing_at (typing_at (judged_to c.args.nodes.now c.args.node)) kids c.loop-index.index from (omega (arith, long, less)) (ap is_some (no_operand _ c.operand_at.result c.operand_at.ensures (c.if-is_none.ensures {u = tt}))))

pub loop-index-preserved : goal.loop-index-preserved
loop-index-preserved c =
    let (x, e) = operand_seen _ c.operand_at.result c.operand_at.ensures (c.if-is_none.ensures {u = tt}) in
    index_more _ c.loop-index.index c.loop-index.invariant (ap is_some e)

pub returns : goal.returns
returns c =
    let kids = (node_in c.args.nodes.now c.args.node).kids in
    let long = as_many_ids c.kids-index-end.result.now kids c.kids-index-end.ensures.are in
    let past = c.loop-index-test.false in
    sym (all_seen (typing_at (judged_to c.args.nodes.now c.args.node)) kids (λ i from less. c.loop-index.invariant i from (omega (arith, less, long, past))))
