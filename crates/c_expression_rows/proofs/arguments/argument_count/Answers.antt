use Rattle.std.proofs.Common.{arith}
use Rattle.c_meanings.specs.Meanings.{node_in}
use Rattle.c_expression_rows.proofs.ArgumentLaws.{as_many_ids, length_other}
use Rattle.c_expression_rows.proofs.arguments.argument_count.Goals as goal

pub overflow_sub-result : goal.overflow_sub-result
overflow_sub-result c = let long = as_many_ids c.kids.result.now (node_in c.args.nodes.now c.args.node).kids c.kids.ensures.are in let has = c.requires.kids in omega (arith, long, has)

pub returns : goal.returns
returns c =
    let kids = (node_in c.args.nodes.now c.args.node).kids in
    let long = as_many_ids c.kids.result.now kids c.kids.ensures.are in
    let other = length_other kids c.requires.kids in
    omega (arith, long, other)
