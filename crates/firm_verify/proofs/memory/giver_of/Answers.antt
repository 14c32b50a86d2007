use Rattle.std.proofs.Common.{sym, ◌∙◌}
use Rattle.firm_verify.proofs.RivalLaws.{tuple_there, giver_self, giver_tuple}
use Rattle.firm_verify.proofs.memory.giver_of.Goals as goal

pub returns-then-not-is_memory_part-clause-is : goal.returns-then-not-is_memory_part-clause-is
returns-then-not-is_memory_part-clause-is c = giver_self c.args.graph.now c.args.memory c.node.result.op c.requires.memory c.node.ensures.op (sym c.is_memory_part.ensures ∙ c.if-not-is_memory_part.true)

pub bounds-operands-0 : goal.bounds-operands-0
bounds-operands-0 c = (tuple_there c.args.graph.now c.args.memory c.node.result.op c.operands.result.now c.requires.rule1 c.requires.memory c.node.ensures.op (sym c.is_memory_part.ensures ∙ c.if-not-is_memory_part.false) c.operands.ensures).0

pub returns-clause-is : goal.returns-clause-is
returns-clause-is c =
    giver_tuple c.args.graph.now c.args.memory c.node.result.op c.operands.result.now c.requires.memory c.node.ensures.op (sym c.is_memory_part.ensures ∙ c.if-not-is_memory_part.false) c.operands.ensures
    (tuple_there c.args.graph.now c.args.memory c.node.result.op c.operands.result.now c.requires.rule1 c.requires.memory c.node.ensures.op (sym c.is_memory_part.ensures ∙ c.if-not-is_memory_part.false) c.operands.ensures).0

pub returns-clause-there : goal.returns-clause-there
returns-clause-there c = (tuple_there c.args.graph.now c.args.memory c.node.result.op c.operands.result.now c.requires.rule1 c.requires.memory c.node.ensures.op (sym c.is_memory_part.ensures ∙ c.if-not-is_memory_part.false) c.operands.ensures).1
