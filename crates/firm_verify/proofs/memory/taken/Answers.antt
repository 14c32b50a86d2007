use Rattle.std.proofs.Common.{ap, ◌∙◌, get_or}
use Rattle.firm_rules.specs.Rules.{giver}
use Rattle.firm_verify.proofs.RivalLaws.{memory_there}
use Rattle.firm_verify.proofs.memory.taken.Goals as goal

pub bounds-operands-0 : goal.bounds-operands-0
bounds-operands-0 c = (memory_there c.args.graph.now c.args.node.number c.operands.result.now c.requires.rule1 c.requires.node c.requires.acts c.operands.ensures).0

pub giver_of-requires-clause-memory : goal.giver_of-requires-clause-memory
giver_of-requires-clause-memory c = (memory_there c.args.graph.now c.args.node.number c.operands.result.now c.requires.rule1 c.requires.node c.requires.acts c.operands.ensures).1

pub returns-clause-is : goal.returns-clause-is
returns-clause-is c = c.giver_of.ensures.is ∙ ap (λ l. giver c.args.graph.now (get_or l 0 0)) c.operands.ensures
