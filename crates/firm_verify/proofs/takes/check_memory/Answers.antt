use Rattle.firm_rules.specs.declared.node.NodeId.{NodeId}
use Rattle.firm_verify.specs.Memory.{BreaksMemory}
use Rattle.firm_verify.proofs.EdgeLaws.{some_at}
use Rattle.firm_verify.proofs.MemoryLaws.{memory_broken}
use Rattle.firm_verify.proofs.takes.check_memory.Goals as goal

pub returns-in-Some-clause-some : goal.returns-in-Some-clause-some
returns-in-Some-clause-some c =
    memory_broken c.args.graph.now c.in-Some.node.number c.node.result.block.number c.requires.whole
    (some_at c.in_ok-node.field-0 (λ (k : NodeId). BreaksMemory c.args.graph.now k.number) c.in-Some.node c.in-Some.is (c.in_ok-node.ensures {u = tt}).some) c.node.ensures.block
