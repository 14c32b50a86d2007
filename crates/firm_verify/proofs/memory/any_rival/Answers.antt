use Rattle.firm_verify.specs.declared.memory.Sort.TheVariants.{Begins, Follows, MemoryPhi}
use Rattle.firm_verify.proofs.MemoryLaws.{some_breaks}
use Rattle.firm_verify.proofs.memory.any_rival.Goals as goal

pub returns-then-is_some-clause-some : goal.returns-then-is_some-clause-some
returns-then-is_some-clause-some c = some_breaks c.args.graph.now Begins c.in_ok-begins.begins c.requires.rule1 (c.in_ok-begins.ensures {u = tt}).some

pub returns-then-is_some-2-clause-some : goal.returns-then-is_some-2-clause-some
returns-then-is_some-2-clause-some c = some_breaks c.args.graph.now Follows c.in_ok-follows.follows c.requires.rule1 (c.in_ok-follows.ensures {u = tt}).some

pub returns-clause-some : goal.returns-clause-some
returns-clause-some c = some_breaks c.args.graph.now MemoryPhi c.in_ok-doubled.doubled c.requires.rule1 (c.in_ok-doubled.ensures {u = tt}).some
