use Rattle.firm_rules.specs.declared.node.BlockId.{BlockId}
use Rattle.std.proofs.Common.{None}
use Rattle.firm_verify.specs.Broken.{IsBroken}
use Rattle.firm_verify.specs.Tables.{IsUnlike}
use Rattle.firm_nodes.proofs.LikeLaws.{then_none}
use Rattle.firm_verify.proofs.EdgeLaws.{broken_within, broken_target, broken_pred, all_fit, some_so}
use Rattle.firm_verify.proofs.edges.unfit_block.Goals as goal

pub returns-in-Some-clause-some : goal.returns-in-Some-clause-some
returns-in-Some-clause-some c = broken_within c.args.graph.now c.in-Some.block.number (c.in-Some.ensures {u = tt}).block (c.in-Some.ensures {u = tt}).some

pub returns-in-Some-unlike_target-clause-some : goal.returns-in-Some-unlike_target-clause-some
returns-in-Some-unlike_target-clause-some c =
    broken_target c.args.graph.now c.in-Some-unlike_target.block.number (c.in-Some-unlike_target.ensures {u = tt}).block (c.in_default.ensures {u = tt}).none (c.in-Some-unlike_target.ensures {u = tt}).some

pub returns-clause-some : goal.returns-clause-some
returns-clause-some c = some_so c.unlike_pred.result (λ (b : BlockId). IsUnlike c.args.graph.now b.number) (λ (b : BlockId). IsBroken c.args.graph.now 8 None b.number) c.unlike_pred.ensures.some (λ b unlike. broken_pred c.args.graph.now b.number unlike)

pub returns-clause-none : goal.returns-clause-none
returns-clause-none c = then_none c.unlike_pred.result c.unlike_pred.ensures.none (all_fit c.args.graph.now (c.in_default.ensures {u = tt}).none (c.in_default-unlike_target.ensures {u = tt}).none)
