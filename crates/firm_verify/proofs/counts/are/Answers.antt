use Rattle.std.proofs.Common.{get_or, None}
use Rattle.firm_rules.specs.declared.node.Mode.TheVariants.{Word}
use Rattle.firm_tables.proofs.NodeLaws.{refuses}
use Rattle.firm_verify.proofs.CountsLaws.{all_modes, other_mode}
use Rattle.firm_verify.proofs.counts.are.Goals as goal

pub returns-then-not-has_mode : goal.returns-then-not-has_mode
returns-then-not-has_mode c =
    other_mode (λ n. get_or c.args.modes.now n None) c.args.operands.now c.args.wanted.now c.loop-index.index Word c.if-operands-wanted.false c.loop-index-test.true (refuses c.has_mode.result c.if-not-has_mode.true c.has_mode.ensures)

pub returns : goal.returns
returns c = all_modes (λ n. get_or c.args.modes.now n None) c.args.operands.now c.args.wanted.now c.loop-index.index c.if-operands-wanted.false c.loop-index-test.false c.loop-index.invariant
