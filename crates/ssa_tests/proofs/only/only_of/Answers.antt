use Rattle.std.proofs.Common.{sym, subst, arith}
use Rattle.std.proofs.lemmas.List.{take_more}
use Rattle.ssa_tests.specs.Seen.{Sees}
use Rattle.ssa_tests.proofs.Growing.{sees_whole, only_seen, none_seen}
use Rattle.ssa_tests.proofs.only.only_of.Goals as goal

pub loop-operand-preserved : goal.loop-operand-preserved
loop-operand-preserved c =
    subst (λ xs. Sees c.see-seen.result c.args.phi xs) (sym (take_more c.args.operands.now c.loop-operand.operand-index 0 c.loop-operand-test.true))
    (c.see-seen.ensures _ c.loop-operand.invariant)

pub returns-in-One-clause-some : goal.returns-in-One-clause-some
returns-in-One-clause-some c =
    only_seen c.loop-operand.seen c.args.phi c.in-One.value c.args.operands.now c.in-One.is
    (sees_whole c.loop-operand.seen c.args.phi c.args.operands.now c.loop-operand.operand-index (omega arith) c.loop-operand.invariant)

pub returns-in_default-clause-none : goal.returns-in_default-clause-none
returns-in_default-clause-none c =
    none_seen c.loop-operand.seen c.args.phi c.args.operands.now c.in_default.not-One
    (sees_whole c.loop-operand.seen c.args.phi c.args.operands.now c.loop-operand.operand-index (omega arith) c.loop-operand.invariant)
