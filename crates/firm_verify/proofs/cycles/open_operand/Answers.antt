use Rattle.std.proofs.Common.{subst, get_or, ◌<◌}
use Rattle.firm_uses.specs.Counts.{times}
use Rattle.firm_uses.proofs.CountLaws.{times_found}
use Rattle.std.proofs.Common.{refl}
use Rattle.firm_verify.proofs.MarkLaws.{all_zero}
use Rattle.firm_verify.proofs.cycles.open_operand.Goals as goal

pub returns-then-mark_of-ne0-clause-some : goal.returns-then-mark_of-ne0-clause-some
returns-then-mark_of-ne0-clause-some c =
    let list = c.operands-operand-items.result.now in
    let at = c.loop-operand.operand-index in
    subst (λ l. 0 < times (get_or list at 0) l) c.operands-operand-items.ensures (times_found (get_or list at 0) list at 0 c.loop-operand-test.true refl)

pub returns-clause-none : goal.returns-clause-none
returns-clause-none c = all_zero c.args.left.now c.operands-operand-items.result.now _ c.loop-operand.operand-index c.operands-operand-items.ensures c.loop-operand-test.false c.loop-operand.invariant
