use Rattle.std.proofs.Common.{◌∙◌, get_or, refl, sym, subst}
use Rattle.firm_tables.proofs.MemberLaws.{number_at}
use Rattle.firm_nodes.proofs.LikeLaws.{IsOperand, operand_at, first_is}
use Rattle.firm_nodes.proofs.likes.rarest.Goals.{then-users, else-users}
use Rattle.firm_nodes.proofs.likes.rarest.Goals as goal

pub users-requires : goal.users-requires
users-requires c =
    (operand_at c.args.nodes.now c.args.operands.now c.loop-operand.operand-index _ c.requires c.loop-operand-test.true
    (number_at c.args.operands.now c.loop-operand.operand-index record { number = 0 } c.loop-operand-test.true)).within

pub loop-operand-preserved : goal.loop-operand-preserved
loop-operand-preserved c = elim c.if-users.branch [
  | then-users w ↦
      subst (λ rare. IsOperand c.args.nodes.now c.args.operands.now rare.number) (sym w.rare-is)
      (operand_at c.args.nodes.now c.args.operands.now c.loop-operand.operand-index _ c.requires c.loop-operand-test.true
      (number_at c.args.operands.now c.loop-operand.operand-index record { number = 0 } c.loop-operand-test.true))
  | else-users w ↦ subst (λ rare. IsOperand c.args.nodes.now c.args.operands.now rare.number) (sym w.rare-is) c.loop-operand.invariant
]
