use Rattle.firm_nodes.proofs.LikeLaws.{IsOperand}
use Rattle.firm_nodes.proofs.likes.rarest.Given as goal

abbrev pub invariant-loop-operand : goal.invariant-loop-operand
invariant-loop-operand l = IsOperand l.nodes l.operands l.rare.number
