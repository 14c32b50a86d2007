use Rattle.std.proofs.Common.{sym, subst, ◌∙◌}
use Rattle.c_syntax.specs.Tables.{IsInOrder}
use Rattle.c_syntax.proofs.TextLaws.{table_in_order}
use Rattle.c_syntax.proofs.syntax.Syntax.nodes.Goals as goal

pub returns-clause-order : goal.returns-clause-order
returns-clause-order c = subst IsInOrder (sym (c.as_slice.ensures ∙ c.self.invariant.whole)) (table_in_order c.self.invariant.of)
