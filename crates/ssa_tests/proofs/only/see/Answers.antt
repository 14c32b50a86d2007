use Rattle.ssa_tests.proofs.Growing.{sees_self, sees_first, sees_again, sees_other, sees_more}
use Rattle.ssa_tests.proofs.only.see.Goals as goal

pub returns-then-operand-phi : goal.returns-then-operand-phi
returns-then-operand-phi c = λ before h. sees_self c.args.seen c.args.phi c.args.operand before c.if-operand-phi.true h

pub returns-in-Nothing : goal.returns-in-Nothing
returns-in-Nothing c = λ before h. sees_first c.args.seen c.args.phi c.args.operand before c.in-Nothing.is c.if-operand-phi.false h

pub returns-in-One : goal.returns-in-One
returns-in-One c = λ before h. sees_again c.args.seen c.args.phi c.args.operand c.in-One.value before c.in-One.is c.if-value-operand.true h

pub returns-in_default : goal.returns-in_default
returns-in_default c = λ before h. sees_other c.args.seen c.args.phi c.args.operand c.in-One.value before c.in-One.is c.if-value-operand.false c.if-operand-phi.false h

pub returns-in_default-2 : goal.returns-in_default-2
returns-in_default-2 c = λ before h. sees_more c.args.seen c.args.phi c.args.operand before c.in_default.is h
