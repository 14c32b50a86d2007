use Rattle.std.proofs.Common.{sym, ap, ◌∙◌, subst}
use Rattle.c_typing.specs.Judgements.{layouts}
use Rattle.c_values.specs.Typings.{IsType}
use Rattle.c_operations.proofs.OperandLaws.{operand_is}
use Rattle.c_values.proofs.GrowLaws.{is_grows, type_grows}
use Rattle.c_assignments.specs.Assignments.{old_of}
use Rattle.c_assignments.proofs.CompoundLaws.{compound_allowed, compound_refused}
use Rattle.c_assignments.proofs.compounds.compound_by.Goals as goal

pub returns-in_err-kind-clause-is : goal.returns-in_err-kind-clause-is
returns-in_err-kind-clause-is c = λ p js n o x y at number laid same h i.
    compound_refused c.compound_type.new.table p js n c.args.node c.args.hidden x y o at c.from_residual.result c.in_err-kind.field-0.0 c.from_residual.ensures.1
    (c.in_err-kind.ensures.is (layouts js) o x y x.code laid same h (operand_is c.args.table.now c.args.right c.operand_of.result y c.operand_of.ensures i))

pub compound_value-requires-clause-left : goal.compound_value-requires-clause-left
compound_value-requires-clause-left c =
    (c.requires.left.0, is_grows c.args.table.now c.compound_type.new.table c.in_ok-kind.ensures.grows.keeps c.args.left c.requires.left.0 c.requires.left.1)

pub compound_value-requires-clause-right : goal.compound_value-requires-clause-right
compound_value-requires-clause-right c =
    let y = c.requires.right.0 in (
      y.type,
      subst (λ a. IsType c.compound_type.new.table a y.type) (sym (ap (λ q. q.kind) c.code_of.ensures))
          (type_grows c.args.table.now c.compound_type.new.table c.in_ok-kind.ensures.grows.keeps c.args.right.kind y.type c.requires.right.1.type),
    )

pub returns-clause-is : goal.returns-clause-is
returns-clause-is c = λ p js n o x y at number laid same h i.
    let old = c.args.table.now in
    let new = c.compound_type.new.table in
    let grows = c.in_ok-kind.ensures.grows in
    let made = c.in_ok-kind.ensures.is (layouts js) o x y (old_of c.args.hidden x.type x.form) laid same h (operand_is old c.args.right c.operand_of.result y c.operand_of.ensures i) in
    compound_allowed new p js n c.args.node c.args.hidden x y o at c.in_ok-compound_value.field-0 number made.0
    (c.in_ok-compound_value.ensures (layouts js) o x y (grows.laid (layouts js) laid) same made.1 (is_grows old new grows.keeps c.args.left x h)
    (subst (λ a. IsType new a y.type) (sym (ap (λ q. q.kind) c.code_of.ensures)) (type_grows old new grows.keeps c.args.right.kind y.type i.type))
    (ap (λ q. q.code) c.code_of.ensures ∙ i.code))
