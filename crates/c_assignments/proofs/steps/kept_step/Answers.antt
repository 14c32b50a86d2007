use Rattle.std.proofs.Common.{sym, ap, ◌∙◌, subst}
use Rattle.c_typing.specs.Judgements.{layouts}
use Rattle.c_typing.specs.Expressions.{step_operator}
use Rattle.c_values.specs.Typings.{IsType}
use Rattle.c_operations.proofs.OperandLaws.{operand_is}
use Rattle.c_values.proofs.GrowLaws.{is_grows, type_grows}
use Rattle.c_assignments.specs.Assignments.{kept_of}
use Rattle.c_assignments.proofs.CompoundLaws.{one, postfix_allowed, postfix_refused}
use Rattle.c_assignments.proofs.steps.kept_step.Goals as goal

pub returns-in_err-kind-clause-is : goal.returns-in_err-kind-clause-is
returns-in_err-kind-clause-is c = λ p js n x at same number laid h.
    postfix_refused c.compound_type.new.table p js n c.args.node c.args.hidden x at c.from_residual.result c.in_err-kind.field-0.0 c.from_residual.ensures.1
    (c.in_err-kind.ensures.is (layouts js) (step_operator n.label.text) x one x.code laid same h (operand_is c.args.table.now c.args.one c.operand_of.result one c.operand_of.ensures c.requires.one))

pub stepped-requires-clause-value : goal.stepped-requires-clause-value
stepped-requires-clause-value c =
    (c.requires.value.0, is_grows c.args.table.now c.compound_type.new.table c.in_ok-kind.ensures.grows.keeps c.args.value c.requires.value.0 c.requires.value.1)

pub stepped-requires-clause-one : goal.stepped-requires-clause-one
stepped-requires-clause-one c = (
  one.type,
  subst (λ a. IsType c.compound_type.new.table a one.type) (sym (ap (λ q. q.kind) c.code_of.ensures))
      (type_grows c.args.table.now c.compound_type.new.table c.in_ok-kind.ensures.grows.keeps c.args.one.kind one.type c.requires.one.type),
)

pub returns-clause-is : goal.returns-clause-is
returns-clause-is c = λ p js n x at same number laid h.
    let old = c.args.table.now in
    let new = c.compound_type.new.table in
    let grows = c.in_ok-kind.ensures.grows in
    let made = c.in_ok-kind.ensures.is (layouts js) (step_operator n.label.text) x one (kept_of c.args.hidden x.form) laid same h (operand_is old c.args.one c.operand_of.result one c.operand_of.ensures c.requires.one) in
    postfix_allowed new p js n c.args.node c.args.hidden x at c.in_ok-stepped.field-0 number made.0
    (c.in_ok-stepped.ensures (layouts js) (step_operator n.label.text) x one (grows.laid (layouts js) laid) same made.1 (is_grows old new grows.keeps c.args.value x h)
    (subst (λ a. IsType new a one.type) (sym (ap (λ q. q.kind) c.code_of.ensures)) (type_grows old new grows.keeps c.args.one.kind one.type c.requires.one.type))
    (ap (λ q. q.code) c.code_of.ensures ∙ c.requires.one.code))
