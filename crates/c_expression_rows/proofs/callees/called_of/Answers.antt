use Rattle.std.proofs.Common.{ap, subst, sym, ◌∙◌}
use Rattle.c_values.specs.Typings.{IsType, callee_of, form_of}
use Rattle.c_expression_rows.proofs.CallRowLaws.{no_callee, unknown_type}
use Rattle.c_expression_rows.proofs.callees.called_of.Goals as goal

pub returns-in_default : goal.returns-in_default
returns-in_default c = λ f is. no_callee c.args.name.now.form f.form is.form c.in_default.not-Callee

pub called_by_type-requires : goal.called_by_type-requires
called_by_type-requires c = (c.requires.0.type, subst (λ kind. IsType c.args.table.now kind c.requires.0.type) c.in-Known.is c.requires.1.type)

pub returns-in-Known : goal.returns-in-Known
returns-in-Known c = λ f is.
    c.called_by_type.ensures (callee_of c.in-Callee.field-0) f (sym is.form ∙ ap form_of c.in-Callee.is)
    (subst (λ kind. IsType c.args.table.now kind f.type) c.in-Known.is is.type)

pub returns-in_default-kind : goal.returns-in_default-kind
returns-in_default-kind c = λ f is.
    (callee_of c.in-Callee.field-0, sym is.form ∙ ap form_of c.in-Callee.is, unknown_type c.args.table.now c.args.name.now.kind f.type c.in_default-kind.not-Known is.type)
