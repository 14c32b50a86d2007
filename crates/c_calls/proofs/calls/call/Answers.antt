use Rattle.std.proofs.Common.{◌∙◌, refl, sym, ap, subst}
use Rattle.c_type_ids.proofs.TableLaws.{grows_same}
use Rattle.c_values.specs.Typings.{IsType, callee_of, form_of}
use Rattle.c_calls.proofs.CallLaws.{not_callable, function_parts, is_called, called_by_type, call_is}
use Rattle.c_calls.proofs.calls.call.Goals as goal

pub returns-in_default : goal.returns-in_default
returns-in_default c = record {
  is = λ js n f xs same kids all is are. not_callable c.args.table.now c.args.node js n f c.args.name.form same is.form c.in_default.not-Callee;
  grows = grows_same c.args.table.now c.args.table.now refl;
}

pub called-requires-clause-function : goal.called-requires-clause-function
called-requires-clause-function c =
    let (f, is, callable) = c.requires.name in
    function_parts c.args.table.now c.in-Known.id f.type (subst (λ kind. IsType c.args.table.now kind f.type) c.in-Known.is is.type)
    (is_called f.form (callee_of c.in-Callee.callee) f.type (ap form_of (sym c.in-Callee.is) ∙ is.form) callable)

pub returns-clause-is : goal.returns-clause-is
returns-clause-is c = λ js n f xs same kids all is are.
    let (g, g_is, callable) = c.requires.name in
    let (r, ts, named) =
    function_parts c.args.table.now c.in-Known.id g.type (subst (λ kind. IsType c.args.table.now kind g.type) c.in-Known.is g_is.type)
    (is_called g.form (callee_of c.in-Callee.callee) g.type (ap form_of (sym c.in-Callee.is) ∙ g_is.form) callable) in
    call_is c.called.new.table c.called.result js n f (callee_of c.in-Callee.callee) (ap form_of (sym c.in-Callee.is) ∙ is.form)
    (called_by_type c.args.table.now c.called.new.table c.called.result js n (callee_of c.in-Callee.callee) c.in-Known.id f.type r ts named
    (subst (λ kind. IsType c.args.table.now kind f.type) c.in-Known.is is.type)
    (λ gives takes function_named. c.called.ensures.is js n gives takes xs same kids all function_named are))
