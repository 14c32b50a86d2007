use Rattle.std.proofs.Common.{◌∙◌, None, Some, sym, ap, subst}
use Rattle.c_typing.specs.Judgements.{layouts}
use Rattle.c_typing.specs.Constants.{part_at}
use Rattle.c_typing.specs.Expressions.{field_of, member_form}
use Rattle.c_type_ids.specs.Ids.{IsField}
use Rattle.c_constants.specs.Constants.{constant_of}
use Rattle.c_values.specs.Typings.{form_of}
use Rattle.c_places.proofs.MemberLaws.{no_member, a_member}
use Rattle.c_places.proofs.members.dot.Goals as goal

pub returns-in-None : goal.returns-in-None
returns-in-None c = λ js n x laid same text is.
    no_member c.args.table.now c.args.node js n x same
    (subst (λ name. IsField c.args.table.now None (field_of (layouts js) x.type name)) (sym text) (c.in-None.ensures x.type (layouts js) (c.kind_of.ensures x.type is.type) laid))

pub returns-in-Some : goal.returns-in-Some
returns-in-Some c = λ js n x laid same text is.
    a_member c.args.table.now c.args.node js n x c.part.result c.in-Some.offset c.in-Some.id (form_of c.member_form-form.result) c.args.operand.code (constant_of c.part_at-constant.result)
    (c.member_form-form.ensures ∙ ap (λ f. member_form f) is.form) is.code (c.part_at-constant.ensures ∙ ap (part_at c.in-Some.offset) is.constant)
    (subst (λ name. IsField c.args.table.now (Some (c.in-Some.offset, c.in-Some.id)) (field_of (layouts js) x.type name)) (sym text)
    (c.in-Some.ensures x.type (layouts js) (c.kind_of.ensures x.type is.type) laid))
    (c.part.ensures c.args.table.now)
