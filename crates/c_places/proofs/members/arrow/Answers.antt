use Rattle.std.proofs.Common.{None, Some, sym, subst}
use Rattle.c_typing.specs.Types.{target_of}
use Rattle.c_typing.specs.Judgements.{layouts}
use Rattle.c_typing.specs.Conversions.{value_of}
use Rattle.c_typing.specs.Expressions.{field_of}
use Rattle.c_type_ids.specs.Ids.{IsField}
use Rattle.c_places.proofs.MemberLaws.{no_pointed_member, a_pointed_member}
use Rattle.c_places.proofs.members.arrow.Goals as goal

pub returns-in-None-clause-is : goal.returns-in-None-clause-is
returns-in-None-clause-is c = λ js n x laid same text is.
    no_pointed_member c.value_of.new.table c.args.node js n x same
    (subst (λ name. IsField c.value_of.new.table None (field_of (layouts js) (target_of (value_of x).type) name)) (sym text)
    (c.in-None.ensures (value_of x).type (layouts js) (c.kind_of.ensures (value_of x).type (c.in_ok-pointer.ensures.is x is).type) (c.in_ok-pointer.ensures.grows.laid (layouts js) laid)))

pub returns-in-Some-clause-is : goal.returns-in-Some-clause-is
returns-in-Some-clause-is c = λ js n x laid same text is.
    a_pointed_member c.value_of.new.table js n x c.part.result c.in-Some.offset c.in-Some.id c.in_ok-pointer.pointer.code (c.in_ok-pointer.ensures.is x is).code
    (subst (λ name. IsField c.value_of.new.table (Some (c.in-Some.offset, c.in-Some.id)) (field_of (layouts js) (target_of (value_of x).type) name)) (sym text)
    (c.in-Some.ensures (value_of x).type (layouts js) (c.kind_of.ensures (value_of x).type (c.in_ok-pointer.ensures.is x is).type) (c.in_ok-pointer.ensures.grows.laid (layouts js) laid)))
    (c.part.ensures c.value_of.new.table)
