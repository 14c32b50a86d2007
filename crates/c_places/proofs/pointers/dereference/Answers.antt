use Rattle.c_typing.specs.Judgements.{layouts}
use Rattle.c_typing.specs.Conversions.{value_of}
use Rattle.c_typing.specs.Expressions.{dereference}
use Rattle.c_places.proofs.PointerLaws.{handed_over, place_answered}
use Rattle.c_places.proofs.pointers.dereference.Goals as goal

pub pointed_type-requires : goal.pointed_type-requires
pointed_type-requires c = ((value_of c.requires.0).type, (c.in_ok-value.ensures.is c.requires.0 c.requires.1).type)

pub returns-in_err-id-clause-is : goal.returns-in_err-id-clause-is
returns-in_err-id-clause-is c = λ js n x laid same is.
    let y = value_of x in
    handed_over c.value_of.new.table c.from_residual-in_err-id.result c.in_err-id.field-0.0 (dereference js n y.type y) c.from_residual-in_err-id.ensures.1
    (c.in_err-id.ensures js n y.type y (c.in_ok-value.ensures.grows.laid (layouts js) laid) same (c.in_ok-value.ensures.is x is).type)

pub returns-clause-is : goal.returns-clause-is
returns-clause-is c = λ js n x laid same is.
    let y = value_of x in
    let value = c.in_ok-value.ensures.is x is in
    place_answered c.value_of.new.table c.in_ok-id.id c.in_ok-value.value.code y (dereference js n y.type y) value.code
    (c.in_ok-id.ensures js n y.type y (c.in_ok-value.ensures.grows.laid (layouts js) laid) same value.type)
