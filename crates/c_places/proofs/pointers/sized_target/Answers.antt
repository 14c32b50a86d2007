use Rattle.c_typing.specs.Judgements.{layouts, in_memory, no_constant}
use Rattle.c_typing.specs.Expressions.{expression}
use Rattle.c_places.proofs.GrowLaws.{made}
use Rattle.c_places.proofs.PointerLaws.{no_size, with_size}
use Rattle.c_places.proofs.pointers.sized_target.Goals as goal

pub returns-in-None : goal.returns-in-None
returns-in-None c = λ js t address laid named.
    no_size c.args.table.now (layouts js) t c.args.node (expression (made t in_memory address no_constant)) (c.in-None.ensures.is t (layouts js) named laid)

pub returns-in-Some : goal.returns-in-Some
returns-in-Some c = λ js t address laid named.
    with_size c.args.table.now (layouts js) t c.args.target c.in-Some.field-0 c.args.node address named (c.in-Some.ensures.is t (layouts js) named laid)
