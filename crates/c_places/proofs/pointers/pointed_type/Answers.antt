use Rattle.std.proofs.Common.{subst}
use Rattle.c_values.specs.Typings.{ShownAs}
use Rattle.c_places.proofs.PointerLaws.{to_unsized, no_value}
use Rattle.c_places.proofs.pointers.pointed_type.Goals as goal

pub returns-in-ToUnsized : goal.returns-in-ToUnsized
returns-in-ToUnsized c = λ js n t y laid same is.
    to_unsized c.args.table.now c.args.node js n y same c.in-ToUnsized.field-0 t (subst (λ s. ShownAs c.args.table.now s t) c.in-ToUnsized.is (c.kind_of.ensures t is))

pub returns-in-Unsized : goal.returns-in-Unsized
returns-in-Unsized c = λ js n t y laid same is.
    no_value c.args.table.now c.args.node js n y same c.in-Unsized.field-0 t (subst (λ s. ShownAs c.args.table.now s t) c.in-Unsized.is (c.kind_of.ensures t is))
