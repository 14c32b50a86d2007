use Rattle.std.proofs.Common.{ap, sym, ◌∙◌}
use Rattle.std.specs.Prelude.{◌&&◌}
use Rattle.c_objects.proofs.DefinedLaws.{defines_here, owner_below}
use Rattle.c_objects.proofs.defined.defines.Goals as goal

pub is_definition-requires-clause-within : goal.is_definition-requires-clause-within
is_definition-requires-clause-within c =
    owner_below c.args.scoped.now c.requires.externs.derived c.requires.externs.nodes c.args.names.now c.requires.names c.args.number c.in-Some.name c.requires.within c.in-Some.is
    (sym c.is_static.ensures ∙ c.if-is_static.true)

pub returns-then-is_static : goal.returns-then-is_static
returns-then-is_static c =
    ap (λ b. b && c.is_definition.result) (sym c.if-is_static.true ∙ c.is_static.ensures)
    ∙ defines_here c.args.scoped.now c.requires.externs.derived c.requires.externs.nodes c.args.names.now c.requires.names c.args.number c.in-Some.name c.requires.within c.in-Some.is c.is_definition.result c.is_definition.ensures
