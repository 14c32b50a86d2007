use Rattle.c_types.specs.declared.kind.TypeKind.TheVariants as kind
use Rattle.c_types.specs.Sizes.{Has}
use Rattle.c_typing.specs.Types as types
use Rattle.c_typing.specs.Types.{CType, CTypes}
use Rattle.c_type_ids.specs.Ids.{Names, NamesAll}
use Rattle.c_type_ids.proofs.IdLaws.{if_ok, names_grow, all_grow}
use Rattle.c_type_ids.proofs.table.TypeTable.function.Goals as goal

pub returns-clause-ok : goal.returns-clause-ok
returns-clause-ok c =
    let grows = c.add_small.ensures.grows in
    if_ok (λ id. Has c.add_small.new.self.table id (kind.Function c.args.gives c.args.takes))
    (λ id. (t : CType) (ts : CTypes) → Names c.args.self.now c.args.gives t → NamesAll c.args.self.now c.args.takes ts → Names c.add_small.new.self id (types.function t ts)) c.add_small.result
    (λ id h t ts n all. (c.args.gives, c.args.takes, h, names_grow c.args.self.now c.add_small.new.self grows.keeps.types grows.keeps.structs c.args.gives t n, all_grow c.args.self.now c.add_small.new.self grows.keeps.types grows.keeps.structs c.args.takes ts all))
    c.add_small.ensures.found
