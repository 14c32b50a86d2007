use Rattle.c_types.specs.declared.kind.TypeKind.TheVariants as kind
use Rattle.c_types.specs.Sizes.{Has}
use Rattle.c_typing.specs.Types as types
use Rattle.c_typing.specs.Types.{CType}
use Rattle.c_type_ids.specs.Ids.{Names}
use Rattle.c_type_ids.proofs.IdLaws.{if_ok, names_grow}
use Rattle.c_type_ids.proofs.table.TypeTable.pointer.Goals as goal

pub returns-clause-ok : goal.returns-clause-ok
returns-clause-ok c =
    if_ok (λ id. Has c.add_small.new.self.table id (kind.Pointer c.args.to)) (λ id. (t : CType) → Names c.args.self.now c.args.to t → Names c.add_small.new.self id (types.pointer t)) c.add_small.result
    (λ id h t n. (c.args.to, h, names_grow c.args.self.now c.add_small.new.self c.add_small.ensures.grows.keeps.types c.add_small.ensures.grows.keeps.structs c.args.to t n)) c.add_small.ensures.found
