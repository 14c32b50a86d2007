use Rattle.std.proofs.Common.{◌<◌, ◌∙◌, None, ap, length, subst, sym}
use Rattle.c_type_ids.specs.Ids.{Known, AreDistinct, struct_by}
use Rattle.c_type_ids.proofs.TableLaws.{any_default, read_there}
use Rattle.c_type_ids.proofs.table.TypeTable.struct_at.Goals as goal

pub returns-clause-is : goal.returns-clause-is
returns-clause-is c =
    c.index.ensures
    ∙ any_default c.self.inside.structs.items c.args.node c.index.result.now None (subst (λ (k : Known). c.args.node < length k.structs) (sym c.self.view_is) c.requires)
    ∙ ap (λ (k : Known). struct_by k.structs c.args.node) c.self.view_is

pub returns-clause-there : goal.returns-clause-there
returns-clause-there c =
    read_there c.args.self.now c.args.node c.index.result.now (subst AreDistinct c.self.view_is c.self.invariant) (returns-clause-is c)
