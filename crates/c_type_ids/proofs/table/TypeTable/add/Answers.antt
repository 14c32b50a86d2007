use Rattle.std.proofs.Common.{subst}
use Rattle.c_type_ids.specs.Ids.{Grows}
use Rattle.c_type_ids.proofs.TableLaws.{known, grown_by, distinct_by}
use Rattle.c_type_ids.proofs.table.TypeTable.add.Goals as goal

pub invariant_of-self : goal.invariant_of-self
invariant_of-self c = distinct_by c.self.inside.types c.add.new.self c.args.kind c.self.inside.structs.items c.add.result c.add.ensures.added c.add.ensures.err c.self.invariant

pub returns-clause-grows : goal.returns-clause-grows
returns-clause-grows c =
    subst (λ k. Grows k (known c.add.new.self c.self.inside.structs.items)) c.self.view_is
    (grown_by c.self.inside.types c.add.new.self c.args.kind c.self.inside.structs.items c.add.result c.add.ensures.added c.add.ensures.err)
