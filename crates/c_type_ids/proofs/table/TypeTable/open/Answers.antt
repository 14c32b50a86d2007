use Rattle.std.proofs.Common.{◌≡◌, ◌<◌, None, Some, length, subst, sym}
use Rattle.std.specs.Prelude.{slice_set}
use Rattle.c_type_ids.specs.Ids.{Known, Grows, AreDistinct, struct_by}
use Rattle.c_type_ids.proofs.TableLaws.{known, opened_grows, opened_distinct, opened_there}
use Rattle.c_type_ids.proofs.table.TypeTable.open.Goals as goal

none : (c : goal.After-self-1) → struct_by c.self.inside.structs.items c.args.node ≡ None
none c = subst (λ (k : Known). struct_by k.structs c.args.node ≡ None) (sym c.self.view_is) c.requires.none

within : (c : goal.After-self-1) → c.args.node < length c.self.inside.structs.items
within c = subst (λ (k : Known). c.args.node < length k.structs) (sym c.self.view_is) c.requires.within

pub invariant_of-self : goal.invariant_of-self
invariant_of-self c = subst (λ t. AreDistinct (known t c.self.inside.structs.items)) (sym ((c.in_err-s.ensures {u = tt}).err)) c.self.invariant

pub invariant_of-self-2 : goal.invariant_of-self-2
invariant_of-self-2 c =
    opened_distinct c.self.inside.types c.open_struct.new.self c.self.inside.structs.items c.in_ok-s.s c.args.node ((c.in_ok-s.ensures {u = tt}).opened) (none c) (within c) c.self.invariant

pub returns-clause-ok : goal.returns-clause-ok
returns-clause-ok c =
    opened_there c.self.inside.types c.open_struct.new.self c.self.inside.structs.items c.in_ok-s.s c.args.node ((c.in_ok-s.ensures {u = tt}).opened) (none c) (within c)

pub returns-clause-grows : goal.returns-clause-grows
returns-clause-grows c =
    subst (λ k. Grows k (known c.open_struct.new.self (slice_set c.self.inside.structs.items c.args.node (Some c.in_ok-s.s)))) c.self.view_is
    (opened_grows c.self.inside.types c.open_struct.new.self c.self.inside.structs.items c.in_ok-s.s c.args.node ((c.in_ok-s.ensures {u = tt}).opened) (none c) (within c) ((c.in_ok-s.ensures {u = tt}).sizes))
