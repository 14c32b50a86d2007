use Rattle.std.proofs.Common.{subst, sym}
use Rattle.std.specs.List.{AllByRecursion}
use Rattle.std.specs.Prelude.{OnOk}
use Rattle.c_types.specs.Sizes.{IsOpen, IsSized}
use Rattle.c_type_ids.specs.Ids.{Known, IsClosedBy, IsTooBigBy}
use Rattle.c_type_ids.proofs.TableLaws.{known}
use Rattle.c_type_ids.proofs.CloseLaws.{distinct_after, closed_after, too_big_by}
use Rattle.c_type_ids.proofs.table.TypeTable.close.Goals as goal

pub close_struct-requires-clause-sized : goal.close_struct-requires-clause-sized
close_struct-requires-clause-sized c = subst (λ (k : Known). AllByRecursion (λ m. IsSized k.table m.1) c.args.members.now) (sym c.self.view_is) c.requires.sized

pub invariant_of-self : goal.invariant_of-self
invariant_of-self c =
    distinct_after (known c.self.inside.types c.self.inside.structs.items) c.self.invariant c.close_struct.new.self c.args.s c.args.members.now c.close_struct.result c.close_struct.ensures.closed c.close_struct.ensures.err

pub returns-clause-laid : goal.returns-clause-laid
returns-clause-laid c =
    subst (λ k. OnOk c.close_struct.result (IsClosedBy k (known c.close_struct.new.self c.self.inside.structs.items) c.args.s c.args.members.now)) c.self.view_is
    (closed_after (known c.self.inside.types c.self.inside.structs.items) c.self.invariant c.close_struct.new.self c.args.s c.args.members.now c.close_struct.result c.close_struct.ensures.closed c.close_struct.ensures.err
    (subst (λ (k : Known). IsOpen k.table c.args.s) (sym c.self.view_is) c.requires.open)
    (subst (λ (k : Known). AllByRecursion (λ m. IsSized k.table m.1) c.args.members.now) (sym c.self.view_is) c.requires.sized)
    c.close_struct.ensures.sizes c.close_struct.ensures.fits)

pub returns-clause-too_big : goal.returns-clause-too_big
returns-clause-too_big c = λ size e.
    subst (λ k. IsTooBigBy k c.args.s c.args.members.now size) c.self.view_is
    (too_big_by (known c.self.inside.types c.self.inside.structs.items) c.args.s c.args.members.now
    (subst (λ (k : Known). AllByRecursion (λ m. IsSized k.table m.1) c.args.members.now) (sym c.self.view_is) c.requires.sized) size (c.close_struct.ensures.too_big size e))
