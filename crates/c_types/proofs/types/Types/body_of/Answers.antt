use Rattle.std.proofs.Common.{sym, subst, ap, ◌∙◌, length}
use Rattle.std.proofs.lemmas.List.{length-map}
use Rattle.c_types.specs.InOrder.{AreAligned}
use Rattle.c_types.proofs.SizeLaws.{all_aligned}
use Rattle.c_types.proofs.FieldLaws.{all_long}
use Rattle.c_types.proofs.types.Types.body_of.Goals as goal

pub struct_measure-requires : goal.struct_measure-requires
struct_measure-requires c = subst AreAligned (sym c.deref.ensures.value) (all_aligned c.in_ok-measures.ensures)

pub body_from-requires-clause-aligned : goal.body_from-requires-clause-aligned
body_from-requires-clause-aligned c = subst AreAligned (sym c.deref-2.ensures.value) (all_aligned c.in_ok-measures.ensures)

pub body_from-requires-clause-long : goal.body_from-requires-clause-long
body_from-requires-clause-long c = ap length c.deref-2.ensures.value ∙ all_long c.in_ok-measures.ensures ∙ length-map c.args.members.now _
