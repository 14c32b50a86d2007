use Rattle.std.proofs.Common.{sym, subst}
use Rattle.c_types.specs.Sizes.{IsMeasured}
use Rattle.c_type_ids.specs.Ids.{Known}
use Rattle.c_type_ids.proofs.MeasureLaws.{align_told}
use Rattle.c_type_ids.proofs.table.TypeTable.align.Goals as goal

pub returns : goal.returns
returns c = λ t layouts n laid.
    let (m, measured) = c.requires in
    align_told c.args.self.now layouts laid c.args.id t c.align.result m n measured
    (c.align.ensures.is m (subst (λ (k : Known). IsMeasured k.table c.args.id m) (sym c.self.view_is) measured))
