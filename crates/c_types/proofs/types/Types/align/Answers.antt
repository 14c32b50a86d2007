use Rattle.std.proofs.Common.{ap, sym, ◌∙◌, ◌%◌}
use Rattle.c_types.specs.declared.kind.Measure.{Measure}
use Rattle.c_types.proofs.SizeLaws.{align_is, one_measured, size_whole}
use Rattle.c_types.proofs.types.Types.align.Goals as goal

pub returns-clause-is : goal.returns-clause-is
returns-clause-is c = λ m measured. ap (λ (x : Measure). x.align) (one_measured c.args.self.now c.args.id c.sized.result m c.sized.ensures measured)

pub returns-clause-alignment : goal.returns-clause-alignment
returns-clause-alignment c = align_is c.sized.ensures.2

pub returns-clause-whole : goal.returns-clause-whole
returns-clause-whole c = λ size has.
    let same = one_measured c.args.self.now c.args.id c.sized.result _ c.sized.ensures has.1 in
    ap (λ (x : Measure). x.size % c.sized.result.align) (sym same) ∙ size_whole c.sized.ensures.2
