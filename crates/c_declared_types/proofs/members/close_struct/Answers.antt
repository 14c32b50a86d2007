use Rattle.std.proofs.Common.{◌∙◌, sym, ap, subst}
use Rattle.std.specs.Prelude.{Err}
use Rattle.c_typing.specs.Declarators.{layout}
use Rattle.c_answers.specs.Answers.{IsFirst}
use Rattle.c_declared_types.proofs.MemberLaws.{size_fits, size_too_big}
use Rattle.c_declared_types.proofs.members.close_struct.Goals as goal

pub returns-in-Ok-clause-fits : goal.returns-in-Ok-clause-fits
returns-in-Ok-clause-fits c = λ k ls fields laid are. (size_fits (layout ls k fields).measure.size c.args.node (c.in-Ok.ensures.laid.fits k ls fields laid are), tt)

pub returns-in-Err-TooBig-clause-fits : goal.returns-in-Err-TooBig-clause-fits
returns-in-Err-TooBig-clause-fits c = λ k ls fields laid are.
    let told = c.in-Err-TooBig.size in
    subst (IsFirst c.too_big.result)
    (sym (size_too_big (layout ls k fields).measure.size told c.args.node (c.close.ensures.too_big told (c.in-Err-TooBig.is ∙ ap Err c.in-Err-TooBig.field-0-is) k ls fields laid are)))
    c.too_big.ensures.first
