use Rattle.std.proofs.Common.{◌∙◌, sym, ap, subst}
use Rattle.std.specs.Prelude.{Err}
use Rattle.c_answers.specs.Answers.{IsFirst}
use Rattle.c_declared_types.proofs.BuildLaws.{array_fits, array_too_big}
use Rattle.c_declared_types.proofs.built.limited_array_of.Goals as goal

pub returns-in-Ok-clause-is : goal.returns-in-Ok-clause-is
returns-in-Ok-clause-is c = λ ls t laid named.
    (array_fits c.args.table.now ls laid c.args.id t named c.args.count c.args.node c.requires c.in-Ok.ensures.fits, c.in-Ok.ensures.ok t named)

pub returns-in-Err-TooBig-clause-is : goal.returns-in-Err-TooBig-clause-is
returns-in-Err-TooBig-clause-is c = λ ls t laid named.
    let size = c.in-Err-TooBig.size in
    subst (IsFirst c.too_big.result)
    (sym (array_too_big c.args.table.now ls laid c.args.id t named c.args.count c.args.node size (c.array.ensures.too_big size (c.in-Err-TooBig.is ∙ ap Err c.in-Err-TooBig.field-0-is))))
    c.too_big.ensures.first
