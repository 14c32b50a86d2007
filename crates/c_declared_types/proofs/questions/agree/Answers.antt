use Rattle.std.proofs.Common.{◌∙◌, sym}
use Rattle.c_declared_types.proofs.QuestionLaws.{agree_sized, is_sized}
use Rattle.c_declared_types.proofs.questions.agree.Goals as goal

pub returns-in_default : goal.returns-in_default
returns-in_default c = λ t u h i.
    c.is_same-in_default.ensures t u h i
    ∙ sym (agree_sized t u (is_sized c.args.table.now c.args.left t h c.in_default.not-Unsized-0) (is_sized c.args.table.now c.args.right u i c.in_default.not-Unsized-1))
