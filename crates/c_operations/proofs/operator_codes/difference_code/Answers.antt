use Rattle.std.proofs.Common.{sym, ◌∙◌}
use Rattle.c_operations.proofs.OperandLaws.{mapped}
use Rattle.c_operations.proofs.CodeLaws.{difference_both, difference_left, difference_plain}
use Rattle.c_operations.proofs.operator_codes.difference_code.Goals as goal

pub returns-in_ok-bytes-in-Some-Some : goal.returns-in_ok-bytes-in-Some-Some
returns-in_ok-bytes-in-Some-Some c =
    mapped _ _ c.binary-in-Some-Some.result c.binary-in-Some-Some.ensures λ e is o t u ls same laid h i.
    is ∙ difference_both ls o c.args.left.code c.args.right.code t u c.in-Some-Some.size c.in-Some-Some.field-0-1 c.in_ok-bytes-in-Some-Some.bytes (c.in_ok-bytes-in-Some-Some.ensures {u = tt})
    (sym c.in-Some-Some.is-0 ∙ c.target_size.ensures t ls h laid) (sym c.in-Some-Some.is-1 ∙ c.target_size-2.ensures u ls i laid)

pub returns-in_ok-bytes-in-Some-None : goal.returns-in_ok-bytes-in-Some-None
returns-in_ok-bytes-in-Some-None c =
    mapped _ _ c.binary-in-Some-None.result c.binary-in-Some-None.ensures λ e is o t u ls same laid h i.
    is ∙ difference_left ls o c.args.left.code c.args.right.code t u c.in-Some-None.size c.in_ok-bytes-in-Some-None.bytes (c.in_ok-bytes-in-Some-None.ensures {u = tt})
    (sym c.in-Some-None.is-0 ∙ c.target_size.ensures t ls h laid) (sym c.in-Some-None.is-1 ∙ c.target_size-2.ensures u ls i laid)

pub returns-in-None-default : goal.returns-in-None-default
returns-in-None-default c =
    mapped _ _ c.plain_code.result c.plain_code.ensures λ e is o t u ls same laid h i.
    is o t u same h i ∙ difference_plain ls o c.args.left.code c.args.right.code t u (sym c.in-None-default.is-0 ∙ c.target_size.ensures t ls h laid)
