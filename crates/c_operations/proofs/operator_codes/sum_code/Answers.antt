use Rattle.std.proofs.Common.{sym, ◌∙◌}
use Rattle.c_operations.proofs.OperandLaws.{mapped}
use Rattle.c_operations.proofs.CodeLaws.{sum_left, sum_right, sum_plain}
use Rattle.c_operations.proofs.operator_codes.sum_code.Goals as goal

pub returns-in_ok-bytes-in-Some-default : goal.returns-in_ok-bytes-in-Some-default
returns-in_ok-bytes-in-Some-default c =
    mapped _ _ c.binary.result c.binary.ensures λ e is o t u ls same laid h i.
    is ∙ sum_left ls o c.args.left.code c.args.right.code t u c.in-Some-default.size c.in_ok-bytes-in-Some-default.bytes (c.in_ok-bytes-in-Some-default.ensures {u = tt})
    (sym c.in-Some-default.is-0 ∙ c.target_size.ensures t ls h laid)

pub returns-in_ok-bytes-in-None-Some : goal.returns-in_ok-bytes-in-None-Some
returns-in_ok-bytes-in-None-Some c =
    mapped _ _ c.binary-in-None-Some.result c.binary-in-None-Some.ensures λ e is o t u ls same laid h i.
    is ∙ sum_right ls o c.args.left.code c.args.right.code t u c.in-None-Some.size c.in_ok-bytes-in-None-Some.bytes (c.in_ok-bytes-in-None-Some.ensures {u = tt})
    (sym c.in-None-Some.is-0 ∙ c.target_size.ensures t ls h laid) (sym c.in-None-Some.is-1 ∙ c.target_size-2.ensures u ls i laid)

pub returns-in-None-None : goal.returns-in-None-None
returns-in-None-None c =
    mapped _ _ c.plain_code.result c.plain_code.ensures λ e is o t u ls same laid h i.
    is o t u same h i ∙ sum_plain ls o c.args.left.code c.args.right.code t u
    (sym c.in-None-None.is-0 ∙ c.target_size.ensures t ls h laid) (sym c.in-None-None.is-1 ∙ c.target_size-2.ensures u ls i laid)
