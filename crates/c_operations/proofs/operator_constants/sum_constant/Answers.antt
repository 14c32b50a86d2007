use Rattle.std.proofs.Common.{sym, ◌∙◌}
use Rattle.c_constants.specs.Constants.{constant_of}
use Rattle.c_operations.specs.Operations.{plain_operator}
use Rattle.c_operations.proofs.ConstantLaws.{up_left, up_right, sum_neither}
use Rattle.c_operations.proofs.operator_constants.sum_constant.Goals as goal

pub returns-in-Some-default : goal.returns-in-Some-default
returns-in-Some-default c = λ o x y ls same laid h i.
    up_left ls (plain_operator o x.type y.type) c.args.node (constant_of c.moved_up.result) (constant_of c.args.left.constant) (constant_of c.args.right.constant) x.constant y.constant
    h.constant i.constant x.type y.type c.in-Some-default.size c.moved_up.ensures (sym c.in-Some-default.is-0 ∙ c.target_size.ensures x.type ls h.type laid)

pub returns-in-None-Some : goal.returns-in-None-Some
returns-in-None-Some c = λ o x y ls same laid h i.
    up_right ls (plain_operator o x.type y.type) c.args.node (constant_of c.moved_up-in-None-Some.result) (constant_of c.args.left.constant) (constant_of c.args.right.constant) x.constant y.constant
    h.constant i.constant x.type y.type c.in-None-Some.size c.moved_up-in-None-Some.ensures
    (sym c.in-None-Some.is-0 ∙ c.target_size.ensures x.type ls h.type laid) (sym c.in-None-Some.is-1 ∙ c.target_size-2.ensures y.type ls i.type laid)

pub returns-in-None-None : goal.returns-in-None-None
returns-in-None-None c = λ o x y ls same laid h i.
    sum_neither ls (plain_operator o x.type y.type) c.args.node (constant_of c.plain_constant.result) x.constant y.constant
    (c.plain_constant.ensures o x y same h i) x.type y.type
    (sym c.in-None-None.is-0 ∙ c.target_size.ensures x.type ls h.type laid) (sym c.in-None-None.is-1 ∙ c.target_size-2.ensures y.type ls i.type laid)
