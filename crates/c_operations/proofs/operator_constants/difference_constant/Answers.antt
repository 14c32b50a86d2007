use Rattle.c_constants.specs.Constants.{constant_of}
use Rattle.c_operations.specs.Operations.{plain_operator}
use Rattle.c_operations.proofs.ConstantLaws.{down_left, difference_neither}
use Rattle.c_operations.proofs.operator_constants.difference_constant.Goals as goal

pub returns-in-Some : goal.returns-in-Some
returns-in-Some c = λ o x y ls same laid h i.
    down_left ls (plain_operator o x.type y.type) c.args.node (constant_of c.moved_down.result) (constant_of c.args.left.constant) (constant_of c.args.right.constant) x.constant y.constant
    h.constant i.constant x.type y.type c.in-Some.size c.moved_down.ensures (c.in-Some.ensures x.type ls h.type laid)

pub returns-in-None : goal.returns-in-None
returns-in-None c = λ o x y ls same laid h i.
    difference_neither ls (plain_operator o x.type y.type) c.args.node (constant_of c.plain_constant.result) x.constant y.constant
    (c.plain_constant.ensures o x y same h i) x.type y.type (c.in-None.ensures x.type ls h.type laid)
