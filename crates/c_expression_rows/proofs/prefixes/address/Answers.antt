use Rattle.std.proofs.Common.{◌+◌, refl, ◌∙◌}
use Rattle.c_syntax.specs.declared.kind.SynKind.TheVariants as kind
use Rattle.c_typing.specs.Expressions.{address_operator}
use Rattle.c_meanings.specs.declared.meanings.Meanings.{Meanings}
use Rattle.c_meanings.specs.Meanings.{kid_in, node_in}
use Rattle.c_meanings.proofs.MeaningLaws.{expressed_row, its_number, kids_of}
use Rattle.c_expression_rows.proofs.RowLaws.{known_some, with_one}
use Rattle.c_expression_rows.proofs.prefixes.address.Goals as goal

pub take_operand-operand-requires-clause-kids : goal.take_operand-operand-requires-clause-kids
take_operand-operand-requires-clause-kids c = kids_of c.args.nodes.now c.args.node 0 c.args.meanings.now c.requires.ready c.requires.within kind.Unary c.requires.kind

pub address_operator-requires : goal.address_operator-requires
address_operator-requires c = let (x, e) = known_some _ c.requires.there in (x, c.take_operand-operand.ensures.is x e)

pub returns : goal.returns
returns c =
    let table = c.args.nodes.now in
    let n = c.args.node in
    let old = c.args.meanings.now in
    let mid = c.take_operand-operand.new.self in
    let new : Meanings = record { types = c.address_operator.new.table; judged = mid.judged } in
    let (x, e) = known_some _ c.requires.there in
    expressed_row table n (kid_in table n 0 + 1) old mid new c.expressed.result c.take_operand-operand.ensures.ready c.requires.within c.take_operand-operand.ensures.left refl c.address_operator.ensures.grows 0 c.address_operator.result (address_operator (node_in table n) x)
    c.expressed.ensures (c.requires.is ∙ with_one table n _ x e)
    (c.address_operator.ensures.is (node_in table n) x (its_number table n 0 old c.requires.ready c.requires.within) (c.take_operand-operand.ensures.is x e))
