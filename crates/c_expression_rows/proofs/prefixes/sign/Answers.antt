use Rattle.std.proofs.Common.{◌+◌, ap, refl, sym, ◌∙◌}
use Rattle.c_syntax.specs.declared.kind.SynKind.TheVariants as kind
use Rattle.c_syntax.specs.declared.syntax.SynNode.{SynNode}
use Rattle.c_typing.specs.Conversions.{value_of}
use Rattle.c_typing.specs.Expressions.{sign_operator}
use Rattle.c_meanings.specs.declared.meanings.Meanings.{Meanings}
use Rattle.c_meanings.specs.Meanings.{kid_in, node_in}
use Rattle.c_meanings.proofs.MeaningLaws.{expressed_row, its_number, kids_of}
use Rattle.c_expression_rows.proofs.RowLaws.{known_some, with_one}
use Rattle.c_expression_rows.proofs.prefixes.sign.Goals as goal

pub take_value-requires-clause-kids : goal.take_value-requires-clause-kids
take_value-requires-clause-kids c = kids_of c.args.nodes.now c.args.node 0 c.args.meanings.now c.requires.ready c.requires.within kind.Unary c.requires.kind

pub sign_operator-requires : goal.sign_operator-requires
sign_operator-requires c = let (x, e) = known_some _ c.requires.there in (value_of x, c.in_ok-value.ensures.is x e)

pub returns : goal.returns
returns c =
    let table = c.args.nodes.now in
    let n = c.args.node in
    let old = c.args.meanings.now in
    let mid = c.take_value.new.self in
    let new : Meanings = record { types = c.sign_operator.new.table; judged = mid.judged } in
    let text = sym (c.as_slice-text.ensures ∙ ap (λ (x : SynNode). x.text) c.node.ensures.is) in
    let (x, e) = known_some _ c.requires.there in
    expressed_row table n (kid_in table n 0 + 1) old mid new c.expressed.result c.in_ok-value.ensures.ready c.requires.within c.in_ok-value.ensures.left refl c.sign_operator.ensures.grows 0 c.sign_operator.result (sign_operator (node_in table n) (value_of x))
    c.expressed.ensures (c.requires.is ∙ with_one table n _ x e)
    (c.sign_operator.ensures.is (node_in table n) (value_of x) (its_number table n 0 old c.requires.ready c.requires.within) text (c.in_ok-value.ensures.is x e))
