use Rattle.std.proofs.Common.{ap, refl, subst}
use Rattle.c_syntax.specs.declared.syntax.SynNode.{SynNode}
use Rattle.c_typing.specs.Judgements.{means}
use Rattle.c_typing.specs.Expressions.{expression, integer_type, number_of_type}
use Rattle.c_answers.specs.Answers.{Answers, Expresses}
use Rattle.c_meanings.specs.declared.meanings.Meanings.{Meanings}
use Rattle.c_meanings.specs.Meanings.{node_in}
use Rattle.c_meanings.proofs.MeaningLaws.{expressed_row, nothing_taken}
use Rattle.c_expression_rows.proofs.RowLaws.{integer_is}
use Rattle.c_expression_rows.proofs.constants.integer.Goals as goal

pub returns : goal.returns
returns c =
    let table = c.args.nodes.now in
    let n = c.args.node in
    let old = c.args.meanings.now in
    let new : Meanings = record { types = c.integer_constant.new.table; judged = old.judged } in
    let value = ap (λ (x : SynNode). x.value) c.node.ensures.is in
    expressed_row table n 0 old old new c.expressed.result c.requires.ready c.requires.within (nothing_taken table n old) refl c.integer_constant.ensures.grows 0 c.integer_constant.result (means (expression (number_of_type (integer_type c.args.of_type) (node_in table n).label.value)))
    c.expressed.ensures (integer_is table n c.args.of_type c.requires.kind)
    (subst (λ w. Answers (Expresses new.types 0) c.integer_constant.result (means (expression (number_of_type (integer_type c.args.of_type) w)))) value c.integer_constant.ensures.is)
