use Rattle.std.proofs.Common.{ap, refl, subst}
use Rattle.c_syntax.specs.declared.syntax.SynNode.{SynNode}
use Rattle.c_typing.specs.Types.{int}
use Rattle.c_typing.specs.Judgements.{means}
use Rattle.c_typing.specs.Expressions.{expression, number_of_type}
use Rattle.c_answers.specs.Answers.{Answers, Expresses}
use Rattle.c_meanings.specs.declared.meanings.Meanings.{Meanings}
use Rattle.c_meanings.specs.Meanings.{node_in}
use Rattle.c_meanings.proofs.MeaningLaws.{expressed_row, nothing_taken}
use Rattle.c_expression_rows.proofs.RowLaws.{character_is}
use Rattle.c_expression_rows.proofs.constants.character.Goals as goal

pub returns : goal.returns
returns c =
    let table = c.args.nodes.now in
    let n = c.args.node in
    let old = c.args.meanings.now in
    let new : Meanings = record { types = c.int_constant.new.table; judged = old.judged } in
    let value = ap (λ (x : SynNode). x.value) c.node.ensures.is in
    expressed_row table n 0 old old new c.expressed.result c.requires.ready c.requires.within (nothing_taken table n old) refl c.int_constant.ensures.grows 0 c.int_constant.result (means (expression (number_of_type int (node_in table n).label.value)))
    c.expressed.ensures (character_is table n c.requires.kind)
    (subst (λ w. Answers (Expresses new.types 0) c.int_constant.result (means (expression (number_of_type int w)))) value c.int_constant.ensures.is)
