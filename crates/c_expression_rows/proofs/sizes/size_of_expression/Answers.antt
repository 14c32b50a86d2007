use Rattle.std.proofs.Common.{ap, refl, subst, ◌∙◌}
use Rattle.std.specs.Prelude.{is_some}
use Rattle.c_syntax.specs.declared.kind.SynKind.TheVariants as kind
use Rattle.c_typing.specs.Expressions.{measured_type}
use Rattle.c_answers.specs.Answers.{Answers, Expresses}
use Rattle.c_meanings.specs.declared.meanings.Meanings.{Meanings}
use Rattle.c_meanings.specs.Meanings.{judged_to, kid_in}
use Rattle.c_meanings.proofs.MeaningLaws.{expressed_row, kids_of, nothing_taken, waiting_row}
use Rattle.c_expression_rows.proofs.RowLaws.{no_typing, size_expression_is, with_one, without_one}
use Rattle.c_expression_rows.proofs.sizes.size_of_expression.Goals as goal

pub operand_at-requires-clause-kids : goal.operand_at-requires-clause-kids
operand_at-requires-clause-kids c = kids_of c.args.nodes.now c.args.node 0 c.args.meanings.now c.requires.ready c.requires.within kind.SizeExpr c.requires.kind

pub returns-in_default : goal.returns-in_default
returns-in_default c =
    let table = c.args.nodes.now in
    let n = c.args.node in
    waiting_row table n 0 c.args.meanings.now c.requires.ready c.requires.within
    (size_expression_is table n c.requires.kind ∙ without_one table n _ (ap is_some (no_typing _ c.operand_at.result c.operand_at.ensures c.in_default.not-Some)))

pub returns : goal.returns
returns c =
    let table = c.args.nodes.now in
    let n = c.args.node in
    let js = judged_to table n in
    let old = c.args.meanings.now in
    let new : Meanings = record { types = c.measured_type.new.table; judged = old.judged } in
    let (y, e, is) = c.in-Some.ensures {u = tt} in
    expressed_row table n 0 old old new c.expressed.result c.requires.ready c.requires.within (nothing_taken table n old) refl c.measured_type.ensures.grows 0 c.measured_type.result (measured_type js y.type (kid_in table n 0))
    c.expressed.ensures (size_expression_is table n c.requires.kind ∙ with_one table n _ y e)
    (subst (λ k. Answers (Expresses new.types 0) c.measured_type.result (measured_type js y.type k)) c.kid.ensures.is (c.measured_type.ensures.is js y.type c.requires.ready.laid is.type))
