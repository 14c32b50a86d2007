use Rattle.std.proofs.Common.{ap, refl, subst, ◌∙◌}
use Rattle.c_syntax.specs.declared.kind.SynKind.TheVariants as kind
use Rattle.c_typing.specs.Types.{CType}
use Rattle.c_typing.specs.Judgements.{given}
use Rattle.c_typing.specs.Expressions.{measured_type}
use Rattle.c_answers.specs.Answers.{Answers, Expresses}
use Rattle.c_meanings.specs.declared.meanings.Meanings.{Meanings}
use Rattle.c_meanings.specs.Meanings.{judged_to, kid_in}
use Rattle.c_meanings.proofs.MeaningLaws.{expressed_row, kids_of, nothing_taken, waiting_row}
use Rattle.c_expression_rows.proofs.RowLaws.{no_some, size_type_is}
use Rattle.c_expression_rows.proofs.sizes.size_of_type.Goals as goal

pub type_at-requires-clause-kids : goal.type_at-requires-clause-kids
type_at-requires-clause-kids c = kids_of c.args.nodes.now c.args.node 0 c.args.meanings.now c.requires.ready c.requires.within kind.SizeType c.requires.kind

pub returns-in_default : goal.returns-in_default
returns-in_default c =
    let table = c.args.nodes.now in
    let n = c.args.node in
    waiting_row table n 0 c.args.meanings.now c.requires.ready c.requires.within
    (size_type_is table n c.requires.kind ∙ ap (λ o. given o (λ (t : CType). measured_type (judged_to table n) t (kid_in table n 0))) (no_some _ c.type_at.result c.type_at.ensures c.in_default.not-Some))

pub returns : goal.returns
returns c =
    let table = c.args.nodes.now in
    let n = c.args.node in
    let js = judged_to table n in
    let old = c.args.meanings.now in
    let new : Meanings = record { types = c.measured_type.new.table; judged = old.judged } in
    let (t, e, is) = c.in-Some.ensures {u = tt} in
    expressed_row table n 0 old old new c.expressed.result c.requires.ready c.requires.within (nothing_taken table n old) refl c.measured_type.ensures.grows 0 c.measured_type.result (measured_type js t (kid_in table n 0))
    c.expressed.ensures (size_type_is table n c.requires.kind ∙ ap (λ o. given o (λ (t : CType). measured_type js t (kid_in table n 0))) e)
    (subst (λ k. Answers (Expresses new.types 0) c.measured_type.result (measured_type js t k)) c.kid.ensures.is (c.measured_type.ensures.is js t c.requires.ready.laid is))
