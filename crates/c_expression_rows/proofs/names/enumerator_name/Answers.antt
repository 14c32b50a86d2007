use Rattle.std.proofs.Common.{ap, refl, sym, ◌∙◌}
use Rattle.c_typing.specs.Types.{int}
use Rattle.c_typing.specs.Judgements.{given, means}
use Rattle.c_typing.specs.Expressions.{expression, number_of_type}
use Rattle.c_meanings.specs.declared.meanings.Meanings.{Meanings}
use Rattle.c_meanings.proofs.MeaningLaws.{expressed_row, its_number, nothing_taken, waiting_row}
use Rattle.c_expression_rows.proofs.NameRowLaws.{enumerator_is, none_seen}
use Rattle.c_expression_rows.proofs.names.enumerator_name.Goals as goal

pub returns-in_default : goal.returns-in_default
returns-in_default c =
    let table = c.args.nodes.now in
    let n = c.args.node in
    let m = c.args.meanings.now in
    let (e, denotes, same, at) = c.requires.denotes in
    waiting_row table n 0 m c.requires.ready c.requires.within
    (enumerator_is table n c.requires.kind (its_number table n 0 m c.requires.ready c.requires.within) e c.args.declared denotes same at
    ∙ ap (λ o. given o (λ w. means (expression (number_of_type int w)))) (sym c.word_before.ensures ∙ none_seen c.word_before.result c.in_default.not-Some))

pub returns : goal.returns
returns c =
    let table = c.args.nodes.now in
    let n = c.args.node in
    let old = c.args.meanings.now in
    let new : Meanings = record { types = c.int_constant.new.table; judged = old.judged } in
    let (e, denotes, same, at) = c.requires.denotes in
    expressed_row table n 0 old old new c.expressed.result c.requires.ready c.requires.within (nothing_taken table n old) refl c.int_constant.ensures.grows 0 c.int_constant.result (means (expression (number_of_type int c.in-Some.word)))
    c.expressed.ensures
    (enumerator_is table n c.requires.kind (its_number table n 0 old c.requires.ready c.requires.within) e c.args.declared denotes same at
    ∙ ap (λ o. given o (λ w. means (expression (number_of_type int w)))) (sym c.word_before.ensures ∙ c.in-Some.is))
    c.int_constant.ensures.is
