use Rattle.std.proofs.Common.{◌<◌, length, Some, ◌∷◌, [], ◌++◌, ap, arith, sym, ◌∙◌}
use Rattle.std.specs.Prelude.{map}
use Rattle.std.specs.Option.{is_some}
use Rattle.c_typing.specs.Places.{numbers}
use Rattle.c_typing.specs.Judgements.{all_of, judgement_at}
use Rattle.c_typing.specs.Expressions.{word_of_enumerator}
use Rattle.c_declarator_rows.proofs.ListLaws.{all_next, all_none, kid_asked}
use Rattle.c_declarator_rows.proofs.TagRowLaws.{none_or, some_or}
use Rattle.c_declarator_rows.proofs.tags.are_enumerators.Goals as goal

pub returns-then-is_none : goal.returns-then-is_none
returns-then-is_none c = λ js judged.
    let kids = c.kids-kids.result.now in
    let i = c.loop-kid.kid-index in
    let within : i < length kids = omega (arith, c.loop-kid-test.true, c.loop-kid.auto.kid-index-end) in
    let none = sym (c.word_at.ensures c.args.meanings.now.types js judged) ∙ none_or c.word_at.result (c.if-is_none.ensures {u = tt}) in
    sym (ap is_some (ap (λ ns. all_of (map (λ n. word_of_enumerator (judgement_at js n)) ns)) (sym c.kids-kids.ensures.are)
    ∙ all_none (map (λ n. word_of_enumerator (judgement_at js n)) (numbers kids)) i (kid_asked (λ n. word_of_enumerator (judgement_at js n)) kids i (record { number = 0 }) within ∙ ap Some none)))

pub loop-kid-preserved : goal.loop-kid-preserved
loop-kid-preserved c = λ js judged.
    let kids = c.kids-kids.result.now in
    let i = c.loop-kid.kid-index in
    let within : i < length kids = omega (arith, c.loop-kid-test.true, c.loop-kid.auto.kid-index-end) in
    let (values, e) = c.loop-kid.invariant js judged in
    let (w, f) = some_or c.word_at.result (c.if-is_none.ensures {u = tt}) in (
      values ++ w ∷ [],
      all_next (map (λ n. word_of_enumerator (judgement_at js n)) (numbers kids)) i values w e
          (kid_asked (λ n. word_of_enumerator (judgement_at js n)) kids i (record { number = 0 }) within ∙ ap Some (sym (c.word_at.ensures c.args.meanings.now.types js judged) ∙ f)),
    )
