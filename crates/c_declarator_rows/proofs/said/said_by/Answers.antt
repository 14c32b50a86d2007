use Rattle.std.proofs.Common.{◌<◌, length, Some, ◌∷◌, [], ◌++◌, ap, arith, subst, sym, ◌∙◌}
use Rattle.std.specs.Prelude.{flat_map, map}
use Rattle.c_typing.specs.Places.{numbers}
use Rattle.c_typing.specs.Judgements.{all_of, judgement_at}
use Rattle.c_typing.specs.Declarators.{spec_meaning}
use Rattle.c_declarator_rows.specs.Said.{AreSaid}
use Rattle.c_declarator_rows.proofs.ListLaws.{all_next, all_none, flat_more, kid_asked}
use Rattle.c_declarator_rows.proofs.said.said_by.Goals as goal

pub returns-in-None : goal.returns-in-None
returns-in-None c = λ js judged.
    let kids = c.kids-kids.result.now in
    let i = c.loop-kid.kid-index in
    let within : i < length kids = omega (arith, c.loop-kid-test.true, c.loop-kid.auto.kid-index-end) in
    ap (λ ns. all_of (map (λ n. spec_meaning (judgement_at js n)) ns)) (sym c.kids-kids.ensures.are)
    ∙ all_none (map (λ n. spec_meaning (judgement_at js n)) (numbers kids)) i (kid_asked (λ n. spec_meaning (judgement_at js n)) kids i (record { number = 0 }) within ∙ ap Some (c.in-None.ensures {u = tt} js judged))

pub loop-kid-preserved : goal.loop-kid-preserved
loop-kid-preserved c = λ js judged.
    let kids = c.kids-kids.result.now in
    let i = c.loop-kid.kid-index in
    let within : i < length kids = omega (arith, c.loop-kid-test.true, c.loop-kid.auto.kid-index-end) in
    let k = c.args.meanings.now.types in
    let (tss, e, are) = c.loop-kid.invariant js judged in
    let (ts, f, is) = c.in-Some.ensures {u = tt} js judged in (
      tss ++ ts ∷ [],
      all_next (map (λ n. spec_meaning (judgement_at js n)) (numbers kids)) i tss ts e (kid_asked (λ n. spec_meaning (judgement_at js n)) kids i (record { number = 0 }) within ∙ ap Some f),
      subst (AreSaid k c.joined-said.result) (sym (flat_more tss ts)) (c.joined-said.ensures k (flat_map (λ ts. ts) tss) ts are is),
    )
