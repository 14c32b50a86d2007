use Rattle.std.proofs.Common.{◌+◌, ◌<◌, length, arith, get_or, subst, sym, take}
use Rattle.std.specs.Prelude.{filter_map, map}
use Rattle.c_typing.specs.Types.{types_of}
use Rattle.c_typing.specs.Places.{numbers}
use Rattle.c_typing.specs.Judgements.{type_at}
use Rattle.c_type_ids.specs.Ids.{NamesAll}
use Rattle.c_declarator_rows.specs.Lengths.{HasLengthAt, KidsHaveLengths}
use Rattle.c_declarator_rows.proofs.FunctionRowLaws.{types_next}
use Rattle.c_declarator_rows.proofs.ListLaws.{kid_asked}
use Rattle.c_declarator_rows.proofs.MemberRowLaws.{kid_all}
use Rattle.c_declarator_rows.proofs.functions.parameter_types.Goals as goal

pub loop-kid-preserved : goal.loop-kid-preserved
loop-kid-preserved c = λ js judged have.
    let k = c.args.meanings.now.types in
    let kids = c.other_kids-kids.result.now in
    let i = c.loop-kid.kid-index in
    let within : i < length kids = omega (arith, c.loop-kid-test.true, c.loop-kid.auto.kid-index-end) in
    let d = (get_or kids i (record { number = 0 })).number in
    let has = kid_all (HasLengthAt js) kids i (record { number = 0 }) within (subst (KidsHaveLengths js) (sym c.other_kids-kids.ensures.are) have) in
    subst (λ ids. NamesAll k ids (types_of (filter_map (λ part. part) (take (i + 1) (map (type_at js) (numbers kids)))))) (sym (c.in_ok-push_found.ensures {u = tt}))
    (types_next k (map (type_at js) (numbers kids)) i (type_at js d) c.loop-kid.takes c.id_at.result (kid_asked (type_at js) kids i (record { number = 0 }) within) (c.id_at.ensures js judged has) (c.loop-kid.invariant js judged have))
