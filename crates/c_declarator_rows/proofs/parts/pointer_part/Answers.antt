use Rattle.std.proofs.Common.{◌+◌, ◌++◌, ◌∷◌, [], ap, refl, ◌∙◌}
use Rattle.std.specs.Prelude.{Ok}
use Rattle.c_syntax.specs.declared.kind.SynKind.TheVariants as kind
use Rattle.c_typing.specs.Judgements.{means, steps, to_pointer, waits}
use Rattle.c_type_ids.proofs.TableLaws.{grows_same}
use Rattle.c_judgements.specs.declared.judged.Judged.TheVariants as judged
use Rattle.c_meanings.specs.Meanings.{kid_in}
use Rattle.c_meanings.proofs.MeaningLaws.{its_number, kids_of}
use Rattle.c_declarator_rows.proofs.PartLaws.{pointer_part, pointer_waits}
use Rattle.c_declarator_rows.proofs.RowLaws.{row_by}
use Rattle.c_declarator_rows.proofs.parts.pointer_part.Goals as goal

pub take_steps-requires-clause-kids : goal.take_steps-requires-clause-kids
take_steps-requires-clause-kids c = kids_of c.args.nodes.now c.args.node 0 c.args.meanings.now c.requires.ready c.requires.within kind.Pointer c.requires.kind

pub returns-in-Some : goal.returns-in-Some
returns-in-Some c =
    let table = c.args.nodes.now in
    let n = c.args.node in
    let old = c.args.meanings.now in
    let mid = c.take_steps.new.self in
    let own = its_number table n 0 old c.requires.ready c.requires.within in
    let (rs, e, are) = (c.in-Some.ensures {u = tt}).is in
    row_by table n (kid_in table n 0 + 1) old mid mid c.with_step.result (means (steps (rs ++ record { node = n; step = to_pointer } ∷ []))) c.take_steps.ensures.ready c.requires.within c.take_steps.ensures.left refl (grows_same mid.types mid.types refl)
    (pointer_part table n c.requires.kind c.requires.part rs e ∙ ap (λ i. means (steps (rs ++ record { node = i; step = to_pointer } ∷ []))) own) refl (c.with_step.ensures mid.types rs to_pointer are tt)

pub returns-in-None : goal.returns-in-None
returns-in-None c =
    let table = c.args.nodes.now in
    let n = c.args.node in
    let old = c.args.meanings.now in
    let mid = c.take_steps.new.self in
    row_by table n (kid_in table n 0 + 1) old mid mid (Ok judged.Waits) waits c.take_steps.ensures.ready c.requires.within c.take_steps.ensures.left refl (grows_same mid.types mid.types refl)
    (pointer_waits table n c.requires.kind ((c.in-None.ensures {u = tt}).is)) refl (refl, tt, refl)
