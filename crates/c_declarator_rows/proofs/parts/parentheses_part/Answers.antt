use Rattle.std.proofs.Common.{◌+◌, refl}
use Rattle.std.specs.Prelude.{Ok}
use Rattle.c_syntax.specs.declared.kind.SynKind.TheVariants as kind
use Rattle.c_typing.specs.Judgements.{means, steps, waits}
use Rattle.c_type_ids.proofs.TableLaws.{grows_same}
use Rattle.c_judgements.specs.declared.judged.Judged.TheVariants as judged
use Rattle.c_meanings.specs.Meanings.{kid_in}
use Rattle.c_meanings.proofs.MeaningLaws.{kids_of}
use Rattle.c_declarator_rows.proofs.PartLaws.{parentheses_part, parentheses_wait}
use Rattle.c_declarator_rows.proofs.RowLaws.{row_by}
use Rattle.c_declarator_rows.proofs.parts.parentheses_part.Goals as goal

pub take_steps-requires-clause-kids : goal.take_steps-requires-clause-kids
take_steps-requires-clause-kids c = kids_of c.args.nodes.now c.args.node 0 c.args.meanings.now c.requires.ready c.requires.within kind.Paren c.requires.kind

pub returns-in-Some : goal.returns-in-Some
returns-in-Some c =
    let table = c.args.nodes.now in
    let n = c.args.node in
    let mid = c.take_steps.new.self in
    let (rs, e, are) = (c.in-Some.ensures {u = tt}).is in
    row_by table n (kid_in table n 0 + 1) c.args.meanings.now mid mid (Ok (judged.Steps c.in-Some.steps)) (means (steps rs)) c.take_steps.ensures.ready c.requires.within c.take_steps.ensures.left refl (grows_same mid.types mid.types refl)
    (parentheses_part table n c.requires.kind c.requires.declarator c.requires.part rs e) refl (refl, are, refl)

pub returns-in-None : goal.returns-in-None
returns-in-None c =
    let table = c.args.nodes.now in
    let n = c.args.node in
    let mid = c.take_steps.new.self in
    row_by table n (kid_in table n 0 + 1) c.args.meanings.now mid mid (Ok judged.Waits) waits c.take_steps.ensures.ready c.requires.within c.take_steps.ensures.left refl (grows_same mid.types mid.types refl)
    (parentheses_wait table n c.requires.kind c.requires.declarator ((c.in-None.ensures {u = tt}).is)) refl (refl, tt, refl)
