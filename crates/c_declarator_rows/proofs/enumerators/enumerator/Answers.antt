use Rattle.std.proofs.Common.{◌++◌, refl, subst, sym}
use Rattle.std.specs.Prelude.{Err, Ok}
use Rattle.c_typing.specs.Judgements.{enumerates, verdict, waits}
use Rattle.c_judgements.specs.declared.judged.Judged.TheVariants as judged
use Rattle.c_meanings.specs.declared.meanings.Meanings.{Meanings}
use Rattle.c_meanings.specs.Meanings.{IsAnswered}
use Rattle.c_meanings.proofs.MeaningLaws.{nothing_taken}
use Rattle.c_declarator_rows.specs.Enumerators.{enumerator_names}
use Rattle.c_declarator_rows.proofs.EnumeratorLaws.{named_badly, named_well, value_layout}
use Rattle.c_declarator_rows.proofs.RowLaws.{row_by, still_row}
use Rattle.c_declarator_rows.proofs.enumerators.enumerator.Goals as goal

pub returns-in_default : goal.returns-in_default
returns-in_default c = still_row c.args.nodes.now c.args.node 0 c.args.meanings.now (Ok judged.Waits) waits c.requires.ready c.requires.within (c.in_default.ensures {u = tt}) refl (refl, tt, refl)

pub returns-in-Ok : goal.returns-in-Ok
returns-in-Ok c =
    let table = c.args.nodes.now in
    let n = c.args.node in
    let m = c.args.meanings.now in
    let new : Meanings = record { types = c.check.new.table; judged = m.judged } in
    let names = enumerator_names table n in
    let (fs, w, is, h) = c.in-Some.ensures {u = tt} in
    let (none, done) = (c.in-Ok.ensures {u = tt}).is in
    row_by table n 0 m m new c.enumerated.result (verdict (names ++ fs) (enumerates w)) c.requires.ready c.requires.within (nothing_taken table n m) refl c.check.ensures.grows is (value_layout names fs w)
    (subst (λ a. IsAnswered new.types a (verdict (names ++ fs) (enumerates w))) (sym c.enumerated.ensures) (named_well new.types c.in-Some.value names fs w none h))

pub returns-in-Err : goal.returns-in-Err
returns-in-Err c =
    let table = c.args.nodes.now in
    let n = c.args.node in
    let m = c.args.meanings.now in
    let new : Meanings = record { types = c.check.new.table; judged = m.judged } in
    let names = enumerator_names table n in
    let (fs, w, is, h) = c.in-Some.ensures {u = tt} in
    row_by table n 0 m m new (Err c.in-Err.refusal) (verdict (names ++ fs) (enumerates w)) c.requires.ready c.requires.within (nothing_taken table n m) refl c.check.ensures.grows is (value_layout names fs w)
    (named_badly new.types c.in-Err.refusal names fs w ((c.in-Err.ensures {u = tt}).is))
