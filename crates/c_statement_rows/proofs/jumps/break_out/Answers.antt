use Rattle.std.proofs.Common.{[], ◌∷◌, refl}
use Rattle.std.specs.Prelude.{Err}
use Rattle.c_types.specs.Forms.{break}
use Rattle.c_nodes.specs.declared.around.Kinds.TheVariants as kinds
use Rattle.c_answers.specs.declared.refusal.Refusal.TheVariants as refusal
use Rattle.c_type_ids.proofs.TableLaws.{grows_same}
use Rattle.c_meanings.proofs.MeaningLaws.{coded_row, its_number, nothing_taken, plain_row}
use Rattle.c_statement_rows.proofs.JumpLaws.{breaks, breaks_nothing}
use Rattle.c_statement_rows.proofs.jumps.break_out.Goals as goal

pub returns-then-is_inside : goal.returns-then-is_inside
returns-then-is_inside c =
    let table = c.args.nodes.now in
    let n = c.args.node in
    let m = c.args.meanings.now in
    coded_row table n 0 m m m c.performed.result c.requires.ready c.requires.within (nothing_taken table n m) refl (grows_same m.types m.types refl) c.one.result (break ∷ []) c.performed.ensures c.one.ensures
    (breaks table n (its_number table n 0 m c.requires.ready c.requires.within) c.requires.kind c.is_inside.result (c.is_inside.ensures kinds.LoopOrSwitch c.requires.around) c.if-is_inside.true)

pub returns-else-is_inside : goal.returns-else-is_inside
returns-else-is_inside c =
    let table = c.args.nodes.now in
    let n = c.args.node in
    let m = c.args.meanings.now in
    plain_row table n 0 m (Err (refusal.Broken 19 n)) c.requires.ready c.requires.within refl
    (breaks_nothing table n (its_number table n 0 m c.requires.ready c.requires.within) c.requires.kind m.types c.is_inside.result (c.is_inside.ensures kinds.LoopOrSwitch c.requires.around) c.if-is_inside.false)
