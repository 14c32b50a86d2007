use Rattle.std.proofs.Common.{[], ◌∷◌, refl, sym, ◌∙◌, arith}
use Rattle.std.specs.Prelude.{Err}
use Rattle.c_syntax.specs.declared.kind.SynKind.TheVariants as kind
use Rattle.c_types.specs.Forms.{loop}
use Rattle.c_typing.specs.Judgements.{code_at}
use Rattle.c_typing.specs.Statements.{as_one, block_of, code_in}
use Rattle.c_type_ids.proofs.TableLaws.{grows_same}
use Rattle.c_answers.specs.declared.refusal.Refusal.TheVariants as refusal
use Rattle.c_meanings.specs.Meanings.{judged_to, kid_in}
use Rattle.c_meanings.proofs.MeaningLaws.{coded_row, its_number, kids_of, plain_row, waiting_row}
use Rattle.c_statement_rows.specs.Parts.{first_at, part_at}
use Rattle.c_statement_rows.proofs.ForLaws.{for_means, known, no_body, no_first, no_step, no_test, test_refused, with_all}
use Rattle.c_statement_rows.proofs.fors.for_loop.Goals as goal

pub test_at-requires-clause-kids : goal.test_at-requires-clause-kids
test_at-requires-clause-kids c = let h = kids_of c.args.nodes.now c.args.node 0 c.args.meanings.now c.requires.ready c.requires.within kind.For c.requires.kind in omega (arith, h)

pub has_first-requires-clause-kids : goal.has_first-requires-clause-kids
has_first-requires-clause-kids c = let h = kids_of c.args.nodes.now c.args.node 0 c.args.meanings.now c.requires.ready c.requires.within kind.For c.requires.kind in omega (arith, h)

pub has_part-requires-clause-kids : goal.has_part-requires-clause-kids
has_part-requires-clause-kids c = let h = kids_of c.args.nodes.now c.args.node 0 c.args.meanings.now c.requires.ready c.requires.within kind.For c.requires.kind in omega (arith, h)

pub has_code-requires-clause-kids : goal.has_code-requires-clause-kids
has_code-requires-clause-kids c = kids_of c.args.nodes.now c.args.node 0 c.args.meanings.now c.requires.ready c.requires.within kind.For c.requires.kind

pub take_for-requires-clause-kids : goal.take_for-requires-clause-kids
take_for-requires-clause-kids c = kids_of c.args.nodes.now c.args.node 0 c.args.meanings.now c.requires.ready c.requires.within kind.For c.requires.kind

pub returns-in-Absent : goal.returns-in-Absent
returns-in-Absent c = waiting_row c.args.nodes.now c.args.node 0 c.args.meanings.now c.requires.ready c.requires.within (no_test c.args.nodes.now c.args.node c.requires.kind (c.in-Absent.ensures {u = tt}))

pub returns-in-NotScalar : goal.returns-in-NotScalar
returns-in-NotScalar c =
    let table = c.args.nodes.now in
    let n = c.args.node in
    let m = c.args.meanings.now in
    let (v, e, faults) = c.in-NotScalar.ensures {u = tt} in
    plain_row table n 0 m (Err (refusal.Broken 13 n)) c.requires.ready c.requires.within refl
    (test_refused table n c.requires.kind m.types v (its_number table n 0 m c.requires.ready c.requires.within) e faults)

pub returns-then-not-has_first : goal.returns-then-not-has_first
returns-then-not-has_first c =
    let table = c.args.nodes.now in
    let n = c.args.node in
    let (v, e, faults) = c.in-Scalar.ensures {u = tt} in
    waiting_row table n 0 c.args.meanings.now c.requires.ready c.requires.within (no_first table n c.requires.kind v e faults (sym c.has_first.ensures ∙ c.if-not-has_first.true))

pub returns-then-not-has_part : goal.returns-then-not-has_part
returns-then-not-has_part c =
    let table = c.args.nodes.now in
    let n = c.args.node in
    let (v, e, faults) = c.in-Scalar.ensures {u = tt} in
    waiting_row table n 0 c.args.meanings.now c.requires.ready c.requires.within (no_step table n c.requires.kind v e faults (sym c.has_part.ensures ∙ c.if-not-has_part.true))

pub returns-then-not-has_code : goal.returns-then-not-has_code
returns-then-not-has_code c =
    let table = c.args.nodes.now in
    let n = c.args.node in
    let (v, e, faults) = c.in-Scalar.ensures {u = tt} in
    waiting_row table n 0 c.args.meanings.now c.requires.ready c.requires.within (no_body table n c.requires.kind v e faults (sym c.has_code.ensures ∙ c.if-not-has_code.true))

pub returns : goal.returns
returns c =
    let table = c.args.nodes.now in
    let n = c.args.node in
    let mid = c.take_for.new.meanings in
    let (v, e, faults) = c.in-Scalar.ensures {u = tt} in
    let (f, first) = known (first_at table n) (sym c.has_first.ensures ∙ c.if-not-has_first.false) in
    let (w, step) = known (part_at table n 2) (sym c.has_part.ensures ∙ c.if-not-has_part.false) in
    let (b, body) = known (code_at (judged_to table n) (kid_in table n 3)) (sym c.has_code.ensures ∙ c.if-not-has_code.false) in
    coded_row table n c.take_for.ensures.ready.0 c.args.meanings.now mid mid c.performed.result c.take_for.ensures.ready.1 c.requires.within c.take_for.ensures.left refl (grows_same mid.types mid.types refl) c.take_for.result (block_of (f ∷ loop (code_in v) (code_in w) (as_one b) ∷ []) ∷ []) c.performed.ensures
    (with_all table n c.take_for.result v w f b e first step body c.take_for.ensures.is) (for_means table n c.requires.kind v e faults w f b step first body)
