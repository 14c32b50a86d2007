use Rattle.std.proofs.Common.{◌≡◌, ◌+◌, refl, subst, sym, ◌∙◌, arith}
use Rattle.std.specs.Prelude.{[], ◌∷◌, IfOk, Err}
use Rattle.c_syntax.specs.declared.kind.SynKind.TheVariants as kind
use Rattle.c_types.specs.declared.tree.Stmt.{Stmt}
use Rattle.c_types.specs.Forms.{do_loop}
use Rattle.c_typing.specs.Conversions.{value_of}
use Rattle.c_typing.specs.Judgements.{code_at}
use Rattle.c_typing.specs.Statements.{as_one}
use Rattle.c_type_ids.proofs.TableLaws.{grows_same}
use Rattle.c_answers.specs.declared.refusal.Refusal.TheVariants as refusal
use Rattle.c_meanings.specs.Meanings.{IsAnswered, judged_to, kid_in}
use Rattle.c_meanings.proofs.MeaningLaws.{coded_row, its_number, kids_of, left_on, next_kid, plain_row, waiting_row}
use Rattle.c_statement_rows.proofs.StatementLaws.{absent, allowed, goes_on, no_statement, refused, waits_for, do_is}
use Rattle.c_statement_rows.proofs.loops.do_loop.Goals as goal

pub condition_at-requires-clause-kids : goal.condition_at-requires-clause-kids
condition_at-requires-clause-kids c = kids_of c.args.nodes.now c.args.node 0 c.args.meanings.now c.requires.ready c.requires.within kind.Do c.requires.kind

pub has_code-requires-clause-kids : goal.has_code-requires-clause-kids
has_code-requires-clause-kids c = let h = kids_of c.args.nodes.now c.args.node 0 c.args.meanings.now c.requires.ready c.requires.within kind.Do c.requires.kind in omega (arith, h)

pub take_value-requires-clause-kids : goal.take_value-requires-clause-kids
take_value-requires-clause-kids c = kids_of c.args.nodes.now c.args.node 0 c.args.meanings.now c.requires.ready c.requires.within kind.Do c.requires.kind

pub take_value-requires-clause-ready : goal.take_value-requires-clause-ready
take_value-requires-clause-ready c =
    let table = c.args.nodes.now in
    let n = c.args.node in
    (kid_in table n 0 + 1, next_kid table n 0 c.args.meanings.now c.requires.ready c.requires.within 0 (kids_of c.args.nodes.now c.args.node 0 c.args.meanings.now c.requires.ready c.requires.within kind.Do c.requires.kind), c.take_code-body.ensures.ready)

pub returns-in-Absent : goal.returns-in-Absent
returns-in-Absent c =
    let table = c.args.nodes.now in
    let n = c.args.node in
    waiting_row table n 0 c.args.meanings.now c.requires.ready c.requires.within (do_is table n c.requires.kind ∙ absent table n _ _ (c.in-Absent.ensures {u = tt}))

pub returns-in-NotScalar : goal.returns-in-NotScalar
returns-in-NotScalar c =
    let table = c.args.nodes.now in
    let n = c.args.node in
    let m = c.args.meanings.now in
    let (y, e, other) = c.in-NotScalar.ensures {u = tt} in
    plain_row table n 0 m (Err (refusal.Broken 13 n)) c.requires.ready c.requires.within refl
    (subst (IsAnswered m.types (Err (refusal.Broken 13 n))) (sym (do_is table n c.requires.kind)) (refused table n m.types _ _ y (its_number table n 0 m c.requires.ready c.requires.within) e other))

pub returns-then-not-has_code : goal.returns-then-not-has_code
returns-then-not-has_code c =
    let table = c.args.nodes.now in
    let n = c.args.node in
    let (y, e, scalar) = c.in-Scalar.ensures {u = tt} in
    let none = no_statement c.has_code.result (code_at (judged_to table n) (kid_in table n 0)) c.has_code.ensures c.if-not-has_code.true in
    waiting_row table n 0 c.args.meanings.now c.requires.ready c.requires.within (do_is table n c.requires.kind ∙ allowed table n _ _ y e scalar ∙ waits_for table n (kid_in table n 0) _ none)

pub returns : goal.returns
returns c =
    let table = c.args.nodes.now in
    let n = c.args.node in
    let (y, e, scalar) = c.in-Scalar.ensures {u = tt} in
    let mid = c.take_value.new.self in
    let left = left_on table n c.args.meanings.now c.take_code-body.new.self mid c.take_code-body.ensures.left c.in_ok-condition.ensures.left in
    let body = c.take_code-body.result in
    coded_row table n (kid_in table n 1 + 1) c.args.meanings.now mid mid c.performed.result c.in_ok-condition.ensures.ready c.requires.within left refl (grows_same mid.types mid.types refl) c.loop_after.result (do_loop (as_one body) (value_of y).code ∷ []) c.performed.ensures
    (subst (λ code. IfOk c.loop_after.result (λ ss. ss ≡ do_loop (as_one body) code ∷ [])) (c.in_ok-condition.ensures.is y e).code
    (subst (λ (s : Stmt). IfOk c.loop_after.result (λ ss. ss ≡ do_loop s c.in_ok-condition.condition.code ∷ [])) c.as_one.ensures c.loop_after.ensures))
    (do_is table n c.requires.kind ∙ allowed table n _ _ y e scalar ∙ goes_on table n (kid_in table n 0) _ body c.take_code-body.ensures.is)
