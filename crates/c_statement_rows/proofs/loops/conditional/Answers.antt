use Rattle.std.proofs.Common.{◌≡◌, ◌+◌, refl, subst, sym, ◌∙◌, arith}
use Rattle.std.specs.Prelude.{[], ◌∷◌, IfOk, Err}
use Rattle.c_syntax.specs.declared.kind.SynKind.TheVariants as kind
use Rattle.c_types.specs.declared.tree.Stmt.{Stmt}
use Rattle.c_types.specs.Forms.{if_else}
use Rattle.c_typing.specs.Conversions.{value_of}
use Rattle.c_typing.specs.Statements.{as_one}
use Rattle.c_type_ids.proofs.TableLaws.{grows_same}
use Rattle.c_answers.specs.declared.refusal.Refusal.TheVariants as refusal
use Rattle.c_meanings.specs.Meanings.{IsAnswered, kid_in}
use Rattle.c_meanings.proofs.MeaningLaws.{coded_row, its_number, kids_of, left_on, next_kid, plain_row, waiting_row}
use Rattle.c_statement_rows.proofs.StatementLaws.{absent, allowed, branches_go, branches_wait, if_is, refused}
use Rattle.c_statement_rows.proofs.loops.conditional.Goals as goal

pub condition_at-requires-clause-kids : goal.condition_at-requires-clause-kids
condition_at-requires-clause-kids c = let h = kids_of c.args.nodes.now c.args.node 0 c.args.meanings.now c.requires.ready c.requires.within kind.If c.requires.kind in omega (arith, h)

pub has_branches-requires-clause-kids : goal.has_branches-requires-clause-kids
has_branches-requires-clause-kids c = kids_of c.args.nodes.now c.args.node 0 c.args.meanings.now c.requires.ready c.requires.within kind.If c.requires.kind

pub take_code-then-requires-clause-kids : goal.take_code-then-requires-clause-kids
take_code-then-requires-clause-kids c = kids_of c.args.nodes.now c.args.node 0 c.args.meanings.now c.requires.ready c.requires.within kind.If c.requires.kind

pub take_other-other-requires-clause-kids : goal.take_other-other-requires-clause-kids
take_other-other-requires-clause-kids c = kids_of c.args.nodes.now c.args.node 0 c.args.meanings.now c.requires.ready c.requires.within kind.If c.requires.kind

pub take_code-then-requires-clause-ready : goal.take_code-then-requires-clause-ready
take_code-then-requires-clause-ready c =
    let table = c.args.nodes.now in
    let n = c.args.node in
    (kid_in table n 0 + 1, next_kid table n 0 c.args.meanings.now c.requires.ready c.requires.within 0 (kids_of c.args.nodes.now c.args.node 0 c.args.meanings.now c.requires.ready c.requires.within kind.If c.requires.kind), c.in_ok-condition.ensures.ready)

pub returns-in-Absent : goal.returns-in-Absent
returns-in-Absent c =
    let table = c.args.nodes.now in
    let n = c.args.node in
    waiting_row table n 0 c.args.meanings.now c.requires.ready c.requires.within (if_is table n c.requires.kind ∙ absent table n _ _ (c.in-Absent.ensures {u = tt}))

pub returns-in-NotScalar : goal.returns-in-NotScalar
returns-in-NotScalar c =
    let table = c.args.nodes.now in
    let n = c.args.node in
    let m = c.args.meanings.now in
    let (y, e, other) = c.in-NotScalar.ensures {u = tt} in
    plain_row table n 0 m (Err (refusal.Broken 13 n)) c.requires.ready c.requires.within refl
    (subst (IsAnswered m.types (Err (refusal.Broken 13 n))) (sym (if_is table n c.requires.kind)) (refused table n m.types _ _ y (its_number table n 0 m c.requires.ready c.requires.within) e other))

pub returns-then-not-has_branches : goal.returns-then-not-has_branches
returns-then-not-has_branches c =
    let table = c.args.nodes.now in
    let n = c.args.node in
    let (y, e, scalar) = c.in-Scalar.ensures {u = tt} in
    waiting_row table n 0 c.args.meanings.now c.requires.ready c.requires.within
    (if_is table n c.requires.kind ∙ allowed table n _ _ y e scalar ∙ branches_wait table n _ (sym c.has_branches.ensures ∙ c.if-not-has_branches.true))

pub returns : goal.returns
returns c =
    let table = c.args.nodes.now in
    let n = c.args.node in
    let (y, e, scalar) = c.in-Scalar.ensures {u = tt} in
    let old = c.args.meanings.now in
    let first = c.take_value.new.self in
    let second = c.take_code-then.new.self in
    let third = c.take_other-other.new.meanings in
    let left = left_on table n old second third (left_on table n old first second c.in_ok-condition.ensures.left c.take_code-then.ensures.left) c.take_other-other.ensures.left in
    let then = c.take_code-then.result in
    let other = c.take_other-other.result in
    coded_row table n c.take_other-other.ensures.ready.0 old third third c.performed.result c.take_other-other.ensures.ready.1 c.requires.within left refl (grows_same third.types third.types refl) c.conditional.result (if_else (value_of y).code (as_one then) other ∷ []) c.performed.ensures
    (subst (λ code. IfOk c.conditional.result (λ ss. ss ≡ if_else code (as_one then) other ∷ [])) (c.in_ok-condition.ensures.is y e).code
    (subst (λ (s : Stmt). IfOk c.conditional.result (λ ss. ss ≡ if_else c.in_ok-condition.condition.code s other ∷ [])) c.as_one.ensures c.conditional.ensures))
    (if_is table n c.requires.kind ∙ allowed table n _ _ y e scalar ∙ branches_go table n _ then other c.take_code-then.ensures.is c.take_other-other.ensures.is)
