use Rattle.std.proofs.Common.{◌≡◌, ◌+◌, refl, subst}
use Rattle.std.specs.Prelude.{[], ◌∷◌, IfOk}
use Rattle.c_syntax.specs.declared.kind.SynKind.TheVariants as kind
use Rattle.c_types.specs.Forms.{drop_expr}
use Rattle.c_typing.specs.Conversions.{value_of}
use Rattle.c_type_ids.proofs.TableLaws.{grows_same}
use Rattle.c_meanings.specs.Meanings.{kid_in}
use Rattle.c_meanings.proofs.MeaningLaws.{coded_row, kids_of, no_operand, operand_seen, waiting_row}
use Rattle.c_statement_rows.proofs.StatementLaws.{expression_code, expression_waits}
use Rattle.c_statement_rows.proofs.simple.expression.Goals as goal

pub operand_at-requires-clause-kids : goal.operand_at-requires-clause-kids
operand_at-requires-clause-kids c = kids_of c.args.nodes.now c.args.node 0 c.args.meanings.now c.requires.ready c.requires.within kind.ExprStmt c.requires.kind

pub take_value-requires-clause-kids : goal.take_value-requires-clause-kids
take_value-requires-clause-kids c = kids_of c.args.nodes.now c.args.node 0 c.args.meanings.now c.requires.ready c.requires.within kind.ExprStmt c.requires.kind

pub returns-then-is_none : goal.returns-then-is_none
returns-then-is_none c =
    waiting_row c.args.nodes.now c.args.node 0 c.args.meanings.now c.requires.ready c.requires.within
    (expression_waits c.args.nodes.now c.args.node c.requires.kind (no_operand _ c.operand_at.result c.operand_at.ensures (c.if-is_none.ensures {u = tt})))

pub returns : goal.returns
returns c =
    let table = c.args.nodes.now in
    let n = c.args.node in
    let mid = c.take_value.new.self in
    let (y, e) = operand_seen _ c.operand_at.result c.operand_at.ensures (c.if-is_none.ensures {u = tt}) in
    coded_row table n (kid_in table n 0 + 1) c.args.meanings.now mid mid c.performed.result c.in_ok-value.ensures.ready c.requires.within c.in_ok-value.ensures.left refl (grows_same mid.types mid.types refl) c.expression.result (drop_expr (value_of y).code ∷ []) c.performed.ensures
    (subst (λ code. IfOk c.expression.result (λ ss. ss ≡ drop_expr code ∷ [])) (c.in_ok-value.ensures.is y e).code c.expression.ensures)
    (expression_code table n c.requires.kind y e)
