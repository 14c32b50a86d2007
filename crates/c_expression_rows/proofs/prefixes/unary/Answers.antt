use Rattle.std.proofs.Common.{ap, sym, ◌∙◌}
use Rattle.std.specs.Prelude.{is_some}
use Rattle.c_syntax.specs.declared.kind.SynKind.TheVariants as kind
use Rattle.c_syntax.specs.declared.syntax.SynNode.{SynNode}
use Rattle.c_meanings.proofs.MeaningLaws.{kids_of, no_operand, operand_seen, waiting_row}
use Rattle.c_expression_rows.proofs.RowLaws.{without_one}
use Rattle.c_expression_rows.proofs.PrefixLaws.{address_is, not_is, sign_is, target_is, unary_waits}
use Rattle.c_expression_rows.proofs.prefixes.unary.Goals as goal

pub operand_at-requires-clause-kids : goal.operand_at-requires-clause-kids
operand_at-requires-clause-kids c = kids_of c.args.nodes.now c.args.node 0 c.args.meanings.now c.requires.ready c.requires.within kind.Unary c.requires.kind

pub returns-then-is_none : goal.returns-then-is_none
returns-then-is_none c =
    let table = c.args.nodes.now in
    let n = c.args.node in
    waiting_row table n 0 c.args.meanings.now c.requires.ready c.requires.within
    (unary_waits table n c.requires.kind ∙ without_one table n _ (ap is_some (no_operand _ c.operand_at.result c.operand_at.ensures (c.if-is_none.ensures {u = tt}))))

pub address-requires-clause-there : goal.address-requires-clause-there
address-requires-clause-there c = let (x, e) = operand_seen _ c.operand_at.result c.operand_at.ensures (c.if-is_none.ensures {u = tt}) in ap is_some e

pub target-requires-clause-there : goal.target-requires-clause-there
target-requires-clause-there c = let (x, e) = operand_seen _ c.operand_at.result c.operand_at.ensures (c.if-is_none.ensures {u = tt}) in ap is_some e

pub not-requires-clause-there : goal.not-requires-clause-there
not-requires-clause-there c = let (x, e) = operand_seen _ c.operand_at.result c.operand_at.ensures (c.if-is_none.ensures {u = tt}) in ap is_some e

pub sign-requires-clause-there : goal.sign-requires-clause-there
sign-requires-clause-there c = let (x, e) = operand_seen _ c.operand_at.result c.operand_at.ensures (c.if-is_none.ensures {u = tt}) in ap is_some e

pub address-requires-clause-is : goal.address-requires-clause-is
address-requires-clause-is c = address_is c.args.nodes.now c.args.node c.requires.kind (sym (c.as_slice.ensures ∙ ap (λ (x : SynNode). x.text) c.node.ensures.is) ∙ c.in-text.is)

pub target-requires-clause-is : goal.target-requires-clause-is
target-requires-clause-is c = target_is c.args.nodes.now c.args.node c.requires.kind (sym (c.as_slice.ensures ∙ ap (λ (x : SynNode). x.text) c.node.ensures.is) ∙ c.in-text-2.is)

pub not-requires-clause-is : goal.not-requires-clause-is
not-requires-clause-is c = not_is c.args.nodes.now c.args.node c.requires.kind (sym (c.as_slice.ensures ∙ ap (λ (x : SynNode). x.text) c.node.ensures.is) ∙ c.in-text-3.is)

pub sign-requires-clause-is : goal.sign-requires-clause-is
sign-requires-clause-is c =
    sign_is c.args.nodes.now c.args.node c.requires.kind c.as_slice.result.now (sym (c.as_slice.ensures ∙ ap (λ (x : SynNode). x.text) c.node.ensures.is)) c.requires.text c.in_default.not-text c.in_default.not-text-2 c.in_default.not-text-3
