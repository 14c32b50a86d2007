use Rattle.std.proofs.Common.{◌+◌, refl, arith}
use Rattle.c_syntax.specs.declared.kind.SynKind.TheVariants as kind
use Rattle.c_typing.specs.Conversions.{value_of}
use Rattle.c_typing.specs.Expressions.{cast}
use Rattle.c_type_ids.proofs.TableLaws.{grows_same}
use Rattle.c_values.proofs.GrowLaws.{type_grows}
use Rattle.c_meanings.specs.Meanings.{kid_in, node_in}
use Rattle.c_meanings.proofs.MeaningLaws.{expressed_row, its_number, kids_of, no_operand, operand_seen, waiting_row}
use Rattle.c_expression_rows.proofs.RowLaws.{cast_with, cast_without_type, cast_without_value, no_some}
use Rattle.c_expression_rows.proofs.casts.cast.Goals as goal

pub type_at-requires-clause-kids : goal.type_at-requires-clause-kids
type_at-requires-clause-kids c = let h = kids_of c.args.nodes.now c.args.node 0 c.args.meanings.now c.requires.ready c.requires.within kind.Cast c.requires.kind in omega (arith, h)

pub operand_at-requires-clause-kids : goal.operand_at-requires-clause-kids
operand_at-requires-clause-kids c = kids_of c.args.nodes.now c.args.node 0 c.args.meanings.now c.requires.ready c.requires.within kind.Cast c.requires.kind

pub take_value-requires-clause-kids : goal.take_value-requires-clause-kids
take_value-requires-clause-kids c = kids_of c.args.nodes.now c.args.node 0 c.args.meanings.now c.requires.ready c.requires.within kind.Cast c.requires.kind

pub returns-in_default : goal.returns-in_default
returns-in_default c =
    waiting_row c.args.nodes.now c.args.node 0 c.args.meanings.now c.requires.ready c.requires.within
    (cast_without_type c.args.nodes.now c.args.node c.requires.kind (no_some _ c.type_at.result c.type_at.ensures c.in_default.not-Some))

pub returns-then-is_none : goal.returns-then-is_none
returns-then-is_none c =
    let (t, e, is) = c.in-Some.ensures {u = tt} in
    waiting_row c.args.nodes.now c.args.node 0 c.args.meanings.now c.requires.ready c.requires.within
    (cast_without_value c.args.nodes.now c.args.node c.requires.kind t e (no_operand _ c.operand_at.result c.operand_at.ensures (c.if-is_none.ensures {u = tt})))

pub cast-requires-clause-to : goal.cast-requires-clause-to
cast-requires-clause-to c =
    let (t, e, is) = c.in-Some.ensures {u = tt} in
    (t, type_grows c.args.meanings.now.types c.take_value.new.self.types c.in_ok-value.ensures.grows.keeps c.in-Some.to t is)

pub cast-requires-clause-value : goal.cast-requires-clause-value
cast-requires-clause-value c =
    let (x, f) = operand_seen _ c.operand_at.result c.operand_at.ensures (c.if-is_none.ensures {u = tt}) in
    (value_of x, c.in_ok-value.ensures.is x f)

pub returns : goal.returns
returns c =
    let table = c.args.nodes.now in
    let n = c.args.node in
    let old = c.args.meanings.now in
    let mid = c.take_value.new.self in
    let (t, e, is) = c.in-Some.ensures {u = tt} in
    let (x, f) = operand_seen _ c.operand_at.result c.operand_at.ensures (c.if-is_none.ensures {u = tt}) in
    expressed_row table n (kid_in table n 1 + 1) old mid mid c.expressed.result c.in_ok-value.ensures.ready c.requires.within c.in_ok-value.ensures.left refl (grows_same mid.types mid.types refl) 0 c.cast.result (cast (node_in table n) t (value_of x))
    c.expressed.ensures (cast_with table n c.requires.kind t x e f)
    (c.cast.ensures (node_in table n) t (value_of x) (its_number table n 0 old c.requires.ready c.requires.within) (type_grows old.types mid.types c.in_ok-value.ensures.grows.keeps c.in-Some.to t is) (c.in_ok-value.ensures.is x f))
