use Rattle.std.proofs.Common.{refl, sym, ◌∙◌}
use Rattle.c_syntax.specs.declared.kind.SynKind.TheVariants as kind
use Rattle.c_typing.specs.Conversions.{value_of}
use Rattle.c_typing.specs.Expressions.{comma}
use Rattle.c_type_ids.proofs.TableLaws.{grows_same}
use Rattle.c_meanings.proofs.MeaningLaws.{expressed_row, kids_of, waiting_row}
use Rattle.c_expression_rows.proofs.RowLaws.{both_there, comma_is, with_two, without_two}
use Rattle.c_expression_rows.proofs.operators.comma.Goals as goal

pub are_operands-requires-clause-kids : goal.are_operands-requires-clause-kids
are_operands-requires-clause-kids c = kids_of c.args.nodes.now c.args.node 0 c.args.meanings.now c.requires.ready c.requires.within kind.Comma c.requires.kind

pub take_values-requires-clause-kids : goal.take_values-requires-clause-kids
take_values-requires-clause-kids c = kids_of c.args.nodes.now c.args.node 0 c.args.meanings.now c.requires.ready c.requires.within kind.Comma c.requires.kind

pub returns-then-not-are_operands : goal.returns-then-not-are_operands
returns-then-not-are_operands c =
    let table = c.args.nodes.now in
    let n = c.args.node in
    waiting_row table n 0 c.args.meanings.now c.requires.ready c.requires.within (comma_is table n c.requires.kind ∙ without_two table n _ (sym c.are_operands.ensures ∙ c.if-not-are_operands.true))

pub comma-requires : goal.comma-requires
comma-requires c =
    let (x, y, a, b) = both_there c.args.nodes.now c.args.node (sym c.are_operands.ensures ∙ c.if-not-are_operands.false) in
    (value_of y, (c.in_ok-left.ensures.is x y a b).1)

pub returns : goal.returns
returns c =
    let table = c.args.nodes.now in
    let n = c.args.node in
    let mid = c.take_values.new.meanings in
    let (x, y, a, b) = both_there table n (sym c.are_operands.ensures ∙ c.if-not-are_operands.false) in
    let values = c.in_ok-left.ensures.is x y a b in
    let ready = c.in_ok-left.ensures.ready in
    expressed_row table n ready.0 c.args.meanings.now mid mid c.expressed.result ready.1 c.requires.within c.in_ok-left.ensures.left refl (grows_same mid.types mid.types refl) 0 c.comma.result (comma (value_of x) (value_of y))
    c.expressed.ensures (comma_is table n c.requires.kind ∙ with_two table n _ x y a b)
    (c.comma.ensures mid.types (value_of x) (value_of y) values.0 values.1)
