use Rattle.std.proofs.Common.{ap, refl}
use Rattle.std.specs.Prelude.{Err, is_some}
use Rattle.c_syntax.specs.declared.kind.SynKind.TheVariants as kind
use Rattle.c_typing.specs.Types.{is_scalar}
use Rattle.c_typing.specs.Judgements.{besides}
use Rattle.c_typing.specs.Conversions.{value_of}
use Rattle.c_typing.specs.Rules.{bad_operand}
use Rattle.c_typing.specs.Expressions.{conditional}
use Rattle.c_answers.specs.declared.refusal.Refusal.TheVariants as refusal
use Rattle.c_meanings.specs.declared.meanings.Meanings.{Meanings}
use Rattle.c_meanings.specs.Meanings.{judged_to, node_in}
use Rattle.c_meanings.proofs.MeaningLaws.{expressed_row, its_number, kids_of, plain_row, waiting_row}
use Rattle.c_expression_rows.proofs.ChoiceLaws.{choice_refused, choice_waits, choice_with, choices_there}
use Rattle.c_expression_rows.proofs.choices.conditional.Goals as goal

pub found_of-requires-clause-kids : goal.found_of-requires-clause-kids
found_of-requires-clause-kids c = kids_of c.args.nodes.now c.args.node 0 c.args.meanings.now c.requires.ready c.requires.within kind.Cond c.requires.kind

pub take_parts-requires-clause-kids : goal.take_parts-requires-clause-kids
take_parts-requires-clause-kids c = kids_of c.args.nodes.now c.args.node 0 c.args.meanings.now c.requires.ready c.requires.within kind.Cond c.requires.kind

pub take_parts-requires-clause-decides : goal.take_parts-requires-clause-decides
take_parts-requires-clause-decides c = let ((d, e, scalar), there) = c.in-Whole.ensures {u = tt} in ap is_some e

pub take_parts-requires-clause-first : goal.take_parts-requires-clause-first
take_parts-requires-clause-first c =
    let (decides, there) = c.in-Whole.ensures {u = tt} in
    let (x, y, a, b) = choices_there c.args.nodes.now c.args.node there in
    ap is_some a

pub take_parts-requires-clause-second : goal.take_parts-requires-clause-second
take_parts-requires-clause-second c =
    let (decides, there) = c.in-Whole.ensures {u = tt} in
    let (x, y, a, b) = choices_there c.args.nodes.now c.args.node there in
    ap is_some b

pub returns-in-Waits : goal.returns-in-Waits
returns-in-Waits c = waiting_row c.args.nodes.now c.args.node 0 c.args.meanings.now c.requires.ready c.requires.within (choice_waits c.args.nodes.now c.args.node c.requires.kind (c.in-Waits.ensures {u = tt}))

pub returns-in-NotScalar : goal.returns-in-NotScalar
returns-in-NotScalar c =
    let table = c.args.nodes.now in
    let n = c.args.node in
    let m = c.args.meanings.now in
    plain_row table n 0 m (Err (refusal.Broken 13 n)) c.requires.ready c.requires.within refl
    (choice_refused table n c.requires.kind m.types (its_number table n 0 m c.requires.ready c.requires.within) (c.in-NotScalar.ensures {u = tt}))

pub conditional-requires-clause-decides : goal.conditional-requires-clause-decides
conditional-requires-clause-decides c =
    let ((d, e, scalar), there) = c.in-Whole.ensures {u = tt} in
    let (x, y, a, b) = choices_there c.args.nodes.now c.args.node there in
    (value_of d, (c.in_ok-decides.ensures.is d x y e a b).0)

pub conditional-requires-clause-first : goal.conditional-requires-clause-first
conditional-requires-clause-first c =
    let ((d, e, scalar), there) = c.in-Whole.ensures {u = tt} in
    let (x, y, a, b) = choices_there c.args.nodes.now c.args.node there in
    (value_of x, (c.in_ok-decides.ensures.is d x y e a b).1)

pub conditional-requires-clause-second : goal.conditional-requires-clause-second
conditional-requires-clause-second c =
    let ((d, e, scalar), there) = c.in-Whole.ensures {u = tt} in
    let (x, y, a, b) = choices_there c.args.nodes.now c.args.node there in
    (value_of y, (c.in_ok-decides.ensures.is d x y e a b).2)

pub returns : goal.returns
returns c =
    let table = c.args.nodes.now in
    let n = c.args.node in
    let js = judged_to table n in
    let node = node_in table n in
    let old = c.args.meanings.now in
    let mid = c.take_parts.new.meanings in
    let new : Meanings = record { types = c.conditional.new.table; judged = mid.judged } in
    let ((d, e, scalar), there) = c.in-Whole.ensures {u = tt} in
    let (x, y, a, b) = choices_there table n there in
    let parts = c.in_ok-decides.ensures.is d x y e a b in
    let ready = c.in_ok-decides.ensures.ready in
    expressed_row table n ready.0 old mid new c.expressed.result ready.1 c.requires.within c.in_ok-decides.ensures.left refl c.conditional.ensures.grows 0 c.conditional.result (besides (bad_operand (is_scalar (value_of d).type) node.id) (conditional js node (value_of d) (value_of x) (value_of y)))
    c.expressed.ensures (choice_with table n c.requires.kind d x y e a b)
    (c.conditional.ensures.is js node (value_of d) (value_of x) (value_of y) (its_number table n 0 old c.requires.ready c.requires.within) ready.1.laid parts.0 parts.1 parts.2)
