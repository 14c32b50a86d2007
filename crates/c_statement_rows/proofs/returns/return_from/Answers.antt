use Rattle.std.proofs.Common.{◌+◌, false, None, Some, refl, sym, ◌∙◌}
use Rattle.c_types.specs.Forms.{return_with}
use Rattle.c_typing.specs.Conversions.{converted_to, value_of}
use Rattle.c_typing.specs.Judgements.{type_at}
use Rattle.c_typing.specs.Rules.{bad_return}
use Rattle.c_typing.specs.Statements.{result_type_of, return_faults}
use Rattle.c_type_ids.specs.Ids.{Names}
use Rattle.c_type_ids.proofs.IdLaws.{names_grow}
use Rattle.c_type_ids.proofs.TableLaws.{grows_same}
use Rattle.c_meanings.specs.Meanings.{judged_to, kid_in, node_in}
use Rattle.c_meanings.proofs.MeaningLaws.{its_number, no_operand, nothing_taken, operand_seen, waiting_row}
use Rattle.c_statement_rows.proofs.ReturnLaws.{its_function, none_seen, returns_nothing, returns_value, settled_row, waits_for_type, waits_for_value}
use Rattle.c_statement_rows.proofs.returns.return_from.Goals as goal

pub returns-in_default : goal.returns-in_default
returns-in_default c =
    let table = c.args.nodes.now in
    let n = c.args.node in
    let m = c.args.meanings.now in
    let own = its_number table n 0 m c.requires.ready c.requires.within in
    waiting_row table n 0 m c.requires.ready c.requires.within
    (waits_for_type table n c.requires.kind own (none_seen (λ id t. Names m.types id (result_type_of t)) c.result_at.result (type_at (judged_to table n) (its_function table n c.requires.kind own)) c.result_at.ensures c.in_default.not-Some))

pub returns-then-not-has_kid : goal.returns-then-not-has_kid
returns-then-not-has_kid c =
    let table = c.args.nodes.now in
    let n = c.args.node in
    let m = c.args.meanings.now in
    let own = its_number table n 0 m c.requires.ready c.requires.within in
    let (t, e, named) = c.in-Some.ensures {u = tt} in
    settled_row table n 0 m m m c.settled.result c.requires.ready c.requires.within (nothing_taken table n m) refl (grows_same m.types m.types refl) c.return_nothing.result (return_with None) (bad_return false (result_type_of t) n) c.settled.ensures
    (c.return_nothing.ensures (result_type_of t) named) (returns_nothing table n c.requires.kind own t e (sym c.has_kid.ensures ∙ c.if-not-has_kid.true))

pub returns-then-is_none : goal.returns-then-is_none
returns-then-is_none c =
    let table = c.args.nodes.now in
    let n = c.args.node in
    let m = c.args.meanings.now in
    let own = its_number table n 0 m c.requires.ready c.requires.within in
    let (t, e, named) = c.in-Some.ensures {u = tt} in
    waiting_row table n 0 m c.requires.ready c.requires.within
    (waits_for_value table n c.requires.kind own t e (sym c.has_kid.ensures ∙ c.if-not-has_kid.false) (no_operand _ c.operand_at.result c.operand_at.ensures (c.if-is_none.ensures {u = tt})))

pub return_value-requires-clause-gives : goal.return_value-requires-clause-gives
return_value-requires-clause-gives c =
    let (t, e, named) = c.in-Some.ensures {u = tt} in
    (result_type_of t, names_grow c.args.meanings.now.types c.take_value.new.self.types c.in_ok-value.ensures.grows.keeps.types c.in_ok-value.ensures.grows.keeps.structs c.in-Some.gives (result_type_of t) named)

pub return_value-requires-clause-value : goal.return_value-requires-clause-value
return_value-requires-clause-value c =
    let (y, e) = operand_seen _ c.operand_at.result c.operand_at.ensures (c.if-is_none.ensures {u = tt}) in
    (value_of y, c.in_ok-value.ensures.is y e)

pub returns : goal.returns
returns c =
    let table = c.args.nodes.now in
    let n = c.args.node in
    let m = c.args.meanings.now in
    let mid = c.take_value.new.self in
    let own = its_number table n 0 m c.requires.ready c.requires.within in
    let (t, e, named) = c.in-Some.ensures {u = tt} in
    let (y, f) = operand_seen _ c.operand_at.result c.operand_at.ensures (c.if-is_none.ensures {u = tt}) in
    settled_row table n (kid_in table n 0 + 1) m mid mid c.settled-2.result c.in_ok-value.ensures.ready c.requires.within c.in_ok-value.ensures.left refl (grows_same mid.types mid.types refl) c.return_value.result (return_with (Some (converted_to (result_type_of t) (value_of y)))) (return_faults (result_type_of t) (value_of y) (node_in table n)) c.settled-2.ensures
    (c.return_value.ensures (result_type_of t) (value_of y) (node_in table n) (names_grow m.types mid.types c.in_ok-value.ensures.grows.keeps.types c.in_ok-value.ensures.grows.keeps.structs c.in-Some.gives (result_type_of t) named) (c.in_ok-value.ensures.is y f) own (sym c.kid.ensures.is))
    (returns_value table n c.requires.kind own t e (sym c.has_kid.ensures ∙ c.if-not-has_kid.false) y f)
