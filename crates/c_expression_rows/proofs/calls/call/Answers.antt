use Rattle.std.proofs.Common.{refl, subst, sym, ◌∙◌}
use Rattle.std.specs.Prelude.{Err}
use Rattle.c_syntax.specs.declared.kind.SynKind.TheVariants as kind
use Rattle.c_typing.specs.Expressions.{call_by}
use Rattle.c_values.specs.Typings.{Is}
use Rattle.c_answers.specs.declared.refusal.Refusal.TheVariants as refusal
use Rattle.c_meanings.specs.declared.meanings.Meanings.{Meanings}
use Rattle.c_meanings.specs.Meanings.{judged_to, node_in}
use Rattle.c_meanings.proofs.MeaningLaws.{expressed_row, its_number, kids_of, left_on, plain_row, waiting_row}
use Rattle.c_expression_rows.proofs.CallRowLaws.{call_with}
use Rattle.c_expression_rows.proofs.calls.call.Goals as goal

pub called_at-requires-clause-kids : goal.called_at-requires-clause-kids
called_at-requires-clause-kids c = kids_of c.args.nodes.now c.args.node 0 c.args.meanings.now c.requires.ready c.requires.within kind.Call c.requires.kind

pub take_operand-name-requires-clause-kids : goal.take_operand-name-requires-clause-kids
take_operand-name-requires-clause-kids c = kids_of c.args.nodes.now c.args.node 0 c.args.meanings.now c.requires.ready c.requires.within kind.Call c.requires.kind

pub take_arguments-requires-clause-kids : goal.take_arguments-requires-clause-kids
take_arguments-requires-clause-kids c = kids_of c.args.nodes.now c.args.node 0 c.args.meanings.now c.requires.ready c.requires.within kind.Call c.requires.kind

pub returns-in-Waits : goal.returns-in-Waits
returns-in-Waits c = waiting_row c.args.nodes.now c.args.node 0 c.args.meanings.now c.requires.ready c.requires.within (c.in-Waits.ensures {u = tt})

pub returns-in-NoFunction : goal.returns-in-NoFunction
returns-in-NoFunction c = plain_row c.args.nodes.now c.args.node 0 c.args.meanings.now (Err (refusal.Broken 16 c.args.node)) c.requires.ready c.requires.within refl (c.in-NoFunction.ensures {u = tt})

pub returns-in-WrongNumber : goal.returns-in-WrongNumber
returns-in-WrongNumber c = plain_row c.args.nodes.now c.args.node 0 c.args.meanings.now (Err (refusal.Broken 15 c.args.node)) c.requires.ready c.requires.within refl (c.in-WrongNumber.ensures {u = tt})

pub call-requires-clause-name : goal.call-requires-clause-name
call-requires-clause-name c =
    let (f, xs, e, all, callable) = c.in-Fits.ensures {u = tt} in
    (f, subst (λ k. Is k c.take_operand-name.result f) (sym c.in_ok-arguments.ensures.types) (c.take_operand-name.ensures.is f e), callable)

pub returns : goal.returns
returns c =
    let table = c.args.nodes.now in
    let n = c.args.node in
    let js = judged_to table n in
    let old = c.args.meanings.now in
    let first = c.take_operand-name.new.self in
    let mid = c.take_arguments.new.meanings in
    let new : Meanings = record { types = c.call.new.table; judged = mid.judged } in
    let (f, xs, e, all, callable) = c.in-Fits.ensures {u = tt} in
    let ready = c.in_ok-arguments.ensures.ready in
    expressed_row table n ready.0 old mid new c.expressed.result ready.1 c.requires.within (left_on table n old first mid c.take_operand-name.ensures.left c.in_ok-arguments.ensures.left) refl c.call.ensures.grows 0 c.call.result (call_by js (node_in table n) f f.form)
    c.expressed.ensures (call_with table n c.requires.kind f e)
    (c.call.ensures.is js (node_in table n) f xs (its_number table n 0 old c.requires.ready c.requires.within) (sym (c.as_slice.ensures.value ∙ c.in_ok-kids.ensures {u = tt})) all
    (subst (λ k. Is k c.take_operand-name.result f) (sym c.in_ok-arguments.ensures.types) (c.take_operand-name.ensures.is f e)) (c.in_ok-arguments.ensures.are xs all))
