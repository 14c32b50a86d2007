use Rattle.std.proofs.Common.{subst, sym, ◌∙◌}
use Rattle.c_meanings.proofs.MeaningLaws.{its_number}
use Rattle.c_expression_rows.specs.Calls.{IsCalled}
use Rattle.c_expression_rows.specs.declared.callees.Called.TheVariants as called
use Rattle.c_expression_rows.proofs.RowLaws.{no_typing}
use Rattle.c_expression_rows.proofs.CallRowLaws.{argument_waits, call_fits, call_without_name, called_so}
use Rattle.c_expression_rows.proofs.calls.called_at.Goals as goal

pub returns-in_default : goal.returns-in_default
returns-in_default c = call_without_name c.args.nodes.now c.args.node c.requires.kind (no_typing _ c.operand_at.result c.operand_at.ensures c.in_default.not-Some)

pub returns-then-are_arguments : goal.returns-then-are_arguments
returns-then-are_arguments c =
    let (f, e, is) = c.in-Some.ensures {u = tt} in
    call_fits c.args.nodes.now c.args.node c.requires.kind f e (sym c.are_arguments.ensures ∙ c.if-are_arguments.true) (subst (IsCalled called.Fits f) c.argument_count.ensures (c.in-Fits.ensures {u = tt} f is))

pub returns-else-are_arguments : goal.returns-else-are_arguments
returns-else-are_arguments c =
    let (f, e, is) = c.in-Some.ensures {u = tt} in
    argument_waits c.args.nodes.now c.args.node c.requires.kind f e (subst (IsCalled called.Fits f) c.argument_count.ensures (c.in-Fits.ensures {u = tt} f is)) (sym c.are_arguments.ensures ∙ c.if-are_arguments.false)

pub returns-in_default-called_of : goal.returns-in_default-called_of
returns-in_default-called_of c =
    let (f, e, is) = c.in-Some.ensures {u = tt} in
    let m = c.args.meanings.now in
    called_so c.args.nodes.now c.args.node c.requires.kind f e m.types c.called_of.result (its_number c.args.nodes.now c.args.node 0 m c.requires.ready c.requires.within) c.in_default-called_of.not-Fits
    (subst (IsCalled c.called_of.result f) c.argument_count.ensures (c.called_of.ensures f is))
