use Rattle.std.proofs.Common.{ap, sym, ◌∙◌}
use Rattle.c_types.specs.declared.tree.Expr as expr
use Rattle.c_types.proofs.FormLaws.{call_is}
use Rattle.c_typing.specs.Expressions.{call_code}
use Rattle.c_values.specs.Typings.{callee_of}
use Rattle.c_calls.proofs.calls.call_code.Goals as goal

pub returns-in-Calls : goal.returns-in-Calls
returns-in-Calls c =
    ap (λ es. expr.Call c.in-Calls.number es) c.from_vec.ensures
    ∙ call_is c.in-Calls.number c.args.arguments.items
    ∙ ap (λ q. call_code (callee_of q) c.args.arguments.items) (sym c.in-Calls.is)
