use Rattle.std.proofs.Common.{◌∙◌, ap, sym}
use Rattle.std.specs.Prelude.{false, get_or, ◌==◌}
use Rattle.c_typing.specs.Places.{kid, kind_at, node_at}
use Rattle.c_nodes.specs.Parents.{nodes_in}
use Rattle.c_contexts.proofs.CallLaws.{by_call, by_other, by_paren}
use Rattle.c_contexts.proofs.calls.is_called.Goals as goal

pub returns-in-Call : goal.returns-in-Call
returns-in-Call c =
    let f = c.requires.found in
    by_call c.args.nodes.now f.numbered f.nodes c.args.number c.requires.within (ap (kind_at (nodes_in c.args.nodes.now)) (sym c.parent-parent.ensures) ∙ (sym c.kind_at.ensures ∙ c.in-Call.is))
    (c.kid.result == c.args.number)
    (ap (λ k. k == c.args.number) (c.kid.ensures.is ∙ ap (λ o. kid (node_at (nodes_in c.args.nodes.now) o) 0) c.parent-parent.ensures))

pub returns-in-Paren : goal.returns-in-Paren
returns-in-Paren c =
    let f = c.requires.found in
    ap (λ o. get_or c.args.found.now o false) c.parent-parent.ensures
    ∙ by_paren c.args.nodes.now f.numbered f.nodes c.args.number c.requires.within c.args.found.now f (ap (kind_at (nodes_in c.args.nodes.now)) (sym c.parent-parent.ensures) ∙ (sym c.kind_at.ensures ∙ c.in-Paren.is))

pub returns-in_default : goal.returns-in_default
returns-in_default c =
    let f = c.requires.found in
    by_other c.args.nodes.now f.numbered f.nodes c.args.number c.requires.within c.kind_at.result (ap (kind_at (nodes_in c.args.nodes.now)) (sym c.parent-parent.ensures) ∙ sym c.kind_at.ensures)
    c.in_default.not-Call c.in_default.not-Paren
