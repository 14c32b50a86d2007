use Rattle.std.proofs.Common.{◌≡◌, ◌<◌, ◌∙◌, ℕ, List, length, sym, subst}
use Rattle.c_syntax.specs.declared.syntax.SynNode.{SynNode}
use Rattle.c_typing.specs.Places.{node_at}
use Rattle.c_nodes.specs.Declarators.{AreNext}
use Rattle.c_nodes.specs.Parents.{nodes_in}
use Rattle.c_nodes.proofs.ScopeLaws.{there_by_kind, before_function, before_other}
use Rattle.c_nodes.proofs.scope.takes_before.Goals as goal

pub own_takes-requires-clause-within : goal.own_takes-requires-clause-within
own_takes-requires-clause-within c =
    let within = there_by_kind (nodes_in c.args.nodes.now) c.parent-parent.result (λ e. absurd (cc (sym (sym c.kind_at.ensures ∙ c.in-Function.is) ∙ e))) in
    subst (λ n. c.parent-parent.result < n) c.requires.next.nodes within

numbered_block : (table : List SynNode) (found : List ℕ) (n : ℕ) → n < length table → AreNext table found → (node_at (nodes_in table) n).id ≡ n
numbered_block table found n within next = next.numbered n (subst (λ k. n < k) (sym next.nodes) within)

pub returns-in-Function : goal.returns-in-Function
returns-in-Function c =
    before_function (nodes_in c.args.nodes.now) c.args.block c.parent-parent.result (numbered_block c.args.nodes.now c.args.next.now c.args.block c.requires.within c.requires.next) c.parent-parent.ensures c.own_takes.result (sym c.kind_at.ensures ∙ c.in-Function.is) c.own_takes.ensures

pub returns-in_default : goal.returns-in_default
returns-in_default c =
    before_other (nodes_in c.args.nodes.now) c.args.block c.parent-parent.result (numbered_block c.args.nodes.now c.args.next.now c.args.block c.requires.within c.requires.next) c.parent-parent.ensures (λ e. c.in_default.not-Function (c.kind_at.ensures ∙ e))
