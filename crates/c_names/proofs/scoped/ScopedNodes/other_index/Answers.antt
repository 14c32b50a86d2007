use Rattle.std.proofs.Common.{◌-◌, ◌∙◌, ap, sym}
use Rattle.c_typing.specs.Places.{index_in, node_at, parent_of}
use Rattle.c_nodes.specs.Parents.{nodes_in}
use Rattle.c_names.proofs.IndexLaws.{other_kid}
use Rattle.c_names.proofs.scoped.ScopedNodes.other_index.Goals as goal

pub returns : goal.returns
returns c =
    let n = c.args.number in
    c.saturating_sub.ensures
    ∙ ap (λ i. i - 1) (c.index.ensures ∙ ap (λ ns. index_in (parent_of (nodes_in ns) n).kids n) c.self.view_is)
    ∙ sym (other_kid c.args.self.now (node_at (nodes_in c.args.self.now) n).parent n)
