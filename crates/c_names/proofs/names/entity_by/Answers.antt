use Rattle.std.proofs.Common.{Some, ap, sym, ◌∙◌}
use Rattle.c_typing.specs.Places.{node_at, index_in, other_kids}
use Rattle.c_typing.specs.Names.{entity_by, parameter}
use Rattle.c_nodes.specs.Parents.{nodes_in}
use Rattle.c_nodes.specs.Scopes.{scope_of}
use Rattle.c_names.proofs.names.entity_by.Goals as goal

pub returns-in-Param : goal.returns-in-Param
returns-in-Param c = λ specs w.
    let s = nodes_in c.args.scoped.now in
    ap (λ k. entity_by s (node_at s c.args.owner) specs (scope_of c.args.scope) c.args.is_function k) (sym c.kind_at.ensures ∙ c.in-Param.is)
    ∙ ap (λ i. Some (parameter i)) (ap (index_in (other_kids (node_at s (node_at s c.args.owner).parent))) c.requires.numbered ∙ sym c.other_index.ensures)
