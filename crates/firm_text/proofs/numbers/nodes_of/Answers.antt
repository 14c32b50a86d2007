use Rattle.firm_text.proofs.SortedLaws.{sorted_nodes}
use Rattle.firm_tables.specs.Nodes.{numbers}
use Rattle.firm_text.proofs.numbers.nodes_of.Goals as goal

pub returns : goal.returns
returns c =
    sorted_nodes (λ list. list.items) c.args.graph.now c.args.block.number (numbers c.nodes.result.now) c.sorted.result c.nodes.ensures c.sorted.ensures.times
    c.sorted.ensures.sorted
