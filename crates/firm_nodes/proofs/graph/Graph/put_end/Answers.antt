use Rattle.std.proofs.Common.{◌<◌, ◌∙◌, ◌≡◌, sym, ap, subst, length, arith}
use Rattle.std.proofs.lemmas.List.{length-set}
use Rattle.firm_rules.specs.Graphs.{Firm}
use Rattle.firm_rules.specs.Lookups.{targets}
use Rattle.firm_tables.specs.Blocks.{block_of}
use Rattle.firm_nodes.specs.Kept.{graph_of, block_numbers, listed, option_list, IsKept}
use Rattle.firm_nodes.specs.Calls.{unlinked}
use Rattle.firm_nodes.proofs.KeptLaws.{kept_end}
use Rattle.firm_nodes.proofs.EdgeLaws.{first_lost, second_lost, target_there, targets_stay, unlinked_long, unlinked_both, put_done}
use Rattle.firm_nodes.proofs.graph.Graph.put_end.Goals as goal

pub invariant_of-self : goal.invariant_of-self
invariant_of-self c =
    let order = block_numbers c.self.inside.order.items in
    let there : c.args.block < length c.self.inside.blocks = omega (arith, c.requires.block, ap (λ (g : Firm). length g.blocks) c.self.view_is) in
    subst (λ bs. IsKept order bs) (sym c.set_end.ensures)
    (kept_end order c.self.inside.blocks c.args.block c.args.end c.self.invariant there (targets_stay (graph_of c.self.inside.name c.self.inside.params c.self.inside.order.items c.self.inside.blocks c.self.inside.nodes) c.args.self.now c.args.block c.args.end c.self.invariant c.self.view_is c.requires.targets))

pub unlink-requires : goal.unlink-requires
unlink-requires c =
    let blocks = c.self.inside.blocks in
    let long : length c.set_end.new.self ≡ length blocks = ap length c.set_end.ensures ∙ length-set blocks c.args.block (record (block_of blocks c.args.block) { end = c.args.end }) in
    first_lost (length c.set_end.new.self) c.lost_targets-lost.result.first c.lost_targets-lost.result.second (targets c.end_of-old.result) (targets c.args.end) c.lost_targets-lost.ensures
    (λ x h. omega (arith, long, target_there (block_numbers c.self.inside.order.items) blocks c.args.block x c.end_of-old.result c.self.invariant c.end_of-old.ensures h))

pub unlink-requires-2 : goal.unlink-requires-2
unlink-requires-2 c =
    let blocks = c.self.inside.blocks in
    let long : length c.set_end.new.self ≡ length blocks = ap length c.set_end.ensures ∙ length-set blocks c.args.block (record (block_of blocks c.args.block) { end = c.args.end }) in
    let between = graph_of c.self.inside.name c.self.inside.params c.self.inside.order.items c.set_end.new.self c.self.inside.nodes in
    let longer : length c.unlink.new.self.blocks ≡ length c.set_end.new.self = ap (λ (g : Firm). length g.blocks) c.unlink.ensures
    ∙ unlinked_long c.goes_second-earlier.result c.args.block between (option_list c.lost_targets-lost.result.first) in
    second_lost (length c.unlink.new.self.blocks) c.lost_targets-lost.result.first c.lost_targets-lost.result.second (targets c.end_of-old.result) (targets c.args.end) c.lost_targets-lost.ensures
    (λ x h. omega (arith, long, longer, target_there (block_numbers c.self.inside.order.items) blocks c.args.block x c.end_of-old.result c.self.invariant c.end_of-old.ensures h))

pub returns : goal.returns
returns c =
    let earlier = c.goes_second-earlier.result in
    let between = graph_of c.self.inside.name c.self.inside.params c.self.inside.order.items c.set_end.new.self c.self.inside.nodes in
    let lost = c.lost_targets-lost.result in
    c.unlink-2.ensures ∙ ap (λ g. unlinked earlier c.args.block g (option_list lost.second)) c.unlink.ensures
    ∙ unlinked_both earlier c.args.block between (option_list lost.first) (option_list lost.second)
    ∙ put_done (graph_of c.self.inside.name c.self.inside.params c.self.inside.order.items c.self.inside.blocks c.self.inside.nodes) c.args.self.now c.args.block c.args.end c.end_of-old.result earlier c.set_end.new.self (listed lost) c.self.view_is c.end_of-old.ensures c.goes_second-earlier.ensures
    c.set_end.ensures c.lost_targets-lost.ensures
