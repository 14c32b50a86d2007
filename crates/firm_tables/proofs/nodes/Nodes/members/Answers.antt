use Rattle.std.proofs.Common.{◌∙◌, sym, ap, if◌then◌else◌}
use Rattle.firm_uses.specs.Counts.{times}
use Rattle.firm_tables.specs.Nodes.{stands_in, node_of}
use Rattle.firm_tables.proofs.MemberLaws.{stands_row}
use Rattle.firm_tables.proofs.nodes.Nodes.members.Goals as goal

pub returns : goal.returns
returns c = λ n.
    ap (times n) c.list.ensures ∙ c.self.invariant.1.0 c.args.block n
    ∙ ap (λ b. if b then 1 else 0) (sym (stands_row c.self.inside.operands.uses c.self.inside.currents.uses c.self.inside.rows.items n c.args.block)
    ∙ ap (λ ns. stands_in (node_of ns n) c.args.block) c.self.view_is)
