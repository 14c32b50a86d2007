use Rattle.std.proofs.Common.{[], ◌<◌, subst, sym}
use Rattle.firm_uses.specs.Counts.{times}
use Rattle.firm_tables.proofs.LeafLaws.{row_like, alike_listed, alike_member}
use Rattle.firm_tables.proofs.nodes.Nodes.alike.Goals as goal

pub returns-in-Some : goal.returns-in-Some
returns-in-Some c = λ n like.
    let row = row_like c.self.inside.operands.uses c.self.inside.currents.uses c.self.inside.rows.items c.args.self.now c.args.op c.args.block n [] c.self.view_is like in
    c.in-Some.ensures n (alike_listed c.self.inside.rows.items c.self.inside.leaves c.args.op c.args.block n c.self.invariant.1.1 row)

pub returns-in-None : goal.returns-in-None
returns-in-None c = λ n like.
    let row = row_like c.self.inside.operands.uses c.self.inside.currents.uses c.self.inside.rows.items c.args.self.now c.args.op c.args.block n [] c.self.view_is like in
    subst (λ l. 0 < times n l) (sym c.list-in-None.ensures) (alike_member c.self.inside.rows.items c.self.inside.members c.args.op c.args.block n c.self.invariant.1.0 row)
