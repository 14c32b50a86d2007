use Rattle.std.proofs.Common.{sym}
use Rattle.firm_tables.proofs.LeafLaws.{puts_from}
use Rattle.firm_tables.proofs.leaves.Numbered.put.Goals as goal

pub returns-clause-puts : goal.returns-clause-puts
returns-clause-puts c =
    puts_from c.args.self.now c.self.inside.map.entries c.insert.new.self.entries c.args.code c.args.block c.args.list (sym c.self.view_is)
    c.in_ok-insert.ensures.updates.1
    c.in_ok-insert.ensures.updates.2
