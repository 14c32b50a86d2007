use Rattle.std.proofs.Common.{sym}
use Rattle.ssa_core.proofs.Tables.{puts_from, appends_from}
use Rattle.ssa_core.proofs.places.Places.put.Goals as goal

pub returns-clause-puts : goal.returns-clause-puts
returns-clause-puts g c =
    puts_from c.args.self.now c.self.inside.map.entries c.insert.new.self.entries c.args.var c.args.block c.args.value (sym c.self.view_is)
    c.in_ok-insert.ensures.updates.1
    c.in_ok-insert.ensures.updates.2

pub returns-clause-appends : goal.returns-clause-appends
returns-clause-appends g c =
    appends_from c.args.self.now c.self.inside.map.entries c.insert.new.self.entries c.args.var c.args.block c.args.value (sym c.self.view_is)
    c.in_ok-insert.ensures.entries
