-- What is written through `get_mut` is what the map says of the name.
use Rattle.std.proofs.Common.{rules}
use Rattle.c_scopes.proofs.KeptLaws.{recorded-updated}
use Rattle.c_scopes.proofs.scopes.restore.Goals as goal

pub returns-in-Some : goal.returns-in-Some
returns-in-Some c =
    let name = c.args.addition.declared.name.now in
    let before = c.args.addition.before in
    recorded-updated name c.args.latest.now (c.get_mut.follows.lender before) before ((c.get_mut.follows.holds before).3 (search rules))
