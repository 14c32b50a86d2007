use Rattle.std.proofs.Common.{sym, ◌∙◌, ap}
use Rattle.std.specs.Option.{option_copied}
use Rattle.ssa_core.proofs.Tables.{found_at}
use Rattle.ssa_core.proofs.places.Places.get.Goals as goal

pub returns-in-Some : goal.returns-in-Some
returns-in-Some g c =
    found_at c.args.self.now c.self.inside.map.entries c.args.var c.args.block _ (sym c.self.view_is) (ap option_copied (sym c.in-Some.is) ∙ c.get.ensures.value)

pub returns-in-None : goal.returns-in-None
returns-in-None g c =
    found_at c.args.self.now c.self.inside.map.entries c.args.var c.args.block _ (sym c.self.view_is) (ap option_copied (sym c.in-None.is) ∙ c.get.ensures.value)
