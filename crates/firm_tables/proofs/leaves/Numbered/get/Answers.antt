use Rattle.std.proofs.Common.{sym, ◌∙◌, ap}
use Rattle.std.specs.Option.{option_copied}
use Rattle.firm_tables.proofs.LeafLaws.{found_at}
use Rattle.firm_tables.proofs.leaves.Numbered.get.Goals as goal

pub returns-in-Some : goal.returns-in-Some
returns-in-Some c =
    found_at c.args.self.now c.self.inside.map.entries c.args.code c.args.block _ (sym c.self.view_is) (ap option_copied (sym c.in-Some.is) ∙ c.get.ensures.value)

pub returns-in-None : goal.returns-in-None
returns-in-None c =
    found_at c.args.self.now c.self.inside.map.entries c.args.code c.args.block _ (sym c.self.view_is) (ap option_copied (sym c.in-None.is) ∙ c.get.ensures.value)
