use Rattle.std.proofs.Common.{◌∙◌, sym}
use Rattle.firm_tables.specs.Leaves.{code_of}
use Rattle.firm_tables.proofs.LeafLaws.{listed_there}
use Rattle.firm_tables.proofs.leaves.Leaves.strike.Goals as goal

pub remove-requires : goal.remove-requires
remove-requires c =
    listed_there c.args.self.now c.self.inside.numbers c.self.inside.lists c.get.result (code_of c.args.op) c.in-Some.code c.args.block c.args.node c.in-Some-get.list
    c.self.view_is c.requires (sym c.code_of.ensures ∙ c.in-Some.is) c.get.ensures c.in-Some-get.is
