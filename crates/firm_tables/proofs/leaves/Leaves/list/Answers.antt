use Rattle.std.proofs.Common.{◌<◌, ◌∙◌, sym, subst}
use Rattle.firm_uses.specs.Counts.{times}
use Rattle.firm_tables.specs.Leaves.{code_of}
use Rattle.firm_tables.proofs.LeafLaws.{listed_there, listed_nowhere}
use Rattle.firm_tables.proofs.leaves.Leaves.list.Goals as goal

pub returns-in-Some-get : goal.returns-in-Some-get
returns-in-Some-get c = λ n all.
    subst (λ l. 0 < times n l) (sym c.list.ensures)
    (listed_there c.args.self.now c.self.inside.numbers c.self.inside.lists c.get.result (code_of c.args.op) c.in-Some.code c.args.block n c.in-Some-get.list c.self.view_is
    all (sym c.code_of.ensures ∙ c.in-Some.is) c.get.ensures c.in-Some-get.is)

pub returns-in-None : goal.returns-in-None
returns-in-None c = λ n all.
    absurd
    (listed_nowhere c.args.self.now c.self.inside.numbers c.self.inside.lists c.get.result (code_of c.args.op) c.in-Some.code c.args.block n c.self.view_is all
    (sym c.code_of.ensures ∙ c.in-Some.is) c.get.ensures c.in-None.is)
