use Rattle.std.proofs.Common.{◌∙◌, sym}
use Rattle.firm_tables.specs.Leaves.{code_of}
use Rattle.firm_tables.proofs.LeafLaws.{listed_now, listed_still}
use Rattle.firm_tables.proofs.leaves.Leaves.enlist.Goals as goal

pub returns-clause-ok : goal.returns-clause-ok
returns-clause-ok c =
    listed_now c.push.result c.list_for.new.self c.self.inside.lists c.push.new.self (code_of c.args.op) c.in-Some.code c.args.block c.args.node c.in_ok-list.list
    (sym c.code_of.ensures ∙ c.in-Some.is) c.in_ok-list.ensures.ok c.push.ensures.ok

pub returns-clause-kept : goal.returns-clause-kept
returns-clause-kept c =
    listed_still c.push.result c.args.self.now c.self.inside.numbers c.list_for.new.self c.self.inside.lists c.push.new.self c.in_ok-list.list c.args.node c.self.view_is
    c.list_for.ensures.kept c.push.ensures.ok c.push.ensures.err c.push.ensures.others
