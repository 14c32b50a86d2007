use Rattle.std.proofs.Common.{◌+◌, ◌∙◌, ap}
use Rattle.cp_obstack.specs.Lists.{list_of}
use Rattle.firm_uses.specs.Counts.{times}
use Rattle.firm_uses.proofs.CountLaws.{one, row_is_there}
use Rattle.firm_tables.specs.Nodes.{numbers}
use Rattle.firm_tables.proofs.MemberLaws.{list_written, list_read, list_kept}
use Rattle.firm_tables.proofs.members.Members.remove.Goals as goal

pub returns-clause-this : goal.returns-clause-this
returns-clause-this c = λ x.
    let there = row_is_there c.args.self.now c.args.block c.args.node c.requires in
    ap (λ l. times x l + (one x c.args.node + 0))
    (list_written (λ list. numbers list.items) c.self.inside.lists.items c.args.block c.remove_one-place.new.list c.args.self.now c.self.view_is there)
    ∙ c.remove_one-place.ensures x
    ∙ ap (times x) (list_read (λ list. numbers list.items) c.self.inside.lists.items c.args.block c.index_mut.result.now c.args.self.now c.self.view_is there c.index_mut.ensures.value)

pub returns-clause-others : goal.returns-clause-others
returns-clause-others c = λ other ne.
    list_kept (λ list. numbers list.items) c.self.inside.lists.items c.args.block other c.remove_one-place.new.list ne ∙ ap (λ rs. list_of rs other) c.self.view_is
