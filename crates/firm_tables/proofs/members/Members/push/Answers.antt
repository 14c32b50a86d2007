use Rattle.std.proofs.Common.{◌∙◌, ◌++◌, ◌∷◌, [], ap}
use Rattle.cp_obstack.specs.Lists.{list_of}
use Rattle.firm_tables.specs.Nodes.{numbers}
use Rattle.firm_tables.proofs.BlockLaws.{any_err}
use Rattle.firm_tables.proofs.MemberLaws.{list_written, list_read, list_kept, numbers_pushed}
use Rattle.firm_tables.proofs.members.Members.push.Goals as goal

pub returns-in_err-push-clause-err : goal.returns-in_err-push-clause-err
returns-in_err-push-clause-err c =
    any_err c.from_residual-in_err-push.result
    (list_written (λ list. numbers list.items) c.self.inside.lists.items c.args.block c.push.new.self c.widen.new.self c.self.view_is c.in_ok-widen.ensures.ok
    ∙ ap numbers c.in_err-push.ensures.items
    ∙ list_read (λ list. numbers list.items) c.self.inside.lists.items c.args.block c.index_mut.result.now c.widen.new.self c.self.view_is c.in_ok-widen.ensures.ok c.index_mut.ensures.value
    ∙ c.widen.ensures.same c.args.block)

pub returns-in_err-push-clause-others : goal.returns-in_err-push-clause-others
returns-in_err-push-clause-others c = λ other ne.
    list_kept (λ list. numbers list.items) c.self.inside.lists.items c.args.block other c.push.new.self ne
    ∙ ap (λ rs. list_of rs other) c.self.view_is ∙ c.widen.ensures.same other

pub returns-clause-ok : goal.returns-clause-ok
returns-clause-ok c =
    list_written (λ list. numbers list.items) c.self.inside.lists.items c.args.block c.push.new.self c.widen.new.self c.self.view_is c.in_ok-widen.ensures.ok
    ∙ ap numbers c.in_ok-push.ensures.items ∙ numbers_pushed c.index_mut.result.now.items (record { number = c.args.node })
    ∙ ap (λ l. l ++ c.args.node ∷ [])
    (list_read (λ list. numbers list.items) c.self.inside.lists.items c.args.block c.index_mut.result.now c.widen.new.self c.self.view_is c.in_ok-widen.ensures.ok c.index_mut.ensures.value
    ∙ c.widen.ensures.same c.args.block)

pub returns-clause-others : goal.returns-clause-others
returns-clause-others c = λ other ne.
    list_kept (λ list. numbers list.items) c.self.inside.lists.items c.args.block other c.push.new.self ne
    ∙ ap (λ rs. list_of rs other) c.self.view_is ∙ c.widen.ensures.same other
