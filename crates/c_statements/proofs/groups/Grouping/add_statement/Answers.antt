use Rattle.std.proofs.Common.{◌∙◌, ap, sym}
use Rattle.c_type_ids.proofs.IdLaws.{on_ok}
use Rattle.c_statements.proofs.GroupLaws.{stated, next_stated, pushed_statement}
use Rattle.c_statements.proofs.groups.Grouping.add_statement.Goals as goal

pub returns-in_default : goal.returns-in_default
returns-in_default c = λ items are.
    let none = c.in_default.ensures {u = tt} in
    next_stated c.args.self.now.groups c.pop.new.self items c.args.stmt (none.1 ∙ sym (ap (stated c.args.stmt) none.0)) are

pub returns : goal.returns
returns c = on_ok _ _ c.push-2.result
    (λ more items are. next_stated c.args.self.now.groups c.push-2.new.self items c.args.stmt
    (more ∙ pushed_statement c.args.self.now.groups c.pop.new.self c.in-Some.group c.push.new.self c.args.stmt (c.in-Some.ensures {u = tt}) ((c.in_ok-push.ensures {u = tt}).ok)) are)
    c.push-2.ensures.ok
