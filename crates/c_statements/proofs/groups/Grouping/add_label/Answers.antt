use Rattle.std.proofs.Common.{◌≡◌, ◌∙◌, ap, sym}
use Rattle.c_type_ids.proofs.IdLaws.{on_ok}
use Rattle.c_statements.proofs.GroupLaws.{beside, labelled_by, next_named, first_group, next_group, same_group}
use Rattle.c_statements.proofs.groups.Grouping.add_label.Goals as goal
use Rattle.c_statements.proofs.groups.Grouping.add_label.Goals.{in-Some-word+in_ok-push-in-Some-word, in-None}

pub returns-in_default : goal.returns-in_default
returns-in_default c = on_ok _ _ c.begin.result
    (λ more items are. let none = c.in_default.ensures {u = tt} in
    next_named c.args.self.now.groups c.begin.new.self.groups items c.args.word (first_group c.args.self.now.groups c.pop.new.self c.begin.new.self.groups c.args.word none.0 none.1 more) are)
    c.begin.ensures

pub returns-then-not-is_empty : goal.returns-then-not-is_empty
returns-then-not-is_empty c = on_ok _ _ c.begin-then-not-is_empty.result
    (λ more items are.
    next_named c.args.self.now.groups c.begin-then-not-is_empty.new.self.groups items c.args.word
    (next_group c.args.self.now.groups c.pop.new.self c.push.new.self c.begin-then-not-is_empty.new.self.groups c.in-Some.group c.args.word c.is_empty.result c.is_empty.ensures
    c.if-not-is_empty.true (c.in-Some.ensures {u = tt}) ((c.in_ok-push.ensures {u = tt}).ok) more) are)
    c.begin-then-not-is_empty.ensures

pub returns : goal.returns
returns c = on_ok _ _ c.push-2.result
    (λ more items are.
    next_named c.args.self.now.groups c.push-2.new.self items c.args.word
    (same_group c.args.self.now.groups c.pop.new.self c.push-2.new.self c.in-Some.group c.match-word.group c.args.word c.is_empty.result c.is_empty.ensures
    c.if-not-is_empty.false (c.in-Some.ensures {u = tt}) is more) are)
    c.push-2.ensures.ok
  where
    is : c.match-word.group ≡ beside c.args.word c.in-Some.group
    is = elim c.match-word.branch [
      | in-Some-word+in_ok-push-in-Some-word w ↦ w.group-is ∙ labelled_by c.in-Some.group w.push-in-Some-word.new.self w.in-Some-word.word ((w.in_ok-push-in-Some-word.ensures {u = tt}).ok) ∙ ap (λ x. beside x c.in-Some.group) (sym w.in-Some-word.is)
      | in-None w ↦ w.group-is ∙ ap (λ x. beside x c.in-Some.group) (sym w.in-None.is)
    ]
