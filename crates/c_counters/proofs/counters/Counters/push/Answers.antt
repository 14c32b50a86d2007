use Rattle.std.proofs.Common.{◌+◌, ◌-◌, ◌≤◌, ◌∙◌, ap, ap₂, get_or, length, subst, sym}
use Rattle.c_counters.proofs.CounterLaws.{counted_push}
use Rattle.c_counters.proofs.counters.Counters.push.Goals as goal

pub returns-clause-next : goal.returns-clause-next
returns-clause-next c = λ p js node j a at hidden literal.
    counted_push p js node j c.args.self.now (record { sums = c.push.new.self; literals = c.literals_with-self.result }) (c.whole.result + c.args.hidden) c.args.is_literal a at
    (subst (λ n. n ≤ 2) (sym hidden) c.requires.few) literal (c.in_ok-push.ensures {u = tt}).items
    (ap₂ (λ x y. x + y) (c.whole.ensures.is ∙ ap (λ xs. get_or xs (length xs - 1) 0) c.deref.ensures.value) (sym hidden))
    c.literals_with-self.ensures
