use Rattle.std.proofs.Common.{◌+◌, ◌∙◌, ap, arith, subst, sym}
use Rattle.c_objects.proofs.ObjectLaws.{AreNumbered, first_numbered, none_numbered, one_numbered, one_object}
use Rattle.c_objects.proofs.numbers.numbers_of_firsts.Goals as goal
use Rattle.c_objects.proofs.numbers.numbers_of_firsts.Goals.{then-is_object+in_ok-push, else-is_object+in_ok-push-2}

pub loop-number-init : goal.loop-number-init
loop-number-init c = λ d nodes. first_numbered c.args.scoped.now d nodes c.new-found.result.items c.new-found.ensures.items

pub overflow_add-count : goal.overflow_add-count
overflow_add-count c =
    let few = (c.loop-number.invariant c.len-number-end.ensures.derived c.len-number-end.ensures.nodes).few in
    let less = c.loop-number-test.true in
    omega (arith, few, less)

pub loop-number-preserved : goal.loop-number-preserved
loop-number-preserved c = λ d nodes.
    let l = c.loop-number in
    let table = c.args.scoped.now in
    let a = l.invariant d nodes in
    elim c.if-is_object.branch [
      | then-is_object+in_ok-push w ↦
          subst (λ xs. AreNumbered table d nodes (l.number + 1) xs c.if-is_object.count) (sym (ap (λ v. v.items) w.found-is ∙ (w.in_ok-push.ensures {u = tt}).items))
          (subst (AreNumbered table d nodes (l.number + 1) _) (sym w.count-is) (one_numbered table d nodes l.number l.found.items l.count (one_object table d nodes l.number (sym c.is_object.ensures ∙ w.if-is_object.true)) a))
      | else-is_object+in_ok-push-2 w ↦
          subst (λ xs. AreNumbered table d nodes (l.number + 1) xs c.if-is_object.count) (sym (ap (λ v. v.items) w.found-is ∙ (w.in_ok-push-2.ensures {u = tt}).items))
          (subst (AreNumbered table d nodes (l.number + 1) _) (sym w.count-is) (none_numbered table d nodes l.number l.found.items l.count (sym c.is_object.ensures ∙ w.if-is_object.false) a))
    ]

pub returns : goal.returns
returns c =
    let l = c.loop-number in
    let a = l.invariant c.len-number-end.ensures.derived c.len-number-end.ensures.nodes in
    let most = c.loop-number-test.false in
    let is = c.len-number-end.ensures.is in
    let low = l.auto.number-end in
    let long = a.long in
    record { long = omega (arith, most, is, low, long); are = λ i within. a.are i (omega (arith, most, is, within)) }
