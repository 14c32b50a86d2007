use Rattle.std.proofs.Common.{◌∙◌, ◌++◌, ◌∷◌, [], ap, arith, map, sym}
use Rattle.c_typing.specs.Names.{Name}
use Rattle.c_objects.proofs.ObjectLaws.{all_objects, no_objects, nodes_more, objects_same, one_object}
use Rattle.c_objects.proofs.numbers.objects.Goals as goal
use Rattle.c_objects.proofs.numbers.objects.Goals.{then-is_object+in_ok-push, else-is_object}

pub loop-number-init : goal.loop-number-init
loop-number-init c =
    c.new-found.ensures.items ∙ sym (ap (map (λ (e : Name). e.node)) (no_objects c.args.scoped.now c.len-number-end.ensures.derived c.len-number-end.ensures.nodes))

pub loop-number-preserved : goal.loop-number-preserved
loop-number-preserved c =
    let l = c.loop-number in
    let table = c.args.scoped.now in
    let d = c.len-number-end.ensures.derived in
    let nodes = c.len-number-end.ensures.nodes in
    elim c.if-is_object.branch [
      | then-is_object+in_ok-push w ↦
          (ap (λ v. v.items) w.found-is ∙ ((w.in_ok-push.ensures {u = tt}).items ∙ (ap (λ xs. xs ++ l.number ∷ []) l.invariant
          ∙ sym (nodes_more table d nodes l.number (one_object table d nodes l.number (sym c.is_object.ensures ∙ w.if-is_object.true))))))
      | else-is_object w ↦
          (ap (λ v. v.items) w.found-is ∙ (l.invariant ∙ sym (ap (map (λ (e : Name). e.node)) (objects_same table d nodes l.number (sym c.is_object.ensures ∙ w.if-is_object.false)))))
    ]

pub returns : goal.returns
returns c =
    let l = c.loop-number in
    let most = c.loop-number-test.false in
    let is = c.len-number-end.ensures.is in
    l.invariant ∙ ap (map (λ (e : Name). e.node)) (all_objects c.args.scoped.now c.len-number-end.ensures.derived c.len-number-end.ensures.nodes l.number (omega (arith, most, is)))
