use Rattle.std.proofs.Common.{◌≡◌, subst, sym, arith}
use Rattle.c_nodes.specs.Parents.{nodes_in}
use Rattle.c_nodes.specs.Declarators.{Points}
use Rattle.c_nodes.proofs.AroundLaws.{AroundFrom, around_kinds, points_around}
use Rattle.c_nodes.proofs.around.put_enclosing.Goals as goal

pub returns : goal.returns
returns c = record {
  long = c.loop-number.invariant.long;
  nodes = c.len-number.ensures.nodes;
  points = λ i within.
      let s = nodes_in c.args.nodes.now in
      let none : c.loop-number.number ≡ 0 = omega (arith, c.loop-number-test.false) in
      let told : AroundFrom c.args.kinds s 0 c.loop-number.found i = subst (λ n. AroundFrom c.args.kinds s n c.loop-number.found i) none (c.loop-number.invariant.from_here i within) in
      subst (λ n. Points s n (around_kinds c.args.kinds s i)) (sym told) (points_around c.args.kinds s c.len-number.ensures.numbered i);
}
