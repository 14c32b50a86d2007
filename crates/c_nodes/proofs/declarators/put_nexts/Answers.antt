use Rattle.std.proofs.Common.{◌≡◌, subst, sym, arith}
use Rattle.c_typing.specs.Places.{next_to_name}
use Rattle.c_nodes.specs.Parents.{nodes_in}
use Rattle.c_nodes.specs.Declarators.{Points}
use Rattle.c_nodes.proofs.DeclaratorLaws.{NextFrom, points_next}
use Rattle.c_nodes.proofs.declarators.put_nexts.Goals as goal

pub returns : goal.returns
returns c = record {
  long = c.loop-number.invariant.long;
  nodes = c.len-number.ensures.nodes;
  numbered = c.len-number.ensures.numbered;
  points = λ i within.
      let s = nodes_in c.args.nodes.now in
      let none : c.loop-number.number ≡ 0 = omega (arith, c.loop-number-test.false) in
      let told : NextFrom s 0 c.loop-number.found i = subst (λ n. NextFrom s n c.loop-number.found i) none (c.loop-number.invariant.from_here i within) in
      subst (λ n. Points s n (next_to_name s i)) (sym told) (points_next s c.len-number.ensures.numbered i);
}
