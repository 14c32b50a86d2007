use Rattle.std.proofs.Common.{◌≤◌, ◌∙◌, ap, sym, subst, get_or, length, arith}
use Rattle.std.proofs.lemmas.List.{length-replicate}
use Rattle.c_nodes.specs.Parents.{nodes_in}
use Rattle.c_nodes.specs.Declarators.{Points, whole_of}
use Rattle.c_nodes.proofs.DeclaratorLaws.{whole_from, whole_start, whole_end, points_whole}
use Rattle.c_nodes.proofs.declarators.put_wholes.Goals as goal

pub loop-number-init : goal.loop-number-init
loop-number-init c = record {
  so_far = λ i within.
      ap (λ xs. whole_from (get_or xs i 0) (nodes_in c.args.nodes.now) i) c.requires
      ∙ whole_start (nodes_in c.args.nodes.now) (length c.args.nodes.now) i c.len-number-end.ensures.nodes within;
  long = ap length c.requires ∙ length-replicate (length c.args.nodes.now) (length c.args.nodes.now);
}

pub returns : goal.returns
returns c = record {
  long = c.loop-number.invariant.long;
  nodes = c.len-number-end.ensures.nodes;
  points = λ i within.
      let s = nodes_in c.args.nodes.now in
      let same = c.len-number-end.ensures.nodes in
      let past : length s ≤ c.loop-number.number = let e = same in let k = c.loop-number-test.false in omega (arith, e, k, c.len-number-end.ensures.is) in
      let told = whole_end s c.loop-number.number c.loop-number.found i past (c.loop-number.invariant.so_far i within) in
      subst (λ n. Points s n (whole_of s i)) (sym told) (points_whole s c.len-number-end.ensures.numbered i);
}
