use Rattle.std.proofs.Common.{sym, arith, subst, length}
use Rattle.c_syntax.specs.declared.syntax.SynNode.{SynNode}
use Rattle.c_nodes.specs.Parents.{IsWithin}
use Rattle.c_nodes.proofs.ParentLaws.{kids_within}
use Rattle.c_nodes.proofs.nodes.adopt_all.Goals as goal

pub adopt-requires : goal.adopt-requires
adopt-requires c =
    let within = c.loop-number-test.true in
    let long = c.loop-number.invariant.long in
    let given = c.requires.long in
    let node = c.index-nodes-number.result in
    rw c.as_slice.ensures (subst (λ (x : SynNode). IsWithin (length c.loop-number.parents) x.kids) (sym c.index-nodes-number.is)
    (kids_within c.args.nodes.now (length c.loop-number.parents) c.loop-number.number node c.requires.order within (omega (arith, long, given))))
