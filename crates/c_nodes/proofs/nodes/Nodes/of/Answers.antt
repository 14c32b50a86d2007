use Rattle.std.proofs.Common.{◌∙◌, ap, replicate, length}
use Rattle.c_nodes.specs.Parents.{kid_of, all_adopted}
use Rattle.c_nodes.proofs.ReadLaws.{kept}
use Rattle.c_nodes.proofs.nodes.Nodes.of.Goals as goal

pub invariant_of-result : goal.invariant_of-result
invariant_of-result c =
    kept c.args.syntax.now c.in_ok-parents.parents.items c.requires
    (c.in_ok-parents.ensures {u = tt} ∙ ap (λ ns. all_adopted 0 ns (replicate (length ns) (kid_of (length ns) 0))) c.nodes.ensures.all)
