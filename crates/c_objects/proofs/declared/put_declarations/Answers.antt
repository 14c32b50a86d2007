use Rattle.std.proofs.Common.{arith}
use Rattle.c_objects.specs.Objects.{nodes_in_lists}
use Rattle.c_objects.proofs.DeclarationLaws.{all_put, first_put}
use Rattle.c_objects.proofs.declared.put_declarations.Goals as goal

pub loop-number-init : goal.loop-number-init
loop-number-init c = first_put c.args.scoped.now c.args.found.now c.requires.long c.requires.empty

pub returns : goal.returns
returns c =
    let l = c.loop-number in
    let most = c.loop-number-test.false in
    let is = c.len-number-end.ensures.is in
    all_put c.args.scoped.now c.len-number-end.ensures.derived c.len-number-end.ensures.nodes l.number (nodes_in_lists l.found) (omega (arith, most, is)) l.invariant
