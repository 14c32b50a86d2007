-- The state before a place of the order.
use Rattle.c_tags.specs.Chains.{chains_of}
use Rattle.c_tags.specs.Tags.{Stand}
use Rattle.c_tags.proofs.walk.put_tags.Given as goal

abbrev pub invariant-loop-place : goal.invariant-loop-place
invariant-loop-place l = Stand l.nodes l.place (chains_of l.chains) l.bodies.items l.found
