use Rattle.std.proofs.Common.{◌≡◌, take}
use Rattle.firm_nodes.specs.Calls.{last_place}
use Rattle.firm_nodes.proofs.edges.place_back.Given as goal

abbrev pub invariant-loop-place : goal.invariant-loop-place
invariant-loop-place l = l.found ≡ last_place l.from (take l.place l.preds)
