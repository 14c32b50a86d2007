use Rattle.std.proofs.Common.{◌<◌, suc, length, take}
use Rattle.firm_uses.specs.Counts.{times}
use Rattle.firm_tables.specs.Nodes.{numbers}
use Rattle.firm_tables.proofs.members.last_place.Given as goal

abbrev pub invariant-loop-place : goal.invariant-loop-place
invariant-loop-place l = (l.place < length l.list) × (0 < times l.node (take (suc l.place) (numbers l.list)))

abbrev pub decreases-loop-place : goal.decreases-loop-place
decreases-loop-place l = l.place
