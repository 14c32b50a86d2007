use Rattle.std.proofs.Common.{◌≡◌, ◌++◌, take}
use Rattle.std.specs.List.{flat_map}
use Rattle.cp_first.specs.FirstUnit.{lines_of, call_code}
use Rattle.cp_first.proofs.first_unit.put_calls.Given as goal

-- the calls so far are written
abbrev pub invariant-loop-byte : goal.invariant-loop-byte
invariant-loop-byte l = l.lines ≡ l.fn.lines ++ flat_map (λ n. lines_of (call_code n)) (take l.byte-index l.bytes)
