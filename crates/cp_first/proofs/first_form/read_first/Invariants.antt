use Rattle.std.proofs.Common.{◌≡◌, ◌++◌, length}
use Rattle.std.specs.List.{AllByRecursion, flat_map}
use Rattle.cp_first.specs.FirstForm.{IsByte, opening_text, call_text}
use Rattle.cp_first.proofs.first_form.read_first.Given as goal

-- the calls before the rest are read
abbrev pub invariant-loop-byte : goal.invariant-loop-byte
invariant-loop-byte l = record {
  split : l.text ≡ opening_text ++ (flat_map call_text l.bytes ++ l.rest);
  each : AllByRecursion IsByte l.bytes;
}

abbrev pub decreases-loop-byte : goal.decreases-loop-byte
decreases-loop-byte l = length l.rest
