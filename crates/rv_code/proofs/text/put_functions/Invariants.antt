use Rattle.std.proofs.Common.{◌≡◌, ◌++◌, take}
use Rattle.std.specs.List.{flat_map}
use Rattle.rv_code.specs.Text.{function_text}
use Rattle.rv_code.proofs.text.put_functions.Given as goal

-- what came before is written
abbrev pub invariant-loop-function : goal.invariant-loop-function
invariant-loop-function l = l.out ≡ l.fn.out ++ flat_map (function_text l.functions) (take l.function-index l.functions)
