use Rattle.std.proofs.Common.{◌≡◌, ◌++◌, take}
use Rattle.std.specs.List.{flat_map}
use Rattle.rv_code.specs.Text.{line_text}
use Rattle.rv_code.proofs.text.put_lines.Given as goal

-- what came before is written
abbrev pub invariant-loop-line : goal.invariant-loop-line
invariant-loop-line l = l.out ≡ l.fn.out ++ flat_map (line_text l.functions) (take l.line-index l.lines)
