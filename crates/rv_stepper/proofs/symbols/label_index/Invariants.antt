use Rattle.std.proofs.Common.{◌≡◌, ◌+◌, ◌≤◌, drop}
use Rattle.std.specs.Option.{option_map}
use Rattle.rv_code.specs.Places.{label_index}
use Rattle.rv_stepper.proofs.symbols.label_index.Given as goal

abbrev pub invariant-loop-line : goal.invariant-loop-line
invariant-loop-line l = record {
  rest : label_index l.lines l.label ≡ option_map (λ n. l.index + n) (label_index (drop l.line-index l.lines) l.label);
  bound : l.index ≤ l.line-index;
}
