use Rattle.std.proofs.Common.{◌≡◌, take}
use Rattle.ssa_core.specs.Steps.{IsTrailNoted}
use Rattle.ssa_core.proofs.notes.Notes.note_trail.Given as goal

abbrev pub invariant-loop-block : goal.invariant-loop-block
invariant-loop-block g l = record {
  rest : l.self ≡ record l.initial.self { passed = l.self.passed };
  noted : IsTrailNoted l.initial.self.passed l.self.passed l.var (take l.block-index l.trail) l.stop;
}
