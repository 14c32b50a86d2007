use Rattle.std.proofs.Common.{◌≡◌, ◌≤◌, take}
use Rattle.cp_base.specs.Outside.{gained}
use Rattle.cp_driver.specs.Pieces.{text_of}
use Rattle.cp_driver.proofs.message.put_pieces.Given as goal

-- the pieces before this one are written
abbrev pub invariant-loop-piece : goal.invariant-loop-piece
invariant-loop-piece g l = record {
  written : g.E.Sink.written l.err ≡ gained (g.E.Sink.written l.fn.err) (text_of (take l.piece-index l.pieces));
  count : g.E.Sink.faults l.fn.err ≤ g.E.Sink.faults l.err;
}
