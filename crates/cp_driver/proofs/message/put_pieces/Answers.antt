use Rattle.std.proofs.Common.{sym, subst, rules}
use Rattle.cp_base.specs.Outside.{GainsFront}
use Rattle.cp_base.proofs.Gains.{GainsFront-more, GainsFront-after, on_err}
use Rattle.cp_driver.proofs.PieceLaws.{pieces_split}
use Rattle.cp_driver.proofs.message.put_pieces.Goals as goal

pub returns-in_err-put_piece-clause-front : goal.returns-in_err-put_piece-clause-front
returns-in_err-put_piece-clause-front g c =
    let split = pieces_split c.args.pieces.now c.loop-piece.piece-index _ (search rules) in
    on_err _ (subst (GainsFront _ _) (sym split) (GainsFront-after _ _ _ _ _ c.loop-piece.invariant.written (GainsFront-more _ _ _ _ c.in_err-put_piece.ensures.front)))
