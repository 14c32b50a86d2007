use Rattle.std.proofs.Common.{sym, ◌∙◌}
use Rattle.c_declared_types.proofs.LengthLaws.{good_length}
use Rattle.c_declared_types.proofs.lengths.length_of.Goals as goal

pub returns : goal.returns
returns c = λ x h.
    good_length x c.in_ok-word.word c.args.length_node c.args.node (c.in_ok-word.ensures x.constant h.constant).1
    (sym (c.is_bad_length.ensures x.type h.type) ∙ c.if-is_bad_length.false)
