use Rattle.std.proofs.Common.{sym, ◌∙◌}
use Rattle.c_declared_types.proofs.LengthLaws.{good_enumerator}
use Rattle.c_declared_types.proofs.lengths.enumerator_value.Goals as goal

pub returns : goal.returns
returns c = λ x h.
    good_enumerator x c.in_ok-word.word c.args.node (c.in_ok-word.ensures x.constant h.constant).1
    (sym (c.is_no_int.ensures x.type h.type) ∙ c.if-is_no_int.false)
