use Rattle.std.proofs.Common.{◌∙◌}
use Rattle.c_declarator_rows.proofs.AgainLaws.{may_is}
use Rattle.c_declarator_rows.proofs.again.may_be_again.Goals as goal

pub returns : goal.returns
returns c = λ e a is its before.
    c.may_be.ensures ∙ may_is c.args.nodes.now e a c.args.name c.args.last is its c.are_alike.result c.is_initialized.result c.args.was_initialized c.are_alike.ensures c.is_initialized.ensures before
