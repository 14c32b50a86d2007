use Rattle.std.proofs.Common.{sym, ◌∙◌}
use Rattle.c_typing.specs.Places.{kind_at}
use Rattle.c_nodes.specs.Parents.{nodes_in}
use Rattle.c_meanings.specs.Meanings.{judged_to, kid_in}
use Rattle.c_statement_rows.proofs.ForLaws.{behind, later, part_code}
use Rattle.c_statement_rows.proofs.fors.take_part.Goals as goal

pub returns-then-is_absent-clause-ready : goal.returns-then-is_absent-clause-ready
returns-then-is_absent-clause-ready c = later c.args.nodes.now c.args.node c.args.index c.args.meanings.now c.requires.kids c.requires.within c.requires.ready

pub returns-in_err-value-clause-ready : goal.returns-in_err-value-clause-ready
returns-in_err-value-clause-ready c = behind c.args.nodes.now c.args.node c.args.index c.take_value.new.self c.requires.kids c.requires.within c.in_err-value.ensures.ready

pub returns-clause-is : goal.returns-clause-is
returns-clause-is c =
    let table = c.args.nodes.now in
    let at = kid_in table c.args.node c.args.index in
    part_code c.in_ok-value.value.code (judged_to table c.args.node) at (kind_at (nodes_in table) at) (sym c.is_absent.ensures ∙ c.if-is_absent.false) (λ y e. (c.in_ok-value.ensures.is y e).code)

pub returns-clause-ready : goal.returns-clause-ready
returns-clause-ready c = behind c.args.nodes.now c.args.node c.args.index c.take_value.new.self c.requires.kids c.requires.within c.in_ok-value.ensures.ready
