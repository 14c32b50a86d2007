use Rattle.std.proofs.Common.{◌+◌, sym, ◌∙◌}
use Rattle.c_meanings.specs.Meanings.{kid_in, node_in}
use Rattle.c_meanings.proofs.MeaningLaws.{next_kid}
use Rattle.c_statement_rows.proofs.StatementLaws.{kids_long}
use Rattle.c_statement_rows.proofs.loops.take_other.Goals as goal

pub take_code-requires-clause-ready : goal.take_code-requires-clause-ready
take_code-requires-clause-ready c =
    let table = c.args.nodes.now in
    let n = c.args.node in
    let has = kids_long (node_in table n).kids 2 (sym c.has_kid.ensures ∙ c.if-has_kid.true) in
    (kid_in table n 1 + 1, next_kid table n (kid_in table n 1 + 1) c.args.meanings.now c.requires.ready c.requires.within 1 has, c.requires.ready)
