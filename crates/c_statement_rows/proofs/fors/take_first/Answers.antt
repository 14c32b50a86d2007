use Rattle.c_statement_rows.proofs.ForLaws.{behind, first_made, later, value_there}
use Rattle.c_statement_rows.proofs.fors.take_first.Goals as goal

pub take_dropped-requires-clause-there : goal.take_dropped-requires-clause-there
take_dropped-requires-clause-there c = value_there c.args.nodes.now c.args.node c.kind_at.result c.kid.result c.kid.ensures.is c.kind_at.ensures c.in_default.not-Declaration c.in_default.not-Empty c.requires.there

pub returns-in-Declaration-clause-ready : goal.returns-in-Declaration-clause-ready
returns-in-Declaration-clause-ready c = behind c.args.nodes.now c.args.node 0 c.take_code.new.self c.requires.kids c.requires.within c.take_code.ensures.ready

pub returns-in-Empty-clause-ready : goal.returns-in-Empty-clause-ready
returns-in-Empty-clause-ready c = later c.args.nodes.now c.args.node 0 c.args.meanings.now c.requires.kids c.requires.within c.requires.ready

pub returns-in_default-clause-is : goal.returns-in_default-clause-is
returns-in_default-clause-is c =
    let there = value_there c.args.nodes.now c.args.node c.kind_at.result c.kid.result c.kid.ensures.is c.kind_at.ensures c.in_default.not-Declaration c.in_default.not-Empty c.requires.there in
    first_made c.args.nodes.now c.args.node c.kind_at.result c.kid.result c.kid.ensures.is c.kind_at.ensures c.in_default.not-Declaration c.in_default.not-Empty c.take_dropped.result there c.take_dropped.ensures.is
