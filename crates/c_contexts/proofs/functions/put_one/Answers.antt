use Rattle.c_contexts.proofs.SpecsLaws.{none_put, one_put, other_put, owner_there}
use Rattle.c_contexts.proofs.functions.put_one.Goals as goal

pub returns-in_default : goal.returns-in_default
returns-in_default c =
    let f = c.requires.found in
    none_put c.args.scoped.now f.derived f.nodes c.args.names.now c.requires.names c.args.number c.requires.within c.args.found.now c.in_default.is f

pub specs-requires : goal.specs-requires
specs-requires c =
    let f = c.requires.found in
    owner_there c.args.scoped.now f.derived f.nodes c.args.names.now c.requires.names c.args.number c.requires.within c.in-Some.name c.in-Some.is c.if-name.true

pub returns-then-name : goal.returns-then-name
returns-then-name c =
    let f = c.requires.found in
    one_put c.args.scoped.now f.derived f.nodes c.args.names.now c.requires.names c.args.number c.requires.within c.args.found.now c.in-Some.name c.specs.result c.in-Some.is c.if-name.true c.specs.ensures.is c.specs.ensures.there f

pub returns-else-name : goal.returns-else-name
returns-else-name c =
    let f = c.requires.found in
    other_put c.args.scoped.now f.derived f.nodes c.args.names.now c.requires.names c.args.number c.requires.within c.args.found.now c.in-Some.name c.in-Some.is c.if-name.false f
