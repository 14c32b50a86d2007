use Rattle.std.proofs.Common.{◌≡◌, Some, sym, subst}
use Rattle.std.specs.Prelude.{is_some}
use Rattle.c_typing.specs.Judgements.{code_at}
use Rattle.c_meanings.specs.Meanings.{judged_to}
use Rattle.c_meanings.proofs.MeaningLaws.{code_owned, some_there, take_left, take_ready, take_there, take_within}
use Rattle.c_meanings.proofs.meanings.Meanings.take_code.Goals as goal

pub take_code-requires-clause-within : goal.take_code-requires-clause-within
take_code-requires-clause-within c = take_within c.args.nodes.now c.args.node c.args.index c.args.self.now c.requires.within c.requires.kids c.requires.ready c.kid.result c.kid.ensures.is

pub take_code-requires-clause-there : goal.take_code-requires-clause-there
take_code-requires-clause-there c = take_there c.args.nodes.now c.args.node c.args.index c.args.self.now c.requires.within c.requires.kids c.requires.ready c.kid.result c.kid.ensures.is

pub unreachable-requires : goal.unreachable-requires
unreachable-requires c =
    let js = judged_to c.args.nodes.now c.args.node in
    some_there (code_at js c.kid.result) ((c.in-None.ensures {u = tt}).is c.args.self.now.types js c.requires.ready.2.judged)
    (subst (λ i. is_some (code_at js i) ≡ _) (sym c.kid.ensures.is) c.requires.there)

pub returns-clause-is : goal.returns-clause-is
returns-clause-is c =
    let js = judged_to c.args.nodes.now c.args.node in
    subst (λ i. code_at js i ≡ Some c.in-Some.code) c.kid.ensures.is ((c.in-Some.ensures {u = tt}).is c.args.self.now.types js c.requires.ready.2.judged)

pub returns-clause-ready : goal.returns-clause-ready
returns-clause-ready c =
    let js = judged_to c.args.nodes.now c.args.node in
    take_ready c.args.nodes.now c.args.node c.args.index c.args.self.now c.requires.within c.requires.kids c.requires.ready c.requires.other c.take_code.new.self (is_some c.take_code.result) c.kid.result c.kid.ensures.is c.take_code.ensures.left
    (code_owned c.take_code.result js c.kid.result (c.take_code.ensures.is c.args.self.now.types js c.requires.ready.2.judged))

pub returns-clause-left : goal.returns-clause-left
returns-clause-left c = take_left c.args.nodes.now c.args.node c.args.index c.args.self.now c.requires.within c.requires.kids c.requires.ready c.requires.other c.take_code.new.self (is_some c.take_code.result) c.kid.result c.kid.ensures.is c.take_code.ensures.left
