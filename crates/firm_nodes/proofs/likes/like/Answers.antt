use Rattle.std.proofs.Common.{arith}
use Rattle.firm_tables.specs.Nodes.{numbers}
use Rattle.firm_tables.proofs.MemberLaws.{numbers_long}
use Rattle.firm_nodes.proofs.LikeLaws.{users_within, then_none, no_like_user, no_like_listed}
use Rattle.firm_nodes.proofs.likes.like.Goals as goal

pub like_among-requires : goal.like_among-requires
like_among-requires c = λ index h. users_within c.args.nodes.now c.in-Some.rare.number c.users.result.now index c.users.ensures h

pub returns-in-Some-clause-none : goal.returns-in-Some-clause-none
returns-in-Some-clause-none c =
    then_none c.like_among.result c.like_among.ensures.none
    (λ none pure m like. no_like_user c.args.nodes.now c.args.op c.args.block (numbers c.args.operands.now) c.users.result.now c.in-Some.rare.number c.users.ensures
    c.in-Some.ensures.among none m like)

pub returns-in-None-clause-none : goal.returns-in-None-clause-none
returns-in-None-clause-none c =
    then_none c.like_in.result c.like_in.ensures.none
    (λ none pure m like. no_like_listed c.args.nodes.now c.args.op c.args.block (numbers c.args.operands.now) c.alike.result.now c.alike.ensures
    c.in-None.ensures.none none m like)
