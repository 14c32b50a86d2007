use Rattle.std.proofs.Common.{◌<◌, ◌∙◌, ap, sym, subst, length, arith}
use Rattle.std.proofs.lemmas.Grind.{common_steps}
use Rattle.c_syntax.specs.declared.syntax.SynId.{SynId}
use Rattle.c_typing.specs.Places.{node_at}
use Rattle.c_nodes.specs.Parents.{nodes_in}
use Rattle.c_nodes.proofs.ReadLaws.{kid_found, kid_missing, kid_within}
use Rattle.c_nodes.proofs.nodes.Nodes.kid.Goals as goal

inside : (c : goal.In-Some) → c.args.index < length c.kids.result.now
inside c = let h = (c.in-Some.ensures {u = tt}).lookup.0 in grind (arith, common_steps)

pub returns-in-Some-clause-is : goal.returns-in-Some-clause-is
returns-in-Some-clause-is c =
    ap (λ (id : SynId). id.number) ((c.in-Some.ensures {u = tt}).lookup.1)
    ∙ sym (kid_found c.kids.result.now (node_at (nodes_in c.args.self.now) c.args.number).kids c.args.index _ c.kids.ensures.are (inside c))

pub returns-in-Some-clause-there : goal.returns-in-Some-clause-there
returns-in-Some-clause-there c =
    subst (λ (id : SynId). id.number < length c.args.self.now) (sym ((c.in-Some.ensures {u = tt}).lookup.1))
    (kid_within c.args.number (length c.args.self.now) c.args.index c.kids.result.now _ c.kids.ensures.before c.requires (inside c))

pub returns-in-None-clause-is : goal.returns-in-None-clause-is
returns-in-None-clause-is c =
    let h = (c.in-None.ensures {u = tt}).lookup.0 in
    sym (kid_missing c.kids.result.now (node_at (nodes_in c.args.self.now) c.args.number).kids c.args.index c.kids.ensures.are (grind (arith, common_steps)))
