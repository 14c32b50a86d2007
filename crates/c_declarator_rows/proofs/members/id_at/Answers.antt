use Rattle.std.proofs.Common.{subst, sym}
use Rattle.c_typing.specs.Judgements.{type_at}
use Rattle.c_declarator_rows.specs.Lengths.{FindsId}
use Rattle.c_declarator_rows.proofs.MemberRowLaws.{id_found, not_found}
use Rattle.c_declarator_rows.proofs.members.id_at.Goals as goal

pub returns-in_default : goal.returns-in_default
returns-in_default c = λ js judged has. not_found c.args.meanings.now.types c.type_at.result (type_at js c.args.node) c.in_default.not-Some (c.type_at.ensures c.args.meanings.now.types js judged)

pub returns : goal.returns
returns c = λ js judged has.
    let k = c.args.meanings.now.types in
    let o = type_at js c.args.node in
    subst (λ r. FindsId k r o) (sym c.known_id.ensures) (id_found k c.in-Some.kind o has (c.in-Some.ensures {u = tt} k js judged))
