use Rattle.std.proofs.Common.{subst, sym}
use Rattle.c_typing.specs.Judgements.{given, means, members}
use Rattle.c_type_ids.proofs.IdLaws.{if_ok}
use Rattle.c_meanings.specs.Meanings.{IsAnswered, judged_to}
use Rattle.c_declarator_rows.proofs.MemberRowLaws.{its_members, member_is, member_layout, members_answered}
use Rattle.c_declarator_rows.proofs.KidLengths.{member_lengths}
use Rattle.c_declarator_rows.proofs.RowLaws.{still_row, within_nodes}
use Rattle.c_declarator_rows.proofs.members.member.Goals as goal

pub returns : goal.returns
returns c =
    let table = c.args.nodes.now in
    let n = c.args.node in
    let m = c.args.meanings.now in
    let js = judged_to table n in
    let meant = given (its_members table n) (λ fields. means (members fields)) in
    let inside = within_nodes table n 0 m c.requires.ready c.requires.within in
    let have = member_lengths table n c.requires.ready.derived inside c.requires.kind in
    still_row table n 0 m c.joined.result meant c.requires.ready c.requires.within (member_is table n c.requires.kind) (member_layout table n)
    (subst (λ a. IsAnswered m.types a meant) (sym c.joined.ensures)
    (members_answered m.types c.all_members.result (its_members table n) (if_ok _ _ c.all_members.result (λ found h. h js c.requires.ready.judged have) c.all_members.ensures)))
