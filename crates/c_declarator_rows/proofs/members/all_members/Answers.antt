use Rattle.std.proofs.Common.{◌<◌, length, Some, ◌∷◌, [], ◌++◌, ap, arith, refl, subst, sym, ◌∙◌, get_or}
use Rattle.std.specs.Prelude.{map}
use Rattle.c_typing.specs.Types.{Field}
use Rattle.c_typing.specs.Places.{node_at, numbers, text_at}
use Rattle.c_typing.specs.Judgements.{all_of}
use Rattle.c_typing.specs.Declarators.{member_at}
use Rattle.c_nodes.specs.Parents.{nodes_in}
use Rattle.c_names.specs.Denoted.{places_in}
use Rattle.c_type_ids.specs.Ids.{AreMembers}
use Rattle.c_declarator_rows.specs.Lengths.{HasLengthAt, KidsHaveLengths}
use Rattle.c_declarator_rows.proofs.ListLaws.{all_next, all_none, kid_asked}
use Rattle.c_declarator_rows.proofs.MemberRowLaws.{field_at, kid_all, members_more, no_field}
use Rattle.c_declarator_rows.proofs.members.all_members.Goals as goal

pub returns-in_default : goal.returns-in_default
returns-in_default c = λ js judged have.
    let table = c.args.nodes.now in
    let kids = c.other_kids-kids.result.now in
    let i = c.loop-kid.kid-index in
    let within : i < length kids = omega (arith, c.loop-kid-test.true, c.loop-kid.auto.kid-index-end) in
    let d = (get_or kids i (record { number = 0 })).number in
    let has = kid_all (HasLengthAt js) kids i (record { number = 0 }) within (subst (KidsHaveLengths js) (sym c.other_kids-kids.ensures.are) have) in
    ap (λ ns. all_of (map (member_at (places_in table) js) ns)) (sym c.other_kids-kids.ensures.are)
    ∙ all_none (map (member_at (places_in table) js) (numbers kids)) i (kid_asked (member_at (places_in table) js) kids i (record { number = 0 }) within ∙ ap Some (no_field table js d (c.in_default.ensures {u = tt} js judged has)))

pub loop-kid-preserved : goal.loop-kid-preserved
loop-kid-preserved c = λ js judged have.
    let table = c.args.nodes.now in
    let k = c.args.meanings.now.types in
    let kids = c.other_kids-kids.result.now in
    let i = c.loop-kid.kid-index in
    let within : i < length kids = omega (arith, c.loop-kid-test.true, c.loop-kid.auto.kid-index-end) in
    let d = (get_or kids i (record { number = 0 })).number in
    let has = kid_all (HasLengthAt js) kids i (record { number = 0 }) within (subst (KidsHaveLengths js) (sym c.other_kids-kids.ensures.are) have) in
    let name = text_at (nodes_in table) (node_at (nodes_in table) d).first in
    let (fields, e, are) = c.loop-kid.invariant js judged have in
    let (t, f, named) = c.in-Some.ensures {u = tt} js judged has in
    let field : Field = record { name = name; type = t; offset = 0 } in (
      fields ++ field ∷ [],
      all_next (map (member_at (places_in table) js) (numbers kids)) i fields field e (kid_asked (member_at (places_in table) js) kids i (record { number = 0 }) within ∙ ap Some (field_at table js d t f)),
      subst (λ ms. AreMembers k ms (fields ++ field ∷ [])) (sym (c.in_ok-push_member.ensures {u = tt})) (members_more k c.loop-kid.members fields (name, c.in-Some.id) field are refl named),
    )
