use Rattle.std.proofs.Common.{◌∷◌, [], ◌++◌, ◌+◌, suc, ap, sym, subst, ◌∙◌, append_assoc, drop, arith}
use Rattle.std.proofs.lemmas.List.{append-nil}
use Rattle.c_types.specs.Sizes.{MeasuresAll}
use Rattle.c_types.specs.Tables.{members_from}
use Rattle.c_types.proofs.FieldLaws.{measures_go_on, none_left_to_measure}
use Rattle.c_types.proofs.types.Types.measures_of.Goals as goal

pub loop-member-preserved : goal.loop-member-preserved
loop-member-preserved c = λ ms all.
    let members = c.args.members.now in
    let t = c.args.self.now in
    let left : MeasuresAll t (members_from (drop (suc c.loop-member.member-index) members)) ms = subst (λ i. MeasuresAll t (members_from (drop i members)) ms) {x = c.loop-member.member-index + 1} {y = suc c.loop-member.member-index} (omega arith) all in
    let now = c.loop-member.invariant (c.sized.result ∷ ms) (measures_go_on t members c.loop-member.member-index c.member-item.result c.sized.result ms c.loop-member-test.true c.member-item.is c.sized.ensures left) in
    subst (MeasuresAll t (members_from members)) (sym (ap (λ items. items ++ ms) c.in_ok-push.ensures.items ∙ append_assoc c.loop-member.measures.items (c.sized.result ∷ []) ms)) now

pub returns : goal.returns
returns c =
    subst (MeasuresAll c.args.self.now (members_from c.args.members.now)) (append-nil c.loop-member.measures.items)
    (c.loop-member.invariant [] (none_left_to_measure c.args.self.now c.args.members.now c.loop-member.member-index c.loop-member-test.false))
