use Rattle.std.proofs.Common.{◌+◌, refl, subst, sym, ◌∙◌}
use Rattle.std.specs.Prelude.{Ok}
use Rattle.c_syntax.specs.declared.kind.SynKind.TheVariants as kind
use Rattle.c_typing.specs.Judgements.{waits}
use Rattle.c_type_ids.proofs.TableLaws.{grows_same}
use Rattle.c_judgements.specs.declared.judged.Judged.TheVariants as judged
use Rattle.c_meanings.specs.Meanings.{IsAnswered, kid_in, node_in}
use Rattle.c_meanings.proofs.MeaningLaws.{its_number, kids_of, next_kid}
use Rattle.c_declarator_rows.specs.Arrays.{counted, uncounted}
use Rattle.c_declarator_rows.proofs.KidLengths.{begins_at_name}
use Rattle.c_declarator_rows.proofs.ArrayLaws.{array_absent, array_counted, array_waits, counted_layout, initialized_next, length_waits, uncounted_layout}
use Rattle.c_declarator_rows.proofs.ListLaws.{kids_long}
use Rattle.c_declarator_rows.proofs.RowLaws.{row_by, within_nodes}
use Rattle.c_declarator_rows.proofs.arrays.array_part.Goals as goal

pub take_steps-requires-clause-kids : goal.take_steps-requires-clause-kids
take_steps-requires-clause-kids c = kids_of c.args.nodes.now c.args.node 0 c.args.meanings.now c.requires.ready c.requires.within kind.ArrayOf c.requires.kind

pub returns-in_default : goal.returns-in_default
returns-in_default c =
    let table = c.args.nodes.now in
    let n = c.args.node in
    let mid = c.take_steps.new.self in
    row_by table n (kid_in table n 0 + 1) c.args.meanings.now mid mid (Ok judged.Waits) waits c.take_steps.ensures.ready c.requires.within c.take_steps.ensures.left refl (grows_same mid.types mid.types refl)
    (array_waits table n c.requires.kind ((c.in_default.ensures {u = tt}).is)) refl (refl, tt, refl)

pub returns-then-not-has_kid : goal.returns-then-not-has_kid
returns-then-not-has_kid c =
    let table = c.args.nodes.now in
    let n = c.args.node in
    let old = c.args.meanings.now in
    let mid = c.take_steps.new.self in
    let own = its_number table n 0 old c.requires.ready c.requires.within in
    let place = c.array_place-place.result in
    let (rs, e, are) = (c.in-Some.ensures {u = tt}).is in
    row_by table n (kid_in table n 0 + 1) old mid mid c.uncounted.result (uncounted n rs place) c.take_steps.ensures.ready c.requires.within c.take_steps.ensures.left refl (grows_same mid.types mid.types refl)
    (array_absent table n c.requires.kind c.requires.part own rs e place (sym c.has_kid.ensures ∙ c.if-not-has_kid.true) c.array_place-place.ensures) (uncounted_layout n rs place)
    (c.uncounted.ensures mid.types rs are (λ same. (begins_at_name table n c.requires.ready.derived (within_nodes table n 0 c.args.meanings.now c.requires.ready c.requires.within) c.requires.kind) (initialized_next table n place c.array_place-place.ensures same) rs e))

pub operand_at-requires-clause-kids : goal.operand_at-requires-clause-kids
operand_at-requires-clause-kids c = kids_long (node_in c.args.nodes.now c.args.node).kids 1 (sym c.has_kid.ensures ∙ c.if-not-has_kid.false)

pub operand_at-requires-clause-ready : goal.operand_at-requires-clause-ready
operand_at-requires-clause-ready c =
    let table = c.args.nodes.now in
    let n = c.args.node in
    (kid_in table n 0 + 1, next_kid table n 0 c.args.meanings.now c.requires.ready c.requires.within 0 (kids_long (node_in table n).kids 1 (sym c.has_kid.ensures ∙ c.if-not-has_kid.false)), c.take_steps.ensures.ready)

pub returns-in-Some-operand_at : goal.returns-in-Some-operand_at
returns-in-Some-operand_at c =
    let table = c.args.nodes.now in
    let n = c.args.node in
    let old = c.args.meanings.now in
    let mid = c.take_steps.new.self in
    let own = its_number table n 0 old c.requires.ready c.requires.within in
    let place = c.array_place-place.result in
    let (rs, e, are) = (c.in-Some.ensures {u = tt}).is in
    let (y, f, is) = c.in-Some-operand_at.ensures {u = tt} in
    row_by table n (kid_in table n 0 + 1) old mid mid c.counted.result (counted n rs y (kid_in table n 1) place) c.take_steps.ensures.ready c.requires.within c.take_steps.ensures.left refl (grows_same mid.types mid.types refl)
    (array_counted table n c.requires.kind c.requires.part own rs e y place (sym c.has_kid.ensures ∙ c.if-not-has_kid.false) f c.array_place-place.ensures) (counted_layout n rs y (kid_in table n 1) place)
    (subst (λ i. IsAnswered mid.types c.counted.result (counted n rs y i place)) c.kid.ensures.is (c.counted.ensures rs y are is))

pub returns-in-None : goal.returns-in-None
returns-in-None c =
    let table = c.args.nodes.now in
    let n = c.args.node in
    let old = c.args.meanings.now in
    let mid = c.take_steps.new.self in
    let own = its_number table n 0 old c.requires.ready c.requires.within in
    let (rs, e, are) = (c.in-Some.ensures {u = tt}).is in
    row_by table n (kid_in table n 0 + 1) old mid mid (Ok judged.Waits) waits c.take_steps.ensures.ready c.requires.within c.take_steps.ensures.left refl (grows_same mid.types mid.types refl)
    (length_waits table n c.requires.kind c.requires.part own rs e (sym c.has_kid.ensures ∙ c.if-not-has_kid.false) (c.in-None.ensures {u = tt})) refl (refl, tt, refl)
