use Rattle.std.proofs.Common.{rules, ◌≡◌, ◌+◌, ◌<◌, ◌≤◌, length, drop, Some, suc, refl, sym, subst, arith}
use Rattle.std.specs.Prelude.{slice_get}
use Rattle.std.proofs.Math.ListN.{get_or}
use Rattle.std.proofs.Math.Seq.{drop-cons}
use Rattle.std.proofs.lemmas.List.{drop_all}
use Rattle.std.proofs.lemmas.Option.{slice_get_read}
use Rattle.c_syntax.specs.declared.syntax.SynId.{SynId}
use Rattle.c_syntax.specs.Tables.{StandAll}
use Rattle.c_syntax.proofs.TextLaws.{stands_inside, kid_within, text_begins, text_goes_on, text_ends}
use Rattle.c_syntax.proofs.text.+put_tree.Goals as goal

pub loop-kid-init : goal.loop-kid-init
loop-kid-init t c = λ u stands.
    let inside = stands_inside c.args.table.now c.args.id u stands in
    let found : slice_get c.args.table.now c.args.id.number ≡ Some c.index-table-id.result = slice_get_read c.args.table.now (length c.args.table.now) c.args.id.number c.index-table-id.result refl inside c.index-table-id.is in
    let p = text_begins c.args.table.now c.args.level c.args.out.now c.put_line.new.out c.args.id u c.index-table-id.result found stands c.in_ok-put_line.ensures in
    (p.0, subst (λ ids. StandAll c.args.table.now ids p.0) (sym c.as_slice-kid-items.ensures) p.1, p.2, p.3)

pub put_tree-requires : goal.put_tree-requires
put_tree-requires t c =
    let ids = c.as_slice-kid-items.result.now in
    let i = c.loop-kid.kid-index in
    let none : SynId = record { number = 0 } in
    let within : i < length ids = search rules in
    let left = drop-cons ids i none within in
    let at = c.loop-kid.invariant c.requires.of c.requires.stands in
    let kid = kid_within c.args.table.now c.args.level _ (get_or ids i none) (drop (suc i) ids) at.0 (subst (λ is. StandAll c.args.table.now is at.0) left at.1) at.3 c.requires.low in
    let room = kid.low in
    let here = c.decreases in
    (omega (arith, here, room), kid)

pub loop-kid-preserved : goal.loop-kid-preserved
loop-kid-preserved t c = λ u stands.
    let ids = c.as_slice-kid-items.result.now in
    let i = c.loop-kid.kid-index in
    let none : SynId = record { number = 0 } in
    let within : i < length ids = search rules in
    let left = drop-cons ids i none within in
    let at = c.loop-kid.invariant u stands in
    let p = text_goes_on c.args.table.now (c.args.level + 1) c.loop-kid.out c.put_tree.new.out (get_or ids i none) (drop (suc i) ids) at.0 _ _ (subst (λ is. StandAll c.args.table.now is at.0) left at.1) at.2 at.3 c.in_ok-put_tree.ensures in
    let next : suc i ≡ i + 1 = omega arith in
    (p.0, subst (λ n. StandAll c.args.table.now (drop n ids) p.0) next p.1, p.2, p.3)

pub returns : goal.returns
returns t c = λ u stands.
    let at = c.loop-kid.invariant u stands in
    let past : length c.as_slice-kid-items.result.now ≤ c.loop-kid.kid-index = search rules in
    text_ends c.args.table.now (c.args.level + 1) c.loop-kid.out c.loop-kid.out at.0 _ (subst (λ ids. StandAll c.args.table.now ids at.0) (drop_all c.loop-kid.kid-index c.as_slice-kid-items.result.now past) at.1) at.2
