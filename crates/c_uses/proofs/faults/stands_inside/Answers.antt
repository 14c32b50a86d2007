use Rattle.std.proofs.Common.{ap, arith, not, sym, ◌∙◌}
use Rattle.c_typing.specs.Places.{is_unit}
use Rattle.c_uses.proofs.FaultLaws.{in_declaration, in_other, past_all}
use Rattle.c_uses.proofs.faults.stands_inside.Goals as goal

pub returns-then-owner-len : goal.returns-then-owner-len
returns-then-owner-len c =
    let within = c.requires in
    let is = c.len.ensures.is in
    let nodes = c.len.ensures.nodes in
    let past = c.if-owner-len.true in
    past_all c.args.nodes.now c.len.ensures.numbered c.args.number (omega (arith, within, nodes)) c.parent-owner.result c.parent-owner.ensures (omega (arith, past, is, nodes))

pub returns-in-Declaration : goal.returns-in-Declaration
returns-in-Declaration c =
    let within = c.requires in
    let nodes = c.len.ensures.nodes in
    ap not (c.is_unit.ensures ∙ ap is_unit c.kind_at-in-Declaration.ensures)
    ∙ in_declaration c.args.nodes.now c.len.ensures.numbered c.args.number (omega (arith, within, nodes)) c.parent-owner.result c.parent-owner.ensures (sym c.kind_at.ensures ∙ c.in-Declaration.is) c.parent.result c.parent.ensures

pub returns-in_default : goal.returns-in_default
returns-in_default c =
    let within = c.requires in
    let nodes = c.len.ensures.nodes in
    in_other c.args.nodes.now c.len.ensures.numbered c.args.number (omega (arith, within, nodes)) c.parent-owner.result c.parent-owner.ensures (λ is. c.in_default.not-Declaration (c.kind_at.ensures ∙ is))
