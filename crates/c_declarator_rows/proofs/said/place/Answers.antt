use Rattle.std.proofs.Common.{ap, sym, ◌∙◌}
use Rattle.c_syntax.specs.declared.kind.SynKind.TheVariants as kind
use Rattle.c_typing.specs.Places.{kind_at}
use Rattle.c_nodes.specs.Parents.{nodes_in}
use Rattle.c_nodes.proofs.ScopeLaws.{there_by_kind}
use Rattle.c_declarator_rows.proofs.RowLaws.{all_numbered, numbered_here}
use Rattle.c_declarator_rows.proofs.SpecLaws.{declaration_is, kind_place, other_place}
use Rattle.c_declarator_rows.proofs.said.place.Goals as goal

pub returns-in-Function : goal.returns-in-Function
returns-in-Function c =
    let table = c.args.nodes.now in
    let own = numbered_here table c.args.node c.requires.derived c.requires.long c.requires.within in
    sym (kind_place table c.args.node c.parent-owner.result own c.parent-owner.ensures kind.Function (sym c.kind_at.ensures ∙ c.in-Function.is))

pub returns-in-Param : goal.returns-in-Param
returns-in-Param c =
    let table = c.args.nodes.now in
    let own = numbered_here table c.args.node c.requires.derived c.requires.long c.requires.within in
    sym (kind_place table c.args.node c.parent-owner.result own c.parent-owner.ensures kind.Param (sym c.kind_at.ensures ∙ c.in-Param.is))

pub returns-in-Declaration : goal.returns-in-Declaration
returns-in-Declaration c =
    let table = c.args.nodes.now in
    let own = numbered_here table c.args.node c.requires.derived c.requires.long c.requires.within in
    let is = sym c.kind_at.ensures ∙ c.in-Declaration.is in
    let there = there_by_kind (nodes_in table) c.parent-owner.result (λ e. absurd (cc (sym is ∙ e))) in
    c.declaration_place.ensures
    ∙ declaration_is table c.args.node c.parent-owner.result own c.parent-owner.ensures c.kind_at-in-Declaration.result is (all_numbered table c.requires.derived c.parent-owner.result there) (c.kind_at-in-Declaration.ensures ∙ ap (λ i. kind_at (nodes_in table) i) c.parent.ensures)

pub returns-in_default : goal.returns-in_default
returns-in_default c =
    let table = c.args.nodes.now in
    let own = numbered_here table c.args.node c.requires.derived c.requires.long c.requires.within in
    other_place table c.args.node c.parent-owner.result own c.parent-owner.ensures c.kind_at.result c.in_default.not-Function c.in_default.not-Param c.in_default.not-Declaration (sym c.kind_at.ensures)
