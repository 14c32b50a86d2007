use Rattle.std.proofs.Common.{◌+◌, ap, length, refl, sym, ◌∙◌}
use Rattle.c_syntax.specs.declared.syntax.SynNode.{SynNode}
use Rattle.c_typing.specs.Judgements.{verdict}
use Rattle.c_typing.specs.Rules.{size_fault}
use Rattle.c_typing.specs.Expressions.{expression, literal}
use Rattle.c_names.specs.Denoted.{places_in}
use Rattle.c_meanings.specs.declared.meanings.Meanings.{Meanings}
use Rattle.c_meanings.specs.Meanings.{judged_to, node_in}
use Rattle.c_meanings.proofs.MeaningLaws.{expressed_row, its_number, nothing_taken}
use Rattle.c_expression_rows.proofs.StringLaws.{filling_row, object_is}
use Rattle.c_expression_rows.proofs.strings.string.Goals as goal

pub returns-then-fills : goal.returns-then-fills
returns-then-fills c =
    let table = c.args.nodes.now in
    let n = c.args.node in
    filling_row table n c.requires.kind (its_number table n 0 c.args.meanings.now c.requires.ready c.requires.within) c.args.fills c.requires.fills c.args.meanings.now c.requires.ready c.requires.within c.if-fills.true

pub returns : goal.returns
returns c =
    let table = c.args.nodes.now in
    let n = c.args.node in
    let p = places_in table in
    let js = judged_to table n in
    let bytes = (node_in table n).label.bytes in
    let old = c.args.meanings.now in
    let new : Meanings = record { types = c.literal.new.table; judged = old.judged } in
    let long = sym (ap length (c.as_slice-bytes.ensures ∙ ap (λ (x : SynNode). x.bytes) c.node.ensures.is)) in
    expressed_row table n 0 old old new c.expressed.result c.requires.ready c.requires.within (nothing_taken table n old) refl c.literal.ensures.grows 0 c.literal.result (verdict (size_fault (length bytes + 1) n) (expression (literal p js bytes)))
    c.expressed.ensures (object_is table n c.requires.kind (its_number table n 0 old c.requires.ready c.requires.within) c.args.fills c.requires.fills c.if-fills.false)
    (c.literal.ensures.is p js bytes long c.requires.number)
