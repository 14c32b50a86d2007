use Rattle.std.proofs.Common.{◌-◌, ap, refl, sym, ◌∙◌}
use Rattle.c_typing.specs.Places.{index_in, kid, node_at, parent_of}
use Rattle.c_nodes.specs.Parents.{nodes_in}
use Rattle.c_meanings.specs.Meanings.{judged_to}
use Rattle.c_meanings.proofs.MeaningLaws.{its_number}
use Rattle.c_declarator_rows.proofs.EnumeratorLaws.{first_value, next_value, next_waits}
use Rattle.c_declarator_rows.proofs.enumerators.next_value.Goals as goal

pub returns-then-index-eq0 : goal.returns-then-index-eq0
returns-then-index-eq0 c =
    let table = c.args.nodes.now in
    let n = c.args.node in
    let own = its_number table n 0 c.args.meanings.now c.requires.ready c.requires.within in
    let at = c.index-index.ensures ∙ ap (λ i. index_in (parent_of (nodes_in table) i).kids i) (sym own) in
    first_value table n c.requires.kind c.requires.next c.index-index.result at c.enumerator_after.result c.if-index-eq0.true (c.enumerator_after.ensures.first refl)

pub returns-in_default : goal.returns-in_default
returns-in_default c =
    let table = c.args.nodes.now in
    let n = c.args.node in
    let own = its_number table n 0 c.args.meanings.now c.requires.ready c.requires.within in
    let index = c.index-index.result in
    let at = c.index-index.ensures ∙ ap (λ i. index_in (parent_of (nodes_in table) i).kids i) (sym own) in
    let same = c.kid_of.ensures ∙ ap (λ p. kid (node_at (nodes_in table) p) (index - 1)) c.parent.ensures ∙ ap (λ i. kid (parent_of (nodes_in table) i) (index - 1)) (sym own) in
    next_waits table n c.requires.kind c.requires.next index at c.if-index-eq0.false c.kid_of.result same (sym (c.in_default.ensures {u = tt} (judged_to table n) c.requires.ready.judged))

pub returns : goal.returns
returns c =
    let table = c.args.nodes.now in
    let n = c.args.node in
    let own = its_number table n 0 c.args.meanings.now c.requires.ready c.requires.within in
    let index = c.index-index.result in
    let at = c.index-index.ensures ∙ ap (λ i. index_in (parent_of (nodes_in table) i).kids i) (sym own) in
    let same = c.kid_of.ensures ∙ ap (λ p. kid (node_at (nodes_in table) p) (index - 1)) c.parent.ensures ∙ ap (λ i. kid (parent_of (nodes_in table) i) (index - 1)) (sym own) in
    next_value table n c.requires.kind c.requires.next index at c.if-index-eq0.false c.kid_of.result same own c.in-Some.word c.enumerator_after-2.result (sym (c.in-Some.ensures {u = tt} (judged_to table n) c.requires.ready.judged))
    (c.enumerator_after-2.ensures.next c.in-Some.word refl)
