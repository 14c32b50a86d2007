use Rattle.std.proofs.Common.{ap, refl, ◌∙◌}
use Rattle.std.specs.Prelude.{Ok}
use Rattle.c_syntax.specs.declared.syntax.SynNode.{SynNode}
use Rattle.c_typing.specs.Judgements.{itself, means}
use Rattle.c_typing.specs.Names.{denoted}
use Rattle.c_typing.specs.Declarators.{typedef_type}
use Rattle.c_names.specs.Denoted.{places_in}
use Rattle.c_judgements.specs.declared.judged.Judged.TheVariants as judged
use Rattle.c_meanings.specs.Meanings.{judged_to, node_in}
use Rattle.c_meanings.proofs.MeaningLaws.{its_number}
use Rattle.c_declarator_rows.proofs.FoundLaws.{word_denotes}
use Rattle.c_declarator_rows.proofs.RowLaws.{keyword_is, name_word_is, no_typedef_layout, still_row}
use Rattle.c_declarator_rows.proofs.words.word.Goals as goal

pub returns-then-is_keyword : goal.returns-then-is_keyword
returns-then-is_keyword c =
    let table = c.args.nodes.now in
    let n = c.args.node in
    let m = c.args.meanings.now in
    let text = c.as_slice.ensures ∙ ap (λ (x : SynNode). x.text) c.node.ensures.is in
    still_row table n 0 m (Ok judged.Itself) (means itself) c.requires.ready c.requires.within (keyword_is table n c.requires.kind c.as_slice.result.now text c.is_keyword.result c.is_keyword.ensures c.if-is_keyword.true) refl (refl, tt, refl)

pub returns : goal.returns
returns c =
    let table = c.args.nodes.now in
    let n = c.args.node in
    let m = c.args.meanings.now in
    let text = c.as_slice.ensures ∙ ap (λ (x : SynNode). x.text) c.node.ensures.is in
    let own = its_number table n 0 m c.requires.ready c.requires.within in
    let e = denoted (places_in table).names (node_in table n).id (node_in table n).label.text in
    still_row table n 0 m c.typedef_meaning.result (typedef_type (judged_to table n) (node_in table n) e) c.requires.ready c.requires.within
    (name_word_is table n c.requires.kind c.as_slice.result.now text c.is_keyword.result c.is_keyword.ensures c.if-is_keyword.false) (no_typedef_layout (judged_to table n) (node_in table n) e)
    (c.typedef_meaning.ensures table (judged_to table n) (node_in table n) e c.requires.ready.judged own
    (word_denotes table n m c.requires.ready c.requires.within c.requires.kind c.args.denoted.now c.args.names.now c.requires.denoted c.requires.names c.name_at.result c.name_at.ensures))
