use Rattle.std.proofs.Common.{◌<◌, length, ap, refl, subst, sym, ◌∙◌}
use Rattle.std.specs.Prelude.{Err, IfOk}
use Rattle.c_typing.specs.Types.{struct}
use Rattle.c_typing.specs.Rules.{stands_twice}
use Rattle.c_names.specs.Denoted.{places_in}
use Rattle.c_type_ids.specs.Ids.{Names}
use Rattle.c_answers.specs.declared.refusal.Refusal.TheVariants as refusal
use Rattle.c_meanings.specs.declared.meanings.Meanings.{Meanings}
use Rattle.c_meanings.specs.Meanings.{IsAnswered, node_in}
use Rattle.c_meanings.proofs.MeaningLaws.{its_number, nothing_taken}
use Rattle.c_declarator_rows.proofs.RoomLaws.{has_room}
use Rattle.c_declarator_rows.proofs.RowLaws.{row_by, still_row}
use Rattle.c_declarator_rows.proofs.TagRowLaws.{its_tag, its_twice, reference, reference_is, reference_layout, reference_made, reference_twice, tag_told}
use Rattle.c_declarator_rows.proofs.tags.struct_reference.Goals as goal

pub returns-then-stands_twice : goal.returns-then-stands_twice
returns-then-stands_twice c =
    let table = c.args.nodes.now in
    let n = c.args.node in
    let m = c.args.meanings.now in
    let own = its_number table n 0 m c.requires.ready c.requires.within in
    let tag = tag_told table n c.args.tags.now c.tag_at-tag.result own c.requires.tags c.requires.within c.tag_at-tag.ensures in
    let twice = c.stands_twice.ensures (places_in table) (node_in table n) (its_tag table n) tag ∙ ap (λ b. stands_twice b (node_in table n).id) c.if-stands_twice.true in
    still_row table n 0 m (Err (refusal.Broken 3 n)) (reference table n (its_twice table n)) c.requires.ready c.requires.within (reference_is table n c.requires.kind c.requires.bodiless) (reference_layout table n (its_twice table n))
    (reference_twice table n m.types own twice)

pub structure-requires : goal.structure-requires
structure-requires c =
    let table = c.args.nodes.now in
    let n = c.args.node in
    let m = c.args.meanings.now in
    let own = its_number table n 0 m c.requires.ready c.requires.within in
    let tag = tag_told table n c.args.tags.now c.tag_at-tag.result own c.requires.tags c.requires.within c.tag_at-tag.ensures in
    subst (λ i. i < length m.types.structs) (sym (c.names_of.ensures (places_in table) (node_in table n) (its_tag table n) own tag)) (has_room table n 0 m c.requires.ready c.requires.within)

pub returns : goal.returns
returns c =
    let table = c.args.nodes.now in
    let n = c.args.node in
    let m = c.args.meanings.now in
    let new : Meanings = record { types = c.structure.new.self; judged = m.judged } in
    let own = its_number table n 0 m c.requires.ready c.requires.within in
    let tag = tag_told table n c.args.tags.now c.tag_at-tag.result own c.requires.tags c.requires.within c.tag_at-tag.ensures in
    let once = c.stands_twice.ensures (places_in table) (node_in table n) (its_tag table n) tag ∙ ap (λ b. stands_twice b (node_in table n).id) c.if-stands_twice.false in
    let names = c.names_of.ensures (places_in table) (node_in table n) (its_tag table n) own tag in
    row_by table n 0 m m new c.made.result (reference table n (its_twice table n)) c.requires.ready c.requires.within (nothing_taken table n m) refl c.structure.ensures.grows (reference_is table n c.requires.kind c.requires.bodiless)
    (reference_layout table n (its_twice table n))
    (subst (λ a. IsAnswered new.types a (reference table n (its_twice table n))) (sym c.made.ensures)
    (reference_made table n new.types own c.structure.result once (subst (λ i. IfOk c.structure.result (λ id. Names new.types id (struct i))) names c.structure.ensures.ok)))
