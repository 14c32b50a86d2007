use Rattle.std.proofs.Common.{ap, false, refl, subst, sym, true, ◌∙◌}
use Rattle.std.specs.Prelude.{Err, Ok}
use Rattle.c_typing.specs.Rules.{stands_twice}
use Rattle.c_names.specs.Denoted.{places_in}
use Rattle.c_answers.specs.declared.refusal.Refusal.TheVariants as refusal
use Rattle.c_judgements.specs.declared.judged.Judged.TheVariants as judged
use Rattle.c_meanings.specs.declared.meanings.Meanings.{Meanings}
use Rattle.c_meanings.specs.Meanings.{IsAnswered, judged_to, node_in}
use Rattle.c_meanings.proofs.MeaningLaws.{its_number, nothing_taken}
use Rattle.c_declarator_rows.proofs.RowLaws.{row_by, still_row}
use Rattle.c_declarator_rows.proofs.TagRowLaws.{enum_by, enum_layout, enum_made, enum_told, enum_twice, enum_unknown, enum_waits, its_tag, its_values, none_or, some_or, tag_told}
use Rattle.c_declarator_rows.proofs.tags.enumeration.Goals as goal

pub returns-then-not-is_known_enum : goal.returns-then-not-is_known_enum
returns-then-not-is_known_enum c =
    let table = c.args.nodes.now in
    let n = c.args.node in
    let m = c.args.meanings.now in
    let own = its_number table n 0 m c.requires.ready c.requires.within in
    let tag = tag_told table n c.args.tags.now c.tag_at-tag.result own c.requires.tags c.requires.within c.tag_at-tag.ensures in
    let known = c.is_known_enum.ensures (places_in table) (node_in table n) (its_tag table n) (sym c.has_kid.ensures) tag in
    still_row table n 0 m (Err (refusal.Broken 4 n)) (enum_by table n false) c.requires.ready c.requires.within (enum_told table n c.is_known_enum.result c.requires.kind known ∙ ap (enum_by table n) c.if-not-is_known_enum.true) (enum_layout table n false)
    (enum_unknown table n m.types own)

pub returns-then-stands_twice : goal.returns-then-stands_twice
returns-then-stands_twice c =
    let table = c.args.nodes.now in
    let n = c.args.node in
    let m = c.args.meanings.now in
    let own = its_number table n 0 m c.requires.ready c.requires.within in
    let tag = tag_told table n c.args.tags.now c.tag_at-tag.result own c.requires.tags c.requires.within c.tag_at-tag.ensures in
    let known = c.is_known_enum.ensures (places_in table) (node_in table n) (its_tag table n) (sym c.has_kid.ensures) tag in
    let twice = c.stands_twice.ensures (places_in table) (node_in table n) (its_tag table n) tag ∙ ap (λ b. stands_twice b (node_in table n).id) c.if-stands_twice.true in
    still_row table n 0 m (Err (refusal.Broken 3 n)) (enum_by table n true) c.requires.ready c.requires.within (enum_told table n c.is_known_enum.result c.requires.kind known ∙ ap (enum_by table n) c.if-not-is_known_enum.false) (enum_layout table n true)
    (enum_twice table n m.types own twice)

pub returns-then-not-are_enumerators : goal.returns-then-not-are_enumerators
returns-then-not-are_enumerators c =
    let table = c.args.nodes.now in
    let n = c.args.node in
    let m = c.args.meanings.now in
    let own = its_number table n 0 m c.requires.ready c.requires.within in
    let tag = tag_told table n c.args.tags.now c.tag_at-tag.result own c.requires.tags c.requires.within c.tag_at-tag.ensures in
    let known = c.is_known_enum.ensures (places_in table) (node_in table n) (its_tag table n) (sym c.has_kid.ensures) tag in
    let once = c.stands_twice.ensures (places_in table) (node_in table n) (its_tag table n) tag ∙ ap (λ b. stands_twice b (node_in table n).id) c.if-stands_twice.false in
    still_row table n 0 m (Ok judged.Waits) (enum_by table n true) c.requires.ready c.requires.within (enum_told table n c.is_known_enum.result c.requires.kind known ∙ ap (enum_by table n) c.if-not-is_known_enum.false) (enum_layout table n true)
    (enum_waits table n m.types own once (none_or (its_values table n) (sym (c.are_enumerators.ensures (judged_to table n) c.requires.ready.judged) ∙ c.if-not-are_enumerators.true)))

pub returns : goal.returns
returns c =
    let table = c.args.nodes.now in
    let n = c.args.node in
    let m = c.args.meanings.now in
    let new : Meanings = record { types = c.integer.new.self; judged = m.judged } in
    let own = its_number table n 0 m c.requires.ready c.requires.within in
    let tag = tag_told table n c.args.tags.now c.tag_at-tag.result own c.requires.tags c.requires.within c.tag_at-tag.ensures in
    let known = c.is_known_enum.ensures (places_in table) (node_in table n) (its_tag table n) (sym c.has_kid.ensures) tag in
    let once = c.stands_twice.ensures (places_in table) (node_in table n) (its_tag table n) tag ∙ ap (λ b. stands_twice b (node_in table n).id) c.if-stands_twice.false in
    let (values, there) = some_or (its_values table n) (sym (c.are_enumerators.ensures (judged_to table n) c.requires.ready.judged) ∙ c.if-not-are_enumerators.false) in
    row_by table n 0 m m new c.made.result (enum_by table n true) c.requires.ready c.requires.within (nothing_taken table n m) refl c.integer.ensures.grows
    (enum_told table n c.is_known_enum.result c.requires.kind known ∙ ap (enum_by table n) c.if-not-is_known_enum.false) (enum_layout table n true)
    (subst (λ a. IsAnswered new.types a (enum_by table n true)) (sym c.made.ensures) (enum_made table n new.types own c.integer.result values once there c.integer.ensures.ok))
