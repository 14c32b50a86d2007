use Rattle.std.proofs.Common.{ap, refl, subst, sym, ◌∙◌, List}
use Rattle.std.specs.Prelude.{Ok, Err, filter, flat_map}
use Rattle.c_typing.specs.Types.{CType}
use Rattle.c_typing.specs.Rules.{bad_storage_class, broken_if}
use Rattle.c_typing.specs.Declarators.{is_storage}
use Rattle.c_answers.specs.declared.refusal.Refusal.TheVariants as refusal
use Rattle.c_declared_types.specs.Words.{AreGiven}
use Rattle.c_judgements.specs.declared.judged.Judged.TheVariants as judged
use Rattle.c_meanings.specs.declared.meanings.Meanings.{Meanings}
use Rattle.c_meanings.specs.Meanings.{IsAnswered, judged_to, node_in}
use Rattle.c_meanings.proofs.MeaningLaws.{its_number, nothing_taken}
use Rattle.c_declarator_rows.proofs.RowLaws.{row_by, still_row}
use Rattle.c_declarator_rows.proofs.SpecLaws.{given_there, its_storage, its_types, its_words, specs_by, specs_is, specs_layout, specs_made, specs_waits, storage_broken}
use Rattle.c_declarator_rows.proofs.said.specifiers.Goals as goal

pub returns-then-is_bad_storage : goal.returns-then-is_bad_storage
returns-then-is_bad_storage c =
    let table = c.args.nodes.now in
    let n = c.args.node in
    let m = c.args.meanings.now in
    let words = its_words table n in
    let told = ap (λ p. bad_storage_class p (filter is_storage words) (node_in table n).id) (sym c.place.ensures)
    ∙ (c.is_bad_storage.ensures (filter is_storage words) (node_in table n).id (c.storage.ensures words c.words_of-words.ensures) ∙ ap (λ b. broken_if b 2 (node_in table n).id) c.if-is_bad_storage.true) in
    still_row table n 0 m (Err (refusal.Broken 2 n)) (specs_by table n (its_storage table n) (its_types table n)) c.requires.ready c.requires.within (specs_is table n c.requires.kind) (specs_layout table n (its_storage table n) (its_types table n))
    (storage_broken table n m.types (its_types table n) (its_number table n 0 m c.requires.ready c.requires.within) told)

pub type_of_specs-found-requires : goal.type_of_specs-found-requires
type_of_specs-found-requires c =
    let k = c.args.meanings.now.types in
    let (tss, e, is) = c.in-Some.ensures {u = tt} (judged_to c.args.nodes.now c.args.node) c.requires.ready.judged in
    subst (λ g. (us : List CType) × AreGiven k g us) (sym c.given.ensures) (given_there k c.in-Some.said (flat_map (λ ts. ts) tss) is)

pub returns-in-Some : goal.returns-in-Some
returns-in-Some c =
    let table = c.args.nodes.now in
    let n = c.args.node in
    let m = c.args.meanings.now in
    let new : Meanings = record { types = c.type_of_specs-found.new.table; judged = m.judged } in
    let words = its_words table n in
    let told = ap (λ p. bad_storage_class p (filter is_storage words) (node_in table n).id) (sym c.place.ensures)
    ∙ (c.is_bad_storage.ensures (filter is_storage words) (node_in table n).id (c.storage.ensures words c.words_of-words.ensures) ∙ ap (λ b. broken_if b 2 (node_in table n).id) c.if-is_bad_storage.false) in
    let (tss, e, is) = c.in-Some.ensures {u = tt} (judged_to table n) c.requires.ready.judged in
    row_by table n 0 m m new c.typed.result (specs_by table n (its_storage table n) (its_types table n)) c.requires.ready c.requires.within (nothing_taken table n m) refl c.type_of_specs-found.ensures.grows (specs_is table n c.requires.kind)
    (specs_layout table n (its_storage table n) (its_types table n))
    (subst (λ a. IsAnswered new.types a (specs_by table n (its_storage table n) (its_types table n))) (sym c.typed.ensures)
    (specs_made table n m.types new.types c.type_of_specs-found.ensures.grows.keeps (its_number table n 0 m c.requires.ready c.requires.within) c.type_of_specs-found.result c.in-Some.said c.given.result tss c.given.ensures told e is
    (λ us given. c.type_of_specs-found.ensures.is words us c.words_of-words.ensures given)))

pub returns-in-None : goal.returns-in-None
returns-in-None c =
    let table = c.args.nodes.now in
    let n = c.args.node in
    let m = c.args.meanings.now in
    let words = its_words table n in
    let told = ap (λ p. bad_storage_class p (filter is_storage words) (node_in table n).id) (sym c.place.ensures)
    ∙ (c.is_bad_storage.ensures (filter is_storage words) (node_in table n).id (c.storage.ensures words c.words_of-words.ensures) ∙ ap (λ b. broken_if b 2 (node_in table n).id) c.if-is_bad_storage.false) in
    still_row table n 0 m (Ok judged.Waits) (specs_by table n (its_storage table n) (its_types table n)) c.requires.ready c.requires.within (specs_is table n c.requires.kind) (specs_layout table n (its_storage table n) (its_types table n))
    (specs_waits table n m.types told (c.in-None.ensures {u = tt} (judged_to table n) c.requires.ready.judged))
