use Rattle.std.proofs.Common.{subst, sym}
use Rattle.std.specs.Prelude.{Ok}
use Rattle.c_syntax.specs.declared.kind.SynKind.TheVariants as kind
use Rattle.c_typing.specs.Judgements.{a_type, given, means, type_at}
use Rattle.c_judgements.specs.declared.judged.Judged.{Judged}
use Rattle.c_meanings.specs.Meanings.{IsAnswered, judged_to, kid_in}
use Rattle.c_meanings.proofs.MeaningLaws.{kids_of}
use Rattle.c_declarator_rows.proofs.FoundLaws.{type_answered}
use Rattle.c_declarator_rows.proofs.RowLaws.{no_type_layout, still_row, type_name_is}
use Rattle.c_declarator_rows.proofs.types.type_name.Goals as goal

pub type_at-requires-clause-kids : goal.type_at-requires-clause-kids
type_at-requires-clause-kids c = kids_of c.args.nodes.now c.args.node 0 c.args.meanings.now c.requires.ready c.requires.within kind.TypeName c.requires.kind

pub returns : goal.returns
returns c =
    let table = c.args.nodes.now in
    let n = c.args.node in
    let m = c.args.meanings.now in
    let found = type_at (judged_to table n) (kid_in table n 1) in
    let meant = given found (λ t. means (a_type t)) in
    still_row table n 0 m (Ok c.as_type.result) meant c.requires.ready c.requires.within (type_name_is table n c.requires.kind) (no_type_layout found)
    (subst (λ (s : Judged). IsAnswered m.types (Ok s) meant) (sym c.as_type.ensures) (type_answered m.types c.type_at.result found c.type_at.ensures))
