use Rattle.std.proofs.Common.{subst}
use Rattle.c_typing.specs.Judgements.{judgement_at}
use Rattle.c_judgements.specs.Judged.{IsJudged}
use Rattle.c_judgements.proofs.JudgedLaws.{stands}
use Rattle.c_meanings.specs.Meanings.{slots_of}
use Rattle.c_declarator_rows.proofs.SpecLaws.{meaning_said, struct_said}
use Rattle.c_declarator_rows.proofs.said.said_at.Goals as goal

pub returns-in-Type : goal.returns-in-Type
returns-in-Type c = λ js judged.
    let m = c.args.meanings.now in
    let s = c.index.result.now in
    let j = judgement_at js c.args.node in
    meaning_said m.types c.in-Type.kind j (subst (λ x. IsJudged m.types x j) c.in-Type.is (stands m.types (slots_of m) js c.args.node s s c.requires judged c.index.ensures))

pub returns-in-Struct : goal.returns-in-Struct
returns-in-Struct c = λ js judged.
    let m = c.args.meanings.now in
    let s = c.index.result.now in
    let j = judgement_at js c.args.node in
    struct_said m.types c.in-Struct.id j (subst (λ x. IsJudged m.types x j) c.in-Struct.is (stands m.types (slots_of m) js c.args.node s s c.requires judged c.index.ensures))
