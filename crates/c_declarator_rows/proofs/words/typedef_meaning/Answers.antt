use Rattle.std.proofs.Common.{subst, sym, ◌∙◌}
use Rattle.std.specs.Prelude.{Ok}
use Rattle.c_typing.specs.Declarators.{typedef_type}
use Rattle.c_judgements.specs.declared.judged.Judged.{Judged}
use Rattle.c_meanings.specs.Meanings.{IsAnswered}
use Rattle.c_declarator_rows.specs.Found.{IsName}
use Rattle.c_declarator_rows.proofs.FoundLaws.{nameless, other_name, typedef_name}
use Rattle.c_declarator_rows.proofs.words.typedef_meaning.Goals as goal

pub returns-in_default : goal.returns-in_default
returns-in_default c = λ table js m e judged own is. nameless table c.args.meanings.now.types js m e c.args.name c.args.node c.in_default.not-Some own is

pub returns-then-not-is_typedef : goal.returns-then-not-is_typedef
returns-then-not-is_typedef c = λ table js m e judged own is.
    other_name table c.args.meanings.now.types js m e c.in-Some.name c.args.node own (subst (IsName table e) c.in-Some.is is) (sym c.is_typedef.ensures ∙ c.if-not-is_typedef.true)

pub returns : goal.returns
returns c = λ table js m e judged own is.
    subst (λ (s : Judged). IsAnswered c.args.meanings.now.types (Ok s) (typedef_type js m e)) (sym c.as_type.ensures)
    (typedef_name table c.args.meanings.now.types js m e c.in-Some.name c.type_of.result (subst (IsName table e) c.in-Some.is is) (sym c.is_typedef.ensures ∙ c.if-not-is_typedef.false) (λ e named. c.type_of.ensures table js e judged named))
