use Rattle.std.proofs.Common.{◌∙◌, sym}
use Rattle.c_typing.specs.Judgements.{judgement_at}
use Rattle.c_judgements.specs.declared.judged.Judged.TheVariants as judged
use Rattle.c_judgements.proofs.JudgedLaws.{expressed, restored, stands}
use Rattle.c_judgements.proofs.judged.Judgements.take_typing.Goals as goal

pub returns-in_default-clause-left : goal.returns-in_default-clause-left
returns-in_default-clause-left c = c.put_back.ensures ∙ restored c.args.self.now.slots.items c.args.node _ c.replace.new.dest c.replace.result (c.replace.ensures.value ∙ c.index_mut.ensures.value)

pub returns-in-Expresses-clause-is : goal.returns-in-Expresses-clause-is
returns-in-Expresses-clause-is c = λ k js a.
    expressed k c.in-Expresses.typing (judgement_at js c.args.node)
    (stands k c.args.self.now.slots.items js c.args.node _ (judged.Expresses c.in-Expresses.typing) c.requires.within a
    (sym c.in-Expresses.is ∙ c.replace.ensures.value ∙ c.index_mut.ensures.value))
