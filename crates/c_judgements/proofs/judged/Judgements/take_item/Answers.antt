use Rattle.std.proofs.Common.{◌∙◌, sym}
use Rattle.c_judgements.specs.declared.judged.Judged.TheVariants as judged
use Rattle.c_judgements.proofs.JudgedLaws.{label_item, restored, stands, statement_item}
use Rattle.c_judgements.proofs.judged.Judgements.take_item.Goals as goal

pub returns-in_default-clause-left : goal.returns-in_default-clause-left
returns-in_default-clause-left c = c.put_back.ensures ∙ restored c.args.self.now.slots.items c.args.node _ c.replace.new.dest c.replace.result (c.replace.ensures.value ∙ c.index_mut.ensures.value)

pub returns-in-Labels-clause-is : goal.returns-in-Labels-clause-is
returns-in-Labels-clause-is c = λ k js a.
    label_item k js c.args.node c.in-Labels.word
    (stands k c.args.self.now.slots.items js c.args.node _ (judged.Labels c.in-Labels.word) c.requires.within a (sym c.in-Labels.is ∙ c.replace.ensures.value ∙ c.index_mut.ensures.value))

pub returns-in-Performs-clause-is : goal.returns-in-Performs-clause-is
returns-in-Performs-clause-is c = λ k js a.
    statement_item k js c.args.node c.in-Performs.code
    (stands k c.args.self.now.slots.items js c.args.node _ (judged.Performs c.in-Performs.code) c.requires.within a (sym c.in-Performs.is ∙ c.replace.ensures.value ∙ c.index_mut.ensures.value))
