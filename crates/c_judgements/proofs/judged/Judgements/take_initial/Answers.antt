use Rattle.std.proofs.Common.{◌∙◌}
use Rattle.c_judgements.proofs.JudgedLaws.{restored}
use Rattle.c_judgements.proofs.judged.Judgements.take_initial.Goals as goal

pub returns-in_default-clause-left : goal.returns-in_default-clause-left
returns-in_default-clause-left c = c.put_back.ensures ∙ restored c.args.self.now.slots.items c.args.node _ c.replace.new.dest c.replace.result (c.replace.ensures.value ∙ c.index_mut.ensures.value)
