use Rattle.std.proofs.Common.{◌∙◌, None, ap}
use Rattle.std.proofs.lemmas.List.{get_or_default}
use Rattle.c_typing.specs.Judgements.{judgement_at}
use Rattle.c_judgements.specs.declared.judged.Judged.TheVariants as judged
use Rattle.c_judgements.specs.Judged.{has_cells, without_cells, taken}
use Rattle.c_judgements.proofs.JudgedLaws.{no_cells, no_declarator_cells, part_left, stands}
use Rattle.c_judgements.proofs.judged.Judgements.take_cells.Goals as goal

pub returns-in-Initialized-clause-left : goal.returns-in-Initialized-clause-left
returns-in-Initialized-clause-left c = c.put_back.ensures
    ∙ part_left without_cells c.args.self.now.slots.items c.args.node _ c.replace.new.dest c.replace.result (judged.Initialized c.in-Initialized.kind c.in-Initialized.code None) c.requires.within
    (c.replace.ensures.value ∙ c.index_mut.ensures.value) (ap without_cells c.in-Initialized.is)

pub returns-in_default : goal.returns-in_default
returns-in_default c =
    let stood = c.replace.ensures.value ∙ c.index_mut.ensures.value in
    record {
      is = λ k js a. no_declarator_cells k c.replace.result (judgement_at js c.args.node) c.in_default.not-Initialized
          (ap has_cells (stood ∙ get_or_default c.args.self.now.slots.items c.args.node _ taken c.requires.within) ∙ c.requires.there)
          (stands k c.args.self.now.slots.items js c.args.node _ c.replace.result c.requires.within a stood);
      left = c.put_back-in_default.ensures
          ∙ part_left without_cells c.args.self.now.slots.items c.args.node _ c.replace.new.dest c.replace.result c.replace.result c.requires.within stood (no_cells c.replace.result c.in_default.not-Initialized);
    }
