use Rattle.std.proofs.Common.{◌∙◌, ap, sym}
use Rattle.c_typing.specs.Declarators.{word_in}
use Rattle.c_statements.proofs.LabelLaws.{only_repeated}
use Rattle.c_statements.proofs.labels.case_label.Goals as goal

pub returns-clause-is : goal.returns-clause-is
returns-clause-is c = λ p js n d own before is.
    let word = (c.in_ok-word.ensures {u = tt}) d is in
    let new = (c.in_ok-check_new.ensures {u = tt}).is in
    (only_repeated c.args.labels.now c.args.switch c.args.node c.args.constant_node p js n d c.in_ok-word.word own before word.1 ∙ new.0, sym (ap word_in word.1))
