use Rattle.std.proofs.Common.{◌≡◌, ap₂, ◌∙◌, rules}
use Rattle.std.proofs.lemmas.Result.{IfOk-weaker}
use Rattle.clap.specs.Words.{app_of, with_rule}
use Rattle.cp_driver.specs.Jobs.{named, assembly_option, dump_option}
use Rattle.cp_driver.proofs.words.command.Goals as goal

pub returns : goal.returns
returns c =
    let name_is : app_of c.disable_help_flag.result ≡ named = search rules in
    let first : app_of c.in_ok-arg.field-0 ≡ with_rule named assembly_option = c.in_ok-arg.ensures.shape c.assembly_option.ensures.local ∙ ap₂ with_rule name_is c.assembly_option.ensures.rule in
    let second : app_of c.in_ok-arg-2.field-0 ≡ with_rule (with_rule named assembly_option) dump_option = c.in_ok-arg-2.ensures.shape c.dump_option.ensures.local ∙ ap₂ with_rule first c.dump_option.ensures.rule in
    IfOk-weaker c.arg-3.result _ _ (λ r h. h.shape c.file_word.ensures.local ∙ ap₂ with_rule second c.file_word.ensures.rule) c.arg-3.ensures
