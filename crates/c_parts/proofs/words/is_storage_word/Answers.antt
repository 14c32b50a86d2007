use Rattle.std.proofs.Common.{sym, ap, ◌∙◌, not}
use Rattle.c_parts.proofs.KeywordLaws.{no_storage_word}
use Rattle.c_parts.proofs.words.is_storage_word.Goals as goal

pub returns-else-not-is_identifier : goal.returns-else-not-is_identifier
returns-else-not-is_identifier c =
    let e = c.if-not-is_identifier.false in
    ap not e ∙ sym (no_storage_word c.args.text.now (sym c.is_identifier.ensures ∙ e))
