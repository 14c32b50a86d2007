use Rattle.std.proofs.Common.{◌≡◌, ap, ◌∙◌, not}
use Rattle.std.specs.Str.{bytes_eq}
use Rattle.c_parts.specs.Slots.{slot_of}
use Rattle.c_parts.proofs.KeywordLaws.{keyword_at, sought}
use Rattle.c_parts.proofs.words.is_identifier.Goals as goal

pub returns : goal.returns
returns c =
    let slot = c.slot_of.ensures.slot ∙ ap slot_of c.as_bytes.ensures.value in
    let found : c.word_at.result.now ≡ keyword_at (slot_of c.args.text.now) = c.word_at.ensures ∙ ap keyword_at slot in
    let e : c.ne.result ≡ not (bytes_eq c.word_at.result.now c.args.text.now) = c.ne.ensures in
    e ∙ ap (λ k. not (bytes_eq k c.args.text.now)) found ∙ ap not (sought c.args.text.now)
