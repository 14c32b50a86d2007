use Rattle.std.proofs.Common.{◌≡◌, arith}
use Rattle.std.specs.List.{prefix_len}
use Rattle.std.proofs.lemmas.List.Sums.{prefix_len-le-length}
use Rattle.c_lexer.specs.Characters.{is_word_byte}
use Rattle.c_lexer.proofs.scan.word_size.Goals as goal

pub returns-clause-within : goal.returns-clause-within
returns-clause-within c =
    let size : c.word_bytes.result ≡ prefix_len is_word_byte c.args.text.now = c.word_bytes.ensures in
    let within = prefix_len-le-length is_word_byte c.args.text.now in
    omega (arith, size, within)
