use Rattle.std.proofs.Common.{◌==◌, not, arith}
use Rattle.std.proofs.lemmas.List.Sums.{prefix_len-le-length}
use Rattle.c_lexer.specs.Characters.{newline}
use Rattle.c_lexer.proofs.scan.line_size.Goals as goal

pub returns-clause-within : goal.returns-clause-within
returns-clause-within c =
    let size = c.line_bytes.ensures in
    let within = prefix_len-le-length (λ b. not (b == newline)) c.args.text.now in
    omega (arith, size, within)
