use Rattle.std.proofs.Common.{◌≡◌, arith}
use Rattle.std.specs.List.{prefix_len, zip}
use Rattle.std.proofs.lemmas.List.Sums.{prefix_len-le-length}
use Rattle.c_lexer.specs.Numbers.{continues_number}
use Rattle.c_lexer.proofs.Longest.{zip_within}
use Rattle.c_lexer.proofs.scan.run_size.Goals as goal

pub returns-clause-within : goal.returns-clause-within
returns-clause-within c =
    let size : c.run_bytes.result ≡ prefix_len continues_number (zip c.args.text.now c.args.rest.now) = c.run_bytes.ensures in
    let within = prefix_len-le-length continues_number (zip c.args.text.now c.args.rest.now) in
    omega (arith, size, within, zip_within c.args.text.now c.args.rest.now)
