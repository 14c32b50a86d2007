use Rattle.std.proofs.Common.{arith}
use Rattle.std.proofs.lemmas.List.{length-reverse}
use Rattle.std.proofs.lemmas.List.Sums.{prefix_len-le-length}
use Rattle.std.specs.Prelude.{reverse}
use Rattle.c_lexer.specs.Readings.{is_suffix_byte}
use Rattle.c_lexer.proofs.number.constant_of.Goals as goal

pub overflow_sub-text : goal.overflow_sub-text
overflow_sub-text c = let within = prefix_len-le-length is_suffix_byte (reverse c.args.text.now) in let size = c.suffix_size.ensures in omega (arith, within, size, length-reverse c.args.text.now)
