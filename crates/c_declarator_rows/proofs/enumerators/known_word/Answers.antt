use Rattle.std.proofs.Common.{◌≤◌, length, arith, sym}
use Rattle.c_declarator_rows.proofs.EnumeratorLaws.{word_past}
use Rattle.c_declarator_rows.proofs.enumerators.known_word.Goals as goal

pub returns-then-node-len : goal.returns-then-node-len
returns-then-node-len c = λ js judged. c.word_at.ensures c.args.meanings.now.types js judged

pub returns-else-node-len : goal.returns-else-node-len
returns-else-node-len c = λ js judged.
    let long = judged.long in
    let past : length js ≤ c.args.node = omega (arith, long, c.len.ensures, c.if-node-len.false) in
    sym (word_past js c.args.node past)
