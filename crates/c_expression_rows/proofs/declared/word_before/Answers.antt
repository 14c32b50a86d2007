use Rattle.std.proofs.Common.{ap, arith, sym}
use Rattle.c_typing.specs.Expressions.{word_of_enumerator}
use Rattle.c_meanings.specs.Meanings.{judged_to}
use Rattle.c_expression_rows.proofs.NameRowLaws.{not_before}
use Rattle.c_expression_rows.proofs.declared.word_before.Goals as goal

pub word_at-requires : goal.word_at-requires
word_at-requires c = let long = c.requires.1.long in let less = c.if-declared-node.true in omega (arith, long, less)

pub returns-then-declared-node : goal.returns-then-declared-node
returns-then-declared-node c = c.word_at.ensures c.args.meanings.now.types (judged_to c.args.nodes.now c.args.node) c.requires.1.judged

pub returns-else-declared-node : goal.returns-else-declared-node
returns-else-declared-node c = sym (ap word_of_enumerator (not_before c.args.nodes.now c.args.node c.requires.0 c.args.meanings.now c.args.declared c.requires.1 c.if-declared-node.false))
