use Rattle.c_lexer.proofs.TokensAt.{word_is_text}
use Rattle.c_lexer.proofs.piece.word.Goals as goal

pub unreachable-requires : goal.unreachable-requires
unreachable-requires c = absurd (c.in-Err.ensures.cases.0 (word_is_text c.args.text.now c.requires))
