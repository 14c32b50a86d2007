use Rattle.std.proofs.Common.{◌+◌, sym, ◌∙◌, subst}
use Rattle.c_lexer.specs.declared.token.TokenKind.TheVariants.{Word}
use Rattle.c_lexer.specs.Readings.{IsTokenAt}
use Rattle.c_lexer.proofs.TokensAt.{word_found, word_requires}
use Rattle.c_lexer.proofs.piece.word_at.Goals as goal

pub word-requires : goal.word-requires
word-requires c = word_requires c.args.text.now c.args.rest.now c.requires.0 c.word_size-size.result c.split_at.result.0.now c.requires.1 c.requires.2 c.word_size-size.ensures.size c.split_at.ensures.front

pub returns-clause-found : goal.returns-clause-found
returns-clause-found c =
    subst (λ name. IsTokenAt c.args.text.now (1 + c.word_size-size.result) (Word name)) (sym (c.in_ok-name.ensures ∙ c.split_at.ensures.front))
    (word_found c.args.text.now c.args.rest.now c.requires.0 c.word_size-size.result c.requires.1 c.requires.2 c.word_size-size.ensures.size)
