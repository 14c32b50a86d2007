use Rattle.std.proofs.Common.{sym}
use Rattle.c_lexer.proofs.TokensAt.{number_found, number_none}
use Rattle.c_lexer.proofs.piece.number_at.Goals as goal

pub returns-clause-found : goal.returns-clause-found
returns-clause-found c =
    number_found c.args.text.now c.args.rest.now c.requires.1 c.run_size-size.result c.split_at.result.0.now c.requires.2 c.requires.0 c.run_size-size.ensures.size c.split_at.ensures.front c.in_ok-value.value c.in_ok-value.int_type (sym c.in_ok-value.ensures)

pub returns-in_err-value-clause-none : goal.returns-in_err-value-clause-none
returns-in_err-value-clause-none c = rw c.from_residual.ensures
    (number_none c.args.text.now c.args.rest.now c.requires.1 c.run_size-size.result c.split_at.result.0.now c.requires.2 c.requires.0 c.run_size-size.ensures.size c.split_at.ensures.front (sym c.in_err-value.ensures))
