use Rattle.std.proofs.Common.{rules, ◌+◌, subst, sym, ◌∙◌}
use Rattle.c_lexer.proofs.Insides.{Scanned, scanned_next, scanned_newline}
use Rattle.c_lexer.proofs.literal.inside_size.Goals as goal

pub returns-then-byte-eq10-clause-none : goal.returns-then-byte-eq10-clause-none
returns-then-byte-eq10-clause-none c = scanned_newline c.args.quote c.args.text.now c.loop-index.is_escaped c.loop-index.index c.loop-index.invariant (search rules) (search rules) c.requires.1

pub loop-index-preserved : goal.loop-index-preserved
loop-index-preserved c =
    subst (λ e. Scanned c.args.quote c.args.text.now e (c.loop-index.index + 1)) (sym c.is_free-is_escaped.ensures)
    (scanned_next c.args.quote c.args.text.now c.loop-index.is_escaped c.loop-index.index c.loop-index.invariant (search rules) (search rules) (sym c.is_free.ensures ∙ c.if-is_free.false))
