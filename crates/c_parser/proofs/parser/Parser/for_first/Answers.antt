-- The first part of a `for`.
use Rattle.std.proofs.Common.{sym, ◌∙◌}
use Rattle.c_parser.specs.Gives.{itself, nothing_more}
use Rattle.c_parser.proofs.Made.{gives_same}
use Rattle.c_parser.proofs.ForLaws.{first_declaration}
use Rattle.c_parser.proofs.parser.Parser.for_first.Goals as goal

pub returns-then-begins_specifier : goal.returns-then-begins_specifier
returns-then-begins_specifier c = gives_same itself nothing_more _ _ _ _ _ _ _ _
    (first_declaration c.args.budget c.args.self.now.names c.args.self.now.rest.now (sym c.begins_specifier.ensures ∙ c.if-begins_specifier.true)) c.declaration.ensures
