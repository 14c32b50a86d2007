-- A word that begins specs.
use Rattle.std.proofs.Common.{◌∙◌, ap, sym}
use Rattle.c_grammar.specs.Reading as reading
use Rattle.c_parser.proofs.Tokens.{ahead_word, place_of}
use Rattle.c_grammar.specs.Answers.{word_ahead}
use Rattle.c_parser.proofs.parser.Parser.begins_specifier.Goals as goal

pub returns-in-Word : goal.returns-in-Word
returns-in-Word c =
    c.is_specifier.ensures (place_of c.in-Some.token.now) (reading.behind_one c.args.self.now.rest.now)
    ∙ ap (λ text. reading.begins_specifier_by c.args.typed c.args.self.now.names (word_ahead text (place_of c.in-Some.token.now) (reading.behind_one c.args.self.now.rest.now))) c.as_slice.ensures
    ∙ ap (reading.begins_specifier_by c.args.typed c.args.self.now.names) (sym (ahead_word _ _ _ c.in-Some.ensures.some c.in-Word.is))
