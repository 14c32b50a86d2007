use Rattle.std.proofs.Common.{◌&&◌, ◌∙◌, ap, sym}
use Rattle.c_typing.specs.Names as rules
use Rattle.c_typing.specs.Places.{is_word, text_at}
use Rattle.c_typing.specs.Names.{denoted}
use Rattle.c_nodes.specs.Parents.{nodes_in}
use Rattle.c_names.specs.Denoted.{places_in}
use Rattle.c_names.proofs.FoundLaws.{word_names}
use Rattle.c_names.proofs.words.is_function_word.Goals as goal

pub returns-then-is_word : goal.returns-then-is_word
returns-then-is_word c =
    let table = c.args.scoped.now in
    let word = ap is_word (sym c.kind_at.ensures) ∙ (sym c.is_word.ensures ∙ c.if-is_word.true) in
    c.names_function_type.ensures
    ∙ (word_names table c.requires.found.derived c.args.before c.args.word c.args.found.now c.args.denoted.now c.requires.found.nodes c.requires.order c.requires.within word c.requires.denoted c.requires.found
    ∙ ap (λ b. b && rules.names_function_type (denoted (places_in table).names c.args.word (text_at (nodes_in table) c.args.word))) (sym word))
