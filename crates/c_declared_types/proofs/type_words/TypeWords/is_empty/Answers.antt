use Rattle.std.proofs.Common.{◌∙◌}
use Rattle.c_declared_types.proofs.WordLaws.{bad_words, good_words}
use Rattle.c_declared_types.proofs.type_words.TypeWords.is_empty.Goals as goal

pub returns-then-self : goal.returns-then-self
returns-then-self c = λ words h. bad_words c.args.self words h c.if-self.true

pub returns-else-self : goal.returns-else-self
returns-else-self c = λ words h. c.is_blank.ensures ∙ good_words c.args.self words h c.if-self.false
