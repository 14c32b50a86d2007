use Rattle.std.proofs.Common.{◌∙◌, sym}
use Rattle.c_declared_types.proofs.WordLaws.{bad_said, good_said}
use Rattle.c_declared_types.proofs.type_words.TypeWords.said.Goals as goal

pub returns-then-self : goal.returns-then-self
returns-then-self c = λ words h. sym (bad_said c.args.self words h c.if-self.true)

pub returns-else-self : goal.returns-else-self
returns-else-self c = λ words h. c.named.ensures ∙ good_said c.args.self words h c.if-self.false
