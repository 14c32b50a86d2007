use Rattle.std.proofs.Common.{◌++◌, ◌∷◌, [], sym, subst}
use Rattle.c_declared_types.specs.Words.{Says, base_text}
use Rattle.c_declared_types.proofs.WordLaws.{base_added, base_twice}
use Rattle.c_declared_types.proofs.type_words.TypeWords.with_base.Goals as goal

pub returns-in-None : goal.returns-in-None
returns-in-None c = λ words h. base_added c.args.self words h c.args.base c.in-None.is

pub returns-in-Some : goal.returns-in-Some
returns-in-Some c = λ words h.
    subst (λ w. Says w (words ++ base_text c.args.base ∷ [])) (sym c.bad.ensures) (base_twice c.args.self words h c.in-Some.field-0 c.args.base c.in-Some.is)
