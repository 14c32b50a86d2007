use Rattle.std.proofs.Common.{◌++◌, ◌∷◌, [], sym, subst}
use Rattle.c_declared_types.specs.Words.{Says, length_text}
use Rattle.c_declared_types.proofs.WordLaws.{length_added, length_twice}
use Rattle.c_declared_types.proofs.type_words.TypeWords.with_length.Goals as goal

pub returns-in-None : goal.returns-in-None
returns-in-None c = λ words h. length_added c.args.self words h c.args.length c.in-None.is

pub returns-in-Some : goal.returns-in-Some
returns-in-Some c = λ words h.
    subst (λ w. Says w (words ++ length_text c.args.length ∷ [])) (sym c.bad.ensures) (length_twice c.args.self words h c.in-Some.field-0 c.args.length c.in-Some.is)
