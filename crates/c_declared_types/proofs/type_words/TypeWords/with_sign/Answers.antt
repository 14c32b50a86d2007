use Rattle.std.proofs.Common.{◌++◌, ◌∷◌, [], sym, subst}
use Rattle.c_declared_types.specs.Words.{Says, sign_text}
use Rattle.c_declared_types.proofs.WordLaws.{sign_added, sign_twice}
use Rattle.c_declared_types.proofs.type_words.TypeWords.with_sign.Goals as goal

pub returns-in-None : goal.returns-in-None
returns-in-None c = λ words h. sign_added c.args.self words h c.args.sign c.in-None.is

pub returns-in-Some : goal.returns-in-Some
returns-in-Some c = λ words h.
    subst (λ w. Says w (words ++ sign_text c.args.sign ∷ [])) (sym c.bad.ensures) (sign_twice c.args.self words h c.in-Some.field-0 c.args.sign c.in-Some.is)
