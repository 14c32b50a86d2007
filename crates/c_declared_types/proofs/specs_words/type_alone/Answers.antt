use Rattle.std.proofs.Common.{◌∷◌, [], ◌∙◌, sym}
use Rattle.c_typing.specs.Declarators.{said_type}
use Rattle.c_declared_types.proofs.WordLaws.{said_one, said_not, no_type, a_type_said}
use Rattle.c_declared_types.proofs.specs_words.type_alone.Goals as goal

pub returns-then-is_empty-clause-is : goal.returns-then-is_empty-clause-is
returns-then-is_empty-clause-is c = λ k texts t says named.
    a_type_said k (said_type texts (t ∷ [])) c.args.node c.args.id t (said_one texts t (sym (c.is_empty.ensures texts says) ∙ c.if-is_empty.true)) named

pub returns-else-is_empty-clause-is : goal.returns-else-is_empty-clause-is
returns-else-is_empty-clause-is c = λ k texts t says named.
    no_type (said_type texts (t ∷ [])) c.args.node (said_not texts t (sym (c.is_empty.ensures texts says) ∙ c.if-is_empty.false))
