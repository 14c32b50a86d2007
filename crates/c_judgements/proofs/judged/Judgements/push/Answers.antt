use Rattle.std.proofs.Common.{◌++◌, ◌∷◌, [], subst, sym}
use Rattle.c_judgements.specs.Judged.{AreJudged}
use Rattle.c_judgements.proofs.JudgedLaws.{pushed}
use Rattle.c_judgements.proofs.judged.Judgements.push.Goals as goal

pub returns-clause-are : goal.returns-clause-are
returns-clause-are c = λ k js j are is. subst (λ slots. AreJudged k slots (js ++ j ∷ [])) (sym ((c.in_ok-push.ensures {u = tt}).items)) (pushed k c.args.self.now.slots.items js c.args.judged j are is)
