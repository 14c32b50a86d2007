use Rattle.std.proofs.Common.{◌∙◌, sym}
use Rattle.c_nodes.specs.Scopes.{scope_of}
use Rattle.c_tags.proofs.ChainLaws.{met_none, met_some}
use Rattle.c_tags.proofs.chain.met.Goals as goal

pub returns-in-None : goal.returns-in-None
returns-in-None c = λ m e id same. met_none m c.args.is_enum (scope_of c.args.scope) c.args.declares c.fresh.result (c.fresh.ensures m id) e (sym c.in-None.is ∙ same)

pub returns-in-Some : goal.returns-in-Some
returns-in-Some c = λ m e id same. met_some m c.args.is_enum (scope_of c.args.scope) c.args.declares c.in-Some.tag c.met_again.result (λ x is. c.met_again.ensures m x id is) e (sym c.in-Some.is ∙ same)
