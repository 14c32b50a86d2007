use Rattle.std.proofs.lemmas.Result.{IfOk-weaker}
use Rattle.c_nodes.specs.declared.around.Kinds.TheVariants as kinds
use Rattle.c_nodes.specs.Around.{AreAround}
use Rattle.c_locals.specs.Locals.{AreOwners}
use Rattle.c_locals.proofs.OwnerLaws.{owners_are}
use Rattle.c_locals.proofs.functions.functions_around.Goals as goal

pub returns : goal.returns
returns c =
    IfOk-weaker c.enclosing.result (λ found. AreAround kinds.Function c.args.nodes.now found.items) (λ found. AreOwners c.args.nodes.now found.items)
    (λ found a. owners_are c.args.nodes.now found.items a) c.enclosing.ensures
