use Rattle.std.proofs.Common.{false, refl}
use Rattle.c_names.specs.declared.names.DeclaredName.{DeclaredName}
use Rattle.c_names.specs.declared.names.Entity.TheVariants as code
use Rattle.c_names.proofs.FoundLaws.{enumerator_is}
use Rattle.c_names.proofs.names.enumerator.Goals as goal

pub returns : goal.returns
returns c = λ first b.
    let x : DeclaredName = record { behind = c.args.node; owner = c.parent.result; scope = c.scope_or_none.result; entity = code.Enumerator; is_function = false } in
    enumerator_is c.args.scoped.now b.derived c.args.node c.requires.within b.nodes first b c.requires.kind x refl c.parent.ensures c.scope_or_none.ensures refl refl
