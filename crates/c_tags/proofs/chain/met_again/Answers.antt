use Rattle.std.proofs.Common.{◌∙◌, ap, sym}
use Rattle.c_nodes.specs.Scopes.{scope_of}
use Rattle.c_tags.specs.declared.chain.Entry.{Entry}
use Rattle.c_tags.specs.Chains.{met_of}
use Rattle.c_tags.proofs.ChainLaws.{new_one}
use Rattle.c_tags.proofs.chain.met_again.Goals as goal

pub returns-then-tag-scope : goal.returns-then-tag-scope
returns-then-tag-scope c =
    λ m e id same.
    c.fresh.ensures m id
    ∙ sym (ap met_of (new_one m c.args.is_enum (scope_of c.args.scope) c.args.declares e c.if-declares.true (λ home. c.if-tag-scope.true (ap (λ (x : Entry). x.home) same ∙ home))))
