use Rattle.std.proofs.Common.{◌++◌, ◌∙◌, ◌∷◌, [], ap, rules}
use Rattle.std.proofs.lemmas.Fn.{filter_same}
use Rattle.c_tags.specs.Chains as chains
use Rattle.c_tags.proofs.chain.enter.Goals as goal

pub returns : goal.returns
returns c =
    c.in_ok-push.ensures.items
    ∙ ap (λ xs. xs ++ c.args.entry ∷ []) (filter_same _ (chains.stays c.args.number c.args.entry.scope) _ (λ x b f' k. search rules) c.args.chain.now.items c.retain.new.self.items c.retain.ensures.filtered)
