use Rattle.std.proofs.Common.{◌<◌, ◌∙◌, ap, refl, subst, sym}
use Rattle.std.proofs.lemmas.Result.{on_ok_weaker}
use Rattle.c_typing.specs.Names.{Name}
use Rattle.c_names.specs.Chains.{IsEntered}
use Rattle.c_names.specs.Denoted.{Begins, nothing, entered}
use Rattle.c_names.proofs.UseLaws.{chain_at, with_chain}
use Rattle.c_names.proofs.uses.enter_begun.Goals as goal

pub returns-in_default : goal.returns-in_default
returns-in_default c = nothing refl (λ e i at. absurd ((c.in_default.ensures {u = tt}) e i at))

pub returns-in_default-scope : goal.returns-in_default-scope
returns-in_default-scope c =
    let b : Begins c.args.scoped.now c.args.number c.in-Some.node = c.in-Some.ensures {u = tt} in
    nothing refl (λ e i at. ap (λ (x : Name). x.scope) (b.alone e i at) ∙ (b.scope ∙ (c.in_default-scope.ensures {u = tt})))

pub text-requires-clause-named : goal.text-requires-clause-named
text-requires-clause-named c =
    let b : Begins c.args.scoped.now c.args.number c.in-Some.node = c.in-Some.ensures {u = tt} in
    b.named

pub returns : goal.returns
returns c =
    let b : Begins c.args.scoped.now c.args.number c.in-Some.node = c.in-Some.ensures {u = tt} in
    let scope = c.in-Some-scope.ensures {u = tt} in
    let text = c.text.result in
    let within = subst (λ n. text < n) (sym c.requires.chains) c.text.ensures.there in
    on_ok_weaker c.enter.result (λ put. entered (record { node = c.in-Some.node; scope = c.in-Some-scope.scope }) text c.enter.new.chain.items b scope.0 scope.1 c.text.ensures.is
    (subst (λ xs. IsEntered c.args.number (record { node = c.in-Some.node; scope = c.in-Some-scope.scope }) xs c.enter.new.chain.items) (sym (chain_at c.args.chains.now text c.index-chains-text.result within)) put)
    (with_chain c.args.chains.now text c.enter.new.chain)) c.enter.ensures
