use Rattle.std.proofs.Common.{◌≡◌, ◌∙◌, ℕ, List, None, Option, Some, ap, get_or, refl, sym}
use Rattle.std.specs.Prelude.{option_map, slice_set}
use Rattle.c_typing.specs.Places.{Node, has_kid, node_at, text_at}
use Rattle.c_typing.specs.Names.{Name}
use Rattle.c_nodes.specs.Parents.{nodes_in}
use Rattle.c_names.specs.declared.names.DeclaredName.{DeclaredName}
use Rattle.c_names.specs.Texts.{first_of}
use Rattle.c_names.specs.Denoted.{Begins}
use Rattle.c_names.specs.Names.{rule_name}
use Rattle.c_names.specs.Earlier.{noted, recorded, with_name}
use Rattle.c_names.proofs.EarlierLaws.{recorded_here, recorded_other}
use Rattle.c_names.proofs.FoundLaws.{named_here, some_same, text_of}
use Rattle.c_names.proofs.declarations.put_one.Goals as goal

missing : (s : List Node) (i : ℕ) (e : Name) (o : Option DeclaredName) → ((x : DeclaredName) → o ≡ Some x → ⊥) → Some e ≡ option_map (rule_name s i) o → ⊥
missing s i e None none h = absurd (cc h)
missing s i e (Some x) none h = none x refl

pub returns-in_default-names : goal.returns-in_default-names
returns-in_default-names c =
    let b : Begins c.args.scoped.now c.args.number c.in-Some.node = c.in-Some.ensures {u = tt} in
    absurd (missing (nodes_in c.args.scoped.now) c.in-Some.node b.name (get_or c.args.names.now c.in-Some.node None) c.in_default-names.not-Some (named_here c.args.scoped.now b.derived c.args.number c.in-Some.node c.args.names.now c.requires.names b (get_or c.args.names.now c.in-Some.node None) refl))

pub returns : goal.returns
returns c =
    let table = c.args.scoped.now in
    let b : Begins table c.args.number c.in-Some.node = c.in-Some.ensures {u = tt} in
    let x = c.in-Some-names.name in
    let node = c.in-Some.node in
    let text = c.text.result in
    let same : b.name ≡ rule_name (nodes_in table) node x = some_same (named_here table b.derived c.args.number node c.args.names.now c.requires.names b (Some x) c.in-Some-names.is) in
    let scope : x.scope.node ≡ b.name.scope.owner = ap (λ (y : Name). y.scope.owner) (sym same) in
    let owner : x.owner ≡ b.name.owner = ap (λ (y : Name). y.owner) (sym same) in
    let is = ap (first_of (nodes_in table)) (text_of table b.derived b.name b.among ∙ ap (text_at (nodes_in table)) b.at) ∙ c.text.ensures.is in
    let before = c.latest_of-before.ensures ∙ ap (recorded c.args.latest.now text) scope in
    let updates = (c.in_ok-insert.ensures {u = tt}).updates in
    noted node text b is (ap (slice_set c.args.found.now node) before)
    (ap (recorded c.insert.new.self text) (sym scope) ∙ (recorded_here c.args.latest.now c.insert.new.self text x.scope.node c.with_name.result updates.1
    ∙ (c.with_name.ensures ∙ (ap (λ e. with_name e node c.has_kid.result) before ∙ ap (λ k. with_name (recorded c.args.latest.now text b.name.scope.owner) node k) (c.has_kid.ensures ∙ ap (λ o. has_kid (node_at (nodes_in table) o) 1) owner)))))
    (λ t o differs. recorded_other c.args.latest.now c.insert.new.self text x.scope.node c.with_name.result updates.2 t o (λ f g. differs f (g ∙ scope)))
