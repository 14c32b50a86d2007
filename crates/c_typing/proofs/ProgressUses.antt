-- What names in expressions name is there.
use Rattle.std.proofs.Common.{◌≡◌, ℕ, true, List, [], Option, Some, sym, ap, ◌∙◌}
use Rattle.std.specs.Prelude.{slice_get, take}
use Rattle.std.specs.Option.{is_some}
use Rattle.c_lexer.specs.declared.token.Token.{Token}
use Rattle.c_syntax.specs.declared.kind.SynKind.TheVariants as kind
use Rattle.c_syntax.specs.Trees.{Tree}
use Rattle.c_grammar.specs.Derivation.{IsTreeOf}
use Rattle.c_typing.specs.Places.{Node, nodes}
use Rattle.c_typing.specs.Names.{places, denoted, object_number}
use Rattle.c_typing.specs.Judgements.{faults_in}
use Rattle.c_typing.specs.Typing.{judged_by, judgements_at, faults, place_faults_by, is_there, use_faults}
use Rattle.c_typing.specs.Meant.{IsUsed}
use Rattle.c_typing.proofs.ProgressBase.{judged_at}
use Rattle.c_typing.proofs.ProgressForms.{Has}
use Rattle.c_typing.proofs.ProgressAll.{calm_at, no_fault}
use Rattle.c_typing.proofs.ProgressDeclared.{of_denoted}
use Rattle.c_typing.proofs.ProgressUsed.{denotes, node_empty, not_broken}
use Rattle.c_typing.proofs.ProgressNumbers.{InList}
use Rattle.c_typing.proofs.ProgressObjects.{all_listed, object_placed, static_is}

has_some : {A : Type 0} (o : Option A) → Has o → is_some o ≡ true
has_some {A = A} o h = ap is_some h.is

pub used : (tokens : List Token) (t : Tree) (n : ℕ) (m : Node) → IsTreeOf tokens t → faults t ≡ [] → slice_get (nodes t) n ≡ Some m → m.label.kind ≡ kind.Var → IsUsed t m
used tokens t n m derived quiet e same =
    let p = places t in
    let js = judgements_at p in
    let none = no_fault t quiet in
    let calm = sym (ap faults_in (judged_at p p.nodes n m e)) ∙ calm_at js n none.by_node in
    let d = denotes p (take n js) m (ap (λ k. faults_in (judged_by p (take n js) m k)) (sym same) ∙ calm) in
    let here = node_empty (λ (node : Node). place_faults_by p node node.label.kind) p.nodes n m none.by_place e in
    let uses : use_faults p m (denoted p.names m.id m.label.text) ≡ [] = ap (λ k. place_faults_by p m k) (sym same) ∙ here in
    let there = not_broken (is_there p d.name d.name.entity) 17 m.id (ap (λ o. use_faults p m o) (sym d.is) ∙ uses) in
    let listed = (of_denoted (λ e. InList p.names e) p.names m.id m.label.text d.name (all_listed p.names) d.is).0 in
    record {
      name = d.name;
      denotes = d.is;
      is_value = d.value;
      is_defined = there;
      is_numbered = λ static. has_some (object_number p d.name) (object_placed tokens t derived quiet d.name listed static (ap (λ k. is_there p d.name k) (sym (static_is d.name.entity static)) ∙ there));
    }
