-- Where no rule is broken, all nodes of a derived tree have a meaning; so the tree is typed as one unit, or broken, or too big.
use Rattle.std.proofs.Common.{◌≡◌, ℕ, true, false, not, List, [], Some, refl, sym, ap, ◌∙◌, subst, arith, true≢false}
use Rattle.std.specs.Prelude.{slice_get, Contains}
use Rattle.c_types.specs.declared.tree.Unit.{Unit as Whole}
use Rattle.c_lexer.specs.declared.token.Token.{Token}
use Rattle.c_syntax.specs.declared.kind.SynKind.{SynKind}
use Rattle.c_syntax.specs.Trees.{Tree}
use Rattle.c_grammar.specs.Derivation.{IsTreeOf}
use Rattle.c_typing.specs.Places.{Node, nodes, node_at, is_whole, kind_at, is_declarator}
use Rattle.c_typing.specs.Names.{places}
use Rattle.c_typing.specs.Judgements.{rule, too_big, Meaning, Judgement, means, breaks_rules, waits, judgement_at}
use Rattle.c_typing.specs.Typing.{faults, IsTyped}
use Rattle.c_typing.specs.Shapes.{Category}
use Rattle.c_typing.specs.ShapesOfNodes.{category_at}
use Rattle.c_typing.specs.Meant.{IsSound, has_form, judgements, IsMeant}
use Rattle.c_typing.proofs.ProgressForms.{fits, may_fill, split}
use Rattle.c_typing.proofs.ProgressAll.{no_fault, all_meant, found_at}
use Rattle.c_typing.proofs.ProgressPlaces.{are_linked}
use Rattle.c_typing.proofs.ProgressInitials.{specials}

no : {A : Type 0} → false ≡ true → A
no e = absurd (true≢false (sym e))

record Formed (outer own : SynKind) (c : Category) (j : Judgement) : Type 0 where
  meaning : Meaning
  is : j ≡ means meaning
  form : has_form c own (not (is_declarator outer)) meaning ≡ true

formed : (outer own : SynKind) (c : Category) (j : Judgement) → fits outer own c j ≡ true → Formed outer own c j
formed outer own c (means m) e = record { meaning = m; is = refl; form = (split {p = has_form c own (not (is_declarator outer)) m} {q = may_fill m outer} e).0 }
formed outer own c (breaks_rules f fs) e = no e
formed outer own c waits e = no e

pub meant : (tokens : List Token) (t : Tree) (n : ℕ) (m : Node) → IsTreeOf tokens t → faults t ≡ [] → slice_get (nodes t) n ≡ Some m → IsMeant t n m
meant tokens t n m derived quiet e =
    let l = are_linked tokens t derived in
    let p = places t in
    let none = (no_fault t quiet).by_node in
    let fit = all_meant (category_at t) p l.shapes none (specials (category_at t) p l (record { names = refl; functions = refl })) n m e in
    let outer = kind_at (nodes t) m.parent in
    let f = formed outer m.label.kind (category_at t n) (judgement_at (judgements t) n) fit in
    let whole : is_whole (nodes t) m ≡ not (is_declarator outer) =
    ap (λ k. not (is_declarator (kind_at (nodes t) (node_at (nodes t) k).parent))) (l.shapes.tiled n m e).numbered
    ∙ ap (λ (q : Node). not (is_declarator (kind_at (nodes t) q.parent))) (found_at (nodes t) n m e) in
    record { meaning = f.meaning; judged = f.is; form = ap (λ w. has_form (category_at t n) m.label.kind w f.meaning) whole ∙ f.form }

nothing_there : {A : Type 0} (xs : List A) (x : A) → xs ≡ [] → Contains xs x → ⊥
nothing_there {A = A} xs x e c = subst (λ (ys : List A). Contains ys x → ⊥) (sym e) (λ h. none h) c
  where
    none : Contains [] x → ⊥
    none h = let lt = h.1 in absurd (omega (arith, lt))

pub sound : (t : Tree) (u : Whole) → IsTyped t u → IsSound t
sound t u typed = record {
  no_rule = λ r n b. nothing_there (faults t) (rule r n) typed.keeps b;
  no_size = λ n s b. nothing_there (faults t) (too_big n s) typed.keeps b;
}
