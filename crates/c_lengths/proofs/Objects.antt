-- The types of names: only the outermost array may have no length.
use Rattle.std.proofs.Common.{◌≡◌, ◌⊎◌, inl, inr, ℕ, suc, true, false, List, Some, None, length, map, refl, sym, ap, ◌∙◌, true≢false}
use Rattle.std.specs.Prelude.{slice_get, take}
use Rattle.c_lexer.specs.declared.token.Token.{Token}
use Rattle.c_syntax.specs.declared.kind.SynKind.{SynKind}
use Rattle.c_syntax.specs.declared.kind.SynKind.TheVariants as kind
use Rattle.c_syntax.specs.Trees.{Tree}
use Rattle.c_grammar.specs.Derivation.{IsTreeOf}
use Rattle.c_typing.specs.Types.{CType}
use Rattle.c_typing.specs.Places.{Node, nodes, node_at, kid}
use Rattle.c_typing.specs.Names.{Name, Places, denoted, places}
use Rattle.c_typing.specs.Judgements.{Judgement, code_at, judgement_at, type_at, type_of}
use Rattle.c_typing.specs.Typing.{function_node, judged_by, judgements_at}
use Rattle.c_typing.specs.Shapes as category
use Rattle.c_typing.specs.Shapes.{kids_fit}
use Rattle.c_typing.specs.ShapesOfNodes.{category_at}
use Rattle.c_typing.proofs.ProgressBase.{judged_at}
use Rattle.c_typing.proofs.ProgressForms.{is_part}
use Rattle.c_typing.proofs.ProgressAll.{found_at}
use Rattle.c_typing.proofs.ProgressPlaces.{AreLinked, Linked, are_linked}
use Rattle.c_typing.proofs.ProgressDeclared.{IsDeclaredName, Stands, all_names_stand, is_enumerator_entity, of_denoted}
use Rattle.std.specs.Prelude.{filter, unwrap_or}
use Rattle.c_typing.specs.Places.{is_function}
use Rattle.c_typing.proofs.ProgressKinds as of
use Rattle.c_typing.proofs.ProgressStep.{at_index}
use Rattle.c_typing.proofs.ProgressAround.{IsAround, is_body}
use Rattle.c_lengths.proofs.Owners.{has_none}
use Rattle.c_lengths.proofs.Lengths.{owned}
use Rattle.c_lengths.specs.Lengths.{inside_lacks, lacks_length}
use Rattle.c_lengths.proofs.Steps.{inside_fine}
use Rattle.c_lengths.proofs.Typedefs.{IsOwned, all_owned, declares_names}
use Rattle.c_lengths.proofs.Lengths.{all_good, before_it, declarator_first, given_type, initialized_type}

gone : {A : Type 0} {x : A} → None ≡ Some x → ⊥
gone e = cc e

function_type : (p : Places) (js : List Judgement) (node : Node) (t : CType) → type_of (judged_by p js node kind.Function) ≡ Some t → ⊥
unfolding judged_by function_node
function_type p js node t e =
    let (a, is, more) = given_type (type_at js (kid node 0)) _ t e in
    let (b, own, rest) = given_type (type_at js (kid node 1)) _ t more in
    let (body, does, last) = given_type (code_at js (kid node 2)) _ t rest in
    gone last

module _ (tokens : List Token) (t : Tree) (derived : IsTreeOf tokens t) where
  l : AreLinked (category_at t) (nodes t)
  l = are_linked tokens t derived

  abbrev js : List Judgement
  js = judgements_at (places t)

  module _ (x : Name) (de : IsDeclaredName (category_at t) (nodes t) x) where
    of_declarator : (u : CType) → type_of (judgement_at js x.behind) ≡ Some u → inside_lacks u ≡ false
    of_declarator u typed = ((all_good tokens t derived x.behind de.whole.node de.whole.at).part (ap is_part de.whole.is)).inside u typed

    of_owner : declares_names (node_at (nodes t) x.owner).label.kind ≡ true → (u : CType) → type_of (judgement_at js x.owner) ≡ Some u → inside_lacks u ≡ false
    of_owner declares u typed = linked (l.linked x.behind de.whole.node de.whole.at)
      where
        unit_no : category.declarator ≡ category.unit → ⊥
        unit_no e = cc e

        linked : (suc x.behind ≡ length (nodes t)) ⊎ Linked (nodes t) x.behind de.whole.node → inside_lacks u ≡ false
        linked (inl last) = absurd (unit_no (sym de.whole.is ∙ l.root x.behind de.whole.node de.whole.at last))
        linked (inr q) = by q.parent.label.kind refl (ap (λ (y : Node). declares_names y.label.kind) (sym (found_at (nodes t) x.owner q.parent at)) ∙ declares)
          where
            at : slice_get (nodes t) x.owner ≡ Some q.parent
            at = ap (λ k. slice_get (nodes t) k) de.owner ∙ q.at

            judged : (k : SynKind) → q.parent.label.kind ≡ k → type_of (judged_by (places t) (take x.owner js) q.parent k) ≡ Some u
            judged k same = ap type_of (sym (judged_at (places t) (nodes t) x.owner q.parent at ∙ ap (judged_by (places t) (take x.owner js) q.parent) same)) ∙ typed

            by : (k : SynKind) → q.parent.label.kind ≡ k → declares_names k ≡ true → inside_lacks u ≡ false
            by kind.InitDecl same d =
                let s = initialized_type (places t) (take x.owner js) q.parent u (judged kind.InitDecl same) in
                let shape = l.shapes.shaped x.owner q.parent at in
                let first = declarator_first (category_at t) q.parent.label.text q.parent.kids q.index x.behind (ap (λ k. kids_fit k q.parent.label.text (map (category_at t) q.parent.kids)) (sym same) ∙ shape.kids) q.among de.whole.is in
                s.inside (of_declarator s.type (ap (λ k. type_of (judgement_at js k)) (sym first) ∙ before_it js x.owner (kid q.parent 0) s.type s.typed))
            by kind.Function same d = absurd (function_type (places t) (take x.owner js) q.parent u (judged kind.Function same))
            by kind.Param same d = inside_fine u ((all_good tokens t derived x.owner q.parent at).parameter same u typed)
            by _ same d = absurd (true≢false (sym d))

  -- what is known of the types of a name that is used
  pub record Inside (x : Name) : Type 0 where
    pub owner : (u : CType) → type_of (judgement_at js x.owner) ≡ Some u → inside_lacks u ≡ false
    pub declarator : (u : CType) → type_of (judgement_at js x.behind) ≡ Some u → inside_lacks u ≡ false

  pub denoted_inside : (id : ℕ) (text : List ℕ) (x : Name) → denoted (places t).names id text ≡ Some x → is_enumerator_entity x.entity ≡ false → Inside x
  denoted_inside id text x d other = by (of_denoted (Stands (category_at t) (nodes t)) (places t).names id text x (all_names_stand (category_at t) (nodes t) l (places t).scopes) d).0
    where
      owned : declares_names (node_at (nodes t) x.owner).label.kind ≡ true
      owned = (of_denoted (IsOwned (nodes t)) (places t).names id text x (all_owned (nodes t) (places t).scopes) d).0 other

      by : Stands (category_at t) (nodes t) x → Inside x
      by (inl en) = absurd (true≢false (sym (ap is_enumerator_entity en.entity) ∙ other))
      by (inr de) = record { owner = of_owner x de owned; declarator = of_declarator x de }

  -- what the function around a statement is declared as
  pub around_fine : (n : ℕ) (m : Node) → slice_get (nodes t) n ≡ Some m → is_body (category_at t n) ≡ true → (a : IsAround (nodes t) (filter (λ (f : Node). is_function f.label.kind) (nodes t)) n)
      → (u : CType) → type_of (judgement_at js (kid a.node 1)) ≡ Some u → lacks_length u ≡ false
  around_fine n m e body a u typed =
      let shape = l.shapes.shaped a.place a.node a.at in
      let fit = of.of_function a.node.label.text (map (category_at t) a.node.kids) (ap (λ k. kids_fit k a.node.label.text (map (category_at t) a.node.kids)) (sym a.function) ∙ shape.kids) in
      let i = at_index (category_at t) a.node.kids 1 (λ c. of.is_declarator_only c) refl (ap of.is_declarator_only fit.1) in
      let second : kid a.node 1 ≡ i.place = ap (λ o. unwrap_or o 0) i.is in
      let part = ap is_part (of.only_declarator (category_at t i.place) i.passes) in
      owned tokens t derived a.place a.node a.at (ap has_none a.function) 1 i.place i.is part u (ap (λ k. type_of (judgement_at js k)) (sym second) ∙ typed)
