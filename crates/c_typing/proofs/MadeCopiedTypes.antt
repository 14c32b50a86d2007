-- No type that a declarator gives is hollow: its arrays have elements.
use Rattle.std.proofs.Common.{◌≡◌, ℕ, ◌<◌, true, false, not, List, [], ◌∷◌, ◌++◌, length, map, Some, refl, sym, ap, ◌∙◌, arith}
use Rattle.std.specs.Prelude.{slice_get, take}
use Rattle.c_lexer.specs.declared.token.Token.{Token}
use Rattle.c_syntax.specs.declared.kind.SynKind.{SynKind}
use Rattle.c_syntax.specs.declared.kind.SynKind.TheVariants as kind
use Rattle.c_syntax.specs.Trees.{Tree}
use Rattle.c_grammar.specs.Derivation.{IsTreeOf}
use Rattle.c_typing.specs.Types.{CType, void, integer, pointer, array, unsized, struct, function, types_of}
use Rattle.c_typing.specs.Places.{Node, nodes, node_at, kind_at, parent_of, specs_of, is_declarator, is_whole}
use Rattle.c_typing.specs.Names.{places}
use Rattle.c_typing.specs.Judgements.{Judgement, Step, of_function, PlacedStep, judgement_at, type_at, type_of, layouts}
use Rattle.c_typing.specs.Declarators.{adjusted, build, with_step}
use Rattle.c_typing.specs.Typing.{judgements_at, faults}
use Rattle.c_typing.specs.ShapesOfNodes.{category_at}
use Rattle.c_typing.proofs.ProgressBase.{take_front}
use Rattle.c_typing.proofs.ProgressForms.{is_part}
use Rattle.c_typing.proofs.ProgressAll.{by_number, found_at}
use Rattle.c_typing.proofs.ProgressPlaces.{AreLinked, are_linked}
use Rattle.c_typing.proofs.ProgressOwners.{specs_before}
use Rattle.c_typing.proofs.ProgressParts.{part_declares}
use Rattle.c_typing.proofs.ProgressSizes.{Lengthy, specs_lengthy}
use Rattle.c_typing.proofs.MadeDeclarators.{HasElements, Whole, Chains, typed_at}
use Rattle.c_typing.proofs.MadeCopiedSizes.{is_hollow, AllWithElements, build_full}

with_full : (ss : List PlacedStep) (node : Node) (st : Step) → HasElements st → AllWithElements ss → AllWithElements (with_step ss node st)
with_full [] node st e h = (e, tt)
with_full (s ∷ ss) node st e h = (h.0, with_full ss node st e h.1)

adjusted_full : (k : SynKind) (u : CType) → is_hollow u ≡ false → is_hollow (adjusted k u) ≡ false
adjusted_full kind.Param (array u n) e = refl
adjusted_full kind.Param void e = e
adjusted_full kind.Param (integer i) e = e
adjusted_full kind.Param (pointer u) e = e
adjusted_full kind.Param (unsized u) e = e
adjusted_full kind.Param (struct i) e = e
adjusted_full kind.Param (function r ps) e = e
adjusted_full _ u e = e

-- the judgements of a front are the first ones
pub front_is : (js more all : List Judgement) (n : ℕ) → all ≡ js ++ more → length js ≡ n → take n all ≡ js
front_is js more all n e long = ap (λ xs. take n xs) e ∙ (ap (λ k. take k (js ++ more)) (sym long) ∙ take_front js more)

module _ (tokens : List Token) (t : Tree) (derived : IsTreeOf tokens t) (quiet : faults t ≡ []) where
  l : AreLinked (category_at t) (nodes t)
  l = are_linked tokens t derived

  full_chains : Chains t (λ node ss. AllWithElements ss)
  full_chains = record {
    name = λ node h e. tt;
    step = λ node low ss st a b e f h. with_full ss node st f h;
    takes = λ node low ss us a b e long h. with_full ss node (of_function (types_of us)) tt h;
    parentheses = λ node low ss a b e h. h;
  }

  abbrev Full : ℕ → Type 0
  Full n = Lengthy tokens t derived quiet is_hollow refl (λ k. refl) (λ k. refl) n

  whole_full : (n : ℕ) (node : Node) → slice_get (nodes t) n ≡ Some node → is_part (category_at t n) ≡ true → ((k : ℕ) → k < n → Full k) → (u : CType) → Whole t (λ node ss. AllWithElements ss) n node u → is_hollow u ≡ false
  whole_full n node at part f u w =
      let outer : is_whole (nodes t) node ≡ not (is_declarator (kind_at (nodes t) node.parent)) =
      ap (λ k. not (is_declarator (kind_at (nodes t) (node_at (nodes t) k).parent))) (l.shapes.tiled n node at).numbered
      ∙ ap (λ (q : Node). not (is_declarator (kind_at (nodes t) q.parent))) (found_at (nodes t) n node at) in
      let s = specs_before (category_at t) (nodes t) l n node at part (sym outer ∙ w.whole) in
      let first = front_is w.js (w.front).0 (judgements_at (places t)) n (w.front).1 w.long in
      let typed : type_at (take n (judgements_at (places t))) (specs_of (nodes t) (parent_of (nodes t) node.id)).id ≡ Some w.base = ap (λ js. type_at js (specs_of (nodes t) (parent_of (nodes t) node.id)).id) first ∙ w.based in
      let base = specs_lengthy tokens t derived quiet is_hollow refl (λ k. refl) (λ k. refl) n f (specs_of (nodes t) (parent_of (nodes t) node.id)).id s w.base typed in
      ap is_hollow w.is ∙ adjusted_full (parent_of (nodes t) node.id).label.kind (build (layouts w.js) w.base w.steps).type (build_full (layouts w.js) w.base w.steps base w.chain w.clean)

  -- what a declarator gives, of the type that it has
  pub whole_typed : (n : ℕ) (node : Node) → slice_get (nodes t) n ≡ Some node → is_part (category_at t n) ≡ true → (u : CType) → type_of (judgement_at (judgements_at (places t)) n) ≡ Some u → Whole t (λ node ss. AllWithElements ss) n node u
  whole_typed n node at part u e =
      let shape = l.shapes.shaped n node at in
      typed_at tokens t derived (λ node ss. AllWithElements ss) full_chains n u node at (part_declares node.label.kind node.label.text (map (category_at t) node.kids) (ap is_part (sym shape.category) ∙ part)) e

  all_full : (n : ℕ) → Full n
  all_full n = by_number (λ k. Full k) step n
    where
      step : (n : ℕ) → ((k : ℕ) → k < n → Full k) → Full n
      step n f e same m de typedef u is =
          let part : is_part (category_at t e.behind) ≡ true = ap is_part de.whole.is in
          whole_full e.behind de.whole.node de.whole.at part (λ k lt. f k (omega (arith, lt, same))) u (whole_typed e.behind de.whole.node de.whole.at part u (ap type_of is))

  pub type_full : (n : ℕ) (node : Node) → slice_get (nodes t) n ≡ Some node → is_part (category_at t n) ≡ true → (u : CType) → type_of (judgement_at (judgements_at (places t)) n) ≡ Some u → is_hollow u ≡ false
  type_full n node at part u e = whole_full n node at part (λ k lt. all_full k) u (whole_typed n node at part u e)
