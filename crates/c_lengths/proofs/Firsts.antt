-- Behind the part next to a name, no step stands nearer to it.
use Rattle.std.proofs.Common.{◌≡◌, ℕ, zero, suc, ◌<◌, ◌≤◌, Bool, true, false, ◌&&◌, List, [], ◌∷◌, Option, Some, None, map, refl, sym, ap, ◌∙◌, arith, true≢false}
use Rattle.std.specs.Prelude.{find, slice_get, take, unwrap_or, if◌then◌else◌, ◌==◌}
use Rattle.std.proofs.lemmas.Bool.Decides.{Decides-eqb}
use Rattle.c_lexer.specs.declared.token.Token.{Token}
use Rattle.c_syntax.specs.declared.kind.SynKind.{SynKind}
use Rattle.c_syntax.specs.declared.kind.SynKind.TheVariants as kind
use Rattle.c_syntax.specs.Trees.{Tree}
use Rattle.c_grammar.specs.Derivation.{IsTreeOf}
use Rattle.c_typing.specs.Types.{CType}
use Rattle.c_typing.specs.Places.{Node, nodes, kid, is_declarator, is_step, is_whole, is_next_to_name, next_to_name, parent_of, specs_of}
use Rattle.c_typing.specs.Names.{Places, places}
use Rattle.c_typing.specs.Judgements.{Fault, Judgement, PlacedStep, Typing, declares, means, breaks_rules, steps, verdict, given, waits, judgement_at, layouts, steps_at, steps_of, type_at, typing_at}
use Rattle.c_typing.specs.Declarators.{build, declarator, whole_type}
use Rattle.c_typing.specs.Typing.{in_parentheses, judged_by, judgements_at}
use Rattle.c_typing.specs.Shapes.{kids_fit}
use Rattle.c_typing.specs.ShapesOfNodes.{category_at}
use Rattle.c_typing.proofs.ProgressBase.{judged_at, earlier_at}
use Rattle.c_typing.proofs.ProgressForms.{is_part}
use Rattle.c_typing.proofs.ProgressKinds as of
use Rattle.c_typing.proofs.ProgressStep.{at_index}
use Rattle.c_typing.proofs.ProgressKids.{kid_of}
use Rattle.c_typing.proofs.ProgressAll.{by_number}
use Rattle.c_typing.proofs.ProgressPlaces.{AreLinked, are_linked, some_same}
use Rattle.c_typing.proofs.ProgressWhole.{first_begins}
use Rattle.c_typing.proofs.ProgressParts.{part_declares}
use Rattle.c_typing.proofs.ProgressBuilt.{is_leaf}
use Rattle.c_lengths.proofs.PartKinds.{inner_part, steps_mean}

-- ---- the steps of a declarator are those that it is given

record Keeps (ss : List PlacedStep) (j : Judgement) : Type 0 where
  are : (rs : List PlacedStep) → j ≡ means (steps rs) → rs ≡ ss

abbrev is_stepped : Judgement → Bool
is_stepped (means (steps ss)) = true
is_stepped j = false

steps_same : {xs ys : List PlacedStep} → means (steps xs) ≡ means (steps ys) → xs ≡ ys
steps_same e = cc e

never : (ss : List PlacedStep) (j : Judgement) → is_stepped j ≡ false → Keeps ss j
never ss j h = record { are = λ rs e. absurd (true≢false (sym (ap is_stepped e) ∙ h)) }

of_given : {A : Type 0} (ss : List PlacedStep) (o : Option A) (f : A → Judgement) → ((a : A) → Keeps ss (f a)) → Keeps ss (given o f)
of_given {A = A} ss None f h = never ss waits refl
of_given {A = A} ss (Some a) f h = h a

of_choice : (ss : List PlacedStep) (b : Bool) (x y : Judgement) → Keeps ss x → Keeps ss y → Keeps ss (if b then x else y)
of_choice ss true x y h k = h
of_choice ss false x y h k = k

of_verdict : (ss : List PlacedStep) (fs : List Fault) (t : CType) → Keeps ss (verdict fs (declares t))
of_verdict ss [] t = never ss (means (declares t)) refl
of_verdict ss (f ∷ fs) t = never ss (breaks_rules f fs) refl

module _ (p : Places) (js : List Judgement) (node : Node) where
  whole_keeps : (ss : List PlacedStep) (t : CType) (fs : List Fault) → Keeps ss (whole_type p js node (parent_of p.nodes node.id) (record { type = t; faults = fs }))
  unfolding whole_type
  whole_keeps ss t [] = of_verdict ss _ _
  whole_keeps ss t (f ∷ fs) = never ss (breaks_rules f fs) refl

  declarator_keeps : (ss : List PlacedStep) → Keeps ss (declarator p js node ss)
  unfolding declarator
  declarator_keeps ss =
      of_choice ss (is_whole p.nodes node) _ _
      (of_given ss (type_at js (specs_of p.nodes (parent_of p.nodes node.id)).id) _ (λ b. let made = build (layouts js) b ss in whole_keeps ss made.type made.faults))
      (record { are = λ rs e. sym (steps_same e) })

  parentheses_keep : (o : Option Typing) (rs : List PlacedStep) → in_parentheses p js node o ≡ means (steps rs) → steps_at js (kid node 0) ≡ Some rs
  parentheses_keep (Some x) rs e = absurd (true≢false (sym (ap is_stepped e)))
  parentheses_keep None rs e = by (steps_at js (kid node 0)) e
    where
      by : (o : Option (List PlacedStep)) → given o (declarator p js node) ≡ means (steps rs) → o ≡ Some rs
      by None e = absurd (true≢false (sym (ap is_stepped e)))
      by (Some ss) e = ap Some (sym ((declarator_keeps ss).are rs e))

-- ---- the first that passes a test

found_before : (f : Node → Bool) (ns : List Node) (k : ℕ) (x m : Node) → find f ns ≡ Some m → slice_get ns k ≡ Some x → f x ≡ true → (j : ℕ) × (j ≤ k) × (slice_get ns j ≡ Some m)
found_before f [] k x m found there passes = absurd (gone found)
  where
    gone : None ≡ Some m → ⊥
    gone e = cc e
found_before f (y ∷ ns) zero x m found there passes =
    let own : f y ≡ true = ap f (some_same there) ∙ passes in
    (0, omega arith, sym (ap (λ b. if b then Some y else find f ns) own) ∙ found)
found_before f (y ∷ ns) (suc k) x m found there passes = by (f y) refl (λ rest. found_before f ns k x m rest there passes)
  where
    by : (b : Bool) → f y ≡ b → (find f ns ≡ Some m → (j : ℕ) × (j ≤ k) × (slice_get ns j ≡ Some m)) → (j : ℕ) × (j ≤ suc k) × (slice_get (y ∷ ns) j ≡ Some m)
    by true own h = (0, omega arith, sym (ap (λ b. if b then Some y else find f ns) own) ∙ found)
    by false own h =
        let (j, low, is) = h (sym (ap (λ b. if b then Some y else find f ns) own) ∙ found) in
        (suc j, omega (arith, low), is)

-- ---- all nodes

module _ (tokens : List Token) (t : Tree) (derived : IsTreeOf tokens t) where
  l : AreLinked (category_at t) (nodes t)
  l = are_linked tokens t derived

  abbrev js : List Judgement
  js = judgements_at (places t)

  -- up to the place n, no step begins at the name i
  abbrev pub NoStep : ℕ → ℕ → Type 0
  NoStep n i = (k : ℕ) (x : Node) → k ≤ n → slice_get (nodes t) k ≡ Some x → x.first ≡ i → is_step x.label.kind ≡ false

  abbrev First : ℕ → Type 0
  First n = (m : Node) → slice_get (nodes t) n ≡ Some m → is_part (category_at t n) ≡ true → NoStep n m.first → (ss : List PlacedStep) → judgement_at js n ≡ means (steps ss) → ss ≡ []

  module _ (n : ℕ) (f : (k : ℕ) → k < n → First k) (m : Node) (e : slice_get (nodes t) n ≡ Some m) (part : is_part (category_at t n) ≡ true) (none : NoStep n m.first) where
    -- the part inside has none
    inside : (ss : List PlacedStep) → is_declarator m.label.kind ≡ true → is_leaf m.label.kind ≡ false → steps_at (take n js) (kid m 0) ≡ Some ss → ss ≡ []
    inside ss declared leaf typed =
        let shape = l.shapes.shaped n m e in
        let a = at_index (category_at t) m.kids 0 is_part refl (inner_part m.label.kind m.label.text (map (category_at t) m.kids) declared leaf shape.kids (ap is_part (sym shape.category) ∙ part)) in
        let q = kid_of (nodes t) m.first n m.kids 0 a.place (l.shapes.tiled n m e).kids a.is in
        let here : steps_at (take n js) a.place ≡ Some ss = ap (λ o. steps_at (take n js) (unwrap_or o 0)) (sym a.is) ∙ typed in
        let is = steps_mean (judgement_at js a.place) ss (ap steps_of (sym (earlier_at js n a.place q.less)) ∙ here) in
        let first = first_begins (category_at t) (nodes t) l n m q.node a.place (l.shapes.tiled n m e).kids a.is q.at in
        let less = q.less in
        f a.place q.less q.node q.at a.passes (λ k x low at same. none k x (omega (arith, low, less)) at (same ∙ first)) ss is

    kinds : (k : SynKind) → m.label.kind ≡ k → is_declarator k ≡ true → (ss : List PlacedStep) → judged_by (places t) (take n js) m k ≡ means (steps ss) → ss ≡ []
    unfolding judged_by
    kinds kind.Ident same d ss is = (declarator_keeps (places t) (take n js) m []).are ss is
    kinds kind.NoName same d ss is = (declarator_keeps (places t) (take n js) m []).are ss is
    kinds kind.Paren same d ss is =
        inside ss (ap is_declarator same) (ap is_leaf same) (parentheses_keep (places t) (take n js) m (typing_at (take n js) (kid m 0)) ss is)
    kinds kind.Pointer same d ss is = absurd (true≢false (sym (ap is_step same) ∙ none n m (omega arith) e refl))
    kinds kind.ArrayOf same d ss is = absurd (true≢false (sym (ap is_step same) ∙ none n m (omega arith) e refl))
    kinds kind.Takes same d ss is = absurd (true≢false (sym (ap is_step same) ∙ none n m (omega arith) e refl))
    kinds _ same d ss is = absurd (true≢false (sym d))

    first : (ss : List PlacedStep) → judgement_at js n ≡ means (steps ss) → ss ≡ []
    first ss is =
        let shape = l.shapes.shaped n m e in
        let declared = part_declares m.label.kind m.label.text (map (category_at t) m.kids) (ap is_part (sym shape.category) ∙ part) in
        kinds m.label.kind refl declared ss (sym (judged_at (places t) (nodes t) n m e) ∙ is)

  pub all_first : (n : ℕ) → First n
  all_first n = by_number First (λ n f m e part none ss is. first n f m e part none ss is) n

  -- the inner part of an array next to a name has no steps
  pub array_first : (n : ℕ) (m : Node) → slice_get (nodes t) n ≡ Some m → m.label.kind ≡ kind.ArrayOf → is_next_to_name (nodes t) m ≡ true → (ss : List PlacedStep) → steps_of (judgement_at js (kid m 0)) ≡ Some ss → ss ≡ []
  array_first n m e same next ss typed =
      let shape = l.shapes.shaped n m e in
      let fit = (of.of_array m.label.text (map (category_at t) m.kids) (ap (λ k. kids_fit k m.label.text (map (category_at t) m.kids)) (sym same) ∙ shape.kids)).0 in
      let a = at_index (category_at t) m.kids 0 is_part refl fit in
      let q = kid_of (nodes t) m.first n m.kids 0 a.place (l.shapes.tiled n m e).kids a.is in
      let here : kid m 0 ≡ a.place = ap (λ o. unwrap_or o 0) a.is in
      let is = steps_mean (judgement_at js a.place) ss (ap (λ k. steps_of (judgement_at js k)) (sym here) ∙ typed) in
      let begins = first_begins (category_at t) (nodes t) l n m q.node a.place (l.shapes.tiled n m e).kids a.is q.at in
      all_first a.place q.node q.at a.passes (none a.place q.less q.node.first begins) ss is
    where
      -- the first step at the name is this one
      none : (j : ℕ) → j < n → (i : ℕ) → i ≡ m.first → NoStep j i
      none j less i begins k x low at own = by (is_step x.label.kind) refl (next_to_name (nodes t) m.first) refl next
        where
          by : (b : Bool) → is_step x.label.kind ≡ b → (o : Option Node) → next_to_name (nodes t) m.first ≡ o → elim o as (λ y. Bool) [ None ↦ false | Some other ↦ other.id == m.id ] ≡ true → is_step x.label.kind ≡ false
          by false kind_is o found h = kind_is
          by true kind_is None found h = absurd (true≢false (sym h))
          by true kind_is (Some other) found h =
              let passes = ap (λ b. b && is_step x.label.kind) ((Decides-eqb x.first m.first).1 (own ∙ begins)) ∙ kind_is in
              let (i, under, there) = found_before (λ node. node.first == m.first && is_step node.label.kind) (nodes t) k x other found at passes in
              let same_id = (Decides-eqb other.id m.id).0 h in
              let own_id = (l.shapes.tiled i other there).numbered in
              let its_id = (l.shapes.tiled n m e).numbered in
              absurd (omega (arith, under, low, less, same_id, own_id, its_id))
