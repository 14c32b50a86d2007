-- The cells of each object stand within it.
use Rattle.std.proofs.Common.{◌≡◌, ◌⊎◌, inl, inr, ℕ, suc, ◌≤◌, Bool, true, false, ◌&&◌, List, [], ◌∷◌, length, map, Option, refl, sym, ap, ◌∙◌, subst, arith, true≢false}
use Rattle.std.specs.Prelude.{unwrap_or, flat_map, take, ◌==◌}
use Rattle.std.specs.List.{AllByRecursion}
use Rattle.c_lexer.specs.declared.token.Token.{Token}
use Rattle.c_syntax.specs.Trees.{Tree}
use Rattle.c_grammar.specs.Derivation.{IsTreeOf}
use Rattle.c_types.specs.declared.kind.Measure.{Measure}
use Rattle.c_types.specs.declared.tree.Cell.{Cell}
use Rattle.c_types.specs.declared.tree.Object.{Object}
use Rattle.c_types.specs.WellMade.{end_of_cell, InEveryCell}
use Rattle.c_typing.specs.Types.{void, no_measure, size_of}
use Rattle.c_typing.specs.Places.{Node, nodes, has_kid}
use Rattle.c_typing.specs.Names.{places, Name, is_static, is_again, earlier, is_initialized, is_defined_object, objects_of}
use Rattle.c_typing.specs.Judgements.{initialized, means, judgement_at, layouts}
use Rattle.c_typing.specs.Initializers.{is_object}
use Rattle.c_typing.specs.ShapesOfNodes.{category_at}
use Rattle.c_typing.specs.Typing.{judgements_at, faults, cells_in, declarations_of, object_of, literal_object, literals_of, unit_in}
use Rattle.c_typing.proofs.ProgressAll.{found_at}
use Rattle.c_typing.proofs.ProgressDeclared.{Stands}
use Rattle.c_typing.proofs.ProgressCompleted.{Completes}
use Rattle.c_typing.proofs.ProgressObjects.{stand}
use Rattle.c_typing.proofs.MadeNodes.{In}
use Rattle.c_typing.proofs.MadeAround.{equal_so}
use Rattle.c_typing.proofs.MadeMain.{filter_so}
use Rattle.c_typing.proofs.MadeCells.{Stand, all_joint}
use Rattle.c_typing.proofs.MadeCellsData.{inside, literal_stands, cells_kept}
use Rattle.c_typing.proofs.MadeCellsApart.{HasCells, none_or, not_enumerator, listed, all_filtered}
use Rattle.c_typing.proofs.MadeCellsAgain.{Given, given_by, given_static, whole_type, static_too, measured_first}

abbrev Inside : ℕ → List Cell → Type 0
Inside size cs = AllByRecursion (λ c. end_of_cell c ≤ size) cs

all_flat : {A : Type 0} (P : Cell → Type 0) (f : A → List Cell) (xs : List A) → AllByRecursion (λ (x : A). AllByRecursion P (f x)) xs → AllByRecursion P (flat_map f xs)
all_flat P f [] h = tt
all_flat P f (x ∷ xs) h = all_joint P (f x) (flat_map f xs) h.0 (all_flat P f xs h.1)

-- the cells of a declaration that has them, or none
own : (b : Bool) (size : ℕ) (cs : List Cell) → (cs ≡ []) ⊎ ((b ≡ true) × Stand 0 size cs) → Inside size cs
own b size cs (inl none) = subst (λ xs. Inside size xs) (sym none) tt
own b size cs (inr s) = inside 0 size cs s.1

each_mapped : {A : Type 0} (P : Object → Type 0) (f : A → Object) (xs : List A) → ((x : A) → In x xs → P (f x)) → AllByRecursion P (map f xs)
each_mapped P f [] h = tt
each_mapped P f (x ∷ xs) h = (h x (inl refl), each_mapped P f xs (λ y i. h y (inr i)))

module _ (tokens : List Token) (t : Tree) (derived : IsTreeOf tokens t) (quiet : faults t ≡ []) where
  -- what has an initializer is an object
  object_is : (a : Name) → (g : Given tokens t derived quiet a) → is_initialized (places t) a ≡ true → is_object a.entity ≡ true
  object_is a g has = by g.declared.how
    where
      initial : has_kid g.declared.owner 1 ≡ true
      initial = ap (λ (m : Node). has_kid m 1) (sym (found_at (nodes t) a.owner g.declared.owner g.declared.at)) ∙ has

      by : ((has_kid g.declared.owner 1 ≡ false) × (g.declared.whole ≡ g.declared.type)) ⊎ ((is_object a.entity ≡ true) × Completes (places t) (take a.owner (judgements_at (places t))) a g.declared.type g.declared.whole)
          → is_object a.entity ≡ true
      by (inl x) = absurd (true≢false (sym initial ∙ x.0))
      by (inr x) = x.0

  -- the cells of a declaration stand within the type of the first declaration
  module _ (e : Name) (h : Given tokens t derived quiet e) (static : is_static e.entity ≡ true) (alone : earlier (places t) e ≡ []) where
    abbrev size : ℕ
    size = size_of (layouts (judgements_at (places t))) h.declared.whole

    given_inside : (a : Name) → (g : Given tokens t derived quiet a) → is_initialized (places t) a ≡ true → is_again a e ≡ true → Inside size (cells_in (judgement_at (judgements_at (places t)) a.owner))
    given_inside a g has again =
        let ls = layouts (judgements_at (places t)) in
        let kept = cells_kept tokens t derived quiet a.owner (means (initialized g.declared.whole g.declared.code g.declared.cells)) g.declared.means_whole in
        let too = static_too tokens t derived quiet a e g h (object_is a g has) static again alone in
        let measure = measured_first tokens t derived quiet (suc a.behind) a e (omega arith) g h too static again alone in
        subst (λ j. Inside size (cells_in j)) (sym g.declared.means_whole)
        (subst (λ n. Inside n g.declared.cells) (ap (λ (o : Option Measure). (unwrap_or o no_measure).size) measure) (own (has_kid kept.0 1) (size_of ls g.declared.whole) g.declared.cells kept.3))

    declaration_inside : (a : Name) → In a (places t).names → is_again a e ≡ true → Inside size (cells_in (judgement_at (judgements_at (places t)) a.owner))
    declaration_inside a i again = by (none_or tokens t derived quiet a)
      where
        at : HasCells tokens t derived quiet a → Stands (category_at t) (nodes t) a → Inside size (cells_in (judgement_at (judgements_at (places t)) a.owner))
        at has (inl en) = absurd (not_enumerator tokens t derived quiet a i en has)
        at has (inr de) = given_inside a (given_by tokens t derived quiet a (listed (places t).names a i) de has.init) has.initial again

        by : (cells_in (judgement_at (judgements_at (places t)) a.owner) ≡ []) ⊎ HasCells tokens t derived quiet a → Inside size (cells_in (judgement_at (judgements_at (places t)) a.owner))
        by (inl none) = subst (λ cs. Inside size cs) (sym none) tt
        by (inr has) = at has (stand tokens t derived quiet a (listed (places t).names a i))

  -- the cells of an object
  object_inside : (e : Name) → In e (objects_of (places t)) → Inside (object_of (places t) (judgements_at (places t)) e).size (object_of (places t) (judgements_at (places t)) e).cells
  object_inside e i =
      let p = places t in
      let f = filter_so (λ (x : Name). is_static x.entity && length (earlier p x) == 0 && is_defined_object p x) p.names e i in
      let b = parts (is_static e.entity) (length (earlier p e) == 0) (is_defined_object p e) f.1 in
      let h = given_static tokens t derived quiet e (listed p.names e f.0) b.0 in
      let same : size_of (layouts (judgements_at p)) h.declared.whole ≡ (object_of p (judgements_at p) e).size = ap (λ o. size_of (layouts (judgements_at p)) (unwrap_or o void)) (sym (whole_type tokens t derived quiet e h)) in
      subst (λ n. Inside n (object_of p (judgements_at p) e).cells) same
      (all_flat (λ c. end_of_cell c ≤ size_of (layouts (judgements_at p)) h.declared.whole) (λ (a : Name). cells_in (judgement_at (judgements_at p) a.owner)) (declarations_of p e)
      (all_filtered (λ (a : Name). Inside (size_of (layouts (judgements_at p)) h.declared.whole) (cells_in (judgement_at (judgements_at p) a.owner))) (λ a. is_again a e) p.names
      (λ a j again. declaration_inside e h b.0 (empty (earlier p e) (equal_so (length (earlier p e)) 0 b.1)) a j again)))
    where
      parts : (x y z : Bool) → x && y && z ≡ true → (x ≡ true) × (y ≡ true)
      parts true true z g = (refl, refl)
      parts true false z g = absurd (true≢false (sym g))
      parts false y z g = absurd (true≢false (sym g))

      empty : (xs : List Name) → length xs ≡ 0 → xs ≡ []
      empty [] g = refl
      empty (x ∷ xs) g = absurd (omega (arith, g))

  -- the cells of each object stand within it
  pub cells_inside : InEveryCell (unit_in (places t) (judgements_at (places t))) (λ o c. end_of_cell c ≤ o.size)
  cells_inside =
      let p = places t in
      let js = judgements_at (places t) in
      all_joint (λ (o : Object). Inside o.size o.cells) (map (object_of p js) (objects_of p)) (map (λ (n : Node). literal_object n.label.bytes) (literals_of p js))
      (each_mapped (λ (o : Object). Inside o.size o.cells) (object_of p js) (objects_of p) (λ e i. object_inside e i))
      (each_mapped (λ (o : Object). Inside o.size o.cells) (λ (n : Node). literal_object n.label.bytes) (literals_of p js)
      (λ n i. inside 0 (literal_object n.label.bytes).size (literal_object n.label.bytes).cells (literal_stands n.label.bytes)))
