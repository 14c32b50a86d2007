-- Where a part of a declarator is an array without a length, the declarator has an initializer.
use Rattle.std.proofs.Common.{◌≡◌, ℕ, ◌<◌, Bool, true, false, not, List, [], ◌∷◌, map, Some, refl, sym, ap, ◌∙◌, true≢false}
use Rattle.std.specs.Prelude.{slice_get, unwrap_or, take, if◌then◌else◌}
use Rattle.c_lexer.specs.declared.token.Token.{Token}
use Rattle.c_syntax.specs.declared.kind.SynKind.{SynKind}
use Rattle.c_syntax.specs.declared.kind.SynKind.TheVariants as kind
use Rattle.c_syntax.specs.Trees.{Tree}
use Rattle.c_grammar.specs.Derivation.{IsTreeOf}
use Rattle.c_grammar.specs.Vocabulary.{is_type_word, is_storage_word}
use Rattle.c_typing.specs.Types.{CType}
use Rattle.c_typing.specs.Places.{Node, nodes, kid, kind_at, is_declarator}
use Rattle.c_typing.specs.Names.{places}
use Rattle.c_typing.specs.Judgements.{Judgement, means, breaks_rules, waits, Meaning, steps, declares, PlacedStep, judgement_at, steps_of, steps_at}
use Rattle.c_typing.specs.Typing.{judgements_at, faults}
use Rattle.c_typing.specs.Shapes as category
use Rattle.c_typing.specs.Shapes.{Category, category_by, kids_fit}
use Rattle.c_typing.specs.ShapesOfNodes.{category_at}
use Rattle.c_typing.specs.Meant.{has_form}
use Rattle.c_typing.proofs.ProgressBase.{judged_at, earlier_at}
use Rattle.c_typing.proofs.ProgressForms.{fits, is_part, split}
use Rattle.c_typing.proofs.ProgressKids.{kid_of}
use Rattle.c_typing.proofs.ProgressAll.{no_fault, all_meant, by_number}
use Rattle.c_typing.proofs.ProgressPlaces.{AreLinked, are_linked}
use Rattle.c_typing.proofs.ProgressWhole.{first_begins}
use Rattle.c_typing.proofs.ProgressInitials.{specials}
use Rattle.c_typing.proofs.ProgressBuilt.{has_unsized, is_given, is_leaf, parted, made, Made}

no : {A : Type 0} → false ≡ true → A
no e = absurd (true≢false (sym e))

steps_part : (c : Category) (own : SynKind) (w : Bool) (ss : List PlacedStep) → has_form c own w (steps ss) ≡ true → is_part c ≡ true
steps_part category.declarator own w ss e = refl
steps_part category.abstract_declarator own w ss e = refl
steps_part category.no_name own w ss e = refl
steps_part _ own w ss e = no e

word_part : (s t : Bool) → is_part (if s then category.storage_word else if t then category.type_specifier else category.typedef_name) ≡ true → ⊥
word_part true t e = no e
word_part false true e = no e
word_part false false e = no e

pub part_declares : (k : SynKind) (text : List ℕ) (cs : List Category) → is_part (category_by k text cs) ≡ true → is_declarator k ≡ true
unfolding category_by
part_declares kind.Ident text cs e = refl
part_declares kind.NoName text cs e = refl
part_declares kind.Paren text cs e = refl
part_declares kind.Pointer text cs e = refl
part_declares kind.ArrayOf text cs e = refl
part_declares kind.Takes text cs e = refl
part_declares kind.Word text cs e = absurd (word_part (is_storage_word text) (is_type_word text) e)
part_declares _ text cs e = no e

steps_means : (j : Judgement) (ss : List PlacedStep) → steps_of j ≡ Some ss → j ≡ means (steps ss)
steps_means (means m) ss e = by m e
  where
    same : {xs ys : List PlacedStep} → Some xs ≡ Some ys → xs ≡ ys
    same f = cc f

    by : (m : Meaning) → steps_of (means m) ≡ Some ss → means m ≡ means (steps ss)
    by (steps xs) e = ap (λ ys. means (steps ys)) (same e)
    by _ e = absurd (cc e)
steps_means (breaks_rules f fs) ss e = absurd (cc e)
steps_means waits ss e = absurd (cc e)

-- what is no leaf has a kid
first_kid : (cat : ℕ → Category) (k : SynKind) (text : List ℕ) (ks : List ℕ) → is_declarator k ≡ true → is_leaf k ≡ false → kids_fit k text (map cat ks) ≡ true → (j : ℕ) × (slice_get ks 0 ≡ Some j)
unfolding kids_fit
first_kid cat k text (j ∷ ks) d l f = (j, refl)
first_kid cat kind.Paren text [] d l f = no f
first_kid cat kind.Pointer text [] d l f = no f
first_kid cat kind.ArrayOf text [] d l f = no f
first_kid cat kind.Takes text [] d l f = no f
first_kid cat kind.Ident text [] d l f = absurd (true≢false l)
first_kid cat kind.NoName text [] d l f = absurd (true≢false l)
first_kid cat _ text [] d l f = no d

module _ (tokens : List Token) (t : Tree) (derived : IsTreeOf tokens t) (quiet : faults t ≡ []) where
  l : AreLinked (category_at t) (nodes t)
  l = are_linked tokens t derived

  abbrev Given : ℕ → Type 0
  Given n = (m : Node) → slice_get (nodes t) n ≡ Some m → is_declarator m.label.kind ≡ true → (ss : List PlacedStep) → judgement_at (judgements_at (places t)) n ≡ means (steps ss) → has_unsized ss ≡ true → is_given (places t) m.first ≡ true

  inner : (n : ℕ) → ((k : ℕ) → k < n → Given k) → (m : Node) → slice_get (nodes t) n ≡ Some m → is_declarator m.label.kind ≡ true → is_leaf m.label.kind ≡ false
      → (ss : List PlacedStep) → steps_at (take n (judgements_at (places t))) (kid m 0) ≡ Some ss → has_unsized ss ≡ true → is_given (places t) m.first ≡ true
  inner n f m e d leaf ss at u =
      let p = places t in
      let js = judgements_at p in
      let shape = l.shapes.shaped n m e in
      let j = first_kid (category_at t) m.label.kind m.label.text m.kids d leaf shape.kids in
      let k = kid_of (nodes t) m.first n m.kids 0 j.0 (l.shapes.tiled n m e).kids j.1 in
      let here : steps_at (take n js) j.0 ≡ Some ss = ap (λ o. steps_at (take n js) (unwrap_or o 0)) (sym j.1) ∙ at in
      let is = steps_means (judgement_at js j.0) ss (ap steps_of (sym (earlier_at js n j.0 k.less)) ∙ here) in
      let meant = all_meant (category_at t) p l.shapes (no_fault t quiet).by_node (specials (category_at t) p l (record { names = refl; functions = refl })) j.0 k.node k.at in
      let outer = kind_at (nodes t) k.node.parent in
      let form = (split {p = has_form (category_at t j.0) k.node.label.kind (not (is_declarator outer)) (steps ss)} (ap (λ g. fits outer k.node.label.kind (category_at t j.0) g) (sym is) ∙ meant)).0 in
      let part = steps_part (category_at t j.0) k.node.label.kind (not (is_declarator outer)) ss form in
      let kid_shape = l.shapes.shaped j.0 k.node k.at in
      let declares = part_declares k.node.label.kind k.node.label.text (map (category_at t) k.node.kids) (ap is_part (sym kid_shape.category) ∙ part) in
      let first = first_begins (category_at t) (nodes t) l n m k.node j.0 (l.shapes.tiled n m e).kids j.1 k.at in
      ap (λ i. is_given p i) (sym first) ∙ f j.0 k.less k.node k.at declares ss is u

  all_given : (n : ℕ) → Given n
  all_given n = by_number Given step n
    where
      step : (n : ℕ) → ((k : ℕ) → k < n → Given k) → Given n
      step n f m e d ss is u =
          let p = places t in
          parted p (take n (judgements_at p)) m m.label.kind ss d (λ leaf. inner n f m e d leaf) (sym (judged_at p (nodes t) n m e) ∙ is) u

  pub made_at : (n : ℕ) (m : Node) → slice_get (nodes t) n ≡ Some m → is_declarator m.label.kind ≡ true → (u : CType) → judgement_at (judgements_at (places t)) n ≡ means (declares u)
      → Made (places t) (take n (judgements_at (places t))) m u
  made_at n m e d u is =
      let p = places t in
      made p (take n (judgements_at p)) m m.label.kind u d (λ leaf. inner n (λ k lt. all_given k) m e d leaf) (sym (judged_at p (nodes t) n m e) ∙ is)
