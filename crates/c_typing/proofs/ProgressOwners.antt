-- What declarators and enumerators belong to, and what stands before them there.
use Rattle.std.proofs.Common.{◌≡◌, ℕ, zero, suc, ◌<◌, Bool, true, false, not, List, ◌∷◌, length, map, Some, refl, sym, ap, ◌∙◌, subst, arith, true≢false, ◌⊎◌, inl, inr}
use Rattle.std.specs.Prelude.{slice_get, get_or, unwrap_or}
use Rattle.c_syntax.specs.declared.kind.SynKind.{SynKind}
use Rattle.c_syntax.specs.declared.kind.SynKind.TheVariants as kind
use Rattle.c_typing.specs.Places.{Node, node_at, kind_at, parent_of, kid, specs_by, specs_of, is_declarator, is_init}
use Rattle.c_typing.specs.Shapes as category
use Rattle.c_typing.specs.Shapes.{Category, no_category, category_by, kids_fit, stands_in, is_init_declarator, is_enumerator}
use Rattle.c_typing.proofs.ProgressForms.{is_part}
use Rattle.c_typing.proofs.ProgressKinds as of
use Rattle.c_typing.proofs.ProgressStep.{at_index}
use Rattle.c_typing.proofs.ProgressAll.{found_at}
use Rattle.c_typing.proofs.ProgressPlaces.{Linked, AreLinked, kids_apart, parent_above, first_low, stands, some_same}
use Rattle.c_typing.proofs.ProgressKids.{kid_of}

no : {A : Type 0} → false ≡ true → A
no e = absurd (true≢false (sym e))

-- ---- what declarators stand in

abbrev pub is_owner : SynKind → Bool
is_owner kind.Function = true
is_owner kind.InitDecl = true
is_owner kind.Member = true
is_owner kind.Param = true
is_owner kind.TypeName = true
is_owner k = false

pub part_stands : (c : Category) (k : SynKind) → is_part c ≡ true → stands_in c k ≡ true → not (is_declarator k) ≡ true → is_owner k ≡ true
unfolding stands_in
part_stands category.declarator kind.Function e f g = refl
part_stands category.declarator kind.InitDecl e f g = refl
part_stands category.declarator kind.Member e f g = refl
part_stands category.declarator kind.Param e f g = refl
part_stands category.declarator kind.Pointer e f g = no g
part_stands category.declarator kind.ArrayOf e f g = no g
part_stands category.declarator kind.Takes e f g = no g
part_stands category.declarator kind.Paren e f g = no g
part_stands category.declarator _ e f g = no f
part_stands category.abstract_declarator kind.Param e f g = refl
part_stands category.abstract_declarator kind.TypeName e f g = refl
part_stands category.abstract_declarator kind.Pointer e f g = no g
part_stands category.abstract_declarator kind.ArrayOf e f g = no g
part_stands category.abstract_declarator kind.Paren e f g = no g
part_stands category.abstract_declarator _ e f g = no f
part_stands category.no_name kind.Param e f g = refl
part_stands category.no_name kind.TypeName e f g = refl
part_stands category.no_name kind.Pointer e f g = no g
part_stands category.no_name kind.ArrayOf e f g = no g
part_stands category.no_name _ e f g = no f
part_stands _ k e f g = no e

abbrev pub is_specs : Category → Bool
is_specs category.specifiers = true
is_specs c = false

pub only_specs : (c : Category) → is_specs c ≡ true → c ≡ category.specifiers
only_specs category.specifiers e = refl
only_specs _ e = no e

first_specs : (k : SynKind) (text : List ℕ) (cs : List Category) → is_owner k ≡ true → (k ≡ kind.InitDecl → ⊥) → kids_fit k text cs ≡ true → is_specs (get_or cs 0 no_category) ≡ true
unfolding kids_fit
first_specs kind.Function text cs e i f = ap is_specs (of.of_function text cs f).0
first_specs kind.InitDecl text cs e i f = absurd (i refl)
first_specs kind.Member text (category.specifiers ∷ cs) e i f = refl
first_specs kind.Param text (category.specifiers ∷ cs) e i f = refl
first_specs kind.TypeName text (category.specifiers ∷ cs) e i f = refl
first_specs kind.Member text _ e i f = no f
first_specs kind.Param text _ e i f = no f
first_specs kind.TypeName text _ e i f = no f
first_specs _ text cs e i f = no e

part_is_no_specs : (c : Category) → is_part c ≡ true → is_specs c ≡ false
part_is_no_specs category.declarator e = refl
part_is_no_specs category.abstract_declarator e = refl
part_is_no_specs category.no_name e = refl
part_is_no_specs _ e = no e

pub init_or : (k : SynKind) → (k ≡ kind.InitDecl) ⊎ (k ≡ kind.InitDecl → ⊥)
init_or kind.InitDecl = inl refl
init_or _ = inr (λ e. true≢false (sym (ap is_init e)))

specs_other : (ns : List Node) (owner : Node) (k : SynKind) → (k ≡ kind.InitDecl → ⊥) → specs_by ns owner k ≡ kid owner 0
specs_other ns owner kind.InitDecl other = absurd (other refl)
specs_other ns owner _ other = refl

pub in_declaration : (k : SynKind) → stands_in category.init_declarator k ≡ true → k ≡ kind.Declaration
unfolding stands_in
in_declaration kind.Declaration e = refl
in_declaration _ e = no e

pub in_enum : (k : SynKind) → stands_in category.enumerator k ≡ true → k ≡ kind.EnumSpec
unfolding stands_in
in_enum kind.EnumSpec e = refl
in_enum _ e = no e

-- a node before the place n, of this class
pub record Before (cat : ℕ → Category) (ns : List Node) (n j : ℕ) (test : Category → Bool) : Type 0 where
  pub less : j < n
  pub node : Node
  pub at : slice_get ns j ≡ Some node
  pub is : test (cat j) ≡ true

module _ (cat : ℕ → Category) (ns : List Node) (l : AreLinked cat ns) where
  -- the first kid of the parent, where it is of another class than the node
  first_before : (test : Category → Bool) (n : ℕ) (m : Node) (e : slice_get ns n ≡ Some m) (q : Linked ns n m)
      → test no_category ≡ false → test (get_or (map cat q.parent.kids) 0 no_category) ≡ true → test (cat n) ≡ false
      → (kid q.parent 0 < m.first) × Before cat ns n (kid q.parent 0) test
  first_before test n m e q none first other =
      let a = at_index cat q.parent.kids 0 test none first in
      let tile = l.shapes.tiled m.parent q.parent q.at in
      let k = kid_of ns q.parent.first m.parent q.parent.kids 0 a.place tile.kids a.is in
      let same : kid q.parent 0 ≡ a.place = ap (λ o. unwrap_or o 0) a.is in
      let before : a.place < m.first = kids_apart ns q.parent.first m.parent m.parent q.parent.kids 0 q.index a.place n m tile.kids (later q.index q.among a.is a.passes) a.is q.among e in
      let own = first_low cat ns l n m e in
      let less : a.place < n = omega (arith, before, own) in
      subst (λ (j : ℕ). (j < m.first) × Before cat ns n j test) (sym same) (before, record { less = less; node = k.node; at = k.at; is = a.passes })
    where
      later : (i : ℕ) {j : ℕ} → slice_get q.parent.kids i ≡ Some n → slice_get q.parent.kids 0 ≡ Some j → test (cat j) ≡ true → 0 < i
      later zero {j = j} at first passes = let equal : n ≡ j = some_same (sym at ∙ first) in absurd (true≢false (sym passes ∙ (ap (λ k. test (cat k)) (sym equal) ∙ other)))
      later (suc i) at first passes = omega arith

  pub parent_is : (n : ℕ) (m : Node) → slice_get ns n ≡ Some m → (q : Linked ns n m) → parent_of ns m.id ≡ q.parent
  parent_is n m e q =
      ap (λ k. node_at ns (node_at ns k).parent) (l.shapes.tiled n m e).numbered
      ∙ (ap (λ (x : Node). node_at ns x.parent) (found_at ns n m e) ∙ found_at ns m.parent q.parent q.at)

  -- the node is at the place of its number
  id_of : (n j : ℕ) (test : Category → Bool) (b : Before cat ns n j test) → (node_at ns j).id ≡ j
  id_of n j test b = ap (λ (x : Node). x.id) (found_at ns j b.node b.at) ∙ (l.shapes.tiled j b.node b.at).numbered

  -- the specs of a declarator with an initializer
  pub init_specs : (n : ℕ) (m : Node) → slice_get ns n ≡ Some m → m.label.kind ≡ kind.InitDecl → (kid (node_at ns m.parent) 0 < m.first) × Before cat ns n (kid (node_at ns m.parent) 0) is_specs
  unfolding category_by
  init_specs n m e same = by (l.linked n m e)
    where
      own : cat n ≡ category.init_declarator
      own = (l.shapes.shaped n m e).category ∙ ap (λ k. category_by k m.label.text (map cat m.kids)) same

      by : (suc n ≡ length ns) ⊎ Linked ns n m → (kid (node_at ns m.parent) 0 < m.first) × Before cat ns n (kid (node_at ns m.parent) 0) is_specs
      by (inl last) = no (ap is_init_declarator (sym (l.root n m e last) ∙ own))
      by (inr q) =
          let shape = l.shapes.shaped m.parent q.parent q.at in
          let k = in_declaration q.parent.label.kind (ap (λ c. stands_in c q.parent.label.kind) (sym own) ∙ stands cat ns l n m q) in
          let fit = of.of_declaration q.parent.label.text (map cat q.parent.kids) (ap (λ k. kids_fit k q.parent.label.text (map cat q.parent.kids)) (sym k) ∙ shape.kids) in
          subst (λ (d : Node). (kid d 0 < m.first) × Before cat ns n (kid d 0) is_specs) (sym (found_at ns m.parent q.parent q.at))
          (first_before is_specs n m e q refl (ap is_specs fit.0) (ap is_specs own))

  -- the specs of what the declarator belongs to
  pub specs_before : (n : ℕ) (m : Node) (e : slice_get ns n ≡ Some m) → is_part (cat n) ≡ true → not (is_declarator (kind_at ns m.parent)) ≡ true
      → Before cat ns n (specs_of ns (parent_of ns m.id)).id is_specs
  specs_before n m e part whole = by (l.linked n m e)
    where
      from : (q : Linked ns n m) (j : ℕ) → specs_by ns q.parent q.parent.label.kind ≡ j → Before cat ns n j is_specs → Before cat ns n (specs_of ns (parent_of ns m.id)).id is_specs
      from q j same b =
          let owner = ap (λ (o : Node). (specs_of ns o).id) (parent_is n m e q) in
          subst (λ k. Before cat ns n k is_specs) (sym (owner ∙ (ap (λ k. (node_at ns k).id) same ∙ id_of n j is_specs b))) b

      by : (suc n ≡ length ns) ⊎ Linked ns n m → Before cat ns n (specs_of ns (parent_of ns m.id)).id is_specs
      by (inl last) = no (sym (ap is_part (l.root n m e last)) ∙ part)
      by (inr q) =
          let up : kind_at ns m.parent ≡ q.parent.label.kind = ap (λ (o : Node). o.label.kind) (found_at ns m.parent q.parent q.at) in
          let owner = part_stands (cat n) q.parent.label.kind part (stands cat ns l n m q) (ap (λ k. not (is_declarator k)) (sym up) ∙ whole) in
          cases q owner (init_or q.parent.label.kind)
        where
          cases : (q : Linked ns n m) → is_owner q.parent.label.kind ≡ true → (q.parent.label.kind ≡ kind.InitDecl) ⊎ (q.parent.label.kind ≡ kind.InitDecl → ⊥)
              → Before cat ns n (specs_of ns (parent_of ns m.id)).id is_specs
          cases q owner (inr other) =
              let shape = l.shapes.shaped m.parent q.parent q.at in
              let first = first_specs q.parent.label.kind q.parent.label.text (map cat q.parent.kids) owner other shape.kids in
              let b = first_before is_specs n m e q refl first (part_is_no_specs (cat n) part) in
              from q (kid q.parent 0) (specs_other ns q.parent q.parent.label.kind other) b.1
          cases q owner (inl init) =
              let b = init_specs m.parent q.parent q.at init in
              let up = parent_above cat ns l n m e q in
              let low = first_low cat ns l n m e in
              let less = b.0 in
              let under = up.1 in
              from q (kid (node_at ns q.parent.parent) 0) (ap (λ k. specs_by ns q.parent k) init)
              (record { less = omega (arith, less, under, low); node = b.1.node; at = b.1.at; is = b.1.is })
