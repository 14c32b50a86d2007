-- The whole declarator of a name.
use Rattle.std.proofs.Common.{◌≡◌, ℕ, zero, suc, ◌≤◌, Bool, true, false, not, List, [], ◌∷◌, length, map, Option, Some, None, refl, sym, ap, ◌∙◌, arith, true≢false, ◌⊎◌, inl, inr}
use Rattle.std.specs.Prelude.{slice_get, get_or, unwrap_or, filter, ◌==◌, if◌then◌else◌}
use Rattle.std.specs.List.{list_all, last_or}
use Rattle.std.proofs.lemmas.Bool.Decides.{Decides-eqb}
use Rattle.c_syntax.specs.declared.kind.SynKind.{SynKind}
use Rattle.c_syntax.specs.declared.kind.SynKind.TheVariants as kind
use Rattle.c_typing.specs.Places.{Node, nowhere, kind_at, is_declarator, in_declarator, whole_declarator}
use Rattle.c_typing.specs.Shapes as category
use Rattle.c_typing.specs.Shapes.{Category, no_category, category_by, kids_fit, declarator_over, in_parentheses, begins_with, at_most_one, is_conditional_expression, is_parameter, is_init_declarator}
use Rattle.c_typing.proofs.ProgressForms.{is_part, split}
use Rattle.c_typing.proofs.ProgressKinds as of
use Rattle.c_typing.proofs.ProgressAll.{found_at}
use Rattle.c_typing.proofs.ProgressPlaces.{Linked, AreLinked, parent_above, first_low, get_or_at, some_same}
use Rattle.c_typing.proofs.ProgressKids.{KidsFrom}
use Rattle.c_typing.proofs.ShapesBase.{both}

no : {A : Type 0} → false ≡ true → A
no e = absurd (true≢false (sym e))

-- ---- the last that passes a test

pub record LastOf (test : Node → Bool) (ns : List Node) : Type 0 where
  pub node : Node
  pub place : ℕ
  pub at : slice_get ns place ≡ Some node
  pub passes : test node ≡ true
  pub latest : (j : ℕ) (x : Node) → slice_get ns j ≡ Some x → test x ≡ true → j ≤ place
  pub is : (o : Option Node) → last_or o (filter test ns) ≡ Some node

record NoneOf (test : Node → Bool) (ns : List Node) : Type 0 where
  fails : (j : ℕ) (x : Node) → slice_get ns j ≡ Some x → test x ≡ true → ⊥
  is : (o : Option Node) → last_or o (filter test ns) ≡ o

last_cases : (test : Node → Bool) (ns : List Node) → NoneOf test ns ⊎ LastOf test ns
last_cases test [] = inl (record { fails = λ j x e t. absurd (cc e); is = λ o. refl })
last_cases test (x ∷ ns) = by (test x) refl (last_cases test ns)
  where
    shift : (b : Bool) → test x ≡ b → (o : Option Node) → last_or o (filter test (x ∷ ns)) ≡ last_or (if b then Some x else o) (filter test ns)
    shift true e o = ap (λ b. last_or o (if b then x ∷ filter test ns else filter test ns)) e
    shift false e o = ap (λ b. last_or o (if b then x ∷ filter test ns else filter test ns)) e

    later : (b : Bool) → test x ≡ b → LastOf test ns → LastOf test (x ∷ ns)
    later b e r = record { node = r.node; place = suc r.place; at = r.at; passes = r.passes; latest = latest; is = λ o. shift b e o ∙ r.is (if b then Some x else o) }
      where
        latest : (j : ℕ) (y : Node) → slice_get (x ∷ ns) j ≡ Some y → test y ≡ true → j ≤ suc r.place
        latest zero y at t = omega arith
        latest (suc j) y at t = let l = r.latest j y at t in omega (arith, l)

    by : (b : Bool) → test x ≡ b → NoneOf test ns ⊎ LastOf test ns → NoneOf test (x ∷ ns) ⊎ LastOf test (x ∷ ns)
    by b e (inr r) = inr (later b e r)
    by true e (inl n) = inr (record { node = x; place = 0; at = refl; passes = e; latest = latest; is = λ o. shift true e o ∙ n.is (Some x) })
      where
        latest : (j : ℕ) (y : Node) → slice_get (x ∷ ns) j ≡ Some y → test y ≡ true → j ≤ 0
        latest zero y at t = omega arith
        latest (suc j) y at t = absurd (n.fails j y at t)
    by false e (inl n) = inl (record { fails = fails; is = λ o. shift false e o ∙ n.is o })
      where
        fails : (j : ℕ) (y : Node) → slice_get (x ∷ ns) j ≡ Some y → test y ≡ true → ⊥
        fails zero y at t = let same : x ≡ y = some_same at in true≢false (sym t ∙ (ap test (sym same) ∙ e))
        fails (suc j) y at t = n.fails j y at t

last_of : (test : Node → Bool) (ns : List Node) (j : ℕ) (x : Node) → slice_get ns j ≡ Some x → test x ≡ true → LastOf test ns
last_of test ns j x e t = by (last_cases test ns)
  where
    by : NoneOf test ns ⊎ LastOf test ns → LastOf test ns
    by (inl n) = absurd (n.fails j x e t)
    by (inr r) = r

-- ---- declarators by their kinds

over_no_init : (cs : List Category) → is_init_declarator (declarator_over cs) ≡ false
over_no_init (category.declarator ∷ cs) = refl
over_no_init (category.abstract_declarator ∷ cs) = refl
over_no_init (category.no_name ∷ cs) = refl
over_no_init (_ ∷ cs) = refl
over_no_init [] = refl

brackets_no_init : (cs : List Category) → is_init_declarator (in_parentheses cs) ≡ false
brackets_no_init (category.expression l ∷ cs) = refl
brackets_no_init (category.declarator ∷ cs) = refl
brackets_no_init (category.abstract_declarator ∷ cs) = refl
brackets_no_init (category.no_name ∷ cs) = refl
brackets_no_init (_ ∷ cs) = refl
brackets_no_init [] = refl

kind_no_init : (k : SynKind) (text : List ℕ) (cs : List Category) → is_declarator k ≡ true → is_init_declarator (category_by k text cs) ≡ false
unfolding category_by
kind_no_init kind.Ident text cs e = refl
kind_no_init kind.NoName text cs e = refl
kind_no_init kind.Paren text cs e = brackets_no_init cs
kind_no_init kind.Pointer text cs e = over_no_init cs
kind_no_init kind.ArrayOf text cs e = over_no_init cs
kind_no_init kind.Takes text cs e = refl
kind_no_init _ text cs e = no e

-- what begins with a name
begins_declarator : (c : Category) → begins_with c kind.Ident ≡ true → is_init_declarator c ≡ false → c ≡ category.declarator
unfolding begins_with
begins_declarator category.declarator e i = refl
begins_declarator category.init_declarator e i = absurd (true≢false i)
begins_declarator _ e i = no e

get_none : (i : ℕ) → get_or [] i no_category ≡ no_category
get_none i = refl

optional_no_declarator : (cs : List Category) (j : ℕ) → at_most_one is_conditional_expression cs ≡ true → of.is_declarator_only (get_or cs j no_category) ≡ false
unfolding category.is_within
optional_no_declarator [] j e = refl
optional_no_declarator (category.expression l ∷ []) zero e = refl
optional_no_declarator (_ ∷ []) zero e = no e
optional_no_declarator (c ∷ []) (suc j) e = refl
optional_no_declarator (c ∷ d ∷ cs) j e = no e

parameters_no_declarator : (cs : List Category) (j : ℕ) → list_all is_parameter cs ≡ true → of.is_declarator_only (get_or cs j no_category) ≡ false
parameters_no_declarator [] j e = refl
parameters_no_declarator (category.parameter ∷ cs) zero e = refl
parameters_no_declarator (_ ∷ cs) zero e = no e
parameters_no_declarator (c ∷ cs) (suc j) e = parameters_no_declarator cs j (of.apart {p = is_parameter c} e).1

-- a declarator in another one is the first kid
later_no_declarator : (k : SynKind) (text : List ℕ) (cs : List Category) (j : ℕ) → is_declarator k ≡ true → kids_fit k text cs ≡ true → of.is_declarator_only (get_or cs (suc j) no_category) ≡ false
unfolding kids_fit
later_no_declarator kind.Ident text [] j e f = refl
later_no_declarator kind.NoName text [] j e f = refl
later_no_declarator kind.Paren text (c ∷ []) j e f = refl
later_no_declarator kind.Pointer text (c ∷ []) j e f = refl
later_no_declarator kind.ArrayOf text (c ∷ cs) j e f = optional_no_declarator cs j (of.apart f).1
later_no_declarator kind.Takes text (category.declarator ∷ cs) j e f = parameters_no_declarator cs j f
later_no_declarator kind.Ident text _ j e f = no f
later_no_declarator kind.NoName text _ j e f = no f
later_no_declarator kind.Paren text _ j e f = no f
later_no_declarator kind.Pointer text _ j e f = no f
later_no_declarator kind.ArrayOf text [] j e f = no f
later_no_declarator kind.Takes text _ j e f = no f
later_no_declarator _ text cs j e f = no e

-- ---- the whole declarator

pub record WholeAt (cat : ℕ → Category) (ns : List Node) (place : ℕ) : Type 0 where
  pub node : Node
  pub at : slice_get ns place ≡ Some node
  pub is : cat place ≡ category.declarator
  pub whole : not (is_declarator (kind_at ns node.parent)) ≡ true

module _ (cat : ℕ → Category) (ns : List Node) (l : AreLinked cat ns) where
  pub first_begins : (n : ℕ) (q m : Node) (k : ℕ) → KidsFrom ns q.first n n q.kids → slice_get q.kids 0 ≡ Some k → slice_get ns k ≡ Some m → m.first ≡ q.first
  first_begins n q m k tile at e = by q.kids tile at
    where
      by : (ks : List ℕ) → KidsFrom ns q.first n n ks → slice_get ks 0 ≡ Some k → m.first ≡ q.first
      by [] t at = absurd (cc at)
      by (j ∷ ks) t at =
          let same : j ≡ k = some_same at in
          let node : m ≡ t.0.node = some_same (sym e ∙ (ap (λ i. slice_get ns i) (sym same) ∙ t.0.at)) in
          ap (λ (x : Node). x.first) node ∙ t.0.begins

  pub record NameIs (i : ℕ) : Type 0 where
    pub place : ℕ
    pub whole : WholeAt cat ns place
    pub is : whole_declarator ns i ≡ whole.node
    pub first : whole.node.first ≡ i
    pub from : i ≤ place
    pub latest : (j : ℕ) (x : Node) → slice_get ns j ≡ Some x → in_declarator i x ≡ true → j ≤ place

  leaf_first : (i : ℕ) (m : Node) → slice_get ns i ≡ Some m → m.label.kind ≡ kind.Ident → m.first ≡ i
  unfolding kids_fit
  leaf_first i m e same =
      let shape = l.shapes.shaped i m e in
      by m.kids (l.shapes.tiled i m e).kids (ap (λ k. kids_fit k m.label.text (map cat m.kids)) (sym same) ∙ shape.kids)
    where
      by : (ks : List ℕ) → KidsFrom ns m.first i i ks → kids_fit kind.Ident m.label.text (map cat ks) ≡ true → m.first ≡ i
      by [] t f = t
      by (k ∷ ks) t f = no f

  pub whole_of : (i : ℕ) (m : Node) → slice_get ns i ≡ Some m → m.label.kind ≡ kind.Ident → NameIs i
  whole_of i m e same = record {
    place = r.place;
    whole = record { node = r.node; at = r.at; is = own; whole = by (l.linked r.place r.node r.at) };
    is = ap (λ o. unwrap_or o nowhere) (r.is None);
    first = first;
    latest = r.latest;
    from = let f = first in let low = first_low cat ns l r.place r.node r.at in omega (arith, f, low);
  }
    where
      first_own : m.first ≡ i
      first_own = leaf_first i m e same

      r : LastOf (in_declarator i) ns
      r = last_of (in_declarator i) ns i m e (both ((Decides-eqb m.first i).1 first_own) (ap is_declarator same))

      tests : ((r.node.first == i) ≡ true) × (is_declarator r.node.label.kind ≡ true)
      tests = split {p = r.node.first == i} r.passes

      first : r.node.first ≡ i
      first = (Decides-eqb r.node.first i).0 tests.0

      own : cat r.place ≡ category.declarator
      own =
          let low = l.lowest r.place r.node r.at in
          let node : low.node ≡ m = some_same (sym low.at ∙ (ap (λ k. slice_get ns k) first ∙ e)) in
          let begins : begins_with (cat r.place) kind.Ident ≡ true = ap (λ k. begins_with (cat r.place) k) (sym (ap (λ (x : Node). x.label.kind) node ∙ same)) ∙ low.begins in
          let shape = l.shapes.shaped r.place r.node r.at in
          begins_declarator (cat r.place) begins (ap is_init_declarator shape.category ∙ kind_no_init r.node.label.kind r.node.label.text (map cat r.node.kids) tests.1)

      by : (suc r.place ≡ length ns) ⊎ Linked ns r.place r.node → not (is_declarator (kind_at ns r.node.parent)) ≡ true
      by (inl last) = no (sym (ap is_part (l.root r.place r.node r.at last)) ∙ ap is_part own)
      by (inr q) = cases (is_declarator q.parent.label.kind) refl q.index q.among
        where
          up : kind_at ns r.node.parent ≡ q.parent.label.kind
          up = ap (λ (x : Node). x.label.kind) (found_at ns r.node.parent q.parent q.at)

          cases : (b : Bool) → is_declarator q.parent.label.kind ≡ b → (j : ℕ) → slice_get q.parent.kids j ≡ Some r.place → not (is_declarator (kind_at ns r.node.parent)) ≡ true
          cases false same_kind j at = ap (λ k. not (is_declarator k)) up ∙ ap not same_kind
          cases true same_kind zero at =
              let begins = first_begins r.node.parent q.parent r.node r.place (l.shapes.tiled r.node.parent q.parent q.at).kids at r.at in
              let test = both ((Decides-eqb q.parent.first i).1 (sym begins ∙ first)) same_kind in
              let late = r.latest r.node.parent q.parent q.at test in
              let above = (parent_above cat ns l r.place r.node r.at q).0 in
              absurd (omega (arith, late, above))
          cases true same_kind (suc j) at =
              let shape = l.shapes.shaped r.node.parent q.parent q.at in
              let none = later_no_declarator q.parent.label.kind q.parent.label.text (map cat q.parent.kids) j same_kind shape.kids in
              absurd (true≢false (sym (ap of.is_declarator_only (get_or_at cat ns l q.parent.kids (suc j) r.place at ∙ own)) ∙ none))
