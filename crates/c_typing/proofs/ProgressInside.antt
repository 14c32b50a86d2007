-- What stands inside of a node, and the name that a declarator with an initializer declares.
use Rattle.std.proofs.Common.{◌≡◌, ℕ, zero, suc, ◌+◌, ◌<◌, ◌≤◌, Bool, true, false, ◌||◌, List, [], ◌∷◌, ◌++◌, length, map, Some, refl, sym, ap, ◌∙◌, arith, true≢false, ◌⊎◌, inl, inr}
use Rattle.std.specs.Prelude.{slice_get, get_or, unwrap_or, if◌then◌else◌}
use Rattle.std.specs.List.{list_any}
use Rattle.std.proofs.lemmas.Bool.Decides.{Decides-eqb}
use Rattle.c_syntax.specs.declared.kind.SynKind.{SynKind}
use Rattle.c_syntax.specs.declared.kind.SynKind.TheVariants as kind
use Rattle.c_typing.specs.Places.{Node, kid, whole_declarator, Scope, is_declarator}
use Rattle.c_typing.specs.Names.{Name, names_by, names_from}
use Rattle.c_typing.specs.Shapes as category
use Rattle.c_typing.specs.Shapes.{Category, no_category, category_by, kids_fit, begins_with}
use Rattle.c_grammar.specs.Vocabulary.{is_type_word, is_storage_word}
use Rattle.c_typing.proofs.ShapesBase.{both}
use Rattle.c_typing.proofs.ProgressKinds as of
use Rattle.c_typing.proofs.ProgressStep.{At, at_index}
use Rattle.c_typing.proofs.ProgressAll.{found_at, by_number}
use Rattle.c_typing.proofs.ProgressKids.{KidsFrom, low}
use Rattle.c_typing.proofs.ProgressPlaces.{Lowest, Linked, AreLinked, kid_at, parent_above, first_low, some_same, compare, within as bound}
use Rattle.c_typing.proofs.ProgressOwners.{init_specs}
use Rattle.c_typing.proofs.ProgressWhole.{NameIs, whole_of, first_begins}

no : {A : Type 0} → false ≡ true → A
no e = absurd (true≢false (sym e))

-- ---- a place below a node is in one of its kids

record KidOver (ns : List Node) (n j : ℕ) : Type 0 where
  place : ℕ
  node : Node
  at : slice_get ns place ≡ Some node
  below : node.parent ≡ n
  from : node.first ≤ j
  to : j ≤ place
  less : place < n

locate : (ns : List Node) (start n j : ℕ) (ks : List ℕ) → KidsFrom ns start n n ks → start ≤ j → j < n → KidOver ns n j
locate ns start n j [] e le lt = absurd (omega (arith, e, le, lt))
locate ns start n j (k ∷ ks) e le lt = by (compare k j) (λ more. locate ns (k + 1) n j ks e.1 (omega (arith, more)) lt)
  where
    by : (k < j) ⊎ (j ≤ k) → (k < j → KidOver ns n j) → KidOver ns n j
    by (inl more) f = f more
    by (inr within) f =
        let later = low ns (k + 1) n n ks e.1 in
        let begins = e.0.begins in
        record { place = k; node = e.0.node; at = e.0.at; below = e.0.below; from = omega (arith, begins, le); to = within; less = omega (arith, later) }

-- the node x, at the place j, is inside of the node at the place n
pub record Inside (n first : ℕ) (j : ℕ) (x : Node) : Type 0 where
  pub begins : first ≤ x.first
  pub parent : j < n → x.parent ≤ n

module _ (cat : ℕ → Category) (ns : List Node) (l : AreLinked cat ns) where
  pub inside : (n : ℕ) (m : Node) → slice_get ns n ≡ Some m → (j : ℕ) (x : Node) → slice_get ns j ≡ Some x → m.first ≤ j → j ≤ n → Inside n m.first j x
  inside n = by_number (λ n. (m : Node) → slice_get ns n ≡ Some m → (j : ℕ) (x : Node) → slice_get ns j ≡ Some x → m.first ≤ j → j ≤ n → Inside n m.first j x) step n
    where
      step : (n : ℕ) → ((k : ℕ) → k < n → (m : Node) → slice_get ns k ≡ Some m → (j : ℕ) (x : Node) → slice_get ns j ≡ Some x → m.first ≤ j → j ≤ k → Inside k m.first j x)
          → (m : Node) → slice_get ns n ≡ Some m → (j : ℕ) (x : Node) → slice_get ns j ≡ Some x → m.first ≤ j → j ≤ n → Inside n m.first j x
      step n f m e j x at le within = by (compare j n)
        where
          by : (j < n) ⊎ (n ≤ j) → Inside n m.first j x
          by (inr last) =
              let same : n ≡ j = omega (arith, last, within) in
              let node : m ≡ x = some_same (sym e ∙ (ap (λ k. slice_get ns k) same ∙ at)) in
              let first = ap (λ (y : Node). y.first) node in
              record { begins = omega (arith, first); parent = λ lt. absurd (omega (arith, lt, last)) }
          by (inl lt) =
              let tile = l.shapes.tiled n m e in
              let k = locate ns m.first n j m.kids tile.kids le lt in
              let from = k.from in
              let to = k.to in
              let less = k.less in
              let r = f k.place k.less k.node k.at j x at k.from k.to in
              let begins = r.begins in
              let up : m.first ≤ k.node.first = kid_first n m e k in
              record { begins = omega (arith, begins, up); parent = λ below. cases k r (compare j k.place) }
            where
              kid_first : (n : ℕ) (m : Node) → slice_get ns n ≡ Some m → (k : KidOver ns n j) → m.first ≤ k.node.first
              kid_first n m e k = link k (l.linked k.place k.node k.at)
                where
                  link : (k : KidOver ns n j) → (suc k.place ≡ length ns) ⊎ Linked ns k.place k.node → m.first ≤ k.node.first
                  link k (inl last) = let there = bound ns n m e in let less = k.less in absurd (omega (arith, there, less, last))
                  link k (inr q) =
                      let up = (parent_above cat ns l k.place k.node k.at q).1 in
                      let node : q.parent ≡ m = some_same (sym q.at ∙ (ap (λ i. slice_get ns i) k.below ∙ e)) in
                      let first = ap (λ (y : Node). y.first) node in
                      omega (arith, up, first)

              cases : (k : KidOver ns n j) → Inside k.place k.node.first j x → (j < k.place) ⊎ (k.place ≤ j) → x.parent ≤ n
              cases k r (inl lt) = let p = r.parent lt in let less = k.less in omega (arith, p, less)
              cases k r (inr ge) =
                  let to = k.to in
                  let same : k.place ≡ j = omega (arith, ge, to) in
                  let node : k.node ≡ x = some_same (sym k.at ∙ (ap (λ i. slice_get ns i) same ∙ at)) in
                  let up = ap (λ (y : Node). y.parent) node in
                  let below = k.below in
                  omega (arith, up, below)

-- ---- the name of a declarator with an initializer

any_front : (test : Name → Bool) (xs ys : List Name) → list_any test xs ≡ true → list_any test (xs ++ ys) ≡ true
any_front test [] ys e = no e
any_front test (x ∷ xs) ys e = by (test x) e (any_front test xs ys)
  where
    by : (b : Bool) → b || list_any test xs ≡ true → (list_any test xs ≡ true → list_any test (xs ++ ys) ≡ true) → b || list_any test (xs ++ ys) ≡ true
    by true e f = refl
    by false e f = f e

any_back : (test : Name → Bool) (xs ys : List Name) → list_any test ys ≡ true → list_any test (xs ++ ys) ≡ true
any_back test [] ys e = e
any_back test (x ∷ xs) ys e = by (test x) (any_back test xs ys e)
  where
    by : (b : Bool) → list_any test (xs ++ ys) ≡ true → b || list_any test (xs ++ ys) ≡ true
    by true e = refl
    by false e = e

any_kept : (test : Name → Bool) (s : List Node) (scopes : List Scope) (names : List Name) (rest : List Node) → list_any test names ≡ true → list_any test (names_from s scopes names rest) ≡ true
any_kept test s scopes names [] e = e
any_kept test s scopes names (node ∷ rest) e = any_kept test s scopes (names ++ names_by s scopes names node node.label.kind) rest (any_front test names _ e)

pub any_from : (test : Name → Bool) (s : List Node) (scopes : List Scope) (names : List Name) (rest : List Node) (k : ℕ) (node : Node) → slice_get rest k ≡ Some node
    → ((before : List Name) → list_any test (names_by s scopes before node node.label.kind) ≡ true) → list_any test (names_from s scopes names rest) ≡ true
any_from test s scopes names [] k node e h = absurd (cc e)
any_from test s scopes names (x ∷ rest) zero node e h =
    let same : x ≡ node = some_same e in
    let here = ap (λ (y : Node). list_any test (names_by s scopes names y y.label.kind)) same ∙ h names in
    any_kept test s scopes (names ++ names_by s scopes names x x.label.kind) rest (any_back test names _ here)
any_from test s scopes names (x ∷ rest) (suc k) node e h = any_from test s scopes (names ++ names_by s scopes names x x.label.kind) rest k node e h

-- the declarator of a node, and its name
pub record InitName (cat : ℕ → Category) (ns : List Node) (n : ℕ) (m : Node) : Type 0 where
  pub place : ℕ
  pub is : slice_get m.kids 0 ≡ Some place
  pub node : Node
  pub at : slice_get ns place ≡ Some node
  pub less : place < n
  pub below : node.parent ≡ n
  pub category : cat place ≡ category.declarator
  pub name : Node
  pub named : slice_get ns node.first ≡ Some name
  pub ident : name.label.kind ≡ kind.Ident
  pub whole : whole_declarator ns node.first ≡ node

name_kind : (k : SynKind) → begins_with category.declarator k ≡ true → k ≡ kind.Ident
unfolding begins_with
name_kind kind.Ident e = refl
name_kind _ e = no e

word_declares : (s t : Bool) → of.is_declarator_only (if s then category.storage_word else if t then category.type_specifier else category.typedef_name) ≡ true → ⊥
word_declares true t e = no e
word_declares false true e = no e
word_declares false false e = no e

-- what is a declarator has the kind of one
pub kind_declares : (k : SynKind) (text : List ℕ) (cs : List Category) → of.is_declarator_only (category_by k text cs) ≡ true → is_declarator k ≡ true
unfolding category_by
kind_declares kind.Ident text cs e = refl
kind_declares kind.NoName text cs e = refl
kind_declares kind.Paren text cs e = refl
kind_declares kind.Pointer text cs e = refl
kind_declares kind.ArrayOf text cs e = refl
kind_declares kind.Takes text cs e = refl
kind_declares kind.Word text cs e = absurd (word_declares (is_storage_word text) (is_type_word text) e)
kind_declares _ text cs e = no e

module _ (cat : ℕ → Category) (ns : List Node) (l : AreLinked cat ns) where
  pub init_name : (n : ℕ) (m : Node) → slice_get ns n ≡ Some m → m.label.kind ≡ kind.InitDecl → InitName cat ns n m
  unfolding category_by
  init_name n m e same =
      let tile = l.shapes.tiled n m e in
      let k = kid_at ns m.first n n m.kids 0 first.place tile.kids first.is in
      record {
        place = first.place;
        is = first.is;
        node = k.3.node;
        at = k.3.at;
        less = k.2;
        below = k.3.below;
        category = own;
        name = (low_of k.3.node k.3.at).node;
        named = (low_of k.3.node k.3.at).at;
        ident = ident k.3.node k.3.at;
        whole = whole k.3.node k.3.at k.2 k.3.below;
      }
    where
      fit : get_or (map cat m.kids) 0 no_category ≡ category.declarator
      fit = (of.of_initializer m.label.text (map cat m.kids) (ap (λ k. kids_fit k m.label.text (map cat m.kids)) (sym same) ∙ (l.shapes.shaped n m e).kids)).0

      first : At cat m.kids 0 (λ c. of.is_declarator_only c)
      first = at_index cat m.kids 0 (λ c. of.is_declarator_only c) refl (ap of.is_declarator_only fit)

      own : cat first.place ≡ category.declarator
      own = of.only_declarator (cat first.place) first.passes

      low_of : (d : Node) → slice_get ns first.place ≡ Some d → Lowest cat ns first.place d
      low_of d at = l.lowest first.place d at

      ident : (d : Node) (at : slice_get ns first.place ≡ Some d) → (low_of d at).node.label.kind ≡ kind.Ident
      ident d at = name_kind _ (ap (λ c. begins_with c (low_of d at).node.label.kind) (sym own) ∙ (low_of d at).begins)

      whole : (d : Node) → slice_get ns first.place ≡ Some d → first.place < n → d.parent ≡ n → whole_declarator ns d.first ≡ d
      whole d at less below = by (compare first.place w.place)
        where
          w : NameIs cat ns l d.first
          w = whole_of cat ns l d.first (low_of d at).node (low_of d at).at (ident d at)

          late : first.place ≤ w.place
          late =
              let shape = l.shapes.shaped first.place d at in
              let declares = kind_declares d.label.kind d.label.text (map cat d.kids) (ap of.is_declarator_only (sym shape.category ∙ own)) in
              w.latest first.place d at (both ((Decides-eqb d.first d.first).1 refl) declares)

          own_first : d.first ≡ m.first
          own_first = first_begins cat ns l n m d first.place (l.shapes.tiled n m e).kids first.is at

          not_this : w.place ≡ n → ⊥
          not_this h =
              let own_kind = ap (λ k. category_by k m.label.text (map cat m.kids)) same in
              true≢false (ap of.is_declarator_only (sym w.whole.is ∙ (ap cat h ∙ (l.shapes.shaped n m e).category)) ∙ init_declares own_kind)
            where
              init_declares : category_by m.label.kind m.label.text (map cat m.kids) ≡ category_by kind.InitDecl m.label.text (map cat m.kids) → of.is_declarator_only (category_by m.label.kind m.label.text (map cat m.kids)) ≡ false
              init_declares h = ap of.is_declarator_only h

          by : (first.place < w.place) ⊎ (w.place ≤ first.place) → whole_declarator ns d.first ≡ d
          by (inr le) =
              let equal : w.place ≡ first.place = let a = late in omega (arith, le, a) in
              w.is ∙ some_same (sym w.whole.at ∙ (ap (λ k. slice_get ns k) equal ∙ at))
          by (inl lt) = absurd (outer (l.linked n m e))
            where
              wfirst : w.whole.node.first ≡ d.first
              wfirst = w.first

              up : n ≤ w.place
              up =
                  let d_low = first_low cat ns l first.place d at in
                  let f = wfirst in
                  let r = (inside cat ns l w.place w.whole.node w.whole.at first.place d at (omega (arith, d_low, f)) (omega (arith, lt))).parent lt in
                  omega (arith, r, below)

              strictly : n < w.place
              strictly = cases (compare n w.place)
                where
                  cases : (n < w.place) ⊎ (w.place ≤ n) → n < w.place
                  cases (inl h) = h
                  cases (inr h) = let u = up in absurd (not_this (omega (arith, h, u)))

              outer : (suc n ≡ length ns) ⊎ Linked ns n m → ⊥
              outer (inl last) = let there = bound ns w.place w.whole.node w.whole.at in let s = strictly in absurd (omega (arith, there, s, last))
              outer (inr q) =
                  let f = wfirst in
                  let own = own_first in
                  let s = strictly in
                  let m_low = first_low cat ns l n m e in
                  let under = (inside cat ns l w.place w.whole.node w.whole.at n m e (omega (arith, f, own, m_low)) (omega (arith, s))).parent s in
                  let above = (parent_above cat ns l n m e q).0 in
                  let r = (inside cat ns l w.place w.whole.node w.whole.at m.parent q.parent q.at (omega (arith, f, own, m_low, above)) under).begins in
                  let b = (init_specs cat ns l n m e same).0 in
                  let node = found_at ns m.parent q.parent q.at in
                  let kid_same = ap (λ (y : Node). kid y 0) node in
                  let high = first_high q.parent.kids (l.shapes.tiled m.parent q.parent q.at).kids q.index q.among in
                  absurd (omega (arith, r, b, kid_same, high, f, own))
                where
                  first_high : (ks : List ℕ) → KidsFrom ns q.parent.first m.parent m.parent ks → (j : ℕ) → slice_get ks j ≡ Some n → q.parent.first ≤ unwrap_or (slice_get ks 0) 0
                  first_high [] t j h = absurd (cc h)
                  first_high (k ∷ ks) t j h = t.0.behind
