-- A node of each kind has a meaning of its form, where those before it have, and it breaks no rule.
use Rattle.std.proofs.Common.{◌≡◌, ℕ, zero, suc, Bool, true, false, not, List, [], ◌∷◌, map, Option, Some, None, refl, sym, ap, ◌∙◌, subst, true≢false}
use Rattle.std.specs.Prelude.{slice_get, get_or, unwrap_or, drop}
use Rattle.std.specs.List.{list_all}
use Rattle.std.specs.Option.{is_some}
use Rattle.c_syntax.specs.declared.kind.SynKind.{SynKind}
use Rattle.c_syntax.specs.declared.kind.SynKind.TheVariants as kind
use Rattle.c_typing.specs.Types.{CType}
use Rattle.c_typing.specs.Places.{Node, node_at, kind_at, kid, other_kids, parent_of, index_in, specs_of, is_declarator}
use Rattle.c_typing.specs.Names.{Places, Name, is_typedef, denoted, function_around}
use Rattle.c_typing.specs.Judgements.{fills_array, Judgement, judgement_at, typing_at, type_at, steps_at, code_at}
use Rattle.c_typing.specs.Expressions.{type_of_name, word_of_enumerator}
use Rattle.c_typing.specs.Initializers.{target, fills}
use Rattle.c_typing.specs.Shapes.{Category, no_category, category_by}
use Rattle.c_typing.proofs.ProgressBase.{AllThere, no_part, and_part}
use Rattle.c_typing.proofs.ProgressForms.{fits, may_fill, holds_initial, is_some_expression, HasTyping, typed, Has, is_code, performed, has_type, has_its_type, is_part, has_steps}
use Rattle.c_typing.proofs.ProgressKinds as of
use Rattle.c_typing.proofs.ProgressKinds.{Operand, Code, rest, is_for_part, is_for_first, is_other, is_plain, other_kind, part_expression, first_expression, part_over}
use Rattle.c_typing.proofs.ProgressNames.{Known, HasParts, IsInitial}

no : {A : Type 0} → false ≡ true → A
no e = absurd (true≢false (sym e))

-- a kid below a node of the kind `outer`: its meaning has its form, and its category is that of its kind
pub record KidHas (cat : ℕ → Category) (p : Places) (js : List Judgement) (outer : SynKind) (j : ℕ) : Type 0 where
  pub form : fits outer (kind_at p.nodes j) (cat j) (judgement_at js j) ≡ true
  pub text : List ℕ
  pub below : List Category
  pub is : cat j ≡ category_by (kind_at p.nodes j) text below

-- what is known, where a node is reached, of what its meaning is made of beside its kids
pub record Special (cat : ℕ → Category) (p : Places) (js : List Judgement) (n : ℕ) (outer : SynKind) (m : Node) : Type 0 where
  pub specified : is_part (cat n) ≡ true → not (is_declarator outer) ≡ true → Has (type_at js (specs_of p.nodes (parent_of p.nodes m.id)).id)
  pub named : (e : Name) → denoted p.names m.id m.label.text ≡ Some e → is_typedef e.entity ≡ true → Has (type_of_name js e)
  pub known : m.label.kind ≡ kind.Var → (e : Name) → denoted p.names m.id m.label.text ≡ Some e → Known js e e.entity
  pub filled : m.label.kind ≡ kind.Str → fills (target p js m.id) ≡ true → may_fill fills_array outer ≡ true
  pub braced : m.label.kind ≡ kind.Braces → (t : CType) → target p js m.id ≡ Some t → HasParts p js m t
  pub initial : m.label.kind ≡ kind.InitDecl → IsInitial p js m
  pub returns : m.label.kind ≡ kind.Return → Has (type_at js (kid (function_around p m.id) 1))
  pub before : m.label.kind ≡ kind.Enumer → (i : ℕ) → index_in (parent_of p.nodes m.id).kids m.id ≡ suc i
      → Has (word_of_enumerator (judgement_at js (unwrap_or (slice_get (parent_of p.nodes m.id).kids i) 0)))

-- and of its kids and its parent
pub record Ready (cat : ℕ → Category) (p : Places) (js : List Judgement) (n : ℕ) (outer : SynKind) (m : Node) : Type 0 where
  pub kids : (i j : ℕ) → slice_get m.kids i ≡ Some j → KidHas cat p js m.label.kind j
  pub numbered : (i j : ℕ) → slice_get m.kids i ≡ Some j → (node_at p.nodes j).id ≡ j
  pub above : (parent_of p.nodes m.id).label.kind ≡ outer
  pub special : Special cat p js n outer m

-- ---- lists of kids

pub record At (cat : ℕ → Category) (ks : List ℕ) (i : ℕ) (test : Category → Bool) : Type 0 where
  pub place : ℕ
  pub is : slice_get ks i ≡ Some place
  pub passes : test (cat place) ≡ true

pub at_index : (cat : ℕ → Category) (ks : List ℕ) (i : ℕ) (test : Category → Bool) → test no_category ≡ false → test (get_or (map cat ks) i no_category) ≡ true → At cat ks i test
at_index cat [] i test e f = absurd (true≢false (sym f ∙ e))
at_index cat (k ∷ ks) zero test e f = record { place = k; is = refl; passes = f }
at_index cat (k ∷ ks) (suc i) test e f = let a = at_index cat ks i test e f in record { place = a.place; is = a.is; passes = a.passes }

all_kids : {A : Type 0} (cat : ℕ → Category) (p : Places) (js : List Judgement) (outer : SynKind) (test : Category → Bool) (f : ℕ → Option A)
    → ((j : ℕ) → test (cat j) ≡ true → KidHas cat p js outer j → Has (f j))
    → (ks : List ℕ) → ((i j : ℕ) → slice_get ks i ≡ Some j → KidHas cat p js outer j) → list_all test (map cat ks) ≡ true → AllThere (map f ks)
all_kids {A = A} cat p js outer test f h [] kids e = no_part
all_kids {A = A} cat p js outer test f h (k ∷ ks) kids e =
    let es = of.apart e in
    let a = h k es.0 (kids 0 k refl) in
    and_part a.value a.is (all_kids cat p js outer test f h ks (λ i j at. kids (suc i) j at) es.1)

rest_map : (cat : ℕ → Category) (ks : List ℕ) → map cat (drop 1 ks) ≡ rest (map cat ks)
rest_map cat [] = refl
rest_map cat (k ∷ ks) = refl

pub rest_at : (ks : List ℕ) (i j : ℕ) → slice_get (drop 1 ks) i ≡ Some j → slice_get ks (suc i) ≡ Some j
rest_at [] i j e = absurd (cc e)
rest_at (k ∷ ks) i j e = e

pub has_at : (ks : List ℕ) (i : ℕ) → is_some (slice_get ks i) ≡ true → slice_get ks i ≡ Some (unwrap_or (slice_get ks i) 0)
has_at ks i e = by (slice_get ks i) e
  where
    by : (o : Option ℕ) → is_some o ≡ true → o ≡ Some (unwrap_or o 0)
    by (Some j) e = refl
    by None e = no e

-- all kids pass: so does the one of this index
pub at_all : (cat : ℕ → Category) (test : Category → Bool) (ks : List ℕ) (i j : ℕ) → list_all test (map cat ks) ≡ true → slice_get ks i ≡ Some j → test (cat j) ≡ true
at_all cat test [] i j e at = absurd (cc at)
at_all cat test (k ∷ ks) zero j e at = same at
  where
    same : Some k ≡ Some j → test (cat j) ≡ true
    same h = let equal : k ≡ j = cc h in subst (λ (l : ℕ). test (cat l) ≡ true) equal (of.apart e).0
at_all cat test (k ∷ ks) (suc i) j e at = at_all cat test ks i j (of.apart e).1 at

-- ---- a node of this kind

module _ (cat : ℕ → Category) (p : Places) (js : List Judgement) (n : ℕ) (outer : SynKind) (m : Node) (r : Ready cat p js n outer m) (k : SynKind) (same : m.label.kind ≡ k) where
  below : List Category
  below = map cat m.kids

  pub kid_has : (i j : ℕ) → slice_get m.kids i ≡ Some j → KidHas cat p js k j
  kid_has i j at = subst (λ o. KidHas cat p js o j) same (r.kids i j at)

  pub at_kid : (P : ℕ → Type 0) (test : Category → Bool) (i : ℕ) → test no_category ≡ false → ((j : ℕ) → test (cat j) ≡ true → KidHas cat p js k j → P j)
      → test (get_or (map cat m.kids) i no_category) ≡ true → P (kid m i)
  at_kid P test i e f h =
      let a = at_index cat m.kids i test e h in
      subst (λ j. P j) (sym (ap (λ o. unwrap_or o 0) a.is)) (f a.place a.passes (kid_has i a.place a.is))

  pub kid_numbered : (test : Category → Bool) (i : ℕ) → test no_category ≡ false → test (get_or (map cat m.kids) i no_category) ≡ true → (node_at p.nodes (kid m i)).id ≡ kid m i
  kid_numbered test i e h =
      let a = at_index cat m.kids i test e h in
      subst (λ j. (node_at p.nodes j).id ≡ j) (sym (ap (λ o. unwrap_or o 0) a.is)) (r.numbered i a.place a.is)

  -- the typing of a kid that is an expression
  pub operand : holds_initial k ≡ false → (i : ℕ) → Operand (map cat m.kids) i → HasTyping (judgement_at js (kid m i))
  operand h i e = at_kid (λ j. HasTyping (judgement_at js j)) is_some_expression i refl (λ j t a. typed k (kind_at p.nodes j) (cat j) (judgement_at js j) t h a.form) e

  pub value : holds_initial k ≡ false → (i : ℕ) → Operand (map cat m.kids) i → Has (typing_at js (kid m i))
  value h i e = let x = operand h i e in record { value = x.typing; is = x.is }

  pub code : (i : ℕ) → Code (map cat m.kids) i → Has (code_at js (kid m i))
  code i e = at_kid (λ j. Has (code_at js j)) is_code i refl (λ j t a. performed k (kind_at p.nodes j) (cat j) (judgement_at js j) t a.form) e

  pub type : (i : ℕ) → has_type k no_category ≡ false → has_type k (get_or (map cat m.kids) i no_category) ≡ true → Has (type_at js (kid m i))
  type i e h = at_kid (λ j. Has (type_at js j)) (λ c. has_type k c) i e (λ j t a. has_its_type k (kind_at p.nodes j) (cat j) (judgement_at js j) t a.form) h

  pub inner_steps : not (is_declarator k) ≡ false → is_part (get_or (map cat m.kids) 0 no_category) ≡ true → Has (steps_at js (kid m 0))
  inner_steps w e = at_kid (λ j. Has (steps_at js j)) is_part 0 refl (λ j t a. has_steps k (kind_at p.nodes j) (cat j) (judgement_at js j) t w a.form) e

  -- what all kids, or all but the first, mean
  pub all_of_them : {A : Type 0} (test : Category → Bool) (f : ℕ → Option A) → ((j : ℕ) → test (cat j) ≡ true → KidHas cat p js k j → Has (f j))
      → list_all test (map cat m.kids) ≡ true → AllThere (map f m.kids)
  all_of_them {A = A} test f h e = all_kids cat p js k test f h m.kids kid_has e

  pub others : {A : Type 0} (test : Category → Bool) (f : ℕ → Option A) → ((j : ℕ) → test (cat j) ≡ true → KidHas cat p js k j → Has (f j))
      → list_all test (rest (map cat m.kids)) ≡ true → AllThere (map f (other_kids m))
  others {A = A} test f h e =
      all_kids cat p js k test f h (drop 1 m.kids) (λ i j at. kid_has (suc i) j (rest_at m.kids i j at)) (ap (λ cs. list_all test cs) (rest_map cat m.kids) ∙ e)
