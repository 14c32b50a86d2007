-- What braces and strings initialize: it stays the same while more nodes are judged.
use Rattle.std.proofs.Common.{◌≡◌, ℕ, zero, suc, ◌+◌, ◌≤◌, Bool, true, false, List, [], ◌∷◌, ◌++◌, Option, Some, None, refl, ap, ◌∙◌, subst, arith}
use Rattle.std.specs.Prelude.{slice_get, take, find, ◌==◌, if◌then◌else◌, option_map, option_and_then}
use Rattle.c_syntax.specs.declared.kind.SynKind.{SynKind}
use Rattle.c_syntax.specs.declared.kind.SynKind.TheVariants as kind
use Rattle.c_typing.specs.Types.{CType, array, unsized, struct, Field, Layout, layout_of}
use Rattle.c_typing.specs.Places.{Node, kid, parent_of, index_in}
use Rattle.c_typing.specs.Names.{Places, Name}
use Rattle.c_typing.specs.Judgements.{Meaning, a_struct, means, breaks_rules, waits, Judgement, layouts, type_at}
use Rattle.c_typing.specs.Initializers.{is_text_alone, part_type, part_of, declared_object, target_by, target_within}

pub layouts_front : (js rest : List Judgement) → layouts (js ++ rest) ≡ layouts js ++ layouts rest
layouts_front [] rest = refl
layouts_front (means m ∷ js) rest = by m (layouts_front js rest)
  where
    by : (m : Meaning) → layouts (js ++ rest) ≡ layouts js ++ layouts rest → layouts (means m ∷ (js ++ rest)) ≡ layouts (means m ∷ js) ++ layouts rest
    by (a_struct l) e = ap (λ ls. l ∷ ls) e
    by _ e = e
layouts_front (breaks_rules f fs ∷ js) rest = layouts_front js rest
layouts_front (waits ∷ js) rest = layouts_front js rest

pub found_front : (test : Layout → Bool) (xs ys : List Layout) (l : Layout) → find test xs ≡ Some l → find test (xs ++ ys) ≡ Some l
found_front test [] ys l e = absurd (cc e)
found_front test (x ∷ xs) ys l e = by (test x) e (found_front test xs ys l)
  where
    by : (b : Bool) → (if b then Some x else find test xs) ≡ Some l → (find test xs ≡ Some l → find test (xs ++ ys) ≡ Some l) → (if b then Some x else find test (xs ++ ys)) ≡ Some l
    by true e f = e
    by false e f = f e

pub judged_front : (js rest : List Judgement) (n : ℕ) (t : CType) → type_at js n ≡ Some t → type_at (js ++ rest) n ≡ Some t
judged_front [] rest n t e = absurd (cc e)
judged_front (j ∷ js) rest zero t e = e
judged_front (j ∷ js) rest (suc n) t e = judged_front js rest n t e

-- a part that an object has it keeps
part_front : (p : Places) (b : Node) (i : ℕ) (xs ys : List Layout) (t u : CType) → part_of p xs b i t ≡ Some u → part_of p (xs ++ ys) b i t ≡ Some u
part_front p b i xs ys t u e = by (is_text_alone p t b) e
  where
    in_struct : (k : ℕ) (o q : Option Layout) → ((l : Layout) → o ≡ Some l → q ≡ Some l)
        → option_and_then (λ (l : Layout). option_map (λ (f : Field). f.type) (slice_get l.fields i)) o ≡ Some u
        → option_and_then (λ (l : Layout). option_map (λ (f : Field). f.type) (slice_get l.fields i)) q ≡ Some u
    in_struct k None q h e = absurd (cc e)
    in_struct k (Some l) q h e = ap (λ o. option_and_then (λ (l : Layout). option_map (λ (f : Field). f.type) (slice_get l.fields i)) o) (h l refl) ∙ e

    of_type : (t : CType) → part_type xs t i ≡ Some u → part_type (xs ++ ys) t i ≡ Some u
    of_type (struct k) e = in_struct k (layout_of xs k) (layout_of (xs ++ ys) k) (λ l f. found_front (λ l. l.number == k) xs ys l f) e
    of_type (array t n) e = e
    of_type (unsized t) e = e
    of_type _ e = e

    by : (b : Bool) → (if b then Some t else part_type xs t i) ≡ Some u → (if b then Some t else part_type (xs ++ ys) t i) ≡ Some u
    by true e = e
    by false e = of_type t e

module _ (p : Places) (js rest : List Judgement) where
  by_kind : (outer : Node) (n : ℕ) (above over : Option CType) (t : CType) (k : SynKind) → ((v : CType) → above ≡ Some v → over ≡ Some v)
      → target_by p js outer n above k ≡ Some t → target_by p (js ++ rest) outer n over k ≡ Some t
  by_kind outer n above over t kind.InitDecl h e = declared (kid outer 0 == n) (declared_object p outer) e
    where
      declared : (b : Bool) (o : Option Name) → (if b then None else option_and_then (λ (e : Name). type_at js (kid outer 0)) o) ≡ Some t
          → (if b then None else option_and_then (λ (e : Name). type_at (js ++ rest) (kid outer 0)) o) ≡ Some t
      declared true o e = absurd (cc e)
      declared false None e = absurd (cc e)
      declared false (Some x) e = judged_front js rest (kid outer 0) t e
  by_kind outer n above over t kind.Braces h e = part above h e
    where
      part : (o : Option CType) → ((v : CType) → o ≡ Some v → over ≡ Some v) → option_and_then (part_of p (layouts js) outer (index_in outer.kids n)) o ≡ Some t
          → option_and_then (part_of p (layouts (js ++ rest)) outer (index_in outer.kids n)) over ≡ Some t
      part None h e = absurd (cc e)
      part (Some v) h e =
          ap (λ o. option_and_then (part_of p (layouts (js ++ rest)) outer (index_in outer.kids n)) o) (h v refl)
          ∙ (ap (λ ls. part_of p ls outer (index_in outer.kids n) v) (layouts_front js rest) ∙ part_front p outer (index_in outer.kids n) (layouts js) (layouts rest) v t e)
  by_kind outer n above over t _ h e = absurd (cc e)

  pub within_later : (d more n : ℕ) (t : CType) → target_within p js d n ≡ Some t → target_within p (js ++ rest) (d + more) n ≡ Some t
  within_later zero more n t e = absurd (cc e)
  within_later (suc d) more n t e =
      let fuel : suc (d + more) ≡ suc d + more = omega arith in
      subst (λ k. target_within p (js ++ rest) k n ≡ Some t) fuel
      (by_kind (parent_of p.nodes n) n (target_within p js d (parent_of p.nodes n).id) (target_within p (js ++ rest) (d + more) (parent_of p.nodes n).id) t (parent_of p.nodes n).label.kind
      (λ v h. within_later d more (parent_of p.nodes n).id v h) e)

pub take_split : (js : List Judgement) (a b : ℕ) → a ≤ b → (rest : List Judgement) × (take b js ≡ take a js ++ rest)
take_split js zero b le = (take b js, take_none b js)
  where
    take_none : (b : ℕ) (js : List Judgement) → take b js ≡ take 0 js ++ take b js
    take_none b [] = refl
    take_none b (j ∷ js) = refl
take_split js (suc a) zero le = absurd (omega (arith, le))
take_split [] (suc a) (suc b) le = ([], refl)
take_split (j ∷ js) (suc a) (suc b) le = let r = take_split js a b (omega (arith, le)) in (r.0, ap (λ ks. j ∷ ks) r.1)

-- what something initializes it initializes later too
pub target_later : (p : Places) (js : List Judgement) (a b d more n : ℕ) (t : CType) → a ≤ b → target_within p (take a js) d n ≡ Some t → target_within p (take b js) (d + more) n ≡ Some t
target_later p js a b d more n t le e =
    let r = take_split js a b le in
    ap (λ ks. target_within p ks (d + more) n) r.1 ∙ within_later p (take a js) r.0 d more n t e

-- and so do its parts
pub parts_later : (p : Places) (js : List Judgement) (a b i : ℕ) (node : Node) (t u : CType) → a ≤ b → part_of p (layouts (take a js)) node i t ≡ Some u → part_of p (layouts (take b js)) node i t ≡ Some u
parts_later p js a b i node t u le e =
    let r = take_split js a b le in
    ap (λ ks. part_of p (layouts ks) node i t) r.1
    ∙ (ap (λ ls. part_of p ls node i t) (layouts_front (take a js) r.0) ∙ part_front p node i (layouts (take a js)) (layouts r.0) t u e)

pub typed_later : (js : List Judgement) (a b n : ℕ) (t : CType) → a ≤ b → type_at (take a js) n ≡ Some t → type_at (take b js) n ≡ Some t
typed_later js a b n t le e =
    let r = take_split js a b le in
    ap (λ ks. type_at ks n) r.1 ∙ judged_front (take a js) r.0 n t e
