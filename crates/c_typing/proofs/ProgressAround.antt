-- The function around a statement: there is one, and it is found.
use Rattle.std.proofs.Common.{◌≡◌, ℕ, zero, suc, ◌+◌, ◌<◌, ◌≤◌, Bool, true, false, List, [], ◌∷◌, length, map, Some, refl, sym, ap, ap₂, ◌∙◌, ◌-◌, subst, arith, true≢false, ◌⊎◌, inl, inr}
use Rattle.std.specs.Prelude.{slice_get, get_or, unwrap_or, take, find, filter, nat_le, if◌then◌else◌}
use Rattle.std.proofs.lemmas.Bool.Decides.{nat_tests}
use Rattle.c_syntax.specs.declared.kind.SynKind.{SynKind}
use Rattle.c_syntax.specs.declared.kind.SynKind.TheVariants as kind
use Rattle.c_typing.specs.Places.{Node, nowhere, kind_at, kid, holds, is_function}
use Rattle.c_typing.specs.Names.{Places, function_around}
use Rattle.c_typing.specs.Judgements.{judgement_at, type_of, type_at}
use Rattle.c_typing.specs.Typing.{judgements_at}
use Rattle.c_typing.specs.Shapes as category
use Rattle.c_typing.specs.Shapes.{Category, no_category, category_by, kids_fit, stands_in, holds_statements}
use Rattle.c_typing.proofs.ProgressBase.{earlier_at}
use Rattle.c_typing.proofs.ProgressForms.{Has, has_type, has_its_type, split}
use Rattle.c_typing.proofs.ProgressKinds as of
use Rattle.c_typing.proofs.ProgressStep.{at_index}
use Rattle.c_typing.proofs.ProgressAll.{Meant, found_at, by_number}
use Rattle.c_typing.proofs.ProgressPlaces.{Linked, AreLinked, kids_apart, parent_above, first_low, stands, get_or_at, some_same, compare, within}
use Rattle.c_typing.proofs.ProgressKids.{kid_of}
use Rattle.c_typing.proofs.ShapesBase.{both}

no : {A : Type 0} → false ≡ true → A
no e = absurd (true≢false (sym e))

-- a statement
abbrev pub is_body : Category → Bool
is_body category.block = true
is_body category.empty = true
is_body category.statement = true
is_body c = false

function_or : (k : SynKind) → (k ≡ kind.Function) ⊎ (is_function k ≡ false)
function_or kind.Function = inl refl
function_or _ = inr refl

holds_body : (c : Category) (k : SynKind) → is_body c ≡ true → is_function k ≡ false → stands_in c k ≡ true → holds_statements k ≡ true
unfolding stands_in
holds_body category.block kind.Function e i s = absurd (true≢false i)
holds_body category.block _ e i s = s
holds_body category.empty k e i s = s
holds_body category.statement k e i s = s
holds_body _ k e i s = no e

body_by : (k : SynKind) (text : List ℕ) (cs : List Category) → holds_statements k ≡ true → is_body (category_by k text cs) ≡ true
unfolding category_by
body_by kind.Block text cs e = refl
body_by kind.If text cs e = refl
body_by kind.While text cs e = refl
body_by kind.Do text cs e = refl
body_by kind.For text cs e = refl
body_by kind.Switch text cs e = refl
body_by _ text cs e = no e

only_unit : (k : SynKind) → stands_in category.function k ≡ true → k ≡ kind.Unit
unfolding stands_in
only_unit kind.Unit e = refl
only_unit _ e = no e

-- the function f, at the place, has the node m, at the place n, in its block
pub record InBody (ns : List Node) (n : ℕ) (m : Node) : Type 0 where
  pub place : ℕ
  pub node : Node
  pub at : slice_get ns place ≡ Some node
  pub is : node.label.kind ≡ kind.Function
  pub behind : kid node 1 < m.first
  pub from : node.first ≤ m.first
  pub to : n ≤ place

module _ (cat : ℕ → Category) (ns : List Node) (l : AreLinked cat ns) where
  not_function : (c : Category) → is_body c ≡ true → (c ≡ category.specifiers → ⊥) × (c ≡ category.declarator → ⊥)
  not_function c e = ((λ h. no (sym (ap is_body h) ∙ e)), (λ h. no (sym (ap is_body h) ∙ e)))

  in_function : (n : ℕ) (m : Node) → slice_get ns n ≡ Some m → is_body (cat n) ≡ true → (q : Linked ns n m) → q.parent.label.kind ≡ kind.Function → InBody ns n m
  in_function n m e body q same =
      let tile = l.shapes.tiled m.parent q.parent q.at in
      let shape = l.shapes.shaped m.parent q.parent q.at in
      let fit = of.of_function q.parent.label.text (map cat q.parent.kids) (ap (λ k. kids_fit k q.parent.label.text (map cat q.parent.kids)) (sym same) ∙ shape.kids) in
      let a = at_index cat q.parent.kids 1 (λ c. of.is_declarator_only c) refl (ap of.is_declarator_only fit.1) in
      let second : kid q.parent 1 ≡ a.place = ap (λ o. unwrap_or o 0) a.is in
      let other = not_function (cat n) body in
      let late : 1 < q.index = index q.index q.among (λ h. other.0 (sym h ∙ fit.0)) (λ h. other.1 (sym h ∙ fit.1)) in
      let apart = kids_apart ns q.parent.first m.parent m.parent q.parent.kids 1 q.index a.place n m tile.kids late a.is q.among e in
      let up = parent_above cat ns l n m e q in
      let under = up.1 in
      let over = up.0 in
      record {
        place = m.parent;
        node = q.parent;
        at = q.at;
        is = same;
        behind = subst (λ k. k < m.first) (sym second) apart;
        from = under;
        to = omega (arith, over);
      }
    where
      index : (i : ℕ) → slice_get q.parent.kids i ≡ Some n → (get_or (map cat q.parent.kids) 0 no_category ≡ cat n → ⊥) → (get_or (map cat q.parent.kids) 1 no_category ≡ cat n → ⊥) → 1 < i
      index zero at f g = absurd (f (get_or_at cat ns l q.parent.kids 0 n at))
      index (suc zero) at f g = absurd (g (get_or_at cat ns l q.parent.kids 1 n at))
      index (suc (suc i)) at f g = omega arith

  pub climb : (d n : ℕ) (m : Node) → n + d ≡ length ns → slice_get ns n ≡ Some m → is_body (cat n) ≡ true → InBody ns n m
  climb d = by_number (λ d. (n : ℕ) (m : Node) → n + d ≡ length ns → slice_get ns n ≡ Some m → is_body (cat n) ≡ true → InBody ns n m) step d
    where
      step : (d : ℕ) → ((j : ℕ) → j < d → (n : ℕ) (m : Node) → n + j ≡ length ns → slice_get ns n ≡ Some m → is_body (cat n) ≡ true → InBody ns n m)
          → (n : ℕ) (m : Node) → n + d ≡ length ns → slice_get ns n ≡ Some m → is_body (cat n) ≡ true → InBody ns n m
      step d f n m sum e body = by (l.linked n m e)
        where
          by : (suc n ≡ length ns) ⊎ Linked ns n m → InBody ns n m
          by (inl last) = no (sym (ap is_body (l.root n m e last)) ∙ body)
          by (inr q) = cases q (function_or q.parent.label.kind)
            where
              cases : (q : Linked ns n m) → (q.parent.label.kind ≡ kind.Function) ⊎ (is_function q.parent.label.kind ≡ false) → InBody ns n m
              cases q (inl same) = in_function n m e body q same
              cases q (inr other) =
                  let shape = l.shapes.shaped m.parent q.parent q.at in
                  let holds = holds_body (cat n) q.parent.label.kind body other (stands cat ns l n m q) in
                  let outer = ap is_body shape.category ∙ body_by q.parent.label.kind q.parent.label.text (map cat q.parent.kids) holds in
                  let up = parent_above cat ns l n m e q in
                  let over = up.0 in
                  let under = up.1 in
                  let here = within ns m.parent q.parent q.at in
                  let r = f (length ns - m.parent) (omega (arith, over, here, sum)) m.parent q.parent (omega (arith, here)) q.at outer in
                  let behind = r.behind in
                  let from = r.from in
                  let to = r.to in
                  record { place = r.place; node = r.node; at = r.at; is = r.is; behind = omega (arith, behind, under); from = omega (arith, from, under); to = omega (arith, to, over) }

  -- ---- there is one function around a node

  pub unit_last : (n : ℕ) (m : Node) → slice_get ns n ≡ Some m → m.label.kind ≡ kind.Unit → suc n ≡ length ns
  unfolding category_by stands_in
  unit_last n m e same = by (l.linked n m e)
    where
      own : cat n ≡ category.unit
      own = (l.shapes.shaped n m e).category ∙ ap (λ k. category_by k m.label.text (map cat m.kids)) same

      by : (suc n ≡ length ns) ⊎ Linked ns n m → suc n ≡ length ns
      by (inl last) = last
      by (inr q) = no (ap (λ c. stands_in c q.parent.label.kind) (sym own) ∙ stands cat ns l n m q)

  -- a function is a kid of the root
  record OfRoot (n : ℕ) (m : Node) : Type 0 where
    link : Linked ns n m
    last : suc m.parent ≡ length ns

  of_root : (n : ℕ) (m : Node) → slice_get ns n ≡ Some m → m.label.kind ≡ kind.Function → OfRoot n m
  unfolding category_by
  of_root n m e same = by (l.linked n m e)
    where
      own : cat n ≡ category.function
      own = (l.shapes.shaped n m e).category ∙ ap (λ k. category_by k m.label.text (map cat m.kids)) same

      by : (suc n ≡ length ns) ⊎ Linked ns n m → OfRoot n m
      by (inl last) = absurd (unit_or own (l.root n m e last))
        where
          unit_or : cat n ≡ category.function → cat n ≡ category.unit → ⊥
          unit_or f u = true≢false (ap of.is_unit_only (sym u ∙ f))
      by (inr q) =
          let k = only_unit q.parent.label.kind (ap (λ c. stands_in c q.parent.label.kind) (sym own) ∙ stands cat ns l n m q) in
          record { link = q; last = unit_last m.parent q.parent q.at k }

  -- two functions that hold a node are one
  pub one_function : (a b n : ℕ) (f g : Node) → slice_get ns a ≡ Some f → slice_get ns b ≡ Some g → f.label.kind ≡ kind.Function → g.label.kind ≡ kind.Function
      → f.first ≤ n → n ≤ a → g.first ≤ n → n ≤ b → a ≡ b
  one_function a b n f g fe ge fk gk f0 f1 g0 g1 =
      let x = of_root a f fe fk in
      let y = of_root b g ge gk in
      let last = x.last in
      let same_last = y.last in
      let parents : g.parent ≡ f.parent = omega (arith, last, same_last) in
      let root : y.link.parent ≡ x.link.parent = some_same (sym y.link.at ∙ (ap (λ k. slice_get ns k) parents ∙ x.link.at)) in
      let tile = l.shapes.tiled f.parent x.link.parent x.link.at in
      let other : slice_get x.link.parent.kids y.link.index ≡ Some b = ap (λ (r : Node). slice_get r.kids y.link.index) (sym root) ∙ y.link.among in
      by x.link.parent.kids x.link.index y.link.index x.link.among other
      (λ lt. kids_apart ns x.link.parent.first f.parent f.parent x.link.parent.kids x.link.index y.link.index a b g tile.kids lt x.link.among other ge)
      (λ lt. kids_apart ns x.link.parent.first f.parent f.parent x.link.parent.kids y.link.index x.link.index b a f tile.kids lt other x.link.among fe)
      (compare x.link.index y.link.index) (compare y.link.index x.link.index)
    where
      by : (ks : List ℕ) (i j : ℕ) → slice_get ks i ≡ Some a → slice_get ks j ≡ Some b → (i < j → a < g.first) → (j < i → b < f.first) → (i < j) ⊎ (j ≤ i) → (j < i) ⊎ (i ≤ j) → a ≡ b
      by ks i j at bt h k (inl lt) c = let apart = h lt in absurd (omega (arith, apart, f1, g0))
      by ks i j at bt h k (inr le) (inl lt) = let apart = k lt in absurd (omega (arith, apart, g1, f0))
      by ks i j at bt h k (inr le) (inr ge) = let same : i ≡ j = omega (arith, le, ge) in some_same (sym at ∙ (ap (λ x. slice_get ks x) same ∙ bt))

-- ---- it is found

pub record Found (ns : List Node) (g test : Node → Bool) : Type 0 where
  pub node : Node
  pub is : find test (filter g ns) ≡ Some node
  pub place : ℕ
  pub at : slice_get ns place ≡ Some node
  pub chosen : g node ≡ true
  pub passes : test node ≡ true

pub found_in : (ns : List Node) (g test : Node → Bool) (k : ℕ) (f : Node) → slice_get ns k ≡ Some f → g f ≡ true → test f ≡ true → Found ns g test
found_in [] g test k f e h i = absurd (cc e)
found_in (x ∷ ns) g test k f e h i = by (g x) (test x) refl refl k e (λ j at. found_in ns g test j f at h i)
  where
    later : (b c : Bool) → (b ≡ false) ⊎ (c ≡ false) → g x ≡ b → test x ≡ c → Found ns g test → Found (x ∷ ns) g test
    later b c no_x gb tc r = record { node = r.node; is = skip b c no_x gb tc ∙ r.is; place = suc r.place; at = r.at; chosen = r.chosen; passes = r.passes }
      where
        skip : (b c : Bool) → (b ≡ false) ⊎ (c ≡ false) → g x ≡ b → test x ≡ c → find test (filter g (x ∷ ns)) ≡ find test (filter g ns)
        skip false c n gb tc = ap (λ q. find test (if q then x ∷ filter g ns else filter g ns)) gb
        skip true false n gb tc = ap (λ q. find test (if q then x ∷ filter g ns else filter g ns)) gb ∙ ap (λ q. if q then Some x else find test (filter g ns)) tc
        skip true true (inl n) gb tc = absurd (true≢false n)
        skip true true (inr n) gb tc = absurd (true≢false n)

    by : (b c : Bool) → g x ≡ b → test x ≡ c → (k : ℕ) → slice_get (x ∷ ns) k ≡ Some f → ((j : ℕ) → slice_get ns j ≡ Some f → Found ns g test) → Found (x ∷ ns) g test
    by true true gb tc k e r = record {
      node = x;
      is = ap (λ q. find test (if q then x ∷ filter g ns else filter g ns)) gb ∙ ap (λ q. if q then Some x else find test (filter g ns)) tc;
      place = 0;
      at = refl;
      chosen = gb;
      passes = tc;
    }
    by true false gb tc zero e r = let same : x ≡ f = some_same e in absurd (true≢false (sym i ∙ (ap test (sym same) ∙ tc)))
    by false c gb tc zero e r = let same : x ≡ f = some_same e in absurd (true≢false (sym h ∙ (ap g (sym same) ∙ gb)))
    by true false gb tc (suc k) e r = later true false (inr refl) gb tc (r k e)
    by false c gb tc (suc k) e r = later false c (inl refl) gb tc (r k e)

function_is : (k : SynKind) → is_function k ≡ true → k ≡ kind.Function
function_is kind.Function e = refl
function_is _ e = no e

pub le_true : (a b : ℕ) → a ≤ b → nat_le a b ≡ true
le_true a b le = grind (arith, nat_tests, le)

le_from : (a b : ℕ) → nat_le a b ≡ true → a ≤ b
le_from a b e = grind (arith, nat_tests, e)

-- the function around a statement is found, and its declarator stands before the statement
pub record IsAround (ns : List Node) (fs : List Node) (n : ℕ) : Type 0 where
  pub node : Node
  pub is : find (λ f. holds f n) fs ≡ Some node
  pub place : ℕ
  pub at : slice_get ns place ≡ Some node
  pub function : node.label.kind ≡ kind.Function
  pub less : kid node 1 < n

module _ (cat : ℕ → Category) (ns : List Node) (l : AreLinked cat ns) where
  pub around_statement : (n : ℕ) (m : Node) → slice_get ns n ≡ Some m → is_body (cat n) ≡ true → IsAround ns (filter (λ node. is_function node.label.kind) ns) n
  around_statement n m e body =
      let w = within ns n m e in
      let r = climb cat ns l (length ns - n) n m (omega (arith, w)) e body in
      let low = first_low cat ns l n m e in
      let from = r.from in
      let to = r.to in
      let id = (l.shapes.tiled r.place r.node r.at).numbered in
      let f0 : r.node.first ≤ n = omega (arith, from, low) in
      let found = found_in ns (λ node. is_function node.label.kind) (λ f. holds f n) r.place r.node r.at (ap is_function r.is)
      (both (le_true r.node.first n f0) (le_true n r.node.id (omega (arith, id, to)))) in
      let holds = split {p = nat_le found.node.first n} {q = nat_le n found.node.id} found.passes in
      let fid = (l.shapes.tiled found.place found.node found.at).numbered in
      let g0 = le_from found.node.first n holds.0 in
      let g1 = le_from n found.node.id holds.1 in
      let fk = function_is found.node.label.kind found.chosen in
      let same = one_function cat ns l r.place found.place n r.node found.node r.at found.at r.is fk f0 to g0 (omega (arith, g1, fid)) in
      let node : r.node ≡ found.node = some_same (sym r.at ∙ (ap (λ k. slice_get ns k) same ∙ found.at)) in
      let behind = subst (λ (x : Node). kid x 1 < m.first) node r.behind in
      record { node = found.node; is = found.is; place = found.place; at = found.at; function = fk; less = omega (arith, behind, low) }

module _ (cat : ℕ → Category) (p : Places) (l : AreLinked cat p.nodes) (fs : p.functions ≡ filter (λ node. is_function node.label.kind) p.nodes) where
  -- the function around a statement has a type
  pub function_typed : (n : ℕ) (m : Node) → slice_get p.nodes n ≡ Some m → ((k : ℕ) → k < n → Meant cat p k) → is_body (cat n) ≡ true
      → Has (type_at (take n (judgements_at p)) (kid (function_around p m.id) 1))
  function_typed n m e before body =
      let a = around_statement cat p.nodes l n m e body in
      let around : function_around p m.id ≡ a.node =
      ap₂ (λ (gs : List Node) (k : ℕ). unwrap_or (find (λ f. holds f k) gs) nowhere) fs (l.shapes.tiled n m e).numbered ∙ ap (λ o. unwrap_or o nowhere) a.is in
      let shape = l.shapes.shaped a.place a.node a.at in
      let fit = of.of_function a.node.label.text (map cat a.node.kids) (ap (λ k. kids_fit k a.node.label.text (map cat a.node.kids)) (sym a.function) ∙ shape.kids) in
      let i = at_index cat a.node.kids 1 (λ c. of.is_declarator_only c) refl (ap of.is_declarator_only fit.1) in
      let second : kid a.node 1 ≡ i.place = ap (λ o. unwrap_or o 0) i.is in
      let k = kid_of p.nodes a.node.first a.place a.node.kids 1 i.place (l.shapes.tiled a.place a.node a.at).kids i.is in
      let less = a.less in
      let lt : i.place < n = omega (arith, less, second) in
      let meant = before i.place lt k.node k.at in
      let outer : kind_at p.nodes k.node.parent ≡ kind.Function =
      ap (λ o. kind_at p.nodes o) k.below ∙ (ap (λ (q : Node). q.label.kind) (found_at p.nodes a.place a.node a.at) ∙ a.function) in
      let c = of.only_declarator (cat i.place) i.passes in
      let t = has_its_type (kind_at p.nodes k.node.parent) k.node.label.kind (cat i.place) (judgement_at (judgements_at p) i.place) (ap₂ has_type outer c) meant in
      let here = ap (λ (x : Node). kid x 1) around ∙ second in
      record { value = t.value; is = ap (λ j. type_at (take n (judgements_at p)) j) here ∙ (ap type_of (earlier_at (judgements_at p) n i.place lt) ∙ t.is) }
