-- One typing: a derived tree is typed as one unit, or breaks a rule at one of its nodes, or has a size above the limit there.
use Rattle.std.proofs.Common.{◌≡◌, ℕ, suc, ◌+◌, ◌<◌, ◌≤◌, Bool, true, false, not, ◌&&◌, List, [], ◌∷◌, ◌++◌, length, map, Option, Some, None, refl, sym, subst, arith, ◌⊎◌, inl, inr}
use Rattle.std.specs.Prelude.{slice_get, unwrap_or, if◌then◌else◌, find, filter, flat_map, zip, ◌==◌, Contains}
use Rattle.std.proofs.lemmas.Bool.Decides.{nat_tests}
use Rattle.c_lexer.specs.declared.token.Token.{Token}
use Rattle.c_syntax.specs.declared.kind.SynKind.{SynKind}
use Rattle.c_syntax.specs.declared.kind.SynKind.TheVariants as kind
use Rattle.c_syntax.specs.Trees.{Tree, one}
use Rattle.c_syntax.specs.Tables.{size}
use Rattle.c_grammar.specs.Derivation.{IsTreeOf}
use Rattle.c_types.specs.declared.kind.Measure.{Measure}
use Rattle.c_types.specs.InOrder.{offsets}
use Rattle.c_types.specs.Placing.{measures_of}
use Rattle.c_typing.specs.Places.{Node, nowhere, nodes, is_step}
use Rattle.c_typing.specs.Names.{Places, places, Name, denoted, objects_of, is_defined_object, earlier, is_static}
use Rattle.c_typing.specs.Judgements.{Fault, rule, too_big, Judgement, faults_of}
use Rattle.c_typing.specs.Expressions.{is_literal}
use Rattle.c_typing.specs.Rules.{size_fault}
use Rattle.c_typing.specs.Typing.{judgements_at, use_faults, is_there, place_faults_by, place_faults, data_nodes, data_of, literals_of, end_faults, data_faults, faults, unit_of}
use Rattle.c_typing.specs.Meant.{IsBroken, IsTooBig, HasOneUnit}
use Rattle.c_typing.specs.ShapesOfNodes.{category_at}
use Rattle.c_typing.proofs.ShapesNodes as by_place
use Rattle.c_typing.proofs.ProgressPlaces.{AreLinked, are_linked, within, some_same}
use Rattle.c_typing.proofs.ProgressKids.{kid_of}
use Rattle.c_typing.proofs.ProgressDeclared.{AllNames, Stands, all_names_stand, all_filter}
use Rattle.c_typing.proofs.BoundsBase.{Proper, AllProper, both_in, rule_in, size_in, waits_in}
use Rattle.c_typing.proofs.BoundsKinds.{NodeIn, PlacesIn, AllNodes, judged_in, faults_in_bounds}

-- ---- lists

all_nodes : (P : Node → Type 0) (ns : List Node) → ((k : ℕ) (m : Node) → slice_get ns k ≡ Some m → P m) → AllNodes P ns
all_nodes P [] f = tt
all_nodes P (m ∷ ns) f = (f 0 m refl, all_nodes P ns (λ k x e. f (suc k) x e))

found_name : (P : Name → Type 0) (test : Name → Bool) (es : List Name) (e : Name) → AllNames P es → find test es ≡ Some e → P e
found_name P test [] e h f = absurd (cc f)
found_name P test (x ∷ es) e h f = by (test x) f (found_name P test es e h.1)
  where
    by : (b : Bool) → (if b then Some x else find test es) ≡ Some e → (find test es ≡ Some e → P e) → P e
    by true f g = subst (λ (y : Name). P y) (some_same f) h.0
    by false f g = g f

found_node : (P : Node → Type 0) (test : Node → Bool) (ns : List Node) → AllNodes P ns → P nowhere → P (unwrap_or (find test ns) nowhere)
found_node P test [] h n = n
found_node P test (x ∷ ns) h n = by (test x) (found_node P test ns h.1 n)
  where
    by : (b : Bool) → P (unwrap_or (find test ns) nowhere) → P (unwrap_or (if b then Some x else find test ns) nowhere)
    by true r = h.0
    by false r = r

abbrev AllBelow : ℕ → List ℕ → Type 0
AllBelow N [] = Unit {0}
AllBelow N (n ∷ ns) = (n < N) × AllBelow N ns

below_front : (N : ℕ) (xs ys : List ℕ) → AllBelow N xs → AllBelow N ys → AllBelow N (xs ++ ys)
below_front N [] ys h k = k
below_front N (x ∷ xs) ys h k = (h.0, below_front N xs ys h.1 k)

names_below : (N : ℕ) (es : List Name) → AllNames (λ e. e.behind < N) es → AllBelow N (map (λ (e : Name). e.behind) es)
names_below N [] h = tt
names_below N (e ∷ es) h = (h.0, names_below N es h.1)

all_first : (P Q : Name → Type 0) (es : List Name) → ((e : Name) → P e → Q e) → AllNames P es → AllNames Q es
all_first P Q [] f h = tt
all_first P Q (e ∷ es) f h = (f e h.0, all_first P Q es f h.1)

literals_below : (N : ℕ) (ns : List Node) (js : List Judgement) → AllNodes (NodeIn N) ns → AllBelow N (map (λ (n : Node). n.id) (map (λ q. q.0) (filter is_literal (zip ns js))))
literals_below N [] js h = tt
literals_below N (n ∷ ns) [] h = tt
literals_below N (n ∷ ns) (j ∷ js) h = by (is_literal (n, j)) (literals_below N ns js h.1)
  where
    by : (b : Bool) → AllBelow N (map (λ (n : Node). n.id) (map (λ q. q.0) (filter is_literal (zip ns js))))
        → AllBelow N (map (λ (n : Node). n.id) (map (λ q. q.0) (if b then (n, j) ∷ filter is_literal (zip ns js) else filter is_literal (zip ns js))))
    by true r = (h.0.own, r)
    by false r = r

ends_in : (N : ℕ) (ats : List ℕ) (ms : List Measure) (ns : List ℕ) → AllBelow N ns → AllProper N (end_faults ats ms ns)
ends_in N [] ms ns h = tt
ends_in N (a ∷ ats) [] ns h = tt
ends_in N (a ∷ ats) (m ∷ ms) [] h = tt
ends_in N (a ∷ ats) (m ∷ ms) (n ∷ ns) h = both_in N (size_fault (a + m.size) n) (end_faults ats ms ns) (size_in N (a + m.size) n h.0) (ends_in N ats ms ns h.1)

by_list : (N : ℕ) (fs gs : List Fault) → AllProper N fs → AllProper N gs → AllProper N (elim fs as (λ x. List Fault) [ [] ↦ gs | ◌∷◌ f rest ↦ f ∷ rest ])
by_list N [] gs h k = k
by_list N (f ∷ fs) gs h k = h

-- ---- a derived tree

module _ (tokens : List Token) (t : Tree) (derived : IsTreeOf tokens t) where
  N : ℕ
  N = length (nodes t)

  l : AreLinked (category_at t) (nodes t)
  l = are_linked tokens t derived

  node_in : (n : ℕ) (m : Node) → slice_get (nodes t) n ≡ Some m → NodeIn (length (nodes t)) m
  node_in n m e = record { own = own; kids = λ i. by i (slice_get m.kids i) refl; listed = λ i k at. below i k at }
    where
      here : suc n ≤ length (nodes t)
      here = within (nodes t) n m e

      own : m.id < length (nodes t)
      own = let id = (l.shapes.tiled n m e).numbered in let h = here in omega (arith, id, h)

      below : (i k : ℕ) → slice_get m.kids i ≡ Some k → k < length (nodes t)
      below i k at = let q = (kid_of (nodes t) m.first n m.kids i k (l.shapes.tiled n m e).kids at).less in let h = here in omega (arith, q, h)

      by : (i : ℕ) (o : Option ℕ) → slice_get m.kids i ≡ o → unwrap_or o 0 < length (nodes t)
      by i None same = let h = here in omega (arith, h)
      by i (Some k) same = below i k same

  all_in_tree : AllNodes (NodeIn (length (nodes t))) (nodes t)
  all_in_tree = all_nodes (NodeIn (length (nodes t))) (nodes t) node_in

  some_node : 0 < length (nodes t)
  some_node = let long = by_place.length-nodes 0 (size (one t)) (one t) in omega (arith, long)

  stands : AllNames (Stands (category_at t) (nodes t)) (places t).names
  stands = all_names_stand (category_at t) (nodes t) l (places t).scopes

  node_below : (e : Name) → Stands (category_at t) (nodes t) e → e.node < length (nodes t)
  node_below e (inl en) = let h = within (nodes t) e.node en.node en.at in omega (arith, h)
  node_below e (inr de) = let h = within (nodes t) e.node de.node de.at in omega (arith, h)

  behind_below : (e : Name) → Stands (category_at t) (nodes t) e → e.behind < length (nodes t)
  behind_below e (inl en) = let h = within (nodes t) e.node en.node en.at in let same = en.behind in omega (arith, h, same)
  behind_below e (inr de) = let h = within (nodes t) e.behind de.whole.node de.whole.at in omega (arith, h)

  places_in : PlacesIn (length (nodes t)) (places t)
  places_in = record {
    nodes = λ k. by k (slice_get (nodes t) k) refl;
    names = λ n e f. node_below e (found_name (Stands (category_at t) (nodes t)) (λ e. e.node == n) (places t).names e stands f);
    next = λ i. found_node (λ m. m.id < length (nodes t)) (λ node. node.first == i && is_step node.label.kind) (nodes t) (ids (nodes t) all_in_tree) some_node;
  }
    where
      by : (k : ℕ) (o : Option Node) → slice_get (nodes t) k ≡ o → (unwrap_or o nowhere).id < length (nodes t)
      by k None same = some_node
      by k (Some m) same = (node_in k m same).own

      ids : (ns : List Node) → AllNodes (NodeIn (length (nodes t))) ns → AllNodes (λ m. m.id < length (nodes t)) ns
      ids [] h = tt
      ids (m ∷ ns) h = (h.0.own, ids ns h.1)

  used_in : (node : Node) (o : Option Name) → node.id < length (nodes t) → AllProper (length (nodes t)) (use_faults (places t) node o)
  used_in node None lt = tt
  used_in node (Some e) lt = rule_in (length (nodes t)) (not (is_there (places t) e e.entity)) 17 node.id refl lt

  placed_in : (node : Node) (k : SynKind) → node.id < length (nodes t) → AllProper (length (nodes t)) (place_faults_by (places t) node k)
  placed_in node kind.Var lt = used_in node (denoted (places t).names node.id node.label.text) lt
  placed_in node kind.Specs lt = rule_in (length (nodes t)) _ 2 node.id refl lt
  placed_in node _ lt = tt

  all_placed : (ns : List Node) → AllNodes (NodeIn (length (nodes t))) ns → AllProper (length (nodes t)) (flat_map (λ (node : Node). place_faults_by (places t) node node.label.kind) ns)
  all_placed [] h = tt
  all_placed (m ∷ ns) h =
      both_in (length (nodes t)) (place_faults_by (places t) m m.label.kind) (flat_map (λ (node : Node). place_faults_by (places t) node node.label.kind) ns)
      (placed_in m m.label.kind h.0.own) (all_placed ns h.1)

  data_in : (js : List Judgement) → AllProper (length (nodes t)) (data_faults (places t) js)
  data_in js =
      let p = places t in
      let ms = measures_of (data_of p js) in
      let objects : AllNames (λ e. e.behind < length (nodes t)) (objects_of p) =
      all_first (λ e. Stands (category_at t) (nodes t) e × (is_object_of p e ≡ true)) (λ e. e.behind < length (nodes t)) (objects_of p) (λ e h. behind_below e h.0)
      (all_filter (Stands (category_at t) (nodes t)) (is_object_of p) p.names stands) in
      ends_in (length (nodes t)) (offsets ms) ms (data_nodes p js)
      (below_front (length (nodes t)) (map (λ (e : Name). e.behind) (objects_of p)) (map (λ (n : Node). n.id) (literals_of p js)) (names_below (length (nodes t)) (objects_of p) objects)
      (literals_below (length (nodes t)) p.nodes js all_in_tree))
    where
      is_object_of : Places → Name → Bool
      is_object_of p e = is_static e.entity && length (earlier p e) == 0 && is_defined_object p e

  all_in_bounds : AllProper (length (nodes t)) (faults t)
  unfolding faults
  all_in_bounds =
      let p = places t in
      let js = judgements_at p in
      by_list (length (nodes t)) (place_faults p ++ faults_of js) (data_faults p js)
      (both_in (length (nodes t)) (place_faults p) (faults_of js) (all_placed (nodes t) all_in_tree)
      (faults_in_bounds (length (nodes t)) js (judged_in (length (nodes t)) p places_in [] (nodes t) (λ k. waits_in (length (nodes t))) all_in_tree)))
      (data_in js)

  head_there : (fs : List Fault) (f : Fault) (rest : List Fault) → fs ≡ f ∷ rest → Contains fs f
  head_there fs f rest e = subst (λ (gs : List Fault). Contains gs f) (sym e) (0, omega arith, refl)

  pub one_typing : HasOneUnit t ⊎ (IsBroken t ⊎ IsTooBig t)
  one_typing = by (faults t) refl all_in_bounds
    where
      long : length (nodes t) ≡ size (one t)
      long = by_place.length-nodes 0 (size (one t)) (one t)

      broken : (r n : ℕ) (rest : List Fault) → faults t ≡ rule r n ∷ rest → Proper (length (nodes t)) (rule r n) → IsBroken t
      broken r n rest e h = record {
        rule = r;
        node = n;
        breaks = head_there (faults t) (rule r n) rest e;
        least = grind (arith, nat_tests, h.0);
        most = grind (arith, nat_tests, h.0);
        within = let lt = h.1 in let same = long in omega (arith, lt, same);
      }

      big : (n s : ℕ) (rest : List Fault) → faults t ≡ too_big n s ∷ rest → Proper (length (nodes t)) (too_big n s) → IsTooBig t
      big n s rest e h = record {
        node = n;
        measure = s;
        big = head_there (faults t) (too_big n s) rest e;
        above = grind (arith, nat_tests, h.0);
        within = let lt = h.1 in let same = long in omega (arith, lt, same);
      }

      by : (fs : List Fault) → faults t ≡ fs → AllProper (length (nodes t)) (faults t) → HasOneUnit t ⊎ (IsBroken t ⊎ IsTooBig t)
      by [] e h = inl (record { unit = unit_of t; typed = record { keeps = e; unit = refl }; only = λ other typed. sym typed.unit })
      by (rule r n ∷ rest) e h = let k = subst (λ (gs : List Fault). AllProper (length (nodes t)) gs) e h in inr (inl (broken r n rest e k.0))
      by (too_big n s ∷ rest) e h = let k = subst (λ (gs : List Fault). AllProper (length (nodes t)) gs) e h in inr (inr (big n s rest e k.0))
