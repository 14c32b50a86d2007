-- Where no rule is broken, all nodes have a meaning of their form: by induction on their numbers.
use Rattle.std.proofs.Common.{◌≡◌, ℕ, zero, suc, ◌<◌, true, List, [], ◌∷◌, ◌++◌, map, Some, refl, sym, ap, ap₂, ◌∙◌, arith}
use Rattle.std.specs.Prelude.{slice_get, get_or, unwrap_or, take}
use Rattle.c_lexer.specs.declared.token.Token.{Token}
use Rattle.c_syntax.specs.Trees.{Tree}
use Rattle.c_syntax.specs.Tables.{table_of}
use Rattle.c_grammar.specs.Derivation.{IsTreeOf}
use Rattle.c_typing.specs.Places.{Node, nowhere, nodes, node_at, kind_at}
use Rattle.c_typing.specs.Names.{Places, places}
use Rattle.c_typing.specs.Judgements.{Fault, Judgement, judgement_at, faults_in, faults_of}
use Rattle.c_typing.specs.Typing.{judgements_at, place_faults, data_faults, faults}
use Rattle.c_typing.specs.Shapes.{Category, no_category, category_by, kids_fit, text_fits, at_places, categories_of}
use Rattle.c_typing.specs.ShapesOfNodes.{as_id, category_at}
use Rattle.c_typing.specs.Meant.{judgements}
use Rattle.c_typing.proofs.ShapesNodes.{node_placed}
use Rattle.c_typing.proofs.ProgressBase.{judged_at, earlier_at}
use Rattle.c_typing.proofs.ProgressKids.{Tiled, tiled, kid_of}
use Rattle.c_typing.proofs.ProgressForms.{fits}
use Rattle.c_typing.proofs.ProgressStep.{KidHas, Special, Ready}
use Rattle.c_typing.proofs.ProgressKind.{settles}

-- ---- no faults

pub fronts_empty : {A : Type 0} (xs ys : List A) → xs ++ ys ≡ [] → (xs ≡ []) × (ys ≡ [])
fronts_empty {A = A} [] ys e = (refl, e)
fronts_empty {A = A} (x ∷ xs) ys e = absurd (cc e)

pub calm_at : (js : List Judgement) (n : ℕ) → faults_of js ≡ [] → faults_in (judgement_at js n) ≡ []
calm_at [] n e = refl
calm_at (j ∷ js) zero e = (fronts_empty (faults_in j) (faults_of js) e).0
calm_at (j ∷ js) (suc n) e = calm_at js n (fronts_empty (faults_in j) (faults_of js) e).1

by_places : (p : Places) (js : List Judgement) (fs : List Fault) → (elim fs as (λ x. List Fault) [ [] ↦ data_faults p js | ◌∷◌ f rest ↦ f ∷ rest ]) ≡ [] → (fs ≡ []) × (data_faults p js ≡ [])
by_places p js [] e = (refl, e)
by_places p js (f ∷ fs) e = absurd (cc e)

pub record NoFault (t : Tree) : Type 0 where
  pub by_place : place_faults (places t) ≡ []
  pub by_node : faults_of (judgements t) ≡ []
  pub by_data : data_faults (places t) (judgements t) ≡ []

pub no_fault : (t : Tree) → faults t ≡ [] → NoFault t
unfolding faults
no_fault t e =
    let p = places t in
    let js = judgements_at p in
    let all = by_places p js (place_faults p ++ faults_of js) e in
    let fs = fronts_empty (place_faults p) (faults_of js) all.0 in
    record { by_place = fs.0; by_node = fs.1; by_data = all.1 }

-- ---- induction

all_below : (P : ℕ → Type 0) → ((n : ℕ) → ((k : ℕ) → k < n → P k) → P n) → (n k : ℕ) → k < n → P k
all_below P step zero k lt = absurd (omega (arith, lt))
all_below P step (suc n) k lt = step k (λ j below. all_below P step n j (omega (arith, lt, below)))

pub by_number : (P : ℕ → Type 0) → ((n : ℕ) → ((k : ℕ) → k < n → P k) → P n) → (n : ℕ) → P n
by_number P step n = all_below P step (suc n) n (omega arith)

-- ---- the nodes of a tree

-- the text and the kids of a node are in the tables, and its category is made of theirs
pub record Shaped (cat : ℕ → Category) (n : ℕ) (m : Node) : Type 0 where
  pub category : cat n ≡ category_by m.label.kind m.label.text (map cat m.kids)
  pub text : text_fits m.label.kind m.label.text ≡ true
  pub kids : kids_fit m.label.kind m.label.text (map cat m.kids) ≡ true

-- nodes with the kids and the shapes of those of a derived tree
pub record AreShaped (cat : ℕ → Category) (ns : List Node) : Type 0 where
  pub tiled : (n : ℕ) (m : Node) → slice_get ns n ≡ Some m → Tiled ns n m
  pub shaped : (n : ℕ) (m : Node) → slice_get ns n ≡ Some m → Shaped cat n m

module _ (cat : ℕ → Category) (p : Places) where
  -- the node at this place has a meaning of its form
  abbrev pub Meant : ℕ → Type 0
  Meant n = (m : Node) → slice_get p.nodes n ≡ Some m → fits (kind_at p.nodes m.parent) m.label.kind (cat n) (judgement_at (judgements_at p) n) ≡ true

  -- what is known where a node is reached, beside its kids
  abbrev pub Specials : Type 0
  Specials = (n : ℕ) (m : Node) → slice_get p.nodes n ≡ Some m → ((k : ℕ) → k < n → Meant k) → Special cat p (take n (judgements_at p)) n (kind_at p.nodes m.parent) m

pub found_at : (ns : List Node) (n : ℕ) (m : Node) → slice_get ns n ≡ Some m → node_at ns n ≡ m
found_at ns n m e = ap (λ o. unwrap_or o nowhere) e

module _ (cat : ℕ → Category) (p : Places) (s : AreShaped cat p.nodes) where
  pub kid_has : (n : ℕ) (m : Node) → slice_get p.nodes n ≡ Some m → ((k : ℕ) → k < n → Meant cat p k) → (i j : ℕ) → slice_get m.kids i ≡ Some j
      → KidHas cat p (take n (judgements_at p)) m.label.kind j
  kid_has n m e before i j at =
      let k = kid_of p.nodes m.first n m.kids i j (s.tiled n m e).kids at in
      let node : node_at p.nodes j ≡ k.node = found_at p.nodes j k.node k.at in
      let kind : kind_at p.nodes j ≡ k.node.label.kind = ap (λ (q : Node). q.label.kind) node in
      let outer : kind_at p.nodes k.node.parent ≡ m.label.kind = ap (λ o. kind_at p.nodes o) k.below ∙ ap (λ (q : Node). q.label.kind) (found_at p.nodes n m e) in
      let meant = before j k.less k.node k.at in
      let shape = s.shaped j k.node k.at in
      let same = earlier_at (judgements_at p) n j k.less in
      record {
        form = ap₂ (λ o l. fits o l (cat j) (judgement_at (take n (judgements_at p)) j)) (sym outer) kind ∙ (ap (λ g. fits (kind_at p.nodes k.node.parent) k.node.label.kind (cat j) g) same ∙ meant);
        text = k.node.label.text;
        below = map cat k.node.kids;
        is = shape.category ∙ ap (λ l. category_by l k.node.label.text (map cat k.node.kids)) (sym kind);
      }

  ready : (n : ℕ) (m : Node) → slice_get p.nodes n ≡ Some m → ((k : ℕ) → k < n → Meant cat p k) → Specials cat p → Ready cat p (take n (judgements_at p)) n (kind_at p.nodes m.parent) m
  ready n m e before special =
      let tile = s.tiled n m e in
      record {
        kids = kid_has n m e before;
        numbered = λ i j at. let k = kid_of p.nodes m.first n m.kids i j tile.kids at in
            ap (λ (q : Node). q.id) (found_at p.nodes j k.node k.at) ∙ (s.tiled j k.node k.at).numbered;
        above = ap (λ o. kind_at p.nodes (node_at p.nodes o).parent) tile.numbered ∙ ap (λ (q : Node). kind_at p.nodes q.parent) (found_at p.nodes n m e);
        special = special n m e before;
      }

  -- all nodes have a meaning of their form
  pub all_meant : faults_of (judgements_at p) ≡ [] → Specials cat p → (n : ℕ) → Meant cat p n
  all_meant quiet special n = by_number (Meant cat p) step n
    where
      step : (n : ℕ) → ((k : ℕ) → k < n → Meant cat p k) → Meant cat p n
      step n before m e =
          let js = take n (judgements_at p) in
          let outer = kind_at p.nodes m.parent in
          let shape = s.shaped n m e in
          let own = judged_at p p.nodes n m e in
          let calm = sym (ap faults_in own) ∙ calm_at (judgements_at p) n quiet in
          let fit = (settles cat p js n outer m (ready n m e before special) m.label.kind refl shape.kids shape.text shape.category).passes calm in
          ap₂ (λ c j. fits outer m.label.kind c j) shape.category own ∙ fit

-- ---- derived trees

at_kids : (known : List Category) (ks : List ℕ) → at_places known (map as_id ks) ≡ map (λ k. get_or known k no_category) ks
at_kids known [] = refl
at_kids known (k ∷ ks) = ap (λ cs. get_or known k no_category ∷ cs) (at_kids known ks)

pub of_derived : (tokens : List Token) (t : Tree) → IsTreeOf tokens t → AreShaped (category_at t) (nodes t)
of_derived tokens t derived = record {
  tiled = tiled tokens t derived;
  shaped = λ n m e.
      let f = (node_placed tokens t derived n m e).fits in
      let same = at_kids (categories_of (table_of t)) m.kids in
      record {
        category = f.category ∙ ap (λ cs. category_by m.label.kind m.label.text cs) same;
        text = f.text;
        kids = ap (λ cs. kids_fit m.label.kind m.label.text cs) (sym same) ∙ f.kids;
      };
}
