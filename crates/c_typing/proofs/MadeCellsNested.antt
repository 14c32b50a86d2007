-- The cells of all braces of a tree stand apart within what they initialize.
use Rattle.std.proofs.Common.{◌≡◌, ◌⊎◌, inl, inr, ℕ, ◌+◌, ◌<◌, ◌≤◌, false, List, [], ◌∷◌, length, map, Option, Some, None, refl, sym, ap, ap₂, ◌∙◌, subst, arith, unwrap_or}
use Rattle.std.specs.Prelude.{slice_get, take, flat_map, ◌==◌}
use Rattle.std.specs.List.{range_with_len}
use Rattle.std.proofs.lemmas.Bool.Decides.{nat_tests}
use Rattle.std.proofs.lemmas.Option.{slice_get-get_or}
use Rattle.c_lexer.specs.declared.token.Token.{Token}
use Rattle.c_syntax.specs.declared.kind.SynKind.TheVariants as kind
use Rattle.c_syntax.specs.Trees.{Tree}
use Rattle.c_grammar.specs.Derivation.{IsTreeOf}
use Rattle.c_types.specs.declared.tree.Cell.{Cell}
use Rattle.c_typing.specs.Types.{CType, size_of}
use Rattle.c_typing.specs.Places.{Node, nodes, node_at, parent_of, kid, index_in}
use Rattle.c_typing.specs.Names.{Places, places}
use Rattle.c_typing.specs.Judgements.{Fault, Meaning, initial, Judgement, means, breaks_rules, waits, verdict, besides, given, all_of, judgement_at, layouts}
use Rattle.c_typing.specs.Initializers.{part_of, Part, kid_part, too_many, count_in, completed, target, target_by, target_within, init_around, is_static_name, braces_for, braces_by, braces}
use Rattle.c_typing.specs.ShapesOfNodes.{category_at}
use Rattle.c_typing.specs.Typing.{judged_by, judgements_at}
use Rattle.c_typing.proofs.ProgressBase.{judged_at, earlier_at}
use Rattle.c_typing.proofs.ProgressAll.{found_at, by_number}
use Rattle.c_typing.proofs.ProgressKids.{Kid, kid_of}
use Rattle.c_typing.proofs.ProgressPlaces.{AreLinked, are_linked, some_same, kids_apart, first_low}
use Rattle.c_typing.proofs.ProgressInitial.{of_parent, braces_target}
use Rattle.c_typing.proofs.ProgressInitials.{first_place, index_at}
use Rattle.c_typing.proofs.ProgressTargets.{target_later, parts_later}
use Rattle.c_typing.proofs.ProgressSpecials.{ArePlaced, long}
use Rattle.c_typing.proofs.MadeCells.{Stand, no_cells}
use Rattle.c_typing.proofs.MadeCellsTypes.{AllLaid, MayHold}
use Rattle.c_typing.proofs.MadeCellsBraces.{KidsStand, stand_braces}
use Rattle.c_typing.proofs.MadeCellsLater.{done_later}

-- ---- what a meaning is made of

pub besides_means : (fs : List Fault) (j : Judgement) (m : Meaning) → besides fs j ≡ means m → (fs ≡ []) × (j ≡ means m)
besides_means [] j m e = (refl, e)
besides_means (f ∷ fs) (means n) m e = absurd (cc e)
besides_means (f ∷ fs) (breaks_rules g gs) m e = absurd (cc e)
besides_means (f ∷ fs) waits m e = absurd (cc e)

pub given_means : {A : Type 0} (o : Option A) (f : A → Judgement) (m : Meaning) → given o f ≡ means m → (a : A) × (o ≡ Some a) × (f a ≡ means m)
given_means {A} None f m e = absurd (cc e)
given_means {A} (Some a) f m e = (a, refl, e)

pub verdict_means : (fs : List Fault) (n m : Meaning) → verdict fs n ≡ means m → (fs ≡ []) × (n ≡ m)
verdict_means [] n m e = (refl, cc e)
verdict_means (f ∷ fs) n m e = absurd (cc e)

-- braces for an object of this type
pub record BracesMade (p : Places) (js : List Judgement) (node : Node) (t : CType) (k : ℕ) (cs : List Cell) : Type 0 where
  pub fit : too_many p (layouts js) t node ≡ []
  pub parts : List Part
  pub there : all_of (map (kid_part p js (is_static_name (init_around p node)) t node) (range_with_len 0 (length node.kids))) ≡ Some parts
  pub none : flat_map (λ (q : Part). q.faults) parts ≡ []
  pub count : count_in p t node ≡ k
  pub cells : flat_map (λ (q : Part). q.cells) parts ≡ cs

made_for : (p : Places) (js : List Judgement) (node : Node) (t : CType) (k : ℕ) (cs : List Cell) → braces_for p js node t ≡ means (initial k cs) → BracesMade p js node t k cs
unfolding braces_for
made_for p js node t k cs e =
    let a = besides_means (too_many p (layouts js) t node) _ (initial k cs) e in
    let b = given_means (all_of (map (kid_part p js (is_static_name (init_around p node)) t node) (range_with_len 0 (length node.kids)))) _ (initial k cs) a.1 in
    let c = verdict_means (flat_map (λ (q : Part). q.faults) b.0) (initial (count_in p t node) (flat_map (λ (q : Part). q.cells) b.0)) (initial k cs) b.2 in
    record { fit = a.0; parts = b.0; there = b.1; none = c.0; count = number c.1; cells = cells c.1 }
  where
    number : {i j : ℕ} {xs ys : List Cell} → initial i xs ≡ initial j ys → i ≡ j
    number h = cc h

    cells : {i j : ℕ} {xs ys : List Cell} → initial i xs ≡ initial j ys → xs ≡ ys
    cells h = cc h

made_by : (p : Places) (js : List Judgement) (node : Node) (o : Option CType) (k : ℕ) (cs : List Cell) → braces_by p js node o ≡ means (initial k cs) → (cs ≡ []) ⊎ ((t : CType) × (o ≡ Some t) × BracesMade p js node t k cs)
made_by p js node None k cs e = inl (none e)
  where
    none : means (initial 0 []) ≡ means (initial k cs) → cs ≡ []
    none h = cc h
made_by p js node (Some t) k cs e = inr (t, refl, made_for p js node t k cs e)

pub braces_made : (p : Places) (js : List Judgement) (node : Node) (k : ℕ) (cs : List Cell) → braces p js node ≡ means (initial k cs) → (cs ≡ []) ⊎ ((t : CType) × (target p js node.id ≡ Some t) × BracesMade p js node t k cs)
unfolding braces
braces_made p js node k cs e = made_by p js node (target p js node.id) k cs e

-- ---- all braces; structs are laid out within their sizes, and what braces initialize has a size or is to get one

module _ (tokens : List Token) (t : Tree) (derived : IsTreeOf tokens t)
    (laid : (b : ℕ) → AllLaid (layouts (take b (judgements_at (places t)))))
    (may : (n : ℕ) (u : CType) → target (places t) (take n (judgements_at (places t))) n ≡ Some u → MayHold (layouts (take n (judgements_at (places t)))) u) where
  l : AreLinked (category_at t) (nodes t)
  l = are_linked tokens t derived

  placed : ArePlaced (places t)
  placed = record { names = refl; functions = refl }

  -- no cells, or those of what they initialize where they stand
  abbrev pub Done : ℕ → ℕ → List Cell → Type 0
  Done n k cs = (cs ≡ []) ⊎ ((u : CType) × (target (places t) (take n (judgements_at (places t))) n ≡ Some u) × Stand 0 (size_of (layouts (take n (judgements_at (places t)))) (completed u (Some k))) cs)

  abbrev pub DoneAt : ℕ → Type 0
  DoneAt n = (m : Node) → slice_get (nodes t) n ≡ Some m → m.label.kind ≡ kind.Braces → (k : ℕ) (cs : List Cell) → judgement_at (judgements_at (places t)) n ≡ means (initial k cs) → Done n k cs

  -- what braces in braces initialize, as those around them say
  same_part : (n i j : ℕ) (m : Node) (v u w : CType) → slice_get (nodes t) n ≡ Some m → m.label.kind ≡ kind.Braces → i < length m.kids → slice_get m.kids i ≡ Some j → (q : Kid (nodes t) n j)
      → target (places t) (take n (judgements_at (places t))) n ≡ Some v → part_of (places t) (layouts (take n (judgements_at (places t)))) m i v ≡ Some u
      → target (places t) (take j (judgements_at (places t))) j ≡ Some w → w ≡ u
  same_part n i j m v u w at same lt there q whole part_is own =
      let p = places t in
      let js = take n (judgements_at p) in
      let d = long (category_at t) p l placed n m at in
      let early = take j (judgements_at p) in
      let above = target_within p early d.0 (parent_of p.nodes j).id in
      let outer : parent_of p.nodes j ≡ m = ap (λ (x : Node). node_at p.nodes x.parent) (found_at p.nodes j q.node q.at) ∙ (ap (λ i. node_at p.nodes i) q.below ∙ found_at p.nodes n m at) in
      let by_outer = sym (of_parent p early d.0 j d.1) ∙ own in
      let by_braces : target_by p early (parent_of p.nodes j) j above kind.Braces ≡ Some w =
      ap (λ k. target_by p early (parent_of p.nodes j) j above k) (sym (ap (λ (x : Node). x.label.kind) outer ∙ same)) ∙ by_outer in
      let x = braces_target p early (parent_of p.nodes j) j above w by_braces in
      let id = (l.shapes.tiled n m at).numbered in
      let up : target_within p early d.0 n ≡ Some x.0 = ap (λ i. target_within p early d.0 i) (sym id) ∙ (ap (λ (y : Node). target_within p early d.0 y.id) (sym outer) ∙ x.1) in
      let less = q.less in
      let later = target_later p (judgements_at p) j n d.0 1 n x.0 (omega (arith, less)) up in
      let far = d.1 in
      let deep : d.0 + 1 ≡ length p.nodes = omega (arith, far) in
      let equal : x.0 ≡ v = some_same (sym later ∙ (ap (λ k. target_within p js k n) deep ∙ whole)) in
      let index = index_at m.kids i j there lt (first_place m.kids i j there before_it) in
      let place : part_of p (layouts early) m i x.0 ≡ Some w = ap₂ (λ (y : Node) (z : ℕ). part_of p (layouts early) y z x.0) (sym outer) (sym (ap (λ (y : Node). index_in y.kids j) outer ∙ index)) ∙ x.2 in
      let now = parts_later p (judgements_at p) j n i m x.0 w (omega (arith, less)) place in
      some_same (sym now ∙ (ap (λ y. part_of p (layouts js) m i y) equal ∙ part_is))
    where
      before_it : (k b : ℕ) → k < i → slice_get m.kids k ≡ Some b → (b == j) ≡ false
      before_it k b before bt =
          let apart = kids_apart (nodes t) m.first n n m.kids k i b j q.node (l.shapes.tiled n m at).kids before bt there q.at in
          let low = first_low (category_at t) (nodes t) l j q.node q.at in
          differ b j (omega (arith, apart, low))
        where
          differ : (a b : ℕ) → a < b → (a == b) ≡ false
          differ a b lt = grind (arith, nat_tests, lt)

  -- braces that are done, for the part that they stand for
  pub done_for : (n j : ℕ) (u : CType) (k : ℕ) (cs : List Cell) → j ≤ n → Done j k cs → ((w : CType) → target (places t) (take j (judgements_at (places t))) j ≡ Some w → w ≡ u)
      → Stand 0 (size_of (layouts (take n (judgements_at (places t)))) (completed u (Some k))) cs
  done_for n j u k cs le (inl empty) same = subst (λ xs. Stand 0 (size_of (layouts (take n (judgements_at (places t)))) (completed u (Some k))) xs) (sym empty) (no_cells 0 _ (omega arith))
  done_for n j u k cs le (inr d) same =
      let equal = same d.0 d.1 in
      let size = done_later (judgements_at (places t)) j n d.0 k le (may j d.0 d.1) in
      subst (λ w. Stand 0 (size_of (layouts (take n (judgements_at (places t)))) (completed w (Some k))) cs) equal (subst (λ s. Stand 0 s cs) (sym size) d.2)

  kids_done : (n : ℕ) (m : Node) (v : CType) → slice_get (nodes t) n ≡ Some m → m.label.kind ≡ kind.Braces → target (places t) (take n (judgements_at (places t))) n ≡ Some v → ((j : ℕ) → j < n → DoneAt j)
      → KidsStand (places t) (take n (judgements_at (places t))) m (is_static_name (init_around (places t) m)) v
  kids_done n m v at same whole before i u lt part_is braces k cs e =
      let first = slice_get-get_or m.kids i 0 lt in
      let there : slice_get m.kids i ≡ Some (kid m i) = first ∙ ap (λ o. Some (unwrap_or o 0)) (sym first) in
      let q = kid_of (nodes t) m.first n m.kids i (kid m i) (l.shapes.tiled n m at).kids there in
      let less = q.less in
      let node = found_at (nodes t) (kid m i) q.node q.at in
      let id : (node_at (nodes t) (kid m i)).id ≡ kid m i = ap (λ (x : Node). x.id) node ∙ (l.shapes.tiled (kid m i) q.node q.at).numbered in
      let judged = sym (earlier_at (judgements_at (places t)) n (kid m i) less) ∙ (ap (λ x. judgement_at (take n (judgements_at (places t))) x) (sym id) ∙ e) in
      done_for n (kid m i) u k cs (omega (arith, less)) (before (kid m i) less q.node q.at (sym (ap (λ (x : Node). x.label.kind) node) ∙ braces) k cs judged)
      (λ w own. same_part n i (kid m i) m v u w at same lt there q whole part_is own)

  step : (n : ℕ) → ((j : ℕ) → j < n → DoneAt j) → DoneAt n
  unfolding judged_by
  step n before m at same k cs e = by (braces_made p js m k cs is)
    where
      p : Places
      p = places t

      js : List Judgement
      js = take n (judgements_at (places t))

      id : m.id ≡ n
      id = (l.shapes.tiled n m at).numbered

      is : braces (places t) (take n (judgements_at (places t))) m ≡ means (initial k cs)
      is = ap (λ x. judged_by (places t) (take n (judgements_at (places t))) m x) (sym same) ∙ (sym (judged_at (places t) (nodes t) n m at) ∙ e)

      by : (cs ≡ []) ⊎ ((u : CType) × (target (places t) (take n (judgements_at (places t))) m.id ≡ Some u) × BracesMade (places t) (take n (judgements_at (places t))) m u k cs) → Done n k cs
      by (inl h) = inl h
      by (inr h) =
          let whole : target (places t) (take n (judgements_at (places t))) n ≡ Some h.0 = ap (λ i. target (places t) (take n (judgements_at (places t))) i) (sym id) ∙ h.1 in
          let made = h.2 in
          let s = stand_braces (places t) (take n (judgements_at (places t))) m (is_static_name (init_around (places t) m)) (laid n) h.0 made.parts (may n h.0 whole) made.fit made.there made.none (kids_done n m h.0 at same whole before) in
          inr (
            h.0,
            whole,
            subst (λ i. Stand 0 (size_of (layouts (take n (judgements_at (places t)))) (completed h.0 (Some i))) cs) made.count
                (subst (λ xs. Stand 0 (size_of (layouts (take n (judgements_at (places t)))) (completed h.0 (Some (count_in (places t) h.0 m)))) xs) made.cells s),
          )

  pub all_done : (n : ℕ) → DoneAt n
  all_done n = by_number DoneAt step n
