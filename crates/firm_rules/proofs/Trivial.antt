-- A trivial Phi means what its other value means, on each walk to where the Phi's block has been passed.
use Rattle.std.proofs.Common.{◌≡◌, refl, sym, ap, ◌∙◌, subst, ℕ, zero, suc, ◌<◌, ◌≤◌, arith, le_refl, ◌⊎◌, inl, inr, Bool, true, false, true≢false, List, [], ◌∷◌, length, Some}
use Rattle.std.specs.Prelude.{slice_get, map, option_map, MatchBool}
use Rattle.std.proofs.lemmas.Option.{slice_get-map}
use Rattle.ssa_core.specs.Shapes.{phi}
use Rattle.ssa_core.specs.Walks.{Edge, Walk, end, IsWalk, Visits, operand_at, along}
use Rattle.firm_rules.specs.declared.node.NodeOp.{NodeOp}
use Rattle.firm_rules.specs.declared.node.NodeOp.TheVariants.{Phi}
use Rattle.firm_rules.specs.Graphs.{FirmNode, Firm}
use Rattle.firm_rules.specs.Lookups.{node_at, node_id, first_of, preds_of, shape, kind_by}
use Rattle.firm_rules.specs.Rules.{is_phi, ComesTo, IsDefined, Obeys}
use Rattle.firm_rules.proofs.Steps.{Test, alike, apart, test}
use Rattle.firm_rules.proofs.Stuck.{first_is_block}
use Rattle.firm_rules.proofs.Along.{along_phi, along_elsewhere}
use Rattle.firm_rules.proofs.Nodes.{none_is_not_some, kind_at, block_at}

-- an element where another list of the same length has one
same_length_at : {X Y : Type 0} → (xs : List X) (ys : List Y) (index : ℕ) (y : Y) → length xs ≡ length ys → slice_get ys index ≡ Some y → (x : X) × (slice_get xs index ≡ Some x)
same_length_at [] [] index y same at = absurd (none_is_not_some y at)
same_length_at [] (z ∷ zs) index y same at = absurd (omega (arith, same))
same_length_at (x ∷ xs) [] index y same at = absurd (none_is_not_some y at)
same_length_at (x ∷ xs) (z ∷ zs) zero y same at = (x, refl)
same_length_at (x ∷ xs) (z ∷ zs) (suc index) y same at = same_length_at xs zs index y (omega (arith, same)) at

module _ (g : Firm) (obeys : Obeys g) (n : ℕ) (node : FirmNode) (is : node_at g n ≡ Some node) (phi_op : is_phi node.op ≡ true)
    (v : ℕ) (each : (index operand : ℕ) → slice_get node.operands index ≡ Some operand → (operand ≡ n) ⊎ (operand ≡ v)) where
  abbrev value_block : ℕ
  value_block = (shape g).block (node_id v)

  -- each walk to the block passes the Phi's
  abbrev pub Passed : ℕ → Type 0
  Passed b = (w : Walk) → ComesTo g w b → Visits (shape g) w node.block

  not_first : first_of g.order ≡ node.block → ⊥
  not_first same =
      true≢false (sym phi_op ∙ (((obeys.blocks (first_of g.order) (first_is_block g obeys.some_block)).first_fits refl).no_phi n node is (sym same)))

  -- where the Phi's block is entered by an edge, the operand for the edge is defined before
  pub record Operand (e : Edge) (w : Walk) : Type 0 where
    pub operand : ℕ
    pub at : slice_get node.operands e.place ≡ Some operand
    pub defined : IsDefined g operand (end (shape g) w)

  pub operand_of : (e : Edge) (w : Walk) → IsWalk (shape g) (e ∷ w) → e.into ≡ node.block → Operand e w
  operand_of e w walk into =
      let pred = subst (λ b. slice_get (preds_of g b) e.place ≡ Some (end (shape g) w)) into walk.0 in
      let found = same_length_at node.operands (preds_of g node.block) e.place (end (shape g) w) ((obeys.nodes n node is).phi_is_full phi_op) pred in
      record {
        operand = found.0;
        at = found.1;
        defined = (obeys.nodes n node is).operands_defined e.place found.0 (end (shape g) w) found.1 (used (is_phi node.op) phi_op pred);
      }
    where
      used : (t : Bool) → t ≡ true → slice_get (preds_of g node.block) e.place ≡ Some (end (shape g) w)
          → MatchBool t (slice_get (preds_of g node.block) e.place ≡ Some (end (shape g) w)) (node.block ≡ end (shape g) w)
      used true _ pred = pred
      used false no_phi pred = absurd (true≢false (sym no_phi))

  defined_visits : (operand : ℕ) (w : Walk) → IsDefined g operand (end (shape g) w) → IsWalk (shape g) w → Visits (shape g) w ((shape g).block (node_id operand))
  defined_visits operand w defined walk =
      subst (Visits (shape g) w) (sym (block_at g operand defined.0 defined.1)) (defined.2 w (walk, refl))

  -- before the Phi's block is first passed, that of the value is
  record Before (w : Walk) : Type 0 where
    earlier : Walk
    walk : IsWalk (shape g) earlier
    shorter : length earlier < length w
    visits : Visits (shape g) earlier value_block
    on_walk : Visits (shape g) w value_block

  before : (w : Walk) → IsWalk (shape g) w → Visits (shape g) w node.block → Before w
  before [] walk at = absurd (not_first at)
  before (e ∷ w) walk visits = by visits (λ at. before w walk.1 at)
    where
      longer : Before w → Before (e ∷ w)
      longer b = record { earlier = b.earlier; walk = b.walk; shorter = omega (arith, b.shorter); visits = b.visits; on_walk = inr b.on_walk }

      by : (e.into ≡ node.block) ⊎ Visits (shape g) w node.block → (Visits (shape g) w node.block → Before w) → Before (e ∷ w)
      by (inr at) earlier = longer (earlier at)
      by (inl into) earlier = here (each e.place found.operand found.at)
        where
          found : Operand e w
          found = operand_of e w walk into

          at_operand : Visits (shape g) w ((shape g).block (node_id found.operand))
          at_operand = defined_visits found.operand w found.defined walk.1

          here : (found.operand ≡ n) ⊎ (found.operand ≡ v) → Before (e ∷ w)
          here (inl itself) = longer (earlier (subst (Visits (shape g) w) (ap (λ x. (shape g).block (node_id x)) itself ∙ block_at g n node is) at_operand))
          here (inr value) =
              let at_value = subst (λ x. Visits (shape g) w ((shape g).block (node_id x))) value at_operand in
              record { earlier = w; walk = walk.1; shorter = omega arith; visits = at_value; on_walk = inr at_value }

  -- so where the Phi's block has been passed, so has the value's
  pub passed_value : (w : Walk) → IsWalk (shape g) w → Visits (shape g) w node.block → Visits (shape g) w value_block
  passed_value w walk at = (before w walk at).on_walk

  -- the walk up to its last visit of a block
  pub record UpTo (w : Walk) (b : ℕ) : Type 0 where
    pub part : Walk
    pub comes : ComesTo g part b
    pub no_longer : length part ≤ length w
    pub on_walk : (d : ℕ) → Visits (shape g) part d → Visits (shape g) w d

  pub up_to : (w : Walk) (b : ℕ) → IsWalk (shape g) w → Visits (shape g) w b → UpTo w b
  up_to [] b walk at = record { part = []; comes = (walk, at); no_longer = le_refl 0; on_walk = λ d visit. visit }
  up_to (e ∷ w) b walk visits = by visits (λ at. up_to w b walk.1 at)
    where
      by : (e.into ≡ b) ⊎ Visits (shape g) w b → (Visits (shape g) w b → UpTo w b) → UpTo (e ∷ w) b
      by (inl at) earlier = record { part = e ∷ w; comes = (walk, at); no_longer = le_refl (suc (length w)); on_walk = λ d visit. visit }
      by (inr at) earlier = let rest = earlier at in record {
        part = rest.part;
        comes = rest.comes;
        no_longer = omega (arith, rest.no_longer);
        on_walk = λ d visit. inr (rest.on_walk d visit);
      }

  -- so where each walk to the value's block passes the Phi's, there is none
  no_walk : (k : ℕ) (w : Walk) → length w < k → Passed value_block → ComesTo g w value_block → ⊥
  no_walk zero w less passed comes = omega (arith, less)
  no_walk (suc k) w less passed comes =
      let earlier = before w comes.0 (passed w comes) in
      let part = up_to earlier.earlier value_block earlier.walk earlier.visits in
      no_walk k part.part (omega (arith, less, earlier.shorter, part.no_longer)) passed part.comes

  -- the value does not stand where a walk ends to which each passes the Phi's block
  pub value_away : (w : Walk) → IsWalk (shape g) w → Passed (end (shape g) w) → value_block ≡ end (shape g) w → ⊥
  value_away w walk passed same = no_walk (suc (length w)) w (le_refl (suc (length w))) (subst Passed (sym same) passed) (walk, sym same)

  -- and there is a walk to the value's block
  pub value_walk : (w : Walk) → IsWalk (shape g) w → Visits (shape g) w node.block → (u : Walk) × ComesTo g u value_block
  value_walk w walk at = let part = up_to w value_block walk (passed_value w walk at) in (part.part, part.comes)

  pub no_walk_to_value : (u : Walk) → ComesTo g u value_block → Passed value_block → ⊥
  no_walk_to_value u comes passed = no_walk (suc (length u)) u (le_refl (suc (length u))) passed comes

  -- ---- the Phi means what the value means

  phi_mode : (o : NodeOp) → is_phi o ≡ true → (operands : List ℕ) → kind_by o operands ≡ phi (map node_id operands)
  phi_mode (Phi mode) e operands = refl
  phi_mode o e operands = absurd (true≢false (sym e))

  pub same_meaning : (w : Walk) → IsWalk (shape g) w → Passed (end (shape g) w) → along (shape g) w (node_id n) ≡ along (shape g) w (node_id v)
  same_meaning [] walk passed = absurd (not_first (passed [] (tt, refl)))
  same_meaning (e ∷ w) walk passed = by (test node.block e.into) (same_meaning w walk.1)
    where
      home : (shape g).block (node_id n) ≡ node.block
      home = block_at g n node is

      elsewhere : (value_block ≡ e.into → ⊥) → along (shape g) w (node_id v) ≡ along (shape g) (e ∷ w) (node_id v)
      elsewhere d = sym (along_elsewhere (shape g) e w (node_id v) d)

      -- the value does not stand where the walk ends
      not_there : value_block ≡ e.into → ⊥
      not_there same =
          no_walk (suc (suc (length w))) (e ∷ w) (omega arith) (subst Passed (sym same) passed) (walk, sym same)

      passed_before : (node.block ≡ e.into → ⊥) → Passed (end (shape g) w)
      passed_before d u comes = here (passed (e ∷ u) ((subst (λ b. slice_get (preds_of g e.into) e.place ≡ Some b) (sym comes.1) walk.0, comes.0), refl))
        where
          here : (e.into ≡ node.block) ⊎ Visits (shape g) u node.block → Visits (shape g) u node.block
          here (inl at) = absurd (d (sym at))
          here (inr at) = at

      by : Test node.block e.into → (Passed (end (shape g) w) → along (shape g) w (node_id n) ≡ along (shape g) w (node_id v))
          → along (shape g) (e ∷ w) (node_id n) ≡ along (shape g) (e ∷ w) (node_id v)
      by (apart d _) earlier =
          along_elsewhere (shape g) e w (node_id n) (λ at. d (sym home ∙ at)) ∙ earlier (passed_before d) ∙ elsewhere not_there
      by (alike at _) earlier =
          along_phi (shape g) e w (node_id n) (map node_id node.operands) (kind_at g n node is ∙ phi_mode node.op phi_op node.operands) (home ∙ at)
          ∙ ap (λ x. operand_at x (along (shape g) w)) (slice_get-map node_id node.operands e.place ∙ ap (option_map node_id) found.at)
          ∙ here (each e.place found.operand found.at)
          ∙ elsewhere not_there
        where
          found : Operand e w
          found = operand_of e w walk (sym at)

          here : (found.operand ≡ n) ⊎ (found.operand ≡ v) → along (shape g) w (node_id found.operand) ≡ along (shape g) w (node_id v)
          here (inr value) = ap (λ x. along (shape g) w (node_id x)) value
          here (inl itself) =
              ap (λ x. along (shape g) w (node_id x)) itself
              ∙ earlier (λ u comes. subst (Visits (shape g) u) (ap (λ x. (shape g).block (node_id x)) itself ∙ home)
              (subst (Visits (shape g) u) (sym (block_at g found.operand found.defined.0 found.defined.1)) (found.defined.2 u comes)))
