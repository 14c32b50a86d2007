-- Where a trivial Phi is replaced by its other value, what stands for a value means the same, on each walk to where the value's
-- block has been passed.
use Rattle.std.proofs.Common.{◌≡◌, ◌≢◌, refl, sym, ap, ◌∙◌, subst, ℕ, zero, suc, ◌⊎◌, inl, inr, Bool, true, false, true≢false, List, [], ◌∷◌, Option, Some, None}
use Rattle.std.specs.Prelude.{slice_get, map, option_map, MatchBool}
use Rattle.std.proofs.lemmas.Option.{slice_get-map}
use Rattle.ssa_core.specs.Shapes.{Shape, ValueKind, absent, gone, unknown, phi, other, Becomes, AllBecome, KindBecomes, IsReplaced}
use Rattle.ssa_core.specs.Walks.{Edge, Walk, end, IsWalk, Visits, Origin, nowhere, from, met, operand_at, along}
use Rattle.firm_rules.specs.declared.node.NodeId.{NodeId}
use Rattle.firm_rules.specs.Graphs.{FirmNode, Firm}
use Rattle.firm_rules.specs.Lookups.{node_at, node_id, preds_of, shape, kind_by}
use Rattle.firm_rules.specs.Rules.{is_phi, ComesTo, Obeys}
use Rattle.firm_rules.proofs.Steps.{Test, alike, apart, test}
use Rattle.firm_rules.proofs.Along.{MeansNothing, along_nothing, along_other, along_phi_first, along_phi, along_elsewhere, along_not_first}
use Rattle.firm_rules.proofs.Nodes.{none_is_not_some, same_some, kind_at, block_at, kind_nothing, OpClass, is_unknown, is_a_phi, is_other, op_class}
use Rattle.firm_rules.proofs.Trivial.{Passed, passed_value, same_meaning}

-- what stands at a place of two lists of which each of the first becomes that of the second
abbrev OptionBecomes : NodeId → NodeId → Option NodeId → Option NodeId → Type 0
OptionBecomes old to None None = Unit {0}
OptionBecomes old to (Some x) (Some y) = Becomes old to x y
OptionBecomes old to one two = ⊥

become_at : (old to : NodeId) (xs ys : List NodeId) → AllBecome old to xs ys → (index : ℕ) → OptionBecomes old to (slice_get xs index) (slice_get ys index)
become_at old to [] [] all index = tt
become_at old to [] (y ∷ ys) all index = absurd all
become_at old to (x ∷ xs) [] all index = absurd all
become_at old to (x ∷ xs) (y ∷ ys) all zero = all.0
become_at old to (x ∷ xs) (y ∷ ys) all (suc index) = become_at old to xs ys all.1 index

is_phi_kind : ValueKind NodeId → Bool
is_phi_kind (phi xs) = true
is_phi_kind kind = false

operands_in : ValueKind NodeId → List NodeId
operands_in (phi xs) = xs
operands_in kind = []

module _ (g : Firm) where
  -- a node that is a Phi in the shape
  record PhiNode (x : NodeId) (operands : List NodeId) : Type 0 where
    node : FirmNode
    is : node_at g x.number ≡ Some node
    op : is_phi node.op ≡ true
    same : operands ≡ map node_id node.operands

  phi_node : (x : NodeId) (operands : List NodeId) → (shape g).kind x ≡ phi operands → PhiNode x operands
  unfolding is_phi_kind operands_in
  phi_node x operands kind = by (node_at g x.number) refl
    where
      nothing_is_no_phi : MeansNothing (shape g) ((shape g).kind x) → ⊥
      nothing_is_no_phi nothing = differ (sym (ap (λ k. met k x [] (λ xs. from x [])) kind) ∙ nothing x [] (λ xs. from x []))
        where
          is_from : Origin NodeId → Bool
          is_from nowhere = false
          is_from (from y visit) = true

          differ : from x [] ≡ nowhere → ⊥
          differ same = true≢false (ap is_from same)

      by : (found : Option FirmNode) → node_at g x.number ≡ found → PhiNode x operands
      by None is = absurd (nothing_is_no_phi (kind_nothing g x.number is))
      by (Some node) is = here (op_class node.op)
        where
          kinds : phi operands ≡ kind_by node.op node.operands
          kinds = sym kind ∙ kind_at g x.number node is

          here : OpClass node.op → PhiNode x operands
          here (is_unknown o) = absurd (true≢false (ap is_phi_kind (kinds ∙ ap (λ y. kind_by y node.operands) o)))
          here (is_a_phi mode o) = record {
            node = node;
            is = is;
            op = ap is_phi o;
            same = ap operands_in (kinds ∙ ap (λ y. kind_by y node.operands) o);
          }
          here (is_other no_phi o) = absurd (true≢false (ap is_phi_kind (kinds ∙ o node.operands)))

module _ (g : Firm) (obeys : Obeys g) (n : ℕ) (node : FirmNode) (is : node_at g n ≡ Some node) (phi_op : is_phi node.op ≡ true)
    (v : ℕ) (each : (index operand : ℕ) → slice_get node.operands index ≡ Some operand → (operand ≡ n) ⊎ (operand ≡ v)) (differs : v ≢ n)
    (t : Shape NodeId) (replaced : IsReplaced (shape g) t (node_id n) (node_id v)) where
  -- each walk to the block passes the value's
  abbrev Over : NodeId → ℕ → Type 0
  Over x b = (u : Walk) → ComesTo g u b → Visits (shape g) u ((shape g).block x)

  over_before : (e : Edge) (w : Walk) (x : NodeId) → slice_get (preds_of g e.into) e.place ≡ Some (end (shape g) w) → ((shape g).block x ≡ e.into → ⊥)
      → Over x e.into → Over x (end (shape g) w)
  over_before e w x edge d over u comes = here (over (e ∷ u) ((subst (λ b. slice_get (preds_of g e.into) e.place ≡ Some b) (sym comes.1) edge, comes.0), refl))
    where
      here : (e.into ≡ (shape g).block x) ⊎ Visits (shape g) u ((shape g).block x) → Visits (shape g) u ((shape g).block x)
      here (inl at) = absurd (d (sym at))
      here (inr at) = at

  -- the operand of a Phi is defined at the end of the predecessor
  over_operand : (e : Edge) (w : Walk) (x o : NodeId) (operands : List NodeId) → slice_get (preds_of g e.into) e.place ≡ Some (end (shape g) w)
      → (shape g).kind x ≡ phi operands → (shape g).block x ≡ e.into → slice_get operands e.place ≡ Some o → Over o (end (shape g) w)
  over_operand e w x o operands edge kind home at u comes = by (slice_get p.node.operands e.place) refl
    where
      p : PhiNode g x operands
      p = phi_node g x operands kind

      block_is : p.node.block ≡ e.into
      block_is = sym (block_at g x.number p.node p.is) ∙ home

      mapped : option_map node_id (slice_get p.node.operands e.place) ≡ Some o
      mapped = sym (slice_get-map node_id p.node.operands e.place) ∙ ap (λ xs. slice_get xs e.place) (sym p.same) ∙ at

      used : (b : Bool) → b ≡ true → slice_get (preds_of g p.node.block) e.place ≡ Some (end (shape g) w)
          → MatchBool b (slice_get (preds_of g p.node.block) e.place ≡ Some (end (shape g) w)) (p.node.block ≡ end (shape g) w)
      used true _ pred = pred
      used false no_phi pred = absurd (true≢false (sym no_phi))

      by : (found : Option ℕ) → slice_get p.node.operands e.place ≡ found → Visits (shape g) u ((shape g).block o)
      by None found = absurd (none_is_not_some o (sym (ap (option_map node_id) found) ∙ mapped))
      by (Some k) found =
          let pred = subst (λ b. slice_get (preds_of g b) e.place ≡ Some (end (shape g) w)) (sym block_is) edge in
          let defined = (obeys.nodes x.number p.node p.is).operands_defined e.place k (end (shape g) w) found (used (is_phi p.node.op) p.op pred) in
          let is_o = same_some (node_id k) o (sym (ap (option_map node_id) found) ∙ mapped) in
          subst (λ y. Visits (shape g) u ((shape g).block y)) is_o
          (subst (Visits (shape g) u) (sym (block_at g k defined.0 defined.1)) (defined.2 u comes))

  -- all values at a walk's end
  abbrev Kept : Walk → Type 0
  Kept w = (x y : NodeId) → Becomes (node_id n) (node_id v) x y → Over x (end (shape g) w) → along t w y ≡ along (shape g) w x

  -- those that are not replaced
  abbrev OthersKept : Walk → Type 0
  OthersKept w = (x : NodeId) → (x ≡ node_id n → ⊥) → Over x (end (shape g) w) → along t w x ≡ along (shape g) w x

  kept_by : (w : Walk) → IsWalk (shape g) w → OthersKept w → Kept w
  kept_by w walk others x y (inr same) over = ap (along t w) same.1 ∙ others x same.0 over
  kept_by w walk others x y (inl same) over =
      let passed = passed_node in
      ap (along t w) same.1
      ∙ others (node_id v) (λ e. differs (ap (λ (z : NodeId). z.number) e)) (λ u comes. passed_value g obeys n node is phi_op v each u comes.0 (passed u comes))
      ∙ sym (same_meaning g obeys n node is phi_op v each w walk passed)
      ∙ ap (along (shape g) w) (sym same.0)
    where
      passed_node : Passed g obeys n node is phi_op v each (end (shape g) w)
      passed_node u comes = subst (Visits (shape g) u) (ap (shape g).block same.0 ∙ block_at g n node is) (over u comes)

  nothing_kept : (w : Walk) (x : NodeId) → MeansNothing (shape g) ((shape g).kind x) → t.kind x ≡ (shape g).kind x → along t w x ≡ along (shape g) w x
  nothing_kept w x nothing same =
      along_nothing t w x (subst (λ k. (y : NodeId) (visit : Walk) (next : List NodeId → Origin NodeId) → met k y visit next ≡ nowhere) (sym same) nothing)
      ∙ sym (along_nothing (shape g) w x nothing)

  block_same : (x : NodeId) → t.block x ≡ (shape g).block x
  block_same x = replaced.block x

  first_kept : OthersKept []
  first_kept x other_value over = by ((shape g).kind x) refl (replaced.kinds x other_value)
    where
      by : (kind : ValueKind NodeId) → (shape g).kind x ≡ kind → KindBecomes (node_id n) (node_id v) kind (t.kind x) → along t [] x ≡ along (shape g) [] x
      by absent is_kind same = nothing_kept [] x (subst (MeansNothing (shape g)) (sym is_kind) (λ y visit next. refl)) (same ∙ sym is_kind)
      by gone is_kind same = nothing_kept [] x (subst (MeansNothing (shape g)) (sym is_kind) (λ y visit next. refl)) (same ∙ sym is_kind)
      by unknown is_kind same = nothing_kept [] x (subst (MeansNothing (shape g)) (sym is_kind) (λ y visit next. refl)) (same ∙ sym is_kind)
      by (phi operands) is_kind becomes =
          along_phi_first t x becomes.new_operands becomes.is ∙ sym (along_phi_first (shape g) x operands is_kind)
      by other is_kind same = here (test ((shape g).block x) (shape g).first)
        where
          here : Test ((shape g).block x) (shape g).first → along t [] x ≡ along (shape g) [] x
          here (alike at _) =
              along_other t [] x same (block_same x ∙ at ∙ sym replaced.same_blocks.first) ∙ sym (along_other (shape g) [] x is_kind at)
          here (apart d _) =
              along_not_first t x (λ at. d (sym (block_same x) ∙ at ∙ replaced.same_blocks.first)) ∙ sym (along_not_first (shape g) x d)

  next_kept : (e : Edge) (w : Walk) → IsWalk (shape g) (e ∷ w) → Kept w → OthersKept (e ∷ w)
  next_kept e w walk earlier x other_value over = by ((shape g).kind x) refl (replaced.kinds x other_value)
    where
      elsewhere : ((shape g).block x ≡ e.into → ⊥) → along t (e ∷ w) x ≡ along (shape g) (e ∷ w) x
      elsewhere d =
          along_elsewhere t e w x (λ at. d (sym (block_same x) ∙ at))
          ∙ earlier x x (inr (other_value, refl)) (over_before e w x walk.0 d over)
          ∙ sym (along_elsewhere (shape g) e w x d)

      by : (kind : ValueKind NodeId) → (shape g).kind x ≡ kind → KindBecomes (node_id n) (node_id v) kind (t.kind x) → along t (e ∷ w) x ≡ along (shape g) (e ∷ w) x
      by absent is_kind same = nothing_kept (e ∷ w) x (subst (MeansNothing (shape g)) (sym is_kind) (λ y visit next. refl)) (same ∙ sym is_kind)
      by gone is_kind same = nothing_kept (e ∷ w) x (subst (MeansNothing (shape g)) (sym is_kind) (λ y visit next. refl)) (same ∙ sym is_kind)
      by unknown is_kind same = nothing_kept (e ∷ w) x (subst (MeansNothing (shape g)) (sym is_kind) (λ y visit next. refl)) (same ∙ sym is_kind)
      by other is_kind same = here (test ((shape g).block x) e.into)
        where
          here : Test ((shape g).block x) e.into → along t (e ∷ w) x ≡ along (shape g) (e ∷ w) x
          here (alike at _) = along_other t (e ∷ w) x same (block_same x ∙ at) ∙ sym (along_other (shape g) (e ∷ w) x is_kind at)
          here (apart d _) = elsewhere d
      by (phi operands) is_kind becomes = here (test ((shape g).block x) e.into)
        where
          operand : (old new : Option NodeId) → slice_get operands e.place ≡ old → OptionBecomes (node_id n) (node_id v) old new → (shape g).block x ≡ e.into
              → operand_at new (along t w) ≡ operand_at old (along (shape g) w)
          operand None None is_old become at = refl
          operand None (Some y) is_old become at = absurd become
          operand (Some o) None is_old become at = absurd become
          operand (Some o) (Some y) is_old become at = earlier o y become (over_operand e w x o operands walk.0 is_kind at is_old)

          here : Test ((shape g).block x) e.into → along t (e ∷ w) x ≡ along (shape g) (e ∷ w) x
          here (alike at _) =
              along_phi t e w x becomes.new_operands becomes.is (block_same x ∙ at)
              ∙ operand (slice_get operands e.place) (slice_get becomes.new_operands e.place) refl (become_at (node_id n) (node_id v) operands becomes.new_operands becomes.each e.place) at
              ∙ sym (along_phi (shape g) e w x operands is_kind at)
          here (apart d _) = elsewhere d

  pub kept : (w : Walk) → IsWalk (shape g) w → Kept w
  kept [] walk = kept_by [] walk first_kept
  kept (e ∷ w) walk = kept_by (e ∷ w) walk (next_kept e w walk (kept w walk.1))
