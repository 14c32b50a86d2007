-- A graph in which a trivial Phi was replaced by its other value: the rules but that on memory.
use Rattle.std.proofs.Common.{◌≡◌, ◌≢◌, refl, sym, ap, ◌∙◌, subst, ℕ, zero, suc, ◌<◌, ◌==◌, arith, le_refl, ◌⊎◌, inl, inr, Bool, true, false, true≢false, List, [], ◌∷◌, length, Option, Some, None}
use Rattle.std.specs.Prelude.{slice_get, map, option_map, count_by, MatchBool}
use Rattle.std.specs.List.{position_or_len}
use Rattle.std.proofs.lemmas.List.{length-map}
use Rattle.std.proofs.lemmas.Option.{slice_get-map}
use Rattle.ssa_core.specs.Walks.{Walk, end, IsWalk, Visits}
use Rattle.firm_rules.specs.declared.node.Mode.{Mode}
use Rattle.firm_rules.specs.declared.node.Mode.TheVariants.{Word}
use Rattle.firm_rules.specs.declared.node.FirmEnd.{FirmEnd}
use Rattle.firm_rules.specs.declared.node.FirmEnd.TheVariants.{Jump, Branch, Return}
use Rattle.firm_rules.specs.Graphs.{FirmNode, Firm, Operands, exactly, memory_and_words, all_of, mode_of, operands_of}
use Rattle.firm_rules.specs.Lookups.{node_at, node_id, mode_at, first_of, rank, IsBlock, preds_of, end_of, targets, shape}
use Rattle.firm_rules.specs.Rules.{is_phi, HaveMode, OperandsFit, EndFits, PhiIsFull, IsOperand, Leads, at_once, onward, ComesTo, IsEdge, IsStartOf, FirstFits, OtherFits, IsEnteredAtHead, IsDefined, IsUsed, OperandsDefined, uses, EndDefined, EdgesFit, Obeys, IsWhole}
use Rattle.firm_rules.proofs.Steps.{Test, alike, apart, test}
use Rattle.firm_rules.proofs.Nodes.{none_is_not_some, same_some, block_at}
use Rattle.firm_rules.proofs.Trivial.{passed_value, no_walk_to_value, up_to}
use Rattle.firm_rules.specs.Replacing.{renamed, renamed_end, Alike, IsRenamed}
use Rattle.firm_rules.proofs.Renamed.{renamed_old, renamed_other}

module _ (g : Firm) (obeys : Obeys g) (whole : IsWhole g) (old : ℕ) (node : FirmNode) (is : node_at g old ≡ Some node) (phi_op : is_phi node.op ≡ true)
    (to : ℕ) (each : (index operand : ℕ) → slice_get node.operands index ≡ Some operand → (operand ≡ old) ⊎ (operand ≡ to)) (differs : to ≢ old)
    (same_mode : mode_at g to ≡ mode_at g old) (h : Firm) (r : IsRenamed g h old to) where
  abbrev ren : ℕ → ℕ
  ren m = renamed old to m

  -- ---- nodes

  -- a node that is there was so before
  pub record Was (m : ℕ) (y : FirmNode) : Type 0 where
    pub before : FirmNode
    pub is_before : node_at g m ≡ Some before
    pub not_old : m ≢ old
    pub op : y.op ≡ before.op
    pub block : y.block ≡ before.block
    pub operands : y.operands ≡ map (renamed old to) before.operands

  pub was : (m : ℕ) (y : FirmNode) → node_at h m ≡ Some y → Was m y
  was m y there = by (node_at g m) refl (subst (Alike old to (node_at g m)) there (r.nodes m not_old))
    where
      not_old : m ≢ old
      not_old same = none_is_not_some y (sym r.gone ∙ ap (node_at h) (sym same) ∙ there)

      by : (found : Option FirmNode) → node_at g m ≡ found → Alike old to found (Some y) → Was m y
      by None e alike_nodes = absurd alike_nodes
      by (Some x) e alike_nodes = record { before = x; is_before = e; not_old = not_old; op = alike_nodes.0; block = alike_nodes.1.0; operands = alike_nodes.1.1 }

  -- an operand is a renamed one
  pub record Renames (xs : List ℕ) (index m : ℕ) : Type 0 where
    pub operand : ℕ
    pub at : slice_get xs index ≡ Some operand
    pub same : renamed old to operand ≡ m

  pub renames : (xs : List ℕ) (index m : ℕ) → slice_get (map (renamed old to) xs) index ≡ Some m → Renames xs index m
  renames xs index m at = by (slice_get xs index) refl (sym (slice_get-map (renamed old to) xs index) ∙ at)
    where
      by : (found : Option ℕ) → slice_get xs index ≡ found → option_map (renamed old to) found ≡ Some m → Renames xs index m
      by None e same = absurd (none_is_not_some m same)
      by (Some z) e same = record { operand = z; at = e; same = same_some (renamed old to z) m same }

  -- ---- 1 and 2

  mode_same : (m : ℕ) → m ≢ old → mode_at h m ≡ mode_at g m
  mode_same m d = by (node_at g m) (node_at h m) (r.nodes m d)
    where
      modes : Option FirmNode → Option Mode
      modes found = option_map (λ (x : FirmNode). mode_of x.op) found

      by : (one two : Option FirmNode) → Alike old to one two → option_map (λ (x : FirmNode). mode_of x.op) two ≡ option_map (λ (x : FirmNode). mode_of x.op) one
      by None None alike_nodes = refl
      by None (Some y) alike_nodes = absurd alike_nodes
      by (Some x) None alike_nodes = absurd alike_nodes
      by (Some x) (Some y) alike_nodes = ap (λ o. Some (mode_of o)) alike_nodes.0

  mode_renamed : (m : ℕ) → mode_at h (renamed old to m) ≡ mode_at g m
  mode_renamed m = by (test m old)
    where
      by : Test m old → mode_at h (renamed old to m) ≡ mode_at g m
      by (apart d _) = ap (mode_at h) (renamed_other old to m d) ∙ mode_same m d
      by (alike same _) =
          ap (λ x. mode_at h (renamed old to x)) same ∙ ap (mode_at h) (renamed_old old to) ∙ mode_same to differs ∙ same_mode ∙ ap (mode_at g) (sym same)

  modes_renamed : (xs : List ℕ) → map (mode_at h) (map (renamed old to) xs) ≡ map (mode_at g) xs
  modes_renamed [] = refl
  modes_renamed (x ∷ xs) = ap (λ y. y ∷ map (mode_at h) (map (renamed old to) xs)) (mode_renamed x) ∙ ap (λ ys. mode_at g x ∷ ys) (modes_renamed xs)

  have_renamed : (mode : Mode) (xs : List ℕ) → HaveMode g mode xs → HaveMode h mode (map (renamed old to) xs)
  have_renamed mode xs have index m at =
      let before = renames xs index m at in ap (mode_at h) (sym before.same) ∙ mode_renamed before.operand ∙ have index before.operand before.at

  fit_renamed : (modes : Operands) (xs : List ℕ) → OperandsFit g modes xs → OperandsFit h modes (map (renamed old to) xs)
  fit_renamed (exactly modes) xs fit = modes_renamed xs ∙ fit
  fit_renamed memory_and_words [] fit = fit
  fit_renamed memory_and_words (m ∷ rest) fit = (mode_renamed m ∙ fit.0, have_renamed Word rest fit.1)
  fit_renamed (all_of mode) xs fit = (fit.0, have_renamed mode xs fit.1)

  pub operands_fit : (m : ℕ) (y : FirmNode) → node_at h m ≡ Some y → OperandsFit h (operands_of y.op) y.operands
  operands_fit m y there =
      let w = was m y there in
      subst (λ xs. OperandsFit h (operands_of y.op) xs) (sym w.operands)
      (subst (λ o. OperandsFit h (operands_of o) (map (renamed old to) w.before.operands)) (sym w.op)
      (fit_renamed (operands_of w.before.op) w.before.operands (obeys.nodes m w.before w.is_before).operands_fit))

  end_renamed : (found : Option FirmEnd) → EndFits g found → EndFits h (option_map (renamed_end old to) found)
  end_renamed (Some (Jump b)) fit = tt
  end_renamed (Some (Branch n first second)) fit = mode_renamed n.number ∙ fit
  end_renamed (Some (Return m (Some value))) fit = (mode_renamed m.number ∙ fit.0, mode_renamed value.number ∙ fit.1)
  end_renamed (Some (Return m None)) fit = mode_renamed m.number ∙ fit
  end_renamed None fit = fit

  pub block_before : (b : ℕ) → IsBlock h b → IsBlock g b
  block_before b block = subst (λ order. position_or_len (λ c. c == b) order < length order) r.order block

  block_after : (b : ℕ) → IsBlock g b → IsBlock h b
  block_after b block = subst (λ order. position_or_len (λ c. c == b) order < length order) (sym r.order) block

  pub end_fits : (b : ℕ) → IsBlock h b → EndFits h (end_of h b)
  end_fits b block = subst (EndFits h) (sym (r.ends b)) (end_renamed (end_of g b) (obeys.blocks b (block_before b block)).end_fits)

  pub phi_is_full : (m : ℕ) (y : FirmNode) → node_at h m ≡ Some y → PhiIsFull h y
  phi_is_full m y there phi =
      let w = was m y there in
      ap length w.operands ∙ length-map w.before.operands (renamed old to)
      ∙ (obeys.nodes m w.before w.is_before).phi_is_full (ap is_phi (sym w.op) ∙ phi)
      ∙ ap length (sym (r.preds w.before.block) ∙ ap (preds_of h) (sym w.block))

  -- ---- walks

  pub end_before : (w : Walk) → end (shape h) w ≡ end (shape g) w
  end_before [] = ap first_of r.order
  end_before (e ∷ w) = refl

  pub walk_before : (w : Walk) → IsWalk (shape h) w → IsWalk (shape g) w
  walk_before [] walk = tt
  walk_before (e ∷ w) walk = (ap (λ preds. slice_get preds e.place) (sym (r.preds e.into)) ∙ walk.0 ∙ ap Some (end_before w), walk_before w walk.1)

  pub comes_before : (w : Walk) (b : ℕ) → ComesTo h w b → ComesTo g w b
  comes_before w b comes = (walk_before w comes.0, sym (end_before w) ∙ comes.1)

  visits_after : (w : Walk) (b : ℕ) → Visits (shape g) w b → Visits (shape h) w b
  visits_after [] b at = ap first_of r.order ∙ at
  visits_after (e ∷ w) b (inl at) = inl at
  visits_after (e ∷ w) b (inr at) = inr (visits_after w b at)

  -- each block of the order is reached
  reach : (k : ℕ) (b : ℕ) → rank g b < k → IsBlock g b → (w : Walk) × ComesTo g w b
  reach zero b less block = absurd (omega (arith, less))
  reach (suc k) b less block = by (test b (first_of g.order)) (reach k)
    where
      by : Test b (first_of g.order) → ((c : ℕ) → rank g c < k → IsBlock g c → (w : Walk) × ComesTo g w c) → (w : Walk) × ComesTo g w b
      by (alike same _) earlier = ([], (tt, sym same))
      by (apart d _) earlier =
          let entered = ((obeys.blocks b block).other_fits d).entered_earlier in
          let before = earlier entered.0 (omega (arith, less, entered.2)) (omega (arith, entered.2, block)) in
          (record { into = b; place = entered.1.0 } ∷ before.0, ((entered.1.1 ∙ ap Some (sym before.1.1), before.1.0), refl))

  pub reached : (b : ℕ) → IsBlock g b → (w : Walk) × ComesTo g w b
  reached b block = reach (suc (rank g b)) b (le_refl (suc (rank g b))) block

  -- ---- 7

  to_there : (found : Option FirmNode) → node_at g to ≡ found → (x : FirmNode) × (node_at g to ≡ Some x)
  to_there (Some x) e = (x, e)
  to_there None e = absurd (none_is_not_some (mode_of node.op)
      (sym (ap (option_map (λ (x : FirmNode). mode_of x.op)) e) ∙ same_mode ∙ ap (option_map (λ (x : FirmNode). mode_of x.op)) is))

  -- a node that is not the Phi is there with its block
  there_after : (m : ℕ) (x : FirmNode) → m ≢ old → node_at g m ≡ Some x → (y : FirmNode) × (node_at h m ≡ Some y) × (y.block ≡ x.block) × (y.op ≡ x.op)
  there_after m x d e = by (node_at h m) refl (subst (λ z. Alike old to z (node_at h m)) e (r.nodes m d))
    where
      by : (found : Option FirmNode) → node_at h m ≡ found → Alike old to (Some x) found → (y : FirmNode) × (node_at h m ≡ Some y) × (y.block ≡ x.block) × (y.op ≡ x.op)
      by None there alike_nodes = absurd alike_nodes
      by (Some y) there alike_nodes = (y, there, alike_nodes.1.0, alike_nodes.0)

  pub defined_after : (m b : ℕ) → IsDefined g m b → IsDefined h (renamed old to m) b
  defined_after m b defined = by (test m old)
    where
      moved : (x : ℕ) (z : FirmNode) → x ≢ old → node_at g x ≡ Some z → ((w : Walk) → ComesTo g w b → Visits (shape g) w z.block) → IsDefined h x b
      moved x z d e visits =
          let after = there_after x z d e in
          (after.0, after.1, λ w comes. visits_after w after.0.block (subst (Visits (shape g) w) (sym after.2) (visits w (comes_before w b comes))))

      by : Test m old → IsDefined h (renamed old to m) b
      by (apart d _) = subst (λ x. IsDefined h x b) (sym (renamed_other old to m d)) (moved m defined.0 d defined.1 defined.2)
      by (alike same _) =
          let value = to_there (node_at g to) refl in
          subst (λ x. IsDefined h x b) (sym (ap (renamed old to) same ∙ renamed_old old to))
          (moved to value.0 differs value.1 (λ w comes.
          let node_is = same_some defined.0 node (sym defined.1 ∙ ap (node_at g) same ∙ is) in
          subst (Visits (shape g) w) (block_at g to value.0 value.1)
          (passed_value g obeys old node is phi_op to each w comes.0 (subst (λ (x : FirmNode). Visits (shape g) w x.block) node_is (defined.2 w comes)))))

  used_before : (x y : FirmNode) (index b : ℕ) → y.op ≡ x.op → y.block ≡ x.block → IsUsed h y index b → IsUsed g x index b
  used_before x y index b op block used =
      by (is_phi x.op) (subst (λ t. MatchBool t (slice_get (preds_of h y.block) index ≡ Some b) (y.block ≡ b)) (ap is_phi op) used)
    where
      by : (t : Bool) → MatchBool t (slice_get (preds_of h y.block) index ≡ Some b) (y.block ≡ b) → MatchBool t (slice_get (preds_of g x.block) index ≡ Some b) (x.block ≡ b)
      by true at = ap (λ preds. slice_get preds index) (sym (r.preds x.block) ∙ ap (preds_of h) (sym block)) ∙ at
      by false at = sym block ∙ at

  pub operands_defined : (m : ℕ) (y : FirmNode) → node_at h m ≡ Some y → OperandsDefined h y
  operands_defined m y there index operand b at used =
      let w = was m y there in
      let before = renames w.before.operands index operand (ap (λ xs. slice_get xs index) (sym w.operands) ∙ at) in
      subst (λ x. IsDefined h x b) before.same
      (defined_after before.operand b ((obeys.nodes m w.before w.is_before).operands_defined index before.operand b before.at (used_before w.before y index b w.op w.block used)))

  uses_after : (found : Option FirmEnd) → uses (option_map (renamed_end old to) found) ≡ map (renamed old to) (uses found)
  uses_after (Some (Jump b)) = refl
  uses_after (Some (Branch n first second)) = refl
  uses_after (Some (Return m (Some value))) = refl
  uses_after (Some (Return m None)) = refl
  uses_after None = refl

  pub end_defined : (b : ℕ) → IsBlock h b → EndDefined h b
  end_defined b block index operand at =
      let before = renames (uses (end_of g b)) index operand (ap (λ xs. slice_get xs index) (sym (ap uses (r.ends b) ∙ uses_after (end_of g b))) ∙ at) in
      subst (λ x. IsDefined h x b) before.same (defined_after before.operand b ((obeys.blocks b (block_before b block)).end_defined index before.operand before.at))

  -- ---- 3: no node leads to one whose block does not stand before it

  abbrev block_in : ℕ → ℕ
  block_in m = (shape g).block (node_id m)

  -- each walk to the one block passes the other
  abbrev Over : ℕ → ℕ → Type 0
  Over b c = (w : Walk) → ComesTo g w b → Visits (shape g) w c

  over_over : (a b c : ℕ) → Over a b → Over b c → Over a c
  over_over a b c one other w comes =
      let part = up_to g obeys old node is phi_op to each w b comes.0 (one w comes) in part.on_walk c (other part.part part.comes)

  over_itself : (b : ℕ) → Over b b
  over_itself b [] comes = comes.1
  over_itself b (e ∷ w) comes = inl comes.1

  -- an operand of a node in the new graph, by what it was
  record WasEdge (a c : ℕ) : Type 0 where
    operand : ℕ
    edge : IsOperand g a operand
    same : renamed old to operand ≡ c

  edge_before : (a c : ℕ) → IsOperand h a c → WasEdge a c
  edge_before a c e =
      let w = was a e.node e.is in
      let before = renames w.before.operands e.index c (ap (λ xs. slice_get xs e.index) (sym w.operands) ∙ e.at) in
      record {
        operand = before.operand;
        edge = record { node = w.before; is = w.is_before; no_phi = ap is_phi (sym w.op) ∙ e.no_phi; index = e.index; at = before.at };
        same = before.same;
      }

  over_before : (a m : ℕ) → IsOperand g a m → Over (block_in a) (block_in m)
  over_before a m e w comes =
      let defined = (obeys.nodes a e.node e.is).operands_defined e.index m e.node.block e.at (used (is_phi e.node.op) e.no_phi) in
      subst (Visits (shape g) w) (sym (block_at g m defined.0 defined.1)) (defined.2 w (comes.0, comes.1 ∙ block_at g a e.node e.is))
    where
      used : (t : Bool) → t ≡ false → MatchBool t (slice_get (preds_of g e.node.block) e.index ≡ Some e.node.block) (e.node.block ≡ e.node.block)
      used true no_phi = absurd (true≢false no_phi)
      used false no_phi = refl

  -- where the Phi is used, its block has been passed, and so has the value's
  over_old : (a : ℕ) → IsOperand g a old → Over (block_in a) node.block
  over_old a e w comes = subst (Visits (shape g) w) (block_at g old node is) (over_before a old e w comes)

  over_step : (a c : ℕ) → IsOperand h a c → Over (block_in a) (block_in c)
  over_step a c e = by (edge_before a c e)
    where
      by : WasEdge a c → Over (block_in a) (block_in c)
      by b = here (test b.operand old)
        where
          here : Test b.operand old → Over (block_in a) (block_in c)
          here (apart d _) = subst (λ x. Over (block_in a) (block_in x)) (sym (renamed_other old to b.operand d) ∙ b.same) (over_before a b.operand b.edge)
          here (alike at _) =
              subst (λ x. Over (block_in a) (block_in x)) (sym (renamed_old old to) ∙ ap (renamed old to) (sym at) ∙ b.same)
              (λ w comes. passed_value g obeys old node is phi_op to each w comes.0 (over_old a (subst (IsOperand g a) at b.edge) w comes))

  over_leads : (a c : ℕ) → Leads h a c → Over (block_in a) (block_in c)
  over_leads a c (at_once e) = over_step a c e
  over_leads a c (onward next e rest) = over_over (block_in a) (block_in next) (block_in c) (over_step a next e) (over_leads next c rest)

  -- the way goes through a use of the Phi
  record Crosses (a c : ℕ) : Type 0 where
    user : ℕ
    uses_old : IsOperand g user old
    before : (a ≡ user) ⊎ Leads h a user
    after : (to ≡ c) ⊎ Leads h to c

  one_edge : (a c : ℕ) → IsOperand h a c → IsOperand g a c ⊎ (IsOperand g a old × (to ≡ c))
  one_edge a c e = by (edge_before a c e)
    where
      by : WasEdge a c → IsOperand g a c ⊎ (IsOperand g a old × (to ≡ c))
      by b = here (test b.operand old)
        where
          here : Test b.operand old → IsOperand g a c ⊎ (IsOperand g a old × (to ≡ c))
          here (apart d _) = inl (subst (IsOperand g a) (sym (renamed_other old to b.operand d) ∙ b.same) b.edge)
          here (alike at _) = inr (subst (IsOperand g a) at b.edge, sym (renamed_old old to) ∙ ap (renamed old to) (sym at) ∙ b.same)

  way : (a c : ℕ) → Leads h a c → Leads g a c ⊎ Crosses a c
  way a c (at_once e) = by (one_edge a c e)
    where
      by : IsOperand g a c ⊎ (IsOperand g a old × (to ≡ c)) → Leads g a c ⊎ Crosses a c
      by (inl edge) = inl (at_once edge)
      by (inr crossing) = inr (record { user = a; uses_old = crossing.0; before = inl refl; after = inl crossing.1 })
  way a c (onward next e rest) = by (one_edge a next e) (way next c rest)
    where
      joined : (x : ℕ) → (next ≡ x) ⊎ Leads h next x → Leads h a x
      joined x (inl same) = subst (Leads h a) same (at_once e)
      joined x (inr more) = onward next e more

      by : IsOperand g a next ⊎ (IsOperand g a old × (to ≡ next)) → Leads g next c ⊎ Crosses next c → Leads g a c ⊎ Crosses a c
      by (inl edge) (inl more) = inl (onward next edge more)
      by (inr crossing) (inl more) =
          inr (record { user = a; uses_old = crossing.0; before = inl refl; after = inr (subst (λ x. Leads h x c) (sym crossing.1) rest) })
      by first (inr cross) = inr (record { user = cross.user; uses_old = cross.uses_old; before = inr (joined cross.user cross.before); after = cross.after })

  pub no_cycle : (n : ℕ) → Leads h n n → ⊥
  no_cycle n leads = by (way n n leads)
    where
      over_way : (a c : ℕ) → (a ≡ c) ⊎ Leads h a c → Over (block_in a) (block_in c)
      over_way a c (inl same) = subst (λ x. Over (block_in a) (block_in x)) same (over_itself (block_in a))
      over_way a c (inr more) = over_leads a c more

      of_first : (m : ℕ) → Leads g n m → (x : FirmNode) × (node_at g n ≡ Some x)
      of_first m (at_once e) = (e.node, e.is)
      of_first m (onward next e rest) = (e.node, e.is)

      by : Leads g n n ⊎ Crosses n n → ⊥
      by (inl cycle) = let x = of_first n cycle in (obeys.nodes n x.0 x.1).no_cycle cycle
      by (inr cross) =
          let value = to_there (node_at g to) refl in
          let start = reached (block_in to) (subst (IsBlock g) (sym (block_at g to value.0 value.1)) (whole.stands to value.0 value.1).0) in
          no_walk_to_value g obeys old node is phi_op to each start.0 start.1
          (over_over (block_in to) (block_in cross.user) node.block
          (over_over (block_in to) (block_in n) (block_in cross.user) (over_way to n cross.after) (over_way n cross.user cross.before))
          (over_old cross.user cross.uses_old))

  -- ---- 5, 6 and 8

  rank_same : (b : ℕ) → rank h b ≡ rank g b
  rank_same b = ap (λ order. position_or_len (λ c. c == b) order) r.order

  edge_same : (from target : ℕ) → IsEdge h from target → IsEdge g from target
  edge_same from target e = (e.0, ap (λ preds. slice_get preds e.0) (sym (r.preds target)) ∙ e.1)

  start_before : (b n : ℕ) → IsStartOf h b n → IsStartOf g b n
  start_before b n s = let w = was n s.0 s.1 in (w.before, w.is_before, sym w.op ∙ s.2, sym w.block ∙ s.3)

  start_after : (b n : ℕ) → IsStartOf g b n → IsStartOf h b n
  start_after b n s = let y = there_after n s.0 not_old s.1 in (y.0, y.1, y.3 ∙ s.2, y.2 ∙ s.3)
    where
      not_old : n ≢ old
      not_old same = true≢false (sym phi_op ∙ ap (λ (x : FirmNode). is_phi x.op) (same_some node s.0 (sym is ∙ ap (node_at g) (sym same) ∙ s.1)) ∙ ap is_phi s.2)

  pub first_fits : (b : ℕ) → IsBlock h b → b ≡ first_of h.order → FirstFits h b
  first_fits b block same =
      let fits = (obeys.blocks b (block_before b block)).first_fits (same ∙ ap first_of r.order) in
      record {
        no_preds = r.preds b ∙ fits.no_preds;
        no_phi = λ n y there at. let w = was n y there in ap is_phi w.op ∙ fits.no_phi n w.before w.is_before (sym w.block ∙ at);
        start = (fits.start.0, start_after b fits.start.0 fits.start.1, λ m s. fits.start.2 m (start_before b m s));
      }

  pub other_fits : (b : ℕ) → IsBlock h b → b ≢ first_of h.order → OtherFits h b
  other_fits b block differ =
      let fits = (obeys.blocks b (block_before b block)).other_fits (λ same. differ (same ∙ sym (ap first_of r.order))) in
      record {
        no_start = λ n s. fits.no_start n (start_before b n s);
        entered_earlier = (
          fits.entered_earlier.0,
          (fits.entered_earlier.1.0, ap (λ preds. slice_get preds fits.entered_earlier.1.0) (r.preds b) ∙ fits.entered_earlier.1.1),
          omega (arith, rank_same fits.entered_earlier.0, rank_same b, fits.entered_earlier.2),
        );
      }

  pub entered_at_head : (b : ℕ) → IsBlock h b → IsEnteredAtHead h b
  entered_at_head b block head from target back not_later edge outside after upto =
      (obeys.blocks b (block_before b block)).entered_at_head head from target (edge_same b head back)
      (omega (arith, rank_same head, rank_same b, not_later)) (edge_same from target edge) (moved outside)
      (omega (arith, rank_same head, rank_same target, after)) (omega (arith, rank_same target, rank_same b, upto))
    where
      moved : (rank h from < rank h head) ⊎ (rank h b < rank h from) → (rank g from < rank g head) ⊎ (rank g b < rank g from)
      moved (inl less) = inl (omega (arith, rank_same from, rank_same head, less))
      moved (inr more) = inr (omega (arith, rank_same b, rank_same from, more))

  targets_after : (found : Option FirmEnd) → targets (option_map (renamed_end old to) found) ≡ targets found
  targets_after (Some (Jump b)) = refl
  targets_after (Some (Branch n first second)) = refl
  targets_after (Some (Return m value)) = refl
  targets_after None = refl

  targets_same : (b : ℕ) → targets (end_of h b) ≡ targets (end_of g b)
  targets_same b = ap targets (r.ends b) ∙ targets_after (end_of g b)

  pub edges_fit : (b : ℕ) → IsBlock h b → EdgesFit h b
  edges_fit b block =
      let fits = (obeys.blocks b (block_before b block)).edges_fit in
      record {
        alike = λ target there.
            ap (λ preds. count_by (λ c. c == b) preds) (r.preds target) ∙ fits.alike target (block_before target there)
            ∙ sym (ap (λ xs. count_by (λ c. c == target) xs) (targets_same b));
        from_blocks = λ index from at. block_after from (fits.from_blocks index from (ap (λ preds. slice_get preds index) (sym (r.preds b)) ∙ at));
        to_blocks = λ index target at. block_after target (fits.to_blocks index target (ap (λ xs. slice_get xs index) (sym (targets_same b)) ∙ at));
      }
