-- A graph in which a trivial Phi was replaced by its other value obeys the rules.
use Rattle.std.proofs.Common.{◌≡◌, ◌≢◌, refl, sym, ap, ◌∙◌, subst, ℕ, ◌<◌, ◌⊎◌, Bool, true, false, true≢false, List, [], ◌∷◌, length, Option, Some, None}
use Rattle.std.specs.Prelude.{slice_get, option_map}
use Rattle.ssa_core.specs.Walks.{Walk, IsWalk}
use Rattle.firm_rules.specs.declared.node.NodeId.{NodeId}
use Rattle.firm_rules.specs.declared.node.FirmEnd.{FirmEnd}
use Rattle.firm_rules.specs.declared.node.FirmEnd.TheVariants.{Jump, Branch, Return}
use Rattle.firm_rules.specs.Graphs.{FirmNode, Firm}
use Rattle.firm_rules.specs.Lookups.{node_at, mode_at, IsBlock, end_of, shape}
use Rattle.firm_rules.specs.Rules.{is_phi, giver, chain, memory_into, memory_after, ComesTo, MemoryFits, Obeys, IsWhole}
use Rattle.firm_rules.proofs.Nodes.{none_is_not_some, same_some}
use Rattle.firm_rules.specs.Replacing.{renamed, renamed_id, renamed_end, IsRenamed}
use Rattle.firm_rules.proofs.RenamedChains.{acts_same, chain_same}
use Rattle.firm_rules.proofs.RenamedRules.{was, renames, block_before, comes_before, reached, operands_fit, end_fits, phi_is_full, operands_defined, end_defined, no_cycle, first_fits, other_fits, entered_at_head, edges_fit}
use Rattle.firm_rules.proofs.RenamedMemory.{given, giver_after, into_given, after_given, phi_was, phi_same, phi_before}

module _ (g : Firm) (obeys : Obeys g) (whole : IsWhole g) (old : ℕ) (node : FirmNode) (is : node_at g old ≡ Some node) (phi_op : is_phi node.op ≡ true)
    (to : ℕ) (each : (index operand : ℕ) → slice_get node.operands index ≡ Some operand → (operand ≡ old) ⊎ (operand ≡ to)) (differs : to ≢ old)
    (same_mode : mode_at g to ≡ mode_at g old) (h : Firm) (r : IsRenamed g h old to) where
  chain_at : (b : ℕ) → IsBlock g b → chain h b ≡ chain g b
  chain_at b block =
      let way = reached g obeys whole old node is phi_op to each differs same_mode h r b block in
      subst (λ c. chain h c ≡ chain g c) way.1.1 (chain_same g obeys old node is phi_op to each differs h r way.0 way.1.0)

  -- a memory that is taken comes along the walk now where it did so before
  takes_into : (m : ℕ) (w : Walk) → IsWalk (shape g) w → giver g m ≡ memory_into g w → giver h (renamed old to m) ≡ memory_into h w
  takes_into m w walk takes =
      giver_after g obeys whole old node is phi_op to each differs same_mode h r m
      ∙ ap (given g obeys whole old node is phi_op to each differs same_mode h r) takes
      ∙ sym (into_given g obeys whole old node is phi_op to each differs same_mode h r w walk)

  takes_after : (m : ℕ) (w : Walk) → IsWalk (shape g) w → giver g m ≡ memory_after g w → giver h (renamed old to m) ≡ memory_after h w
  takes_after m w walk takes =
      giver_after g obeys whole old node is phi_op to each differs same_mode h r m
      ∙ ap (given g obeys whole old node is phi_op to each differs same_mode h r) takes
      ∙ sym (after_given g obeys whole old node is phi_op to each differs same_mode h r w walk
      (into_given g obeys whole old node is phi_op to each differs same_mode h r w walk))

  record WasReturn (found : Option FirmEnd) (m : NodeId) : Type 0 where
    memory : NodeId
    value : Option NodeId
    is_end : found ≡ Some (Return memory value)
    same : renamed_id old to memory ≡ m

  was_return : (found : Option FirmEnd) (m : NodeId) (value : Option NodeId) → option_map (renamed_end old to) found ≡ Some (Return m value) → WasReturn found m
  was_return None m value e = absurd (none_is_not_some (Return m value) e)
  was_return (Some (Return k v)) m value e = record { memory = k; value = v; is_end = refl; same = ap returned (same_some (Return (renamed_id old to k) (option_map (renamed_id old to) v)) (Return m value) e) }
    where
      returned : FirmEnd → NodeId
      returned (Return x y) = x
      returned other = m
  was_return (Some (Jump b)) m value e = absurd (true≢false (ap is_return (same_some (Jump b) (Return m value) e)))
    where
      is_return : FirmEnd → Bool
      is_return (Return x y) = false
      is_return other = true
  was_return (Some (Branch n first second)) m value e = absurd (true≢false (ap is_return (same_some (Branch (renamed_id old to n) first second) (Return m value) e)))
    where
      is_return : FirmEnd → Bool
      is_return (Return x y) = false
      is_return other = true

  memory_fits : (b : ℕ) → IsBlock h b → MemoryFits h b
  memory_fits b block_h = record {
    one_chain = λ n act.
        let found = fits.one_chain n (sym (acts_same g obeys old node is phi_op to each differs h r b n) ∙ act) in
        (found.0, ap (λ ns. slice_get ns found.0) (chain_at b block) ∙ found.1);
    first_takes = λ n rest y m others w chain_is there operands comes.
        let x = was g obeys whole old node is phi_op to each differs same_mode h r n y there in
        let first = renames g obeys whole old node is phi_op to each differs same_mode h r x.before.operands 0 m
        (ap (λ xs. slice_get xs 0) (sym x.operands ∙ operands)) in
        let before = comes_before g obeys whole old node is phi_op to each differs same_mode h r w b comes in
        ap (giver h) (sym first.same) ∙ takes_into first.operand w before.0
        (first_before n rest x.before x.is_before first.operand first.at w (sym (chain_at b block) ∙ chain_is) before);
    one_phi = λ n y there at op.
        let before = phi_was g obeys whole old node is phi_op to each differs same_mode h r b block n y there at op in
        phi_same g obeys whole old node is phi_op to each differs same_mode h r b block
        (λ is_old. before.1 (same_some n old (sym before.0 ∙ is_old))) ∙ before.0;
    phi_takes = λ n y e m w phi there operand comes.
        let x = was g obeys whole old node is phi_op to each differs same_mode h r n y there in
        let arg = renames g obeys whole old node is phi_op to each differs same_mode h r x.before.operands e.place m
        (ap (λ xs. slice_get xs e.place) (sym x.operands) ∙ operand) in
        let before = comes_before g obeys whole old node is phi_op to each differs same_mode h r (e ∷ w) b comes in
        ap (giver h) (sym arg.same) ∙ takes_after arg.operand w before.0.1
        (fits.phi_takes n x.before e arg.operand w (phi_before g obeys whole old node is phi_op to each differs same_mode h r b block n phi) x.is_before arg.at before);
    return_takes = λ m value w end_is comes.
        let x = was_return (end_of g b) m value (sym (r.ends b) ∙ end_is) in
        let before = comes_before g obeys whole old node is phi_op to each differs same_mode h r w b comes in
        ap (λ (k : NodeId). giver h k.number) (sym x.same) ∙ takes_after x.memory.number w before.0 (fits.return_takes x.memory x.value w x.is_end before);
  }
    where
      block : IsBlock g b
      block = block_before g obeys whole old node is phi_op to each differs same_mode h r b block_h

      fits : MemoryFits g b
      fits = (obeys.blocks b block).memory_fits

      first_before : (n : ℕ) (rest : List ℕ) (x : FirmNode) → node_at g n ≡ Some x → (m : ℕ) → slice_get x.operands 0 ≡ Some m → (w : Walk) → chain g b ≡ n ∷ rest → ComesTo g w b
          → giver g m ≡ memory_into g w
      first_before n rest x there m at w chain_is comes = by x.operands refl at
        where
          by : (xs : List ℕ) → x.operands ≡ xs → slice_get xs 0 ≡ Some m → giver g m ≡ memory_into g w
          by [] e at = absurd (none_is_not_some m at)
          by (z ∷ zs) e at = ap (giver g) (sym (same_some z m at)) ∙ fits.first_takes n rest x z zs w chain_is there e comes

  -- the graph obeys the rules
  pub still_obeys : Obeys h
  still_obeys = record {
    some_block = subst (λ order. 0 < length order) (sym r.order) obeys.some_block;
    nodes = λ n y there. record {
      operands_fit = operands_fit g obeys whole old node is phi_op to each differs same_mode h r n y there;
      phi_is_full = phi_is_full g obeys whole old node is phi_op to each differs same_mode h r n y there;
      no_cycle = no_cycle g obeys whole old node is phi_op to each differs same_mode h r n;
      operands_defined = operands_defined g obeys whole old node is phi_op to each differs same_mode h r n y there;
    };
    blocks = λ b block. record {
      end_fits = end_fits g obeys whole old node is phi_op to each differs same_mode h r b block;
      memory_fits = memory_fits b block;
      first_fits = first_fits g obeys whole old node is phi_op to each differs same_mode h r b block;
      other_fits = other_fits g obeys whole old node is phi_op to each differs same_mode h r b block;
      entered_at_head = entered_at_head g obeys whole old node is phi_op to each differs same_mode h r b block;
      end_defined = end_defined g obeys whole old node is phi_op to each differs same_mode h r b block;
      edges_fit = edges_fit g obeys whole old node is phi_op to each differs same_mode h r b block;
    };
  }
