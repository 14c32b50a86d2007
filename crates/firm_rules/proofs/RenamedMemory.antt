-- A graph in which a trivial Phi was replaced by its other value obeys the rule on memory, and so all rules.
use Rattle.std.proofs.Common.{◌≡◌, ◌≢◌, refl, sym, ap, ◌∙◌, subst, ℕ, zero, suc, ◌+◌, ◌<◌, ◌==◌, arith, ◌⊎◌, inl, inr, Bool, true, false, true≢false, List, [], ◌∷◌, length, Option, Some, None}
use Rattle.std.specs.Prelude.{slice_get, unwrap_or, not, cond, nat_lt, ◌&&◌}
use Rattle.std.specs.List.{position_or_len}
use Rattle.std.proofs.lemmas.Bool.{ltb-true, lt-ltb}
use Rattle.ssa_core.specs.Walks.{Walk, end, IsWalk}
use Rattle.firm_rules.specs.declared.node.NodeOp.{NodeOp}
use Rattle.firm_rules.specs.declared.node.NodeOp.TheVariants.{ProjM, Start}
use Rattle.firm_rules.specs.Graphs.{FirmNode, Firm}
use Rattle.firm_rules.specs.Lookups.{node_at, mode_at, first_of, rank, IsBlock, preds_of, shape}
use Rattle.firm_rules.specs.Rules.{is_phi, is_start, is_memory_phi, giver, giver_in, giver_by, first_node, acts_in, chain, memory_phi, last_of, memory_into, memory_after, Obeys, IsWhole}
use Rattle.firm_rules.proofs.Steps.{Test, alike, apart, test}
use Rattle.firm_rules.proofs.Chains.{both_true, AllAct, chain_acts, Passes, first_passes}
use Rattle.firm_rules.proofs.Nodes.{none_is_not_some, same_some, is_there}
use Rattle.firm_rules.proofs.Stuck.{first_is_block}
use Rattle.firm_rules.proofs.Testing.{equal}
use Rattle.firm_rules.proofs.Trivial.{Operand, operand_of}
use Rattle.firm_rules.specs.Replacing.{renamed, Alike, IsRenamed}
use Rattle.firm_rules.proofs.Renamed.{renamed_old, renamed_other}
use Rattle.firm_rules.proofs.RenamedChains.{node_passes, first_same, giver_same, phi_gives, phi_does_not_act, tuple_of, chain_same}
use Rattle.firm_rules.proofs.RenamedRules.{was, end_before}

-- where a node passes a test, some first one does
found_first : (t : FirmNode → Bool) (xs : List FirmNode) (n : ℕ) (x : FirmNode) → slice_get xs n ≡ Some x → t x ≡ true → position_or_len t xs < length xs
found_first t [] n x at e = absurd (none_is_not_some x at)
found_first t (y ∷ ys) n x at e = by (t y) refl n at (found_first t ys)
  where
    less : (m k : ℕ) → m < k → 1 + m < suc k
    less m k l = omega (arith, l)

    by : (b : Bool) → t y ≡ b → (k : ℕ) → slice_get (y ∷ ys) k ≡ Some x → ((m : ℕ) (z : FirmNode) → slice_get ys m ≡ Some z → t z ≡ true → position_or_len t ys < length ys)
        → position_or_len t (y ∷ ys) < length (y ∷ ys)
    by true yes_y k at_k rest = subst (λ b. cond (not b) (1 + position_or_len t ys) 0 < suc (length ys)) (sym yes_y) (omega arith)
    by false no_y zero at_k rest = absurd (true≢false (sym e ∙ ap t (sym (same_some y x at_k)) ∙ no_y))
    by false no_y (suc k) at_k rest =
        subst (λ b. cond (not b) (1 + position_or_len t ys) 0 < suc (length ys)) (sym no_y) (less (position_or_len t ys) (length ys) (rest k x at_k e))

some_first : (g : Firm) (t : FirmNode → Bool) (n : ℕ) (x : FirmNode) → node_at g n ≡ Some x → t x ≡ true → (m : ℕ) × (first_node g t ≡ Some m)
some_first g t n x there e =
    let at = is_there (slice_get g.nodes n) x there in
    let both = ap (λ b. b && t x) at.1 ∙ e in
    let less = found_first (λ y. y.there && t y) g.nodes n x at.0 both in (
      position_or_len (λ y. y.there && t y) g.nodes,
      ap (λ b. cond b (Some (position_or_len (λ y. y.there && t y) g.nodes)) None) (lt-ltb (position_or_len (λ y. y.there && t y) g.nodes) (length g.nodes) less),
    )

module _ (g : Firm) (obeys : Obeys g) (whole : IsWhole g) (old : ℕ) (node : FirmNode) (is : node_at g old ≡ Some node) (phi_op : is_phi node.op ≡ true)
    (to : ℕ) (each : (index operand : ℕ) → slice_get node.operands index ≡ Some operand → (operand ≡ old) ⊎ (operand ≡ to)) (differs : to ≢ old)
    (same_mode : mode_at g to ≡ mode_at g old) (h : Firm) (r : IsRenamed g h old to) where
  -- what gives a memory now, by what gave it
  pub given : ℕ → ℕ
  given x = renamed old (giver g to) x

  giver_not_old : (m : ℕ) → m ≢ old → giver g m ≢ old
  giver_not_old m d = by (node_at g m) refl
    where
      by : (found : Option FirmNode) → node_at g m ≡ found → giver_in found m ≢ old
      by None e = d
      by (Some x) e = here x.op x.operands refl refl
        where
          here : (o : NodeOp) (operands : List ℕ) → x.op ≡ o → x.operands ≡ operands → giver_by o operands m ≢ old
          here ProjM (t ∷ rest) o operands = tuple_of g obeys old node is phi_op to each differs h r m x t rest e (inl o) operands
          here ProjM [] o operands = d
          here o operands o_is operands_are = d

  given_other : (x : ℕ) → x ≢ old → given x ≡ x
  unfolding given
  given_other x d = renamed_other old (giver g to) x d

  given_old : given old ≡ giver g to
  unfolding given
  given_old = renamed_old old (giver g to)

  pub giver_after : (m : ℕ) → giver h (renamed old to m) ≡ given (giver g m)
  giver_after m = by (test m old)
    where
      by : Test m old → giver h (renamed old to m) ≡ given (giver g m)
      by (apart d _) =
          ap (giver h) (renamed_other old to m d) ∙ giver_same g obeys old node is phi_op to each differs h r m d ∙ sym (given_other (giver g m) (giver_not_old m d))
      by (alike same _) =
          ap (λ x. giver h (renamed old to x)) same ∙ ap (giver h) (renamed_old old to) ∙ giver_same g obeys old node is phi_op to each differs h r to differs
          ∙ sym given_old ∙ ap given (sym (phi_gives g obeys old node is phi_op to each differs h r)) ∙ ap (λ x. given (giver g x)) (sym same)

  acting_not_old : (b n : ℕ) → acts_in b (node_at g n) ≡ true → n ≢ old
  acting_not_old b n act same =
      true≢false (sym act ∙ ap (λ x. acts_in b (node_at g x)) same ∙ phi_does_not_act g obeys old node is phi_op to each differs h r b)

  last_not_old : (b n : ℕ) (ns : List ℕ) → n ≢ old → AllAct g b ns → last_of n ns ≢ old
  last_not_old b n [] d act = d
  last_not_old b n (m ∷ ms) d act = last_not_old b m ms (acting_not_old b m act.0) act.1

  last_given : (b x : ℕ) (ns : List ℕ) → AllAct g b ns → last_of (given x) ns ≡ given (last_of x ns)
  last_given b x [] act = refl
  last_given b x (n ∷ ns) act = sym (given_other (last_of n ns) (last_not_old b n ns (acting_not_old b n act.0) act.1))

  -- ---- where walks begin

  starts_same : first_node h (λ x. is_start x.op) ≡ first_node g (λ x. is_start x.op)
  starts_same = first_same g h (λ x. is_start x.op) (λ x. is_start x.op) r.size each_same
    where
      no_start : (o : NodeOp) → is_phi o ≡ true → is_start o ≡ false
      no_start Start e = absurd (true≢false (sym e))
      no_start o e = refl

      each_same : (m : ℕ) → node_passes (λ x. is_start x.op) (node_at h m) ≡ node_passes (λ x. is_start x.op) (node_at g m)
      each_same m = by (test m old)
        where
          by : Test m old → node_passes (λ x. is_start x.op) (node_at h m) ≡ node_passes (λ x. is_start x.op) (node_at g m)
          by (alike same _) =
              ap (λ x. node_passes (λ x. is_start x.op) (node_at h x)) same ∙ ap (node_passes (λ x. is_start x.op)) r.gone
              ∙ sym (no_start node.op phi_op) ∙ sym (ap (node_passes (λ x. is_start x.op)) is)
              ∙ ap (λ x. node_passes (λ x. is_start x.op) (node_at g x)) (sym same)
          by (apart d _) = here (node_at g m) (node_at h m) (r.nodes m d)
            where
              here : (one two : Option FirmNode) → Alike old to one two → node_passes (λ x. is_start x.op) two ≡ node_passes (λ x. is_start x.op) one
              here None None alike_nodes = refl
              here None (Some y) alike_nodes = absurd alike_nodes
              here (Some x) None alike_nodes = absurd alike_nodes
              here (Some x) (Some y) alike_nodes = ap is_start alike_nodes.0

  start_given : unwrap_or (first_node g (λ x. is_start x.op)) 0 ≡ given (unwrap_or (first_node g (λ x. is_start x.op)) 0)
  start_given =
      let start = ((obeys.blocks (first_of g.order) (first_is_block g obeys.some_block)).first_fits refl).start in
      let found = some_first g (λ x. is_start x.op) start.0 start.1.0 start.1.1 (ap is_start start.1.2) in
      let passes = first_passes g (λ x. is_start x.op) found.0 found.1 in
      ap (λ x. unwrap_or x 0) found.1
      ∙ sym (given_other found.0 (λ same. no_start_phi node.op phi_op
      (ap (λ (x : FirmNode). is_start x.op) (same_some node passes.node (sym is ∙ ap (node_at g) (sym same) ∙ passes.is)) ∙ passes.passed)))
      ∙ ap (λ x. given (unwrap_or x 0)) (sym found.1)
    where
      no_start_phi : (o : NodeOp) → is_phi o ≡ true → is_start o ≡ true → ⊥
      no_start_phi Start e s = true≢false (sym e)
      no_start_phi o e s = true≢false (sym s)

  -- ---- Phis of memory

  abbrev is_phi_of : ℕ → FirmNode → Bool
  is_phi_of b x = (x.block == b) && is_memory_phi x.op

  phi_one : (b : ℕ) → IsBlock g b → (n : ℕ) (x : FirmNode) → node_at g n ≡ Some x → is_phi_of b x ≡ true → memory_phi g b ≡ Some n
  phi_one b block n x there e =
      let parts = both_true (x.block == b) (is_memory_phi x.op) e in
      (obeys.blocks b block).memory_fits.one_phi n x there (equal x.block b parts.0) parts.1

  is_false : (t : Bool) → (t ≡ true → ⊥) → t ≡ false
  is_false true d = absurd (d refl)
  is_false false d = refl

  pub phi_same : (b : ℕ) → IsBlock g b → (memory_phi g b ≡ Some old → ⊥) → memory_phi h b ≡ memory_phi g b
  phi_same b block none = first_same g h (is_phi_of b) (is_phi_of b) r.size each_same
    where
      each_same : (m : ℕ) → node_passes (is_phi_of b) (node_at h m) ≡ node_passes (is_phi_of b) (node_at g m)
      each_same m = by (test m old)
        where
          by : Test m old → node_passes (is_phi_of b) (node_at h m) ≡ node_passes (is_phi_of b) (node_at g m)
          by (alike same _) =
              ap (λ x. node_passes (is_phi_of b) (node_at h x)) same ∙ ap (node_passes (is_phi_of b)) r.gone
              ∙ sym (is_false (is_phi_of b node) (λ e. none (phi_one b block old node is e)))
              ∙ sym (ap (node_passes (is_phi_of b)) is) ∙ ap (λ x. node_passes (is_phi_of b) (node_at g x)) (sym same)
          by (apart d _) = here (node_at g m) (node_at h m) (r.nodes m d)
            where
              here : (one two : Option FirmNode) → Alike old to one two → node_passes (is_phi_of b) two ≡ node_passes (is_phi_of b) one
              here None None alike_nodes = refl
              here None (Some y) alike_nodes = absurd alike_nodes
              here (Some x) None alike_nodes = absurd alike_nodes
              here (Some x) (Some y) alike_nodes = ap (λ z. (z == b) && is_memory_phi y.op) alike_nodes.1.0 ∙ ap (λ o. (x.block == b) && is_memory_phi o) alike_nodes.0

  -- a Phi of memory of the new graph was one
  pub phi_was : (b : ℕ) → IsBlock g b → (n : ℕ) (y : FirmNode) → node_at h n ≡ Some y → y.block ≡ b → is_memory_phi y.op ≡ true → (memory_phi g b ≡ Some n) × (n ≢ old)
  phi_was b block n y there at op =
      let w = was g obeys whole old node is phi_op to each differs same_mode h r n y there in
      ((obeys.blocks b block).memory_fits.one_phi n w.before w.is_before (sym w.block ∙ at) (ap is_memory_phi (sym w.op) ∙ op), w.not_old)

  phi_gone : (b : ℕ) → IsBlock g b → memory_phi g b ≡ Some old → memory_phi h b ≡ None
  phi_gone b block e = by (memory_phi h b) refl
    where
      by : (found : Option ℕ) → memory_phi h b ≡ found → found ≡ None
      by None there = refl
      by (Some n) there =
          let passes = first_passes h (is_phi_of b) n there in
          let parts = both_true (passes.node.block == b) (is_memory_phi passes.node.op) passes.passed in
          let before = phi_was b block n passes.node passes.is (equal passes.node.block b parts.0) parts.1 in
          absurd (before.1 (same_some n old (sym before.0 ∙ e)))

  block_of_edge : (b at from : ℕ) → slice_get (preds_of g b) at ≡ Some from → IsBlock g b
  block_of_edge b at from edge = by (nat_lt (rank g b) (length g.order)) refl
    where
      by : (t : Bool) → nat_lt (rank g b) (length g.order) ≡ t → IsBlock g b
      by true e = ltb-true (rank g b) (length g.order) e
      by false e =
          let none = (whole.no_edges b (λ block. true≢false (sym (lt-ltb (rank g b) (length g.order) block) ∙ e))).0 in
          absurd (none_is_not_some from (ap (λ preds. slice_get preds at) (sym none) ∙ edge))

  -- the Phi of memory of a block was so before
  pub phi_before : (b : ℕ) → IsBlock g b → (n : ℕ) → memory_phi h b ≡ Some n → memory_phi g b ≡ Some n
  phi_before b block n there =
      let passes = first_passes h (is_phi_of b) n there in
      let parts = both_true (passes.node.block == b) (is_memory_phi passes.node.op) passes.passed in
      (phi_was b block n passes.node passes.is (equal passes.node.block b parts.0) parts.1).0

  -- ---- the memory along a walk

  abbrev after_h : Walk → ℕ
  after_h w = last_of (memory_into h w) (chain h (end (shape h) w))

  pub after_given : (w : Walk) → IsWalk (shape g) w → memory_into h w ≡ given (memory_into g w) → last_of (memory_into h w) (chain h (end (shape h) w)) ≡ given (memory_after g w)
  after_given w walk into =
      ap (λ x. last_of x (chain h (end (shape h) w))) into
      ∙ ap (λ b. last_of (given (memory_into g w)) (chain h b)) (end_before g obeys whole old node is phi_op to each differs same_mode h r w)
      ∙ ap (last_of (given (memory_into g w))) (chain_same g obeys old node is phi_op to each differs h r w walk)
      ∙ last_given (end (shape g) w) (memory_into g w) (chain g (end (shape g) w)) (chain_acts g (end (shape g) w))

  pub into_given : (w : Walk) → IsWalk (shape g) w → memory_into h w ≡ given (memory_into g w)
  unfolding memory_into
  into_given [] walk = ap (λ x. unwrap_or x 0) starts_same ∙ start_given
  into_given (e ∷ w) walk = by (memory_phi g e.into) refl (after_given w walk.1 (into_given w walk.1))
    where
      block : IsBlock g e.into
      block = block_of_edge e.into e.place (end (shape g) w) walk.0

      by : (found : Option ℕ) → memory_phi g e.into ≡ found → last_of (memory_into h w) (chain h (end (shape h) w)) ≡ given (memory_after g w)
          → unwrap_or (memory_phi h e.into) (last_of (memory_into h w) (chain h (end (shape h) w))) ≡ given (unwrap_or (memory_phi g e.into) (memory_after g w))
      by None is_phi_here after =
          ap (λ x. unwrap_or x (last_of (memory_into h w) (chain h (end (shape h) w)))) (phi_same e.into block (λ same. none_is_not_some old (sym is_phi_here ∙ same)) ∙ is_phi_here)
          ∙ after ∙ ap (λ x. given (unwrap_or x (memory_after g w))) (sym is_phi_here)
      by (Some n) is_phi_here after = here (test n old)
        where
          here : Test n old → unwrap_or (memory_phi h e.into) (last_of (memory_into h w) (chain h (end (shape h) w))) ≡ given (unwrap_or (memory_phi g e.into) (memory_after g w))
          here (apart d _) =
              ap (λ x. unwrap_or x (last_of (memory_into h w) (chain h (end (shape h) w))))
              (phi_same e.into block (λ same. d (same_some n old (sym is_phi_here ∙ same))) ∙ is_phi_here)
              ∙ sym (given_other n d) ∙ ap (λ x. given (unwrap_or x (memory_after g w))) (sym is_phi_here)
          here (alike same _) =
              let is_old = is_phi_here ∙ ap Some same in
              ap (λ x. unwrap_or x (last_of (memory_into h w) (chain h (end (shape h) w)))) (phi_gone e.into block is_old)
              ∙ after ∙ through is_old ∙ sym given_old ∙ ap (λ x. given (unwrap_or x (memory_after g w))) (sym is_old)
            where
              -- what comes along each edge is what the other value is
              through : memory_phi g e.into ≡ Some old → given (memory_after g w) ≡ giver g to
              through is_old = ends_in (each e.place found.operand found.at)
                where
                  passes : Passes g (is_phi_of e.into) old
                  passes = first_passes g (is_phi_of e.into) old is_old

                  into_block : e.into ≡ node.block
                  into_block =
                      sym (equal passes.node.block e.into (both_true (passes.node.block == e.into) (is_memory_phi passes.node.op) passes.passed).0)
                      ∙ ap (λ (x : FirmNode). x.block) (same_some passes.node node (sym passes.is ∙ is))

                  found : Operand g obeys old node is phi_op to each e w
                  found = operand_of g obeys old node is phi_op to each e w walk into_block

                  takes : giver g found.operand ≡ memory_after g w
                  takes = (obeys.blocks e.into block).memory_fits.phi_takes old node e found.operand w is_old is found.at (walk, refl)

                  ends_in : (found.operand ≡ old) ⊎ (found.operand ≡ to) → given (memory_after g w) ≡ giver g to
                  ends_in (inl itself) =
                      ap given (sym takes ∙ ap (giver g) itself ∙ phi_gives g obeys old node is phi_op to each differs h r) ∙ given_old
                  ends_in (inr value) = ap given (sym takes ∙ ap (giver g) value) ∙ given_other (giver g to) (giver_not_old to differs)
