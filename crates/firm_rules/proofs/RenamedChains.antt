-- A graph in which a trivial Phi was replaced by its other value: the chain of each block to which a walk comes is as before.
use Rattle.std.proofs.Common.{◌≡◌, ◌≢◌, refl, sym, ap, ◌∙◌, subst, ℕ, zero, suc, ◌+◌, ◌==◌, arith, ◌⊎◌, inl, inr, Bool, true, false, true≢false, List, [], ◌∷◌, length, Option, Some, None}
use Rattle.std.specs.Prelude.{slice_get, map, option_map, not, ◌&&◌, cond, nat_lt, is_some, if◌then◌else◌, MatchBool}
use Rattle.std.specs.List.{position_or_len}
use Rattle.ssa_core.specs.Walks.{Walk, end, IsWalk, Visits}
use Rattle.firm_rules.specs.declared.node.Mode.{Mode}
use Rattle.firm_rules.specs.declared.node.Mode.TheVariants.{Tuple}
use Rattle.firm_rules.specs.declared.node.NodeOp.{NodeOp}
use Rattle.firm_rules.specs.declared.node.NodeOp.TheVariants.{ProjM, ProjR, Phi}
use Rattle.firm_rules.specs.Graphs.{FirmNode, Firm, acts, mode_of, operands_of}
use Rattle.firm_rules.specs.Lookups.{if_there, node_at, mode_at, preds_of, shape}
use Rattle.firm_rules.specs.Rules.{is_phi, OperandsFit, IsDefined, Obeys, giver_by, giver_in, giver, first_node, acts_in, takes_from, chain_from, chain}
use Rattle.firm_rules.specs.Runs.{is_result, wants_value}
use Rattle.firm_rules.proofs.Steps.{Test, alike, apart, test}
use Rattle.firm_rules.proofs.Chains.{both_true, first_passes}
use Rattle.firm_rules.proofs.Nodes.{none_is_not_some, same_some, block_at}
use Rattle.firm_rules.proofs.Testing.{equal, unequal_is}
use Rattle.firm_rules.proofs.Trivial.{Passed, value_away, value_walk, no_walk_to_value, up_to}
use Rattle.firm_rules.specs.Replacing.{renamed, Alike, IsRenamed}
use Rattle.firm_rules.proofs.Renamed.{renamed_old, renamed_other}

-- ---- the first node that passes a test

abbrev pub node_passes : (FirmNode → Bool) → Option FirmNode → Bool
node_passes t (Some x) = t x
node_passes t None = false

abbrev slice_passes : (FirmNode → Bool) → Option FirmNode → Bool
slice_passes t (Some x) = x.there && t x
slice_passes t None = false

passes_is : (t : FirmNode → Bool) (found : Option FirmNode) → slice_passes t found ≡ node_passes t (if_there found)
passes_is t None = refl
passes_is t (Some x) = by x.there
  where
    by : (b : Bool) → (b && t x) ≡ node_passes t (if b then Some x else None)
    by true = refl
    by false = refl

position_same : (t u : FirmNode → Bool) (xs ys : List FirmNode) → length ys ≡ length xs
    → ((m : ℕ) → slice_passes u (slice_get ys m) ≡ slice_passes t (slice_get xs m))
    → position_or_len (λ x. x.there && u x) ys ≡ position_or_len (λ x. x.there && t x) xs
position_same t u [] [] size same = refl
position_same t u [] (y ∷ ys) size same = absurd (omega (arith, size))
position_same t u (x ∷ xs) [] size same = absurd (omega (arith, size))
position_same t u (x ∷ xs) (y ∷ ys) size same =
    ap (λ b. cond (not b) (1 + position_or_len (λ z. z.there && u z) ys) 0) (same 0)
    ∙ ap (λ n. cond (not (x.there && t x)) (1 + n) 0) (position_same t u xs ys (omega (arith, size)) (λ m. same (suc m)))

pub first_same : (g h : Firm) (t u : FirmNode → Bool) → length h.nodes ≡ length g.nodes → ((m : ℕ) → node_passes u (node_at h m) ≡ node_passes t (node_at g m))
    → first_node h u ≡ first_node g t
first_same g h t u size same =
    let places = position_same t u g.nodes h.nodes size (λ m. passes_is u (slice_get h.nodes m) ∙ same m ∙ sym (passes_is t (slice_get g.nodes m))) in
    ap (λ n. cond (nat_lt n (length h.nodes)) (Some n) None) places ∙ ap (λ n. cond (nat_lt (position_or_len (λ x. x.there && t x) g.nodes) n) (Some (position_or_len (λ x. x.there && t x) g.nodes)) None) size

module _ (g : Firm) (obeys : Obeys g) (old : ℕ) (node : FirmNode) (is : node_at g old ≡ Some node) (phi_op : is_phi node.op ≡ true)
    (to : ℕ) (each : (index operand : ℕ) → slice_get node.operands index ≡ Some operand → (operand ≡ old) ⊎ (operand ≡ to)) (differs : to ≢ old)
    (h : Firm) (r : IsRenamed g h old to) where
  -- ---- a tuple is not the Phi

  old_is_no_tuple : mode_at g old ≡ Some Tuple → ⊥
  old_is_no_tuple e = by node.op phi_op (obeys.nodes old node is).operands_fit (sym (ap (option_map (λ (x : FirmNode). mode_of x.op)) is) ∙ e)
    where
      by : (o : NodeOp) → is_phi o ≡ true → OperandsFit g (operands_of o) node.operands → Some (mode_of o) ≡ Some Tuple → ⊥
      by (Phi mode) e fit same = fit.0 (same_some mode Tuple same)
      by o e fit same = true≢false (sym e)

  pub tuple_of : (m : ℕ) (x : FirmNode) (t : ℕ) (rest : List ℕ) → node_at g m ≡ Some x → (x.op ≡ ProjM) ⊎ (x.op ≡ ProjR) → x.operands ≡ t ∷ rest → t ≢ old
  tuple_of m x t rest there op operands same = old_is_no_tuple (subst (λ y. mode_at g y ≡ Some Tuple) same (by op))
    where
      first_of_modes : List (Option Mode) → Option Mode
      first_of_modes [] = None
      first_of_modes (y ∷ ys) = y

      fits : (o : NodeOp) → x.op ≡ o → OperandsFit g (operands_of o) (t ∷ rest)
      fits o e = subst (λ y. OperandsFit g (operands_of y) (t ∷ rest)) e
          (subst (λ xs. OperandsFit g (operands_of x.op) xs) operands (obeys.nodes m x there).operands_fit)

      by : (x.op ≡ ProjM) ⊎ (x.op ≡ ProjR) → mode_at g t ≡ Some Tuple
      by (inl e) = ap first_of_modes (fits ProjM e)
      by (inr e) = ap first_of_modes (fits ProjR e)

  -- ---- givers

  giver_by_same : (o : NodeOp) (operands : List ℕ) (m : ℕ) → ((t : ℕ) (rest : List ℕ) → o ≡ ProjM → operands ≡ t ∷ rest → t ≢ old)
      → giver_by o (map (renamed old to) operands) m ≡ giver_by o operands m
  giver_by_same ProjM (t ∷ rest) m tuple = renamed_other old to t (tuple t rest refl refl)
  giver_by_same ProjM [] m tuple = refl
  giver_by_same o operands m tuple = refl

  pub giver_same : (m : ℕ) → m ≢ old → giver h m ≡ giver g m
  giver_same m d = by (node_at g m) (node_at h m) refl (r.nodes m d)
    where
      by : (one two : Option FirmNode) → node_at g m ≡ one → Alike old to one two → giver_in two m ≡ giver_in one m
      by None None e alike_nodes = refl
      by None (Some y) e alike_nodes = absurd alike_nodes
      by (Some x) None e alike_nodes = absurd alike_nodes
      by (Some x) (Some y) e alike_nodes =
          ap (λ o. giver_by o y.operands m) alike_nodes.0 ∙ ap (λ xs. giver_by x.op xs m) alike_nodes.1.1
          ∙ giver_by_same x.op x.operands m (λ t rest o operands. tuple_of m x t rest e (inl o) operands)

  pub phi_gives : giver g old ≡ old
  phi_gives = ap (λ found. giver_in found old) is ∙ by node.op node.operands phi_op
    where
      by : (o : NodeOp) (operands : List ℕ) → is_phi o ≡ true → giver_by o operands old ≡ old
      by ProjM (t ∷ rest) e = absurd (true≢false (sym e))
      by o operands e = refl

  pub phi_does_not_act : (b : ℕ) → acts_in b (node_at g old) ≡ false
  phi_does_not_act b = ap (acts_in b) is ∙ by node.op phi_op (node.block == b)
    where
      no_acts : (o : NodeOp) → is_phi o ≡ true → acts o ≡ false
      no_acts (Phi mode) e = refl
      no_acts o e = absurd (true≢false (sym e))

      and_false : (t : Bool) → (t && false) ≡ false
      and_false true = refl
      and_false false = refl

      by : (o : NodeOp) → is_phi o ≡ true → (t : Bool) → (t && acts o) ≡ false
      by o e t = ap (λ y. t && y) (no_acts o e) ∙ and_false t

  pub acts_same : (b m : ℕ) → acts_in b (node_at h m) ≡ acts_in b (node_at g m)
  acts_same b m = by (test m old)
    where
      by : Test m old → acts_in b (node_at h m) ≡ acts_in b (node_at g m)
      by (alike same _) =
          ap (λ x. acts_in b (node_at h x)) same ∙ ap (acts_in b) r.gone ∙ sym (phi_does_not_act b) ∙ ap (λ x. acts_in b (node_at g x)) (sym same)
      by (apart d _) = here (node_at g m) (node_at h m) (r.nodes m d)
        where
          here : (one two : Option FirmNode) → Alike old to one two → acts_in b two ≡ acts_in b one
          here None None alike_nodes = refl
          here None (Some y) alike_nodes = absurd alike_nodes
          here (Some x) None alike_nodes = absurd alike_nodes
          here (Some x) (Some y) alike_nodes = ap (λ z. (z == b) && acts y.op) alike_nodes.1.0 ∙ ap (λ o. (x.block == b) && acts o) alike_nodes.0

  module _ (walk : Walk) (is_walk_here : IsWalk (shape g) walk) where
    abbrev b : ℕ
    b = end (shape g) walk

    passed_by : IsDefined g old b → Passed g obeys old node is phi_op to each b
    passed_by defined u at = subst (λ (x : FirmNode). Visits (shape g) u x.block) (same_some defined.0 node (sym defined.1 ∙ is)) (defined.2 u at)

    -- what gives the other value does not act in a block where the Phi is used
    giver_away : IsDefined g old b → acts_in b (node_at g (giver g to)) ≡ true → ⊥
    giver_away defined act = by (node_at g to) refl
      where
        passed : Passed g obeys old node is phi_op to each b
        passed = passed_by defined

        block_is : (y : ℕ) (found : Option FirmNode) → node_at g y ≡ found → acts_in b found ≡ true → (z : FirmNode) × (node_at g y ≡ Some z) × (z.block ≡ b)
        block_is y None e a = absurd (true≢false (sym a))
        block_is y (Some z) e a = (z, e, equal z.block b (both_true (z.block == b) (acts z.op) a).0)

        itself : (x : FirmNode) → node_at g to ≡ Some x → giver g to ≡ to → ⊥
        itself x there same =
            let found = block_is (giver g to) (node_at g (giver g to)) refl act in
            let x_is = same_some found.0 x (sym found.1 ∙ ap (node_at g) same ∙ there) in
            value_away g obeys old node is phi_op to each walk is_walk_here passed
            (block_at g to x there ∙ ap (λ (z : FirmNode). z.block) (sym x_is) ∙ found.2)

        -- the tuple that it is the memory of
        by_tuple : (x : FirmNode) (t : ℕ) (rest : List ℕ) → node_at g to ≡ Some x → x.op ≡ ProjM → x.operands ≡ t ∷ rest → giver g to ≡ t → ⊥
        by_tuple x t rest there op operands same =
            let found = block_is (giver g to) (node_at g (giver g to)) refl act in
            let t_defined = (obeys.nodes to x there).operands_defined 0 t x.block (ap (λ xs. slice_get xs 0) operands)
            (used (is_phi x.op) (ap is_phi op)) in
            let to_value = value_walk g obeys old node is phi_op to each walk is_walk_here (passed walk (is_walk_here, refl)) in
            no_walk_to_value g obeys old node is phi_op to each to_value.0 to_value.1 (λ u at.
            let through = t_defined.2 u (at.0, at.1 ∙ block_at g to x there) in
            let t_block : t_defined.0.block ≡ b =
            ap (λ (z : FirmNode). z.block) (same_some t_defined.0 found.0 (sym t_defined.1 ∙ ap (node_at g) (sym same) ∙ found.1)) ∙ found.2 in
            let part = up_to g obeys old node is phi_op to each u b at.0 (subst (Visits (shape g) u) t_block through) in
            part.on_walk node.block (passed part.part part.comes))
          where
            used : (z : Bool) → z ≡ false → MatchBool z (slice_get (preds_of g x.block) 0 ≡ Some x.block) (x.block ≡ x.block)
            used true e = absurd (true≢false e)
            used false e = refl

        by : (found : Option FirmNode) → node_at g to ≡ found → ⊥
        by None e =
            let found = block_is (giver g to) (node_at g (giver g to)) refl act in
            none_is_not_some found.0 (sym e ∙ ap (node_at g) (sym (ap (λ z. giver_in z to) e)) ∙ found.1)
        by (Some x) e = here x.op x.operands refl refl
          where
            here : (o : NodeOp) (operands : List ℕ) → x.op ≡ o → x.operands ≡ operands → ⊥
            here ProjM (t ∷ rest) op operands =
                by_tuple x t rest e op operands (ap (λ z. giver_in z to) e ∙ ap (λ o. giver_by o x.operands to) op ∙ ap (λ xs. giver_by ProjM xs to) operands)
            here ProjM [] op operands =
                itself x e (ap (λ z. giver_in z to) e ∙ ap (λ o. giver_by o x.operands to) op ∙ ap (λ xs. giver_by ProjM xs to) operands)
            here o operands op is_operands =
                itself x e (ap (λ z. giver_in z to) e ∙ ap (λ y. giver_by y x.operands to) op ∙ ap (λ xs. giver_by o xs to) is_operands)

    -- ---- the chain

    -- an acting node's memory is defined here
    memory_defined : (m : ℕ) (x : FirmNode) (first : ℕ) (rest : List ℕ) → node_at g m ≡ Some x → acts_in b (Some x) ≡ true → x.operands ≡ first ∷ rest → IsDefined g first b
    memory_defined m x first rest there act operands =
        (obeys.nodes m x there).operands_defined 0 first b (ap (λ xs. slice_get xs 0) operands) (used (is_phi x.op) (no_phi x.op parts.1))
      where
        parts : ((x.block == b) ≡ true) × (acts x.op ≡ true)
        parts = both_true (x.block == b) (acts x.op) act

        no_phi : (o : NodeOp) → acts o ≡ true → is_phi o ≡ false
        no_phi (Phi mode) e = absurd (true≢false (sym e))
        no_phi o e = refl

        used : (z : Bool) → z ≡ false → MatchBool z (slice_get (preds_of g x.block) 0 ≡ Some b) (x.block ≡ b)
        used true e = absurd (true≢false e)
        used false e = equal x.block b parts.0

    -- tests of givers that agree
    Agree : (ℕ → Bool) → (ℕ → Bool) → Type 0
    Agree q u = (m : ℕ) → IsDefined g m b → u (giver h (renamed old to m)) ≡ q (giver g m)

    abbrev takes : Firm → (ℕ → Bool) → FirmNode → Bool
    takes x q node = acts_in b (Some node) && takes_from x q node.operands

    takes_same : (q u : ℕ → Bool) → Agree q u → (m : ℕ) → node_passes (takes h u) (node_at h m) ≡ node_passes (takes g q) (node_at g m)
    unfolding Agree
    takes_same q u agree m = by (test m old)
      where
        and_false : (t : Bool) → t ≡ false → (z : Bool) → (t && z) ≡ false
        and_false true e z = absurd (true≢false e)
        and_false false e z = refl

        by : Test m old → node_passes (takes h u) (node_at h m) ≡ node_passes (takes g q) (node_at g m)
        by (alike same _) =
            ap (λ x. node_passes (takes h u) (node_at h x)) same ∙ ap (node_passes (takes h u)) r.gone
            ∙ sym (and_false (acts_in b (Some node)) (sym (ap (acts_in b) is) ∙ phi_does_not_act b) (takes_from g q node.operands))
            ∙ sym (ap (node_passes (takes g q)) is) ∙ ap (λ x. node_passes (takes g q) (node_at g x)) (sym same)
        by (apart d _) = here (node_at g m) (node_at h m) refl (r.nodes m d)
          where
            here : (one two : Option FirmNode) → node_at g m ≡ one → Alike old to one two → node_passes (takes h u) two ≡ node_passes (takes g q) one
            here None None e alike_nodes = refl
            here None (Some y) e alike_nodes = absurd alike_nodes
            here (Some x) None e alike_nodes = absurd alike_nodes
            here (Some x) (Some y) e alike_nodes =
                ap (λ z. ((z == b) && acts y.op) && takes_from h u y.operands) alike_nodes.1.0
                ∙ ap (λ o. ((x.block == b) && acts o) && takes_from h u y.operands) alike_nodes.0
                ∙ ap (λ xs. acts_in b (Some x) && takes_from h u xs) alike_nodes.1.1
                ∙ when (acts_in b (Some x)) refl
              where
                when : (t : Bool) → acts_in b (Some x) ≡ t → (t && takes_from h u (map (renamed old to) x.operands)) ≡ (t && takes_from g q x.operands)
                when false act = refl
                when true act = operands x.operands refl
                  where
                    operands : (xs : List ℕ) → x.operands ≡ xs → takes_from h u (map (renamed old to) xs) ≡ takes_from g q xs
                    operands [] same = refl
                    operands (first ∷ rest) same = agree first (memory_defined m x first rest e act same)

    -- what gives an operand, by whether it is the Phi
    agree_by : (q u : ℕ → Bool) → ((m : ℕ) → u m ≡ q m) → (IsDefined g old b → u (giver g to) ≡ q old) → Agree q u
    unfolding Agree
    agree_by q u same at_old m defined = by (test m old)
      where
        by : Test m old → u (giver h (renamed old to m)) ≡ q (giver g m)
        by (apart d _) = ap (λ x. u (giver h x)) (renamed_other old to m d) ∙ ap u (giver_same m d) ∙ same (giver g m)
        by (alike is_old _) =
            ap (λ x. u (giver h (renamed old to x))) is_old ∙ ap (λ x. u (giver h x)) (renamed_old old to) ∙ ap u (giver_same to differs)
            ∙ at_old (subst (λ x. IsDefined g x b) is_old defined)
            ∙ sym (ap q phi_gives) ∙ ap (λ x. q (giver g x)) (sym is_old)

    is_false : (t : Bool) → (t ≡ true → ⊥) → t ≡ false
    is_false true d = absurd (d refl)
    is_false false d = refl

    opens_agree : Agree (λ m. not (acts_in b (node_at g m))) (λ m. not (acts_in b (node_at h m)))
    opens_agree = agree_by (λ m. not (acts_in b (node_at g m))) (λ m. not (acts_in b (node_at h m)))
        (λ m. ap not (acts_same b m))
        (λ defined. ap not (acts_same b (giver g to) ∙ is_false (acts_in b (node_at g (giver g to))) (giver_away defined)) ∙ sym (ap not (phi_does_not_act b)))

    next_agree : (n : ℕ) → acts_in b (node_at g n) ≡ true → Agree (λ m. m == n) (λ m. m == n)
    next_agree n act = agree_by (λ m. m == n) (λ m. m == n) (λ m. refl)
        (λ defined. unequal_is (giver g to) n (λ same. giver_away defined (ap (λ x. acts_in b (node_at g x)) same ∙ act))
        ∙ sym (unequal_is old n (λ same. true≢false (sym act ∙ ap (λ x. acts_in b (node_at g x)) (sym same) ∙ phi_does_not_act b))))

    abbrev next_in : Firm → ℕ → Option ℕ
    next_in x n = first_node x (takes x (λ m. m == n))

    acts_next : (t : FirmNode → Bool) (n : ℕ) → first_node g (λ x. acts_in b (Some x) && t x) ≡ Some n → acts_in b (node_at g n) ≡ true
    acts_next t n e =
        let found = first_passes g (λ x. acts_in b (Some x) && t x) n e in
        ap (acts_in b) found.is ∙ (both_true (acts_in b (Some found.node)) (t found.node) found.passed).0

    chain_from_same : (limit : ℕ) (next : Option ℕ) → ((n : ℕ) → next ≡ Some n → acts_in b (node_at g n) ≡ true) → chain_from h b limit next ≡ chain_from g b limit next
    chain_from_same zero next act = refl
    chain_from_same (suc limit) None act = refl
    chain_from_same (suc limit) (Some n) act =
        ap (λ next. n ∷ chain_from h b limit next)
        (first_same g h (takes g (λ m. m == n)) (takes h (λ m. m == n)) r.size (takes_same (λ m. m == n) (λ m. m == n) (next_agree n (act n refl))))
        ∙ ap (λ ns. n ∷ ns) (chain_from_same limit (next_in g n) (λ k e. acts_next (λ x. takes_from g (λ m. m == n) x.operands) k e))

    pub chain_same : chain h b ≡ chain g b
    chain_same =
        ap (λ limit. chain_from h b limit (first_node h (takes h (λ m. not (acts_in b (node_at h m)))))) r.size
        ∙ ap (chain_from h b (length g.nodes))
        (first_same g h (takes g (λ m. not (acts_in b (node_at g m)))) (takes h (λ m. not (acts_in b (node_at h m)))) r.size
        (takes_same (λ m. not (acts_in b (node_at g m))) (λ m. not (acts_in b (node_at h m))) opens_agree))
        ∙ chain_from_same (length g.nodes) (first_node g (takes g (λ m. not (acts_in b (node_at g m)))))
        (λ n e. acts_next (λ x. takes_from g (λ m. not (acts_in b (node_at g m))) x.operands) n e)

  -- ---- results of calls

  result_same : (n : ℕ) (o : NodeOp) (operands : List ℕ) → ((t : ℕ) (rest : List ℕ) → o ≡ ProjR → operands ≡ t ∷ rest → t ≢ old)
      → is_result o (map (renamed old to) operands) n ≡ is_result o operands n
  result_same n ProjR (t ∷ rest) tuple = ap (λ x. x == n) (renamed_other old to t (tuple t rest refl refl))
  result_same n ProjR [] tuple = refl
  result_same n o operands tuple = refl

  pub wants_same : (n : ℕ) → wants_value h n ≡ wants_value g n
  wants_same n = ap is_some (first_same g h (λ x. is_result x.op x.operands n) (λ x. is_result x.op x.operands n) r.size each_same)
    where
      phi_is_no_result : (o : NodeOp) (operands : List ℕ) → is_phi o ≡ true → is_result o operands n ≡ false
      phi_is_no_result ProjR operands e = absurd (true≢false (sym e))
      phi_is_no_result o operands e = refl

      each_same : (m : ℕ) → node_passes (λ x. is_result x.op x.operands n) (node_at h m) ≡ node_passes (λ x. is_result x.op x.operands n) (node_at g m)
      each_same m = by (test m old)
        where
          by : Test m old → node_passes (λ x. is_result x.op x.operands n) (node_at h m) ≡ node_passes (λ x. is_result x.op x.operands n) (node_at g m)
          by (alike same _) =
              ap (λ x. node_passes (λ x. is_result x.op x.operands n) (node_at h x)) same
              ∙ ap (node_passes (λ x. is_result x.op x.operands n)) r.gone
              ∙ sym (phi_is_no_result node.op node.operands phi_op)
              ∙ sym (ap (node_passes (λ x. is_result x.op x.operands n)) is)
              ∙ ap (λ x. node_passes (λ x. is_result x.op x.operands n) (node_at g x)) (sym same)
          by (apart d _) = here (node_at g m) (node_at h m) refl (r.nodes m d)
            where
              here : (one two : Option FirmNode) → node_at g m ≡ one → Alike old to one two
                  → node_passes (λ x. is_result x.op x.operands n) two ≡ node_passes (λ x. is_result x.op x.operands n) one
              here None None e alike_nodes = refl
              here None (Some y) e alike_nodes = absurd alike_nodes
              here (Some x) None e alike_nodes = absurd alike_nodes
              here (Some x) (Some y) e alike_nodes =
                  ap (λ o. is_result o y.operands n) alike_nodes.0 ∙ ap (λ xs. is_result x.op xs n) alike_nodes.1.1
                  ∙ result_same n x.op x.operands (λ t rest o operands. tuple_of m x t rest e (inr o) operands)
