-- A program in which a trivial Phi of a graph that obeys the rules was replaced by its other value has the same run.
use Rattle.std.proofs.Common.{◌≡◌, ◌≢◌, refl, sym, ap, ◌∙◌, subst, ℕ, zero, suc, ◌==◌, ◌⊎◌, inl, inr, Bool, true, false, true≢false, List, [], ◌∷◌, length, Option, Some, None}
use Rattle.std.specs.Prelude.{slice_get, map, option_map, not, ◌&&◌, cond, find, nat_lt, codes, if◌then◌else◌, MatchBool}
use Rattle.std.specs.List.{position_or_len}
use Rattle.std.specs.Str.{bytes_eq}
use Rattle.std.proofs.lemmas.Option.{slice_get-map}
use Rattle.cp_base.specs.declared.layout.Layout.{Layout}
use Rattle.run_model.specs.declared.outcome.Outcome.TheVariants.{Deep}
use Rattle.run_model.specs.Stores.{World, Store, first_store}
use Rattle.ssa_core.specs.Walks.{Walk, end, IsWalk}
use Rattle.firm_rules.specs.declared.node.NodeOp.{NodeOp}
use Rattle.firm_rules.specs.declared.node.NodeOp.TheVariants as op
use Rattle.firm_rules.specs.declared.node.FirmEnd.{FirmEnd}
use Rattle.firm_rules.specs.declared.node.FirmEnd.TheVariants.{Jump, Branch, Return}
use Rattle.firm_rules.specs.Graphs.{FirmNode, Firm, Program, acts}
use Rattle.firm_rules.specs.Lookups.{node_at, first_of, IsBlock, preds_of, end_of, shape}
use Rattle.firm_rules.specs.Rules.{is_phi, acts_in, chain, uses, IsDefined, Obeys}
use Rattle.firm_rules.specs.Frames.{Frame, first_frame, with_word, word_at, word_of, word_entered, after_edge}
use Rattle.firm_rules.specs.Runs.{came, stuck, no_graph, malformed, Result, gives, stops, Begun, does, enters, call, call_turn, begun_by, begun_in, begun, ends, goes, back, jump, edge_place, next_edge_place, branch, exit_by, exit, Runs, FirmRan, main_of, firm_run, RunsProgram, without_depth, without_main, with_main}
use Rattle.firm_rules.specs.Visits.{History, with_visit, Comes, begins, has_acted, has_called, has_gone}
use Rattle.firm_rules.proofs.Testing.{equal}
use Rattle.firm_rules.proofs.Chains.{both_true}
use Rattle.firm_rules.proofs.Points.{means_at}
use Rattle.firm_rules.proofs.Edges.{is_walk}
use Rattle.firm_rules.proofs.RunLaws.{program_is, program_runs}
use Rattle.firm_rules.proofs.Simulation.{Stands, Follower, from_first, simulates}
use Rattle.firm_rules.specs.Replacing.{renamed, renamed_end, Alike, IsRenamed, Pair, Pairs}
use Rattle.firm_rules.proofs.Renamed.{word_same, operand_same}
use Rattle.firm_rules.proofs.RenamedChains.{phi_does_not_act, chain_same, wants_same}

-- ---- programs whose graphs are the same but for one

abbrev PairOption : Firm → Firm → Option Firm → Option Firm → Type 0
PairOption g h None None = Unit {0}
PairOption g h (Some x) (Some y) = Pair g h x y
PairOption g h one two = ⊥

pair_at : (g h : Firm) (xs ys : List Firm) → Pairs g h xs ys → (index : ℕ) → PairOption g h (slice_get xs index) (slice_get ys index)
pair_at g h [] [] pairs index = tt
pair_at g h [] (y ∷ ys) pairs index = absurd pairs
pair_at g h (x ∷ xs) [] pairs index = absurd pairs
pair_at g h (x ∷ xs) (y ∷ ys) pairs zero = pairs.0
pair_at g h (x ∷ xs) (y ∷ ys) pairs (suc index) = pair_at g h xs ys pairs.1 index

module _ (g h : Firm) (old to : ℕ) (r : IsRenamed g h old to) where
  -- what a pair has in common
  pair_same : {A : Type 0} → (of : Firm → A) → of h ≡ of g → (x y : Firm) → Pair g h x y → of y ≡ of x
  pair_same of same x y (inl e) = ap of e
  pair_same of same x y (inr e) = ap of e.1 ∙ same ∙ sym (ap of e.0)

  is_called_main : Firm → Bool
  is_called_main x = bytes_eq x.name (codes "main")

  main_pair : (xs ys : List Firm) → Pairs g h xs ys → PairOption g h (find (λ x. bytes_eq x.name (codes "main")) xs) (find (λ x. bytes_eq x.name (codes "main")) ys)
  main_pair [] [] pairs = tt
  main_pair [] (y ∷ ys) pairs = absurd pairs
  main_pair (x ∷ xs) [] pairs = absurd pairs
  main_pair (x ∷ xs) (y ∷ ys) pairs =
      subst (λ t. PairOption g h (find (λ z. bytes_eq z.name (codes "main")) (x ∷ xs)) (cond t (Some y) (find (λ z. bytes_eq z.name (codes "main")) ys)))
      (sym (pair_same (λ z. bytes_eq z.name (codes "main")) (ap (λ name. bytes_eq name (codes "main")) r.name) x y pairs.0))
      (by (bytes_eq x.name (codes "main")) (main_pair xs ys pairs.1))
    where
      by : (t : Bool) → PairOption g h (find (λ z. bytes_eq z.name (codes "main")) xs) (find (λ z. bytes_eq z.name (codes "main")) ys)
          → PairOption g h (cond t (Some x) (find (λ z. bytes_eq z.name (codes "main")) xs)) (cond t (Some y) (find (λ z. bytes_eq z.name (codes "main")) ys))
      by true rest = pairs.0
      by false rest = rest

  -- ---- what is begun

  module _ (p q : Program) (pairs : Pairs g h p.graphs q.graphs) (w : World) where
    call_turn_stands : (turns : ℕ) (x y : Firm) (arguments : List ℕ) (s : Store) → Pair g h x y → Stands (Pair g h) (call_turn turns x arguments s) (call_turn turns y arguments s)
    call_turn_stands zero x y arguments s pair = refl
    call_turn_stands (suc turns) x y arguments s pair = (pair, (refl, refl))

    call_stands : (x y : Option Firm) (arguments : List ℕ) (s : Store) → PairOption g h x y → Stands (Pair g h) (call w x arguments s) (call w y arguments s)
    call_stands None None arguments s pair = refl
    call_stands None (Some y) arguments s pair = absurd pair
    call_stands (Some x) None arguments s pair = absurd pair
    call_stands (Some x) (Some y) arguments s pair =
        subst (λ n. Stands (Pair g h) (call w (Some x) arguments s) (called y n)) (sym (pair_same (λ z. z.params) r.params x y pair))
        (by (length arguments == x.params) (nat_lt s.active w.depth))
      where
        after : Firm → Bool → Begun
        after z u = if u then call_turn s.turns z arguments s else does (stops (came Deep) s)

        called : Firm → ℕ → Begun
        called z n = if length arguments == n then after z (nat_lt s.active w.depth) else does (stops (stuck no_graph) s)

        by : (t u : Bool) → Stands (Pair g h) (if t then after x u else does (stops (stuck no_graph) s)) (if t then after y u else does (stops (stuck no_graph) s))
        by true true = call_turn_stands s.turns x y arguments s pair
        by true false = refl
        by false u = refl

    begun_by_stands : (o : NodeOp) (operands : List ℕ) (s : Store) → Stands (Pair g h) (begun_by p w o operands s) (begun_by q w o operands s)
    begun_by_stands (op.Load kind) (address ∷ []) s = refl
    begun_by_stands (op.Store kind) (address ∷ value ∷ []) s = refl
    begun_by_stands (op.Call c) arguments s = call_stands (slice_get p.graphs c) (slice_get q.graphs c) arguments s (pair_at g h p.graphs q.graphs pairs c)
    begun_by_stands op.Get [] s = refl
    begun_by_stands op.Put (value ∷ []) s = refl
    begun_by_stands o operands s = refl

    begun_in_stands : (word : ℕ → ℕ) (found : Option FirmNode) (s : Store) → Stands (Pair g h) (begun_in p w word found s) (begun_in q w word found s)
    begun_in_stands word None s = refl
    begun_in_stands word (Some x) s = by x.operands
      where
        by : (operands : List ℕ) → Stands (Pair g h)
            (elim operands [ [] ↦ does (stops (stuck malformed) s) | m ∷ rest ↦ begun_by p w x.op (map word rest) s ])
            (elim operands [ [] ↦ does (stops (stuck malformed) s) | m ∷ rest ↦ begun_by q w x.op (map word rest) s ])
        by [] = refl
        by (m ∷ rest) = begun_by_stands x.op (map word rest) s

    -- a graph that is the same
    unchanged : (x : Firm) → Follower p q w (Pair g h) x x
    unchanged x = record {
      At = λ b ns f s k. k ≡ f;
      first_same = refl;
      chain_first = refl;
      starts = λ arguments t. refl;
      begins = λ b n rest f s k same.
          (subst (λ l. Stands (Pair g h) (begun p w x b f n s) (begun q w x b l n s)) (sym same) (begun_in_stands (word_at w.base x b f) (node_at x n) s), refl);
      acts = λ b n rest f s k word t same e. ap (λ l. with_word l n word) same;
      calls = λ b n rest f s k callee arguments t inner word u same e run after. ap (λ l. with_word l n word) same;
      leaves = λ b f s k same. ap (λ l. exit p w x b l s) same;
      goes_on = λ b f s k to place t same e. (refl, ap (λ l. after_edge w.base x b l to place) same);
    }

-- ---- the graph in which the Phi was replaced

module _ (g : Firm) (obeys : Obeys g) (old : ℕ) (node : FirmNode) (is : node_at g old ≡ Some node) (phi_op : is_phi node.op ≡ true)
    (to : ℕ) (each : (index operand : ℕ) → slice_get node.operands index ≡ Some operand → (operand ≡ old) ⊎ (operand ≡ to)) (differs : to ≢ old)
    (h : Firm) (r : IsRenamed g h old to) (p q : Program) (pairs : Pairs g h p.graphs q.graphs) (w : World) where
  -- a point of a call of the graph, and the frame there in the other
  record AtRenamed (b : ℕ) (ns : List ℕ) (f : Frame) (s : Store) (k : Frame) : Type 0 where
    arguments : List ℕ
    start : Store
    walk : Walk
    hist : History
    comes : Comes p w g arguments start walk ns f hist s
    at : end (shape g) walk ≡ b
    same_arguments : k.arguments ≡ f.arguments
    same_words : (m : ℕ) → m ≢ old → k.words m ≡ f.words m

  module _ {b : ℕ} {ns : List ℕ} {f : Frame} {s : Store} {k : Frame} (a : AtRenamed b ns f s k) where
    here : ℕ
    here = end (shape g) a.walk

    operand_here : (x : ℕ) → IsDefined g x (end (shape g) a.walk) → word_at w.base h (end (shape g) a.walk) k (renamed old to x) ≡ word_at w.base g (end (shape g) a.walk) f x
    operand_here = operand_same g obeys old node is phi_op to each differs h r p w a.arguments a.start a.walk ns f a.hist s a.comes k a.same_arguments a.same_words

    word_here : (m : ℕ) → m ≢ old → word_at w.base h (end (shape g) a.walk) k m ≡ word_at w.base g (end (shape g) a.walk) f m
    word_here = word_same g obeys old node is phi_op to each differs h r p w a.arguments a.start a.walk ns f a.hist s a.comes k a.same_arguments a.same_words

  words_same : (one other : ℕ → ℕ) (xs : List ℕ) → ((index m : ℕ) → slice_get xs index ≡ Some m → other (renamed old to m) ≡ one m)
      → map other (map (renamed old to) xs) ≡ map one xs
  words_same one other [] same = refl
  words_same one other (x ∷ xs) same = ap (λ y. y ∷ map other (map (renamed old to) xs)) (same 0 x refl) ∙ ap (λ ys. one x ∷ ys) (words_same one other xs (λ index. same (suc index)))

  begins_here : {b n : ℕ} {rest : List ℕ} {f : Frame} {s : Store} {k : Frame} → (a : AtRenamed b (n ∷ rest) f s k)
      → Stands (Pair g h) (begun p w g (end (shape g) a.walk) f n s) (begun q w h (end (shape g) a.walk) k n s)
  begins_here {n = n} {f = f} {s = s} {k = k} a = by (node_at g n) (node_at h n) refl (r.nodes n not_old) act
    where
      b : ℕ
      b = end (shape g) a.walk

      act : acts_in (end (shape g) a.walk) (node_at g n) ≡ true
      act = (means_at p w g a.arguments a.start a.comes).0.0

      not_old : n ≢ old
      not_old same =
          true≢false (sym act ∙ ap (λ x. acts_in (end (shape g) a.walk) (node_at g x)) same
          ∙ phi_does_not_act g obeys old node is phi_op to each differs h r (end (shape g) a.walk))

      one : ℕ → ℕ
      one = word_at w.base g (end (shape g) a.walk) f

      other : ℕ → ℕ
      other = word_at w.base h (end (shape g) a.walk) k

      by : (x y : Option FirmNode) → node_at g n ≡ x → Alike old to x y → acts_in (end (shape g) a.walk) x ≡ true
          → Stands (Pair g h) (begun_in p w one x s) (begun_in q w other y s)
      by None y e alike_nodes acts_here = absurd (true≢false (sym acts_here))
      by (Some x) None e alike_nodes acts_here = absurd alike_nodes
      by (Some x) (Some y) e alike_nodes acts_here =
          subst (λ o. Stands (Pair g h) (begun_in p w one (Some x) s) (begin o y.operands)) (sym alike_nodes.0)
          (subst (λ xs. Stands (Pair g h) (begun_in p w one (Some x) s) (begin x.op xs)) (sym alike_nodes.1.1) (go x.operands refl))
        where
          begin : NodeOp → List ℕ → Begun
          begin o operands = elim operands [ [] ↦ does (stops (stuck malformed) s) | m ∷ rest ↦ begun_by q w o (map other rest) s ]

          parts : ((x.block == end (shape g) a.walk) ≡ true) × (acts x.op ≡ true)
          parts = both_true (x.block == end (shape g) a.walk) (acts x.op) acts_here

          no_phi : (o : NodeOp) → acts o ≡ true → is_phi o ≡ false
          no_phi (op.Phi mode) e = absurd (true≢false (sym e))
          no_phi o e = refl

          used : (index : ℕ) (z : Bool) → z ≡ false → MatchBool z (slice_get (preds_of g x.block) index ≡ Some (end (shape g) a.walk)) (x.block ≡ end (shape g) a.walk)
          used index true e = absurd (true≢false e)
          used index false e = equal x.block (end (shape g) a.walk) parts.0

          defined : (index m : ℕ) → slice_get x.operands index ≡ Some m → IsDefined g m (end (shape g) a.walk)
          defined index m at = (obeys.nodes n x e).operands_defined index m (end (shape g) a.walk) at (used index (is_phi x.op) (no_phi x.op parts.1))

          go : (operands : List ℕ) → x.operands ≡ operands
              → Stands (Pair g h) (elim operands [ [] ↦ does (stops (stuck malformed) s) | m ∷ rest ↦ begun_by p w x.op (map one rest) s ]) (begin x.op (map (renamed old to) operands))
          go [] same = refl
          go (m ∷ rest) same =
              subst (λ words. Stands (Pair g h) (begun_by p w x.op (map one rest) s) (begun_by q w x.op words s))
              (sym (words_same one other rest (λ index z at. operand_here a z (defined (suc index) z (ap (λ xs. slice_get xs (suc index)) same ∙ at)))))
              (begun_by_stands g h old to r p q pairs w x.op (map one rest) s)

  -- ---- ends

  jump_same : (b target place : ℕ) (s : Store) → jump h b target place s ≡ jump g b target place s
  jump_same b target place s =
      ap (λ order. if nat_lt (position_or_len (λ c. c == b) order) (position_or_len (λ c. c == target) order) then goes target place s else back s.turns target place s) r.order

  branch_same : (t : Bool) (b first second : ℕ) (s : Store) → branch t h b first second s ≡ branch t g b first second s
  branch_same true b first second s = ap (λ preds. jump h b first (edge_place preds b) s) (r.preds first) ∙ jump_same b first (edge_place (preds_of g first) b) s
  branch_same false b first second s =
      ap (λ preds. jump h b second (if first == second then next_edge_place preds b else edge_place preds b) s) (r.preds second)
      ∙ jump_same b second (if first == second then next_edge_place (preds_of g second) b else edge_place (preds_of g second) b) s

  exit_by_same : (b : ℕ) (one other : ℕ → ℕ) (found : Option FirmEnd) (s : Store)
      → ((index m : ℕ) → slice_get (uses found) index ≡ Some m → other (renamed old to m) ≡ one m)
      → exit_by h b other (option_map (renamed_end old to) found) s ≡ exit_by g b one found s
  exit_by_same b one other (Some (Jump target)) s same =
      ap (λ preds. jump h b target.number (edge_place preds b) s) (r.preds target.number) ∙ jump_same b target.number (edge_place (preds_of g target.number) b) s
  exit_by_same b one other (Some (Branch n first second)) s same =
      ap (λ x. branch (not (x == 0)) h b first.number second.number s) (same 0 n.number refl) ∙ branch_same (not (one n.number == 0)) b first.number second.number s
  exit_by_same b one other (Some (Return m (Some n))) s same = ap (λ x. ends (gives (Some x) s)) (same 1 n.number refl)
  exit_by_same b one other (Some (Return m None)) s same = refl
  exit_by_same b one other None s same = refl

  leaves_here : {b : ℕ} {f : Frame} {s : Store} {k : Frame} → (a : AtRenamed b [] f s k)
      → exit q w h (end (shape g) a.walk) k s ≡ exit p w g (end (shape g) a.walk) f s
  leaves_here {f = f} {s = s} {k = k} a =
      ap (λ found. exit_by h (end (shape g) a.walk) (word_at w.base h (end (shape g) a.walk) k) found s) (r.ends (end (shape g) a.walk))
      ∙ exit_by_same (end (shape g) a.walk) (word_at w.base g (end (shape g) a.walk) f) (word_at w.base h (end (shape g) a.walk) k) (end_of g (end (shape g) a.walk)) s
      (λ index m at. operand_here a m ((obeys.blocks (end (shape g) a.walk) (is_walk p w g obeys a.arguments a.start a.comes).1).end_defined index m at))

  -- ---- the next block

  enters_here : {b : ℕ} {f : Frame} {s : Store} {k : Frame} → (a : AtRenamed b [] f s k) → (target place : ℕ)
      → slice_get (preds_of g target) place ≡ Some (end (shape g) a.walk) → (m : ℕ) → m ≢ old
      → word_entered target place (word_at w.base h (end (shape g) a.walk) k) (node_at h m) m ≡ word_entered target place (word_at w.base g (end (shape g) a.walk) f) (node_at g m) m
  enters_here {f = f} {k = k} a target place edge m d = by (node_at g m) (node_at h m) refl (r.nodes m d)
    where
      one : ℕ → ℕ
      one = word_at w.base g (end (shape g) a.walk) f

      other : ℕ → ℕ
      other = word_at w.base h (end (shape g) a.walk) k

      by : (x y : Option FirmNode) → node_at g m ≡ x → Alike old to x y → word_entered target place other y m ≡ word_entered target place one x m
      by None None e alike_nodes = word_here a m d
      by None (Some y) e alike_nodes = absurd alike_nodes
      by (Some x) None e alike_nodes = absurd alike_nodes
      by (Some x) (Some y) e alike_nodes =
          ap (λ o. entered_by (is_phi o && (y.block == target)) y.operands) alike_nodes.0
          ∙ ap (λ z. entered_by (is_phi x.op && (z == target)) y.operands) alike_nodes.1.0
          ∙ ap (entered_by (is_phi x.op && (x.block == target))) alike_nodes.1.1
          ∙ go (is_phi x.op && (x.block == target)) refl
        where
          entered_by : Bool → List ℕ → ℕ
          entered_by t operands = elim t [ true ↦ word_of other (slice_get operands place) | false ↦ other m ]

          go : (t : Bool) → is_phi x.op && (x.block == target) ≡ t
              → entered_by t (map (renamed old to) x.operands) ≡ elim t [ true ↦ word_of one (slice_get x.operands place) | false ↦ one m ]
          go false e_test = word_here a m d
          go true e_test = ap (word_of other) (slice_get-map (renamed old to) x.operands place) ∙ operand (slice_get x.operands place) refl
            where
              parts : (is_phi x.op ≡ true) × ((x.block == target) ≡ true)
              parts = both_true (is_phi x.op) (x.block == target) e_test

              used : (z : Bool) → z ≡ true → MatchBool z (slice_get (preds_of g x.block) place ≡ Some (end (shape g) a.walk)) (x.block ≡ end (shape g) a.walk)
              used true _ = ap (λ c. slice_get (preds_of g c) place) (equal x.block target parts.1) ∙ edge
              used false no_phi = absurd (true≢false (sym no_phi))

              operand : (found : Option ℕ) → slice_get x.operands place ≡ found → word_of other (option_map (renamed old to) found) ≡ word_of one found
              operand None at = refl
              operand (Some z) at =
                  operand_here a z ((obeys.nodes m x e).operands_defined place z (end (shape g) a.walk) at (used (is_phi x.op) parts.0))

  acted_words : (f k : Frame) (n word : ℕ) → ((m : ℕ) → m ≢ old → k.words m ≡ f.words m) → (m : ℕ) → m ≢ old → (with_word k n word).words m ≡ (with_word f n word).words m
  acted_words f k n word same m d = by (m == n)
    where
      chosen : ℕ → Bool → ℕ
      chosen kept t = elim t [ true ↦ word | false ↦ kept ]

      by : (t : Bool) → chosen (k.words m) t ≡ chosen (f.words m) t
      by true = refl
      by false = same m d

  at_end : {b : ℕ} {f : Frame} {s : Store} {k : Frame} → (a : AtRenamed b [] f s k) → (target place : ℕ) (t : Store) → exit p w g (end (shape g) a.walk) f s ≡ goes target place t
      → (chain h target ≡ chain g target)
      × AtRenamed target (chain g target) (after_edge w.base g (end (shape g) a.walk) f target place) t (after_edge w.base h (end (shape g) a.walk) k target place)
  at_end {f = f} {k = k} a target place t e = (
    chain_same g obeys old node is phi_op to each differs h r next walk.0,
    record {
      arguments = a.arguments;
      start = a.start;
      walk = next;
      hist = with_visit a.hist a.walk (word_at w.base g (end (shape g) a.walk) f);
      comes = comes;
      at = refl;
      same_arguments = a.same_arguments;
      same_words = λ m d. enters_here a target place walk.0.0 m d;
    },
  )
    where
      next : Walk
      next = record { into = target; place = place } ∷ a.walk

      comes : Comes p w g a.arguments a.start (record { into = target; place = place } ∷ a.walk) (chain g target) (after_edge w.base g (end (shape g) a.walk) f target place)
          (with_visit a.hist a.walk (word_at w.base g (end (shape g) a.walk) f)) t
      comes = has_gone target place t a.comes e

      walk : IsWalk (shape g) (record { into = target; place = place } ∷ a.walk) × IsBlock g target
      walk = is_walk p w g obeys a.arguments a.start comes

  replaced : Follower p q w (Pair g h) g h
  replaced = record {
    At = AtRenamed;
    first_same = ap first_of r.order;
    chain_first = ap (λ order. chain h (first_of order)) r.order ∙ chain_same g obeys old node is phi_op to each differs h r [] tt;
    starts = λ arguments t. record {
      arguments = arguments;
      start = t;
      walk = [];
      hist = λ visit n. 0;
      comes = begins;
      at = refl;
      same_arguments = refl;
      same_words = λ m d. refl;
    };
    begins = λ b n rest f s k a.
        (subst (λ c. Stands (Pair g h) (begun p w g c f n s) (begun q w h c k n s)) a.at (begins_here a), wants_same g obeys old node is phi_op to each differs h r n);
    acts = λ b n rest f s k word t a e. record {
      arguments = a.arguments;
      start = a.start;
      walk = a.walk;
      hist = a.hist;
      comes = has_acted word t a.comes (subst (λ c. begun p w g c f n s ≡ does (gives word t)) (sym a.at) e);
      at = a.at;
      same_arguments = a.same_arguments;
      same_words = acted_words f k n word a.same_words;
    };
    calls = λ b n rest f s k callee with t inner word u a e run after. record {
      arguments = a.arguments;
      start = a.start;
      walk = a.walk;
      hist = a.hist;
      comes = has_called callee with t inner word u a.comes (subst (λ c. begun p w g c f n s ≡ enters callee with t) (sym a.at) e) run after;
      at = a.at;
      same_arguments = a.same_arguments;
      same_words = acted_words f k n word a.same_words;
    };
    leaves = λ b f s k a. subst (λ c. exit q w h c k s ≡ exit p w g c f s) a.at (leaves_here a);
    goes_on = λ b f s k target place t a e.
        let next = at_end a target place t (subst (λ c. exit p w g c f s ≡ goes target place t) (sym a.at) e) in
        (next.0, subst (λ c. AtRenamed target (chain g target) (after_edge w.base g c f target place) t (after_edge w.base h c k target place)) a.at next.1);
  }

  follower : (x y : Firm) → Pair g h x y → Follower p q w (Pair g h) x y
  follower x y (inl same) = subst (λ z. Follower p q w (Pair g h) x z) (sym same) (unchanged g h old to r p q pairs w x)
  follower x y (inr same) = subst (λ z. Follower p q w (Pair g h) z y) (sym same.0) (subst (λ z. Follower p q w (Pair g h) g z) (sym same.1) replaced)

  -- what the call of a graph comes to, that of the other comes to
  pub main_runs : (x y : Firm) → Pair g h x y → (arguments : List ℕ) (t : Store) (result : Result (Option ℕ))
      → Runs p w x (first_of x.order) (chain x (first_of x.order)) (first_frame arguments) t result
      → Runs q w y (first_of y.order) (chain y (first_of y.order)) (first_frame arguments) t result
  main_runs x y pair arguments t result run =
      let fol = follower x y pair in
      from_first p q w (Pair g h) follower y x fol arguments t result (simulates p q w (Pair g h) follower run y fol (first_frame arguments) (fol.starts arguments t))

-- ---- whole programs

module _ (g : Firm) (obeys : Obeys g) (old : ℕ) (node : FirmNode) (is : node_at g old ≡ Some node) (phi_op : is_phi node.op ≡ true)
    (to : ℕ) (each : (index operand : ℕ) → slice_get node.operands index ≡ Some operand → (operand ≡ old) ⊎ (operand ≡ to)) (differs : to ≢ old)
    (h : Firm) (r : IsRenamed g h old to) (p q : Program) (pairs : Pairs g h p.graphs q.graphs) (image : List ℕ) (layout : Layout) (input : List ℕ) where
  mains : PairOption g h (main_of p) (main_of q)
  mains = main_pair g h old to r p.graphs q.graphs pairs

  same_params : (x y : Firm) → Pair g h x y → y.params ≡ x.params
  same_params x y pair = pair_same g h old to r (λ z. z.params) r.params x y pair

  -- what stands for a main
  other_main : (found : Option Firm) (main : Firm) → PairOption g h (Some main) found → (y : Firm) × (found ≡ Some y) × Pair g h main y
  other_main None main pair = absurd pair
  other_main (Some y) main pair = (y, refl, pair)

  this_main : (found : Option Firm) (main : Firm) → PairOption g h found (Some main) → (x : Firm) × (found ≡ Some x) × Pair g h x main
  this_main None main pair = absurd pair
  this_main (Some x) main pair = (x, refl, pair)

  transfers : (depth turns : ℕ) (x : FirmRan) → RunsProgram p image layout input depth turns x → RunsProgram q image layout input depth turns x
  transfers zero turns x without_depth = without_depth
  transfers (suc depth) turns x (without_main none) = without_main (λ main e no_params.
      let found = this_main (main_of p) main (subst (PairOption g h (main_of p)) e mains) in
      none found.0 found.1 (sym (same_params found.0 main found.2) ∙ no_params))
  transfers (suc depth) turns x (with_main {r = result} main e no_params run) =
      let found = other_main (main_of q) main (subst (λ m. PairOption g h m (main_of q)) e mains) in
      with_main found.0 found.1 (same_params main found.0 found.2 ∙ no_params)
      (main_runs g obeys old node is phi_op to each differs h r p q pairs (record { base = layout.cdata; input = input; depth = suc depth })
      main found.0 found.2 [] (first_store image turns) result run)

  -- the run of the program is the same
  pub same_run : (depth turns : ℕ) → firm_run q image layout input depth turns ≡ firm_run p image layout input depth turns
  same_run depth turns =
      program_is q image layout input depth turns (firm_run p image layout input depth turns)
      (transfers depth turns (firm_run p image layout input depth turns) (program_runs p image layout input depth turns))
