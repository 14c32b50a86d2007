-- A graph in which a trivial Phi was replaced by its other value: what stands where, and the words at a point, beside those of the
-- graph before.
use Rattle.std.proofs.Common.{◌≡◌, ◌≢◌, refl, sym, ap, ◌∙◌, subst, ℕ, zero, suc, ◌==◌, ◌⊎◌, Bool, true, false, true≢false, List, [], ◌∷◌, length, Option, Some, None}
use Rattle.std.specs.Prelude.{slice_get, map, unwrap_or, if◌then◌else◌, MatchBool}
use Rattle.run_model.specs.Stores.{World, Store}
use Rattle.ssa_core.specs.Walks.{Walk, end, IsWalk, Visits}
use Rattle.cp_base.specs.Operations.{applied}
use Rattle.firm_rules.specs.declared.node.NodeOp.{NodeOp}
use Rattle.firm_rules.specs.declared.node.NodeOp.TheVariants.{Param, Const, Addr, Unknown, Apply, ProjR, Phi}
use Rattle.firm_rules.specs.Graphs.{FirmNode, Firm, Program}
use Rattle.firm_rules.specs.Lookups.{node_at, node_id, preds_of, shape}
use Rattle.firm_rules.specs.Rules.{is_phi, IsDefined, Obeys}
use Rattle.firm_rules.specs.Frames.{Frame, word_by, word_in, word_within, word_at}
use Rattle.firm_rules.specs.Replacing.{renamed, Alike, IsRenamed}
use Rattle.firm_rules.specs.Visits.{History, with_visit, word_on, Comes}
use Rattle.firm_rules.proofs.Steps.{Test, alike, apart, test}
use Rattle.firm_rules.proofs.Nodes.{same_some, block_at}
use Rattle.firm_rules.proofs.Edges.{is_walk}
use Rattle.firm_rules.proofs.Points.{words_agree}
use Rattle.firm_rules.proofs.Trivial.{Passed, same_meaning, value_away}

pub renamed_old : (old to : ℕ) → renamed old to old ≡ to
renamed_old old to = by (test old old)
  where
    by : Test old old → renamed old to old ≡ to
    by (alike _ t) = ap (λ b. if b then to else old) t
    by (apart d _) = absurd (d refl)

pub renamed_other : (old to x : ℕ) → x ≢ old → renamed old to x ≡ x
renamed_other old to x d = by (test x old)
  where
    by : Test x old → renamed old to x ≡ x
    by (alike same _) = absurd (d same)
    by (apart _ t) = ap (λ b. if b then to else x) t

-- words of operands and of renamed ones
renamed_by : (base : ℕ) (f k : Frame) (one other : ℕ → ℕ) (old to : ℕ) (o : NodeOp) (operands : List ℕ) (n : ℕ)
    → k.arguments ≡ f.arguments → k.words n ≡ f.words n
    → ((index m : ℕ) → slice_get operands index ≡ Some m → other (renamed old to m) ≡ one m)
    → word_by base k other o (map (renamed old to) operands) n ≡ word_by base f one o operands n
renamed_by base f k one other old to (Param i) operands n arguments kept same =
    ap (λ a. unwrap_or (slice_get a i) 0) arguments
renamed_by base f k one other old to (Const c) operands n arguments kept same = refl
renamed_by base f k one other old to (Addr offset) operands n arguments kept same = refl
renamed_by base f k one other old to Unknown operands n arguments kept same = refl
renamed_by base f k one other old to (Apply o) (a ∷ b ∷ rest) n arguments kept same =
    ap (λ x. applied o x (other (renamed old to b))) (same 0 a refl) ∙ ap (applied o (one a)) (same 1 b refl)
renamed_by base f k one other old to (Apply o) (a ∷ []) n arguments kept same = ap (λ x. applied o x 0) (same 0 a refl)
renamed_by base f k one other old to (Apply o) [] n arguments kept same = kept
renamed_by base f k one other old to ProjR (t ∷ rest) n arguments kept same = same 0 t refl
renamed_by base f k one other old to ProjR [] n arguments kept same = kept
renamed_by base f k one other old to o operands n arguments kept same = kept

module _ (g : Firm) (obeys : Obeys g) (old : ℕ) (node : FirmNode) (is : node_at g old ≡ Some node) (phi_op : is_phi node.op ≡ true)
    (to : ℕ) (each : (index operand : ℕ) → slice_get node.operands index ≡ Some operand → (operand ≡ old) ⊎ (operand ≡ to)) (differs : to ≢ old)
    (h : Firm) (r : IsRenamed g h old to)
    (p : Program) (w : World) (arguments : List ℕ) (start : Store) (walk : Walk) (ns : List ℕ) (f : Frame) (hist : History) (s : Store)
    (comes : Comes p w g arguments start walk ns f hist s)
    (k : Frame) (same_arguments : k.arguments ≡ f.arguments) (same_words : (m : ℕ) → m ≢ old → k.words m ≡ f.words m) where
  abbrev b : ℕ
  b = end (shape g) walk

  is_walk_here : IsWalk (shape g) walk
  is_walk_here = (is_walk p w g obeys arguments start comes).0

  -- where the Phi is used, its block has been passed
  pub passed_by : IsDefined g old b → Passed g obeys old node is phi_op to each b
  passed_by defined u at = subst (λ (x : FirmNode). Visits (shape g) u x.block) (same_some defined.0 node (sym defined.1 ∙ is)) (defined.2 u at)

  same_here : IsDefined g old b → word_at w.base g b f old ≡ word_at w.base g b f to
  same_here defined =
      words_agree p w g arguments start comes (node_id old)
      ∙ ap (word_on (with_visit hist walk (word_at w.base g b f))) (same_meaning g obeys old node is phi_op to each walk is_walk_here (passed_by defined))
      ∙ sym (words_agree p w g arguments start comes (node_id to))

  -- the value was given its word before the block
  to_away : IsDefined g old b → (x : FirmNode) → node_at g to ≡ Some x → x.block ≡ b → ⊥
  to_away defined x there at = value_away g obeys old node is phi_op to each walk is_walk_here (passed_by defined) (block_at g to x there ∙ at)

  -- so its word is that of the frame, however many steps there are
  within_to : (steps : ℕ) → IsDefined g old b → word_within w.base g b f steps to ≡ f.words to
  unfolding word_within
  within_to zero defined = refl
  within_to (suc steps) defined = by (node_at g to) refl
    where
      by : (found : Option FirmNode) → node_at g to ≡ found → word_in w.base b f (word_within w.base g b f steps) found to ≡ f.words to
      by None e = refl
      by (Some x) e = here (test x.block b)
        where
          here : Test x.block b → word_in w.base b f (word_within w.base g b f steps) (Some x) to ≡ f.words to
          here (alike at _) = absurd (to_away defined x e at)
          here (apart _ t) = ap (λ y. elim y [ true ↦ word_by w.base f (word_within w.base g b f steps) x.op x.operands to | false ↦ f.words to ]) t

  phi_by : (o : NodeOp) (operands : List ℕ) (m : ℕ) (word : ℕ → ℕ) → is_phi o ≡ true → word_by w.base f word o operands m ≡ f.words m
  phi_by (Phi mode) operands m word e = refl
  phi_by o operands m word e = absurd (true≢false (sym e))

  within_old : (steps : ℕ) → word_within w.base g b f steps old ≡ f.words old
  unfolding word_within
  within_old zero = refl
  within_old (suc steps) =
      ap (λ found. word_in w.base b f (word_within w.base g b f steps) found old) is
      ∙ by (node.block == b)
    where
      by : (t : Bool) → elim t [ true ↦ word_by w.base f (word_within w.base g b f steps) node.op node.operands old | false ↦ f.words old ] ≡ f.words old
      by true = phi_by node.op node.operands old (word_within w.base g b f steps) phi_op
      by false = refl

  words_of_both : IsDefined g old b → f.words to ≡ f.words old
  words_of_both defined = sym (within_to (length g.nodes) defined) ∙ sym (same_here defined) ∙ within_old (length g.nodes)

  -- ---- the words in both graphs

  used_here : (m : ℕ) (x : FirmNode) → node_at g m ≡ Some x → is_phi x.op ≡ false → x.block ≡ b → (index operand : ℕ) → slice_get x.operands index ≡ Some operand → IsDefined g operand b
  used_here m x there no_phi at index operand operand_at = (obeys.nodes m x there).operands_defined index operand b operand_at (by (is_phi x.op) no_phi)
    where
      by : (t : Bool) → t ≡ false → MatchBool t (slice_get (preds_of g x.block) index ≡ Some b) (x.block ≡ b)
      by true e = absurd (true≢false e)
      by false e = at

  WithinSame : ℕ → Type 0
  WithinSame steps = (m : ℕ) → m ≢ old → word_within w.base h b k steps m ≡ word_within w.base g b f steps m

  -- the word of an operand that is used here
  operand_within : (steps : ℕ) → WithinSame steps → (x : ℕ) → IsDefined g x b → word_within w.base h b k steps (renamed old to x) ≡ word_within w.base g b f steps x
  unfolding WithinSame
  operand_within steps same x defined = by (test x old)
    where
      by : Test x old → word_within w.base h b k steps (renamed old to x) ≡ word_within w.base g b f steps x
      by (apart d _) = ap (word_within w.base h b k steps) (renamed_other old to x d) ∙ same x d
      by (alike at _) =
          let old_defined = subst (λ y. IsDefined g y b) at defined in
          ap (λ y. word_within w.base h b k steps (renamed old to y)) at
          ∙ ap (word_within w.base h b k steps) (renamed_old old to)
          ∙ same to differs
          ∙ within_to steps old_defined
          ∙ words_of_both old_defined
          ∙ sym (within_old steps)
          ∙ ap (word_within w.base g b f steps) (sym at)

  within_same : (steps : ℕ) → WithinSame steps
  unfolding WithinSame word_within
  within_same zero m d = same_words m d
  within_same (suc steps) m d = by (node_at g m) (node_at h m) refl (r.nodes m d) (within_same steps)
    where
      by : (one two : Option FirmNode) → node_at g m ≡ one → Alike old to one two → WithinSame steps
          → word_in w.base b k (word_within w.base h b k steps) two m ≡ word_in w.base b f (word_within w.base g b f steps) one m
      by None None e alike_nodes same = same_words m d
      by None (Some y) e alike_nodes same = absurd alike_nodes
      by (Some x) None e alike_nodes same = absurd alike_nodes
      by (Some x) (Some y) e alike_nodes same =
          ap (λ z. elim (z == b) [ true ↦ word_by w.base k below_h y.op y.operands m | false ↦ k.words m ]) alike_nodes.1.0
          ∙ ap (λ z. elim (x.block == b) [ true ↦ word_by w.base k below_h z y.operands m | false ↦ k.words m ]) alike_nodes.0
          ∙ ap (λ z. elim (x.block == b) [ true ↦ word_by w.base k below_h x.op z m | false ↦ k.words m ]) alike_nodes.1.1
          ∙ here (test x.block b) (is_phi x.op) refl
        where
          below_h : ℕ → ℕ
          below_h = word_within w.base h b k steps

          below_g : ℕ → ℕ
          below_g = word_within w.base g b f steps

          in_h : Bool → ℕ
          in_h z = elim z [ true ↦ word_by w.base k below_h x.op (map (renamed old to) x.operands) m | false ↦ k.words m ]

          in_g : Bool → ℕ
          in_g z = elim z [ true ↦ word_by w.base f below_g x.op x.operands m | false ↦ f.words m ]

          phi_in : (o : NodeOp) (operands : List ℕ) (l : Frame) (word : ℕ → ℕ) → is_phi o ≡ true → word_by w.base l word o operands m ≡ l.words m
          phi_in (Phi mode) operands l word phi = refl
          phi_in o operands l word phi = absurd (true≢false (sym phi))

          at_block : x.block ≡ b → (t : Bool) → is_phi x.op ≡ t
              → word_by w.base k below_h x.op (map (renamed old to) x.operands) m ≡ word_by w.base f below_g x.op x.operands m
          at_block at true phi =
              phi_in x.op (map (renamed old to) x.operands) k below_h phi ∙ same_words m d ∙ sym (phi_in x.op x.operands f below_g phi)
          at_block at false phi =
              renamed_by w.base f k below_g below_h old to x.op x.operands m same_arguments (same_words m d)
              (λ index z operand_at. operand_within steps same z (used_here m x e phi at index z operand_at))

          here : Test x.block b → (t : Bool) → is_phi x.op ≡ t
              → in_h (x.block == b) ≡ in_g (x.block == b)
          here (apart _ t) u phi =
              ap in_h t ∙ same_words m d ∙ sym (ap in_g t)
          here (alike at t) u phi =
              ap in_h t ∙ at_block at u phi ∙ sym (ap in_g t)

  -- so each node but the Phi has the same word in both graphs,
  pub word_same : (m : ℕ) → m ≢ old → word_at w.base h b k m ≡ word_at w.base g b f m
  unfolding WithinSame
  word_same m d = ap (λ steps. word_within w.base h b k steps m) r.size ∙ within_same (length g.nodes) m d

  -- and so has each operand that is used at the walk's end
  pub operand_same : (x : ℕ) → IsDefined g x b → word_at w.base h b k (renamed old to x) ≡ word_at w.base g b f x
  unfolding WithinSame
  operand_same x defined =
      ap (λ steps. word_within w.base h b k steps (renamed old to x)) r.size ∙ operand_within (length g.nodes) (within_same (length g.nodes)) x defined
