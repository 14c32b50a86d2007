-- The points that a call comes to.
use Rattle.std.proofs.Common.{◌≡◌, refl, sym, ap, ◌∙◌, subst, ℕ, ◌==◌, true, false, true≢false, List, [], Option, Some, None}
use Rattle.std.specs.Prelude.{map}
use Rattle.run_model.specs.Stores.{World, Store}
use Rattle.ssa_core.specs.Walks.{Walk, end, along}
use Rattle.firm_rules.specs.declared.node.NodeId.{NodeId}
use Rattle.firm_rules.specs.Graphs.{FirmNode, Firm, Program, acts}
use Rattle.firm_rules.specs.Lookups.{node_at, node_id, first_of, shape}
use Rattle.firm_rules.specs.Rules.{acts_in, chain}
use Rattle.firm_rules.specs.Frames.{Frame, first_frame, with_word, word_at}
use Rattle.firm_rules.specs.Runs.{Result, Runs, acted, called, went}
use Rattle.firm_rules.specs.Visits.{History, with_visit, word_on, Comes, begins, has_acted, has_called, has_gone}
use Rattle.firm_rules.proofs.Steps.{Test, alike, apart, test}
use Rattle.firm_rules.proofs.Chains.{both_true, AllAct, chain_acts}
use Rattle.firm_rules.proofs.Along.{along_nothing, along_phi_first, along_not_first}
use Rattle.firm_rules.proofs.Nodes.{kind_at, block_at, kind_nothing, kind_acts, Class, not_there, unknown_node, away, phi_of_block, own, class_of}
use Rattle.firm_rules.proofs.Visits.{IsOwn, Means, unknown_kind, phi_kind, agrees, entered_at}

module _ (g : Firm) where
  means_first : (arguments : List ℕ) (h : History) → Means g [] (first_frame arguments) h
  means_first arguments h n not_own = by (class_of g (first_of g.order) n)
    where
      by : Class g (first_of g.order) n → 0 ≡ word_on h (along (shape g) [] (node_id n))
      by (not_there e) = sym (ap (word_on h) (along_nothing (shape g) [] (node_id n) (kind_nothing g n e)))
      by (unknown_node node e o) = sym (ap (word_on h) (along_nothing (shape g) [] (node_id n) (unknown_kind g n node e o)))
      by (away node e d) = sym (ap (word_on h) (along_not_first (shape g) (node_id n) (λ at. d (sym (block_at g n node e) ∙ at))))
      by (phi_of_block node mode e at o) =
          sym (ap (word_on h) (along_phi_first (shape g) (node_id n) (map node_id node.operands) (phi_kind g n node mode e o)))
      by (own node e at o) = absurd (not_own (record { kind = kind_at g n node e ∙ o; at = block_at g n node e ∙ at }))

  -- a node that acts is one of the block's own
  acts_own : (b n : ℕ) → acts_in b (node_at g n) ≡ true → IsOwn g b n
  acts_own b n act = by (node_at g n) refl act
    where
      block_is : (x : ℕ) → (x == b) ≡ true → x ≡ b
      block_is x e = here (test x b)
        where
          here : Test x b → x ≡ b
          here (alike same _) = same
          here (apart _ t) = absurd (true≢false (sym e ∙ t))

      by : (found : Option FirmNode) → node_at g n ≡ found → acts_in b found ≡ true → IsOwn g b n
      by None e a = absurd (true≢false (sym a))
      by (Some node) e a =
          let parts = both_true (node.block == b) (acts node.op) a in
          record { kind = kind_at g n node e ∙ kind_acts node.op node.operands parts.1; at = block_at g n node e ∙ block_is node.block parts.0 }

  means_acted : (walk : Walk) (f : Frame) (h : History) (n word : ℕ) → acts_in (end (shape g) walk) (node_at g n) ≡ true → Means g walk f h → Means g walk (with_word f n word) h
  means_acted walk f h n word act means m not_own = by (test m n)
    where
      by : Test m n → (with_word f n word).words m ≡ word_on h (along (shape g) walk (node_id m))
      by (alike same _) = absurd (not_own (subst (IsOwn g (end (shape g) walk)) (sym same) (acts_own (end (shape g) walk) n act)))
      by (apart _ t) = ap (λ x. elim x [ true ↦ word | false ↦ f.words m ]) t ∙ means m not_own

module _ (p : Program) (w : World) (g : Firm) (arguments : List ℕ) (start : Store) where
  pub means_at : {walk : Walk} {ns : List ℕ} {f : Frame} {h : History} {s : Store} → Comes p w g arguments start walk ns f h s
      → AllAct g (end (shape g) walk) ns × Means g walk f h
  means_at begins = (chain_acts g (first_of g.order), means_first g arguments (λ visit n. 0))
  means_at {walk = walk} {h = h} (has_acted {n = n} {f = f} word t before e) =
      let parts = means_at before in (parts.0.1, means_acted g walk f h n word parts.0.0 parts.1)
  means_at {walk = walk} {h = h} (has_called {n = n} {f = f} callee with t inner word u before e run after) =
      let parts = means_at before in (parts.0.1, means_acted g walk f h n word parts.0.0 parts.1)
  means_at (has_gone {walk = walk} {f = f} {h = h} to place t before e) =
      let parts = means_at before in (chain_acts g to, λ n not_own. entered_at g w.base walk f h parts.1 to place n not_own)

  -- the word of a node is that of what it means on the walk
  pub words_agree : {walk : Walk} {ns : List ℕ} {f : Frame} {h : History} {s : Store} → Comes p w g arguments start walk ns f h s → (v : NodeId)
      → word_at w.base g (end (shape g) walk) f v.number
      ≡ word_on (with_visit h walk (word_at w.base g (end (shape g) walk) f)) (along (shape g) walk v)
  words_agree {walk = walk} {f = f} {h = h} comes v = agrees g w.base walk f h (means_at comes).1 v.number

  -- what the run from a point comes to, the run from the first block comes to
  pub runs_from : {walk : Walk} {ns : List ℕ} {f : Frame} {h : History} {s : Store} {r : Result (Option ℕ)} → Comes p w g arguments start walk ns f h s
      → Runs p w g (end (shape g) walk) ns f s r → Runs p w g (first_of g.order) (chain g (first_of g.order)) (first_frame arguments) start r
  runs_from begins run = run
  runs_from (has_acted word t before e) run = runs_from before (acted word t e run)
  runs_from (has_called callee with t inner word u before e call after) run = runs_from before (called callee with t inner word u e call after run)
  runs_from (has_gone to place t before e) run = runs_from before (went to place t e run)
