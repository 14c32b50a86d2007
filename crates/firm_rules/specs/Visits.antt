-- The points that a call of a graph comes to, with the walk up to there, and what a value means on the walk.
use Rattle.std.specs.Prelude.{◌≡◌, ℕ, ◌==◌, true, false, List, [], ◌∷◌, length, Option}
use Rattle.run_model.specs.Stores.{World, Store}
use Rattle.ssa_core.specs.Walks.{Walk, end, Origin, nowhere, from}
use Rattle.firm_rules.specs.declared.node.NodeId.{NodeId}
use Rattle.firm_rules.specs.Graphs.{Firm, Program}
use Rattle.firm_rules.specs.Lookups.{first_of, shape}
use Rattle.firm_rules.specs.Rules.{chain}
use Rattle.firm_rules.specs.Frames.{Frame, first_frame, with_word, word_at, after_edge}
use Rattle.firm_rules.specs.Runs.{Result, gives, does, enters, begun, wants_value, after_call, goes, exit, Runs}

-- the words of the nodes at visits, each by the number of edges of the walk up to it
abbrev pub History : Type 0
History = ℕ → ℕ → ℕ

-- and the words that they have now, at the last visit of the walk
abbrev pub with_visit : History → Walk → (ℕ → ℕ) → History
with_visit h walk now visit = elim (visit == length walk) [ true ↦ now | false ↦ h visit ]

-- the word of what a value means on a walk: that which it had at the visit
abbrev pub word_on : History → Origin NodeId → ℕ
word_on h nowhere = 0
word_on h (from v visit) = h (length visit) v.number

-- From its first block, with these arguments, the call of a graph comes to where the walk ends, with these nodes of the block still
-- to act; the history has the earlier visits.
pub data Comes (p : Program) (w : World) (g : Firm) (arguments : List ℕ) (start : Store) : Walk → List ℕ → Frame → History → Store → Type 0 where
  begins : Comes p w g arguments start [] (chain g (first_of g.order)) (first_frame arguments) (λ visit n. 0) start
  has_acted : {walk : Walk} {n : ℕ} {rest : List ℕ} {f : Frame} {h : History} {s : Store} → (word : ℕ) (t : Store)
      → Comes p w g arguments start walk (n ∷ rest) f h s → begun p w g (end (shape g) walk) f n s ≡ does (gives word t)
      → Comes p w g arguments start walk rest (with_word f n word) h t
  has_called : {walk : Walk} {n : ℕ} {rest : List ℕ} {f : Frame} {h : History} {s : Store}
      → (callee : Firm) (with : List ℕ) (t : Store) (inner : Result (Option ℕ)) (word : ℕ) (u : Store)
      → Comes p w g arguments start walk (n ∷ rest) f h s → begun p w g (end (shape g) walk) f n s ≡ enters callee with t
      → Runs p w callee (first_of callee.order) (chain callee (first_of callee.order)) (first_frame with) t inner
      → after_call (wants_value g n) s.active inner ≡ gives word u → Comes p w g arguments start walk rest (with_word f n word) h u
  has_gone : {walk : Walk} {f : Frame} {h : History} {s : Store} → (to place : ℕ) (t : Store)
      → Comes p w g arguments start walk [] f h s → exit p w g (end (shape g) walk) f s ≡ goes to place t
      → Comes p w g arguments start (record { into = to; place = place } ∷ walk) (chain g to) (after_edge w.base g (end (shape g) walk) f to place)
      (with_visit h walk (word_at w.base g (end (shape g) walk) f)) t
