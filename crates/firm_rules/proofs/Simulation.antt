-- Two programs whose graphs are alike, each with that of the same number: where each step of the one has its step in the other, what
-- the one comes to the other comes to.
use Rattle.std.proofs.Common.{◌≡◌, sym, ap, ◌∙◌, subst, ℕ, List, [], ◌∷◌, Option}
use Rattle.run_model.specs.Stores.{World, Store}
use Rattle.firm_rules.specs.Graphs.{Firm, Program}
use Rattle.firm_rules.specs.Lookups.{first_of}
use Rattle.firm_rules.specs.Rules.{chain}
use Rattle.firm_rules.specs.Frames.{Frame, first_frame, with_word, after_edge}
use Rattle.firm_rules.specs.Runs.{Result, gives, stops, Begun, does, enters, begun, wants_value, after_call, goes, exit, Runs, acted, stopped, called, stopped_in, ended, went}

-- what stands for what is begun: the same, or a graph that stands for the graph
abbrev pub Stands : (Firm → Firm → Type 0) → Begun → Begun → Type 0
Stands Pair (does r) (does q) = q ≡ r
Stands Pair (enters callee arguments t) (enters other with u) = Pair callee other × ((with ≡ arguments) × (u ≡ t))
Stands Pair one other = ⊥

-- how the calls of one graph stand for those of another
pub record Follower (p q : Program) (w : World) (Pair : Firm → Firm → Type 0) (x y : Firm) : Type 1 where
  pub At : ℕ → List ℕ → Frame → Store → Frame → Type 0
  pub first_same : first_of y.order ≡ first_of x.order
  pub chain_first : chain y (first_of y.order) ≡ chain x (first_of x.order)
  pub starts : (arguments : List ℕ) (t : Store) → At (first_of x.order) (chain x (first_of x.order)) (first_frame arguments) t (first_frame arguments)
  pub begins : (b n : ℕ) (rest : List ℕ) (f : Frame) (s : Store) (h : Frame) → At b (n ∷ rest) f s h
      → Stands Pair (begun p w x b f n s) (begun q w y b h n s) × (wants_value y n ≡ wants_value x n)
  pub acts : (b n : ℕ) (rest : List ℕ) (f : Frame) (s : Store) (h : Frame) (word : ℕ) (t : Store) → At b (n ∷ rest) f s h
      → begun p w x b f n s ≡ does (gives word t) → At b rest (with_word f n word) t (with_word h n word)
  pub calls : (b n : ℕ) (rest : List ℕ) (f : Frame) (s : Store) (h : Frame) (callee : Firm) (arguments : List ℕ) (t : Store) (inner : Result (Option ℕ)) (word : ℕ) (u : Store)
      → At b (n ∷ rest) f s h → begun p w x b f n s ≡ enters callee arguments t
      → Runs p w callee (first_of callee.order) (chain callee (first_of callee.order)) (first_frame arguments) t inner
      → after_call (wants_value x n) s.active inner ≡ gives word u → At b rest (with_word f n word) u (with_word h n word)
  pub leaves : (b : ℕ) (f : Frame) (s : Store) (h : Frame) → At b [] f s h → exit q w y b h s ≡ exit p w x b f s
  pub goes_on : (b : ℕ) (f : Frame) (s : Store) (h : Frame) (to place : ℕ) (t : Store) → At b [] f s h → exit p w x b f s ≡ goes to place t
      → (chain y to ≡ chain x to) × At to (chain x to) (after_edge w.base x b f to place) t (after_edge w.base y b h to place)

module _ (p q : Program) (w : World) (Pair : Firm → Firm → Type 0) (follower : (x y : Firm) → Pair x y → Follower p q w Pair x y) where
  is_done : (r : Result ℕ) (other : Begun) → Stands Pair (does r) other → other ≡ does r
  is_done r (does y) same = ap does same
  is_done r (enters callee arguments t) none = absurd none

  record Entered (callee : Firm) (arguments : List ℕ) (t : Store) (found : Begun) : Type 0 where
    other : Firm
    pair : Pair callee other
    is : found ≡ enters other arguments t

  is_entered : (callee : Firm) (arguments : List ℕ) (t : Store) (other : Begun) → Stands Pair (enters callee arguments t) other → Entered callee arguments t other
  is_entered callee arguments t (does y) none = absurd none
  is_entered callee arguments t (enters other with u) stands = record {
    other = other;
    pair = stands.0;
    is = ap (λ a. enters other a u) stands.1.0 ∙ ap (enters other arguments) stands.1.1;
  }

  module _ (y : Firm) where
    -- from the first block on
    pub from_first : (x : Firm) (fol : Follower p q w Pair x y) (arguments : List ℕ) (t : Store) (r : Result (Option ℕ))
        → Runs q w y (first_of x.order) (chain x (first_of x.order)) (first_frame arguments) t r
        → Runs q w y (first_of y.order) (chain y (first_of y.order)) (first_frame arguments) t r
    from_first x fol arguments t r run =
        subst (λ ns. Runs q w y (first_of y.order) ns (first_frame arguments) t r) (sym fol.chain_first)
        (subst (λ b. Runs q w y b (chain x (first_of x.order)) (first_frame arguments) t r) (sym fol.first_same) run)

  pub simulates : {x : Firm} {b : ℕ} {ns : List ℕ} {f : Frame} {s : Store} {r : Result (Option ℕ)} → Runs p w x b ns f s r
      → (y : Firm) (fol : Follower p q w Pair x y) (h : Frame) → fol.At b ns f s h → Runs q w y b ns h s r
  simulates {x = x} {b = b} {f = f} {s = s} (acted {n = n} {rest = rest} word t e more) y fol h at =
      let begins = fol.begins b n rest f s h at in
      acted word t (is_done (gives word t) (begun q w y b h n s) (subst (λ z. Stands Pair z (begun q w y b h n s)) e begins.0))
      (simulates more y fol (with_word h n word) (fol.acts b n rest f s h word t at e))
  simulates {x = x} {b = b} {f = f} {s = s} (stopped {n = n} {rest = rest} outcome t e) y fol h at =
      let begins = fol.begins b n rest f s h at in
      stopped outcome t (is_done (stops outcome t) (begun q w y b h n s) (subst (λ z. Stands Pair z (begun q w y b h n s)) e begins.0))
  simulates {x = x} {b = b} {f = f} {s = s} (called {n = n} {rest = rest} callee arguments t result word u e inner after more) y fol h at =
      let begins = fol.begins b n rest f s h at in
      let other = is_entered callee arguments t (begun q w y b h n s) (subst (λ z. Stands Pair z (begun q w y b h n s)) e begins.0) in
      let other_fol = follower callee other.other other.pair in
      called other.other arguments t result word u other.is
      (from_first other.other callee other_fol arguments t result (simulates inner other.other other_fol (first_frame arguments) (other_fol.starts arguments t)))
      (ap (λ z. after_call z s.active result) begins.1 ∙ after)
      (simulates more y fol (with_word h n word) (fol.calls b n rest f s h callee arguments t result word u at e inner after))
  simulates {x = x} {b = b} {f = f} {s = s} (stopped_in {n = n} {rest = rest} callee arguments t result outcome u e inner after) y fol h at =
      let begins = fol.begins b n rest f s h at in
      let other = is_entered callee arguments t (begun q w y b h n s) (subst (λ z. Stands Pair z (begun q w y b h n s)) e begins.0) in
      let other_fol = follower callee other.other other.pair in
      stopped_in other.other arguments t result outcome u other.is
      (from_first other.other callee other_fol arguments t result (simulates inner other.other other_fol (first_frame arguments) (other_fol.starts arguments t)))
      (ap (λ z. after_call z s.active result) begins.1 ∙ after)
  simulates {x = x} {b = b} {f = f} {s = s} (ended e) y fol h at = ended (fol.leaves b f s h at ∙ e)
  simulates {x = x} {b = b} {f = f} {s = s} {r = r} (went to place t e more) y fol h at =
      let next = fol.goes_on b f s h to place t at e in
      went to place t (fol.leaves b f s h at ∙ e)
      (subst (λ ns. Runs q w y to ns (after_edge w.base y b h to place) t r) (sym next.0) (simulates more y fol (after_edge w.base y b h to place) next.1))
