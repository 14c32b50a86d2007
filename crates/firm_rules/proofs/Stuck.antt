-- Where a closed program of graphs that obey the rules is stuck.
use Rattle.std.proofs.Common.{◌≡◌, refl, sym, ap, ◌∙◌, subst, ℕ, zero, suc, ◌+◌, ◌<◌, ◌==◌, arith, Bool, true, false, true≢false, List, [], ◌∷◌, length, Option, Some, None}
use Rattle.std.specs.Prelude.{slice_get, map, not, cond, nat_lt, if◌then◌else◌}
use Rattle.std.specs.List.{position_or_len}
use Rattle.std.proofs.lemmas.List.{length-map}
use Rattle.cp_base.specs.declared.op.Op.{Op}
use Rattle.cp_base.specs.declared.op.Op.TheVariants.{Conv}
use Rattle.run_model.specs.declared.outcome.Outcome.TheVariants.{Deep}
use Rattle.run_model.specs.Accesses.{loaded, stored}
use Rattle.run_model.specs.Stores.{World, Store}
use Rattle.firm_rules.specs.declared.node.NodeOp.{NodeOp}
use Rattle.firm_rules.specs.declared.node.NodeOp.TheVariants as op
use Rattle.firm_rules.specs.declared.node.FirmEnd.{FirmEnd}
use Rattle.firm_rules.specs.declared.node.FirmEnd.TheVariants.{Jump, Branch, Return}
use Rattle.firm_rules.specs.Graphs.{FirmNode, Firm, Program, operands_of, acts}
use Rattle.firm_rules.specs.Lookups.{node_at, first_of, IsBlock, is_later, end_of, targets}
use Rattle.firm_rules.specs.Rules.{acts_in, OperandsFit, EndFits, Obeys, IsClosed}
use Rattle.firm_rules.specs.Frames.{Frame, word_at}
use Rattle.firm_rules.specs.Runs.{no_graph, malformed, FirmOutcome, came, stuck, Result, gives, stops, Begun, does, enters, accessed, call, call_turn, begun_by, begun_in, begun, wants_value, after_call, Exit, ends, goes, back, jump, branch, exit_by, exit, Runs, acted, stopped, called, stopped_in, ended, went}
use Rattle.firm_rules.proofs.Steps.{Test, alike, apart, test}
use Rattle.firm_rules.proofs.Chains.{both_true, AllAct, chain_acts}

-- the run is not stuck by what the rules exclude
abbrev pub Fine : FirmOutcome → Type 0
Fine (stuck no_graph) = ⊥
Fine (stuck malformed) = ⊥
Fine outcome = Unit {0}

abbrev pub FineResult : {A : Type 0} → Result A → Type 0
FineResult (gives a s) = Unit {0}
FineResult (stops outcome s) = Fine outcome

-- a graph of the program
abbrev pub IsGraph : Program → Firm → Type 0
IsGraph p g = (index : ℕ) × (slice_get p.graphs index ≡ Some g)

abbrev FineBegun : Program → Begun → Type 0
FineBegun p (does r) = FineResult r
FineBegun p (enters callee arguments s) = IsGraph p callee

accessed_fine : {A : Type 0} → (next : A → Result ℕ) (s : Store) (a : Option A) → ((x : A) → FineResult (next x)) → FineResult (accessed next s a)
accessed_fine next s (Some a) each = each a
accessed_fine next s None each = tt

call_turn_fine : (p : Program) (turns : ℕ) (callee : Firm) (arguments : List ℕ) (s : Store) → IsGraph p callee → FineBegun p (call_turn turns callee arguments s)
call_turn_fine p zero callee arguments s is = tt
call_turn_fine p (suc turns) callee arguments s is = is

-- a call that fits
abbrev CallIs : Program → NodeOp → List ℕ → Type 0
CallIs p o operands = (f : ℕ) → o ≡ op.Call f → (callee : Firm) × (slice_get p.graphs f ≡ Some callee) × (length operands ≡ suc callee.params)

call_fine : (p : Program) (w : World) (callee : Firm) (arguments : List ℕ) (s : Store) → IsGraph p callee → length arguments ≡ callee.params
    → FineBegun p (call w (Some callee) arguments s)
call_fine p w callee arguments s is size = by (test (length arguments) callee.params) (nat_lt s.active w.depth)
  where
    after : Bool → Begun
    after t = if t then call_turn s.turns callee arguments s else does (stops (came Deep) s)

    deep : (t : Bool) → FineBegun p (after t)
    deep true = call_turn_fine p s.turns callee arguments s is
    deep false = tt

    by : Test (length arguments) callee.params → (t : Bool)
        → FineBegun p (if length arguments == callee.params then after t else does (stops (stuck no_graph) s))
    by (alike _ e) t = subst (λ b. FineBegun p (if b then after t else does (stops (stuck no_graph) s))) (sym e) (deep t)
    by (apart d _) t = absurd (d size)

-- an operation on words does not act
pub words_do_not_act : (o : Op) → acts (op.Apply o) ≡ false
words_do_not_act (Conv to) = refl
words_do_not_act o = refl

module _ (p : Program) (w : World) (g : Firm) (word : ℕ → ℕ) (s : Store) where
  abbrev begins : NodeOp → List ℕ → Begun
  begins o operands = elim operands [ [] ↦ does (stops (stuck malformed) s) | m ∷ rest ↦ begun_by p w o (map word rest) s ]

  begins_fine : (o : NodeOp) (operands : List ℕ) → acts o ≡ true → OperandsFit g (operands_of o) operands → CallIs p o operands → FineBegun p (begins o operands)
  begins_fine (op.Load kind) (m ∷ a ∷ []) does_act fit fits_call = accessed_fine _ s (loaded w.base s.bytes kind (word a)) (λ _. tt)
  begins_fine (op.Load kind) [] does_act fit fits_call = absurd (omega (arith, ap length fit))
  begins_fine (op.Load kind) (m ∷ []) does_act fit fits_call = absurd (omega (arith, ap length fit))
  begins_fine (op.Load kind) (m ∷ a ∷ b ∷ rest) does_act fit fits_call = absurd (omega (arith, ap length fit))
  begins_fine (op.Store kind) (m ∷ a ∷ v ∷ []) does_act fit fits_call = accessed_fine _ s (stored w.base s.bytes kind (word a) (word v)) (λ _. tt)
  begins_fine (op.Store kind) [] does_act fit fits_call = absurd (omega (arith, ap length fit))
  begins_fine (op.Store kind) (m ∷ []) does_act fit fits_call = absurd (omega (arith, ap length fit))
  begins_fine (op.Store kind) (m ∷ a ∷ []) does_act fit fits_call = absurd (omega (arith, ap length fit))
  begins_fine (op.Store kind) (m ∷ a ∷ v ∷ b ∷ rest) does_act fit fits_call = absurd (omega (arith, ap length fit))
  begins_fine (op.Call c) [] does_act fit fits_call = absurd fit
  begins_fine (op.Call c) (m ∷ rest) does_act fit fits_call =
      let callee = fits_call c refl in
      subst (λ (found : Option Firm). FineBegun p (call w found (map word rest) s)) (sym callee.1)
      (call_fine p w callee.0 (map word rest) s (c, callee.1) (length-map rest word ∙ omega (arith, callee.2)))
  begins_fine op.Get (m ∷ []) does_act fit fits_call = tt
  begins_fine op.Get [] does_act fit fits_call = absurd (omega (arith, ap length fit))
  begins_fine op.Get (m ∷ a ∷ rest) does_act fit fits_call = absurd (omega (arith, ap length fit))
  begins_fine op.Put (m ∷ a ∷ []) does_act fit fits_call = tt
  begins_fine op.Put [] does_act fit fits_call = absurd (omega (arith, ap length fit))
  begins_fine op.Put (m ∷ []) does_act fit fits_call = absurd (omega (arith, ap length fit))
  begins_fine op.Put (m ∷ a ∷ b ∷ rest) does_act fit fits_call = absurd (omega (arith, ap length fit))
  begins_fine (op.Apply o) operands does_act fit fits_call = absurd (true≢false (sym does_act ∙ words_do_not_act o))
  begins_fine o operands does_act fit fits_call = absurd (true≢false (sym does_act))

-- ---- where a block is left

abbrev FineExit : Firm → Exit → Type 0
FineExit g (ends r) = FineResult r
FineExit g (goes to place t) = IsBlock g to

back_fine : (g : Firm) (turns to at : ℕ) (s : Store) → IsBlock g to → FineExit g (back turns to at s)
back_fine g zero to at s is = tt
back_fine g (suc turns) to at s is = is

jump_fine : (g : Firm) (b to at : ℕ) (s : Store) → IsBlock g to → FineExit g (jump g b to at s)
jump_fine g b to at s is = by (is_later g b to)
  where
    by : (t : Bool) → FineExit g (if t then goes to at s else back s.turns to at s)
    by true = is
    by false = back_fine g s.turns to at s is

exit_by_fine : (g : Firm) (b : ℕ) (word : ℕ → ℕ) (end : Option FirmEnd) (s : Store) → EndFits g end
    → ((index to : ℕ) → slice_get (targets end) index ≡ Some to → IsBlock g to) → FineExit g (exit_by g b word end s)
exit_by_fine g b word (Some (Jump to)) s fits are = jump_fine g b to.number _ s (are 0 to.number refl)
exit_by_fine g b word (Some (Branch n first second)) s fits are = by (not (word n.number == 0))
  where
    by : (t : Bool) → FineExit g (branch t g b first.number second.number s)
    by true = jump_fine g b first.number _ s (are 0 first.number refl)
    by false = jump_fine g b second.number _ s (are 1 second.number refl)
exit_by_fine g b word (Some (Return m (Some n))) s fits are = tt
exit_by_fine g b word (Some (Return m None)) s fits are = tt
exit_by_fine g b word None s fits are = absurd fits

after_call_fine : (wants : Bool) (active : ℕ) (r : Result (Option ℕ)) → FineResult r → FineResult (after_call wants active r)
after_call_fine wants active (gives (Some word) s) fine = tt
after_call_fine true active (gives None s) fine = tt
after_call_fine false active (gives None s) fine = tt
after_call_fine wants active (stops outcome s) fine = fine

-- the first block is one
pub first_is_block : (g : Firm) → 0 < length g.order → IsBlock g (first_of g.order)
first_is_block g some = by g.order some
  where
    by : (order : List ℕ) → 0 < length order → position_or_len (λ c. c == first_of order) order < length order
    by [] none = absurd (omega (arith, none))
    by (b ∷ bs) more = here (test b b)
      where
        here : Test b b → position_or_len (λ c. c == b) (b ∷ bs) < length (b ∷ bs)
        here (alike _ e) = subst (λ t. cond (not t) (1 + position_or_len (λ c. c == b) bs) 0 < suc (length bs)) (sym e) (omega arith)
        here (apart d _) = absurd (d refl)

module _ (p : Program) (w : World) (closed : IsClosed p) (obeys : (index : ℕ) (g : Firm) → slice_get p.graphs index ≡ Some g → Obeys g) where
  begun_fine : (g : Firm) → IsGraph p g → (b n : ℕ) (f : Frame) (s : Store) → acts_in b (node_at g n) ≡ true → FineBegun p (begun p w g b f n s)
  begun_fine g is b n f s act = by (node_at g n) refl act
    where
      by : (x : Option FirmNode) → node_at g n ≡ x → acts_in b x ≡ true → FineBegun p (begun_in p w (word_at w.base g b f) x s)
      by (Some node) at e =
          begins_fine p w g (word_at w.base g b f) s node.op node.operands (both_true (node.block == b) (acts node.op) e).1
          ((obeys is.0 g is.1).nodes n node at).operands_fit (closed.calls is.0 g n node is.1 at)
      by None at e = absurd (true≢false (sym e))

  exit_fine : (g : Firm) → IsGraph p g → (b : ℕ) (f : Frame) (s : Store) → IsBlock g b → FineExit g (exit p w g b f s)
  exit_fine g is b f s block =
      exit_by_fine g b (word_at w.base g b f) (end_of g b) s ((obeys is.0 g is.1).blocks b block).end_fits ((obeys is.0 g is.1).blocks b block).edges_fit.to_blocks

  pub runs_fine : {g : Firm} {b : ℕ} {ns : List ℕ} {f : Frame} {s : Store} {r : Result (Option ℕ)} → Runs p w g b ns f s r
      → IsGraph p g → IsBlock g b → AllAct g b ns → FineResult r
  runs_fine (acted word t e more) is block act = runs_fine more is block act.1
  runs_fine {g = g} {b = b} {f = f} {s = s} (stopped {n = n} outcome t e) is block act =
      subst (FineBegun p) e (begun_fine g is b n f s act.0)
  runs_fine (called callee arguments t result word u e inner after more) is block act = runs_fine more is block act.1
  runs_fine {g = g} {b = b} {f = f} {s = s} (stopped_in {n = n} callee arguments t result outcome u e inner after) is block act =
      let callee_is = subst (FineBegun p) e (begun_fine g is b n f s act.0) in
      let inside = runs_fine inner callee_is (first_is_block callee (obeys callee_is.0 callee callee_is.1).some_block) (chain_acts callee (first_of callee.order)) in
      subst FineResult after (after_call_fine (wants_value g n) s.active result inside)
  runs_fine {g = g} {b = b} {f = f} {s = s} (ended e) is block act = subst (FineExit g) e (exit_fine g is b f s block)
  runs_fine {g = g} {b = b} {f = f} {s = s} (went to at t e more) is block act =
      runs_fine more is (subst (FineExit g) e (exit_fine g is b f s block)) (chain_acts g to)
