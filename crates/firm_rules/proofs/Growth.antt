-- Over a run the output only grows, and it is cut off only where no turn is left.
use Rattle.std.proofs.Common.{◌≡◌, refl, sym, ap, ◌∙◌, subst, ℕ, zero, suc, ◌==◌, append_assoc, Bool, true, false, List, [], ◌∷◌, ◌++◌, length, Option, Some, None}
use Rattle.std.specs.Prelude.{if◌then◌else◌, nat_lt, slice_get, map}
use Rattle.std.proofs.lemmas.List.{append-nil}
use Rattle.run_model.specs.declared.outcome.Outcome.TheVariants.{Running, Deep}
use Rattle.run_model.specs.Accesses.{loaded, stored}
use Rattle.run_model.specs.Stores.{World, Store, IsPrefix}
use Rattle.firm_rules.specs.declared.node.NodeOp.{NodeOp}
use Rattle.firm_rules.specs.declared.node.NodeOp.TheVariants as op
use Rattle.firm_rules.specs.declared.node.FirmEnd.{FirmEnd}
use Rattle.firm_rules.specs.declared.node.FirmEnd.TheVariants.{Jump, Branch, Return}
use Rattle.firm_rules.specs.Graphs.{FirmNode, Firm, Program}
use Rattle.firm_rules.specs.Lookups.{is_later, end_of, node_at}
use Rattle.firm_rules.specs.Frames.{Frame, word_at}
use Rattle.firm_rules.specs.Runs.{FirmOutcome, came, stuck, no_graph, malformed, Result, gives, stops, store_of, Begun, does, enters, accessed, call, call_turn, begun_by, begun_in, begun, wants_value, after_call, Exit, ends, goes, back, jump, branch, exit_by, Runs, acted, stopped, called, stopped_in, ended, went}

prefix_refl : (a : List ℕ) → IsPrefix a a
prefix_refl a = record { rest = []; is = sym (append-nil a) }

prefix_trans : {a b c : List ℕ} → IsPrefix a b → IsPrefix b c → IsPrefix a c
prefix_trans {a} {b} {c} p q = record { rest = p.rest ++ q.rest; is = q.is ∙ ap (λ o. o ++ q.rest) p.is ∙ append_assoc a p.rest q.rest }

is_running : FirmOutcome → Bool
is_running (came Running) = true
is_running outcome = false

-- where it was cut off, no turn is left
abbrev CutOff : {A : Type 0} → Result A → Type 0
CutOff (gives a s) = Unit {0}
CutOff (stops (came Running) s) = s.turns ≡ 0
CutOff (stops outcome s) = Unit {0}

-- what a part of the run leaves of the output
pub record Grows {A : Type 0} (out : List ℕ) (r : Result A) : Type 0 where
  pub longer : IsPrefix out (store_of r).out
  pub cut_off : CutOff r

abbrev BegunGrows : List ℕ → Begun → Type 0
BegunGrows out (does r) = Grows out r
BegunGrows out (enters callee arguments t) = t.out ≡ out

stuck_grows : {A : Type 0} → (s : Store) (outcome : FirmOutcome) → CutOff {A = A} (stops outcome s) → Grows {A = A} s.out (stops outcome s)
stuck_grows s outcome cut = record { longer = prefix_refl s.out; cut_off = cut }

accessed_grows : {A : Type 0} → (next : A → Result ℕ) (s : Store) (a : Option A) → ((x : A) → Grows s.out (next x)) → Grows s.out (accessed next s a)
accessed_grows next s (Some a) each = each a
accessed_grows next s None each = stuck_grows s _ tt

call_turn_grows : (turns : ℕ) (callee : Firm) (arguments : List ℕ) (s : Store) → s.turns ≡ turns → BegunGrows s.out (call_turn turns callee arguments s)
call_turn_grows zero callee arguments s e = stuck_grows s _ e
call_turn_grows (suc turns) callee arguments s e = refl

call_grows : (w : World) (callee : Option Firm) (arguments : List ℕ) (s : Store) → BegunGrows s.out (call w callee arguments s)
call_grows w None arguments s = stuck_grows s _ tt
call_grows w (Some callee) arguments s = by (length arguments == callee.params) (nat_lt s.active w.depth)
  where
    by : (t u : Bool) → BegunGrows s.out (if t then (if u then call_turn s.turns callee arguments s else does (stops (came Deep) s)) else does (stops (stuck no_graph) s))
    by true true = call_turn_grows s.turns callee arguments s refl
    by true false = stuck_grows s _ tt
    by false u = stuck_grows s _ tt

begun_by_grows : (p : Program) (w : World) (o : NodeOp) (operands : List ℕ) (s : Store) → BegunGrows s.out (begun_by p w o operands s)
begun_by_grows p w (op.Load kind) (address ∷ []) s =
    accessed_grows _ s (loaded w.base s.bytes kind address) (λ word. record { longer = prefix_refl s.out; cut_off = tt })
begun_by_grows p w (op.Store kind) (address ∷ value ∷ []) s =
    accessed_grows _ s (stored w.base s.bytes kind address value) (λ bytes. record { longer = prefix_refl s.out; cut_off = tt })
begun_by_grows p w (op.Call c) arguments s = call_grows w (slice_get p.graphs c) arguments s
begun_by_grows p w op.Get [] s = record { longer = prefix_refl s.out; cut_off = tt }
begun_by_grows p w op.Put (value ∷ []) s = record { longer = record { rest = _; is = refl }; cut_off = tt }
begun_by_grows p w o operands s = stuck_grows s _ tt

begun_in_grows : (p : Program) (w : World) (word : ℕ → ℕ) (node : Option FirmNode) (s : Store) → BegunGrows s.out (begun_in p w word node s)
begun_in_grows p w word None s = stuck_grows s _ tt
begun_in_grows p w word (Some node) s = by node.operands
  where
    by : (operands : List ℕ) → BegunGrows s.out (elim operands [ [] ↦ does (stops (stuck malformed) s) | m ∷ rest ↦ begun_by p w node.op (map word rest) s ])
    by [] = stuck_grows s _ tt
    by (m ∷ rest) = begun_by_grows p w node.op (map word rest) s

begun_grows : (p : Program) (w : World) (g : Firm) (b : ℕ) (f : Frame) (n : ℕ) (s : Store) → BegunGrows s.out (begun p w g b f n s)
begun_grows p w g b f n s = begun_in_grows p w (word_at w.base g b f) (node_at g n) s

after_call_grows : (out : List ℕ) (wants : Bool) (active : ℕ) (r : Result (Option ℕ)) → Grows out r → Grows out (after_call wants active r)
after_call_grows out wants active (gives (Some word) s) grows = record { longer = grows.longer; cut_off = tt }
after_call_grows out true active (gives None s) grows = record { longer = grows.longer; cut_off = tt }
after_call_grows out false active (gives None s) grows = record { longer = grows.longer; cut_off = tt }
after_call_grows out wants active (stops outcome s) grows = record { longer = grows.longer; cut_off = grows.cut_off }

abbrev ExitGrows : List ℕ → Exit → Type 0
ExitGrows out (ends r) = Grows out r
ExitGrows out (goes to place t) = t.out ≡ out

back_grows : (turns to place : ℕ) (s : Store) → s.turns ≡ turns → ExitGrows s.out (back turns to place s)
back_grows zero to place s e = stuck_grows s _ e
back_grows (suc turns) to place s e = refl

jump_grows : (g : Firm) (b to place : ℕ) (s : Store) → ExitGrows s.out (jump g b to place s)
jump_grows g b to place s = by (is_later g b to)
  where
    by : (t : Bool) → ExitGrows s.out (if t then goes to place s else back s.turns to place s)
    by true = refl
    by false = back_grows s.turns to place s refl

branch_grows : (t : Bool) (g : Firm) (b first second : ℕ) (s : Store) → ExitGrows s.out (branch t g b first second s)
branch_grows true g b first second s = jump_grows g b first _ s
branch_grows false g b first second s = jump_grows g b second _ s

exit_by_grows : (g : Firm) (b : ℕ) (word : ℕ → ℕ) (end : Option FirmEnd) (s : Store) → ExitGrows s.out (exit_by g b word end s)
exit_by_grows g b word (Some (Jump to)) s = jump_grows g b to.number _ s
exit_by_grows g b word (Some (Branch n first second)) s = branch_grows _ g b first.number second.number s
exit_by_grows g b word (Some (Return m (Some n))) s = record { longer = prefix_refl s.out; cut_off = tt }
exit_by_grows g b word (Some (Return m None)) s = record { longer = prefix_refl s.out; cut_off = tt }
exit_by_grows g b word None s = stuck_grows s _ tt

later : {A : Type 0} → (first middle : List ℕ) (r : Result A) → IsPrefix first middle → Grows middle r → Grows first r
later first middle r before grows = record { longer = prefix_trans before grows.longer; cut_off = grows.cut_off }

module _ (p : Program) (w : World) where
  pub run_grows : {g : Firm} {b : ℕ} {ns : List ℕ} {f : Frame} {s : Store} {r : Result (Option ℕ)} → Runs p w g b ns f s r → Grows s.out r
  run_grows {g = g} {b = b} {f = f} {s = s} {r = r} (acted {n = n} word t e more) =
      later s.out t.out r (subst (BegunGrows s.out) e (begun_grows p w g b f n s)).longer (run_grows more)
  run_grows {g = g} {b = b} {f = f} {s = s} (stopped {n = n} outcome t e) =
      let grows = subst (BegunGrows s.out) e (begun_grows p w g b f n s) in record { longer = grows.longer; cut_off = grows.cut_off }
  run_grows {g = g} {b = b} {f = f} {s = s} {r = r} (called {n = n} callee arguments t result word u e inner after more) =
      let same = subst (BegunGrows s.out) e (begun_grows p w g b f n s) in
      let grows = subst (Grows s.out) after (after_call_grows s.out (wants_value g n) s.active result (subst (λ o. Grows o result) same (run_grows inner))) in
      later s.out u.out r grows.longer (run_grows more)
  run_grows {g = g} {b = b} {f = f} {s = s} (stopped_in {n = n} callee arguments t result outcome u e inner after) =
      let same = subst (BegunGrows s.out) e (begun_grows p w g b f n s) in
      let grows = subst (Grows s.out) after (after_call_grows s.out (wants_value g n) s.active result (subst (λ o. Grows o result) same (run_grows inner))) in
      record { longer = grows.longer; cut_off = grows.cut_off }
  run_grows {g = g} {b = b} {f = f} {s = s} (ended e) = subst (ExitGrows s.out) e (exit_by_grows g b (word_at w.base g b f) (end_of g b) s)
  run_grows {g = g} {b = b} {f = f} {s = s} {r = r} (went to place t e more) =
      subst (λ o. Grows o r) (subst (ExitGrows s.out) e (exit_by_grows g b (word_at w.base g b f) (end_of g b) s)) (run_grows more)
