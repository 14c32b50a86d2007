-- What takes memory takes that which comes along each walk.
use Rattle.std.proofs.Common.{◌≡◌, ◌==◌, ◌&&◌, ℕ, ◌<◌, Bool, true, false, true≢false, List, [], ◌∷◌, length, get_or, refl, sym, ap, ◌∙◌, subst, arith, Option, Some, None, MatchBool}
use Rattle.std.specs.Prelude.{slice_get}
use Rattle.std.proofs.lemmas.Bool.{eqb-true, eqb-false}
use Rattle.std.proofs.lemmas.Option.{slice_get-get_or}
use Rattle.firm_rules.specs.declared.node.NodeId.{NodeId}
use Rattle.firm_rules.specs.declared.node.FirmEnd.{FirmEnd}
use Rattle.firm_rules.specs.declared.node.FirmEnd.TheVariants.{Return}
use Rattle.firm_rules.specs.Graphs.{FirmNode, Firm, acts}
use Rattle.firm_rules.specs.Lookups.{preds_of, end_of}
use Rattle.firm_rules.specs.Rules.{memory_into, memory_after, memory_phi, is_memory_phi, giver, chain, last_of, MemoryFits}
use Rattle.firm_tables.specs.Nodes.{node_of}
use Rattle.firm_tables.proofs.NodeLaws.{matches}
use Rattle.firm_nodes.specs.Calls.{IsNode}
use Rattle.firm_verify.specs.declared.coming.Coming.{Coming}
use Rattle.firm_verify.specs.declared.coming.Coming.TheVariants.{Nothing, One, Many}
use Rattle.firm_verify.specs.declared.chains.Chains.{Chains}
use Rattle.firm_verify.specs.Broken.{Rule1}
use Rattle.firm_verify.specs.Memory.{AreChains, Brings, Leaves, Told, Covers, fits, coming_at, leaving, AreComing, BringsOnly, LeavesOnly, FirstTakes, EachTakes, PhiTakes, ReturnTakes, taken_by}
use Rattle.firm_verify.proofs.PhiLaws.{decides}
use Rattle.firm_verify.proofs.GraphLaws.{node_read, node_seen}
use Rattle.firm_verify.proofs.CountsLaws.{got}
use Rattle.firm_verify.proofs.ChainLaws.{Acting, acting, chain_acts, first_passes}
use Rattle.firm_verify.proofs.MemoryLaws.{acts_there}
use Rattle.firm_verify.proofs.ComingLaws.{told_through, covers_through, leaves_of}

-- ---- nothing else comes

fits_all : (c : Coming) (v m : ℕ) → fits c v ≡ true → Covers c m → v ≡ m
fits_all Nothing v m e h = absurd h
fits_all (One k) v m e h = sym (eqb-true k v e) ∙ h
fits_all Many v m e h = absurd (true≢false (sym e))

fits_not : (P : ℕ → Type 0) (c : Coming) (v : ℕ) → fits c v ≡ false → Told P c → ((m : ℕ) → P m → v ≡ m) → ⊥
fits_not P Nothing v e t all = true≢false e
fits_not P (One k) v e t all = eqb-false k v e (sym (all k t))
fits_not P Many v e t all = t.differs (sym (all t.first t.is_first) ∙ all t.second t.is_second)

only_by : (P : ℕ → Type 0) (c : Coming) (v : ℕ) (answer : Bool) → Told P c → ((m : ℕ) → P m → Covers c m) → answer ≡ fits c v
    → MatchBool answer ((m : ℕ) → P m → v ≡ m) (((m : ℕ) → P m → v ≡ m) → ⊥)
only_by P c v answer t all e = decides answer (λ is m p. fits_all c v m (sym e ∙ is) (all m p)) (λ only. by answer e only)
  where
    by : (a : Bool) → a ≡ fits c v → ((m : ℕ) → P m → v ≡ m) → a ≡ true
    by true e only = refl
    by false e only = absurd (fits_not P c v (sym e) t only)

pub brings_by : (g : Firm) (coming : List Coming) (b v : ℕ) (c : Coming) (answer : Bool) → AreComing g coming → c ≡ coming_at coming b → answer ≡ fits c v
    → MatchBool answer (BringsOnly g b v) (BringsOnly g b v → ⊥)
brings_by g coming b v c answer are ec e =
    matches answer (only_by (Brings g b) (coming_at coming b) v answer (are.seen b) (are.all b) (e ∙ ap (λ x. fits x v) ec))
    (λ only w comes. only (memory_into g w) (record { walk = w; comes = comes; is = refl }))
    (λ only m brings. only brings.walk brings.comes ∙ brings.is)

leaves_all : (g : Firm) (chains : Chains) (coming : List Coming) (b m : ℕ) → AreChains g chains → AreComing g coming → Leaves g b m → Covers (leaving chains coming b) m
leaves_all g chains coming b m chained are leaves =
    subst (Covers (leaving chains coming b))
    (sym (chained.last_is b (memory_into g leaves.walk)) ∙ ap (λ k. last_of (memory_into g leaves.walk) (chain g k)) (sym leaves.comes.1) ∙ leaves.is)
    (covers_through (get_or chains.lasts.items b None) (coming_at coming b) (memory_into g leaves.walk)
    (are.all b (memory_into g leaves.walk) (record { walk = leaves.walk; comes = leaves.comes; is = refl })))

pub leaves_by : (g : Firm) (chains : Chains) (coming : List Coming) (b v : ℕ) (c : Coming) (answer : Bool) → AreChains g chains → AreComing g coming → c ≡ leaving chains coming b → answer ≡ fits c v
    → MatchBool answer (LeavesOnly g b v) (LeavesOnly g b v → ⊥)
leaves_by g chains coming b v c answer chained are ec e =
    matches answer (only_by (Leaves g b) (leaving chains coming b) v answer
    (told_through (Brings g b) (Leaves g b) (get_or chains.lasts.items b None) (coming_at coming b) (λ m brings. leaves_of g chains b m chained brings) (are.seen b))
    (λ m leaves. leaves_all g chains coming b m chained are leaves) (e ∙ ap (λ x. fits x v) ec))
    (λ only w comes. only (memory_after g w) (record { walk = w; comes = comes; is = refl }))
    (λ only m leaves. only leaves.walk leaves.comes ∙ leaves.is)

-- ---- the first node of the chain

some_same : (x y : ℕ) → Some x ≡ Some y → x ≡ y
some_same x y e = cc

none_some : (n : ℕ) → None ≡ Some n → ⊥
none_some n e = cc

pub no_first : (g : Firm) (chains : Chains) (b : ℕ) (first : Option ℕ) → AreChains g chains → first ≡ get_or chains.firsts.items b None → first ≡ None → FirstTakes g b
no_first g chains b first are e none n at = absurd (none_some n (sym none ∙ e ∙ sym (are.first_is b) ∙ at))

pub first_at : (g : Firm) (chains : Chains) (b n : ℕ) (first : Option ℕ) → AreChains g chains → first ≡ get_or chains.firsts.items b None → first ≡ Some n → slice_get (chain g b) 0 ≡ Some n
first_at g chains b n first are e some = are.first_is b ∙ sym e ∙ some

-- it acts
pub first_there : (g : Firm) (chains : Chains) (b n : ℕ) (first : Option ℕ) → Rule1 g → AreChains g chains → first ≡ get_or chains.firsts.items b None → first ≡ Some n
    → IsNode g n × (acts (node_of g.nodes n).op ≡ true)
first_there g chains b n first one are e some =
    let at = acts_there g b n (chain_acts g b one 0 n (first_at g chains b n first are e some)) in
    (at.node, at.does)

pub first_by : (g : Firm) (chains : Chains) (b n v : ℕ) (first : Option ℕ) (answer : Bool) → AreChains g chains → first ≡ get_or chains.firsts.items b None → first ≡ Some n
    → v ≡ taken_by g (node_of g.nodes n) → MatchBool answer (BringsOnly g b v) (BringsOnly g b v → ⊥) → MatchBool answer (FirstTakes g b) (FirstTakes g b → ⊥)
first_by g chains b n v first answer are e some ev m =
    let at = first_at g chains b n first are e some in
    matches answer m
    (λ only k is w comes. subst (λ x. taken_by g (node_of g.nodes x) ≡ memory_into g w) (some_same n k (sym at ∙ is)) (sym ev ∙ only w comes))
    (λ takes w comes. ev ∙ takes n at w comes)

-- ---- the Phi of memory

pub no_phi : (g : Firm) (chains : Chains) (b : ℕ) (phi : Option ℕ) → AreChains g chains → phi ≡ get_or chains.phis.items b None → phi ≡ None → PhiTakes g b
no_phi g chains b phi are e none n at = absurd (none_some n (sym none ∙ e ∙ sym (are.phi_is b) ∙ at))

pub phi_there : (g : Firm) (chains : Chains) (b n : ℕ) (phi : Option ℕ) → AreChains g chains → phi ≡ get_or chains.phis.items b None → phi ≡ Some n → IsNode g n
phi_there g chains b n phi are e some =
    let found = first_passes g (λ x. (x.block == b) && is_memory_phi x.op) n (are.phi_is b ∙ sym e ∙ some) in
    (node_read g n found.node found.is).0

pub phi_by : (g : Firm) (chains : Chains) (b n : ℕ) (phi : Option ℕ) (operands preds : List ℕ) (answer : Bool) → AreChains g chains → phi ≡ get_or chains.phis.items b None → phi ≡ Some n
    → operands ≡ (node_of g.nodes n).operands → preds ≡ preds_of g b → MatchBool answer (EachTakes g operands preds) (EachTakes g operands preds → ⊥) → MatchBool answer (PhiTakes g b) (PhiTakes g b → ⊥)
phi_by g chains b n phi operands preds answer are e some eo ep m =
    let at : memory_phi g b ≡ Some n = are.phi_is b ∙ sym e ∙ some in
    matches answer m
    (λ each k is. subst (λ x. EachTakes g (node_of g.nodes x).operands (preds_of g b)) (some_same n k (sym at ∙ is)) (subst (λ l. EachTakes g l (preds_of g b)) eo (subst (EachTakes g operands) ep each)))
    (λ takes. subst (EachTakes g operands) (sym ep) (subst (λ l. EachTakes g l (preds_of g b)) (sym eo) (takes n at)))

-- ---- the return

is_return : Option FirmEnd → Option NodeId
is_return (Some (Return m value)) = Some m
is_return end = None

pub return_by : (g : Firm) (b v : ℕ) (end : Option FirmEnd) (m : NodeId) (value : Option NodeId) (answer : Bool) → end ≡ end_of g b → end ≡ Some (Return m value) → v ≡ giver g m.number
    → MatchBool answer (LeavesOnly g b v) (LeavesOnly g b v → ⊥) → MatchBool answer (ReturnTakes g b) (ReturnTakes g b → ⊥)
unfolding is_return
return_by g b v end m value answer e same ev h =
    matches answer h
    (λ only k other is w comes. subst (λ (x : NodeId). giver g x.number ≡ memory_after g w) (returned m k (ap is_return (sym same ∙ e ∙ is))) (sym ev ∙ only w comes))
    (λ takes w comes. ev ∙ takes m value (sym e ∙ same) w comes)
  where
    returned : (x y : NodeId) → Some x ≡ Some y → x ≡ y
    returned x y e = cc

-- ---- all three

pub fits_of : (g : Firm) (chains : Chains) (b : ℕ) → AreChains g chains → FirstTakes g b → PhiTakes g b → ReturnTakes g b → MemoryFits g b
fits_of g chains b are first phi return = record {
  one_chain = are.one_chain b;
  first_takes = λ n rest node m others w is at operands comes.
      let read = node_read g n node at in
      sym (ap (λ (x : FirmNode). giver g (get_or x.operands 0 0)) read.1 ∙ ap (λ l. giver g (get_or l 0 0)) operands) ∙ first n (ap (λ l. slice_get l 0) is) w comes;
  one_phi = are.one_phi b;
  phi_takes = λ n node e m w is at operand comes.
      let read = node_read g n node at in
      let o = got (node_of g.nodes n).operands e.place m (ap (λ (x : FirmNode). slice_get x.operands e.place) read.1 ∙ operand) in
      let p = got (preds_of g b) e.place _ (ap (λ k. slice_get (preds_of g k) e.place) (sym comes.1) ∙ comes.0.0) in
      ap (giver g) (sym o.1) ∙ phi n is e.place o.0 p.0 w (comes.0.1, sym p.1);
  return_takes = λ m value w is comes. return m value is w comes;
}

pub fits_first : (g : Firm) (b : ℕ) → Rule1 g → MemoryFits g b → FirstTakes g b
fits_first g b one fit n at w comes = by (chain g b) refl
  where
    a : Acting g b one n
    a = acting g b one n (chain_acts g b one 0 n at)

    by_operands : (rest l : List ℕ) → chain g b ≡ n ∷ rest → a.node.operands ≡ l → 0 < length l → taken_by g (node_of g.nodes n) ≡ memory_into g w
    by_operands rest [] e el h = absurd (omega (arith, h))
    by_operands rest (m ∷ others) e el h =
        ap (giver g) (a.head ∙ ap (λ l. get_or l 0 0) el) ∙ fit.first_takes n rest a.node m others w e a.is el comes

    by : (list : List ℕ) → chain g b ≡ list → taken_by g (node_of g.nodes n) ≡ memory_into g w
    by [] e = absurd (none_some n (ap (λ l. slice_get l 0) (sym e) ∙ at))
    by (k ∷ rest) e = by_operands rest a.node.operands (e ∙ ap (λ x. x ∷ rest) (some_same k n (ap (λ l. slice_get l 0) (sym e) ∙ at))) refl a.some

pub fits_phi : (g : Firm) (b : ℕ) → MemoryFits g b → PhiTakes g b
fits_phi g b fit n is index ho hp w comes =
    let found = first_passes g (λ x. (x.block == b) && is_memory_phi x.op) n is in
    let read = node_read g n found.node found.is in
    fit.phi_takes n (node_of g.nodes n) (record { into = b; place = index }) (get_or (node_of g.nodes n).operands index 0) w is (node_seen g n read.0)
    (slice_get-get_or (node_of g.nodes n).operands index 0 ho) ((slice_get-get_or (preds_of g b) index 0 hp ∙ ap Some (sym comes.1), comes.0), refl)

pub fits_return : (g : Firm) (b : ℕ) → MemoryFits g b → ReturnTakes g b
fits_return g b fit m value is w comes = fit.return_takes m value w is comes
