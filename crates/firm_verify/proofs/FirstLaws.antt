-- Nodes of a block that pass a test, and predecessors that stand earlier.
use Rattle.std.proofs.Common.{◌≡◌, ◌≢◌, ◌==◌, ℕ, zero, suc, ◌+◌, ◌<◌, ◌≤◌, Bool, true, false, true≢false, List, [], ◌∷◌, length, take, get_or, refl, sym, ap, ap₂, ◌∙◌, subst, arith, inl, inr, ◌⊎◌, MatchBool}
use Rattle.std.proofs.lemmas.Bool.{cases_eq, eqb-true}
use Rattle.std.proofs.lemmas.List.{take_all}
use Rattle.std.proofs.lemmas.Option.{slice_get-get_or}
use Rattle.std.specs.Prelude.{slice_get}
use Rattle.firm_uses.specs.Counts.{times}
use Rattle.firm_uses.proofs.CountLaws.{one, one_same, one_other, times_found}
use Rattle.firm_rules.specs.declared.node.NodeId.{NodeId}
use Rattle.firm_rules.specs.declared.node.NodeOp.{NodeOp}
use Rattle.firm_rules.specs.declared.node.NodeOp.TheVariants.{Start}
use Rattle.firm_rules.specs.Graphs.{FirmNode, Firm}
use Rattle.firm_rules.specs.Lookups.{rank, preds_of}
use Rattle.firm_rules.specs.Rules.{is_phi, is_start, IsStartOf, FirstFits, OtherFits}
use Rattle.firm_tables.specs.Nodes.{numbers, node_of, stands_in}
use Rattle.firm_tables.proofs.MemberLaws.{number_at, numbers_long}
use Rattle.firm_tables.proofs.NodeLaws.{matches}
use Rattle.firm_nodes.specs.Calls.{IsNode}
use Rattle.firm_verify.specs.Tables.{AreMembers, passing, HasEarlier}
use Rattle.firm_verify.proofs.GraphLaws.{node_read, node_seen, stands_of, stands_at, stands_own, as_number}
use Rattle.firm_verify.proofs.CountsLaws.{got}
use Rattle.firm_verify.proofs.PhiLaws.{decides}

-- ---- members

pub member_there : (g : Firm) (b : ℕ) (nodes : List NodeId) (i : ℕ) (d : NodeId) → AreMembers g b (numbers nodes) → i < length nodes → IsNode g (get_or nodes i d).number
member_there g b nodes i d m h =
    let n = (get_or nodes i d).number in
    let some = times_found n (numbers nodes) i 0 (omega (arith, h, numbers_long nodes)) (number_at nodes i d h) in
    stands_of (node_of g.nodes n) b (omega (arith, some, m n))

-- a node that is there in the block is a member
is_member : (g : Firm) (b : ℕ) (members : List ℕ) (n : ℕ) → AreMembers g b members → IsNode g n → (node_of g.nodes n).block ≡ b → times n members ≡ 1
is_member g b members n m there block = m n ∙ stands_own (node_of g.nodes n) b there block

member_stands : (g : Firm) (b : ℕ) (members : List ℕ) (n : ℕ) → AreMembers g b members → 0 < times n members → IsNode g n × ((node_of g.nodes n).block ≡ b)
member_stands g b members n m some =
    let here : 0 < as_number (stands_in (node_of g.nodes n) b) = omega (arith, some, m n) in
    (stands_of (node_of g.nodes n) b here, stands_at (node_of g.nodes n) b here)

-- ---- counts

abbrev passes : Firm → (NodeOp → Bool) → ℕ → Bool
passes g test n = test (node_of g.nodes n).op

none_passes : (g : Firm) (test : NodeOp → Bool) (list : List ℕ) (n : ℕ) → passing g test list ≡ 0 → 0 < times n list → passes g test n ≡ false
none_passes g test [] n e h = absurd (omega (arith, h))
none_passes g test (x ∷ list) n e h = by (passes g test x) refl (cases_eq x n) (none_passes g test list n)
  where
    by : (t : Bool) → passes g test x ≡ t → (x ≡ n) ⊎ (x ≡ n → ⊥) → (passing g test list ≡ 0 → 0 < times n list → passes g test n ≡ false) → passes g test n ≡ false
    by true p s rest = absurd (omega (arith, e, ap as_number p))
    by false p (inl same) rest = subst (λ k. passes g test k ≡ false) same p
    by false p (inr ne) rest = rest (omega (arith, e)) (omega (arith, h, one_other n x ne))

no_pass : (g : Firm) (test : NodeOp → Bool) (list : List ℕ) → ((n : ℕ) → 0 < times n list → passes g test n ≡ false) → passing g test list ≡ 0
no_pass g test [] each = refl
no_pass g test (x ∷ list) each =
    ap₂ (λ a b. a + b) (ap as_number (each x (omega (arith, one_same x)))) (no_pass g test list (λ n h. each n (omega (arith, h))))

-- the only one
record Only (g : Firm) (test : NodeOp → Bool) (list : List ℕ) : Type 0 where
  pub is : ℕ
  pub listed : 0 < times is list
  pub passed : passes g test is ≡ true
  pub alone : (n : ℕ) → 0 < times n list → passes g test n ≡ true → n ≡ is

one_passes : (g : Firm) (test : NodeOp → Bool) (list : List ℕ) → passing g test list ≡ 1 → Only g test list
one_passes g test [] e = absurd (omega (arith, e))
one_passes g test (x ∷ list) e = by (passes g test x) refl (one_passes g test list)
  where
    by : (t : Bool) → passes g test x ≡ t → (passing g test list ≡ 1 → Only g test list) → Only g test (x ∷ list)
    by true p later =
        let none : passing g test list ≡ 0 = omega (arith, e, ap as_number p) in
        record {
          is = x;
          listed = omega (arith, one_same x);
          passed = p;
          alone = λ n h q. elim (cases_eq x n) [
            | inl same ↦ sym same
            | inr ne ↦ absurd (true≢false (sym q ∙ none_passes g test list n none (omega (arith, h, one_other n x ne))))
          ];
        }
    by false p later =
        let rest = later (omega (arith, e, ap as_number p)) in
        record {
          is = rest.is;
          listed = omega (arith, rest.listed);
          passed = rest.passed;
          alone = λ n h q. elim (cases_eq x n) [
            | inl same ↦ absurd (true≢false (sym q ∙ subst (λ k. passes g test k ≡ false) same p))
            | inr ne ↦ rest.alone n (omega (arith, h, one_other n x ne)) q
          ];
        }

passing_times : (g : Firm) (test : NodeOp → Bool) (list : List ℕ) (n : ℕ) → passes g test n ≡ true → ((m : ℕ) → 0 < times m list → passes g test m ≡ true → m ≡ n)
    → passing g test list ≡ times n list
passing_times g test [] n p alone = refl
passing_times g test (x ∷ list) n p alone = ap₂ (λ a b. a + b) (here (passes g test x) refl) (passing_times g test list n p (λ m h. alone m (omega (arith, h))))
  where
    here : (t : Bool) → passes g test x ≡ t → as_number (passes g test x) ≡ one n x
    here true q = ap as_number q ∙ sym (ap (one n) (alone x (omega (arith, one_same x)) q) ∙ one_same n)
    here false q = ap as_number q ∙ sym (one_other n x (λ same. true≢false (sym p ∙ subst (λ k. passes g test k ≡ false) same q)))

passing_front : (g : Firm) (test : NodeOp → Bool) (list : List ℕ) (at : ℕ) → at < length list
    → passing g test (take (suc at) list) ≡ passing g test (take at list) + as_number (passes g test (get_or list at 0))
passing_front g test [] at h = absurd (omega (arith, h))
passing_front g test (x ∷ list) zero h = omega arith
passing_front g test (x ∷ list) (suc at) h = omega (arith, passing_front g test list at (omega (arith, h)))

pub passing_more : (g : Firm) (test : NodeOp → Bool) (nodes : List NodeId) (at count after : ℕ) (d : NodeId) (op : NodeOp) → at < length nodes
    → (count ≤ at) × (count ≡ passing g test (take at (numbers nodes))) → op ≡ (node_of g.nodes (get_or nodes at d).number).op → after ≡ count + as_number (test op)
    → (after ≤ at + 1) × (after ≡ passing g test (take (at + 1) (numbers nodes)))
passing_more g test nodes at count after d op h inv is e =
    let front = passing_front g test (numbers nodes) at (omega (arith, h, numbers_long nodes)) in
    let same : passes g test (get_or (numbers nodes) at 0) ≡ test op = ap (passes g test) (number_at nodes at d h) ∙ ap test (sym is) in
    let add : passing g test (take (at + 1) (numbers nodes)) ≡ passing g test (take (suc at) (numbers nodes)) = ap (λ k. passing g test (take k (numbers nodes))) (suc_add at) in (
      omega (arith, inv.0, e, number_small (test op)),
      e ∙ ap₂ (λ x y. x + as_number y) inv.1 (sym same) ∙ sym (add ∙ front),
    )
  where
    suc_add : (k : ℕ) → k + 1 ≡ suc k
    suc_add k = omega arith

    number_small : (t : Bool) → as_number t ≤ 1
    number_small true = omega arith
    number_small false = omega arith

pub passing_all : (g : Firm) (test : NodeOp → Bool) (nodes : List NodeId) (at count : ℕ) → length nodes ≤ at → count ≡ passing g test (take at (numbers nodes)) → count ≡ passing g test (numbers nodes)
passing_all g test nodes at count h e = e ∙ ap (passing g test) (take_all at (numbers nodes) (omega (arith, h, numbers_long nodes)))

-- ---- the two kinds of blocks

start_is : (o : NodeOp) → is_start o ≡ true → o ≡ Start
start_is Start e = refl
start_is o e = absurd (true≢false (sym e))

start_of : (g : Firm) (b n : ℕ) → IsStartOf g b n → IsNode g n × (((node_of g.nodes n).block ≡ b) × (passes g is_start n ≡ true))
start_of g b n (node, is, op, block) =
    let read = node_read g n node is in
    (read.0, (ap (λ (x : FirmNode). x.block) read.1 ∙ block, ap is_start (ap (λ (x : FirmNode). x.op) read.1 ∙ op)))

of_start : (g : Firm) (b n : ℕ) → IsNode g n → (node_of g.nodes n).block ≡ b → passes g is_start n ≡ true → IsStartOf g b n
of_start g b n there block p = (node_of g.nodes n, node_seen g n there, start_is (node_of g.nodes n).op p, block)

pub first_fits : (g : Firm) (b : ℕ) (members preds : List ℕ) → AreMembers g b members → preds ≡ preds_of g b → preds ≡ [] → passing g is_phi members ≡ 0 → passing g is_start members ≡ 1 → FirstFits g b
first_fits g b members preds m p e phis starts =
    let only = one_passes g is_start members starts in
    let stands = member_stands g b members only.is m only.listed in
    record {
      no_preds = sym p ∙ e;
      no_phi = λ n node is block.
          let read = node_read g n node is in
          sym (ap (λ (x : FirmNode). is_phi x.op) read.1) ∙ none_passes g is_phi members n phis (omega (arith, is_member g b members n m read.0 (ap (λ (x : FirmNode). x.block) read.1 ∙ block)));
      start = (
        only.is,
        of_start g b only.is stands.0 stands.1 only.passed,
        λ n other.
            let of = start_of g b n other in
            only.alone n (omega (arith, is_member g b members n m of.0 of.1.0)) of.1.1,
      );
    }

pub fits_no_phi : (g : Firm) (b : ℕ) (members : List ℕ) → AreMembers g b members → FirstFits g b → passing g is_phi members ≡ 0
fits_no_phi g b members m fits = no_pass g is_phi members (λ n h.
    let stands = member_stands g b members n m h in
    fits.no_phi n (node_of g.nodes n) (node_seen g n stands.0) stands.1)

pub fits_start : (g : Firm) (b : ℕ) (members : List ℕ) → AreMembers g b members → FirstFits g b → passing g is_start members ≡ 1
fits_start g b members m fits =
    let of = start_of g b fits.start.0 fits.start.1 in
    passing_times g is_start members fits.start.0 of.1.1
    (λ n h p.
    let stands = member_stands g b members n m h in
    fits.start.2 n (of_start g b n stands.0 stands.1 p))
    ∙ is_member g b members fits.start.0 m of.0 of.1.0

pub fits_no_start : (g : Firm) (b : ℕ) (members : List ℕ) → AreMembers g b members → OtherFits g b → passing g is_start members ≡ 0
fits_no_start g b members m fits = no_pass g is_start members (λ n h.
    let stands = member_stands g b members n m h in
    is_false (passes g is_start n) (λ p. fits.no_start n (of_start g b n stands.0 stands.1 p)))
  where
    is_false : (t : Bool) → (t ≡ true → ⊥) → t ≡ false
    is_false true d = absurd (d refl)
    is_false false d = refl

pub other_fits : (g : Firm) (b : ℕ) (members preds : List ℕ) (place : ℕ) (answer : Bool) → AreMembers g b members → preds ≡ preds_of g b → place ≡ rank g b → passing g is_start members ≡ 0
    → MatchBool answer (HasEarlier g place preds) (HasEarlier g place preds → ⊥) → MatchBool answer (OtherFits g b) (OtherFits g b → ⊥)
other_fits g b members preds place answer m p is starts h =
    matches answer h
    (λ found. record {
      no_start = λ n start.
          let of = start_of g b n start in
          true≢false (sym of.1.1 ∙ none_passes g is_start members n starts (omega (arith, is_member g b members n m of.0 of.1.0)));
      entered_earlier = (
        get_or preds found.0 0,
        (found.0, ap (λ l. slice_get l found.0) (sym p) ∙ slice_get-get_or preds found.0 0 found.1),
        subst (λ k. rank g (get_or preds found.0 0) < k) is found.2,
      );
    })
    (λ fits.
    let entered = fits.entered_earlier in
    let at = got preds entered.1.0 entered.0 (ap (λ l. slice_get l entered.1.0) p ∙ entered.1.1) in
    (entered.1.0, at.0, subst (λ q. rank g q < place) (sym at.1) (subst (λ k. rank g entered.0 < k) (sym is) entered.2)))

pub counted : (count after : ℕ) (t : Bool) → t ≡ true → after ≡ count + 1 → after ≡ count + as_number t
counted count after true p e = e
counted count after false p e = absurd (true≢false (sym p))

pub not_counted : (count after : ℕ) (t : Bool) → t ≡ false → after ≡ count → after ≡ count + as_number t
not_counted count after true p e = absurd (true≢false p)
not_counted count after false p e = omega (arith, e)

pub phis_refuse : (g : Firm) (b count : ℕ) (members : List ℕ) → AreMembers g b members → count ≡ passing g is_phi members → count ≢ 0
    → MatchBool (count == 0) (FirstFits g b) (FirstFits g b → ⊥)
phis_refuse g b count members m e ne =
    decides (count == 0) (λ t. absurd (ne (eqb-true count 0 t))) (λ fits. absurd (ne (e ∙ fits_no_phi g b members m fits)))

pub no_length : (xs : List ℕ) → true ≡ (length xs == 0) → xs ≡ []
no_length [] e = refl
no_length (x ∷ xs) e = absurd (omega (arith, eqb-true (length (x ∷ xs)) 0 (sym e)))
