-- Phis and their predecessors.
use Rattle.std.proofs.Common.{◌≡◌, ◌==◌, ℕ, Bool, true, false, true≢false, List, length, MatchBool, refl, sym, ap, ◌∙◌}
use Rattle.std.proofs.lemmas.Bool.{eqb-true, eq-eqb}
use Rattle.firm_rules.specs.declared.node.NodeOp.{NodeOp}
use Rattle.firm_rules.specs.Graphs.{FirmNode, Firm}
use Rattle.firm_rules.specs.Lookups.{preds_of}
use Rattle.firm_rules.specs.Rules.{is_phi, PhiIsFull}

-- a test that holds exactly where something does
pub decides : {P : Type 0} (t : Bool) → (t ≡ true → P) → (P → t ≡ true) → MatchBool t P (P → ⊥)
decides true forth back = forth refl
decides false forth back = λ p. true≢false (sym (back p))

pub no_phi_is_full : (g : Firm) (node : FirmNode) (op : NodeOp) → op ≡ node.op → is_phi op ≡ false → PhiIsFull g node
no_phi_is_full g node op e h phi = absurd (true≢false (sym phi ∙ ap is_phi (sym e) ∙ h))

pub full_by_counts : (g : Firm) (node : FirmNode) (op : NodeOp) (b : ℕ) (operands preds : List ℕ) → op ≡ node.op → b ≡ node.block → is_phi op ≡ true
    → operands ≡ node.operands → preds ≡ preds_of g b → MatchBool (length operands == length preds) (PhiIsFull g node) (PhiIsFull g node → ⊥)
full_by_counts g node op b operands preds e eb h o p =
    let long : length preds ≡ length (preds_of g node.block) = ap length (p ∙ ap (preds_of g) eb) in
    decides (length operands == length preds)
    (λ t _. sym (ap length o) ∙ eqb-true (length operands) (length preds) t ∙ long)
    (λ full. eq-eqb (length operands) (length preds) (ap length o ∙ full (ap is_phi (sym e) ∙ h) ∙ sym long))
