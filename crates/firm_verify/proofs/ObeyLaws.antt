-- The rules one by one, and all of them.
use Rattle.std.proofs.Common.{ℕ, ◌<◌, length, Option, Some, None}
use Rattle.std.specs.Prelude.{IfNone}
use Rattle.firm_rules.specs.declared.node.NodeId.{NodeId}
use Rattle.firm_rules.specs.Graphs.{Firm}
use Rattle.firm_rules.specs.Rules.{Obeys}
use Rattle.firm_verify.specs.Broken.{IsBroken, HoldAll, operands, end, phi, cycle, memory, place, head, operand, end_use, edges}

pub obeys : (g : Firm) → 0 < length g.order → HoldAll g → Obeys g
obeys g some h = record {
  some_block = some;
  nodes = λ n node is. record {
    operands_fit = h.at_nodes.rule1.0 n node is;
    phi_is_full = h.at_nodes.rule2 n node is;
    no_cycle = h.at_nodes.rule3 n node is;
    operands_defined = h.rule7.0 n node is;
  };
  blocks = λ b is. record {
    end_fits = h.at_nodes.rule1.1 b is;
    memory_fits = h.rule4 b is;
    first_fits = (h.rule5 b is).0;
    other_fits = (h.rule5 b is).1;
    entered_at_head = h.rule6 b is;
    end_defined = h.rule7.1 b is;
    edges_fit = h.rule8 b is;
  };
}

pub holds : (g : Firm) → Obeys g → HoldAll g
holds g o = record {
  at_nodes = record {
    rule1 = (λ n node is. (o.nodes n node is).operands_fit, λ b is. (o.blocks b is).end_fits);
    rule2 = λ n node is. (o.nodes n node is).phi_is_full;
    rule3 = λ n node is. (o.nodes n node is).no_cycle;
  };
  rule4 = λ b is. (o.blocks b is).memory_fits;
  rule5 = λ b is. ((o.blocks b is).first_fits, (o.blocks b is).other_fits);
  rule6 = λ b is. (o.blocks b is).entered_at_head;
  rule7 = (λ n node is. (o.nodes n node is).operands_defined, λ b is. (o.blocks b is).end_defined);
  rule8 = λ b is. (o.blocks b is).edges_fit;
}

pub broken : (g : Firm) (rule : ℕ) (node : Option NodeId) (b : ℕ) → IsBroken g rule node b → Obeys g → ⊥
broken g rule named b (operands n at) o = at.3 (o.nodes n.number at.0 at.1).operands_fit
broken g rule named b (end is bad) o = bad (o.blocks b is).end_fits
broken g rule named b (phi n at) o = at.3 (o.nodes n.number at.0 at.1).phi_is_full
broken g rule named b (cycle n at) o = at.3 (o.nodes n.number at.0 at.1).no_cycle
broken g rule named b (memory is bad) o = bad (o.blocks b is).memory_fits
broken g rule named b (place is bad) o = bad ((o.blocks b is).first_fits, (o.blocks b is).other_fits)
broken g rule named b (head is bad) o = bad (o.blocks b is).entered_at_head
broken g rule named b (operand n at) o = at.3 (o.nodes n.number at.0 at.1).operands_defined
broken g rule named b (end_use is bad) o = bad (o.blocks b is).end_defined
broken g rule named b (edges is bad) o = bad (o.blocks b is).edges_fit

pub none_obeys : {T : Type 0} (g : Firm) (found : Option T) → 0 < length g.order → IfNone found (HoldAll g) → IfNone found (Obeys g)
none_obeys g None some h = obeys g some h
none_obeys g (Some x) some h = tt
