-- The text of a graph with one block, written by hand.
use Rattle.std.proofs.Common.{◌≡◌, [], ◌∷◌, refl, true, Some}
use Rattle.std.specs.Prelude.{codes}
use Rattle.std.specs.Fmt.{digits}
use Rattle.firm_rules.specs.declared.node.NodeOp.TheVariants.{Start, Const}
use Rattle.firm_rules.specs.declared.node.FirmEnd.TheVariants.{Return}
use Rattle.firm_rules.specs.Graphs.{Firm}
use Rattle.firm_tables.specs.Nodes.{made}
use Rattle.firm_text.specs.Text.{firm_text}

abbrev pub return_seven : Firm
return_seven = record {
  name = codes "main";
  params = 0;
  order = 0 ∷ [];
  blocks = record { preds = []; end = Some (Return record { number = 0 } (Some record { number = 1 })); sealed = true } ∷ [];
  nodes = made 0 Start 0 [] ∷ made 1 (Const 7) 0 [] ∷ [];
}

pub its_text : firm_text return_seven ≡ codes "graph main 0\nblock 0 from\n0 Start\n1 Const 7\nreturn 0 1\n"
unfolding firm_text digits
its_text = refl
