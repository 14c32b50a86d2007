-- What the kids so far do has been taken.
use Rattle.std.proofs.Common.{◌≡◌, ◌≤◌, ℕ, suc, take}
use Rattle.c_typing.specs.Judgements.{code_at}
use Rattle.c_meanings.specs.Meanings.{AreLeft, HasKids, IsReady, judged_to, kid_in, node_in}
use Rattle.c_statement_rows.proofs.PartLaws.{run_of}
use Rattle.c_statement_rows.proofs.blocks.take_block.Given as goal

abbrev pub invariant-loop-index : goal.invariant-loop-index
invariant-loop-index l = record {
  low : ℕ;
  ready : IsReady l.fn.nodes l.fn.node low l.meanings;
  may : HasKids l.fn.nodes l.fn.node (suc l.index) → low ≤ kid_in l.fn.nodes l.fn.node l.index;
  left : AreLeft l.fn.nodes l.fn.node l.fn.meanings l.meanings;
  types : l.meanings.types ≡ l.fn.meanings.types;
  whole : l.whole ≡ run_of (code_at (judged_to l.fn.nodes l.fn.node)) (take l.index (node_in l.fn.nodes l.fn.node).kids);
}
