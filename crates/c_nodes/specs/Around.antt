-- The innermost node of some kinds around another one.
use Rattle.std.specs.Prelude.{◌≡◌, ℕ, ◌<◌, Bool, ◌||◌, List, length, get_or}
use Rattle.c_syntax.specs.declared.kind.SynKind.{SynKind}
use Rattle.c_syntax.specs.declared.syntax.SynNode.{SynNode}
use Rattle.c_typing.specs.Places.{around, is_function, is_loop, is_switch, is_init}
use Rattle.c_nodes.specs.declared.around.Kinds.{Kinds}
use Rattle.c_nodes.specs.declared.around.Kinds.TheVariants as kinds
use Rattle.c_nodes.specs.Parents.{nodes_in}
use Rattle.c_nodes.specs.Declarators.{Points}

abbrev pub accepts : Kinds → SynKind → Bool
accepts kinds.Function k = is_function k
accepts kinds.Loop k = is_loop k
accepts kinds.LoopOrSwitch k = is_loop k || is_switch k
accepts kinds.Initialized k = is_init k

-- for each node of a table, the innermost node of these kinds around it
pub record AreAround (test : Kinds) (table : List SynNode) (found : List ℕ) : Type 0 where
  pub long : length found ≡ length table
  pub nodes : length (nodes_in table) ≡ length table
  pub points : (i : ℕ) → i < length table → Points (nodes_in table) (get_or found i 0) (around (λ node. accepts test node.label.kind) (nodes_in table) i)
