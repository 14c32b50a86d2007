-- What is known of a tree before its types.
use Rattle.std.specs.Prelude.{◌≡◌, List, map}
use Rattle.c_syntax.specs.declared.syntax.SynNode.{SynNode}
use Rattle.c_nodes.specs.Around.{AreAround}
use Rattle.c_nodes.specs.Declarators.{AreNext}
use Rattle.c_nodes.specs.declared.around.Kinds.TheVariants as kinds
use Rattle.c_typing.specs.Names.{Name, objects_of}
use Rattle.c_names.specs.Denoted.{AreDenoted, places_in}
use Rattle.c_names.specs.Names.{AreNames}
use Rattle.c_names.specs.Earlier.{AreEarlier}
use Rattle.c_names.specs.Functions as functions
use Rattle.c_locals.specs.Locals as locals
use Rattle.c_locals.specs.Locals.{AreOwners, AreCounts}
use Rattle.c_objects.specs.Objects as objects
use Rattle.c_objects.specs.Objects.{AreDefined, AreDeclarations, nodes_in_lists}
use Rattle.c_contexts.specs.Contexts.{AreCalled, AreFunctionSpecs}
use Rattle.c_symbols.specs.declared.names.Names.{Names}
use Rattle.c_symbols.specs.declared.objects.Objects.{Objects}
use Rattle.c_symbols.specs.declared.locals.Locals.{Locals}
use Rattle.c_symbols.specs.declared.around.Around.{Around}
use Rattle.c_symbols.specs.declared.symbols.Symbols.{Symbols}

pub record AreNamed (table : List SynNode) (n : Names) : Type 0 where
  pub denoted : AreDenoted table n.denoted.items
  pub declared : AreNames table n.declared.items
  pub earlier : AreEarlier table n.earlier.items
  pub functions : functions.AreNumbers table n.functions.items

pub record AreObjectsOf (table : List SynNode) (o : Objects) : Type 0 where
  pub defined : AreDefined table o.defined.items
  -- in order of their first declarations
  pub nodes : o.nodes.items ≡ map (λ (e : Name). e.node) (objects_of (places_in table))
  pub numbers : objects.AreNumbers table o.numbers.items
  pub declarations : AreDeclarations table (nodes_in_lists o.declarations.items)

pub record AreLocalsOf (table : List SynNode) (l : Locals) : Type 0 where
  pub next : AreNext table l.next.items
  pub functions : AreOwners table l.functions.items
  pub counts : AreCounts table l.counts.items
  pub numbers : locals.AreNumbers table l.numbers.items

pub record StandAround (table : List SynNode) (a : Around) : Type 0 where
  pub loops : AreAround kinds.Loop table a.loops.items
  pub jumps : AreAround kinds.LoopOrSwitch table a.jumps.items
  pub initialized : AreAround kinds.Initialized table a.initialized.items
  pub called : AreCalled table a.called.items
  pub before_functions : AreFunctionSpecs table a.before_functions.items

pub record AreSymbols (table : List SynNode) (s : Symbols) : Type 0 where
  pub names : AreNamed table s.names
  pub objects : AreObjectsOf table s.objects
  pub locals : AreLocalsOf table s.locals
  pub around : StandAround table s.around
