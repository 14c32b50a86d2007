-- Trees on the stack of a builder, and what stands beside them.
use Rattle.std.specs.Prelude.{◌≡◌, ℕ, suc, ◌+◌, ◌<◌, ◌≤◌, List, ◌∷◌, ◌++◌, take, drop, reverse, Result, Ok, Err}
use Rattle.c_syntax.specs.Trees.{Tree, forest_of, height, forest_height, text_node}
use Rattle.c_syntax.specs.declared.kind.SynKind.{SynKind}
use Rattle.c_grammar.specs.Reading.{below, level}
use Rattle.c_parts.specs.declared.budget.Stop.{Stop}
use Rattle.c_parts.specs.declared.budget.Stop.TheVariants.{Deep, OutOfMemory}
use Rattle.c_parts.specs.declared.part.Part.{Part}
use Rattle.c_parts.specs.declared.declarator.Declarator.{Declarator}
use Rattle.c_parts.specs.Says.{IsDeclarator}

-- the tree is on the stack, above these, and the part is what is asked of it
pub record IsPushed (t : Tree) (under stack : List Tree) (part : Part) : Type 0 where
  pub stack_is : stack ≡ t ∷ under
  pub height_is : part.height ≡ height t
  pub kind_is : part.kind ≡ t.label.kind
  pub start_is : part.start ≡ t.label.start

-- the trees are on the stack, above these, the last first, and none of them is higher than this, which one of them is
pub record ArePushed (ts : List Tree) (under stack : List Tree) (high : ℕ) : Type 0 where
  pub stack_is : stack ≡ reverse ts ++ under
  pub height_is : high ≡ forest_height (forest_of ts)

-- the tree gets onto the stack, or memory is refused
abbrev pub Pushes : Tree → List Tree → List Tree → Result Part Stop → Type 0
Pushes t under stack (Ok part) = IsPushed t under stack part
Pushes t under stack (Err stop) = stop ≡ OutOfMemory

-- a node gets above so many of the last trees, of which the highest has this height, or memory is refused
abbrev pub PushesAbove : SynKind → List ℕ → ℕ → ℕ → ℕ → List Tree → List Tree → Result Part Stop → Type 0
PushesAbove kind text start kids high old stack (Ok part) =
    (stack ≡ text_node kind text start (forest_of (reverse (take kids old))) ∷ drop kids old) × (part ≡ record { height = high + 1; kind = kind; start = start })
PushesAbove kind text start kids high old stack (Err stop) = stop ≡ OutOfMemory

-- the same of a declarator
abbrev pub PushesDeclarator : Tree → List Tree → List Tree → Result Declarator Stop → Type 0
PushesDeclarator t under stack (Ok declarator) = IsPushed t under stack declarator.part × IsDeclarator t declarator
PushesDeclarator t under stack (Err stop) = stop ≡ OutOfMemory

-- this is the next lower budget, and a tree that is higher by one than that height is within the budget
pub record IsBelow (high budget lower : ℕ) : Type 0 where
  pub fits : suc high ≤ budget
  pub next : budget ≡ suc lower
  pub level_is : below budget ≡ level lower (below lower)

-- the next lower budget, or that such a tree is beyond the budget
abbrev pub Lowers : ℕ → ℕ → Result ℕ Stop → Type 0
Lowers high budget (Ok lower) = IsBelow high budget lower
Lowers high budget (Err stop) = (stop ≡ Deep) × (budget < suc high)
