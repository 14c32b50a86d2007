-- What the nodes of a syntax tree mean, from node to node, as the checker has it.
use Rattle.std.specs.Prelude.{◌≡◌, ◌≢◌, ◌<◌, ◌≤◌, ◌+◌, ◌⊎◌, ℕ, suc, Bool, true, List, [], Result, Ok, Err, ◌&&◌, get_or, length, take}
use Rattle.c_syntax.specs.declared.syntax.SynNode.{SynNode}
use Rattle.c_types.specs.declared.tree.Stmt.{Stmt}
use Rattle.c_typing.specs.Places.{Node, node_at, kind_at, kid, is_braces}
use Rattle.c_typing.specs.Judgements.{Judgement, faults_in, layouts}
use Rattle.c_typing.specs.Typing.{judged_by, judged_from}
use Rattle.c_nodes.specs.Parents.{nodes_in}
use Rattle.c_names.specs.Denoted.{IsDerived, places_in}
use Rattle.c_type_ids.specs.Ids.{Known, AreLaid}
use Rattle.c_values.specs.declared.typings.Typing.{Typing}
use Rattle.c_answers.specs.declared.refusal.Refusal.{Refusal}
use Rattle.c_answers.specs.declared.refusal.Refusal.TheVariants as refusal
use Rattle.c_answers.specs.Answers.{IsFirst}
use Rattle.c_judgements.specs.declared.judged.Judged.{Judged}
use Rattle.c_judgements.specs.declared.judged.Judged.TheVariants as judged
use Rattle.c_judgements.specs.Judged.{AreJudged, IsJudged, has_cells, has_code, taken}
use Rattle.c_meanings.specs.declared.meanings.Meanings.{Meanings}

-- ---- what the rules say

abbrev pub node_in : List SynNode → ℕ → Node
node_in table n = node_at (nodes_in table) n

-- its kid of this index
abbrev pub kid_in : List SynNode → ℕ → ℕ → ℕ
kid_in table n index = kid (node_in table n) index

-- the judgements of the nodes before this one
unfoldable pub judged_to : List SynNode → ℕ → List Judgement
judged_to table n = judged_from (places_in table) [] (take n (nodes_in table))

-- the judgement of this node
unfoldable pub judged_at : List SynNode → ℕ → Judgement
judged_at table n = judged_by (places_in table) (judged_to table n) (node_in table n) (node_in table n).label.kind

-- ---- what the checker has

abbrev pub slots_of : Meanings → List Judged
slots_of m = m.judged.slots.items

-- nothing of it has been taken
abbrev pub is_whole : Judged → Bool
is_whole s = has_code s && has_cells s

abbrev pub is_whole_at : Meanings → ℕ → Bool
is_whole_at m k = is_whole (get_or (slots_of m) k taken)

-- the cells of a static object are taken when all nodes have been judged
abbrev pub keeps_cells : Judged → Bool
keeps_cells judged.Taken = true
keeps_cells s = has_cells s

-- What the node k means may be a part of the node n or of a later one: that of its parent or, where it stands in braces, of the
-- declarator with these as its initializer.
abbrev pub IsFree : List SynNode → ℕ → ℕ → Type 0
IsFree table n k =
    (n ≤ (node_in table k).parent) ⊎ ((is_braces (kind_at (nodes_in table) (node_in table k).parent) ≡ true) × (n ≤ (node_in table (node_in table k).parent).parent))

-- Before the node n is judged: all nodes before it are, the complete structs are laid out, each node has a place for a struct that
-- it may name, and nothing has been taken that this node or a later one may want, but for its kids before the node `low`.
pub record IsReady (table : List SynNode) (n low : ℕ) (m : Meanings) : Type 0 where
  pub derived : IsDerived table
  pub nodes : length (nodes_in table) ≡ length table
  pub judged : AreJudged m.types (slots_of m) (judged_to table n)
  pub long : length (slots_of m) ≡ n
  pub laid : AreLaid m.types (layouts (judged_to table n))
  pub room : length m.types.structs ≡ length table
  pub whole : (k : ℕ) → k < n → IsFree table n k → ((node_in table k).parent ≡ n → low ≤ k) → is_whole_at m k ≡ true
  pub cells : (k : ℕ) → k < n → keeps_cells (get_or (slots_of m) k taken) ≡ true

-- the kids of the node n from this index on have not been taken
abbrev pub MayTake : List SynNode → ℕ → ℕ → Meanings → Type 0
MayTake table n index m = (low : ℕ) × (low ≤ kid_in table n index) × IsReady table n low m

-- ---- what one node adds

-- the node is an expression
abbrev pub as_expression : Result Typing Refusal → Result Judged Refusal
as_expression (Ok x) = Ok (judged.Expresses x)
as_expression (Err refused) = Err refused

-- the node does this
abbrev pub as_code : {E : Type 0} → Result (List Stmt) E → Result Judged Refusal
as_code (Ok code) = Ok (judged.Performs code)
as_code (Err e) = Err refusal.OutOfMemory

-- what the node means, or the first rule that it breaks; want of memory says nothing of the rules
abbrev pub IsAnswered : Known → Result Judged Refusal → Judgement → Type 0
IsAnswered k (Ok s) j = (faults_in j ≡ []) × IsJudged k s j × (is_whole s ≡ true)
IsAnswered k (Err refused) j = IsFirst refused (faults_in j)

-- what is kept of that
abbrev pub IsSlot : Result Judged Refusal → Judged → Type 0
IsSlot (Ok a) s = s ≡ a
IsSlot (Err refusal.OutOfMemory) s = ⊥
IsSlot (Err refused) s = s ≡ judged.BreaksRules

-- what later nodes want is as it was
abbrev pub AreLeft : List SynNode → ℕ → Meanings → Meanings → Type 0
AreLeft table n old new = (k : ℕ) → k < n → IsFree table (suc n) k → get_or (slots_of new) k taken ≡ get_or (slots_of old) k taken

-- the node n has been judged
pub record IsRow (table : List SynNode) (n : ℕ) (old new : Meanings) (answer : Result Judged Refusal) : Type 0 where
  pub answered : IsAnswered new.types answer (judged_at table n)
  pub judged : AreJudged new.types (slots_of new) (judged_to table n)
  pub laid : answer ≢ Err refusal.OutOfMemory → AreLaid new.types (layouts (judged_to table (n + 1)))
  pub room : length new.types.structs ≡ length table
  pub left : AreLeft table n old new
  pub cells : (k : ℕ) → k < n → keeps_cells (get_or (slots_of new) k taken) ≡ true

-- the node has so many kids, or more
abbrev pub HasKids : List SynNode → ℕ → ℕ → Type 0
HasKids table n count = count ≤ length (node_in table n).kids
