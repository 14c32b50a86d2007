-- What one call of a graph has at a moment, and the words of its nodes.
use Rattle.std.specs.Prelude.{ℕ, zero, suc, ◌==◌, true, false, ◌&&◌, List, [], ◌∷◌, length, Option, Some, None, slice_get, unwrap_or}
use Rattle.cp_base.specs.Operations.{applied}
use Rattle.cp_base.specs.Words.{sum}
use Rattle.firm_rules.specs.declared.node.NodeOp.{NodeOp}
use Rattle.firm_rules.specs.declared.node.NodeOp.TheVariants.{Param, Const, Addr, Unknown, Apply, ProjR}
use Rattle.firm_rules.specs.Graphs.{FirmNode, Firm}
use Rattle.firm_rules.specs.Lookups.{node_at}
use Rattle.firm_rules.specs.Rules.{is_phi}

-- the arguments of the call, and the word that each node had when its block was last left, or was given since; 0 where its block was
-- not entered
pub record Frame : Type 0 where
  pub arguments : List ℕ
  pub words : ℕ → ℕ

abbrev pub first_frame : List ℕ → Frame
first_frame arguments = record { arguments = arguments; words = λ n. 0 }

-- the node has this word
abbrev pub with_word : Frame → ℕ → ℕ → Frame
with_word f n word = record f { words = λ m. elim (m == n) [ true ↦ word | false ↦ f.words m ] }

-- The word of a node of the present block: a pure node has that of its operation, by the words of its operands, and `ProjR` that
-- of its tuple. A Phi, and a node that takes memory, has the word that it was given; so has any other.
abbrev pub word_by : ℕ → Frame → (ℕ → ℕ) → NodeOp → List ℕ → ℕ → ℕ
word_by base f word (Param i) operands n = unwrap_or (slice_get f.arguments i) 0
word_by base f word (Const c) operands n = c
word_by base f word (Addr offset) operands n = sum base offset
word_by base f word Unknown operands n = 0
word_by base f word (Apply op) (a ∷ b ∷ rest) n = applied op (word a) (word b)
-- a conversion reads the first word alone
word_by base f word (Apply op) (a ∷ []) n = applied op (word a) 0
word_by base f word ProjR (t ∷ rest) n = word t
word_by base f word op operands n = f.words n

abbrev pub word_in : ℕ → ℕ → Frame → (ℕ → ℕ) → Option FirmNode → ℕ → ℕ
word_in base b f word (Some node) n = elim (node.block == b) [ true ↦ word_by base f word node.op node.operands n | false ↦ f.words n ]
word_in base b f word None n = f.words n

-- with so many steps from a node to an operand
unfoldable pub word_within : ℕ → Firm → ℕ → Frame → ℕ → ℕ → ℕ
word_within base g b f zero n = f.words n
word_within base g b f (suc steps) n = word_in base b f (word_within base g b f steps) (node_at g n) n

-- The word that a node has in the block. In a graph that obeys the rules the way from operand to operand ends within as many steps as
-- there are nodes.
abbrev pub word_at : ℕ → Firm → ℕ → Frame → ℕ → ℕ
word_at base g b f n = word_within base g b f (length g.nodes) n

-- ---- from block to block

abbrev pub word_of : (ℕ → ℕ) → Option ℕ → ℕ
word_of word (Some n) = word n
word_of word None = 0

-- the word that a node has where the block is entered by the edge at a place: a Phi of the block has that of its operand for the
-- edge, and any other node the one that it had
abbrev pub word_entered : ℕ → ℕ → (ℕ → ℕ) → Option FirmNode → ℕ → ℕ
word_entered to place word (Some node) n =
    elim (is_phi node.op && (node.block == to)) [ true ↦ word_of word (slice_get node.operands place) | false ↦ word n ]
word_entered to place word None n = word n

-- after the block `to` is entered from the block b by the edge at a place: all its Phis change at once
abbrev pub after_edge : ℕ → Firm → ℕ → Frame → ℕ → ℕ → Frame
after_edge base g b f to place = record f { words = λ n. word_entered to place (word_at base g b f) (node_at g n) n }
