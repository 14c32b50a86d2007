-- The text of a graph.
use Rattle.std.specs.Prelude.{ℕ, List, ◌++◌, [], length, codes, Option, Some, None}
use Rattle.std.specs.List.{flat_map, filter, range_with_len}
use Rattle.std.specs.Fmt.{decimal}
use Rattle.cp_base.specs.declared.op.Kind.{Kind}
use Rattle.cp_base.specs.declared.op.Kind.TheVariants as kind
use Rattle.cp_base.specs.declared.op.Relation.{Relation}
use Rattle.cp_base.specs.declared.op.Relation.TheVariants.{Eq, Ne, LtS, LtU, LeS, LeU, GtS, GtU, GeS, GeU}
use Rattle.cp_base.specs.declared.op.To.{To}
use Rattle.cp_base.specs.declared.op.To.TheVariants as to
use Rattle.cp_base.specs.declared.op.Op.{Op}
use Rattle.cp_base.specs.declared.op.Op.TheVariants.{Add, Sub, Mul, DivS, DivU, ModS, ModU, Shl, ShrS, ShrU, And, Or, Eor, Cmp, Conv}
use Rattle.firm_rules.specs.declared.node.Mode.{Mode}
use Rattle.firm_rules.specs.declared.node.Mode.TheVariants.{Word, Memory, Tuple}
use Rattle.firm_rules.specs.declared.node.NodeOp.{NodeOp}
use Rattle.firm_rules.specs.declared.node.NodeOp.TheVariants.{Start, Param, Const, Addr, Unknown, Apply, Load, Store, Call, Get, Put, ProjM, ProjR, Phi}
use Rattle.firm_rules.specs.declared.node.NodeId.{NodeId}
use Rattle.firm_rules.specs.declared.node.FirmEnd.{FirmEnd}
use Rattle.firm_rules.specs.declared.node.FirmEnd.TheVariants.{Jump, Branch, Return}
use Rattle.firm_rules.specs.Graphs.{Firm}
use Rattle.firm_rules.specs.Lookups.{rank, preds_of, end_of}
use Rattle.firm_tables.specs.Nodes.{node_of, stands_in}

-- ---- operations

abbrev pub kind_word : Kind → List ℕ
kind_word kind.U8 = codes "U8"
kind_word kind.I8 = codes "I8"
kind_word kind.U16 = codes "U16"
kind_word kind.I16 = codes "I16"
kind_word kind.W32 = codes "W32"

abbrev pub relation_word : Relation → List ℕ
relation_word Eq = codes "Eq"
relation_word Ne = codes "Ne"
relation_word LtS = codes "LtS"
relation_word LtU = codes "LtU"
relation_word LeS = codes "LeS"
relation_word LeU = codes "LeU"
relation_word GtS = codes "GtS"
relation_word GtU = codes "GtU"
relation_word GeS = codes "GeS"
relation_word GeU = codes "GeU"

abbrev pub to_word : To → List ℕ
to_word to.U8 = codes "U8"
to_word to.I8 = codes "I8"
to_word to.U16 = codes "U16"
to_word to.I16 = codes "I16"
to_word to.Truth = codes "Truth"

abbrev pub mode_word : Mode → List ℕ
mode_word Word = codes "Word"
mode_word Memory = codes "Memory"
mode_word Tuple = codes "Tuple"

-- an operation on words, with its relation or the type that it converts to
abbrev pub word_op_text : Op → List ℕ
word_op_text Add = codes "Add"
word_op_text Sub = codes "Sub"
word_op_text Mul = codes "Mul"
word_op_text DivS = codes "DivS"
word_op_text DivU = codes "DivU"
word_op_text ModS = codes "ModS"
word_op_text ModU = codes "ModU"
word_op_text Shl = codes "Shl"
word_op_text ShrS = codes "ShrS"
word_op_text ShrU = codes "ShrU"
word_op_text And = codes "And"
word_op_text Or = codes "Or"
word_op_text Eor = codes "Eor"
word_op_text (Cmp relation) = codes "Cmp " ++ relation_word relation
word_op_text (Conv to) = codes "Conv " ++ to_word to

-- an operation with what it has besides operands
abbrev pub op_text : NodeOp → List ℕ
op_text Start = codes "Start"
op_text (Param i) = codes "Param " ++ decimal i
op_text (Const n) = codes "Const " ++ decimal n
op_text (Addr n) = codes "Addr " ++ decimal n
op_text Unknown = codes "Unknown"
op_text (Apply op) = word_op_text op
op_text (Load kind) = codes "Load " ++ kind_word kind
op_text (Store kind) = codes "Store " ++ kind_word kind
op_text (Call f) = codes "Call " ++ decimal f
op_text Get = codes "Get"
op_text Put = codes "Put"
op_text ProjM = codes "ProjM"
op_text ProjR = codes "ProjR"
op_text (Phi mode) = codes "Phi " ++ mode_word mode

-- ---- nodes

-- numbers, each after a blank
abbrev pub after_blank : ℕ → List ℕ
after_blank n = codes " " ++ decimal n

abbrev pub list_text : List ℕ → List ℕ
list_text list = flat_map after_blank list

-- the line of a node: its number, its operation, its operands
abbrev pub node_line : Firm → ℕ → List ℕ
node_line g n = decimal n ++ codes " " ++ op_text (node_of g.nodes n).op ++ list_text (node_of g.nodes n).operands ++ codes "\n"

-- the nodes that are there in a block, by rising number
abbrev pub nodes_in : Firm → ℕ → List ℕ
nodes_in g b = filter (λ n. stands_in (node_of g.nodes n) b) (range_with_len 0 (length g.nodes))

-- ---- blocks, each numbered by its place in the order

abbrev pub place_after_blank : Firm → ℕ → List ℕ
place_after_blank g b = after_blank (rank g b)

abbrev pub value_text : Option NodeId → List ℕ
value_text None = []
value_text (Some value) = after_blank value.number

-- the line of an end, where there is one
abbrev pub end_line : Firm → Option FirmEnd → List ℕ
end_line g None = []
end_line g (Some (Jump b)) = codes "jump" ++ place_after_blank g b.number ++ codes "\n"
end_line g (Some (Branch n first second)) =
    codes "branch" ++ after_blank n.number ++ place_after_blank g first.number ++ place_after_blank g second.number ++ codes "\n"
end_line g (Some (Return memory value)) = codes "return" ++ after_blank memory.number ++ value_text value ++ codes "\n"

-- the line of a block, with its predecessors
abbrev pub block_line : Firm → ℕ → List ℕ
block_line g b = codes "block" ++ place_after_blank g b ++ codes " from" ++ flat_map (place_after_blank g) (preds_of g b) ++ codes "\n"

abbrev pub block_text : Firm → ℕ → List ℕ
block_text g b = block_line g b ++ flat_map (node_line g) (nodes_in g b) ++ end_line g (end_of g b)

-- the line of the graph, and then its blocks
abbrev pub firm_line : Firm → List ℕ
firm_line g = codes "graph " ++ g.name ++ after_blank g.params ++ codes "\n"

unfoldable pub firm_text : Firm → List ℕ
firm_text g = firm_line g ++ flat_map (block_text g) g.order
