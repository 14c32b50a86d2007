-- Graphs by hand that break a rule, and near ones that obey all of them.
use Rattle.std.proofs.Common.{ℕ, true, List, [], ◌∷◌, None}
use Rattle.std.specs.Prelude.{codes}
use Rattle.cp_base.specs.declared.op.Op.TheVariants as word
use Rattle.cp_base.specs.declared.op.Kind.TheVariants.{W32}
use Rattle.firm_rules.specs.declared.node.Mode.TheVariants.{Word, Memory}
use Rattle.firm_rules.specs.declared.node.NodeOp.TheVariants.{Start, Const, Apply, Load, Store, Put, ProjM, ProjR, Phi}
use Rattle.firm_rules.specs.Graphs.{FirmNode, FirmBlock, Firm}
use Rattle.firm_rules.proofs.Made.{node, block, graph, jump, branch, return}

abbrev f : List FirmBlock → List FirmNode → Firm
f blocks nodes = graph (codes "f") 0 blocks nodes

abbrev start : FirmNode
start = node Start 0 []

-- a constant in a block
abbrev number : ℕ → ℕ → FirmNode
number b n = node (Const n) b []

-- ---- one block

-- with these nodes after `Start` and the constant 8, and a Return of this memory and word
abbrev pub one_block : ℕ → ℕ → List FirmNode → Firm
one_block memory value nodes = f (block [] (return memory value) ∷ []) (start ∷ number 0 8 ∷ nodes)

abbrev pub add_of : List ℕ → Firm
add_of operands = one_block 0 2 (node (Apply word.Add) 0 operands ∷ [])

-- the memory of the load
abbrev pub load_of : ℕ → ℕ → Firm
load_of memory address = one_block 3 4 (node (Load W32) 0 (memory ∷ address ∷ []) ∷ node ProjM 0 (2 ∷ []) ∷ node ProjR 0 (2 ∷ []) ∷ [])

-- a block without an end
abbrev pub no_end : Firm
no_end = f (record { preds = []; end = None; sealed = true } ∷ []) (start ∷ [])

-- two additions
abbrev pub two_adds : ℕ → ℕ → Firm
two_adds one other = one_block 0 3 (node (Apply word.Add) 0 (one ∷ 1 ∷ []) ∷ node (Apply word.Add) 0 (other ∷ 1 ∷ []) ∷ [])

-- two loads, the second at an address
abbrev pub two_loads : ℕ → Firm
two_loads address = one_block 6 7 (node (Load W32) 0 (0 ∷ 1 ∷ []) ∷ node ProjM 0 (2 ∷ []) ∷ node ProjR 0 (2 ∷ [])
    ∷ node (Load W32) 0 (3 ∷ address ∷ []) ∷ node ProjM 0 (5 ∷ []) ∷ node ProjR 0 (5 ∷ []) ∷ [])

-- two stores of these memories, and a Return
abbrev pub two_stores : ℕ → ℕ → ℕ → Firm
two_stores one other returned = one_block returned 1 (node (Store W32) 0 (one ∷ 1 ∷ 1 ∷ []) ∷ node (Store W32) 0 (other ∷ 1 ∷ 1 ∷ []) ∷ [])

-- ---- a branch and a join

-- with these nodes after `Start` and the constant 8
abbrev pub diamond : ℕ → ℕ → List FirmNode → Firm
diamond memory value nodes =
    f (block [] (branch 1 1 2) ∷ block (0 ∷ []) (jump 3) ∷ block (0 ∷ []) (jump 3) ∷ block (1 ∷ 2 ∷ []) (return memory value) ∷ []) (start ∷ number 0 8 ∷ nodes)

-- a Phi where they join
abbrev pub phi_of : List ℕ → Firm
phi_of operands = diamond 0 4 (number 1 5 ∷ number 2 6 ∷ node (Phi Word) 3 operands ∷ [])

-- a constant in this block, which is returned
abbrev pub number_in : ℕ → Firm
number_in b = diamond 0 2 (number b 5 ∷ [])

-- a store in the first of two blocks, and a Phi where they join; this memory is returned
abbrev pub store_in_branch : ℕ → Firm
store_in_branch memory = diamond memory 1 (node (Store W32) 1 (0 ∷ 1 ∷ 1 ∷ []) ∷ node (Phi Memory) 3 (2 ∷ 0 ∷ []) ∷ [])

-- and without the Phi
abbrev pub store_without_phi : Firm
store_without_phi = diamond 0 1 (node (Store W32) 1 (0 ∷ 1 ∷ 1 ∷ []) ∷ [])

-- ---- two blocks, of which the first jumps to the second

abbrev pub two_blocks : List ℕ → ℕ → List FirmNode → Firm
two_blocks preds value nodes = f (block [] (jump 1) ∷ block preds (return 0 value) ∷ []) (start ∷ number 0 8 ∷ nodes)

-- a Phi in a block
abbrev pub phi_in : ℕ → List ℕ → Firm
phi_in b operands = two_blocks (0 ∷ []) 2 (node (Phi Word) b operands ∷ [])

-- an addition of the first block of a constant of this one
abbrev pub add_of_block : ℕ → ℕ → Firm
add_of_block b c = two_blocks (0 ∷ []) 3 (number b 5 ∷ node (Apply word.Add) c (1 ∷ 2 ∷ []) ∷ [])

-- a branch both of whose targets are the second block
abbrev pub branch_twice : List ℕ → Firm
branch_twice preds = f (block [] (branch 1 1 1) ∷ block preds (return 0 1) ∷ []) (start ∷ number 0 8 ∷ [])

-- ---- orders and loops

-- three blocks, each the predecessor of one, in this order: 0 jumps to 2 and 2 to 1
abbrev pub in_order : List ℕ → Firm
in_order order = record (f (block [] (jump 2) ∷ block (2 ∷ []) (return 0 1) ∷ block (0 ∷ []) (jump 1) ∷ []) (start ∷ number 0 8 ∷ [])) { order = order }

-- a loop of the blocks 1 and 2, which is left to 3
abbrev pub loop_by_head : Firm
loop_by_head = f (block [] (jump 1) ∷ block (0 ∷ 2 ∷ []) (jump 2) ∷ block (1 ∷ []) (branch 1 1 3) ∷ block (2 ∷ []) (return 0 1) ∷ []) (start ∷ number 0 8 ∷ [])

-- the same, entered at 2 too
abbrev pub loop_by_both : Firm
loop_by_both = f (block [] (branch 1 1 2) ∷ block (0 ∷ 2 ∷ []) (jump 2) ∷ block (0 ∷ 1 ∷ []) (branch 1 1 3) ∷ block (2 ∷ []) (return 0 1) ∷ []) (start ∷ number 0 8 ∷ [])

-- a block that jumps to itself, before one that is entered from before it
abbrev pub own_loop : Firm
own_loop = f (block [] (branch 1 1 2) ∷ block (0 ∷ 1 ∷ []) (branch 1 1 2) ∷ block (0 ∷ 1 ∷ []) (return 0 1) ∷ []) (start ∷ number 0 8 ∷ [])

-- a loop of 1 to 3, whose last block is entered from the first of all
abbrev pub loop_by_last : Firm
loop_by_last = f (block [] (branch 1 1 3) ∷ block (0 ∷ 3 ∷ []) (jump 2) ∷ block (1 ∷ []) (jump 3) ∷ block (0 ∷ 2 ∷ []) (branch 1 1 4) ∷ block (3 ∷ []) (return 0 1) ∷ [])
    (start ∷ number 0 8 ∷ [])

-- a loop of 1 to 4 around one of 2 and 3, which is entered by 2, and where `into` tells, by 3 too
abbrev pub nested_by_head : Firm
nested_by_head = f (block [] (jump 1) ∷ block (0 ∷ 4 ∷ []) (jump 2) ∷ block (1 ∷ 3 ∷ []) (jump 3) ∷ block (2 ∷ []) (branch 1 2 4)
    ∷ block (3 ∷ []) (branch 1 1 5) ∷ block (4 ∷ []) (return 0 1) ∷ []) (start ∷ number 0 8 ∷ [])

abbrev pub nested_by_both : Firm
nested_by_both = f (block [] (jump 1) ∷ block (0 ∷ 4 ∷ []) (branch 1 2 3) ∷ block (1 ∷ 3 ∷ []) (jump 3) ∷ block (1 ∷ 2 ∷ []) (branch 1 2 4)
    ∷ block (3 ∷ []) (branch 1 1 5) ∷ block (4 ∷ []) (return 0 1) ∷ []) (start ∷ number 0 8 ∷ [])

-- a loop that counts, by a Phi and an addition
abbrev pub counting : Firm
counting = f (block [] (jump 1) ∷ block (0 ∷ 1 ∷ []) (branch 3 1 2) ∷ block (1 ∷ []) (return 0 3) ∷ [])
    (start ∷ number 0 8 ∷ node (Phi Word) 1 (1 ∷ 3 ∷ []) ∷ node (Apply word.Add) 1 (2 ∷ 1 ∷ []) ∷ [])

-- a loop that writes a byte each time
abbrev pub writing : Firm
writing = f (block [] (jump 1) ∷ block (0 ∷ 1 ∷ []) (branch 1 1 2) ∷ block (1 ∷ []) (return 4 1) ∷ [])
    (start ∷ number 0 8 ∷ node (Phi Memory) 1 (0 ∷ 4 ∷ []) ∷ node Put 1 (2 ∷ 1 ∷ []) ∷ node ProjM 1 (3 ∷ []) ∷ [])

-- the same without the Phi
abbrev pub writing_without_phi : Firm
writing_without_phi = f (block [] (jump 1) ∷ block (0 ∷ 1 ∷ []) (branch 1 1 2) ∷ block (1 ∷ []) (return 3 1) ∷ [])
    (start ∷ number 0 8 ∷ node Put 1 (0 ∷ 1 ∷ []) ∷ node ProjM 1 (2 ∷ []) ∷ [])

-- a second Start, in the second block
abbrev pub start_in : ℕ → Firm
start_in b = two_blocks (0 ∷ []) 1 (node Start b [] ∷ [])
