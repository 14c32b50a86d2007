-- What a target is, as the builder sees it: blocks with their predecessors, and values that stand in blocks. A target is a
-- graph or block code under construction; its other parts are its own.
use Rattle.std.specs.Prelude.{◌≡◌, ℕ, ◌⊎◌, List, [], ◌∷◌, ◌++◌, length}
use Rattle.std.specs.List.{Contains}

-- a value is a machine word, or the state of memory, or what no variable has
pub data Mode : Type 0 where
  word : Mode
  memory : Mode
  neither : Mode

-- What a value is at a moment. `absent` was never there, `gone` was there and another value was put in its place. A Phi
-- has the operands that were appended so far, one for each predecessor of its block where it is full.
pub data ValueKind (V : Type 0) : Type 0 where
  absent : ValueKind V
  gone : ValueKind V
  unknown : ValueKind V
  phi : List V → ValueKind V
  other : ValueKind V

-- Blocks are the numbers below `blocks`, and a run starts in `first`. A block's predecessors have an order, and the operand
-- of a Phi at a place is for the predecessor at that place. `current` follows replacements.
pub record Shape (V : Type 0) : Type 0 where
  pub first : ℕ
  pub blocks : ℕ
  pub preds : ℕ → List ℕ
  pub kind : V → ValueKind V
  pub block : V → ℕ
  pub mode : V → Mode
  pub current : V → V

pub record IsThere {V : Type 0} (s : Shape V) (v : V) : Type 0 where
  pub once : s.kind v ≡ absent → ⊥
  pub still : s.kind v ≡ gone → ⊥
  -- a value that is there was replaced by none
  pub own : s.current v ≡ v

pub record IsPhi {V : Type 0} (s : Shape V) (v : V) : Type 0 where
  pub operands : List V
  pub is : s.kind v ≡ phi operands

-- ---- what a call changes

-- the blocks and edges are the same
pub record SameBlocks {V : Type 0} (s t : Shape V) : Type 0 where
  pub first : t.first ≡ s.first
  pub blocks : t.blocks ≡ s.blocks
  pub preds : (b : ℕ) → t.preds b ≡ s.preds b

-- all but its kind is the same of a value
pub record SamePlace {V : Type 0} (s t : Shape V) (v : V) : Type 0 where
  pub block : t.block v ≡ s.block v
  pub mode : t.mode v ≡ s.mode v
  pub current : t.current v ≡ s.current v

pub record SameValue {V : Type 0} (s t : Shape V) (v : V) : Type 0 where
  pub kind : t.kind v ≡ s.kind v
  pub place : SamePlace s t v

-- the value is there in the block, with this kind and mode, and all other values are as before
pub record Stands {V : Type 0} (s t : Shape V) (v : V) (block : ℕ) (kind : ValueKind V) (mode : Mode) : Type 0 where
  pub kind_is : t.kind v ≡ kind
  pub block_is : t.block v ≡ block
  pub mode_is : t.mode v ≡ mode
  pub own : t.current v ≡ v
  pub same_blocks : SameBlocks s t
  -- what was there before is as before
  pub keeps : (x : V) → (s.kind x ≡ absent → ⊥) → SameValue s t x
  -- nothing else came
  pub alone : (x : V) → (x ≡ v → ⊥) → SameValue s t x

-- the value was never there before
pub record IsMade {V : Type 0} (s t : Shape V) (v : V) (block : ℕ) (kind : ValueKind V) (mode : Mode) : Type 0 where
  pub was : s.kind v ≡ absent
  pub stands : Stands s t v block kind mode

-- the Phi has one operand more, at its end
pub record IsAppended {V : Type 0} (s t : Shape V) (p operand : V) : Type 0 where
  pub gains : (operands : List V) → s.kind p ≡ phi operands → t.kind p ≡ phi (operands ++ operand ∷ [])
  pub keeps : (x : V) → (x ≡ p → ⊥) → t.kind x ≡ s.kind x
  pub places : (x : V) → SamePlace s t x
  pub same_blocks : SameBlocks s t

-- the Phi is full, and its operands are itself and exactly one other value: it is trivial, and this value can stand in its
-- place (Braun, Buchwald, Hack, Leißa, Mallon and Zwinkau, Simple and Efficient Construction of SSA Form, 2013, 2.2)
pub record HasOnly {V : Type 0} (s : Shape V) (p only : V) : Type 0 where
  pub operands : List V
  pub kind_is : s.kind p ≡ phi operands
  pub full : length operands ≡ length (s.preds (s.block p))
  pub each : (x : V) → Contains operands x → (x ≡ p) ⊎ (x ≡ only)
  pub among : Contains operands only
  pub differs : only ≡ p → ⊥

-- `old` becomes `to`, and any other value stays
abbrev pub Becomes : {V : Type 0} → V → V → V → V → Type 0
Becomes old to x y = ((x ≡ old) × (y ≡ to)) ⊎ ((x ≡ old → ⊥) × (y ≡ x))

-- so does each of the list
abbrev pub AllBecome : {V : Type 0} → V → V → List V → List V → Type 0
AllBecome old to [] [] = Unit {0}
AllBecome old to [] (y ∷ ys) = ⊥
AllBecome old to (x ∷ xs) [] = ⊥
AllBecome old to (x ∷ xs) (y ∷ ys) = Becomes old to x y × AllBecome old to xs ys

-- each operand of a Phi becomes what is put in its place
pub record PhiBecomes {V : Type 0} (old to : V) (operands : List V) (kind : ValueKind V) : Type 0 where
  pub new_operands : List V
  pub is : kind ≡ phi new_operands
  pub each : AllBecome old to operands new_operands

-- no other kind changes
abbrev pub KindBecomes : {V : Type 0} → V → V → ValueKind V → ValueKind V → Type 0
KindBecomes old to (phi operands) new = PhiBecomes old to operands new
KindBecomes old to kind new = new ≡ kind

-- `to` was put in the place of `old` everywhere
pub record IsReplaced {V : Type 0} (s t : Shape V) (old to : V) : Type 0 where
  pub went : t.kind old ≡ gone
  pub kinds : (x : V) → (x ≡ old → ⊥) → KindBecomes old to (s.kind x) (t.kind x)
  pub block : (x : V) → t.block x ≡ s.block x
  pub mode : (x : V) → t.mode x ≡ s.mode x
  pub current : (x : V) → Becomes old to (s.current x) (t.current x)
  pub same_blocks : SameBlocks s t
