-- Where a program stands in memory.
use Rattle.std.specs.Prelude.{◌≡◌, ◌≢◌, ℕ, ◌<◌, ◌≤◌, ◌+◌, ◌-◌, ◌%◌, ◌^◌, Bool, ◌==◌, nat_lt, nat_le, ◌&&◌, ◌||◌}
use Rattle.cp_base.specs.declared.layout.Layout.{Layout}
use Rattle.cp_base.specs.declared.layout.Region.{Region}

-- the address is one of the region's
pub record Within (region : Region) (address : ℕ) : Type 0 where
  pub from : region.base ≤ address
  pub below : address < region.base + region.len

-- the region has no byte at address 0 and none past the last address
pub record IsPlaced (region : Region) : Type 0 where
  pub not_null : (address : ℕ) → Within region address → address ≢ 0
  pub in_memory : region.base + region.len ≤ 2 ^ 32

-- no address is in both
abbrev pub Apart : Region → Region → Type 0
Apart one other = (address : ℕ) → Within one address → Within other address → ⊥

-- no two of the three meet
pub record AreApart (one two three : Region) : Type 0 where
  pub first_second : Apart one two
  pub first_third : Apart one three
  pub second_third : Apart two three

-- a word of 32 bits that is a multiple of 16
pub record IsAlignedWord (n : ℕ) : Type 0 where
  pub word : n < 2 ^ 32
  pub aligned : n % 16 ≡ 0

-- the four numbers of a layout
pub record IsAligned (layout : Layout) : Type 0 where
  pub code : IsAlignedWord layout.code
  pub cdata : IsAlignedWord layout.cdata
  pub top : IsAlignedWord layout.top
  pub stack : IsAlignedWord layout.stack

abbrev pub code_region : Layout → ℕ → Region
code_region layout size = record { base = layout.code; len = size }

abbrev pub data_region : Layout → ℕ → Region
data_region layout size = record { base = layout.cdata; len = size }

-- the bytes below the top
abbrev pub stack_region : Layout → Region
stack_region layout = record { base = layout.top - layout.stack; len = layout.stack }

-- the layout holds code and data of these lengths, in bytes
pub record Holds (layout : Layout) (code_size data_size : ℕ) : Type 0 where
  pub aligned : IsAligned layout
  pub stack_below_top : layout.stack ≤ layout.top
  pub code_placed : IsPlaced (code_region layout code_size)
  pub data_placed : IsPlaced (data_region layout data_size)
  pub stack_placed : IsPlaced (stack_region layout)
  pub apart : AreApart (code_region layout code_size) (data_region layout data_size) (stack_region layout)

-- the same rule as a test; `proofs/HoldsTest.antt` shows that it is the rule
abbrev pub is_aligned_word : ℕ → Bool
is_aligned_word n = nat_lt n (2 ^ 32) && (n % 16 == 0)

abbrev pub is_placed : Region → Bool
is_placed region = nat_le (region.base + region.len) (2 ^ 32) && (nat_lt 0 region.base || (region.len == 0))

abbrev pub are_apart : Region → Region → Bool
are_apart one other =
    (one.len == 0) || (other.len == 0) || nat_le (one.base + one.len) other.base || nat_le (other.base + other.len) one.base

abbrev pub holds : Layout → ℕ → ℕ → Bool
holds layout code_size data_size =
    is_aligned_word layout.code && is_aligned_word layout.cdata && is_aligned_word layout.top && is_aligned_word layout.stack
    && nat_le layout.stack layout.top
    && is_placed (code_region layout code_size) && is_placed (data_region layout data_size) && is_placed (stack_region layout)
    && are_apart (code_region layout code_size) (data_region layout data_size)
    && are_apart (code_region layout code_size) (stack_region layout)
    && are_apart (data_region layout data_size) (stack_region layout)
