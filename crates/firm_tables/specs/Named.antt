-- Which nodes an end may name.
use Rattle.std.specs.Prelude.{◌≡◌, ◌<◌, ℕ, Bool, true, false, ◌||◌, List, slice_index_or, None}
use Rattle.firm_uses.specs.Counts.{times}
use Rattle.firm_rules.specs.Rules.{uses}
use Rattle.firm_tables.specs.declared.blocks.StoredBlock.{StoredBlock}

abbrev pub no_block : StoredBlock
no_block = record { end = None; sealed = false }

-- each node that an end names is known to be named
abbrev pub AreNamed : List StoredBlock → (ℕ → Bool) → Type 0
AreNamed rows named = (b n : ℕ) → 0 < times n (uses (slice_index_or rows b no_block).end) → named n ≡ true

-- a flag for each node up to some one, and whether all may be named
pub record Flags : Type 0 where
  pub flags : List Bool
  pub all : Bool

abbrev pub may_name : Flags → ℕ → Bool
may_name named n = named.all || slice_index_or named.flags n false
