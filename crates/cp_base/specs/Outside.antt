-- What contracts say of the outside: counts of faults, and what files and sinks tell.
use Rattle.std.specs.Prelude.{◌≡◌, ℕ, ◌<◌, ◌≤◌, ◌+◌, ◌⊎◌, max, min, List, length, take, Option, None, ◌++◌}
use Rattle.std.specs.Option.{option_map, IsSomeAnd}
use Rattle.std.specs.Ordering.{nat_cmp}
use Rattle.std.specs.Cmp.Lexicographic.{slice_cmp}
use Rattle.std.specs.FinMap.{FinMap, get}
use Rattle.std.specs.Io.KnownBytes.{Appends}

-- the greatest count of faults, the end of a `u64`
abbrev pub last_count : ℕ
last_count = 18446744073709551615

-- the next count, which stands still at the end of its type
abbrev pub next_count : ℕ → ℕ
next_count n = max n (min (n + 1) last_count)

-- a count of faults rose in a call: it is greater than before, or stands at the end of its type
abbrev pub Rose : ℕ → ℕ → Type 0
Rose old new = (old < new) ⊎ (last_count ≤ new)

-- the files of an object: from names to bytes
abbrev pub Contents : Type 0
Contents = FinMap (slice_cmp nat_cmp) (List ℕ)

-- files that are not told
abbrev pub untold_files : Option Contents
untold_files = None

-- bytes that are not told
abbrev pub untold_bytes : Option (List ℕ)
untold_bytes = None

-- the contents are told, and have this file under the name
abbrev pub Tells : Option Contents → List ℕ → List ℕ → Type 0
Tells told name bytes = IsSomeAnd told (λ files. get files name ≡ Option.Some bytes)

-- the contents are told, and have no file of this name
abbrev pub Lacks : Option Contents → List ℕ → Type 0
Lacks told name = IsSomeAnd told (λ files. get files name ≡ None)

-- what a sink tells after it took these bytes: what it told before and then the bytes, or nothing where it tells nothing
abbrev pub gained : Option (List ℕ) → List ℕ → Option (List ℕ)
gained told bytes = option_map (λ before. before ++ bytes) told

-- a sink took a front of these bytes, and not all of them; of a sink that tells nothing this says that there were some
abbrev pub GainsFront : Option (List ℕ) → Option (List ℕ) → List ℕ → Type 0
GainsFront old new bytes = (n : ℕ) × (n < length bytes) × (new ≡ gained old (take n bytes))

-- a writer of the host, where its bytes are known, gained a front of these; none and all are fronts too
abbrev pub GrowsByFront : Option (List ℕ) → Option (List ℕ) → List ℕ → Type 0
GrowsByFront old new bytes = (n : ℕ) × (n ≤ length bytes) × Appends old new (take n bytes)
