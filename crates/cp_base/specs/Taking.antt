-- What `take` appends, by its answer, as the contracts of `Files` and its objects say it.
use Rattle.std.specs.Prelude.{◌≡◌, ℕ, ◌<◌, ◌≤◌, ◌+◌, ◌++◌, List, length, take, Option, Some, None, Result, Ok, Err, MatchOption}
use Rattle.std.specs.FinMap.{get}
use Rattle.std.specs.Io.KnownBytes.{Consumes, IsAtEnd}
use Rattle.cp_base.specs.Outside.{Contents, next_count}
use Rattle.cp_base.specs.declared.files.TakeFault.{TakeFault}
use Rattle.cp_base.specs.declared.files.TakeFault.TheVariants.{Failed, TooLong, OutOfMemory}

-- what `take` answers
abbrev pub Answer : Type 0
Answer = Result (Unit {0}) TakeFault

-- how many bytes came: more than the limit exactly where the answer says so
abbrev pub FitsAnswer : Answer → ℕ → ℕ → Type 0
FitsAnswer (Ok done) limit count = count ≤ limit
FitsAnswer (Err TooLong) limit count = count ≡ limit + 1
FitsAnswer (Err Failed) limit count = count ≤ limit
FitsAnswer (Err OutOfMemory) limit count = count ≤ limit

-- the bytes from before stand, and as many came after them as the answer allows
abbrev pub AppendsFor : Answer → ℕ → List ℕ → List ℕ → Type 0
AppendsFor answer limit old new = (more : List ℕ) × (new ≡ old ++ more) × FitsAnswer answer limit (length more)

-- new is old with a front of the file after it
abbrev pub AppendsFront : List ℕ → List ℕ → List ℕ → Type 0
AppendsFront file old new = (n : ℕ) × (new ≡ old ++ take n file)

-- the answer for a file that is there
abbrev pub TakesFile : Answer → List ℕ → ℕ → List ℕ → List ℕ → Type 0
TakesFile (Ok done) file limit old new = (length file ≤ limit) × (new ≡ old ++ file)
TakesFile (Err TooLong) file limit old new = (limit < length file) × (new ≡ old ++ take (limit + 1) file)
TakesFile (Err Failed) file limit old new = AppendsFront file old new
TakesFile (Err OutOfMemory) file limit old new = AppendsFront file old new

-- the answer for a file that is not there
abbrev pub TakesMissing : Answer → List ℕ → List ℕ → Type 0
TakesMissing (Ok done) old new = ⊥
TakesMissing (Err TooLong) old new = ⊥
TakesMissing (Err Failed) old new = new ≡ old
TakesMissing (Err OutOfMemory) old new = new ≡ old

-- the answer where the contents are told; where they are not, this says nothing
abbrev pub TakesTold : Answer → Option Contents → List ℕ → ℕ → List ℕ → List ℕ → Type 0
TakesTold answer None name limit old new = Unit {0}
TakesTold answer (Some files) name limit old new =
    MatchOption (get files name) (TakesMissing answer old new) (λ file. TakesFile answer file limit old new)

-- the count of faults after an answer, where each fault counts as one
abbrev pub counted : Answer → ℕ → ℕ
counted (Ok done) faults = faults
counted (Err TooLong) faults = faults
counted (Err Failed) faults = next_count faults
counted (Err OutOfMemory) faults = faults

-- The rest is of the function inside `StdFiles::take` that goes on to the end of a reader; no public contract names it.

-- a front of what a reader gave was appended; what came after it was lost
abbrev pub AppendsRead : Option (List ℕ) → Option (List ℕ) → List ℕ → List ℕ → Type 0
AppendsRead left now old new = (more lost : List ℕ) × (new ≡ old ++ more) × Consumes left now (more ++ lost)

-- all that a reader had left was appended
abbrev pub AppendsRest : Option (List ℕ) → Option (List ℕ) → List ℕ → List ℕ → Type 0
AppendsRest left now old new = (more : List ℕ) × (new ≡ old ++ more) × Consumes left now more × IsAtEnd now
