-- Things that stand one behind the other in memory: the members of a struct, and the objects of the data.
use Rattle.std.specs.Prelude.{◌≡◌, ℕ, ◌+◌, ◌-◌, ◌*◌, ◌/◌, ◌%◌, ◌<◌, ◌≤◌, max, List, [], ◌∷◌}
use Rattle.std.specs.List.{AllByRecursion}
use Rattle.c_types.specs.declared.kind.Measure.{Measure}

-- this place is the least multiple of the alignment that is not before another place
pub record IsLeastMultiple (align from at : ℕ) : Type 0 where
  pub multiple : at % align ≡ 0
  pub behind : from ≤ at
  pub least : (other : ℕ) → other % align ≡ 0 → from ≤ other → at ≤ other

-- that place
abbrev pub least_multiple : ℕ → ℕ → ℕ
least_multiple align from = (from + (align - 1)) / align * align

-- where each of them begins: at the least multiple of its alignment that is not before the end of the one before it;
-- before the first is the place `end`
abbrev pub offsets_from : ℕ → List Measure → List ℕ
offsets_from end [] = []
offsets_from end (m ∷ ms) = least_multiple m.align end ∷ offsets_from (least_multiple m.align end + m.size) ms

abbrev pub offsets : List Measure → List ℕ
offsets ms = offsets_from 0 ms

-- the same, said of places: each is such a least multiple
abbrev pub StandFrom : ℕ → List Measure → List ℕ → Type 0
StandFrom end [] [] = Unit {0}
StandFrom end (m ∷ ms) (at ∷ ats) = IsLeastMultiple m.align end at × StandFrom (at + m.size) ms ats
StandFrom end ms ats = ⊥

-- where the last of them ends
abbrev pub end_from : ℕ → List Measure → ℕ
end_from end [] = end
end_from end (m ∷ ms) = end_from (least_multiple m.align end + m.size) ms

abbrev pub end_of : List Measure → ℕ
end_of ms = end_from 0 ms

-- the greatest of their alignments
abbrev pub greatest_align : List Measure → ℕ
greatest_align [] = 1
greatest_align (m ∷ ms) = max m.align (greatest_align ms)

-- each has an alignment
abbrev pub AreAligned : List Measure → Type 0
AreAligned ms = AllByRecursion (λ m. 0 < m.align) ms
