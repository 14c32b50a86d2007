-- The first of some spans that a node stands in.
use Rattle.std.specs.Prelude.{◌⊎◌, ℕ, ◌+◌, ◌<◌, Bool, ◌&&◌, ◌||◌, nat_le, nat_lt, List, [], ◌∷◌, if◌then◌else◌}
use Rattle.std.specs.List.{AllByRecursion}
use Rattle.c_nodes.specs.declared.spans.Span.{Span}

abbrev pub stands_in : Span → ℕ → Bool
stands_in span n = (nat_le span.from n && nat_le n span.to) || (nat_le span.more_from n && nat_le n span.more_to)

-- the index of the first span that the node stands in; where there is none, how many spans there are
abbrev pub found_in : List Span → ℕ → ℕ
found_in [] n = 0
found_in (span ∷ spans) n = if stands_in span n then 0 else 1 + found_in spans n

-- ---- how they are found

abbrev pub IsSpanWithin : ℕ → ℕ → ℕ → Type 0
IsSpanWithin count from to = (to < from) ⊎ (to < count)

abbrev pub AreWithin : ℕ → List Span → Type 0
AreWithin count spans = AllByRecursion (λ (span : Span). IsSpanWithin count span.from span.to × IsSpanWithin count span.more_from span.more_to) spans

-- a number at the places from one up to, without it, another
abbrev pub painted_from : ℕ → ℕ → ℕ → ℕ → List ℕ → List ℕ
painted_from i from bound number [] = []
painted_from i from bound number (x ∷ xs) = (if nat_le from i && nat_lt i bound then number else x) ∷ painted_from (i + 1) from bound number xs

abbrev pub painted : ℕ → ℕ → ℕ → List ℕ → List ℕ
painted from to number xs = painted_from 0 from (to + 1) number xs
