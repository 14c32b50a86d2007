-- Scopes as spans of nodes.
use Rattle.std.specs.Prelude.{◌≡◌, ℕ, ◌<◌, List, [], ◌∷◌, length, Option, Some, None}
use Rattle.c_typing.specs.Places.{Node, node_at, Scope}
use Rattle.c_nodes.specs.declared.spans.Span.{Span}
use Rattle.c_nodes.specs.Spans.{IsSpanWithin}

abbrev pub scope_of : Span → Scope
scope_of span = record { owner = span.node; from = span.from; to = span.to; block_from = span.more_from; block_to = span.more_to }

abbrev pub listed : Option Span → List Scope
listed None = []
listed (Some span) = scope_of span ∷ []

-- a node by its number
abbrev pub NodeAt : List Node → Option ℕ → Option Node → Type 0
NodeAt s None found = found ≡ None
NodeAt s (Some n) found = (n < length s) × (found ≡ Some (node_at s n))

abbrev pub plain_span : ℕ → ℕ → Span
plain_span node from = record { node = node; from = from; to = node; more_from = 1; more_to = 0 }

abbrev pub IsInside : ℕ → Span → Type 0
IsInside count span = IsSpanWithin count span.from span.to × IsSpanWithin count span.more_from span.more_to
