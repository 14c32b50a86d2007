-- The names of one text in the scopes around a place.
use Rattle.std.specs.Prelude.{◌≡◌, ℕ, ◌<◌, Bool, true, false, ◌&&◌, nat_lt, List, ◌∷◌, ◌++◌, Option, Some, None, if◌then◌else◌, map, Vec}
use Rattle.std.specs.List.{AllByRecursion}
use Rattle.std.specs.declared.alloc.Global.{Global}
use Rattle.c_typing.specs.Places.{in_scope, end_of}
use Rattle.c_nodes.specs.declared.spans.Span.{Span}
use Rattle.c_nodes.specs.Scopes.{scope_of}
use Rattle.c_names.specs.declared.chain.Entry.{Entry}

abbrev pub chains_of : List (Vec Entry Global) → List (List Entry)
chains_of chains = map (λ chain. chain.items) chains

abbrev pub end_in : Entry → ℕ
end_in e = end_of (scope_of e.scope)

-- the node stands in its scope
abbrev pub is_seen : ℕ → Entry → Bool
is_seen n e = in_scope (scope_of e.scope) n

-- no node from this one on stands in the scope
abbrev pub has_ended : Span → ℕ → Bool
has_ended span n = nat_lt span.to n && nat_lt span.more_to n

abbrev pub IsEnded : ℕ → Entry → Type 0
IsEnded n e = has_ended e.scope n ≡ true

-- the last name of a chain whose scope has the node
abbrev pub IsVisible : ℕ → List Entry → Option ℕ → Type 0
IsVisible n chain None = AllByRecursion (λ e. is_seen n e ≡ false) chain
IsVisible n chain (Some node) =
    (outer : List Entry) × (e : Entry) × (inner : List Entry)
    × (chain ≡ outer ++ e ∷ inner) × (e.node ≡ node) × (is_seen n e ≡ true) × AllByRecursion (λ d. is_seen n d ≡ false) inner

abbrev pub later : Entry → Entry → Entry
later before e = if nat_lt before.node e.node then e else before

-- a chain with one more name: before all whose scopes end before its own, or in the place of one of the same scope
pub data IsPut (e : Entry) (old new : List Entry) : Type 0 where
  outermost : AllByRecursion (λ d. end_in d < end_in e) old → new ≡ e ∷ old → IsPut e old new
  inside : (outer : List Entry) (o : Entry) (inner : List Entry) → old ≡ outer ++ o ∷ inner → end_in e < end_in o
      → AllByRecursion (λ d. end_in d < end_in e) inner → new ≡ outer ++ o ∷ e ∷ inner → IsPut e old new
  again : (outer : List Entry) (o : Entry) (inner : List Entry) → old ≡ outer ++ o ∷ inner → end_in e ≡ end_in o
      → AllByRecursion (λ d. end_in d < end_in e) inner → new ≡ outer ++ later o e ∷ inner → IsPut e old new

-- and without names whose scopes have ended at this node
abbrev pub IsEntered : ℕ → Entry → List Entry → List Entry → Type 0
IsEntered n e old new =
    (kept : List Entry) × (dropped : List Entry) × (old ≡ kept ++ dropped) × AllByRecursion (IsEnded n) dropped × IsPut e kept new
