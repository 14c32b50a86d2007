-- The tags of one text that can still be seen.
use Rattle.std.specs.Prelude.{ℕ, Bool, ◌&&◌, List, [], ◌∷◌, Option, Some, None, if◌then◌else◌, Vec, filter, map, nat_le, not, ◌==◌}
use Rattle.std.specs.declared.alloc.Global.{Global}
use Rattle.c_typing.specs.Places.{Scope, in_scope, end_of}
use Rattle.c_typing.specs.Names.{Tag}
use Rattle.c_nodes.specs.declared.spans.Span.{Span}
use Rattle.c_nodes.specs.Scopes.{scope_of}
use Rattle.c_names.specs.Chains.{has_ended}
use Rattle.c_tags.specs.declared.chain.Entry.{Entry}
use Rattle.c_tags.specs.declared.chain.MetTag.{MetTag}

abbrev pub chains_of : List (Vec Entry Global) → List (List Entry)
chains_of chains = map (λ chain. chain.items) chains

abbrev pub span_of : Scope → Span
span_of c = record { node = c.owner; from = c.from; to = c.to; more_from = c.block_from; more_to = c.block_to }

-- what a chain keeps of a tag
abbrev pub entry_of : Tag → Entry
entry_of e = record { scope = span_of e.scope; names = e.names; home = e.home; is_enum = e.is_enum }

abbrev pub met_of : Tag → MetTag
met_of e = record { entry = entry_of e; is_new = e.is_new; clashes = e.clashes }

abbrev pub end_in : Entry → ℕ
end_in e = end_of (scope_of e.scope)

-- the node stands in its scope
abbrev pub is_seen : ℕ → Entry → Bool
is_seen n e = in_scope (scope_of e.scope) n

-- of two tags, the one of the inner scope; of the same scope, the later one
abbrev pub inner_entry : Option Entry → Entry → Option Entry
inner_entry None b = Some b
inner_entry (Some a) b = if nat_le (end_in b) (end_in a) then Some b else Some a

abbrev pub innermost_entry : Option Entry → List Entry → Option Entry
innermost_entry best [] = best
innermost_entry best (e ∷ rest) = innermost_entry (inner_entry best e) rest

-- what a chain says at a node
abbrev pub seen_at : List Entry → ℕ → Option Entry
seen_at chain n = innermost_entry None (filter (is_seen n) chain)

abbrev pub is_same_span : Span → Span → Bool
is_same_span a b = (a.node == b.node) && ((a.from == b.from) && ((a.to == b.to) && ((a.more_from == b.more_from) && (a.more_to == b.more_to))))

-- an entry stays that can be seen from this node on, and is of another scope than the one that is entered
abbrev pub stays : ℕ → Span → Entry → Bool
stays n scope e = not (has_ended e.scope n) && not (is_same_span e.scope scope)
