-- The tags of the nodes of a table.
use Rattle.std.specs.Prelude.{◌≡◌, ℕ, ◌<◌, ◌≤◌, Bool, true, false, ◌&&◌, ◌||◌, not, ◌==◌, List, [], Option, Some, None, filter, get_or, length, option_map, take, position, unwrap_or, find}
use Rattle.std.specs.List.{list_any}
use Rattle.std.specs.Str.{bytes_eq}
use Rattle.c_syntax.specs.declared.kind.SynKind.{SynKind}
use Rattle.c_syntax.specs.declared.kind.SynKind.TheVariants as kind
use Rattle.c_syntax.specs.declared.syntax.SynNode.{SynNode}
use Rattle.c_typing.specs.Places.{has_kid, in_scope, node_at, scope_at, scopes_of}
use Rattle.c_typing.specs.Names as rules
use Rattle.c_typing.specs.Names.{Places, tag_of, innermost_tag, is_lone, tag_after, tags_from}
use Rattle.c_typing.specs.Declarators.{tags_before}
use Rattle.c_nodes.specs.Parents.{AreNumbered, nodes_in}
use Rattle.c_names.specs.Texts.{first_of}
use Rattle.c_names.specs.Denoted.{Among, places_in}
use Rattle.c_tags.specs.declared.chain.Entry.{Entry}
use Rattle.c_tags.specs.declared.chain.MetTag.{MetTag}
use Rattle.c_tags.specs.declared.tag.Tag.{Tag}
use Rattle.c_tags.specs.Chains.{entry_of, seen_at}
use Rattle.c_tags.specs.Order.{order_in}

-- it has a body, and so has a tag before it that names the same
abbrev pub has_second_body : Places → rules.Tag → Bool
has_second_body p e = e.has_body && list_any (λ (a : rules.Tag). a.names == e.names && a.has_body) (tags_before p e)

abbrev pub told : Places → rules.Tag → Tag
told p e = record { names = e.names; is_new = e.is_new; clashes = e.clashes; has_second_body = has_second_body p e }

-- for each node its tag, where it has one
pub record AreTags (table : List SynNode) (found : List (Option Tag)) : Type 0 where
  pub long : length found ≡ length table
  pub are : (n : ℕ) → n < length table → get_or found n None ≡ option_map (told (places_in table)) (tag_of (places_in table) n)

-- ---- how they are found

-- a node with a tag: whether it is one of an enum
abbrev pub tag_kind : SynKind → Option Bool
tag_kind kind.StructSpec = Some false
tag_kind kind.EnumSpec = Some true
tag_kind k = None

-- the tags of the nodes before this place in the order of the first tokens
unfoldable pub tags_before_place : List SynNode → ℕ → List rules.Tag
tags_before_place table k = tags_from (nodes_in table) (scopes_of (nodes_in table)) [] (take k (order_in table))

-- some tag has a body and names this
abbrev pub has_body_among : List rules.Tag → ℕ → Bool
has_body_among tags i = list_any (λ (a : rules.Tag). a.names == i && a.has_body) tags

-- what is told of a tag among these
abbrev pub told_among : List rules.Tag → rules.Tag → Tag
told_among tags e = record {
  names = e.names;
  is_new = e.is_new;
  clashes = e.clashes;
  has_second_body = e.has_body && has_body_among (take (unwrap_or (position (λ (a : rules.Tag). a.node == e.node) tags) 0) tags) e.names;
}

abbrev pub found_among : List rules.Tag → ℕ → Option Tag
found_among tags n = option_map (told_among tags) (find (λ (e : rules.Tag). e.node == n) tags)

-- the innermost of these tags with the text whose scope has the node
abbrev pub tag_in_scope : List rules.Tag → List ℕ → ℕ → Option rules.Tag
tag_in_scope tags text n = innermost_tag None (filter (λ (e : rules.Tag). bytes_eq e.text text && in_scope e.scope n) tags)

-- the tag of a node, where the one in scope is known
abbrev pub tag_here : List SynNode → ℕ → Bool → Option rules.Tag → rules.Tag
tag_here table n is_enum e =
    let s = nodes_in table in
    tag_after (node_at s n) is_enum (scope_at (scopes_of s) n) (has_kid (node_at s n) 0 || (not is_enum && is_lone s (node_at s n))) e

-- what is told of a tag that is met, by what has a body so far
abbrev pub noted : MetTag → Bool → List Bool → Tag
noted m has_body bodies = record { names = m.entry.names; is_new = m.is_new; clashes = m.clashes; has_second_body = has_body && get_or bodies m.entry.names false }

-- before a place of the order: the chains see what is in scope there and later, and what is told of the tags so far
pub record Stand (table : List SynNode) (k : ℕ) (chains : List (List Entry)) (bodies : List Bool) (found : List (Option Tag)) : Type 0 where
  pub nodes : length (nodes_in table) ≡ length table
  pub numbered : AreNumbered (nodes_in table)
  pub chains_long : length chains ≡ length table
  pub bodies_long : length bodies ≡ length table
  pub found_long : length found ≡ length table
  pub sees : (text : List ℕ) (t : ℕ) → first_of (nodes_in table) text ≡ Some t → (j : ℕ) → k ≤ j → j < length table
      → seen_at (get_or chains t []) (get_or (order_in table) j 0) ≡ option_map entry_of (tag_in_scope (tags_before_place table k) text (get_or (order_in table) j 0))
  pub has_bodies : (i : ℕ) → i < length table → get_or bodies i false ≡ has_body_among (tags_before_place table k) i
  pub tells : (i : ℕ) → i < length table → get_or found i None ≡ found_among (tags_before_place table k) i
  pub places : (e : rules.Tag) → Among e (tags_before_place table k) → (i : ℕ) × (i < k) × (get_or (order_in table) i 0 ≡ e.node)
  pub low : (e : rules.Tag) → Among e (tags_before_place table k) → e.names < length table
