-- The node that a tag names is one of the tree.
use Rattle.std.proofs.Common.{◌≡◌, ℕ, ◌<◌, Bool, true, false, not, ◌&&◌, ◌||◌, List, [], ◌∷◌, ◌++◌, Option, Some, None, length, refl, sym, ap, subst, arith}
use Rattle.std.specs.Prelude.{filter, find, if◌then◌else◌, nat_le, slice_get, unwrap_or, ◌==◌}
use Rattle.std.specs.Str.{bytes_eq}
use Rattle.c_syntax.specs.declared.kind.SynKind.{SynKind}
use Rattle.c_syntax.specs.declared.kind.SynKind.TheVariants as kind
use Rattle.c_syntax.specs.declared.syntax.SynNode.{SynNode}
use Rattle.c_syntax.specs.Trees.{one}
use Rattle.c_typing.specs.Places.{Node, Scope, by_first_token, end_of, has_kid, in_scope, kind_at, node_at, nowhere, scope_at, scopes_of}
use Rattle.c_typing.specs.Names.{Tag, add_tag, inner_tag, innermost_tag, is_lone, tag_after, tag_of, tags_by, tags_from}
use Rattle.c_typing.specs.Declarators.{tag_names}
use Rattle.c_typing.proofs.ProgressKids.{tiled}
use Rattle.c_typing.proofs.ProgressPlaces.{within}
use Rattle.c_nodes.specs.Parents.{nodes_in, tree_in}
use Rattle.c_names.specs.Denoted.{places_in}
use Rattle.c_meanings.specs.declared.meanings.Meanings.{Meanings}
use Rattle.c_meanings.specs.Meanings.{IsReady, node_in}
use Rattle.c_meanings.proofs.MeaningLaws.{its_number}
use Rattle.c_declarator_rows.specs.Tagged.{HasRoom}

abbrev AllTags : (Tag → Type 0) → List Tag → Type 0
AllTags P [] = Unit {0}
AllTags P (e ∷ es) = P e × AllTags P es

abbrev OfTag : (Tag → Type 0) → Option Tag → Type 0
OfTag P None = Unit {0}
OfTag P (Some e) = P e

module _ (P : Tag → Type 0) where
  all_front : (xs ys : List Tag) → AllTags P xs → AllTags P ys → AllTags P (xs ++ ys)
  all_front [] ys h k = k
  all_front (x ∷ xs) ys h k = (h.0, all_front xs ys h.1 k)

  all_filtered : (test : Tag → Bool) (xs : List Tag) → AllTags P xs → AllTags P (filter test xs)
  all_filtered test [] h = tt
  all_filtered test (x ∷ xs) h = by (test x) (all_filtered test xs h.1)
    where
      by : (b : Bool) → AllTags P (filter test xs) → AllTags P (if b then x ∷ filter test xs else filter test xs)
      by true r = (h.0, r)
      by false r = r

  of_innermost : (best : Option Tag) (xs : List Tag) → OfTag P best → AllTags P xs → OfTag P (innermost_tag best xs)
  of_innermost best [] h k = h
  of_innermost best (x ∷ xs) h k = of_innermost (inner_tag best x) xs (by best h) k.1
    where
      by : (o : Option Tag) → OfTag P o → OfTag P (inner_tag o x)
      by None h = k.0
      by (Some a) h = cases (nat_le (end_of x.scope) (end_of a.scope))
        where
          cases : (b : Bool) → OfTag P (if b then Some x else Some a)
          cases true = k.0
          cases false = h

  of_found : (test : Tag → Bool) (xs : List Tag) → AllTags P xs → OfTag P (find test xs)
  of_found test [] h = tt
  of_found test (x ∷ xs) h = by (test x) (of_found test xs h.1)
    where
      by : (b : Bool) → OfTag P (find test xs) → OfTag P (if b then Some x else find test xs)
      by true r = h.0
      by false r = r

-- what it names is a node of the list
record Low (s : List Node) (e : Tag) : Type 0 where
  low : e.names < length s

module _ (s : List Node) (numbered : (n : ℕ) (m : Node) → slice_get s n ≡ Some m → m.id < length s) where
  pick : (b : Bool) (x y : Tag) → Low s x → Low s y → Low s (if b then x else y)
  pick true x y h k = h
  pick false x y h k = k

  after_low : (node : Node) (is_enum : Bool) (c : Scope) (declares : Bool) (o : Option Tag) → node.id < length s → OfTag (Low s) o → Low s (tag_after node is_enum c declares o)
  after_low node is_enum c declares None less h = record { low = less }
  after_low node is_enum c declares (Some e) less h = pick (declares && not (e.home == c.owner)) _ _ (record { low = less }) (record { low = h.low })

  added_low : (scopes : List Scope) (tags : List Tag) (node : Node) (is_enum : Bool) → node.id < length s → AllTags (Low s) tags → AllTags (Low s) (add_tag s scopes tags node is_enum)
  added_low scopes tags node is_enum less h = by (length node.label.text == 0)
    where
      declares : Bool
      declares = has_kid node 0 || (not is_enum && is_lone s node)

      earlier : List Tag
      earlier = filter (λ (e : Tag). bytes_eq e.text node.label.text && in_scope e.scope node.id) tags

      new : Tag
      new = tag_after node is_enum (scope_at scopes node.id) declares (innermost_tag None earlier)

      by : (b : Bool) → AllTags (Low s) (if b then tags else tags ++ new ∷ [])
      by true = h
      by false = all_front (Low s) tags (new ∷ []) h (after_low node is_enum (scope_at scopes node.id) declares (innermost_tag None earlier) less (of_innermost (Low s) None earlier tt (all_filtered (Low s) _ tags h)), tt)

  step_low : (scopes : List Scope) (tags : List Tag) (n : ℕ) → AllTags (Low s) tags → AllTags (Low s) (tags_by s scopes tags (node_at s n) (kind_at s n))
  step_low scopes tags n h = by (slice_get s n) refl
    where
      by : (o : Option Node) → slice_get s n ≡ o → AllTags (Low s) (tags_by s scopes tags (node_at s n) (kind_at s n))
      by None same = subst (λ (m : Node). AllTags (Low s) (tags_by s scopes tags m m.label.kind)) (sym (ap (λ o. unwrap_or o nowhere) same)) h
      by (Some m) same = subst (λ (m : Node). AllTags (Low s) (tags_by s scopes tags m m.label.kind)) (sym (ap (λ o. unwrap_or o nowhere) same)) (cases m.label.kind)
        where
          cases : (k : SynKind) → AllTags (Low s) (tags_by s scopes tags m k)
          cases kind.StructSpec = added_low scopes tags m false (numbered n m same) h
          cases kind.EnumSpec = added_low scopes tags m true (numbered n m same) h
          cases _ = h

  all_low : (scopes : List Scope) (tags : List Tag) (order : List ℕ) → AllTags (Low s) tags → AllTags (Low s) (tags_from s scopes tags order)
  all_low scopes tags [] h = h
  all_low scopes tags (n ∷ rest) h = all_low scopes (tags_by s scopes tags (node_at s n) (kind_at s n)) rest (step_low scopes tags n h)

-- there is a place for the struct that a node names
pub has_room : (table : List SynNode) (n low : ℕ) (m : Meanings) → IsReady table n low m → n < length table → HasRoom table n m
unfolding places_in nodes_in
has_room table n low m r inside =
    by (tag_of (places_in table) (node_in table n).id) (of_found (Low s) _ (places_in table).tags (all_low s ids (scopes_of s) [] (by_first_token 0 (one (tree_in table))) tt))
  where
    s : List Node
    s = nodes_in table

    ids : (i : ℕ) (x : Node) → slice_get s i ≡ Some x → x.id < length s
    ids i x at =
        let id = (tiled r.derived.tokens (tree_in table) r.derived.derived i x at).numbered in
        let w = within s i x at in
        omega (arith, id, w)

    by : (o : Option Tag) → OfTag (Low s) o → tag_names (node_in table n) o < length m.types.structs
    by None h =
        let id = its_number table n low m r inside in
        let room = r.room in
        omega (arith, id, room, inside)
    by (Some e) h =
        let nodes = r.nodes in
        let room = r.room in
        let low = h.low in
        omega (arith, low, nodes, room)
