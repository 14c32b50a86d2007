-- The function that a node stands in is the innermost function around it.
use Rattle.std.proofs.Common.{◌≡◌, ℕ, ◌<◌, Bool, true, false, ◌&&◌, cond, List, [], ◌∷◌, length, drop, Option, Some, None, refl, sym, ap, ◌∙◌, subst, unwrap_or, get_or}
use Rattle.std.specs.Prelude.{filter, find, nat_le}
use Rattle.c_syntax.specs.declared.syntax.SynId.{SynId}
use Rattle.c_syntax.specs.declared.syntax.SynNode.{SynNode}
use Rattle.c_typing.specs.Places.{Node, around, holds, is_function, node_at, nowhere, numbers, own_takes}
use Rattle.c_typing.specs.Names.{parameters_of}
use Rattle.c_nodes.specs.declared.around.Kinds.TheVariants as kinds
use Rattle.c_nodes.specs.Around.{AreAround}
use Rattle.c_nodes.specs.Parents.{nodes_in}
use Rattle.c_nodes.specs.Declarators.{Points}
use Rattle.c_names.specs.Denoted.{places_in}
use Rattle.c_locals.specs.Locals.{AreOwners}

find_filter : {A : Type 0} (test other whole : A → Bool) (xs : List A) → ((x : A) → whole x ≡ (test x && other x)) → find other (filter test xs) ≡ find whole xs
find_filter test other whole [] same = refl
find_filter {A} test other whole (x ∷ xs) same = by (test x) refl (find_filter test other whole xs same)
  where
    by : (b : Bool) → test x ≡ b → find other (filter test xs) ≡ find whole xs → find other (cond b (x ∷ filter test xs) (filter test xs)) ≡ cond (whole x) (Some x) (find whole xs)
    by true e more = ap (λ o. cond (other x) (Some x) o) more ∙ sym (ap (λ b. cond b (Some x) (find whole xs)) (same x ∙ ap (λ b. b && other x) e))
    by false e more = more ∙ sym (ap (λ b. cond b (Some x) (find whole xs)) (same x ∙ ap (λ b. b && other x) e))

once : (p q r : Bool) → (p && q) && (r && p) ≡ q && (r && p)
once true q r = refl
once false true true = refl
once false true false = refl
once false false r = refl

functions_are : (s : List Node) (i : ℕ) → find (λ f. holds f i) (filter (λ (node : Node). is_function node.label.kind) s) ≡ around (λ (node : Node). is_function node.label.kind) s i
functions_are s i =
    find_filter (λ (node : Node). is_function node.label.kind) (λ f. holds f i) (λ (node : Node). nat_le i node.id && is_function node.label.kind && holds node i) s
    (λ x. once (nat_le i x.id) (is_function x.label.kind) (nat_le x.first i))

nowhere_past : (s : List Node) (n : ℕ) → n ≡ length s → node_at s n ≡ nowhere
nowhere_past s n e = ap (node_at s) e ∙ at_end s
  where
    at_end : (xs : List Node) → node_at xs (length xs) ≡ nowhere
    at_end [] = refl
    at_end (x ∷ xs) = at_end xs

pub owners_are : (table : List SynNode) (found : List ℕ) → AreAround kinds.Function table found → AreOwners table found
unfolding places_in nodes_in
owners_are table found a = record {
  long = a.long;
  nodes = a.nodes;
  points = points;
  are = λ i within. by (find (λ f. holds f i) (places_in table).functions) (get_or found i 0) (points i within);
}
  where
    points : (i : ℕ) → i < length table → Points (nodes_in table) (get_or found i 0) (find (λ f. holds f i) (places_in table).functions)
    points i within = subst (Points (nodes_in table) (get_or found i 0)) (sym (functions_are (nodes_in table) i)) (a.points i within)

    by : (o : Option Node) (n : ℕ) → Points (nodes_in table) n o → unwrap_or o nowhere ≡ node_at (nodes_in table) n
    by None n e = sym (nowhere_past (nodes_in table) n e)
    by (Some f) n e = sym e.1

-- ---- parameters

pub parameters_are : (table : List SynNode) (function : Node) (takes : ℕ) (kids rest : List SynId) → own_takes (nodes_in table) function ≡ Some (node_at (nodes_in table) takes)
    → numbers kids ≡ (node_at (nodes_in table) takes).kids → rest ≡ drop 1 kids → numbers rest ≡ parameters_of (places_in table) function
unfolding places_in nodes_in
parameters_are table function takes kids rest is ids but =
    ap numbers but ∙ (behind kids ∙ (ap (drop 1) ids ∙ sym (ap (λ o. unwrap_or (parts o) []) is)))
  where
    behind : (kids : List SynId) → numbers (drop 1 kids) ≡ drop 1 (numbers kids)
    behind [] = refl
    behind (k ∷ ks) = refl

    parts : Option Node → Option (List ℕ)
    parts None = None
    parts (Some node) = Some (drop 1 node.kids)

pub no_parameters : (table : List SynNode) (function : Node) → own_takes (nodes_in table) function ≡ None → parameters_of (places_in table) function ≡ []
unfolding places_in nodes_in
no_parameters table function is = rw is refl
