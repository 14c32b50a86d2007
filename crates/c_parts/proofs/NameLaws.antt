-- The names behind a node that declares nothing of its own.
use Rattle.std.proofs.Common.{◌≡◌, ℕ, Bool, true, false, List, [], ◌∷◌, ◌++◌, refl, sym, ap, ◌∙◌, append_assoc, true≢false}
use Rattle.std.proofs.lemmas.List.{append-nil}
use Rattle.c_syntax.specs.declared.kind.SynKind.{SynKind}
use Rattle.c_syntax.specs.declared.kind.SynKind.TheVariants as kind
use Rattle.c_syntax.specs.Trees.{Tree, Forest, none, ◌then◌, one, two, three, text_node, string_node, constant_node, forest_of}
use Rattle.c_grammar.specs.Scopes.{Names, Entry, add, after, entries, entries_by, entries_behind, first_entries, later_entries, declares_types}
use Rattle.c_parts.specs.Nodes.{leaves_names, declares_nothing}

-- ---- names and more names

pub add_nothing : (names : Names) → add names [] ≡ names
add_nothing [] = refl
add_nothing (scope ∷ outer) = ap (λ (s : List Entry). s ∷ outer) (append-nil scope)

pub add_joined : (names : Names) (a b : List Entry) → add (add names a) b ≡ add names (a ++ b)
add_joined [] a b = refl
add_joined (scope ∷ outer) a b = ap (λ (s : List Entry). s ∷ outer) (append_assoc scope a b)

-- ---- what a node declares

node_entries : (k : SynKind) (text : List ℕ) (kids : Forest) (flag : Bool) → declares_nothing k ≡ true
    → entries_by k text flag kids (first_entries (declares_types k kids) kids) (later_entries (declares_types k kids) kids) ≡ entries_behind false kids
node_entries kind.Block text kids flag e = absurd (true≢false (sym e))
node_entries kind.For text kids flag e = absurd (true≢false (sym e))
node_entries kind.Switch text kids flag e = absurd (true≢false (sym e))
node_entries kind.Param text kids flag e = absurd (true≢false (sym e))
node_entries kind.Enumer text kids flag e = absurd (true≢false (sym e))
node_entries kind.InitDecl text kids flag e = absurd (true≢false (sym e))
node_entries kind.Function text kids flag e = absurd (true≢false (sym e))
node_entries kind.Declaration text kids flag e = absurd (true≢false (sym e))
node_entries other text kids flag e = refl

pub entries_node : (k : SynKind) (text : List ℕ) (start : ℕ) (kids : Forest) → declares_nothing k ≡ true → entries (text_node k text start kids) ≡ entries_behind false kids
entries_node k text start kids e = append-nil _ ∙ node_entries k text kids false e

-- a tree and others behind it
pub entries_then : (flag : Bool) (t : Tree) (ts : Forest) → entries_behind flag (t then ts) ≡ entries_behind flag (one t) ++ entries_behind flag ts
entries_then flag t ts = ap (λ (x : List Entry). x ++ entries_behind flag ts) (sym (append-nil _))

pub entries_append : (flag : Bool) (a b : List Tree) → entries_behind flag (forest_of (a ++ b)) ≡ entries_behind flag (forest_of a) ++ entries_behind flag (forest_of b)
entries_append flag [] b = refl
entries_append flag (t ∷ a) b =
    let e = entries_append flag a b in
    entries_then flag t (forest_of (a ++ b)) ∙ ap (λ (x : List Entry). entries_behind flag (one t) ++ x) e
    ∙ sym (append_assoc (entries_behind flag (one t)) _ _) ∙ ap (λ (x : List Entry). x ++ entries_behind flag (forest_of b)) (sym (entries_then flag t (forest_of a)))

pub entries_more : (flag : Bool) (a : List Tree) (t : Tree) → entries_behind flag (forest_of (a ++ (t ∷ []))) ≡ entries_behind flag (forest_of a) ++ entries_behind flag (one t)
entries_more flag a t = entries_append flag a (t ∷ [])

-- ---- the names behind a node

pub after_node : (names : Names) (k : SynKind) (text : List ℕ) (start : ℕ) (kids : Forest) → declares_nothing k ≡ true → after names (text_node k text start kids) ≡ add names (entries_behind false kids)
after_node names k text start kids e = ap (add names) (entries_node k text start kids e)

pub after_none : (names : Names) (k : SynKind) (text : List ℕ) (start : ℕ) → declares_nothing k ≡ true → after names (text_node k text start none) ≡ names
after_none names k text start e = after_node names k text start none e ∙ add_nothing names

pub after_one : (names : Names) (k : SynKind) (text : List ℕ) (start : ℕ) (x : Tree) → declares_nothing k ≡ true → after names (text_node k text start (one x)) ≡ after names x
after_one names k text start x e = after_node names k text start (one x) e

pub after_row : (names : Names) (k : SynKind) (text : List ℕ) (start : ℕ) (x : Tree) (ts : Forest) → declares_nothing k ≡ true → after names (text_node k text start (x then ts)) ≡ add (after names x) (entries_behind false ts)
after_row names k text start x ts e = after_node names k text start (x then ts) e ∙ ap (add names) (entries_then false x ts) ∙ sym (add_joined names (entries x) (entries_behind false ts))

pub after_two : (names : Names) (k : SynKind) (text : List ℕ) (start : ℕ) (x y : Tree) → declares_nothing k ≡ true → after names (text_node k text start (two x y)) ≡ after (after names x) y
after_two names k text start x y e = after_row names k text start x (one y) e

pub after_three : (names : Names) (k : SynKind) (text : List ℕ) (start : ℕ) (x y z : Tree) → declares_nothing k ≡ true → after names (text_node k text start (three x y z)) ≡ after (after (after names x) y) z
after_three names k text start x y z e =
    after_row names k text start x (two y z) e ∙ ap (add (after names x)) (entries_then false y (one z)) ∙ sym (add_joined (after names x) (entries y) (entries z))

constant_entries : (k : SynKind) → leaves_names k ≡ true → entries_by k [] false none [] [] ≡ []
constant_entries kind.Enumer e = absurd (true≢false (sym e))
constant_entries kind.InitDecl e = absurd (true≢false (sym e))
constant_entries kind.Function e = absurd (true≢false (sym e))
constant_entries other e = refl

pub after_constant : (names : Names) (k : SynKind) (value start : ℕ) → leaves_names k ≡ true → after names (constant_node k value start) ≡ names
after_constant names k value start e = ap (λ (x : List Entry). add names (x ++ [])) (constant_entries k e) ∙ add_nothing names

pub after_string : (names : Names) (bytes : List ℕ) (start : ℕ) → after names (string_node bytes start) ≡ names
after_string names bytes start = add_nothing names
