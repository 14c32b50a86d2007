-- Each node declares one name at most: a name is the one that its node declares.
use Rattle.std.proofs.Common.{◌≡◌, ℕ, zero, suc, ◌+◌, ◌<◌, ◌≤◌, Bool, false, List, [], ◌∷◌, ◌++◌, Option, Some, None, refl, ap, ◌∙◌, subst, arith}
use Rattle.std.specs.Prelude.{slice_get, find, ◌==◌, if◌then◌else◌}
use Rattle.std.proofs.lemmas.Bool.Decides.{Decides-eqb, nat_tests}
use Rattle.c_syntax.specs.declared.kind.SynKind.{SynKind}
use Rattle.c_syntax.specs.declared.kind.SynKind.TheVariants as kind
use Rattle.c_typing.specs.Places.{Node, node_at, whole_declarator, Scope, scope_at, specs_of}
use Rattle.c_typing.specs.Names.{Entity, enumerator, Name, entity_by, declares_function, name_list, names_by, names_from}
use Rattle.c_typing.proofs.ProgressDeclared.{AllNames, all_front}

-- names of nodes one behind the other, from the node k on
abbrev pub InOrder : ℕ → List Name → Type 0
InOrder k [] = Unit {0}
InOrder k (e ∷ es) = (k ≤ e.node) × InOrder (suc e.node) es

order_from : (k : ℕ) (es : List Name) (j : ℕ) (e : Name) → InOrder k es → slice_get es j ≡ Some e → k ≤ e.node
order_from k [] j e h at = absurd (cc at)
order_from k (x ∷ es) zero e h at = same at
  where
    same : Some x ≡ Some e → k ≤ e.node
    same f = let equal : x ≡ e = cc f in subst (λ (y : Name). k ≤ y.node) equal h.0
order_from k (x ∷ es) (suc j) e h at = let later = order_from (suc x.node) es j e h.1 at in let own = h.0 in omega (arith, later, own)

pub found_itself : (k : ℕ) (es : List Name) (j : ℕ) (e : Name) → InOrder k es → slice_get es j ≡ Some e → find (λ a. a.node == e.node) es ≡ Some e
found_itself k [] j e h at = absurd (cc at)
found_itself k (x ∷ es) zero e h at = same at
  where
    same : Some x ≡ Some e → find (λ a. a.node == e.node) (x ∷ es) ≡ Some e
    same f =
        let equal : x ≡ e = cc f in
        ap (λ b. if b then Some x else find (λ a. a.node == e.node) es) ((Decides-eqb x.node e.node).1 (ap (λ (y : Name). y.node) equal)) ∙ ap (λ y. Some y) equal
found_itself k (x ∷ es) (suc j) e h at =
    let later = order_from (suc x.node) es j e h.1 at in
    ap (λ b. if b then Some x else find (λ a. a.node == e.node) es) (differ x.node e.node (omega (arith, later))) ∙ found_itself (suc x.node) es j e h.1 at
  where
    differ : (a b : ℕ) → a < b → (a == b) ≡ false
    differ a b lt = grind (arith, nat_tests, lt)

-- ---- the names of a unit

order_push : (k n : ℕ) (es xs : List Name) → InOrder k es → AllNames (λ a. a.node < n) es → k ≤ n → InOrder n xs → InOrder k (es ++ xs)
order_push k n [] xs h below le o = lower k n xs le o
  where
    lower : (k n : ℕ) (xs : List Name) → k ≤ n → InOrder n xs → InOrder k xs
    lower k n [] le o = tt
    lower k n (x ∷ xs) le o = let own = o.0 in (omega (arith, le, own), o.1)
order_push k n (e ∷ es) xs h below le o = let lt = below.0 in (h.0, order_push (suc e.node) n es xs h.1 below.1 (omega (arith, lt)) o)

below_more : (n m : ℕ) (es : List Name) → n ≤ m → AllNames (λ a. a.node < n) es → AllNames (λ a. a.node < m) es
below_more n m [] le h = tt
below_more n m (e ∷ es) le h = let lt = h.0 in (omega (arith, lt, le), below_more n m es le h.1)

-- what one node declares
record OneName (k : ℕ) (es : List Name) : Type 0 where
  order : InOrder k es
  below : AllNames (λ a. a.node < suc k) es

one_listed : (k : ℕ) (node whole : Node) (c : Scope) (f : Bool) (o : Option Entity) → node.id ≡ k → OneName k (name_list node whole c f o)
one_listed k node whole c f None same = record { order = tt; below = tt }
one_listed k node whole c f (Some x) same = record { order = (omega (arith, same), tt); below = (omega (arith, same), tt) }

one_name : (s : List Node) (scopes : List Scope) (names : List Name) (node : Node) (k : ℕ) (kd : SynKind) → node.id ≡ k → OneName k (names_by s scopes names node kd)
one_name s scopes names node k kind.Ident same =
    let whole = whole_declarator s node.id in
    let owner = node_at s whole.parent in
    let specs = specs_of s owner in
    let c = scope_at scopes node.id in
    let f = declares_function s names node.id specs in
    one_listed k node whole c f (entity_by s owner specs c f owner.label.kind) same
one_name s scopes names node k kind.Enumer same = one_listed k node node (scope_at scopes node.id) false (Some enumerator) same
one_name s scopes names node k _ same = record { order = tt; below = tt }

pub in_order : (s : List Node) (scopes : List Scope) (names : List Name) (rest : List Node) (k : ℕ) → ((j : ℕ) (m : Node) → slice_get rest j ≡ Some m → m.id ≡ k + j)
    → InOrder 0 names → AllNames (λ a. a.node < k) names → InOrder 0 (names_from s scopes names rest)
in_order s scopes names [] k ids h below = h
in_order s scopes names (node ∷ rest) k ids h below =
    let own = ids 0 node refl in
    let x = one_name s scopes names node k node.label.kind (omega (arith, own)) in
    in_order s scopes (names ++ names_by s scopes names node node.label.kind) rest (suc k) (λ j m at. let id = ids (suc j) m at in omega (arith, id))
    (order_push 0 k names _ h below (omega arith) x.order) (all_front (λ a. a.node < suc k) names _ (below_more k (suc k) names (omega arith) below) x.below)
