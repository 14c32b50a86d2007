-- Laws of trees, their sizes and their tables.
use Rattle.std.proofs.Common.{◌≡◌, ℕ, ◌+◌, List, [], ◌∷◌, ◌++◌, length, refl, sym, ap, ◌∙◌, arith, append_assoc, length-append}
use Rattle.std.specs.Prelude.{reverse}
use Rattle.std.proofs.lemmas.List.{length-reverse}
use Rattle.c_syntax.specs.declared.syntax.SynId.{SynId}
use Rattle.c_syntax.specs.Trees.{Tree, Forest, none, tree, ◌then◌, forest_of, count}
use Rattle.c_syntax.specs.Tables.{size, roots, nodes, node_of, firsts}

-- ---- forests one after another

abbrev pub joined : Forest → Forest → Forest
joined none g = g
joined (tree label kids rest) g = tree label kids (joined rest g)

pub forest_of-append : (ts us : List Tree) → forest_of (ts ++ us) ≡ joined (forest_of ts) (forest_of us)
forest_of-append [] us = refl
forest_of-append (t ∷ ts) us = ap (λ f. t then f) (forest_of-append ts us)

pub size-joined : (f g : Forest) → size (joined f g) ≡ size f + size g
size-joined none g = omega arith
size-joined (tree label kids rest) g = let more = size-joined rest g in omega (arith, more)

pub roots-joined : (first : ℕ) (f g : Forest) → roots first (joined f g) ≡ roots first f ++ roots (first + size f) g
roots-joined first none g = ap (λ n. roots n g) (omega arith)
roots-joined first (tree label kids rest) g =
    let id : SynId = record { number = first + size kids } in
    ap (λ ids. id ∷ ids) (roots-joined (first + size kids + 1) rest g
    ∙ ap (λ n. roots (first + size kids + 1) rest ++ roots n g) (omega arith))

pub nodes-joined : (first : ℕ) (f g : Forest) → nodes first (joined f g) ≡ nodes first f ++ nodes (first + size f) g
nodes-joined first none g = ap (λ n. nodes n g) (omega arith)
nodes-joined first (tree label kids rest) g =
    let own = node_of label (roots first kids) in
    ap (λ ns. nodes first kids ++ (own ∷ ns)) (nodes-joined (first + size kids + 1) rest g
    ∙ ap (λ n. nodes (first + size kids + 1) rest ++ nodes n g) (omega arith))
    ∙ sym (append_assoc (nodes first kids) (own ∷ nodes (first + size kids + 1) rest) (nodes (first + size (tree label kids rest)) g))

pub firsts-joined : (first : ℕ) (f g : Forest) → firsts first (joined f g) ≡ firsts first f ++ firsts (first + size f) g
firsts-joined first none g = ap (λ n. firsts n g) (omega arith)
firsts-joined first (tree label kids rest) g =
    ap (λ ns. firsts first kids ++ (first ∷ ns)) (firsts-joined (first + size kids + 1) rest g
    ∙ ap (λ n. firsts (first + size kids + 1) rest ++ firsts n g) (omega arith))
    ∙ sym (append_assoc (firsts first kids) (first ∷ firsts (first + size kids + 1) rest) (firsts (first + size (tree label kids rest)) g))

-- ---- how many they are

pub length-nodes : (first : ℕ) (f : Forest) → length (nodes first f) ≡ size f
length-nodes first none = refl
length-nodes first (tree label kids rest) =
    let below = length-nodes first kids in
    let more = length-nodes (first + size kids + 1) rest in
    let whole = length-append (nodes first kids) (node_of label (roots first kids) ∷ nodes (first + size kids + 1) rest) in
    omega (arith, below, more, whole)

pub length-firsts : (first : ℕ) (f : Forest) → length (firsts first f) ≡ size f
length-firsts first none = refl
length-firsts first (tree label kids rest) =
    let below = length-firsts first kids in
    let more = length-firsts (first + size kids + 1) rest in
    let whole = length-append (firsts first kids) (first ∷ firsts (first + size kids + 1) rest) in
    omega (arith, below, more, whole)

pub length-roots : (first : ℕ) (f : Forest) → length (roots first f) ≡ count f
length-roots first none = refl
length-roots first (tree label kids rest) = let more = length-roots (first + size kids + 1) rest in omega (arith, more)

pub count-forest_of : (ts : List Tree) → count (forest_of ts) ≡ length ts
count-forest_of [] = refl
count-forest_of (t ∷ ts) = let more = count-forest_of ts in omega (arith, more)

-- the trees on a stack, by the ids of their roots
pub length-stack : (first : ℕ) (stack : List Tree) → length (roots first (forest_of (reverse stack))) ≡ length stack
length-stack first stack = length-roots first (forest_of (reverse stack)) ∙ count-forest_of (reverse stack) ∙ length-reverse stack
