-- What is printed item by item.
use Rattle.std.proofs.Common.{◌≡◌, ℕ, ◌+◌, ◌<◌, ◌≤◌, List, [], ◌∷◌, ◌++◌, length, take, map, get_or, refl, sym, ap, ◌∙◌}
use Rattle.std.proofs.lemmas.List.{take_all, take_more, flat_map_more}
use Rattle.std.specs.List.{flat_map}

pub one_more : {X : Type 0} (f : X → List ℕ) (first out after : List ℕ) (list : List X) (i : ℕ) (x d : X) → i < length list → x ≡ get_or list i d
    → out ≡ first ++ flat_map f (take i list) → after ≡ out ++ f x → after ≡ first ++ flat_map f (take (i + 1) list)
one_more f first out after list i x d h read was now =
    now
    ∙ ap (λ o. o ++ f x) was
    ∙ flat_map_more f first (take i list) x
    ∙ ap (λ y. first ++ flat_map f (take i list ++ y ∷ [])) read
    ∙ sym (ap (λ l. first ++ flat_map f l) (take_more list i d h))

-- the same where what is printed is a number of the item
pub mapped : {X Y : Type 0} (f : Y → List ℕ) (v : X → Y) (list : List X) → flat_map (λ x. f (v x)) list ≡ flat_map f (map v list)
mapped f v [] = refl
mapped f v (x ∷ list) = ap (λ l. f (v x) ++ l) (mapped f v list)

pub all_mapped : {X Y : Type 0} (f : Y → List ℕ) (v : X → Y) (first out : List ℕ) (list : List X) (all : List Y) (i : ℕ) → length list ≤ i → map v list ≡ all
    → out ≡ first ++ flat_map (λ x. f (v x)) (take i list) → out ≡ first ++ flat_map f all
all_mapped f v first out list all i done is was =
    was ∙ ap (λ l. first ++ flat_map (λ x. f (v x)) l) (take_all i list done) ∙ ap (λ l. first ++ l) (mapped f v list) ∙ ap (λ l. first ++ flat_map f l) is
