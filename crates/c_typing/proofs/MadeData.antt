-- The data of a unit whose ends are within the limit fit.
use Rattle.std.proofs.Common.{◌≡◌, ℕ, suc, ◌+◌, ◌≤◌, Bool, List, [], ◌∷◌, ◌++◌, length, map, refl, ap, arith, length-append}
use Rattle.std.specs.Prelude.{nat_lt}
use Rattle.c_types.specs.declared.kind.Measure.{Measure}
use Rattle.c_types.specs.declared.kind.TheConstants.{MAX_SIZE}
use Rattle.c_types.specs.InOrder.{least_multiple, offsets_from, end_from}
use Rattle.c_types.specs.Placing.{measure_of, measures_of, data_size}
use Rattle.c_typing.specs.Places.{Node}
use Rattle.c_typing.specs.Names.{Places, Name, objects_of}
use Rattle.c_typing.specs.Judgements.{Judgement}
use Rattle.c_typing.specs.Rules.{size_fault}
use Rattle.c_typing.specs.Typing.{data_of, data_nodes, data_faults, end_faults, object_of, literals_of, literal_object}

front_empty : {A : Type 0} (xs ys : List A) → xs ++ ys ≡ [] → xs ≡ []
front_empty [] ys e = refl
front_empty (x ∷ xs) ys e = absurd (cc e)

back_empty : {A : Type 0} (xs ys : List A) → xs ++ ys ≡ [] → ys ≡ []
back_empty [] ys e = e
back_empty (x ∷ xs) ys e = absurd (cc e)

within : (size n : ℕ) → size_fault size n ≡ [] → size ≤ MAX_SIZE
within size n e = by (nat_lt MAX_SIZE size) refl e
  where
    by : (b : Bool) → nat_lt MAX_SIZE size ≡ b → size_fault size n ≡ [] → size ≤ MAX_SIZE
    by b h g = grind arith

ends_within : (end : ℕ) (ms : List Measure) (ns : List ℕ) → length ms ≡ length ns → end ≤ MAX_SIZE → end_faults (offsets_from end ms) ms ns ≡ [] → end_from end ms ≤ MAX_SIZE
ends_within end [] ns long low e = low
ends_within end (m ∷ ms) [] long low e = absurd (omega (arith, long))
ends_within end (m ∷ ms) (n ∷ ns) long low e =
    let at = least_multiple m.align end in
    ends_within (at + m.size) ms ns (omega (arith, long)) (within (at + m.size) n (front_empty (size_fault (at + m.size) n) (end_faults (offsets_from (at + m.size) ms) ms ns) e))
    (back_empty (size_fault (at + m.size) n) (end_faults (offsets_from (at + m.size) ms) ms ns) e)

length-map : {A B : Type 0} (f : A → B) (xs : List A) → length (map f xs) ≡ length xs
length-map f [] = refl
length-map f (x ∷ xs) = ap suc (length-map f xs)

data_long : (p : Places) (js : List Judgement) → length (measures_of (data_of p js)) ≡ length (data_nodes p js)
data_long p js =
    let a = length-map measure_of (data_of p js) in
    let b = length-append (map (object_of p js) (objects_of p)) (map (λ (n : Node). literal_object n.label.bytes) (literals_of p js)) in
    let c = length-map (object_of p js) (objects_of p) in
    let d = length-map (λ (n : Node). literal_object n.label.bytes) (literals_of p js) in
    let g = length-append (map (λ (e : Name). e.behind) (objects_of p)) (map (λ (n : Node). n.id) (literals_of p js)) in
    let h = length-map (λ (e : Name). e.behind) (objects_of p) in
    let i = length-map (λ (n : Node). n.id) (literals_of p js) in
    omega (arith, a, b, c, d, g, h, i)

pub data_fits : (p : Places) (js : List Judgement) → data_faults p js ≡ [] → data_size (data_of p js) ≤ MAX_SIZE
data_fits p js e = ends_within 0 (measures_of (data_of p js)) (data_nodes p js) (data_long p js) (omega arith) e
