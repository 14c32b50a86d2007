-- Hidden locals are among the locals of their function.
use Rattle.std.proofs.Common.{◌≡◌, ℕ, zero, suc, ◌+◌, ◌<◌, ◌≤◌, List, [], ◌∷◌, ◌++◌, length, map, drop, refl, sym, ap, ap₂, ◌∙◌, arith}
use Rattle.std.specs.Prelude.{sum}
use Rattle.std.specs.List.{fold}
use Rattle.c_typing.specs.Judgements.{Typing, expresses, Judgement, means, judgement_at, hidden_in}
use Rattle.c_typing.specs.Names.{Places}
use Rattle.c_typing.specs.Typing.{judgements_at}
use Rattle.c_typing.proofs.MadeJudged.{IsFront}

-- a longer front begins with a shorter one
longer_front : (xs ys more rest : List Judgement) → xs ++ more ≡ ys ++ rest → length xs < length ys → (j : Judgement) × (between : List Judgement) × (ys ≡ xs ++ (j ∷ between))
longer_front [] [] more rest e lt = absurd (omega (arith, lt))
longer_front [] (y ∷ ys) more rest e lt = (y, ys, refl)
longer_front (x ∷ xs) [] more rest e lt = absurd (omega (arith, lt))
longer_front (x ∷ xs) (y ∷ ys) more rest e lt =
    let head : x ≡ y = cc e in
    let tail : xs ++ more ≡ ys ++ rest = cc e in
    let r = longer_front xs ys more rest tail (omega (arith, lt)) in
    (r.0, r.1, ap₂ (λ a b. a ∷ b) (sym head) r.2)

at_next : (xs : List Judgement) (j : Judgement) (ys : List Judgement) → judgement_at (xs ++ (j ∷ ys)) (length xs) ≡ j
at_next [] j ys = refl
at_next (x ∷ xs) j ys = at_next xs j ys

front_again : (xs ys : List Judgement) (k : ℕ) → k < length xs → judgement_at (xs ++ ys) k ≡ judgement_at xs k
front_again [] ys k lt = absurd (omega (arith, lt))
front_again (x ∷ xs) ys zero lt = refl
front_again (x ∷ xs) ys (suc k) lt = front_again xs ys k (omega (arith, lt))

fold_from : (a : ℕ) (ns : List ℕ) → fold ◌+◌ a ns ≡ a + fold ◌+◌ 0 ns
fold_from a [] = omega arith
fold_from a (n ∷ ns) =
    let h = fold_from (a + n) ns in
    let g = fold_from (0 + n) ns in
    omega (arith, h, g)

sum_cons : (n : ℕ) (ns : List ℕ) → sum (n ∷ ns) ≡ n + sum ns
sum_cons n ns = let g = fold_from (0 + n) ns in omega (arith, g)

all_summed : (xs : List Judgement) (j : Judgement) (ys : List Judgement) → sum (map hidden_in (xs ++ (j ∷ ys))) ≡ sum (map hidden_in xs) + hidden_in j + sum (map hidden_in ys)
all_summed [] j ys =
    let whole = sum_cons (hidden_in j) (map hidden_in ys) in
    omega (arith, whole)
all_summed (x ∷ xs) j ys =
    let h = all_summed xs j ys in
    let whole = sum_cons (hidden_in x) (map hidden_in (xs ++ (j ∷ ys))) in
    let front = sum_cons (hidden_in x) (map hidden_in xs) in
    omega (arith, h, whole, front)

summed : (a : ℕ) (xs : List Judgement) (j : Judgement) (ys : List Judgement) → a ≤ length xs → sum (map hidden_in (drop a (xs ++ (j ∷ ys)))) ≡ sum (map hidden_in (drop a xs)) + hidden_in j + sum (map hidden_in ys)
summed zero xs j ys le = all_summed xs j ys
summed (suc a) [] j ys le = absurd (omega (arith, le))
summed (suc a) (x ∷ xs) j ys le = summed a xs j ys (omega (arith, le))

pub hidden_below : (p : Places) (a i h : ℕ) (x : Typing) (js fs : List Judgement) → IsFront p js → IsFront p fs → length js < length fs → a ≤ length js → judgement_at (judgements_at p) (length js) ≡ means (expresses x h) → i < h
    → sum (map hidden_in (drop a js)) + i < sum (map hidden_in (drop a fs))
hidden_below p a i h x js fs front ff lt le e small =
    let r = longer_front js fs front.0 ff.0 (sym front.1 ∙ ff.1) lt in
    let whole : fs ≡ js ++ (r.0 ∷ r.1) = r.2 in
    let own : r.0 ≡ means (expresses x h) =
    sym (at_next js r.0 r.1) ∙ (ap (λ q. judgement_at q (length js)) (sym whole) ∙ (sym (front_again fs ff.0 (length js) lt) ∙ (ap (λ q. judgement_at q (length js)) (sym ff.1) ∙ e))) in
    let all : sum (map hidden_in (drop a fs)) ≡ sum (map hidden_in (drop a js)) + hidden_in r.0 + sum (map hidden_in r.1) = ap (λ q. sum (map hidden_in (drop a q))) whole ∙ summed a js r.0 r.1 le in
    let count : hidden_in r.0 ≡ h = ap hidden_in own in
    omega (arith, all, count, small)
