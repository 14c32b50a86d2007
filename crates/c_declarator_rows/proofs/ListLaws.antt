-- Several parts, each of which has to be there.
use Rattle.std.proofs.Common.{◌≡◌, ℕ, zero, suc, ◌+◌, ◌<◌, ◌≤◌, true, List, [], ◌∷◌, ◌++◌, length, Option, Some, None, refl, sym, ap, ◌∙◌, arith, get_or, append_assoc, append-nil, take}
use Rattle.std.specs.Prelude.{flat_map, map, slice_get}
use Rattle.std.specs.Option.{is_some}
use Rattle.std.proofs.lemmas.Bool.{false≢true}
use Rattle.c_syntax.specs.declared.syntax.SynId.{SynId}
use Rattle.c_typing.specs.Places.{numbers}
use Rattle.c_typing.specs.Judgements.{all_of, before}

-- one of them is not there
pub all_none : {A : Type 0} (os : List (Option A)) (i : ℕ) → slice_get os i ≡ Some None → all_of os ≡ None
all_none [] i e = absurd (cc e)
all_none (None ∷ os) i e = refl
all_none (Some a ∷ os) zero e = absurd (cc e)
all_none (Some a ∷ os) (suc i) e = ap (before a) (all_none os i e)

-- one more is there
pub all_more : {A : Type 0} (os : List (Option A)) (i : ℕ) (those : List A) (a : A) → all_of (take i os) ≡ Some those → slice_get os i ≡ Some (Some a) → all_of (take (suc i) os) ≡ Some (those ++ a ∷ [])
all_more [] i those a e at = absurd (cc at)
all_more (o ∷ os) zero those a e at =
    let here : o ≡ Some a = cc at in
    let none : [] ≡ those = cc e in
    ap (λ p. all_of (p ∷ [])) here ∙ ap (λ xs. Some (xs ++ a ∷ [])) none
all_more (None ∷ os) (suc i) those a e at = absurd (cc e)
all_more {A} (Some b ∷ os) (suc i) those a e at = by (all_of (take i os)) refl e (λ others g. all_more os i others a g at)
  where
    by : (p : Option (List A)) → all_of (take i os) ≡ p → before b p ≡ Some those → ((others : List A) → all_of (take i os) ≡ Some others → all_of (take (suc i) os) ≡ Some (others ++ a ∷ [])) → before b (all_of (take (suc i) os)) ≡ Some (those ++ a ∷ [])
    by None g h more = absurd (cc h)
    by (Some others) g h more =
        let same : b ∷ others ≡ those = cc h in
        ap (before b) (more others g) ∙ ap (λ xs. Some (xs ++ a ∷ [])) same

pub all_next : {A : Type 0} (os : List (Option A)) (i : ℕ) (those : List A) (a : A) → all_of (take i os) ≡ Some those → slice_get os i ≡ Some (Some a) → all_of (take (i + 1) os) ≡ Some (those ++ a ∷ [])
all_next os i those a e at = let same : i + 1 ≡ suc i = omega arith in ap (λ k. all_of (take k os)) same ∙ all_more os i those a e at

numbers_more : (kids : List SynId) (i : ℕ) (d : SynId) → i < length kids → take (suc i) (numbers kids) ≡ take i (numbers kids) ++ (get_or kids i d).number ∷ []
numbers_more [] i d within = absurd (omega (arith, within))
numbers_more (kid ∷ kids) zero d within = refl
numbers_more (kid ∷ kids) (suc i) d within = ap (λ ns. kid.number ∷ ns) (numbers_more kids i d (omega (arith, within)))

pub numbers_next : (kids : List SynId) (i : ℕ) (d : SynId) → i < length kids → take (i + 1) (numbers kids) ≡ take i (numbers kids) ++ (get_or kids i d).number ∷ []
numbers_next kids i d within = let same : i + 1 ≡ suc i = omega arith in ap (λ k. take k (numbers kids)) same ∙ numbers_more kids i d within

-- what is asked of the kid at this index
pub kid_asked : {A : Type 0} (f : ℕ → A) (kids : List SynId) (i : ℕ) (d : SynId) → i < length kids → slice_get (map f (numbers kids)) i ≡ Some (f (get_or kids i d).number)
kid_asked f [] i d within = absurd (omega (arith, within))
kid_asked f (kid ∷ kids) zero d within = refl
kid_asked f (kid ∷ kids) (suc i) d within = kid_asked f kids i d (omega (arith, within))

pub flat_more : {A : Type 0} (xss : List (List A)) (xs : List A) → flat_map (λ ys. ys) (xss ++ xs ∷ []) ≡ flat_map (λ ys. ys) xss ++ xs
flat_more [] xs = append-nil xs
flat_more (ys ∷ xss) xs = ap (λ zs. ys ++ zs) (flat_more xss xs) ∙ sym (append_assoc ys (flat_map (λ ys. ys) xss) xs)

-- a kid of this index is there
pub kids_long : (ns : List ℕ) (i : ℕ) → is_some (slice_get ns i) ≡ true → suc i ≤ length ns
kids_long [] i e = absurd (false≢true e)
kids_long (n ∷ ns) zero e = omega arith
kids_long (n ∷ ns) (suc i) e = let h = kids_long ns i e in omega (arith, h)
