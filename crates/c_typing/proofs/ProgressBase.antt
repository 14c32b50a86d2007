-- Judgements in their order, and what is left where no rule is broken.
use Rattle.std.proofs.Common.{◌≡◌, ℕ, zero, suc, ◌+◌, ◌<◌, Bool, true, List, [], ◌∷◌, ◌++◌, length, Option, Some, refl, sym, ap, ap₂, ◌∙◌, subst, arith, append_assoc, length-append}
use Rattle.std.specs.Prelude.{slice_get, unwrap_or, take}
use Rattle.c_typing.specs.Places.{Node}
use Rattle.c_typing.specs.Names.{Places}
use Rattle.c_typing.specs.Judgements.{Fault, Meaning, Judgement, means, breaks_rules, waits, verdict, besides, given, before, all_of, judgement_at, faults_in}
use Rattle.c_typing.specs.Typing.{judged_by, judged_from}

-- ---- lists

pub at_seam : {A : Type 0} (xs : List A) (y : A) (ys : List A) → slice_get (xs ++ y ∷ ys) (length xs) ≡ Some y
at_seam [] y ys = refl
at_seam (x ∷ xs) y ys = at_seam xs y ys

pub take_front : {A : Type 0} (xs ys : List A) → take (length xs) (xs ++ ys) ≡ xs
take_front [] [] = refl
take_front [] (y ∷ ys) = refl
take_front (x ∷ xs) ys = ap (λ rest. x ∷ rest) (take_front xs ys)

pub in_take : {A : Type 0} (n : ℕ) (xs : List A) (k : ℕ) → k < n → slice_get (take n xs) k ≡ slice_get xs k
in_take zero xs k lt = absurd (omega (arith, lt))
in_take (suc n) [] k lt = refl
in_take (suc n) (x ∷ xs) zero lt = refl
in_take (suc n) (x ∷ xs) (suc k) lt = in_take n xs k (omega (arith, lt))

pub some_same : {A : Type 0} {x y : A} → Some x ≡ Some y → x ≡ y
some_same e = cc e

-- ---- the judgement of a node is made of those before it

module _ (p : Places) where
  tail_from : List Judgement → List Node → List Judgement
  tail_from js [] = []
  tail_from js (node ∷ rest) = let j = judged_by p js node node.label.kind in j ∷ tail_from (js ++ j ∷ []) rest

  front_kept : (js : List Judgement) (ns : List Node) → judged_from p js ns ≡ js ++ tail_from js ns
  unfolding tail_from judged_from
  front_kept js [] = sym (append_nil js)
    where
      append_nil : (xs : List Judgement) → xs ++ [] ≡ xs
      append_nil [] = refl
      append_nil (x ∷ xs) = ap (λ rest. x ∷ rest) (append_nil xs)
  front_kept js (node ∷ rest) =
      let j = judged_by p js node node.label.kind in
      front_kept (js ++ j ∷ []) rest ∙ append_assoc js (j ∷ []) (tail_from (js ++ j ∷ []) rest)

  judged_at_from : (js : List Judgement) (ns : List Node) (n : ℕ) (m : Node) → slice_get ns n ≡ Some m
      → slice_get (judged_from p js ns) (length js + n) ≡ Some (judged_by p (take (length js + n) (judged_from p js ns)) m m.label.kind)
  unfolding judged_from
  judged_at_from js [] n m e = absurd (cc e)
  judged_at_from js (node ∷ rest) zero m e =
      let j = judged_by p js node node.label.kind in
      let all = judged_from p (js ++ j ∷ []) rest in
      let are : all ≡ js ++ (j ∷ tail_from (js ++ j ∷ []) rest) = front_kept (js ++ j ∷ []) rest ∙ append_assoc js (j ∷ []) (tail_from (js ++ j ∷ []) rest) in
      let here : length js + 0 ≡ length js = omega arith in
      let front : take (length js + 0) all ≡ js = ap₂ take here are ∙ take_front js (j ∷ tail_from (js ++ j ∷ []) rest) in
      let same : node ≡ m = some_same e in
      ap₂ slice_get are here ∙ at_seam js j (tail_from (js ++ j ∷ []) rest)
      ∙ ap₂ (λ (ks : List Judgement) (k : Node). Some (judged_by p ks k k.label.kind)) (sym front) same
  judged_at_from js (node ∷ rest) (suc n) m e =
      let j = judged_by p js node node.label.kind in
      let all = judged_from p (js ++ j ∷ []) rest in
      let long : length (js ++ j ∷ []) + n ≡ length js + suc n = let l = length-append js (j ∷ []) in omega (arith, l) in
      subst (λ k. slice_get all k ≡ Some (judged_by p (take k all) m m.label.kind)) long (judged_at_from (js ++ j ∷ []) rest n m e)

  pub judged_at : (ns : List Node) (n : ℕ) (m : Node) → slice_get ns n ≡ Some m
      → judgement_at (judged_from p [] ns) n ≡ judged_by p (take n (judged_from p [] ns)) m m.label.kind
  judged_at ns n m e =
      let all = judged_from p [] ns in
      let here : 0 + n ≡ n = omega arith in
      ap (λ o. unwrap_or o waits) (subst (λ k. slice_get all k ≡ Some (judged_by p (take k all) m m.label.kind)) here (judged_at_from [] ns n m e))

pub earlier_at : (js : List Judgement) (n k : ℕ) → k < n → judgement_at (take n js) k ≡ judgement_at js k
earlier_at js n k lt = ap (λ o. unwrap_or o waits) (in_take n js k lt)

-- ---- where no rule is broken

-- no rule is broken there
abbrev pub Calm : Judgement → Type 0
Calm j = faults_in j ≡ []

-- where no rule is broken there, it passes the test
pub record Settles (test : Judgement → Bool) (j : Judgement) : Type 0 where
  pub passes : Calm j → test j ≡ true

pub settled : (test : Judgement → Bool) (j : Judgement) → test j ≡ true → Settles test j
settled test j e = record { passes = λ c. e }

pub verdict_settles : (test : Judgement → Bool) (fs : List Fault) (m : Meaning) → test (means m) ≡ true → Settles test (verdict fs m)
verdict_settles test [] m e = record { passes = λ c. e }
verdict_settles test (f ∷ fs) m e = record { passes = λ c. absurd (cc c) }

pub besides_settles : (test : Judgement → Bool) (fs : List Fault) (j : Judgement) → (fs ≡ [] → Settles test j) → Settles test (besides fs j)
besides_settles test [] j s = s refl
besides_settles test (f ∷ fs) (means m) s = record { passes = λ c. absurd (cc c) }
besides_settles test (f ∷ fs) (breaks_rules g gs) s = record { passes = λ c. absurd (cc c) }
besides_settles test (f ∷ fs) waits s = record { passes = λ c. absurd (cc c) }

pub given_settles : {A : Type 0} (test : Judgement → Bool) (o : Option A) (a : A) (f : A → Judgement) → o ≡ Some a → Settles test (f a) → Settles test (given o f)
given_settles {A = A} test o a f e s = subst (λ (k : Option A). Settles test (given k f)) (sym e) s

-- of several parts, each is there
pub data AllThere {A : Type 0} : List (Option A) → Type 0 where
  no_part : AllThere []
  and_part : {o : Option A} {rest : List (Option A)} (a : A) → o ≡ Some a → AllThere rest → AllThere (o ∷ rest)

pub all_there : {A : Type 0} (os : List (Option A)) → AllThere os → (values : List A) × (all_of os ≡ Some values)
all_there {A = A} os no_part = ([], refl)
all_there {A = A} os (and_part {rest = rest} a e there) =
    let later = all_there rest there in
    (a ∷ later.0, ap (λ (k : Option A). all_of (k ∷ rest)) e ∙ ap (λ k. before a k) later.1)
