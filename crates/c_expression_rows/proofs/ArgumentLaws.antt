-- The arguments of a call, by their places among the kids.
use Rattle.std.proofs.Common.{◌≡◌, ◌⊎◌, inl, inr, ◌<◌, ◌≤◌, ◌+◌, ◌++◌, ℕ, zero, suc, Bool, true, false, List, [], ◌∷◌, Option, Some, None, length, map, drop, refl, sym, ap, ◌∙◌, subst, arith}
use Rattle.std.specs.Prelude.{is_some, slice_get, take, unwrap_or}
use Rattle.std.proofs.lemmas.Bool.{cases_lt, false≢true}
use Rattle.std.proofs.lemmas.List.{length-map, take_all, take_more}
use Rattle.std.proofs.lemmas.Option.{unwrap_or-slice_get}
use Rattle.c_syntax.specs.declared.syntax.SynId.{SynId}
use Rattle.c_typing.specs.Places.{numbers}
use Rattle.c_typing.specs.Judgements as rules
use Rattle.c_typing.specs.Judgements.{Judgement, all_of, before, typing_at}
use Rattle.c_type_ids.specs.Ids.{Known}
use Rattle.c_values.specs.declared.typings.Typing.{Typing}
use Rattle.c_values.specs.Typings.{Is}
use Rattle.c_calls.specs.Arguments.{AreTypings}
use Rattle.c_expression_rows.specs.Calls.{AreOf}

-- the number at this place
abbrev pub nth : List ℕ → ℕ → ℕ
nth ns k = unwrap_or (slice_get ns k) 0

-- a kid behind the first one
pub kid_behind : (kids : List ℕ) (k : ℕ) → nth kids (suc k) ≡ nth (drop 1 kids) k
kid_behind [] k = refl
kid_behind (n ∷ rest) k = refl

pub length_behind : (kids : List ℕ) (k : ℕ) → suc k < length kids → k < length (drop 1 kids)
length_behind [] k h = absurd (omega (arith, h))
length_behind (n ∷ rest) k h = omega (arith, h)

in_front : (kids : List ℕ) (k : ℕ) → k < length (drop 1 kids) → suc k < length kids
in_front [] k h = absurd (omega (arith, h))
in_front (n ∷ rest) k h = omega (arith, h)

-- one more index
pub index_more : (P : ℕ → Type 0) (i : ℕ) → ((k : ℕ) → 1 ≤ k → k < i → P k) → P i → (k : ℕ) → 1 ≤ k → k < i + 1 → P k
index_more P i below here k from less = by (cases_lt k i)
  where
    by : (k < i) ⊎ (i ≤ k) → P k
    by (inl l) = below k from l
    by (inr r) = let same : i ≡ k = omega (arith, less, r) in subst P same here

-- as many as there are numbers
pub as_many_ids : (ids : List SynId) (kids : List ℕ) → numbers ids ≡ kids → length ids ≡ length kids
as_many_ids ids kids e = sym (length-map ids (λ (id : SynId). id.number)) ∙ ap length e

-- the numbers of the kids behind the first, with one more
pub one_kid_more : (kids found more : List ℕ) (k i m : ℕ) → more ≡ found ++ m ∷ [] → m ≡ nth kids i → i ≡ suc k → i < length kids → found ≡ take k (drop 1 kids) → more ≡ take (suc k) (drop 1 kids)
one_kid_more kids found more k i m put is same less e =
    let inside = length_behind kids k (subst (λ m. m < length kids) same less) in
    let next : k + 1 ≡ suc k = omega arith in
    put ∙ ap (λ j. found ++ j ∷ []) is ∙ ap (λ ns. ns ++ nth kids i ∷ []) e ∙ ap (λ m. take k (drop 1 kids) ++ m ∷ []) (ap (nth kids) same ∙ kid_behind kids k ∙ unwrap_or-slice_get (drop 1 kids) k 0)
    ∙ sym (take_more (drop 1 kids) k 0 inside) ∙ ap (λ m. take m (drop 1 kids)) next

pub all_kids : (kids : List ℕ) (k : ℕ) → length kids ≤ suc k → take k (drop 1 kids) ≡ drop 1 kids
all_kids [] k h = take_all k [] (omega arith)
all_kids (n ∷ rest) k h = take_all k rest (omega (arith, h))

pub length_other : (kids : List ℕ) → 1 ≤ length kids → length kids ≡ suc (length (drop 1 kids))
length_other [] h = absurd (omega (arith, h))
length_other (n ∷ rest) h = refl

module _ {A : Type 0} (f : ℕ → Option A) where
  before_there : (a : A) (o : Option (List A)) → is_some o ≡ true → is_some (before a o) ≡ true
  before_there a None e = absurd (false≢true e)
  before_there a (Some others) e = refl

  before_none : (a : A) (o : Option (List A)) → is_some o ≡ false → is_some (before a o) ≡ false
  before_none a None e = refl
  before_none a (Some others) e = absurd (false≢true (sym e))

  -- each is there
  first_there : (o : Option A) (rest : List (Option A)) → is_some o ≡ true → is_some (all_of rest) ≡ true → is_some (all_of (o ∷ rest)) ≡ true
  first_there None rest e others = absurd (false≢true e)
  first_there (Some a) rest e others = before_there a (all_of rest) others

  pub all_there : (ns : List ℕ) → ((k : ℕ) → k < length ns → is_some (f (nth ns k)) ≡ true) → is_some (all_of (map f ns)) ≡ true
  all_there [] h = refl
  all_there (n ∷ ns) h = first_there (f n) (map f ns) (h 0 (omega arith)) (all_there ns (λ k less. h (suc k) (omega (arith, less))))

  -- one is missing
  first_missing : (o : Option A) (rest : List (Option A)) → is_some o ≡ false → is_some (all_of (o ∷ rest)) ≡ false
  first_missing None rest e = refl
  first_missing (Some a) rest e = absurd (false≢true (sym e))

  other_missing : (o : Option A) (rest : List (Option A)) → is_some (all_of rest) ≡ false → is_some (all_of (o ∷ rest)) ≡ false
  other_missing None rest e = refl
  other_missing (Some a) rest e = before_none a (all_of rest) e

  pub one_missing : (ns : List ℕ) (k : ℕ) → k < length ns → is_some (f (nth ns k)) ≡ false → is_some (all_of (map f ns)) ≡ false
  one_missing [] k less none = absurd (omega (arith, less))
  one_missing (n ∷ ns) zero less none = first_missing (f n) (map f ns) none
  one_missing (n ∷ ns) (suc k) less none = other_missing (f n) (map f ns) (one_missing ns k (omega (arith, less)) none)

  pub there_at : (ns : List ℕ) (k : ℕ) → k < length ns → is_some (all_of (map f ns)) ≡ true → is_some (f (nth ns k)) ≡ true
  there_at ns k less all = by (is_some (f (nth ns k))) refl
    where
      by : (b : Bool) → is_some (f (nth ns k)) ≡ b → b ≡ true
      by true e = refl
      by false e = absurd (false≢true (sym (one_missing ns k less e) ∙ all))

  -- the same by the indices of kids
  pub missing_at : (kids : List ℕ) (i : ℕ) → 1 ≤ i → i < length kids → is_some (f (nth kids i)) ≡ false → is_some (all_of (map f (drop 1 kids))) ≡ false
  missing_at kids zero from less none = absurd (omega (arith, from))
  missing_at kids (suc k) from less none = one_missing (drop 1 kids) k (length_behind kids k less) (subst (λ m. is_some (f m) ≡ false) (kid_behind kids k) none)

  pub seen_at : (kids : List ℕ) (i : ℕ) → 1 ≤ i → i < length kids → is_some (all_of (map f (drop 1 kids))) ≡ true → is_some (f (nth kids i)) ≡ true
  seen_at kids zero from less all = absurd (omega (arith, from))
  seen_at kids (suc k) from less all = subst (λ m. is_some (f m) ≡ true) (sym (kid_behind kids k)) (there_at (drop 1 kids) k (length_behind kids k less) all)

  pub all_seen : (kids : List ℕ) → ((i : ℕ) → 1 ≤ i → i < length kids → is_some (f (nth kids i)) ≡ true) → is_some (all_of (map f (drop 1 kids))) ≡ true
  all_seen kids h = all_there (drop 1 kids) (λ k less. subst (λ m. is_some (f m) ≡ true) (kid_behind kids k) (h (suc k) (omega arith) (in_front kids k less)))

-- one more argument
pub one_more : (k : Known) (js : List Judgement) (ts : List Typing) (ns : List ℕ) (t : Typing) → AreOf k js ts ns → length ts < length ns
    → ((y : rules.Typing) → typing_at js (nth ns (length ts)) ≡ Some y → Is k t y) → AreOf k js (ts ++ t ∷ []) ns
one_more k js [] [] t are less is = absurd (omega (arith, less))
one_more k js [] (n ∷ ns) t are less is = (is, tt)
one_more k js (u ∷ ts) [] t are less is = absurd are
one_more k js (u ∷ ts) (n ∷ ns) t are less is = (are.0, one_more k js ts ns t are.1 (omega (arith, less)) is)

-- what a kid is, as the next argument
pub next_argument : (k : Known) (js : List Judgement) (kids : List ℕ) (ts more : List Typing) (t : Typing) (i : ℕ) → i ≡ suc (length ts) → i < length kids → more ≡ ts ++ t ∷ [] → AreOf k js ts (drop 1 kids)
    → ((y : rules.Typing) → typing_at js (nth kids i) ≡ Some y → Is k t y) → AreOf k js more (drop 1 kids)
next_argument k js kids ts more t i count less items are is =
    let place : nth kids i ≡ nth (drop 1 kids) (length ts) = ap (nth kids) count ∙ kid_behind kids (length ts) in
    subst (λ us. AreOf k js us (drop 1 kids)) (sym items)
    (one_more k js ts (drop 1 kids) t are (length_behind kids (length ts) (subst (λ m. m < length kids) count less)) (λ y e. is y (ap (typing_at js) place ∙ e)))

-- all arguments are those of the rules
pub all_are : (k : Known) (js : List Judgement) (ts : List Typing) (ns : List ℕ) (xs : List rules.Typing) → AreOf k js ts ns → length ts ≡ length ns → all_of (map (typing_at js) ns) ≡ Some xs → AreTypings k ts xs
all_are k js [] [] xs are long e = let same : [] ≡ xs = cc e in subst (AreTypings k []) same tt
all_are k js [] (n ∷ ns) xs are long e = absurd (omega (arith, long))
all_are k js (t ∷ ts) [] xs are long e = absurd are
all_are k js (t ∷ ts) (n ∷ ns) xs are long e = by (typing_at js n) (all_of (map (typing_at js) ns)) refl refl e (λ ys others. all_are k js ts ns ys are.1 (omega (arith, long)) others)
  where
    by : (o : Option rules.Typing) (rest : Option (List rules.Typing)) → typing_at js n ≡ o → all_of (map (typing_at js) ns) ≡ rest → all_of (o ∷ map (typing_at js) ns) ≡ Some xs
        → ((ys : List rules.Typing) → all_of (map (typing_at js) ns) ≡ Some ys → AreTypings k ts ys) → AreTypings k (t ∷ ts) xs
    by None rest first others e next = absurd (cc e)
    by (Some y) None first others e next = let same : before y None ≡ Some xs = sym (ap (before y) others) ∙ e in absurd (cc same)
    by (Some y) (Some ys) first others e next =
        let same : before y (Some ys) ≡ Some xs = sym (ap (before y) others) ∙ e in
        let same_list : y ∷ ys ≡ xs = cc same in
        subst (AreTypings k (t ∷ ts)) same_list (are.0 y first, next ys others)
