-- Each object that is used and defined has a number: it is declared again of the first of its declarations.
use Rattle.std.proofs.Common.{◌≡◌, ℕ, zero, suc, ◌+◌, ◌<◌, Bool, true, false, not, ◌&&◌, List, [], ◌∷◌, length, Some, None, refl, sym, ap, ap₂, ◌∙◌, subst, arith, true≢false, ◌⊎◌, inl, inr}
use Rattle.std.specs.Prelude.{slice_get, filter, position, nat_lt, ◌==◌, if◌then◌else◌}
use Rattle.std.specs.List.{last_or, position_or_len}
use Rattle.std.specs.Str.{bytes_eq}
use Rattle.std.proofs.lemmas.Bool.Decides.{Decides-eqb, nat_tests}
use Rattle.std.proofs.lemmas.Slice.Eq.{bytes_eq-Decides}
use Rattle.c_typing.proofs.ProgressForms.{Has}
use Rattle.c_typing.specs.Names.{Name, Places, is_again, is_static, earlier}

no : {A : Type 0} → false ≡ true → A
no e = absurd (true≢false (sym e))

-- ---- lists

pub record InList {A : Type 0} (xs : List A) (x : A) : Type 0 where
  pub index : ℕ
  pub at : slice_get xs index ≡ Some x

pub in_filter : {A : Type 0} (test : A → Bool) (xs : List A) (x : A) → InList xs x → test x ≡ true → InList (filter test xs) x
in_filter {A = A} test xs x m e = by xs m.index m.at
  where
    keep : (y : A) (ys : List A) → InList (filter test ys) x → InList (if test y then y ∷ filter test ys else filter test ys) x
    keep y ys r = cases (test y)
      where
        cases : (b : Bool) → InList (if b then y ∷ filter test ys else filter test ys) x
        cases true = record { index = suc r.index; at = r.at }
        cases false = r

    by : (ys : List A) (k : ℕ) → slice_get ys k ≡ Some x → InList (filter test ys) x
    by [] k at = absurd (cc at)
    by (y ∷ ys) zero at = same at
      where
        same : Some y ≡ Some x → InList (filter test (y ∷ ys)) x
        same h =
            let equal : y ≡ x = cc h in
            subst (λ (b : Bool). InList (if b then y ∷ filter test ys else filter test ys) x) (sym (ap test equal ∙ e)) (record { index = 0; at = h })
    by (y ∷ ys) (suc k) at = keep y ys (by ys k at)

pub from_filter : {A : Type 0} (test : A → Bool) (xs : List A) (x : A) → InList (filter test xs) x → InList xs x × (test x ≡ true)
from_filter {A = A} test xs x m = by xs m.index m.at
  where
    by : (ys : List A) (k : ℕ) → slice_get (filter test ys) k ≡ Some x → InList ys x × (test x ≡ true)
    by [] k at = absurd (cc at)
    by (y ∷ ys) k at = cases (test y) refl k at (λ j e. by ys j e)
      where
        cases : (b : Bool) → test y ≡ b → (k : ℕ) → slice_get (if b then y ∷ filter test ys else filter test ys) k ≡ Some x → ((j : ℕ) → slice_get (filter test ys) j ≡ Some x → InList ys x × (test x ≡ true))
            → InList (y ∷ ys) x × (test x ≡ true)
        cases true e zero at f = same at
          where
            same : Some y ≡ Some x → InList (y ∷ ys) x × (test x ≡ true)
            same h = let equal : y ≡ x = cc h in (record { index = 0; at = h }, ap test (sym equal) ∙ e)
        cases true e (suc k) at f = let r = f k at in (record { index = suc r.0.index; at = r.0.at }, r.1)
        cases false e k at f = let r = f k at in (record { index = suc r.0.index; at = r.0.at }, r.1)

-- the last, or there is none
pub last_in : {A : Type 0} (xs : List A) → (xs ≡ []) ⊎ ((x : A) × (last_or None xs ≡ Some x) × InList xs x)
last_in {A = A} [] = inl refl
last_in {A = A} (x ∷ xs) = inr (by x xs)
  where
    by : (y : A) (ys : List A) → (z : A) × (last_or (Some y) ys ≡ Some z) × InList (y ∷ ys) z
    by y [] = (y, refl, record { index = 0; at = refl })
    by y (z ∷ zs) = let r = by z zs in (r.0, r.1, record { index = suc r.2.index; at = r.2.at })

pub place_of : {A : Type 0} (test : A → Bool) (xs : List A) (x : A) → InList xs x → test x ≡ true → Has (position test xs)
place_of {A = A} test xs x m e = there (position_or_len test xs) refl
  where
    below : (ys : List A) (k : ℕ) → slice_get ys k ≡ Some x → position_or_len test ys < length ys
    below [] k at = absurd (cc at)
    below (y ∷ ys) zero at = same at
      where
        same : Some y ≡ Some x → position_or_len test (y ∷ ys) < length (y ∷ ys)
        same h =
            let equal : y ≡ x = cc h in
            let first = ap (λ b. if not b then 1 + position_or_len test ys else 0) (ap test equal ∙ e) in
            subst (λ n. n < length (y ∷ ys)) (sym first) (omega arith)
    below (y ∷ ys) (suc k) at = cases (test y) (below ys k at)
      where
        cases : (b : Bool) → position_or_len test ys < length ys → (if not b then 1 + position_or_len test ys else 0) < length (y ∷ ys)
        cases true lt = omega arith
        cases false lt = omega (arith, lt)

    there : (n : ℕ) → position_or_len test xs ≡ n → Has (position test xs)
    there n same =
        let lt = below xs m.index m.at in
        let passes : nat_lt (position_or_len test xs) (length xs) ≡ true = grind (arith, nat_tests, lt) in
        record { value = position_or_len test xs; is = ap (λ b. if b then Some (position_or_len test xs) else None) passes }

-- ---- declarations of one object

pub split_two : (a b : Bool) → (a && b) ≡ true → (a ≡ true) × (b ≡ true)
split_two true b e = (refl, e)
split_two false b e = no e

pub again_same : (a b : Name) → is_again a b ≡ true → (a.text ≡ b.text) × (a.scope.owner ≡ b.scope.owner)
again_same a b e =
    let es = split_two (bytes_eq a.text b.text) (a.scope.owner == b.scope.owner) e in
    ((bytes_eq-Decides a.text b.text).0 es.0, (Decides-eqb a.scope.owner b.scope.owner).0 es.1)

pub same_again : (a b : Name) → a.text ≡ b.text → a.scope.owner ≡ b.scope.owner → is_again a b ≡ true
same_again a b t o = ap₂ (λ x y. x && y) ((bytes_eq-Decides a.text b.text).1 t) ((Decides-eqb a.scope.owner b.scope.owner).1 o)

-- the first declaration of an object
pub record First (p : Places) (e : Name) : Type 0 where
  pub name : Name
  pub listed : InList p.names name
  pub static : is_static name.entity ≡ true
  pub again : is_again name e ≡ true
  pub first : earlier p name ≡ []
