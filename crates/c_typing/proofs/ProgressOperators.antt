-- Each text that an operator may have is in the table of operators.
use Rattle.std.proofs.Common.{◌≡◌, ℕ, suc, Bool, true, false, ◌||◌, List, [], ◌∷◌, ◌++◌, length, Some, refl, sym, ◌∙◌, subst, true≢false}
use Rattle.std.specs.Prelude.{nat_le, find, if◌then◌else◌, codes, ◌==◌}
use Rattle.std.specs.List.{list_any}
use Rattle.std.specs.Str.{bytes_eq}
use Rattle.std.proofs.lemmas.Slice.Eq.{bytes_eq-Decides}
use Rattle.c_grammar.specs.Vocabulary.{is_among}
use Rattle.c_typing.specs.Conversions.{operators, operator_of}
use Rattle.c_typing.specs.Expressions.{before_equal}
use Rattle.c_typing.specs.Shapes.{binary_level, binary_operators, place_among, is_assignment}
use Rattle.c_typing.proofs.ProgressForms.{Has}

no : {A : Type 0} → false ≡ true → A
no e = absurd (true≢false (sym e))

pub found : {A : Type 0} (test : A → Bool) (xs : List A) → list_any test xs ≡ true → Has (find test xs)
found {A = A} test [] e = no e
found {A = A} test (x ∷ xs) e = by (test x) e (found test xs)
  where
    by : (b : Bool) → b || list_any test xs ≡ true → (list_any test xs ≡ true → Has (find test xs)) → Has (if b then Some x else find test xs)
    by true e f = record { value = x; is = refl }
    by false e f = f e

any_front : (test : List ℕ → Bool) (xs ys : List (List ℕ)) → list_any test (xs ++ ys) ≡ list_any test xs || list_any test ys
any_front test [] ys = refl
any_front test (x ∷ xs) ys = by (test x) (any_front test xs ys)
  where
    by : (b : Bool) → list_any test (xs ++ ys) ≡ list_any test xs || list_any test ys → b || list_any test (xs ++ ys) ≡ (b || list_any test xs) || list_any test ys
    by true e = refl
    by false e = e

abbrev joined : List (List (List ℕ)) → List (List ℕ)
joined [] = []
joined (xs ∷ rest) = xs ++ joined rest

among_rows : (text : List ℕ) (n : ℕ) (rows : List (List (List ℕ))) → nat_le 1 (place_among n rows text) ≡ true → list_any (λ t. bytes_eq t text) (joined rows) ≡ true
among_rows text n [] e = no e
among_rows text n (row ∷ rows) e = any_front (λ t. bytes_eq t text) row (joined rows) ∙ by (is_among row text) e (among_rows text (suc n) rows)
  where
    by : (b : Bool) → nat_le 1 (if b then n else place_among (suc n) rows text) ≡ true → (nat_le 1 (place_among (suc n) rows text) ≡ true → list_any (λ t. bytes_eq t text) (joined rows) ≡ true) → b || list_any (λ t. bytes_eq t text) (joined rows) ≡ true
    by true e f = refl
    by false e f = f e

pub of_binary_operator : (text : List ℕ) → nat_le 1 (binary_level text) ≡ true → Has (operator_of text)
unfolding binary_level
of_binary_operator text e = found (λ o. bytes_eq o.text text) operators (among_rows text 1 binary_operators e)

-- ---- assignments

-- what holds of each text holds of one that is among them
abbrev EachOf : (List ℕ → Type 0) → List (List ℕ) → Type 0
EachOf P [] = Unit {0}
EachOf P (t ∷ ts) = P t × EachOf P ts

each_of : (P : List ℕ → Type 0) (ts : List (List ℕ)) (text : List ℕ) → EachOf P ts → is_among ts text ≡ true → P text
each_of P [] text h e = no e
each_of P (t ∷ ts) text h e = by (bytes_eq t text) (bytes_eq-Decides t text).0 e (each_of P ts text h.1)
  where
    by : (b : Bool) → (b ≡ true → t ≡ text) → b || is_among ts text ≡ true → (is_among ts text ≡ true → P text) → P text
    by true same e f = subst (λ x. P x) (same refl) h.0
    by false same e f = f e

abbrev Compound : List ℕ → Type 0
Compound text = (length text == 1) ≡ false → Has (operator_of (before_equal text))

abbrev texts : List (List ℕ)
texts =
    codes "=" ∷ codes "*=" ∷ codes "/=" ∷ codes "%=" ∷ codes "+=" ∷ codes "-=" ∷ codes "<<=" ∷ codes ">>=" ∷ codes "&=" ∷ codes "^=" ∷ codes "|=" ∷ []

each_compound : EachOf Compound texts
each_compound = (
  (λ h. absurd (true≢false h)),
  (
    (λ h. record { value = _; is = refl }),
    (
      (λ h. record { value = _; is = refl }),
      (
        (λ h. record { value = _; is = refl }),
        (
          (λ h. record { value = _; is = refl }),
          (
            (λ h. record { value = _; is = refl }),
            (
              (λ h. record { value = _; is = refl }),
              (
                (λ h. record { value = _; is = refl }),
                ((λ h. record { value = _; is = refl }), ((λ h. record { value = _; is = refl }), ((λ h. record { value = _; is = refl }), tt))),
              ),
            ),
          ),
        ),
      ),
    ),
  ),
)

pub of_assignment : (text : List ℕ) → is_assignment text ≡ true → Compound text
of_assignment text e = each_of Compound texts text each_compound e
