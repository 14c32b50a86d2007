-- What is asked of types.
use Rattle.std.proofs.Common.{◌≡◌, ◌≢◌, ◌&&◌, ◌||◌, ℕ, Bool, true, false, not, List, [], ◌∷◌, Option, Some, None, refl, sym, ap, ◌∙◌, subst}
use Rattle.std.specs.Prelude.{if◌then◌else◌, codes, Result, Ok, Err, IfOk}
use Rattle.std.specs.Str.{bytes_eq}
use Rattle.std.proofs.lemmas.Bool.{false≢true}
use Rattle.c_types.specs.declared.kind.TypeId.{TypeId}
use Rattle.c_typing.specs.Types.{CType, CTypes, integer, unsized, function, int, same, is_unsized, no_types, a_type}
use Rattle.c_typing.specs.Rules.{broken_if, agree, gives_int, bad_main, is_getchar, is_putchar, bad_library_name}
use Rattle.c_type_ids.specs.Ids.{Known, Names, NamesAll}
use Rattle.c_values.specs.declared.typings.«Type».{«Type» as TypeForm}
use Rattle.c_values.specs.declared.typings.«Type».TheVariants as type
use Rattle.c_values.specs.Typings.{IsType}

-- two types with lengths agree where they are the same
pub agree_sized : (t u : CType) → is_unsized t ≡ false → is_unsized u ≡ false → agree t u ≡ same t u
agree_sized (unsized t) u h i = absurd (false≢true (sym h))
agree_sized t (unsized u) h i = absurd (false≢true (sym i))
agree_sized t u h i = refl

pub is_sized : (k : Known) (a : TypeForm) (t : CType) → IsType k a t → ((element : TypeId) → a ≢ type.Unsized element) → is_unsized t ≡ false
is_sized k (type.Known id) (unsized t) h not = absurd h
is_sized k (type.Unsized id) (unsized t) h not = absurd (not id refl)
is_sized k (type.ToUnsized id) (unsized t) h not = absurd h
is_sized k a t h not = refl

-- the type of functions to `int`, with one parameter or none
pub to_int : {E : Type 0} → (old new : Known) (gives : TypeId) (one : Bool) (takes : List TypeId) (r : Result TypeId E) → Names old gives (integer int)
    → takes ≡ (if one then gives ∷ [] else []) → IfOk r (λ id. (t : CType) (ts : CTypes) → Names old gives t → NamesAll old takes ts → Names new id (function t ts))
    → IfOk r (λ id. Names new id (gives_int (if one then integer int ∷ [] else [])))
to_int old new gives true takes (Ok id) n e h =
    h (integer int) (a_type (integer int) no_types) n (subst (λ ids. NamesAll old ids (a_type (integer int) no_types)) (sym e) (n, tt))
to_int old new gives false takes (Ok id) n e h = h (integer int) no_types n (subst (λ ids. NamesAll old ids no_types) (sym e) tt)
to_int old new gives one takes (Err e) n same h = tt

pub main_faults : (text : List ℕ) (t : CType) (n : ℕ) (same_type : Bool) → bytes_eq text (codes "main") ≡ true → same_type ≡ same t (gives_int [])
    → bad_main text t n ≡ broken_if (not same_type) 22 n
main_faults text t n same_type e is = ap (λ b. broken_if (b && not (same t (gives_int []))) 22 n) e ∙ ap (λ b. broken_if (not b) 22 n) (sym is)

-- the names of the library: `getchar` takes nothing, `putchar` one `int`
abbrev pub takes_int : Bool → Bool → Option Bool
takes_int getchar putchar = if getchar then Some false else if putchar then Some true else None

pub library_faults : (text : List ℕ) (t : CType) (n : ℕ) (one same_type : Bool) → takes_int (is_getchar text) (is_putchar text) ≡ Some one
    → same_type ≡ same t (gives_int (if one then integer int ∷ [] else [])) → bad_library_name text true t n ≡ broken_if (not same_type) 23 n
library_faults text t n one same_type found is = by (is_getchar text) (is_putchar text) one found is
  where
    by : (g p one : Bool) → takes_int g p ≡ Some one → same_type ≡ same t (gives_int (if one then integer int ∷ [] else []))
        → broken_if ((g || p) && not (true && same t (if g then gives_int [] else gives_int (integer int ∷ [])))) 23 n ≡ broken_if (not same_type) 23 n
    by true p true e is = absurd (cc e)
    by true p false e is = ap (λ b. broken_if (not b) 23 n) (sym is)
    by false true true e is = ap (λ b. broken_if (not b) 23 n) (sym is)
    by false true false e is = absurd (cc e)
    by false false one e is = absurd (cc e)

pub no_function : (text : List ℕ) (t : CType) (n : ℕ) (one : Bool) → takes_int (is_getchar text) (is_putchar text) ≡ Some one → bad_library_name text false t n ≡ broken_if true 23 n
no_function text t n one found = by (is_getchar text) (is_putchar text) found
  where
    by : (g p : Bool) → takes_int g p ≡ Some one → broken_if ((g || p) && not (false && same t (if g then gives_int [] else gives_int (integer int ∷ [])))) 23 n ≡ broken_if true 23 n
    by true p e = refl
    by false true e = refl
    by false false e = absurd (cc e)

pub another_name : (text : List ℕ) (declares : Bool) (t : CType) (n : ℕ) → takes_int (is_getchar text) (is_putchar text) ≡ None → bad_library_name text declares t n ≡ broken_if false 23 n
another_name text declares t n found = by (is_getchar text) (is_putchar text) found
  where
    by : (g p : Bool) → takes_int g p ≡ None → broken_if ((g || p) && not (declares && same t (if g then gives_int [] else gives_int (integer int ∷ [])))) 23 n ≡ broken_if false 23 n
    by true p e = absurd (cc e)
    by false true e = absurd (cc e)
    by false false e = refl
