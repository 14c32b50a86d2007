-- What a sink tells after several pieces.
use Rattle.std.proofs.Common.{◌≡◌, ℕ, ◌+◌, ◌<◌, List, [], ◌++◌, length, take, drop, Option, Some, None, refl, sym, ap, ◌∙◌, arith, append_assoc, length-append}
use Rattle.std.specs.Prelude.{Result, Ok, Err, OnErr}
use Rattle.std.proofs.lemmas.List.{take-append-drop, take-append-le, append-nil}
use Rattle.std.proofs.Math.Seq.{take-append_seam, take-append-add}
use Rattle.cp_base.specs.Outside.{gained, GainsFront}

-- one piece after another
pub gained-gained : (told : Option (List ℕ)) (a b : List ℕ) → gained (gained told a) b ≡ gained told (a ++ b)
gained-gained None a b = refl
gained-gained (Some xs) a b = ap Some (append_assoc xs a b)

-- nothing was taken
pub gained-nothing : (told : Option (List ℕ)) → gained told [] ≡ told
gained-nothing None = refl
gained-nothing (Some xs) = ap Some (append-nil xs)

pub on_err : {T E P : Type 0} (r : Result T E) → P → OnErr r P
on_err (Ok x) p = tt
on_err (Err e) p = p

-- what stands before the rest of a piece has been taken
pub record HasTaken (old new : Option (List ℕ)) (piece rest : List ℕ) : Type 0 where
  pub done : List ℕ
  pub split : piece ≡ done ++ rest
  pub told : new ≡ gained old done

pub HasTaken-none : (told : Option (List ℕ)) (piece : List ℕ) → HasTaken told told piece piece
HasTaken-none told piece = record { done = []; split = refl; told = sym (gained-nothing told) }

pub HasTaken-more : (old now new : Option (List ℕ)) (piece rest : List ℕ) (n : ℕ) → HasTaken old now piece rest → new ≡ gained now (take n rest) → HasTaken old new piece (drop n rest)
HasTaken-more old now new piece rest n t e = record {
  done = t.done ++ take n rest;
  split = t.split ∙ ap (λ r. t.done ++ r) (sym (take-append-drop n rest)) ∙ sym (append_assoc t.done (take n rest) (drop n rest));
  told = e ∙ ap (λ o. gained o (take n rest)) t.told ∙ gained-gained old t.done (take n rest);
}

pub HasTaken-front : (old now new : Option (List ℕ)) (piece rest : List ℕ) → 0 < length rest → HasTaken old now piece rest → new ≡ now → GainsFront old new piece
HasTaken-front old now new piece rest some t e = (
  length t.done,
  omega (arith, ap length t.split, length-append t.done rest),
  e ∙ t.told ∙ ap (gained old) (sym (ap (take (length t.done)) t.split ∙ take-append_seam t.done rest)),
)

pub HasTaken-all : (old new : Option (List ℕ)) (piece rest : List ℕ) → HasTaken old new piece rest → rest ≡ [] → new ≡ gained old piece
HasTaken-all old new piece rest t e = t.told ∙ ap (gained old) (sym (t.split ∙ ap (λ r. t.done ++ r) e ∙ append-nil t.done))

-- a front of a piece is one of the piece with more after it
pub GainsFront-more : (old new : Option (List ℕ)) (a b : List ℕ) → GainsFront old new a → GainsFront old new (a ++ b)
GainsFront-more old new a b (n, lt, e) = (n, omega (arith, lt, length-append a b), e ∙ ap (gained old) (sym (take-append-le n a b (omega (arith, lt)))))

-- a whole piece and then a front of another is a front of both
pub GainsFront-after : (old now new : Option (List ℕ)) (a b : List ℕ) → now ≡ gained old a → GainsFront now new b → GainsFront old new (a ++ b)
GainsFront-after old now new a b whole (n, lt, e) = (
  length a + n,
  omega (arith, lt, length-append a b),
  e ∙ ap (λ told. gained told (take n b)) whole ∙ gained-gained old a (take n b) ∙ ap (gained old) (sym (take-append-add a b n)),
)
