-- What the nodes before a node mean, without those behind them.
use Rattle.std.proofs.Common.{◌≡◌, ℕ, zero, suc, List, [], ◌∷◌, ◌++◌, Option, Some, None, refl, sym, ap, ◌∙◌}
use Rattle.std.specs.Prelude.{drop, slice_get, take, unwrap_or}
use Rattle.c_typing.specs.Types.{CType}
use Rattle.c_typing.specs.Places.{Node}
use Rattle.c_typing.specs.Names.{Places}
use Rattle.c_typing.specs.Judgements.{Judgement, judgement_at, type_at, type_of, waits}
use Rattle.c_typing.specs.Typing.{judged_by, judged_from}

module _ (p : Places) where
  after : (js : List Judgement) (xs ys : List Node) → judged_from p js (xs ++ ys) ≡ judged_from p (judged_from p js xs) ys
  unfolding judged_from
  after js [] ys = refl
  after js (x ∷ xs) ys = after (js ++ judged_by p js x x.label.kind ∷ []) xs ys

  in_front : (xs ys : List Judgement) (k : ℕ) (j : Judgement) → slice_get xs k ≡ Some j → slice_get (xs ++ ys) k ≡ Some j
  in_front [] ys k j e = absurd (gone e)
    where
      gone : None ≡ Some j → ⊥
      gone e = cc e
  in_front (x ∷ xs) ys zero j e = e
  in_front (x ∷ xs) ys (suc k) j e = in_front xs ys k j e

  kept : (js : List Judgement) (ns : List Node) (k : ℕ) (j : Judgement) → slice_get js k ≡ Some j → slice_get (judged_from p js ns) k ≡ Some j
  unfolding judged_from
  kept js [] k j e = e
  kept js (n ∷ ns) k j e = kept (js ++ judged_by p js n n.label.kind ∷ []) ns k j (in_front js (judged_by p js n n.label.kind ∷ []) k j e)

  whole : (n : ℕ) (ns : List Node) → take n ns ++ drop n ns ≡ ns
  whole zero [] = refl
  whole zero (x ∷ ns) = refl
  whole (suc n) [] = refl
  whole (suc n) (x ∷ ns) = ap (λ rest. x ∷ rest) (whole n ns)

  -- what is seen of a node before the node n is seen of it among all
  pub seen_before : {A : Type 0} (see : Judgement → Option A) → see waits ≡ None → (n : ℕ) (ns : List Node) (k : ℕ) (a : A) → see (judgement_at (judged_from p [] (take n ns)) k) ≡ Some a → see (judgement_at (judged_from p [] ns) k) ≡ Some a
  seen_before {A = A} see nothing n ns k a e = by (slice_get (judged_from p [] (take n ns)) k) refl e
    where
      all : judged_from p [] ns ≡ judged_from p (judged_from p [] (take n ns)) (drop n ns)
      all = ap (judged_from p []) (sym (whole n ns)) ∙ after [] (take n ns) (drop n ns)

      gone : {x : A} → None ≡ Some x → ⊥
      gone e = cc e

      by : (o : Option Judgement) → slice_get (judged_from p [] (take n ns)) k ≡ o → see (unwrap_or o waits) ≡ Some a → see (judgement_at (judged_from p [] ns) k) ≡ Some a
      by None there e = absurd (gone (sym nothing ∙ e))
      by (Some j) there e = ap (λ o. see (unwrap_or o waits)) (ap (λ js. slice_get js k) all ∙ kept (judged_from p [] (take n ns)) (drop n ns) k j there) ∙ e

  pub type_before : (n : ℕ) (ns : List Node) (k : ℕ) (t : CType) → type_at (judged_from p [] (take n ns)) k ≡ Some t → type_of (judgement_at (judged_from p [] ns) k) ≡ Some t
  type_before n ns k t e = seen_before type_of refl n ns k t e
