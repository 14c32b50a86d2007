-- What `strip_prefix` says, over lists.
use Rattle.std.proofs.Common.{◌≡◌, ℕ, ◌+◌, List, Bor, ◌++◌, length, take, drop, Option, Some, None, Bool, true, false, refl, sym, ap, ◌∙◌}
use Rattle.std.specs.Prelude.{MatchOption, IfSome, IsSomeAnd}
use Rattle.std.specs.Bool.{Decides, nat_eq}
use Rattle.std.specs.Cmp.Lexicographic.{pointwise}
use Rattle.std.proofs.lemmas.Bool.Decides.{Decides-eqb}
use Rattle.std.proofs.lemmas.List.{take-append-drop}
use Rattle.std.proofs.lemmas.Slice.Eq.{slice_eq-Decides}
use Rattle.std.proofs.Math.Seq.{take-append_seam, drop-append_seam}

-- the front is the prefix
abbrev pub is_front : List ℕ → List ℕ → Bool
is_front text prefix = pointwise nat_eq (take (length prefix) text) prefix

front_decides : (text prefix : List ℕ) → Decides (is_front text prefix) (take (length prefix) text ≡ prefix)
front_decides text prefix = slice_eq-Decides Decides-eqb (take (length prefix) text) prefix (is_front text prefix) refl

pub stripped : (text prefix : List ℕ) (r : Option (Bor (List ℕ))) → MatchOption r (is_front text prefix ≡ false) (λ x. (is_front text prefix ≡ true) × (x.now ≡ drop (length prefix) text) × (length x.now + length prefix ≡ length text)) → IfSome r (λ rest. text ≡ prefix ++ rest.now)
stripped text prefix None h = tt
stripped text prefix (Some x) h =
    sym (take-append-drop (length prefix) text)
    ∙ ap (λ front. front ++ drop (length prefix) text) ((front_decides text prefix).0 h.0)
    ∙ ap (λ rest. prefix ++ rest) (sym h.1)

pub stripped_only : (text prefix : List ℕ) (r : Option (Bor (List ℕ))) → MatchOption r (is_front text prefix ≡ false) (λ x. (is_front text prefix ≡ true) × (x.now ≡ drop (length prefix) text) × (length x.now + length prefix ≡ length text)) → (rest : List ℕ) → text ≡ prefix ++ rest → IsSomeAnd r (λ x. x.now ≡ rest)
stripped_only text prefix None h rest e =
    let equal = (front_decides text prefix).1 (ap (take (length prefix)) e ∙ take-append_seam prefix rest) in
    absurd (cc (equal, h))
stripped_only text prefix (Some x) h rest e = h.1 ∙ ap (drop (length prefix)) e ∙ drop-append_seam prefix rest
