-- Several pieces of one text, written one after another, the last of them by a call whose answer is passed on.
use Rattle.std.proofs.Common.{◌≡◌, ℕ, List, ◌++◌, ap, ◌∙◌, append_assoc}
use Rattle.std.specs.Prelude.{Result, OnOk}
use Rattle.std.proofs.lemmas.Result.{on_ok_weaker}

pub one : {T E : Type 0} (r : Result T E) (new o a whole : List ℕ) → a ≡ whole → OnOk r (new ≡ o ++ a) → OnOk r (new ≡ o ++ whole)
one r new o a whole same = on_ok_weaker r (λ g. g ∙ ap (λ t. o ++ t) same)

pub three : {T E : Type 0} (r : Result T E) (new o1 o2 o a b c whole : List ℕ) → a ++ (b ++ c) ≡ whole → o1 ≡ o ++ a → o2 ≡ o1 ++ b → OnOk r (new ≡ o2 ++ c) → OnOk r (new ≡ o ++ whole)
three r new o1 o2 o a b c whole same e f = on_ok_weaker r (λ g.
    let all : new ≡ ((o ++ a) ++ b) ++ c = cc in
    let grouped : ((o ++ a) ++ b) ++ c ≡ o ++ (a ++ (b ++ c)) = simp append_assoc in
    all ∙ grouped ∙ ap (λ t. o ++ t) same)

pub five : {T E : Type 0} (r : Result T E) (new o1 o2 o3 o4 o a b c d e whole : List ℕ) → a ++ (b ++ (c ++ (d ++ e))) ≡ whole → o1 ≡ o ++ a → o2 ≡ o1 ++ b → o3 ≡ o2 ++ c → o4 ≡ o3 ++ d → OnOk r (new ≡ o4 ++ e) → OnOk r (new ≡ o ++ whole)
five r new o1 o2 o3 o4 o a b c d e whole same e1 e2 e3 e4 = on_ok_weaker r (λ g.
    let all : new ≡ ((((o ++ a) ++ b) ++ c) ++ d) ++ e = cc in
    let grouped : ((((o ++ a) ++ b) ++ c) ++ d) ++ e ≡ o ++ (a ++ (b ++ (c ++ (d ++ e)))) = simp append_assoc in
    all ∙ grouped ∙ ap (λ t. o ++ t) same)
