-- Readings that keep their answers where the tokens behind the place they name are others.
use Rattle.std.proofs.Common.{◌≡◌, ℕ, zero, suc, ◌≤◌, Bool, true, false, List, [], ◌∷◌, ◌++◌, length, length-append, append_assoc, if◌then◌else◌, nat_lt, refl, sym, ap, ◌∙◌, subst, arith}
use Rattle.std.proofs.lemmas.Bool.Decides.{nat_tests}
use Rattle.c_lexer.specs.declared.token.Token.{Token}
use Rattle.c_grammar.specs.Answers.{Answer, found, wrong, deep, and_then, fit}
use Rattle.c_grammar.specs.Fronts.{first}
use Rattle.c_grammar.specs.Reading.{lower, behind_one}
use Rattle.c_grammar.proofs.Budgets.{within}
use Rattle.c_grammar.proofs.FrontSteps.{first_behind}

-- behind a front of ts the reading finds or refuses all that begins as the rest does; or it is too deep behind a front,
-- whatever follows, which has a token where `least` is 1
pub data Keeps {T : Type 0} (least : ℕ) (F : List Token → Answer T) (ts : List Token) : Type 0 where
  keeps_found : (p b : List Token) (t : T) → ts ≡ p ++ b → ((c : List Token) → first c ≡ first b → F (p ++ c) ≡ found t c) → Keeps least F ts
  keeps_wrong : (p b : List Token) → ts ≡ p ++ b → ((c : List Token) → first c ≡ first b → F (p ++ c) ≡ wrong c) → Keeps least F ts
  keeps_deep : (p b : List Token) → ts ≡ p ++ b → (least ≡ 1 → 1 ≤ length p) → ((c : List Token) → F (p ++ c) ≡ deep c) → Keeps least F ts

pub first_in : (p b c : List Token) → 1 ≤ length p → first (p ++ c) ≡ first (p ++ b)
first_in [] b c h = absurd (omega (arith, h))
first_in (t ∷ p) b c h = refl

-- the same answers before all tokens
pub keeps_same : {T : Type 0} {n : ℕ} {F G : List Token → Answer T} {ts : List Token}
    → ((a : List Token) → G a ≡ F a)
    → Keeps n F ts
    → Keeps n G ts
keeps_same same (keeps_found p b t e m) = keeps_found p b t e (λ c h. same (p ++ c) ∙ m c h)
keeps_same same (keeps_wrong p b e m) = keeps_wrong p b e (λ c h. same (p ++ c) ∙ m c h)
keeps_same same (keeps_deep p b e l m) = keeps_deep p b e l (λ c. same (p ++ c) ∙ m c)

-- the same answers before all tokens that begin so
pub keeps_as : {T : Type 0} {F G : List Token → Answer T} {ts : List Token}
    → ((a : List Token) → first a ≡ first ts → G a ≡ F a)
    → Keeps 1 F ts
    → Keeps 1 G ts
keeps_as same (keeps_found p b t e m) = keeps_found p b t e (λ c h. same (p ++ c) (first_behind p b c h ∙ ap first (sym e)) ∙ m c h)
keeps_as same (keeps_wrong p b e m) = keeps_wrong p b e (λ c h. same (p ++ c) (first_behind p b c h ∙ ap first (sym e)) ∙ m c h)
keeps_as same (keeps_deep p b e l m) = keeps_deep p b e l (λ c. same (p ++ c) (first_in p b c (l refl) ∙ ap first (sym e)) ∙ m c)

pub keeps_less : {T : Type 0} {F : List Token → Answer T} {ts : List Token} → Keeps 1 F ts → Keeps 0 F ts
keeps_less (keeps_found p b t e m) = keeps_found p b t e m
keeps_less (keeps_wrong p b e m) = keeps_wrong p b e m
keeps_less (keeps_deep p b e l m) = keeps_deep p b e (λ z. absurd (omega (arith, z))) m

-- one reading and then another
pub keeps_then : {T U : Type 0} {n : ℕ} {F : List Token → Answer T} {go : T → List Token → Answer U} {ts : List Token}
    → Keeps n F ts
    → ((t : T) (b : List Token) → F ts ≡ found t b → Keeps 1 (go t) b)
    → Keeps n (λ c. and_then (F c) go) ts
unfolding and_then
keeps_then {n = n} {F = F} {go = go} {ts = ts} (keeps_found p b t e m) next = by (next t b (ap F e ∙ m b refl))
  where
    step : (q c : List Token) → first (q ++ c) ≡ first b → and_then (F ((p ++ q) ++ c)) go ≡ go t (q ++ c)
    step q c h = ap (λ x. and_then (F x) go) (append_assoc p q c) ∙ ap (λ a. and_then a go) (m (q ++ c) h)

    split : (q b2 : List Token) → b ≡ q ++ b2 → ts ≡ (p ++ q) ++ b2
    split q b2 e2 = e ∙ (ap (λ x. p ++ x) e2 ∙ sym (append_assoc p q b2))

    by : Keeps 1 (go t) b → Keeps n (λ c. and_then (F c) go) ts
    by (keeps_found q b2 u e2 m2) = keeps_found (p ++ q) b2 u (split q b2 e2) (λ c h. step q c (first_behind q b2 c h ∙ ap first (sym e2)) ∙ m2 c h)
    by (keeps_wrong q b2 e2 m2) = keeps_wrong (p ++ q) b2 (split q b2 e2) (λ c h. step q c (first_behind q b2 c h ∙ ap first (sym e2)) ∙ m2 c h)
    by (keeps_deep q b2 e2 l m2) = keeps_deep (p ++ q) b2 (split q b2 e2) (λ _. omega (arith, l refl, length-append p q)) (λ c. step q c (first_in q b2 c (l refl) ∙ ap first (sym e2)) ∙ m2 c)
keeps_then {go = go} (keeps_wrong p b e m) next = keeps_wrong p b e (λ c h. ap (λ a. and_then a go) (m c h))
keeps_then {go = go} (keeps_deep p b e l m) next = keeps_deep p b e l (λ c. ap (λ a. and_then a go) (m c))

pub keeps_lower : {T : Type 0} {n : ℕ} {own nested : List Token → Answer T} {ts : List Token} (d : ℕ)
    → (d ≡ 0 → Keeps n own ts)
    → (1 ≤ d → Keeps n nested ts)
    → Keeps n (λ c. lower d (own c) (nested c)) ts
unfolding lower
keeps_lower zero own nested = own refl
keeps_lower (suc d) own nested = nested (omega arith)

-- what is found here, and what is refused here
pub keeps_here : {T : Type 0} {n : ℕ} {t : T} {ts : List Token} → Keeps n (λ c. found t c) ts
keeps_here {t = t} {ts = ts} = keeps_found [] ts t refl (λ c h. refl)

pub keeps_refused : {T : Type 0} {n : ℕ} {ts : List Token} → Keeps {T = T} n (λ c. wrong c) ts
keeps_refused {ts = ts} = keeps_wrong [] ts refl (λ c h. refl)

-- right behind a token
pub keeps_fit : {T : Type 0} (needed d : ℕ) {G : List Token → Answer T} {rest : List Token}
    → (needed ≤ d → Keeps 0 G rest)
    → Keeps 0 (λ c. fit needed d c (G c)) rest
unfolding fit
keeps_fit needed d {G = G} {rest = rest} next = by (nat_lt d needed) refl
  where
    by : (b : Bool) → nat_lt d needed ≡ b → Keeps 0 (λ c. if nat_lt d needed then deep c else G c) rest
    by true e = keeps_deep [] rest refl (λ z. absurd (omega (arith, z))) (λ c. ap (λ x. if x then deep c else G c) e)
    by false e = keeps_same (λ c. ap (λ x. if x then deep c else G c) e) (next (grind (arith, nat_tests)))

-- the same, where the budget has so much
pub keeps_fits : {T : Type 0} {n : ℕ} (needed d : ℕ) {G : List Token → Answer T} {rest : List Token}
    → needed ≤ d
    → Keeps n G rest
    → Keeps n (λ c. fit needed d c (G c)) rest
keeps_fits needed d {G = G} le k = keeps_same (λ c. within needed d c (G c) le) k

-- ---- the first token

-- another reading, which gives the same answers there
pub keeps_token : {T : Type 0} {F G : List Token → Answer T} {t : Token} {rest : List Token}
    → Keeps 1 G (t ∷ rest)
    → ((c : List Token) → F (t ∷ c) ≡ G (t ∷ c))
    → Keeps 1 F (t ∷ rest)
keeps_token {F = F} {G = G} {t = t} {rest = rest} k same = keeps_as by k
  where
    by : (a : List Token) → first a ≡ first (t ∷ rest) → F a ≡ G a
    by [] e = absurd (cc e)
    by (u ∷ a) e = let eq : u ≡ t = cc e in subst (λ v. F (v ∷ a) ≡ G (v ∷ a)) (sym eq) (same a)

pub keeps_end : {T : Type 0} {F G : List Token → Answer T} → Keeps 1 G [] → F [] ≡ G [] → Keeps 1 F []
keeps_end {F = F} {G = G} k same = keeps_as by k
  where
    by : (a : List Token) → first a ≡ first [] → F a ≡ G a
    by [] e = same
    by (u ∷ a) e = absurd (cc e)

-- there is none
pub keeps_no_token : {T : Type 0} {F : List Token → Answer T} → F [] ≡ wrong [] → Keeps 1 F []
keeps_no_token {F = F} e = keeps_wrong [] [] refl by
  where
    by : (c : List Token) → first c ≡ first [] → F c ≡ wrong c
    by [] h = e
    by (u ∷ c) h = absurd (cc h)

pub keeps_at_end : {T : Type 0} {F : List Token → Answer T} (x : T) → F [] ≡ found x [] → Keeps 1 F []
keeps_at_end {F = F} x e = keeps_found [] [] x refl by
  where
    by : (c : List Token) → first c ≡ first [] → F c ≡ found x c
    by [] h = e
    by (u ∷ c) h = absurd (cc h)

-- what is read behind the token t: it refuses the token, it finds what needs none, or it keeps the answers behind the token
pub data Behind {T : Type 0} (t : Token) (G : List Token → Answer T) (rest : List Token) : Type 0 where
  all_found : (x : T) → ((c : List Token) → G c ≡ found x (t ∷ c)) → Behind t G rest
  all_wrong : ((c : List Token) → G c ≡ wrong (t ∷ c)) → Behind t G rest
  inside : Keeps 0 G rest → Behind t G rest

pub keeps_at : {T : Type 0} {F : List Token → Answer T} {t : Token} {rest : List Token}
    → Behind t (λ c. F (t ∷ c)) rest
    → Keeps 1 F (t ∷ rest)
keeps_at {F = F} {t = t} {rest = rest} (all_found x m) = keeps_found [] (t ∷ rest) x refl by
  where
    by : (c : List Token) → first c ≡ first (t ∷ rest) → F c ≡ found x c
    by [] e = absurd (cc e)
    by (u ∷ c) e = let same : u ≡ t = cc e in ap (λ v. F (v ∷ c)) same ∙ (m c ∙ ap (λ v. found x (v ∷ c)) (sym same))
keeps_at {F = F} {t = t} {rest = rest} (all_wrong m) = keeps_wrong [] (t ∷ rest) refl by
  where
    by : (c : List Token) → first c ≡ first (t ∷ rest) → F c ≡ wrong c
    by [] e = absurd (cc e)
    by (u ∷ c) e = let same : u ≡ t = cc e in ap (λ v. F (v ∷ c)) same ∙ (m c ∙ ap (λ v. wrong (v ∷ c)) (sym same))
keeps_at {t = t} (inside (keeps_found p b x e m)) = keeps_found (t ∷ p) b x (ap (λ a. t ∷ a) e) m
keeps_at {t = t} (inside (keeps_wrong p b e m)) = keeps_wrong (t ∷ p) b (ap (λ a. t ∷ a) e) m
keeps_at {t = t} (inside (keeps_deep p b e l m)) = keeps_deep (t ∷ p) b (ap (λ a. t ∷ a) e) (λ _. omega arith) m

-- the same from a reading that begins with the token
pub behind_it : {T : Type 0} {t : Token} {F : List Token → Answer T} {rest : List Token} → Keeps 1 F (t ∷ rest) → Behind t (λ c. F (t ∷ c)) rest
behind_it {t = t} (keeps_found [] b x e m) = all_found x (λ c. m (t ∷ c) (ap first e))
behind_it {t = t} {F = F} (keeps_found (u ∷ p) b x e m) = let same : t ≡ u = cc e in inside (keeps_found p b x (cc e) (λ c h. ap (λ v. F (v ∷ (p ++ c))) same ∙ m c h))
behind_it {t = t} (keeps_wrong [] b e m) = all_wrong (λ c. m (t ∷ c) (ap first e))
behind_it {t = t} {F = F} (keeps_wrong (u ∷ p) b e m) = let same : t ≡ u = cc e in inside (keeps_wrong p b (cc e) (λ c h. ap (λ v. F (v ∷ (p ++ c))) same ∙ m c h))
behind_it (keeps_deep [] b e l m) = absurd (omega (arith, l refl))
behind_it {t = t} {F = F} (keeps_deep (u ∷ p) b e l m) = let same : t ≡ u = cc e in inside (keeps_deep p b (cc e) (λ z. absurd (omega (arith, z))) (λ c. ap (λ v. F (v ∷ (p ++ c))) same ∙ m c))

pub behind_if : {T : Type 0} {t : Token} (b : Bool) {A B : List Token → Answer T} {rest : List Token}
    → (b ≡ true → Behind t A rest)
    → (b ≡ false → Behind t B rest)
    → Behind t (λ c. if b then A c else B c) rest
behind_if true yes_ no_ = yes_ refl
behind_if false yes_ no_ = no_ refl

pub keeps_if : {T : Type 0} {n : ℕ} (b : Bool) {A B : List Token → Answer T} {ts : List Token}
    → (b ≡ true → Keeps n A ts)
    → (b ≡ false → Keeps n B ts)
    → Keeps n (λ c. if b then A c else B c) ts
keeps_if true yes_ no_ = yes_ refl
keeps_if false yes_ no_ = no_ refl

-- a condition on the first token
pub keeps_if_first : {T : Type 0} (condition : List Token → Bool) {A B : List Token → Answer T} {ts : List Token}
    → ((a b : List Token) → first a ≡ first b → condition a ≡ condition b)
    → (condition ts ≡ true → Keeps 1 A ts)
    → (condition ts ≡ false → Keeps 1 B ts)
    → Keeps 1 (λ c. if condition c then A c else B c) ts
keeps_if_first condition {A = A} {B = B} {ts = ts} same yes_ no_ = by (condition ts) refl
  where
    by : (b : Bool) → condition ts ≡ b → Keeps 1 (λ c. if condition c then A c else B c) ts
    by true e = keeps_as (λ a h. ap (λ x. if x then A a else B a) (same a ts h ∙ e)) (yes_ e)
    by false e = keeps_as (λ a h. ap (λ x. if x then A a else B a) (same a ts h ∙ e)) (no_ e)

-- what is read behind the first token, where there is one
pub keeps_behind : {T : Type 0} {n : ℕ} {G : List Token → Answer T} {ts : List Token} {t : Token}
    → ts ≡ t ∷ behind_one ts
    → Keeps 0 G (behind_one ts)
    → Keeps n (λ c. G (behind_one c)) ts
keeps_behind {t = t} e (keeps_found p b x e2 m) = keeps_found (t ∷ p) b x (e ∙ ap (λ a. t ∷ a) e2) m
keeps_behind {t = t} e (keeps_wrong p b e2 m) = keeps_wrong (t ∷ p) b (e ∙ ap (λ a. t ∷ a) e2) m
keeps_behind {t = t} e (keeps_deep p b e2 l m) = keeps_deep (t ∷ p) b (e ∙ ap (λ a. t ∷ a) e2) (λ _. omega arith) m

-- what is read behind tokens that are left out
pub keeps_skip : {T : Type 0} {n : ℕ} {G : List Token → Answer T} {ts : List Token} {skip : List Token → List Token} (q : List Token)
    → ts ≡ q ++ skip ts
    → ((c : List Token) → first c ≡ first (skip ts) → skip (q ++ c) ≡ c)
    → Keeps 1 G (skip ts)
    → Keeps n (λ c. G (skip c)) ts
keeps_skip {n = n} {G = G} {ts = ts} {skip = skip} q e s k = by k
  where
    step : (p b c : List Token) → skip ts ≡ p ++ b → first (p ++ c) ≡ first (p ++ b) → G (skip ((q ++ p) ++ c)) ≡ G (p ++ c)
    step p b c e2 h = ap G (ap skip (append_assoc q p c) ∙ s (p ++ c) (h ∙ ap first (sym e2)))

    split : (p b : List Token) → skip ts ≡ p ++ b → ts ≡ (q ++ p) ++ b
    split p b e2 = e ∙ (ap (λ x. q ++ x) e2 ∙ sym (append_assoc q p b))

    by : Keeps 1 G (skip ts) → Keeps n (λ c. G (skip c)) ts
    by (keeps_found p b x e2 m) = keeps_found (q ++ p) b x (split p b e2) (λ c h. step p b c e2 (first_behind p b c h) ∙ m c h)
    by (keeps_wrong p b e2 m) = keeps_wrong (q ++ p) b (split p b e2) (λ c h. step p b c e2 (first_behind p b c h) ∙ m c h)
    by (keeps_deep p b e2 l m) = keeps_deep (q ++ p) b (split p b e2) (λ _. omega (arith, l refl, length-append q p)) (λ c. step p b c e2 (first_in p b c (l refl)) ∙ m c)
