-- Fronts, from those of parts.
use Rattle.std.proofs.Common.{◌≡◌, ℕ, List, [], ◌∷◌, ◌++◌, refl, sym, ap, ◌∙◌, subst, append_assoc}
use Rattle.c_lexer.specs.declared.token.Token.{Token}
use Rattle.c_grammar.specs.Vocabulary.{start_of}
use Rattle.c_grammar.specs.Scopes.{Names}
use Rattle.c_grammar.specs.Derivation.{is_typedef_token, begins_with_typedef_name}
use Rattle.c_grammar.specs.Fronts.{first, IsFront}

pub first_behind : (ts b c : List Token) → first c ≡ first b → first (ts ++ c) ≡ first (ts ++ b)
first_behind [] b c e = e
first_behind (t ∷ ts) b c e = refl

-- the front of no token
pub front_here : {R : List Token → List Token → Type 0} {b : List Token}
    → ((c : List Token) → first c ≡ first b → R c c)
    → IsFront R b b
front_here r = record { front = []; split = refl; moves = r }

-- the same front, for another relation
pub front_first : {P R : List Token → List Token → Type 0} {a b : List Token}
    → IsFront P a b
    → ((x y : List Token) → first y ≡ first b → P x y → R x y)
    → IsFront R a b
front_first p r = record { front = p.front; split = p.split; moves = λ c e. r (p.front ++ c) c e (p.moves c e) }

pub front_map : {P R : List Token → List Token → Type 0} {a b : List Token}
    → IsFront P a b
    → ((x y : List Token) → P x y → R x y)
    → IsFront R a b
front_map p r = front_first p (λ x y e. r x y)

-- a token before the front
pub front_token : {t : Token} {R : List Token → List Token → Type 0} {a b : List Token}
    → IsFront (λ x y. R (t ∷ x) y) a b
    → IsFront R (t ∷ a) b
front_token {t = t} r = record { front = t ∷ r.front; split = ap (λ ts. t ∷ ts) r.split; moves = r.moves }

-- a token at the end of the front
pub front_end : {t : Token} {R : List Token → List Token → Type 0} {a b : List Token}
    → IsFront R a (t ∷ b)
    → IsFront (λ x y. R x (t ∷ y)) a b
front_end {t = t} {R = R} {b = b} r =
    record {
      front = r.front ++ (t ∷ []);
      split = r.split ∙ sym (append_assoc r.front (t ∷ []) b);
      moves = λ c e. subst (λ x. R x (t ∷ c)) (sym (append_assoc r.front (t ∷ []) c)) (r.moves (t ∷ c) refl);
    }

-- a front and then another
pub front_then : {P Q R : List Token → List Token → Type 0} {a b c : List Token}
    → IsFront P a b
    → IsFront Q b c
    → ((x y z : List Token) → P x y → Q y z → R x z)
    → IsFront R a c
front_then {R = R} {b = b} {c = c} p q r =
    record {
      front = p.front ++ q.front;
      split = p.split ∙ (ap (λ ts. p.front ++ ts) q.split ∙ sym (append_assoc p.front q.front c));
      moves = λ d e. subst (λ x. R x d) (sym (append_assoc p.front q.front d)) (joined d e);
    }
  where
    begins : (d : List Token) → first d ≡ first c → first (q.front ++ d) ≡ first b
    begins d e = first_behind q.front c d e ∙ ap first (sym q.split)

    joined : (d : List Token) → first d ≡ first c → R (p.front ++ (q.front ++ d)) d
    joined d e = r (p.front ++ (q.front ++ d)) (q.front ++ d) d (p.moves (q.front ++ d) (begins d e)) (q.moves d e)

-- the same, with both relations kept
pub front_pair : {P Q : List Token → List Token → Type 0} {a b c : List Token}
    → IsFront P a b
    → IsFront Q b c
    → IsFront (λ x z. (y : List Token) × P x y × Q y z) a c
front_pair p q = front_then p q (λ x y z l r. (y, l, r))

-- ---- what the first token decides

pub same_start : (c b : List Token) → first c ≡ first b → start_of c ≡ start_of b
same_start [] [] e = refl
same_start [] (t ∷ b) e = absurd (cc e)
same_start (t ∷ c) [] e = absurd (cc e)
same_start (t ∷ c) (u ∷ b) e = let same : t ≡ u = cc e in ap (λ v. v.start) same

pub same_begin : (names : Names) (c b : List Token)
    → first c ≡ first b
    → begins_with_typedef_name names c ≡ begins_with_typedef_name names b
same_begin names [] [] e = refl
same_begin names [] (t ∷ b) e = absurd (cc e)
same_begin names (t ∷ c) [] e = absurd (cc e)
same_begin names (t ∷ c) (u ∷ b) e = let same : t ≡ u = cc e in ap (λ v. is_typedef_token names v.kind) same

-- a front for a relation that names the start of the rest
pub front_start : {P : List Token → List Token → Type 0} {a b : List Token} (R : ℕ → List Token → List Token → Type 0)
    → IsFront P a b
    → ((x y : List Token) → P x y → R (start_of y) x y)
    → IsFront (λ x y. R (start_of b) x y) a b
front_start {b = b} R p r = front_first p (λ x y e q. subst (λ n. R n x y) (same_start y b e) (r x y q))
