-- Answers whose places, where the reading goes too deep, are behind tokens that some rest completes; and how they follow
-- one another.
use Rattle.std.proofs.Common.{◌≡◌, ℕ, zero, suc, ◌<◌, ◌≤◌, Bool, true, false, List, [], ◌∷◌, ◌++◌, length, nat_lt, if◌then◌else◌, refl, sym, ap, subst, arith, append_assoc, bytes_eq}
use Rattle.std.proofs.lemmas.Bool.Decides.{nat_tests}
use Rattle.c_lexer.specs.declared.token.Punct.{Punct}
use Rattle.c_lexer.specs.declared.token.Token.{Token}
use Rattle.c_lexer.specs.declared.token.TokenKind.{TokenKind}
use Rattle.c_lexer.specs.declared.token.TokenKind.TheVariants as token
use Rattle.c_grammar.specs.Vocabulary.{Place, mark, word, is_identifier}
use Rattle.c_grammar.specs.Fronts.{first, IsFront}
use Rattle.c_grammar.specs.Answers.{Answer, found, wrong, deep, and_then, fit, Ahead, expect, expect_by, expect_word, expect_word_by, expect_identifier, expect_identifier_by, same_mark}
use Rattle.c_grammar.specs.Reading.{lower, if_any, begins_with_mark, begins_with_word, behind_one}
use Rattle.c_grammar.proofs.SoundSteps.{Says, says_found, IsAhead, is_nothing, is_mark, is_word, is_integer, is_character, is_string, ahead_is, mark_is, word_is, mark_split, word_split}

-- ---- what may stand behind a completed part

abbrev pub is_name_token : TokenKind → Bool
is_name_token (token.Word text) = is_identifier text
is_name_token other = false

-- the first token is an identifier
abbrev pub begins_with_name : List Token → Bool
begins_with_name [] = false
begins_with_name (t ∷ rest) = is_name_token t.kind

-- no identifier stands first, so that no more specifiers can begin there
abbrev pub Closing : List Token → Type 0
Closing z = begins_with_name z ≡ false

-- ---- places

-- what is said of some tree, or trees
pub record Has {T : Type 0} (S : List Token → List Token → T → Type 0) (a b : List Token) : Type 0 where
  pub what : T
  pub holds : S a b what

pub has : {T : Type 0} {S : List Token → List Token → T → Type 0} {a b : List Token} (t : T) → S a b t → Has S a b
has t h = record { what = t; holds = h }

-- rest stands in ts behind at least one token, and the tokens before it are completed by the least list
pub record Cut (R : List Token → List Token → Type 0) (ts rest : List Token) : Type 0 where
  pub head : Token
  pub front : List Token
  pub split : ts ≡ head ∷ (front ++ rest)
  pub least : List Token
  pub completes : (z : List Token) → Closing z → R (head ∷ (front ++ (least ++ z))) z

-- where the answer is too deep, its place is such a place
pub data Cuts {T : Type 0} (R : List Token → List Token → Type 0) (ts : List Token) : Answer T → Type 0 where
  cuts_found : {t : T} {b : List Token} → Cuts R ts (found t b)
  cuts_wrong : {b : List Token} → Cuts R ts (wrong b)
  cuts_deep : {b : List Token} → Cut R ts b → Cuts R ts (deep b)

-- nothing is so
pub data Never (a b : List Token) : Type 0 where

never : {S : Type 0} {a b : List Token} → Never a b → S
never = elim [ ]

pub cut_of : {T : Type 0} {R : List Token → List Token → Type 0} {ts : List Token} {x : Answer T} (rest : List Token) → Cuts R ts x → x ≡ deep rest → Cut R ts rest
cut_of {T = T} {R = R} {ts = ts} rest c e = by (subst (Cuts R ts) e c)
  where
    by : Cuts {T = T} R ts (deep rest) → Cut R ts rest
    by (cuts_deep c) = c

-- the same place, for another relation, which may ask for the first token
pub cut_first : {R S : List Token → List Token → Type 0} {ts rest : List Token}
    → Cut R ts rest
    → ((x z : List Token) → first x ≡ first ts → R x z → S x z)
    → Cut S ts rest
cut_first c f = record {
  head = c.head;
  front = c.front;
  split = c.split;
  least = c.least;
  completes = λ z h. f (c.head ∷ (c.front ++ (c.least ++ z))) z (sym (ap first c.split)) (c.completes z h);
}

-- a token before it
pub cut_token : {R : List Token → List Token → Type 0} {t : Token} {ts rest : List Token}
    → Cut (λ x z. R (t ∷ x) z) ts rest
    → Cut R (t ∷ ts) rest
cut_token {t = t} c = record {
  head = t;
  front = c.head ∷ c.front;
  split = ap (λ x. t ∷ x) c.split;
  least = c.least;
  completes = c.completes;
}

-- a list before it
pub cut_behind : {R : List Token → List Token → Type 0} {ts rest : List Token} (f : List Token)
    → Cut (λ x z. R (f ++ x) z) ts rest
    → Cut R (f ++ ts) rest
cut_behind [] c = c
cut_behind {R = R} (t ∷ f) c = cut_token (cut_behind {R = λ x z. R (t ∷ x) z} f c)

-- more behind the least list
pub cut_tail : {R S : List Token → List Token → Type 0} {ts rest : List Token} (tail : List Token)
    → Cut R ts rest
    → ((z : List Token) → Closing z → Closing (tail ++ z))
    → ((z : List Token) → Closing z → (x : List Token) → R x (tail ++ z) → S x z)
    → Cut S ts rest
cut_tail {S = S} tail c closing join = record {
  head = c.head;
  front = c.front;
  split = c.split;
  least = c.least ++ tail;
  completes = λ z h. subst (λ y. S (c.head ∷ (c.front ++ y)) z) (sym (append_assoc c.least tail z))
      (join z h (c.head ∷ (c.front ++ (c.least ++ (tail ++ z)))) (c.completes (tail ++ z) (closing z h)));
}

-- ---- answers

pub cuts_first : {T : Type 0} {R S : List Token → List Token → Type 0} {ts : List Token} {x : Answer T}
    → Cuts R ts x
    → ((a z : List Token) → first a ≡ first ts → R a z → S a z)
    → Cuts S ts x
cuts_first cuts_found f = cuts_found
cuts_first cuts_wrong f = cuts_wrong
cuts_first (cuts_deep c) f = cuts_deep (cut_first c f)

-- the same places, for another relation
pub cuts_as : {T : Type 0} {R S : List Token → List Token → Type 0} {ts : List Token} {x : Answer T}
    → ((a z : List Token) → R a z → S a z)
    → Cuts R ts x
    → Cuts S ts x
cuts_as f c = cuts_first c (λ a z e. f a z)

pub cuts_token : {T : Type 0} {R : List Token → List Token → Type 0} {t : Token} {ts : List Token} {x : Answer T}
    → Cuts (λ a z. R (t ∷ a) z) ts x
    → Cuts R (t ∷ ts) x
cuts_token cuts_found = cuts_found
cuts_token cuts_wrong = cuts_wrong
cuts_token (cuts_deep c) = cuts_deep (cut_token c)

pub cuts_if : {T : Type 0} {R : List Token → List Token → Type 0} {ts : List Token} (b : Bool) {x y : Answer T}
    → (b ≡ true → Cuts R ts x)
    → (b ≡ false → Cuts R ts y)
    → Cuts R ts (if b then x else y)
cuts_if true yes_ no_ = yes_ refl
cuts_if false yes_ no_ = no_ refl

-- behind the token t, which the least list completes
pub cuts_fit : {T : Type 0} {R : List Token → List Token → Type 0} {t : Token} {rest : List Token} (needed d : ℕ) {x : Answer T} (least : List Token)
    → ((z : List Token) → Closing z → R (t ∷ (least ++ z)) z)
    → (needed ≤ d → Cuts R (t ∷ rest) x)
    → Cuts R (t ∷ rest) (fit needed d rest x)
unfolding fit
cuts_fit {t = t} needed d least completes next = cuts_if (nat_lt d needed)
    (λ e. cuts_deep (record { head = t; front = []; split = refl; least = least; completes = completes }))
    (λ e. next (grind (arith, nat_tests)))

pub cuts_lower : {T : Type 0} {R : List Token → List Token → Type 0} {ts : List Token} (d : ℕ) {own nested : Answer T}
    → (d ≡ 0 → Cuts R ts own)
    → Cuts R ts nested
    → Cuts R ts (lower d own nested)
unfolding lower
cuts_lower zero own nested = own refl
cuts_lower (suc d) own nested = nested

pub cuts_any : {T : Type 0} {R : List Token → List Token → Type 0} {ts : List Token} (d : ℕ) {x : Answer T}
    → 1 ≤ d
    → Cuts R ts x
    → Cuts R ts (if_any d ts x)
unfolding if_any
cuts_any zero some c = absurd (omega (arith, some))
cuts_any (suc d) some c = c

-- ---- a part and then more

-- what completes from behind a part with the tree t, whichever its tokens are
abbrev pub Behind : {T : Type 0} → (List Token → List Token → T → Type 0) → T → (List Token → List Token → Type 0) → List Token → List Token → Type 0
Behind S t R c z = (a : List Token) → S a c t → R a z

-- behind a front of the relation P
pub cuts_behind : {U : Type 0} {R : List Token → List Token → Type 0} {ts b : List Token} {y : Answer U} (P : List Token → List Token → Type 0)
    → IsFront P ts b
    → Cuts (λ c z. (a : List Token) → P a c → R a z) b y
    → Cuts R ts y
cuts_behind P f cuts_found = cuts_found
cuts_behind P f cuts_wrong = cuts_wrong
cuts_behind {R = R} P f (cuts_deep {b = rest} c) =
    cuts_deep (subst (λ x. Cut R x rest) (sym f.split) (cut_behind f.front (cut_first c (λ x z e q. q (f.front ++ x) (f.moves x e)))))

-- more behind the least list of each place
pub cuts_tail : {T : Type 0} {R S : List Token → List Token → Type 0} {ts : List Token} {x : Answer T} (tail : List Token)
    → Cuts R ts x
    → ((z : List Token) → Closing z → Closing (tail ++ z))
    → ((z : List Token) → Closing z → (a : List Token) → R a (tail ++ z) → S a z)
    → Cuts S ts x
cuts_tail tail cuts_found closing join = cuts_found
cuts_tail tail cuts_wrong closing join = cuts_wrong
cuts_tail tail (cuts_deep c) closing join = cuts_deep (cut_tail tail c closing join)

longer : (front least z : List Token) → length z ≤ length (front ++ (least ++ z))
longer (t ∷ front) least z = let below = longer front least z in omega (arith, below)
longer [] (t ∷ least) z = let below = longer [] least z in omega (arith, below)
longer [] [] z = omega arith

-- what completes has a token at least
pub cuts_longer : {T : Type 0} {R : List Token → List Token → Type 0} {ts : List Token} {x : Answer T}
    → Cuts R ts x
    → Cuts (λ a z. R a z × (length z < length a)) ts x
cuts_longer cuts_found = cuts_found
cuts_longer cuts_wrong = cuts_wrong
cuts_longer (cuts_deep c) = cuts_deep (record {
  head = c.head;
  front = c.front;
  split = c.split;
  least = c.least;
  completes = λ z h. (c.completes z h, let below = longer c.front c.least z in omega (arith, below));
})

-- a part and then more: the part is completed to what is meant, and else stands before what completes the rest
pub cuts_next : {T U : Type 0} {S : List Token → List Token → T → Type 0} {P : T → List Token → Type 0} {R : List Token → List Token → Type 0} {ts : List Token}
    → {x : Answer T} {go : T → List Token → Answer U}
    → Cuts R ts x
    → Says P x
    → ((t : T) (b : List Token) → P t b → IsFront (λ a c. S a c t) ts b)
    → ((t : T) (b : List Token) → P t b → Cuts (Behind S t R) b (go t b))
    → Cuts R ts (and_then x go)
unfolding and_then
cuts_next {S = S} cuts_found (says_found {t = t} p) front next = cuts_behind (λ a c. S a c t) (front _ _ p) (next _ _ p)
cuts_next cuts_wrong s front next = cuts_wrong
cuts_next (cuts_deep c) s front next = cuts_deep c

-- the same where the tail stands behind the least list of the part
pub cuts_then : {T U : Type 0} {S : List Token → List Token → T → Type 0} {P : T → List Token → Type 0} {R : List Token → List Token → Type 0} {ts : List Token}
    → {x : Answer T} {go : T → List Token → Answer U}
    → Cuts (Has S) ts x
    → Says P x
    → ((t : T) (b : List Token) → P t b → IsFront (λ a c. S a c t) ts b)
    → (tail : List Token)
    → ((z : List Token) → Closing z → Closing (tail ++ z))
    → ((z : List Token) → Closing z → (a : List Token) (t : T) → S a (tail ++ z) t → R a z)
    → ((t : T) (b : List Token) → P t b → Cuts (Behind S t R) b (go t b))
    → Cuts R ts (and_then x go)
cuts_then {S = S} c s front tail closing join next = cuts_next {S = S} (cuts_tail tail c closing (λ z h a g. join z h a g.what g.holds)) s front next

no_cuts : {T : Type 0} {R : List Token → List Token → Type 0} {ts b : List Token} {x : Answer T} → Cuts Never b x → Cuts R ts x
no_cuts cuts_found = cuts_found
no_cuts cuts_wrong = cuts_wrong
no_cuts (cuts_deep c) = never (c.completes [] refl)

-- what follows is never too deep
pub cuts_final : {T U : Type 0} {R : List Token → List Token → Type 0} {ts : List Token} {x : Answer T} {go : T → List Token → Answer U}
    → Cuts R ts x
    → ((t : T) (b : List Token) → Cuts Never b (go t b))
    → Cuts R ts (and_then x go)
unfolding and_then
cuts_final (cuts_found {t = t} {b = b}) next = no_cuts (next t b)
cuts_final cuts_wrong next = cuts_wrong
cuts_final (cuts_deep c) next = cuts_deep c

-- the same where the tail stands behind the least list of the part
pub cuts_last : {T U : Type 0} {S : List Token → List Token → T → Type 0} {R : List Token → List Token → Type 0} {ts : List Token}
    → {x : Answer T} {go : T → List Token → Answer U}
    → Cuts (Has S) ts x
    → (tail : List Token)
    → ((z : List Token) → Closing z → Closing (tail ++ z))
    → ((z : List Token) → Closing z → (a : List Token) (t : T) → S a (tail ++ z) t → R a z)
    → ((t : T) (b : List Token) → Cuts Never b (go t b))
    → Cuts R ts (and_then x go)
cuts_last c tail closing join next = cuts_final (cuts_tail tail c closing (λ z h a g. join z h a g.what g.holds)) next

-- ---- marks and words

pub cuts_expect : {U : Type 0} {R : List Token → List Token → Type 0} (p : Punct) (ts : List Token) {go : List Token → Answer U}
    → ((at : Place) (c : List Token) → Cuts (λ a z. R (mark p at ∷ a) z) c (go c))
    → Cuts R ts (expect p ts go)
unfolding expect expect_by
cuts_expect {U = U} {R = R} p ts {go = go} next = by (ahead_is ts)
  where
    by : {ts : List Token} {h : Ahead} → IsAhead ts h → Cuts R ts (expect_by p ts go h)
    by is_nothing = cuts_wrong
    by (is_mark {p = q} {at = at} {rest = rest}) = cuts_if (same_mark p q)
        (λ e. subst (λ m. Cuts R (mark m at ∷ rest) (go rest)) (mark_is p q e) (cuts_token (next at rest)))
        (λ e. cuts_wrong)
    by is_word = cuts_wrong
    by is_integer = cuts_wrong
    by is_character = cuts_wrong
    by is_string = cuts_wrong

pub cuts_expect_word : {U : Type 0} {R : List Token → List Token → Type 0} (text : List ℕ) (ts : List Token) {go : List Token → Answer U}
    → ((at : Place) (c : List Token) → Cuts (λ a z. R (word text at ∷ a) z) c (go c))
    → Cuts R ts (expect_word text ts go)
unfolding expect_word expect_word_by
cuts_expect_word {U = U} {R = R} text ts {go = go} next = by (ahead_is ts)
  where
    by : {ts : List Token} {h : Ahead} → IsAhead ts h → Cuts R ts (expect_word_by text ts go h)
    by is_nothing = cuts_wrong
    by is_mark = cuts_wrong
    by (is_word {text = other} {at = at} {rest = rest}) = cuts_if (bytes_eq text other)
        (λ e. subst (λ m. Cuts R (word m at ∷ rest) (go rest)) (word_is text other e) (cuts_token (next at rest)))
        (λ e. cuts_wrong)
    by is_integer = cuts_wrong
    by is_character = cuts_wrong
    by is_string = cuts_wrong

pub cuts_expect_identifier : {U : Type 0} {R : List Token → List Token → Type 0} (ts : List Token) {go : List ℕ → List Token → Answer U}
    → ((text : List ℕ) (at : Place) (c : List Token) → is_identifier text ≡ true → Cuts (λ a z. R (word text at ∷ a) z) c (go text c))
    → Cuts R ts (expect_identifier ts go)
unfolding expect_identifier expect_identifier_by
cuts_expect_identifier {U = U} {R = R} ts {go = go} next = by (ahead_is ts)
  where
    by : {ts : List Token} {h : Ahead} → IsAhead ts h → Cuts R ts (expect_identifier_by ts go h)
    by is_nothing = cuts_wrong
    by is_mark = cuts_wrong
    by (is_word {text = text} {at = at} {rest = rest}) = cuts_if (is_identifier text) (λ e. cuts_token (next text at rest e)) (λ e. cuts_wrong)
    by is_integer = cuts_wrong
    by is_character = cuts_wrong
    by is_string = cuts_wrong

-- behind the mark that stands first
pub cuts_behind_mark : {T : Type 0} {R : List Token → List Token → Type 0} {x : Answer T} (p : Punct) (ts : List Token) → begins_with_mark p ts ≡ true
    → ((at : Place) → Cuts (λ a z. R (mark p at ∷ a) z) (behind_one ts) x)
    → Cuts R ts x
cuts_behind_mark {R = R} {x = x} p ts e next = let m = mark_split p ts e in subst (λ a. Cuts R a x) (sym m.1) (cuts_token (next m.0))

-- behind the word that stands first
pub cuts_behind_word : {T : Type 0} {R : List Token → List Token → Type 0} {x : Answer T} (text : List ℕ) (ts : List Token) → begins_with_word text ts ≡ true
    → ((at : Place) → Cuts (λ a z. R (word text at ∷ a) z) (behind_one ts) x)
    → Cuts R ts x
cuts_behind_word {R = R} {x = x} text ts e next = let m = word_split text ts e in subst (λ a. Cuts R a x) (sym m.1) (cuts_token (next m.0))
