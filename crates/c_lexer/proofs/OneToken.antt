-- A spelling stands for one token at most.
use Rattle.std.proofs.Common.{◌≡◌, ℕ, zero, suc, ◌+◌, ◌<◌, ◌≤◌, ◌⊎◌, inl, inr, ⊎_elim, Bool, true, false, List, [], ◌∷◌, ◌++◌, ◌==◌, ◌&&◌, not, Option, Some, None, option_map, find, refl, sym, ap, ◌∙◌, subst, arith, length, nat_le, is_some}
use Rattle.std.specs.List.{AllByRecursion, list_all}
use Rattle.std.specs.Str.Parse.{digits_value}
use Rattle.std.proofs.lemmas.Bool.{cases_lt}
use Rattle.std.proofs.lemmas.Bool.Decides.{nat_tests}
use Rattle.c_lexer.specs.declared.token.IntType.{IntType}
use Rattle.c_lexer.specs.declared.token.Punct.{Punct}
use Rattle.c_lexer.specs.declared.token.TokenKind.{TokenKind}
use Rattle.c_lexer.specs.declared.token.TokenKind.TheVariants as kind
use Rattle.c_lexer.specs.Characters.{is_nondigit, is_octal, is_hexadecimal}
use Rattle.c_lexer.specs.Readings.{mark_of}
use Rattle.c_lexer.specs.Numbers.{begins_number, is_number_run}
use Rattle.c_lexer.specs.Literals.{EndsBefore, IsOctal, IsHexadecimal, StandsFor, nothing, plain, simple, octal, hexadecimal, escapes, escape_value, IsLiteral, single_quote, double_quote}
use Rattle.c_lexer.specs.Spellings.{is_word, IsToken, word, integer, character, string, punctuator, IsLongest}
use Rattle.c_lexer.proofs.Fronts.{both, find_passes, mark_row, is_plain_front, is_plain_mark, marks_are_plain}
use Rattle.c_lexer.proofs.Tests.{is_literal, literal_passes, literal_middle}
use Rattle.c_lexer.proofs.Constants.{constant_read}
use Rattle.c_lexer.proofs.MarkTexts.{mark_read}

-- ---- escapes

-- a run of a class, as long as it can be up to k bytes
pub record IsRun (p : ℕ → Bool) (k : ℕ) (digits rest : List ℕ) : Type 0 where
  pub most : length digits ≤ k
  pub each : AllByRecursion (λ b. p b ≡ true) digits
  pub whole : (length digits ≡ k) ⊎ EndsBefore p rest

pub one_run : (p : ℕ → Bool) (k : ℕ) (ds rs es ss : List ℕ) → IsRun p k ds rs → IsRun p k es ss → ds ++ rs ≡ es ++ ss → (ds ≡ es) × (rs ≡ ss)
one_run p k [] rs [] ss u v e = (refl, e)
one_run p k [] rs (c ∷ es) ss u v e = absurd (stops u.whole)
  where
    stops : (zero ≡ k) ⊎ EndsBefore p rs → ⊥
    stops (inl h) = let most = v.most in omega (arith, h, most)
    stops (inr h) = let end : EndsBefore p (c ∷ (es ++ ss)) = subst (EndsBefore p) e h in absurd (cc (sym end ∙ v.each.0))
one_run p k (c ∷ ds) rs [] ss u v e = absurd (stops v.whole)
  where
    stops : (zero ≡ k) ⊎ EndsBefore p ss → ⊥
    stops (inl h) = let most = u.most in omega (arith, h, most)
    stops (inr h) = let end : EndsBefore p (c ∷ (ds ++ rs)) = subst (EndsBefore p) (sym e) h in absurd (cc (sym end ∙ u.each.0))
one_run p zero (c ∷ ds) rs (d ∷ es) ss u v e = let most = u.most in absurd (omega (arith, most))
one_run p (suc k) (c ∷ ds) rs (d ∷ es) ss u v e =
    let rest = one_run p k ds rs es ss (shorter c ds rs u) (shorter d es ss v) (cc e) in
    (cc (e, rest.0), rest.1)
  where
    shorter : (b : ℕ) (xs ys : List ℕ) → IsRun p (suc k) (b ∷ xs) ys → IsRun p k xs ys
    shorter b xs ys w = record { most = let most = w.most in omega (arith, most); each = w.each.1; whole = less w.whole }
      where
        less : (suc (length xs) ≡ suc k) ⊎ EndsBefore p ys → (length xs ≡ k) ⊎ EndsBefore p ys
        less (inl h) = inl (omega (arith, h))
        less (inr h) = inr h

pub octal_run : (ds rs : List ℕ) → IsOctal ds rs → IsRun is_octal 3 ds rs
octal_run ds rs o = record { most = o.most; each = o.each; whole = o.whole }

pub hexadecimal_run : (k : ℕ) (ds rs : List ℕ) → length ds ≤ k → IsHexadecimal ds rs → IsRun is_hexadecimal k ds rs
hexadecimal_run k ds rs le o = record { most = le; each = o.each; whole = inr o.whole }

-- a simple escape is no octal digit
escapes_are_not_octal : list_all (λ e. not (is_octal e.0)) escapes ≡ true
escapes_are_not_octal = refl

simple_is_not_octal : (b value : ℕ) → escape_value b ≡ Some value → is_octal b ≡ true → ⊥
simple_is_not_octal b value e digit = at (find (λ x. x.0 == b) escapes) refl e
  where
    at : (found : Option (ℕ × ℕ)) → find (λ x. x.0 == b) escapes ≡ found → option_map (λ x. x.1) found ≡ Some value → ⊥
    at (Some x) h f = let t = find_passes (λ y. not (is_octal y.0)) (λ y. y.0 == b) escapes x escapes_are_not_octal h in let same = t.1 in let not_octal = t.0 in grind (arith, nat_tests)
    at None h f = absurd (cc f)

-- what an octal escape begins with
pub octal_begins : (b : ℕ) (rest ds rs : List ℕ) → b ∷ rest ≡ ds ++ rs → IsOctal ds rs → is_octal b ≡ true
octal_begins b rest [] rs e o = let some = o.some in absurd (omega (arith, some))
octal_begins b rest (d ∷ ds) rs e o = let same : d ≡ b = cc e in subst (λ x. is_octal x ≡ true) same o.each.0

pub simple_or_octal : (b value : ℕ) (rest ds rs : List ℕ) → escape_value b ≡ Some value → b ∷ rest ≡ ds ++ rs → IsOctal ds rs → ⊥
simple_or_octal b value rest ds rs h e o = simple_is_not_octal b value h (octal_begins b rest ds rs e o)

pub simple_or_hexadecimal : (b value : ℕ) (rest more : List ℕ) → escape_value b ≡ Some value → b ∷ rest ≡ 120 ∷ more → ⊥
simple_or_hexadecimal b value rest more h e =
    let same : b ≡ 120 = cc e in
    let none : None ≡ Some value = subst (λ x. escape_value x ≡ Some value) same h in
    absurd (cc none)

pub octal_or_hexadecimal : (text ds rs more : List ℕ) → text ≡ ds ++ rs → IsOctal ds rs → text ≡ 120 ∷ more → ⊥
octal_or_hexadecimal text ds rs more e o f = absurd (cc (octal_begins 120 more ds rs (sym f ∙ e) o))

-- the text between quotes stands for one list of bytes
pub one_meaning : (text bs cs : List ℕ) → StandsFor text bs → StandsFor text cs → bs ≡ cs
one_meaning _ _ _ nothing nothing = refl
one_meaning _ _ _ (plain b rest bs h s) (plain _ _ cs g t) = ap (λ xs. b ∷ xs) (one_meaning rest bs cs s t)
one_meaning _ _ _ (plain b rest bs h s) (simple c v more cs g t) = absurd (cc h)
one_meaning _ _ _ (plain b rest bs h s) (octal text ds more cs e o le t) = absurd (cc h)
one_meaning _ _ _ (plain b rest bs h s) (hexadecimal text ds more cs e o le t) = absurd (cc h)
one_meaning _ _ _ (simple c v more bs g s) (plain b rest cs h t) = absurd (cc h)
one_meaning _ _ _ (simple b v rest bs h s) (simple _ w _ cs g t) =
    let same : v ≡ w = cc (h, g) in
    ap (λ x. x ∷ bs) same ∙ ap (λ xs. w ∷ xs) (one_meaning rest bs cs s t)
one_meaning _ _ _ (simple b v rest bs h s) (octal _ ds more cs e o le t) = absurd (simple_or_octal b v rest ds more h e o)
one_meaning _ _ _ (simple b v rest bs h s) (hexadecimal _ ds more cs e o le t) = absurd (simple_or_hexadecimal b v rest (ds ++ more) h e)
one_meaning _ _ _ (octal text ds more bs e o le s) (plain b rest cs h t) = absurd (cc h)
one_meaning _ _ _ (octal text ds more bs e o le s) (simple b v rest cs h t) = absurd (simple_or_octal b v rest ds more h e o)
one_meaning _ _ _ (octal text ds rs bs e o le s) (octal _ es ss cs f p ge t) =
    let same = one_run is_octal 3 ds rs es ss (octal_run ds rs o) (octal_run es ss p) (sym e ∙ f) in
    ap (λ xs. digits_value 8 xs ∷ bs) same.0 ∙ ap (λ xs. digits_value 8 es ∷ xs) (one_meaning rs bs cs s (subst (λ r. StandsFor r cs) (sym same.1) t))
one_meaning _ _ _ (octal text ds rs bs e o le s) (hexadecimal _ es ss cs f p ge t) = absurd (octal_or_hexadecimal text ds rs (es ++ ss) e o f)
one_meaning _ _ _ (hexadecimal text ds rs bs e o le s) (plain b rest cs h t) = absurd (cc h)
one_meaning _ _ _ (hexadecimal text ds rs bs e o le s) (simple b v rest cs h t) = absurd (simple_or_hexadecimal b v rest (ds ++ rs) h e)
one_meaning _ _ _ (hexadecimal text ds rs bs e o le s) (octal _ es ss cs f p ge t) = absurd (octal_or_hexadecimal text es ss (ds ++ rs) f p e)
one_meaning _ _ _ (hexadecimal text ds rs bs e o le s) (hexadecimal _ es ss cs f p ge t) =
    let most = length ds + length es in
    let same = one_run is_hexadecimal most ds rs es ss (hexadecimal_run most ds rs (omega arith) o) (hexadecimal_run most es ss (omega arith) p) (cc (sym e ∙ f)) in
    ap (λ xs. digits_value 16 xs ∷ bs) same.0 ∙ ap (λ xs. digits_value 16 es ∷ xs) (one_meaning rs bs cs s (subst (λ r. StandsFor r cs) (sym same.1) t))

-- ---- kinds

-- a class for each way to begin: 0 a word, 1 a number run, 2 and 3 the two literals, 4 a mark
abbrev pub by_tests : Bool → Bool → Bool → Bool → ℕ
by_tests true single double number = 0
by_tests false true double number = 2
by_tests false false true number = 3
by_tests false false false true = 1
by_tests false false false false = 4

abbrev pub class_of : List ℕ → ℕ
class_of [] = 5
class_of (a ∷ rest) = by_tests (is_nondigit a) (a == single_quote) (a == double_quote) (begins_number (a ∷ rest))

pub word_class : (text : List ℕ) → is_word text ≡ true → class_of text ≡ 0
word_class [] h = absurd (cc h)
word_class (a ∷ rest) h = ap (λ b. by_tests b (a == single_quote) (a == double_quote) (begins_number (a ∷ rest))) (both (is_nondigit a) _ h).0

pub number_class : (text : List ℕ) → is_number_run text ≡ true → class_of text ≡ 1
number_class [] h = absurd (cc h)
number_class (a ∷ rest) h =
    let begins = (both (begins_number (a ∷ rest)) _ h).0 in
    let tests = digits rest begins in
    ap (λ b. by_tests b (a == single_quote) (a == double_quote) (begins_number (a ∷ rest))) tests.0
    ∙ ap (λ b. by_tests false b (a == double_quote) (begins_number (a ∷ rest))) tests.1
    ∙ ap (λ b. by_tests false false b (begins_number (a ∷ rest))) tests.2
    ∙ ap (by_tests false false false) begins
  where
    digits : (more : List ℕ) → begins_number (a ∷ more) ≡ true → (is_nondigit a ≡ false) × ((a == single_quote) ≡ false) × ((a == double_quote) ≡ false)
    digits [] b = (grind (arith, nat_tests), grind (arith, nat_tests), grind (arith, nat_tests))
    digits (c ∷ more) b = (grind (arith, nat_tests), grind (arith, nat_tests), grind (arith, nat_tests))

pub character_class : (text : List ℕ) → is_literal single_quote text ≡ true → class_of text ≡ 2
character_class [] h = absurd (cc h)
character_class (a ∷ rest) h =
    let first = (both (a == single_quote) _ (both (nat_le 2 (length (a ∷ rest))) _ h).1).0 in
    let letter : is_nondigit a ≡ false = grind (arith, nat_tests) in
    ap (λ b. by_tests b (a == single_quote) (a == double_quote) (begins_number (a ∷ rest))) letter
    ∙ ap (λ b. by_tests false b (a == double_quote) (begins_number (a ∷ rest))) first

pub string_class : (text : List ℕ) → is_literal double_quote text ≡ true → class_of text ≡ 3
string_class [] h = absurd (cc h)
string_class (a ∷ rest) h =
    let first = (both (a == double_quote) _ (both (nat_le 2 (length (a ∷ rest))) _ h).1).0 in
    let letter : is_nondigit a ≡ false = grind (arith, nat_tests) in
    let single : (a == single_quote) ≡ false = grind (arith, nat_tests) in
    ap (λ b. by_tests b (a == single_quote) (a == double_quote) (begins_number (a ∷ rest))) letter
    ∙ ap (λ b. by_tests false b (a == double_quote) (begins_number (a ∷ rest))) single
    ∙ ap (λ b. by_tests false false b (begins_number (a ∷ rest))) first

pub is_not : (b : Bool) → not b ≡ true → b ≡ false
is_not true e = absurd (cc e)
is_not false e = refl

pub punctuator_class : (text : List ℕ) (mark : Punct) → mark_of text ≡ Some mark → class_of text ≡ 4
punctuator_class text mark h =
    let m = mark_row is_plain_mark text marks_are_plain (ap is_some h) in
    plain_class text (subst (λ t. (is_plain_front t && not (begins_number t)) ≡ true) m.same m.passes)
  where
    plain_class : (t : List ℕ) → (is_plain_front t && not (begins_number t)) ≡ true → class_of t ≡ 4
    plain_class [] e = absurd (cc e)
    plain_class (a ∷ rest) e =
        let parts = both (is_plain_front (a ∷ rest)) _ e in
        let front = parts.0 in
        let letter : is_nondigit a ≡ false = grind (arith, nat_tests) in
        let single : (a == single_quote) ≡ false = grind (arith, nat_tests) in
        let double : (a == double_quote) ≡ false = grind (arith, nat_tests) in
        ap (λ b. by_tests b (a == single_quote) (a == double_quote) (begins_number (a ∷ rest))) letter
        ∙ ap (λ b. by_tests false b (a == double_quote) (begins_number (a ∷ rest))) single
        ∙ ap (λ b. by_tests false false b (begins_number (a ∷ rest))) double
        ∙ ap (by_tests false false false) (is_not (begins_number (a ∷ rest)) parts.1)

-- the class of the token of a spelling
abbrev pub token_class : (text : List ℕ) (k : TokenKind) → IsToken text k → ℕ
token_class _ _ (word t h) = 0
token_class _ _ (integer t v y h e) = 1
token_class _ _ (character t i v h s) = 2
token_class _ _ (string t i bs h s) = 3
token_class _ _ (punctuator t m h) = 4

pub token_is_of_class : (text : List ℕ) (k : TokenKind) (p : IsToken text k) → class_of text ≡ token_class text k p
token_is_of_class _ _ (word t h) = word_class t h
token_is_of_class _ _ (integer t v y h e) = number_class t h
token_is_of_class _ _ (character t i v h s) = character_class t (literal_passes single_quote i t h)
token_is_of_class _ _ (string t i bs h s) = string_class t (literal_passes double_quote i t h)
token_is_of_class _ _ (punctuator t m h) = punctuator_class t m (ap mark_of h ∙ mark_read m)

same_some : {X : Type 0} (x y : X) → Some x ≡ Some y → x ≡ y
same_some x y e = cc e

-- a literal has one inside
one_inside : (quote : ℕ) (text i j : List ℕ) → IsLiteral quote i text → IsLiteral quote j text → i ≡ j
one_inside quote text i j l k = sym (literal_middle quote i text l) ∙ literal_middle quote j text k

-- a spelling stands for one token at most
pub one_token : (text : List ℕ) (k l : TokenKind) → IsToken text k → IsToken text l → k ≡ l
one_token text k l p q = same text k l p q (sym (token_is_of_class text k p) ∙ token_is_of_class text l q)
  where
    same : (t : List ℕ) (m n : TokenKind) (u : IsToken t m) (v : IsToken t n) → token_class t m u ≡ token_class t n v → m ≡ n
    same _ _ _ (word t h1) (word _ h2) e = refl
    same _ _ _ (word t h1) (integer _ v2 y2 h2 e2) e = absurd (omega (arith, e))
    same _ _ _ (word t h1) (character _ i2 v2 h2 s2) e = absurd (omega (arith, e))
    same _ _ _ (word t h1) (string _ i2 bs2 h2 s2) e = absurd (omega (arith, e))
    same _ _ _ (word t h1) (punctuator _ m2 h2) e = absurd (omega (arith, e))
    same _ _ _ (integer t v1 y1 h1 e1) (word _ h2) e = absurd (omega (arith, e))
    same _ _ _ (integer t v1 y1 h1 e1) (integer _ v2 y2 h2 e2) e = let pair : ◌≡◌ {A = ℕ × IntType} (v1, y1) (v2, y2) = same_some (v1, y1) (v2, y2) (sym (constant_read t v1 y1 e1) ∙ constant_read t v2 y2 e2) in ap (λ x. kind.Int x.0 x.1) pair
    same _ _ _ (integer t v1 y1 h1 e1) (character _ i2 v2 h2 s2) e = absurd (omega (arith, e))
    same _ _ _ (integer t v1 y1 h1 e1) (string _ i2 bs2 h2 s2) e = absurd (omega (arith, e))
    same _ _ _ (integer t v1 y1 h1 e1) (punctuator _ m2 h2) e = absurd (omega (arith, e))
    same _ _ _ (character t i1 v1 h1 s1) (word _ h2) e = absurd (omega (arith, e))
    same _ _ _ (character t i1 v1 h1 s1) (integer _ v2 y2 h2 e2) e = absurd (omega (arith, e))
    same _ _ _ (character t i1 v1 h1 s1) (character _ i2 v2 h2 s2) e = let value : v1 ≡ v2 = cc (one_meaning i1 (v1 ∷ []) (v2 ∷ []) s1 (subst (λ i. StandsFor i (v2 ∷ [])) (one_inside single_quote t i2 i1 h2 h1) s2)) in ap kind.Char value
    same _ _ _ (character t i1 v1 h1 s1) (string _ i2 bs2 h2 s2) e = absurd (omega (arith, e))
    same _ _ _ (character t i1 v1 h1 s1) (punctuator _ m2 h2) e = absurd (omega (arith, e))
    same _ _ _ (string t i1 bs1 h1 s1) (word _ h2) e = absurd (omega (arith, e))
    same _ _ _ (string t i1 bs1 h1 s1) (integer _ v2 y2 h2 e2) e = absurd (omega (arith, e))
    same _ _ _ (string t i1 bs1 h1 s1) (character _ i2 v2 h2 s2) e = absurd (omega (arith, e))
    same _ _ _ (string t i1 bs1 h1 s1) (string _ i2 bs2 h2 s2) e = ap kind.Str (one_meaning i1 bs1 bs2 s1 (subst (λ i. StandsFor i bs2) (one_inside double_quote t i2 i1 h2 h1) s2))
    same _ _ _ (string t i1 bs1 h1 s1) (punctuator _ m2 h2) e = absurd (omega (arith, e))
    same _ _ _ (punctuator t m1 h1) (word _ h2) e = absurd (omega (arith, e))
    same _ _ _ (punctuator t m1 h1) (integer _ v2 y2 h2 e2) e = absurd (omega (arith, e))
    same _ _ _ (punctuator t m1 h1) (character _ i2 v2 h2 s2) e = absurd (omega (arith, e))
    same _ _ _ (punctuator t m1 h1) (string _ i2 bs2 h2 s2) e = absurd (omega (arith, e))
    same _ _ _ (punctuator t m1 h1) (punctuator _ m2 h2) e = let mark : m1 ≡ m2 = cc (sym (mark_read m1) ∙ ap mark_of (sym h1 ∙ h2) ∙ mark_read m2) in ap kind.Punct mark

-- and a text has one longest spelling
pub one_longest : (text : List ℕ) (m n : ℕ) → IsLongest text m → IsLongest text n → m ≡ n
one_longest text m n u v = ⊎_elim (λ lt. absurd (apart m n u v lt)) (λ ge. ⊎_elim (λ lt. absurd (apart n m v u lt)) (λ le. omega (arith, ge, le)) (cases_lt n m)) (cases_lt m n)
  where
    apart : (a b : ℕ) → IsLongest text a → IsLongest text b → a < b → ⊥
    apart a b x y lt = x.longest b lt y.within y.spelled
