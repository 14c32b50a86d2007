-- The first character of a text between quotes.
use Rattle.std.proofs.Common.{◌≡◌, ℕ, zero, suc, ◌+◌, ◌<◌, ◌≤◌, ◌⊎◌, inl, inr, Bool, true, false, List, [], ◌∷◌, ◌++◌, ◌==◌, Option, Some, None, refl, sym, ap, ◌∙◌, subst, arith, length, take, drop, length-append, length-take, cond, ⊎_elim}
use Rattle.std.specs.Prelude.{IfSome, IfNone}
use Rattle.std.specs.List.{prefix_len}
use Rattle.std.specs.Str.Parse.{digits_value}
use Rattle.std.proofs.lemmas.Bool.Decides.{nat_tests}
use Rattle.std.proofs.lemmas.List.{take_all, drop_all, length-take-le, take-append-drop}
use Rattle.std.proofs.lemmas.List.Sums.{prefix_len-le-length}
use Rattle.c_lexer.specs.Characters.{is_octal, is_hexadecimal}
use Rattle.c_lexer.specs.Literals.{backslash, EndsBefore, IsOctal, IsHexadecimal, StandsFor, plain, simple, octal, hexadecimal, escape_value}
use Rattle.c_lexer.specs.Readings.{Begins, HasNone}
use Rattle.c_lexer.proofs.OneToken.{IsRun, one_run, octal_run, hexadecimal_run, simple_or_octal, simple_or_hexadecimal, octal_or_hexadecimal}

pub begins_plain : (b : ℕ) (rest : List ℕ) → (b == backslash) ≡ false → Begins (b ∷ rest) b rest
begins_plain b rest h = record { stands = λ bytes s. plain b rest bytes h s; only = λ bytes s. at b rest bytes s h refl; shorter = omega arith }
  where
    at : (c : ℕ) (more bytes : List ℕ) → StandsFor (c ∷ more) bytes → (c == backslash) ≡ false → c ≡ b → (ws : List ℕ) × (bytes ≡ b ∷ ws) × StandsFor more ws
    at _ _ _ (plain c more ws g s) k e = (ws, ap (λ x. x ∷ ws) e, s)
    at _ _ _ (simple c v more ws g s) k e = absurd (cc k)
    at _ _ _ (octal text ds more ws f o le s) k e = absurd (cc k)
    at _ _ _ (hexadecimal text ds more ws f o le s) k e = absurd (cc k)

pub begins_simple : (b value : ℕ) (rest : List ℕ) → escape_value b ≡ Some value → Begins (backslash ∷ b ∷ rest) value rest
begins_simple b value rest h = record { stands = λ bytes s. simple b value rest bytes h s; only = λ bytes s. at (b ∷ rest) bytes s refl; shorter = omega arith }
  where
    at : (text bytes : List ℕ) → StandsFor (backslash ∷ text) bytes → text ≡ b ∷ rest → (ws : List ℕ) × (bytes ≡ value ∷ ws) × StandsFor rest ws
    at _ _ (plain _ more ws g s) e = absurd (cc g)
    at _ _ (simple c v more ws g s) e =
        let same : c ≡ b = cc e in
        let one : value ≡ v = cc (subst (λ x. escape_value x ≡ Some v) same g, h) in
        (ws, ap (λ x. x ∷ ws) (sym one), subst (λ r. StandsFor r ws) (cc e) s)
    at _ _ (octal text ds more ws f o le s) e = absurd (simple_or_octal b value rest ds more h (sym e ∙ f) o)
    at _ _ (hexadecimal text ds more ws f o le s) e = absurd (simple_or_hexadecimal b value rest (ds ++ more) h (sym e ∙ f))

pub begins_octal : (text ds rest : List ℕ) → text ≡ ds ++ rest → IsOctal ds rest → digits_value 8 ds ≤ 255 → Begins (backslash ∷ text) (digits_value 8 ds) rest
begins_octal text ds rest h o le = record {
  stands = λ bytes s. octal text ds rest bytes h o le s;
  only = λ bytes s. at text bytes s h;
  shorter = let some = o.some in omega (arith, ap length h, length-append ds rest, some);
}
  where
    at : (t bytes : List ℕ) → StandsFor (backslash ∷ t) bytes → t ≡ ds ++ rest → (ws : List ℕ) × (bytes ≡ digits_value 8 ds ∷ ws) × StandsFor rest ws
    at _ _ (plain _ more ws g s) e = absurd (cc g)
    at _ _ (simple c v more ws g s) e = absurd (simple_or_octal c v more ds rest g e o)
    at _ _ (octal t es more ws f p ge s) e =
        let same = one_run is_octal 3 es more ds rest (octal_run es more p) (octal_run ds rest o) (sym f ∙ e) in
        (ws, ap (λ xs. digits_value 8 xs ∷ ws) same.0, subst (λ r. StandsFor r ws) same.1 s)
    at _ _ (hexadecimal t es more ws f p ge s) e = absurd (octal_or_hexadecimal t ds rest (es ++ more) e o f)

pub begins_hexadecimal : (text ds rest : List ℕ) → text ≡ 120 ∷ (ds ++ rest) → IsHexadecimal ds rest → digits_value 16 ds ≤ 255 → Begins (backslash ∷ text) (digits_value 16 ds) rest
begins_hexadecimal text ds rest h o le = record {
  stands = λ bytes s. hexadecimal text ds rest bytes h o le s;
  only = λ bytes s. at text bytes s h;
  shorter = let some = o.some in omega (arith, ap length h, length-append ds rest, some);
}
  where
    at : (t bytes : List ℕ) → StandsFor (backslash ∷ t) bytes → t ≡ 120 ∷ (ds ++ rest) → (ws : List ℕ) × (bytes ≡ digits_value 16 ds ∷ ws) × StandsFor rest ws
    at _ _ (plain _ more ws g s) e = absurd (cc g)
    at _ _ (simple c v more ws g s) e = absurd (simple_or_hexadecimal c v more (ds ++ rest) g e)
    at _ _ (octal t es more ws f p ge s) e = absurd (octal_or_hexadecimal t es more (ds ++ rest) f p e)
    at _ _ (hexadecimal t es more ws f p ge s) e =
        let most = length ds + length es in
        let same = one_run is_hexadecimal most es more ds rest (hexadecimal_run most es more (omega arith) p) (hexadecimal_run most ds rest (omega arith) o) (cc (sym f ∙ e)) in
        (ws, ap (λ xs. digits_value 16 xs ∷ ws) same.0, subst (λ r. StandsFor r ws) same.1 s)

-- the longest run of a class, up to k bytes
pub run_of : (p : ℕ → Bool) (k : ℕ) (text : List ℕ) → IsRun p k (take (prefix_len p (take k text)) text) (drop (prefix_len p (take k text)) text)
run_of p zero text = record { most = omega arith; each = tt; whole = inl refl }
run_of p (suc k) [] = record { most = omega arith; each = tt; whole = inr tt }
run_of p (suc k) (b ∷ text) = at (run_of p k text) (p b) refl
  where
    at : IsRun p k (take (prefix_len p (take k text)) text) (drop (prefix_len p (take k text)) text) → (t : Bool) → p b ≡ t → IsRun p (suc k) (take (cond t (1 + prefix_len p (take k text)) 0) (b ∷ text)) (drop (cond t (1 + prefix_len p (take k text)) 0) (b ∷ text))
    at rest true e =
        let next : suc (prefix_len p (take k text)) ≡ 1 + prefix_len p (take k text) = omega arith in
        subst (λ j. IsRun p (suc k) (take j (b ∷ text)) (drop j (b ∷ text))) next (record {
          most = let most = rest.most in omega (arith, most);
          each = (e, rest.each);
          whole = ⊎_elim (λ h. inl (ap suc h)) (λ h. inr h) rest.whole;
        })
    at rest false e = record { most = omega arith; each = tt; whole = inr e }

prefix_of_all : (p : ℕ → Bool) (text : List ℕ) → prefix_len p (take (length text) text) ≡ prefix_len p text
prefix_of_all p text = ap (prefix_len p) (take_all (length text) text (omega arith))

length_of_run : (p : ℕ → Bool) (text : List ℕ) → length (take (prefix_len p text) text) ≡ prefix_len p text
length_of_run p text = length-take-le (prefix_len p text) text (prefix_len-le-length p text)

octal_size : (text : List ℕ) → length (take (prefix_len is_octal (take 3 text)) text) ≡ prefix_len is_octal (take 3 text)
octal_size text =
    let within = prefix_len-le-length is_octal (take 3 text) in
    length-take-le (prefix_len is_octal (take 3 text)) text (omega (arith, within, length-take 3 text))

-- what an octal escape reads
reads_octal : (text : List ℕ) → 0 < prefix_len is_octal (take 3 text) → IsOctal (take (prefix_len is_octal (take 3 text)) text) (drop (prefix_len is_octal (take 3 text)) text)
reads_octal text h = let r = run_of is_octal 3 text in record { some = omega (arith, h, octal_size text); most = r.most; each = r.each; whole = r.whole }

-- and a hexadecimal one
reads_hexadecimal : (text : List ℕ) → IsRun is_hexadecimal (length text) (take (prefix_len is_hexadecimal text) text) (drop (prefix_len is_hexadecimal text) text)
reads_hexadecimal text = subst (λ n. IsRun is_hexadecimal (length text) (take n text) (drop n text)) (prefix_of_all is_hexadecimal text) (run_of is_hexadecimal (length text) text)

-- ---- what the two escapes with digits give

module _ (text rest : List ℕ) (first size : ℕ) (split : text ≡ first ∷ rest) where
  pub hexadecimal_found : (value : ℕ) (next : List ℕ) → first ≡ 120 → size ≡ prefix_len is_hexadecimal rest → 0 < size → value ≡ digits_value 16 (take size rest) → value ≤ 255 → next ≡ drop size rest → Begins (backslash ∷ text) value next
  hexadecimal_found value next x s some v le n =
      let r = subst (λ j. IsRun is_hexadecimal (length rest) (take j rest) (drop j rest)) (sym s) (reads_hexadecimal rest) in
      let size_is = ap (λ j. length (take j rest)) s ∙ length_of_run is_hexadecimal rest ∙ sym s in
      let whole : text ≡ 120 ∷ (take size rest ++ drop size rest) = split ∙ ap (λ b. b ∷ rest) x ∙ ap (λ t. 120 ∷ t) (sym (take-append-drop size rest)) in
      let b = begins_hexadecimal text (take size rest) (drop size rest) whole (record { some = omega (arith, some, size_is); each = r.each; whole = ends r.whole }) (omega (arith, le, v)) in
      subst (λ y. Begins (backslash ∷ text) y next) (sym v) (subst (Begins (backslash ∷ text) (digits_value 16 (take size rest))) (sym n) b)
    where
      ends : (length (take size rest) ≡ length rest) ⊎ EndsBefore is_hexadecimal (drop size rest) → EndsBefore is_hexadecimal (drop size rest)
      ends (inr h) = h
      ends (inl h) = subst (EndsBefore is_hexadecimal) (sym (drop_all size rest (omega (arith, h, length-take size rest)))) tt

  pub hexadecimal_none : first ≡ 120 → size ≡ prefix_len is_hexadecimal rest → (size ≡ 0) ⊎ (255 < digits_value 16 (take size rest)) → HasNone (backslash ∷ text)
  hexadecimal_none x s why bytes h = at text bytes h (split ∙ ap (λ b. b ∷ rest) x)
    where
      at : (t ws : List ℕ) → StandsFor (backslash ∷ t) ws → t ≡ 120 ∷ rest → (backslash ∷ text) ≡ []
      at _ _ (plain _ more ws g k) e = absurd (cc g)
      at _ _ (simple c v more ws g k) e = absurd (simple_or_hexadecimal c v more rest g e)
      at _ _ (octal t ds more ws f o le k) e = absurd (octal_or_hexadecimal t ds more rest f o e)
      at _ _ (hexadecimal t ds more ws f o le k) e =
          let r = subst (λ j. IsRun is_hexadecimal (length rest) (take j rest) (drop j rest)) (sym s) (reads_hexadecimal rest) in
          let tail : rest ≡ ds ++ more = cc (sym e ∙ f) in
          let same = one_run is_hexadecimal (length rest) ds more (take size rest) (drop size rest) (hexadecimal_run (length rest) ds more (omega (arith, ap length tail, length-append ds more)) o) r (sym tail ∙ sym (take-append-drop size rest)) in
          let some = o.some in
          absurd (⊎_elim (λ z. let short = ap length same.0 in omega (arith, z, short, some, length-take size rest)) (λ big. let value = ap (digits_value 16) same.0 in omega (arith, big, value, le)) why)

  pub octal_found : (value : ℕ) (next : List ℕ) → size ≡ prefix_len is_octal (take 3 text) → 0 < size → value ≡ digits_value 8 (take size text) → value ≤ 255 → next ≡ drop size text → Begins (backslash ∷ text) value next
  octal_found value next s some v le n =
      let o = subst (λ j. IsOctal (take j text) (drop j text)) (sym s) (reads_octal text (omega (arith, some, s))) in
      let b = begins_octal text (take size text) (drop size text) (sym (take-append-drop size text)) o (omega (arith, le, v)) in
      subst (λ y. Begins (backslash ∷ text) y next) (sym v) (subst (Begins (backslash ∷ text) (digits_value 8 (take size text))) (sym n) b)

  pub octal_none : (first ≡ 120 → ⊥) → escape_value first ≡ None → size ≡ prefix_len is_octal (take 3 text) → (size ≡ 0) ⊎ (255 < digits_value 8 (take size text)) → HasNone (backslash ∷ text)
  octal_none x no_escape s why bytes h = at text bytes h refl
    where
      at : (t ws : List ℕ) → StandsFor (backslash ∷ t) ws → t ≡ text → (backslash ∷ text) ≡ []
      at _ _ (plain _ more ws g k) e = absurd (cc g)
      at _ _ (simple c v more ws g k) e =
          let same : c ≡ first = cc (e ∙ split) in absurd (cc (sym no_escape ∙ subst (λ y. escape_value y ≡ Some v) same g))
      at _ _ (octal t ds more ws f o le k) e =
          let r = subst (λ j. IsRun is_octal 3 (take j text) (drop j text)) (sym s) (run_of is_octal 3 text) in
          let same = one_run is_octal 3 ds more (take size text) (drop size text) (octal_run ds more o) r (sym f ∙ e ∙ sym (take-append-drop size text)) in
          let some = o.some in
          absurd (⊎_elim (λ z. let short = ap length same.0 in omega (arith, z, short, some, length-take size text)) (λ big. let value = ap (digits_value 8) same.0 in omega (arith, big, value, le)) why)
      at _ _ (hexadecimal t ds more ws f o le k) e = absurd (x (cc (sym split ∙ sym e ∙ f)))

-- ---- answers

pub if_some : {X : Type 0} (r : Option X) (P Q : X → Type 0) → ((x : X) → P x → Q x) → IfSome r P → IfSome r Q
if_some None P Q f h = tt
if_some (Some x) P Q f h = f x h

pub if_none : {X : Type 0} (r : Option X) (P Q : Type 0) → (P → Q) → IfNone r P → IfNone r Q
if_none None P Q f h = f h
if_none (Some x) P Q f h = tt

pub is_other : (b c : ℕ) → (b ≡ c → ⊥) → (b == c) ≡ false
is_other b c h = grind (arith, nat_tests)
