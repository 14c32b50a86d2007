-- What a reader gave in several reads, and how many bytes may still come.
use Rattle.std.proofs.Common.{◌≡◌, ℕ, ◌+◌, ◌-◌, ◌<◌, ◌≤◌, List, [], ◌++◌, length, take, Option, Some, None, refl, sym, ap, ◌∙◌, subst, min, arith, append_assoc, length-append}
use Rattle.std.specs.Io.KnownBytes.{Consumes, Keeps}
use Rattle.std.proofs.lemmas.List.{append-nil, length-take, length-take-le, take-append-le}
use Rattle.cp_base.specs.Taking.{AppendsRead}

-- one read after another
pub Consumes-append : (left now then : Option (List ℕ)) (xs ys : List ℕ) → Consumes left now xs → Consumes now then ys → Consumes left then (xs ++ ys)
Consumes-append None now then xs ys h k = tt
Consumes-append (Some ls) None then xs ys h k = absurd h
Consumes-append (Some ls) (Some ns) None xs ys h k = absurd k
Consumes-append (Some ls) (Some ns) (Some ts) xs ys h k = h ∙ ap (λ r. xs ++ r) k ∙ sym (append_assoc xs ys ts)

Consumes-none : (now : Option (List ℕ)) → Consumes now now []
Consumes-none None = tt
Consumes-none (Some ns) = refl

Consumes-kept : (left now then : Option (List ℕ)) (xs : List ℕ) → Consumes left now xs → Keeps now then → Consumes left then xs
Consumes-kept None now then xs h k = tt
Consumes-kept (Some ls) None then xs h k = absurd h
Consumes-kept (Some ls) (Some ns) None xs h k = absurd k
Consumes-kept (Some ls) (Some ns) (Some ts) xs h k = h ∙ ap (λ r. xs ++ r) (sym k)

-- what was read came behind the old bytes, and `room` more bytes may come, up to one past the limit
pub record HasRead (left now : Option (List ℕ)) (old new : List ℕ) (room limit : ℕ) : Type 0 where
  pub more : List ℕ
  pub grown : new ≡ old ++ more
  pub count : length more + room ≡ limit + 1
  pub given : Consumes left now more

pub HasRead-none : (left : Option (List ℕ)) (old : List ℕ) (limit : ℕ) → HasRead left left old old (limit + 1) limit
HasRead-none left old limit = record { more = []; grown = sym (append-nil old); count = omega arith; given = Consumes-none left }

-- the first bytes of a buffer that was read into came behind
pub HasRead-more : (left now then : Option (List ℕ)) (old new text piece buffer rest : List ℕ) (room less limit size asked n : ℕ)
    → HasRead left now old new room limit → Consumes now then (take n buffer) → n ≤ length buffer → length buffer ≡ length (take asked piece) → asked ≡ min room size
    → text ≡ new ++ take n (buffer ++ rest) → less ≡ room - n → HasRead left then old text less limit
HasRead-more left now then old new text piece buffer rest room less limit size asked n h read within kept fits grew fewer =
    let front = take-append-le n buffer rest within in
    record {
      more = h.more ++ take n buffer;
      grown = grew ∙ ap (λ b. new ++ b) front ∙ ap (λ b. b ++ take n buffer) h.grown ∙ append_assoc old h.more (take n buffer);
      count = let count = h.count in omega (arith, count, kept, fits, within, fewer, length-take asked piece, length-take-le n buffer within, length-append h.more (take n buffer));
      given = Consumes-append left now then h.more (take n buffer) h.given read;
    }

-- a read that failed gave nothing
pub HasRead-kept : (left now then : Option (List ℕ)) (old new text : List ℕ) (room same limit : ℕ) → HasRead left now old new room limit → Keeps now then → text ≡ new → same ≡ room → HasRead left then old text same limit
HasRead-kept left now then old new text room same limit h keeps e f =
    let count = h.count in
    record { more = h.more; grown = e ∙ h.grown; count = omega (arith, count, f); given = Consumes-kept left now then h.more h.given keeps }

-- no more bytes came than the limit
pub HasRead-within : (left now : Option (List ℕ)) (old new : List ℕ) (room limit : ℕ) → HasRead left now old new room limit → 0 < room → (more : List ℕ) × (new ≡ old ++ more) × (length more ≤ limit)
HasRead-within left now old new room limit h some = let count = h.count in (h.more, h.grown, omega (arith, count, some))

-- one byte more came than the limit
pub HasRead-past : (left now : Option (List ℕ)) (old new : List ℕ) (room limit : ℕ) → HasRead left now old new room limit → room ≡ 0 → (more : List ℕ) × (new ≡ old ++ more) × (length more ≡ limit + 1)
HasRead-past left now old new room limit h none = let count = h.count in (h.more, h.grown, omega (arith, count, none))

pub HasRead-front : (left now : Option (List ℕ)) (old new : List ℕ) (room limit : ℕ) → HasRead left now old new room limit → AppendsRead left now old new
HasRead-front left now old new room limit h = (h.more, [], h.grown, subst (Consumes left now) (sym (append-nil h.more)) h.given)

-- what a last read gave is lost
pub HasRead-lost : (left now then : Option (List ℕ)) (old new text lost : List ℕ) (room limit : ℕ) → HasRead left now old new room limit → Consumes now then lost → text ≡ new → AppendsRead left then old text
HasRead-lost left now then old new text lost room limit h read e = (h.more, lost, e ∙ h.grown, Consumes-append left now then h.more lost h.given read)
