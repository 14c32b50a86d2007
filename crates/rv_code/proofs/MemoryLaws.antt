-- Bytes in memory: what is stored is loaded, and a store elsewhere changes nothing.
use Rattle.std.proofs.Common.{◌≡◌, ℕ, zero, suc, ◌+◌, ◌*◌, ◌/◌, ◌%◌, ◌^◌, ◌<◌, ◌≤◌, ◌⊎◌, inl, inr, true, false, cond, refl, ap, ◌∙◌, subst, arith, pow-suc}
use Rattle.std.specs.Prelude.{◌==◌}
use Rattle.std.proofs.lemmas.Bool.Decides.{nat_tests}
use Rattle.rv_code.specs.Machine.{put_at, load_bytes, store_bytes}

pub put_at-same : (f : ℕ → ℕ) (a v : ℕ) → put_at f a v a ≡ v
put_at-same f a v = let e : (a == a) ≡ true = grind (arith, nat_tests) in ap (λ b. cond b v (f a)) e

pub put_at-other : (f : ℕ → ℕ) (a v x : ℕ) → (x < a) ⊎ (a < x) → put_at f a v x ≡ f x
put_at-other f a v x h = let e : (x == a) ≡ false = grind (arith, nat_tests) in ap (λ b. cond b v (f x)) e

-- a byte below those that are stored
pub store_bytes-below : (f : ℕ → ℕ) (a n v x : ℕ) → x < a → store_bytes f a n v x ≡ f x
store_bytes-below f a zero v x h = refl
store_bytes-below f a (suc n) v x h = store_bytes-below (put_at f a (v % 256)) (a + 1) n (v / 256) x (omega (arith, h)) ∙ put_at-other f a (v % 256) x (inl h)

-- a byte above them
pub store_bytes-above : (f : ℕ → ℕ) (a n v x : ℕ) → a + n ≤ x → store_bytes f a n v x ≡ f x
store_bytes-above f a zero v x h = refl
store_bytes-above f a (suc n) v x h = store_bytes-above (put_at f a (v % 256)) (a + 1) n (v / 256) x (omega (arith, h)) ∙ put_at-other f a (v % 256) x (inr (omega (arith, h)))

-- a load of what was stored
pub load_bytes-store_bytes : (f : ℕ → ℕ) (a n v : ℕ) → v < 256 ^ n → load_bytes (store_bytes f a n v) a n ≡ v
load_bytes-store_bytes f a zero v h = omega (arith, h)
load_bytes-store_bytes f a (suc n) v h =
    let fits : v < 256 ^ n * 256 = subst (λ m. v < m) (pow-suc 256 n) h in
    let rest = load_bytes-store_bytes (put_at f a (v % 256)) (a + 1) n (v / 256) (omega (arith, fits)) in
    let first = store_bytes-below (put_at f a (v % 256)) (a + 1) n (v / 256) a (omega arith) ∙ put_at-same f a (v % 256) in
    omega (arith, rest, first)

-- a load beside a byte that changed
pub load_bytes-put_at : (f : ℕ → ℕ) (x v a n : ℕ) → (x < a) ⊎ (a + n ≤ x) → load_bytes (put_at f x v) a n ≡ load_bytes f a n
load_bytes-put_at f x v a zero h = refl
load_bytes-put_at f x v a (suc n) h =
    let first : put_at f x v a ≡ f a = put_at-other f x v a (beside h) in
    let rest = load_bytes-put_at f x v (a + 1) n (later h) in
    omega (arith, first, rest)
  where
    beside : (x < a) ⊎ (a + suc n ≤ x) → (a < x) ⊎ (x < a)
    beside (inl lt) = inr lt
    beside (inr le) = inl (omega (arith, le))

    later : (x < a) ⊎ (a + suc n ≤ x) → (x < a + 1) ⊎ (a + 1 + n ≤ x)
    later (inl lt) = inl (omega (arith, lt))
    later (inr le) = inr (omega (arith, le))
