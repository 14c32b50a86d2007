-- A chain of sealed blocks with one predecessor each that is longer than all sealed blocks never ends.
use Rattle.std.proofs.Common.{◌≡◌, ℕ, zero, suc, ◌<◌, ◌⊎◌, inl, inr, true, List, [], ◌∷◌, length, Some, None, ◌+◌, refl, sym, ap, ◌∙◌, subst, arith}
use Rattle.std.proofs.lemmas.Bool.{cases_eq}
use Rattle.std.specs.List.{slice_get}
use Rattle.ssa_core.specs.Gives.{View, Chain, no_step, step, Gives, written, entered, passed}
use Rattle.ssa_core.specs.Back.{Back, stay, back, CanPass, IsFound, was_written, was_made, ComesTo, there, over}

-- ---- a list of more than m numbers below m has one twice

data Has (x : ℕ) : List ℕ → Type 0 where
  first : {y : ℕ} {ys : List ℕ} → x ≡ y → Has x (y ∷ ys)
  later : {y : ℕ} {ys : List ℕ} → Has x ys → Has x (y ∷ ys)

data Twice : List ℕ → Type 0 where
  now : {x : ℕ} {xs : List ℕ} → Has x xs → Twice (x ∷ xs)
  behind : {x : ℕ} {xs : List ℕ} → Twice xs → Twice (x ∷ xs)

pub data AllBelow (m : ℕ) : List ℕ → Type 0 where
  none : AllBelow m []
  one_more : {x : ℕ} {xs : List ℕ} → x < m → AllBelow m xs → AllBelow m (x ∷ xs)

-- the list is the other one with m put in somewhere, or does not have it
data Without (m : ℕ) : List ℕ → List ℕ → Type 0 where
  taken : {xs : List ℕ} → Without m (m ∷ xs) xs
  kept : {x : ℕ} {xs ys : List ℕ} → Without m xs ys → Without m (x ∷ xs) (x ∷ ys)

has_from : {m x : ℕ} {xs ys : List ℕ} → Without m xs ys → Has x ys → Has x xs
has_from taken h = later h
has_from (kept w) (first e) = first e
has_from (kept w) (later h) = later (has_from w h)

twice_from : {m : ℕ} {xs ys : List ℕ} → Without m xs ys → Twice ys → Twice xs
twice_from taken t = behind t
twice_from (kept w) (now h) = now (has_from w h)
twice_from (kept w) (behind t) = behind (twice_from w t)

without_length : {m : ℕ} {xs ys : List ℕ} → Without m xs ys → length xs ≡ suc (length ys)
without_length taken = refl
without_length (kept w) = ap suc (without_length w)

-- numbers below m + 1: m is not among them, or stands among them once, or twice
data Split (m : ℕ) (xs : List ℕ) : Type 0 where
  not_there : AllBelow m xs → Split m xs
  once : (ys : List ℕ) → Without m xs ys → AllBelow m ys → Split m xs
  twice : Twice xs → Split m xs

split_at : (m : ℕ) (xs : List ℕ) → AllBelow (suc m) xs → Split m xs
split_at m [] none = not_there none
split_at m (x ∷ xs) (one_more less all) = by (cases_eq x m) (split_at m xs all)
  where
    by : (x ≡ m) ⊎ (x ≡ m → ⊥) → Split m xs → Split m (x ∷ xs)
    by (inl e) (not_there below) = once xs (subst (λ y. Without m (y ∷ xs) xs) (sym e) taken) below
    by (inl e) (once ys w below) = twice (now (subst (λ y. Has y xs) (sym e) (stands w)))
      where
        stands : {zs us : List ℕ} → Without m zs us → Has m zs
        stands taken = first refl
        stands (kept v) = later (stands v)
    by (inl e) (twice t) = twice (behind t)
    by (inr d) (not_there below) = not_there (one_more (omega (arith, less, d)) below)
    by (inr d) (once ys w below) = once (x ∷ ys) (kept w) (one_more (omega (arith, less, d)) below)
    by (inr d) (twice t) = twice (behind t)

too_many : (m : ℕ) (xs : List ℕ) → AllBelow m xs → m < length xs → Twice xs
too_many zero [] all more = absurd (omega (arith, more))
too_many zero (x ∷ xs) (one_more less all) more = absurd (omega (arith, less))
too_many (suc m) xs all more = by (split_at m xs all) (too_many m)
  where
    by : Split m xs → ((zs : List ℕ) → AllBelow m zs → m < length zs → Twice zs) → Twice xs
    by (not_there below) fewer = fewer xs below (omega (arith, more))
    by (once ys w below) fewer = twice_from w (fewer ys below (omega (arith, more, without_length w)))
    by (twice t) fewer = t

-- ---- back along a chain

module _ {V : Type 0} (k : View V) where
  -- back from the block, so many sealed blocks with one predecessor follow each other, in which the variable was not written
  pub data Far : ℕ → ℕ → Type 0 where
    near : {b : ℕ} → Far zero b
    far : {n b : ℕ} → (q : ℕ) → k.sealed b ≡ true → k.wrote b ≡ None → k.shape.preds b ≡ q ∷ [] → Far n q → Far (suc n) b

  -- the blocks of the list follow each other back from b to `stop`, each such a one
  pub data Trail : ℕ → List ℕ → ℕ → Type 0 where
    at_stop : {b : ℕ} → Trail b [] b
    onward : {b stop : ℕ} {rest : List ℕ} → (q : ℕ) → k.sealed b ≡ true → k.wrote b ≡ None → k.shape.preds b ≡ q ∷ [] → Trail q rest stop → Trail b (b ∷ rest) stop

  shorter : (n b : ℕ) → Far (suc n) b → Far n b
  shorter zero b (far q s u e c) = near
  shorter (suc n) b (far q s u e c) = far q s u e (shorter n q c)

  -- a chain from a block of the trail is one from its begin
  from_begin : (n b c stop : ℕ) (trail : List ℕ) → Trail b trail stop → Has c trail → Far n c → Far n b
  from_begin n b c stop [] t h chain = elim h [ ]
  from_begin n b c stop (x ∷ rest) (onward q s u e t) (first same) chain = subst (λ y. Far n y) same chain
  from_begin n b c stop (x ∷ rest) (onward q s u e t) (later h) chain = shorter n b (far q s u e (from_begin n q c stop rest t h chain))

  loop : (n b q stop : ℕ) (rest : List ℕ) → k.sealed b ≡ true → k.wrote b ≡ None → k.shape.preds b ≡ q ∷ [] → Trail q rest stop → Has b rest → Far n b
  loop zero b q stop rest s u e t h = near
  loop (suc n) b q stop rest s u e t h = far q s u e (from_begin n q b stop rest t h (loop n b q stop rest s u e t h))

  endless_where_twice : (n b stop : ℕ) (trail : List ℕ) → Trail b trail stop → Twice trail → Far n b
  endless_where_twice n b stop [] t h = elim h [ ]
  endless_where_twice n b stop (x ∷ rest) (onward q s u e t) (now h) = loop n b q stop rest s u e t h
  endless_where_twice n b stop (x ∷ rest) (onward q s u e t) (behind more) = shorter n b (far q s u e (endless_where_twice n q stop rest t more))

  -- ---- the way back, as a trail

  record Blocks (limit n b stop : ℕ) : Type 0 where
    blocks : List ℕ
    trail : Trail b blocks stop
    size : length blocks ≡ n
    below : AllBelow limit blocks

  blocks_of : (limit n b stop : ℕ) → ((c : ℕ) → k.sealed c ≡ true → c < limit) → Back k n b stop → Blocks limit n b stop
  blocks_of limit zero b stop sealed stay = record { blocks = []; trail = at_stop; size = refl; below = none }
  blocks_of limit (suc n) b stop sealed (back q s u e way) =
      let rest = blocks_of limit n q stop sealed way in
      record {
        blocks = b ∷ rest.blocks;
        trail = onward q s u e rest.trail;
        size = ap suc rest.size;
        below = one_more (sealed b s) rest.below;
      }

  -- a way back over more blocks than can be sealed never ends
  pub endless_where_long : (limit steps b stop : ℕ) → ((c : ℕ) → k.sealed c ≡ true → c < limit) → Back k steps b stop → limit < steps → (n : ℕ) → Far n b
  endless_where_long limit steps b stop sealed way more n =
      let all = blocks_of limit steps b stop sealed way in
      endless_where_twice n b stop all.blocks all.trail (too_many limit all.blocks all.below (omega (arith, more, all.size)))

  pub far_chain : (n b : ℕ) → Far (suc n) b → Chain k n b
  far_chain zero b c = no_step
  far_chain (suc n) b (far q s u e (far p s' u' e' c)) = step q s e u' (far_chain n q (far p s' u' e' c))

  one_pred : (p q : ℕ) → p ∷ [] ≡ q ∷ [] → p ≡ q
  one_pred p q h = grind (arith, h)

  -- on a chain without end there is no nearest block
  pub no_nearest : (n b nearest : ℕ) → Back k n b nearest → (CanPass k nearest → ⊥) → Far (suc n) b → ⊥
  no_nearest zero b nearest stay ends (far q s u e c) = ends (record { sealed = s; unwritten = u; before = q; preds = e })
  no_nearest (suc n) b nearest (back q s u e way) ends (far p s' u' e' c) =
      no_nearest n q nearest way ends (subst (λ x. Far (suc n) x) (one_pred p q (sym e' ∙ e)) c)

  -- the nearest block is one
  pub one_nearest : (m n b stop nearest : ℕ) → Back k m b stop → (CanPass k stop → ⊥) → Back k n b nearest → (CanPass k nearest → ⊥) → nearest ≡ stop
  one_nearest zero zero b stop nearest stay ends stay ends' = refl
  one_nearest zero (suc n) b stop nearest stay ends (back q s u e way) ends' = absurd (ends (record { sealed = s; unwritten = u; before = q; preds = e }))
  one_nearest (suc m) zero b stop nearest (back q s u e way) ends stay ends' = absurd (ends' (record { sealed = s; unwritten = u; before = q; preds = e }))
  one_nearest (suc m) (suc n) b stop nearest (back q s u e way) ends (back p s' u' e' way') ends' =
      one_nearest m n q stop nearest way ends (subst (λ x. Back k n x nearest) (one_pred p q (sym e' ∙ e)) way') ends'

  -- one step more at the far end
  pub back_more : (m n b stop next : ℕ) → Back k m b stop → Back k n stop next → Back k (m + n) b next
  back_more zero n b stop next stay more = subst (λ i. Back k i b next) (omega arith) more
  back_more (suc m) n b stop next (back q s u e way) more =
      subst (λ i. Back k i b next) (omega arith) (back {n = m + n} q s u e (back_more m n q stop next way more))

  -- what is found in the stop is what the variable has at the end of the block
  found_gives : (b : ℕ) (v : V) → IsFound k b v → Gives k (k.wrote b) b v
  found_gives b v (was_written u is same) = written u is same
  found_gives b v (was_made p nothing is same) = entered p nothing is same

  pub back_gives : (n b stop : ℕ) (v : V) → Back k n b stop → IsFound k stop v → Gives k (k.wrote b) b v
  back_gives zero b stop v stay h = found_gives b v h
  back_gives (suc n) b stop v (back q s u e way) h = passed q u s e (back_gives n q stop v way h)

  pub back_comes : (n b stop start : ℕ) → Back k n b stop → ComesTo k start stop → ComesTo k start b
  back_comes zero b stop start stay h = h
  back_comes (suc n) b stop start (back q s u e way) h = over q 0 (ap (λ qs. slice_get qs 0) e) u (back_comes n q stop start way h)

  -- a path to a predecessor of a block, and one from the block
  pub comes_through : (start b c place q : ℕ) → slice_get (k.shape.preds b) place ≡ Some q → ComesTo k start q → ComesTo k b c → ComesTo k start c
  comes_through start b c place q is h (there nothing) = over q place is nothing h
  comes_through start b c place q is h (over p i at nothing way) = over p i at nothing (comes_through start b p place q is h way)
