-- The last, and the first, of the nodes that begin with another one.
use Rattle.std.proofs.Common.{◌≡◌, ◌≢◌, ◌⊎◌, inl, inr, ℕ, suc, ◌+◌, ◌<◌, ◌≤◌, true, false, Bool, ◌&&◌, List, [], ◌∷◌, length, drop, get_or, replicate, refl, sym, ap, ◌∙◌, subst, Option, Some, None, true≢false}
use Rattle.std.specs.Prelude.{slice_set, slice_get, unwrap_or, filter, find, if◌then◌else◌, ◌==◌, nat_eq}
use Rattle.std.proofs.lemmas.Option.{slice_get_within}
use Rattle.std.specs.List.{last_or}
use Rattle.std.proofs.lemmas.List.{get_or-replicate, get_or-set_same, get_or-set_other, drop_all}
use Rattle.std.proofs.lemmas.Bool.Decides.{eqb_tells}
use Rattle.c_typing.specs.Places.{Node, in_declarator, is_declarator, is_step, next_to_name, node_at, nowhere}
use Rattle.c_nodes.specs.Parents.{AreNumbered}
use Rattle.c_nodes.specs.Declarators.{number_or, Points, whole_of, whole_number, next_number}

-- ---- the last one

abbrev pub whole_from : ℕ → List Node → ℕ → ℕ
whole_from found [] i = found
whole_from found (m ∷ ms) i = whole_from (if in_declarator i m then m.id else found) ms i

last_is : (none : ℕ) (best : Option Node) (ms : List Node) (i : ℕ) → whole_from (number_or none best) ms i ≡ number_or none (last_or best (filter (in_declarator i) ms))
last_is none best [] i = refl
last_is none best (m ∷ ms) i = by (last_is none (Some m) ms i) (last_is none best ms i) (in_declarator i m)
  where
    by : whole_from m.id ms i ≡ number_or none (last_or (Some m) (filter (in_declarator i) ms)) → whole_from (number_or none best) ms i ≡ number_or none (last_or best (filter (in_declarator i) ms))
        → (b : Bool) → whole_from (if b then m.id else number_or none best) ms i ≡ number_or none (last_or best (if b then m ∷ filter (in_declarator i) ms else filter (in_declarator i) ms))
    by with_it without true = with_it
    by with_it without false = without

-- where so many nodes have been looked at
abbrev pub WholeSoFar : List Node → ℕ → List ℕ → ℕ → Type 0
WholeSoFar s n found i = whole_from (get_or found i 0) (drop n s) i ≡ whole_number s i

pub whole_start : (s : List Node) (n i : ℕ) → length s ≡ n → i < n → whole_from (get_or (replicate n n) i 0) s i ≡ whole_number s i
whole_start s n i long within =
    ap (λ k. whole_from k s i) (get_or-replicate n i n 0 within ∙ sym long) ∙ last_is (length s) None s i

pub whole_end : (s : List Node) (n : ℕ) (found : List ℕ) (i : ℕ) → length s ≤ n → WholeSoFar s n found i → get_or found i 0 ≡ whole_number s i
whole_end s n found i past h = sym (ap (λ rest. whole_from (get_or found i 0) rest i) (drop_all n s past)) ∙ h

module _ (s : List Node) (n : ℕ) (m : Node) (rest : List Node) (cut : drop n s ≡ m ∷ rest) (next : drop (n + 1) s ≡ rest) where
  shown : (found : ℕ) (i : ℕ) (b : Bool) → in_declarator i m ≡ b → whole_from found (drop n s) i ≡ whole_from (if b then m.id else found) (drop (n + 1) s) i
  shown found i b e = ap (λ xs. whole_from found xs i) cut ∙ ap (λ b. whole_from (if b then m.id else found) rest i) e ∙ ap (λ xs. whole_from (if b then m.id else found) xs i) (sym next)

  pub whole_no : (found : List ℕ) (i : ℕ) → is_declarator m.label.kind ≡ false → WholeSoFar s n found i → WholeSoFar s (n + 1) found i
  whole_no found i e h = sym (shown (get_or found i 0) i false (by (m.first == i) (is_declarator m.label.kind) e)) ∙ h
    where
      by : (p q : Bool) → q ≡ false → p && q ≡ false
      by false q e = refl
      by true q e = e

  pub whole_yes : (found : List ℕ) (i : ℕ) → is_declarator m.label.kind ≡ true → m.first < length found
      → WholeSoFar s n found i → WholeSoFar s (n + 1) (slice_set found m.first m.id) i
  whole_yes found i e low h = by (eqb_tells m.first i)
    where
      both : (p q : Bool) → p ≡ true → q ≡ true → p && q ≡ true
      both true q a b = b
      both false q a b = absurd (true≢false (sym a))

      not_here : (p q : Bool) → p ≡ false → p && q ≡ false
      not_here false q a = refl
      not_here true q a = absurd (true≢false a)

      by : ((nat_eq m.first i ≡ true) × (m.first ≡ i)) ⊎ ((nat_eq m.first i ≡ false) × (m.first ≢ i)) → whole_from (get_or (slice_set found m.first m.id) i 0) (drop (n + 1) s) i ≡ whole_number s i
      by (inl (here, same)) =
          ap (λ v. whole_from v (drop (n + 1) s) i) (ap (λ k. get_or (slice_set found m.first m.id) k 0) (sym same) ∙ get_or-set_same found m.first m.id 0 low)
          ∙ sym (shown (get_or found i 0) i true (both (m.first == i) (is_declarator m.label.kind) here e)) ∙ h
      by (inr (elsewhere, other)) =
          ap (λ v. whole_from v (drop (n + 1) s) i) (get_or-set_other found m.first i m.id 0 (λ q. other (sym q)))
          ∙ sym (shown (get_or found i 0) i false (not_here (m.first == i) (is_declarator m.label.kind) elsewhere)) ∙ h

-- ---- the first one

-- where the nodes from here on have been looked at
abbrev pub NextFrom : List Node → ℕ → List ℕ → ℕ → Type 0
NextFrom s n found i = get_or found i 0 ≡ number_or (length s) (next_to_name (drop n s) i)

pub next_start : (s : List Node) (n i : ℕ) → i < length s → length s ≤ n → NextFrom s n (replicate (length s) (length s)) i
next_start s n i within past =
    get_or-replicate (length s) i (length s) 0 within ∙ ap (λ rest. number_or (length s) (next_to_name rest i)) (sym (drop_all n s past))

module _ (s : List Node) (n : ℕ) (m : Node) (rest : List Node) (cut : drop n s ≡ m ∷ rest) (next : drop (n + 1) s ≡ rest) where
  pub next_no : (found : List ℕ) (i : ℕ) → is_step m.label.kind ≡ false → NextFrom s (n + 1) found i → NextFrom s n found i
  next_no found i e h =
      h ∙ ap (λ xs. number_or (length s) (next_to_name xs i)) next
      ∙ sym (ap (λ xs. number_or (length s) (next_to_name xs i)) cut ∙ ap (λ b. number_or (length s) (if b then Some m else next_to_name rest i)) (by (m.first == i) (is_step m.label.kind) e))
    where
      by : (p q : Bool) → q ≡ false → p && q ≡ false
      by false q e = refl
      by true q e = e

  pub next_yes : (found : List ℕ) (i : ℕ) → is_step m.label.kind ≡ true → m.first < length found
      → NextFrom s (n + 1) found i → NextFrom s n (slice_set found m.first m.id) i
  next_yes found i e low h = by (eqb_tells m.first i)
    where
      both : (p q : Bool) → p ≡ true → q ≡ true → p && q ≡ true
      both true q a b = b
      both false q a b = absurd (true≢false (sym a))

      not_here : (p q : Bool) → p ≡ false → p && q ≡ false
      not_here false q a = refl
      not_here true q a = absurd (true≢false a)

      shown : (b : Bool) → (m.first == i) && is_step m.label.kind ≡ b → number_or (length s) (next_to_name (drop n s) i) ≡ number_or (length s) (if b then Some m else next_to_name rest i)
      shown b q = ap (λ xs. number_or (length s) (next_to_name xs i)) cut ∙ ap (λ b. number_or (length s) (if b then Some m else next_to_name rest i)) q

      by : ((nat_eq m.first i ≡ true) × (m.first ≡ i)) ⊎ ((nat_eq m.first i ≡ false) × (m.first ≢ i)) → get_or (slice_set found m.first m.id) i 0 ≡ number_or (length s) (next_to_name (drop n s) i)
      by (inl (here, same)) =
          ap (λ k. get_or (slice_set found m.first m.id) k 0) (sym same) ∙ get_or-set_same found m.first m.id 0 low
          ∙ sym (shown true (both (m.first == i) (is_step m.label.kind) here e))
      by (inr (elsewhere, other)) =
          get_or-set_other found m.first i m.id 0 (λ q. other (sym q)) ∙ h ∙ ap (λ xs. number_or (length s) (next_to_name xs i)) next
          ∙ sym (shown false (not_here (m.first == i) (is_step m.label.kind) elsewhere))

pub next_end : (s : List Node) (found : List ℕ) (i : ℕ) → NextFrom s 0 found i → get_or found i 0 ≡ next_number s i
next_end s found i h = h

-- ---- nodes by their numbers

abbrev pub IsAt : List Node → Node → Type 0
IsAt s m = (k : ℕ) × (slice_get s k ≡ Some m)

pub found_at : (test : Node → Bool) (s : List Node) (m : Node) → find test s ≡ Some m → IsAt s m
found_at test [] m e = absurd (cc e)
found_at test (x ∷ xs) m e = by (λ h. found_at test xs m h) (test x) e
  where
    by : (find test xs ≡ Some m → IsAt xs m) → (b : Bool) → (if b then Some x else find test xs) ≡ Some m → IsAt (x ∷ xs) m
    by behind true h = (0, h)
    by behind false h = let (k, at) = behind h in (suc k, at)

last_at : (test : Node → Bool) (best : Option Node) (s : List Node) (m : Node) → last_or best (filter test s) ≡ Some m → (best ≡ Some m) ⊎ IsAt s m
last_at test best [] m e = inl e
last_at test best (x ∷ xs) m e = by (λ o h. last_at test o xs m h) (test x) e
  where
    later : {o : Option Node} → (o ≡ Some m → (best ≡ Some m) ⊎ IsAt (x ∷ xs) m) → (o ≡ Some m) ⊎ IsAt xs m → (best ≡ Some m) ⊎ IsAt (x ∷ xs) m
    later same (inl h) = same h
    later same (inr (k, at)) = inr (suc k, at)

    by : ((o : Option Node) → last_or o (filter test xs) ≡ Some m → (o ≡ Some m) ⊎ IsAt xs m) → (b : Bool) → last_or best (if b then x ∷ filter test xs else filter test xs) ≡ Some m
        → (best ≡ Some m) ⊎ IsAt (x ∷ xs) m
    by behind true h = later (λ same. inr (0, same)) (behind (Some x) h)
    by behind false h = later (λ same. inl same) (behind best h)

pub points_at : (s : List Node) → AreNumbered s → (m : Node) → IsAt s m → Points s m.id (Some m)
points_at s numbered m (k, at) =
    let here : node_at s k ≡ m = ap (λ o. unwrap_or o nowhere) at in
    let within : k < length s = slice_get_within s k m at in
    let same : m.id ≡ k = sym (ap (λ (x : Node). x.id) here) ∙ numbered k within in
    (subst (λ n. n < length s) (sym same) within, ap (node_at s) same ∙ here)

pub points_next : (s : List Node) → AreNumbered s → (i : ℕ) → Points s (next_number s i) (next_to_name s i)
points_next s numbered i = by (next_to_name s i) refl
  where
    by : (o : Option Node) → next_to_name s i ≡ o → Points s (number_or (length s) o) o
    by None e = refl
    by (Some m) e = points_at s numbered m (found_at (λ (node : Node). (node.first == i) && is_step node.label.kind) s m e)

pub points_whole : (s : List Node) → AreNumbered s → (i : ℕ) → Points s (whole_number s i) (whole_of s i)
points_whole s numbered i = by (whole_of s i) refl
  where
    by : (o : Option Node) → whole_of s i ≡ o → Points s (number_or (length s) o) o
    by None e = refl
    by (Some m) e = there (last_at (in_declarator i) None s m e)
      where
        there : (None ≡ Some m) ⊎ IsAt s m → Points s m.id (Some m)
        there (inl h) = absurd (cc h)
        there (inr h) = points_at s numbered m h
