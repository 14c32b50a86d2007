-- What a chain of names says of each place behind the last name that was entered.
use Rattle.std.proofs.Common.{◌≡◌, ◌⊎◌, inl, inr, ℕ, ◌<◌, ◌≤◌, Bool, true, false, ◌&&◌, ◌||◌, cond, List, [], ◌∷◌, ◌++◌, Option, Some, None, refl, sym, ap, ◌∙◌, subst, arith, true≢false}
use Rattle.std.specs.Prelude.{nat_le, nat_lt, if◌then◌else◌, filter}
use Rattle.std.specs.List.{AllByRecursion}
use Rattle.c_typing.specs.Places.{end_of}
use Rattle.c_typing.specs.Names.{Name, inner_of, innermost}
use Rattle.c_typing.proofs.MadeAround.{so_low}
use Rattle.c_names.specs.declared.chain.Entry.{Entry}
use Rattle.c_names.specs.Chains.{end_in, is_seen, IsEnded, later}
use Rattle.c_names.specs.Denoted.{Among}

-- ---- lists

pub in_front : {A : Type 0} (x : A) (xs ys : List A) → Among x xs → Among x (xs ++ ys)
in_front x [] ys h = absurd h
in_front x (y ∷ xs) ys (inl e) = inl e
in_front x (y ∷ xs) ys (inr h) = inr (in_front x xs ys h)

pub in_back : {A : Type 0} (x : A) (xs ys : List A) → Among x ys → Among x (xs ++ ys)
in_back x [] ys h = h
in_back x (y ∷ xs) ys h = inr (in_back x xs ys h)

pub in_either : {A : Type 0} (x : A) (xs ys : List A) → Among x (xs ++ ys) → Among x xs ⊎ Among x ys
in_either x [] ys h = inr h
in_either x (y ∷ xs) ys (inl e) = inl (inl e)
in_either x (y ∷ xs) ys (inr h) = by (in_either x xs ys h)
  where
    by : Among x xs ⊎ Among x ys → Among x (y ∷ xs) ⊎ Among x ys
    by (inl a) = inl (inr a)
    by (inr b) = inr b

pub all_among : {A : Type 0} (P : A → Type 0) (xs : List A) → AllByRecursion P xs → (x : A) → Among x xs → P x
all_among P (y ∷ xs) h x (inl e) = subst P e h.0
all_among P (y ∷ xs) h x (inr i) = all_among P xs h.1 x i
all_among P [] h x i = absurd i

pub among_all : {A : Type 0} (P : A → Type 0) (xs : List A) → ((x : A) → Among x xs → P x) → AllByRecursion P xs
among_all P [] h = tt
among_all P (x ∷ xs) h = (h x (inl refl), among_all P xs (λ y i. h y (inr i)))

-- ---- the innermost of some names, which stand in the order of their nodes

abbrev pub Ascend : List Name → Type 0
Ascend [] = Unit {0}
Ascend (a ∷ rest) = AllByRecursion (λ (b : Name). a.node < b.node) rest × Ascend rest

-- a comes before b: its scope ends before, or is the same and it is declared later
abbrev pub Before : Name → Name → Type 0
Before a b = (end_of a.scope < end_of b.scope) ⊎ ((end_of a.scope ≡ end_of b.scope) × (b.node ≤ a.node))

not_le : (a b : ℕ) → b < a → nat_le a b ≡ false
not_le a b h = grind arith

-- one that comes before all others stays
stays : (a : Name) (xs : List Name) → ((b : Name) → Among b xs → Before a b) → AllByRecursion (λ (b : Name). a.node < b.node) xs → innermost (Some a) xs ≡ Some a
stays a [] h l = refl
stays a (b ∷ xs) h l = ap (λ best. innermost best xs) (by (h b (inl refl))) ∙ stays a xs (λ c i. h c (inr i)) l.1
  where
    by : Before a b → inner_of (Some a) b ≡ Some a
    by (inl less) = ap (λ c. if c then Some b else Some a) (not_le (end_of b.scope) (end_of a.scope) less)
    by (inr (same, low)) = let up = l.0 in absurd (omega (arith, low, up))

pub innermost_is : (a : Name) (best : Option Name) (xs : List Name) → Ascend xs → Among a xs → ((b : Name) → Among b xs → Before a b)
    → ((b : Name) → best ≡ Some b → end_of a.scope ≤ end_of b.scope) → innermost best xs ≡ Some a
innermost_is a best [] s i h k = absurd i
innermost_is a best (b ∷ xs) s (inl e) h k =
    ap (λ o. innermost o xs) (first best k ∙ ap Some e)
    ∙ stays a xs (λ c j. h c (inr j)) (subst (λ (x : Name). AllByRecursion (λ (c : Name). x.node < c.node) xs) e s.0)
  where
    first : (o : Option Name) → ((c : Name) → o ≡ Some c → end_of a.scope ≤ end_of c.scope) → inner_of o b ≡ Some b
    first None l = refl
    first (Some c) l =
        let low : end_of b.scope ≤ end_of c.scope = subst (λ (x : Name). end_of x.scope ≤ end_of c.scope) (sym e) (l c refl) in
        ap (λ t. if t then Some b else Some c) (so_low (end_of b.scope) (end_of c.scope) low)
innermost_is a best (b ∷ xs) s (inr i) h k = innermost_is a (inner_of best b) xs s.1 i (λ c j. h c (inr j)) (next best k)
  where
    own : end_of a.scope ≤ end_of b.scope
    own = by (h b (inl refl))
      where
        by : Before a b → end_of a.scope ≤ end_of b.scope
        by (inl less) = omega (arith, less)
        by (inr q) = let same = q.0 in omega (arith, same)

    next : (o : Option Name) → ((c : Name) → o ≡ Some c → end_of a.scope ≤ end_of c.scope) → (c : Name) → inner_of o b ≡ Some c → end_of a.scope ≤ end_of c.scope
    next None l c e = let same : b ≡ c = cc e in subst (λ (x : Name). end_of a.scope ≤ end_of x.scope) same own
    next (Some d) l c e = by (nat_le (end_of b.scope) (end_of d.scope)) e
      where
        by : (t : Bool) → (if t then Some b else Some d) ≡ Some c → end_of a.scope ≤ end_of c.scope
        by true g = let same : b ≡ c = cc g in subst (λ (x : Name). end_of a.scope ≤ end_of x.scope) same own
        by false g = let same : d ≡ c = cc g in l c (ap Some same)

pub none_inside : (xs : List Name) → ((b : Name) → Among b xs → ⊥) → innermost None xs ≡ None
none_inside [] h = refl
none_inside (x ∷ xs) h = absurd (h x (inl refl))

-- ---- those that pass a test

pub passed : {A : Type 0} (test : A → Bool) (xs : List A) (x : A) → Among x (filter test xs) → Among x xs × (test x ≡ true)
passed test [] x i = absurd i
passed {A} test (y ∷ xs) x i = by (test y) refl i (passed test xs x)
  where
    by : (b : Bool) → test y ≡ b → Among x (cond b (y ∷ filter test xs) (filter test xs)) → (Among x (filter test xs) → Among x xs × (test x ≡ true)) → Among x (y ∷ xs) × (test x ≡ true)
    by true e (inl same) more = (inl same, subst (λ z. test z ≡ true) same e)
    by true e (inr j) more = let m = more j in (inr m.0, m.1)
    by false e j more = let m = more j in (inr m.0, m.1)

pub passes : {A : Type 0} (test : A → Bool) (xs : List A) (x : A) → Among x xs → test x ≡ true → Among x (filter test xs)
passes test [] x i e = absurd i
passes {A} test (y ∷ xs) x i e = by (test y) refl i (passes test xs x)
  where
    by : (b : Bool) → test y ≡ b → Among x (y ∷ xs) → (Among x xs → test x ≡ true → Among x (filter test xs)) → Among x (cond b (y ∷ filter test xs) (filter test xs))
    by true g (inl same) more = inl same
    by true g (inr j) more = inr (more j e)
    by false g (inl same) more = absurd (true≢false (sym e ∙ (ap test (sym same) ∙ g)))
    by false g (inr j) more = more j e

filter_all : {A : Type 0} (P : A → Type 0) (test : A → Bool) (xs : List A) → AllByRecursion P xs → AllByRecursion P (filter test xs)
filter_all P test xs h = among_all P (filter test xs) (λ x i. all_among P xs h x (passed test xs x i).0)

pub filter_ascend : (test : Name → Bool) (xs : List Name) → Ascend xs → Ascend (filter test xs)
filter_ascend test [] s = tt
filter_ascend test (x ∷ xs) s = by (test x) (filter_ascend test xs s.1)
  where
    by : (b : Bool) → Ascend (filter test xs) → Ascend (cond b (x ∷ filter test xs) (filter test xs))
    by true more = (filter_all (λ (b : Name). x.node < b.node) test xs s.0, more)
    by false more = more

-- ---- chains

abbrev pub Descend : List Entry → Type 0
Descend [] = Unit {0}
Descend (e ∷ es) = AllByRecursion (λ d. end_in d < end_in e) es × Descend es

all_front : {A : Type 0} (P : A → Type 0) (xs ys : List A) → AllByRecursion P (xs ++ ys) → AllByRecursion P xs
all_front P xs ys h = among_all P xs (λ x i. all_among P (xs ++ ys) h x (in_front x xs ys i))

all_back : {A : Type 0} (P : A → Type 0) (xs ys : List A) → AllByRecursion P (xs ++ ys) → AllByRecursion P ys
all_back P xs ys h = among_all P ys (λ x i. all_among P (xs ++ ys) h x (in_back x xs ys i))

pub descend_front : (xs ys : List Entry) → Descend (xs ++ ys) → Descend xs
descend_front [] ys s = tt
descend_front (x ∷ xs) ys s = (all_front (λ d. end_in d < end_in x) xs ys s.0, descend_front xs ys s.1)

pub descend_back : (xs ys : List Entry) → Descend (xs ++ ys) → Descend ys
descend_back [] ys s = s
descend_back (x ∷ xs) ys s = descend_back xs ys s.1

-- those before one end later
pub ends_later : (xs : List Entry) (o : Entry) (ys : List Entry) → Descend (xs ++ o ∷ ys) → (d : Entry) → Among d xs → end_in o < end_in d
ends_later (x ∷ xs) o ys s d (inl e) = subst (λ y. end_in o < end_in y) e (all_among (λ y. end_in y < end_in x) (xs ++ o ∷ ys) s.0 o (in_back o xs (o ∷ ys) (inl refl)))
ends_later (x ∷ xs) o ys s d (inr i) = ends_later xs o ys s.1 d i
ends_later [] o ys s d i = absurd i

-- other names behind one that ends later
pub descend_with : (xs : List Entry) (o : Entry) (ys zs : List Entry) → Descend (xs ++ o ∷ ys) → Descend zs → ((z : Entry) → Among z zs → end_in z ≤ end_in o) → Descend (xs ++ zs)
descend_with [] o ys zs s t h = t
descend_with (x ∷ xs) o ys zs s t h =
    (among_all (λ d. end_in d < end_in x) (xs ++ zs) (λ d i. by d (in_either d xs zs i)), descend_with xs o ys zs s.1 t h)
  where
    by : (d : Entry) → Among d xs ⊎ Among d zs → end_in d < end_in x
    by d (inl i) = all_among (λ y. end_in y < end_in x) (xs ++ o ∷ ys) s.0 d (in_front d xs (o ∷ ys) i)
    by d (inr i) =
        let low = h d i in
        let high = all_among (λ y. end_in y < end_in x) (xs ++ o ∷ ys) s.0 o (in_back o xs (o ∷ ys) (inl refl)) in
        omega (arith, low, high)

-- what is not the last of two is the other
pub later_is : (o e : Entry) → (later o e ≡ e) × (o.node < e.node) ⊎ (later o e ≡ o) × (e.node ≤ o.node)
later_is o e = by (nat_lt o.node e.node) refl
  where
    less : nat_lt o.node e.node ≡ true → o.node < e.node
    less h = grind arith

    most : nat_lt o.node e.node ≡ false → e.node ≤ o.node
    most h = grind arith

    by : (b : Bool) → nat_lt o.node e.node ≡ b → (later o e ≡ e) × (o.node < e.node) ⊎ (later o e ≡ o) × (e.node ≤ o.node)
    by true h = inl (ap (λ c. if c then e else o) h, less h)
    by false h = inr (ap (λ c. if c then e else o) h, most h)

pub seen_not_ended : (n m : ℕ) (e : Entry) → IsEnded n e → n ≤ m → is_seen m e ≡ true → ⊥
seen_not_ended n m e h low i =
    past e.scope.from e.scope.to e.scope.more_from e.scope.more_to h i
  where
    past : (a b c d : ℕ) → nat_lt b n && nat_lt d n ≡ true → (nat_le a m && nat_le m b) || (nat_le c m && nat_le m d) ≡ true → ⊥
    past a b c d g j = grind arith
