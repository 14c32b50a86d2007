-- Names of members that stand twice.
use Rattle.std.proofs.Common.{suc, ◌≡◌, ◌++◌, ◌+◌, ◌<◌, ◌≤◌, ◌-◌, ◌^◌, ◌||◌, ℕ, Bool, true, false, not, if◌then◌else◌, length, map, drop, get_or, min, List, [], ◌∷◌, Option, Some, None, Bor, refl, sym, ap, ◌∙◌, subst, append_assoc, append-nil, add-one, drop-cons, arith}
use Rattle.std.specs.List.{list_any}
use Rattle.std.specs.Str.{bytes_eq}
use Rattle.std.proofs.lemmas.Bool.{false≢true, le-ltb, lt-ltb}
use Rattle.std.proofs.lemmas.Bool.Decides.{same_from_decides}
use Rattle.std.proofs.lemmas.Slice.Eq.{bytes_eq-Decides}
use Rattle.std.proofs.lemmas.List.Folds.{list_any-append}
use Rattle.std.proofs.lemmas.List.{map-append}
use Rattle.c_types.specs.declared.kind.TypeId.{TypeId}
use Rattle.c_types.specs.declared.kind.TheConstants.{MAX_SIZE}
use Rattle.c_typing.specs.Types.{Field}
use Rattle.c_typing.specs.Judgements.{Fault, rule, too_big}
use Rattle.c_typing.specs.Rules.{broken_if, size_fault}
use Rattle.c_typing.specs.Declarators.{field_named, has_repeated, member_faults}
use Rattle.c_declared_types.specs.Members.{named_in, named_by}

abbrev Texts : Type 0
Texts = List (List ℕ)

abbrev pub names_of : List Field → Texts
names_of fields = map (λ (f : Field). f.name) fields

-- the node of the first name that stands twice
abbrev pub first_twice : Texts → List (List ℕ × ℕ) → Option ℕ
first_twice seen [] = None
first_twice seen (p ∷ ps) = if list_any (bytes_eq p.0) seen then Some p.1 else first_twice (seen ++ p.0 ∷ []) ps

same_test : (a b : List ℕ) → bytes_eq a b ≡ bytes_eq b a
same_test a b =
    let other = bytes_eq-Decides b a in
    same_from_decides (bytes_eq a b) (bytes_eq b a) (bytes_eq-Decides a b) (λ e. sym (other.0 e), λ e. other.1 (sym e))

in_names : (x : List ℕ) (before : List Field) → list_any (bytes_eq x) (names_of before) ≡ field_named x before
in_names x [] = refl
in_names x (f ∷ fs) =
    ap (λ b. b || list_any (bytes_eq x) (names_of fs)) (same_test x f.name) ∙ ap (λ b. bytes_eq f.name x || b) (in_names x fs)

or_false : (a : Bool) → (a || false) ≡ a
or_false true = refl
or_false false = refl

or_true : (a : Bool) → (a || true) ≡ true
or_true true = refl
or_true false = refl

paired : (a p b q : Bool) → ((a || p) || (b || q)) ≡ ((a || b) || (p || q))
paired true p b q = refl
paired false true true q = refl
paired false true false q = refl
paired false false b q = refl

turned : (f h a : Bool) → (h || (a || f)) ≡ ((f || h) || (false || a))
turned true h a = ap (λ b. h || b) (or_true a) ∙ or_true h
turned false h a = ap (λ b. h || b) (or_false a)

named_after : (g f : Field) (before : List Field) → field_named g.name (before ++ f ∷ []) ≡ (field_named g.name before || bytes_eq f.name g.name)
named_after g f before =
    list_any-append (λ (x : Field). bytes_eq x.name g.name) before (f ∷ []) ∙ ap (λ b. field_named g.name before || b) (or_false (bytes_eq f.name g.name))

any_after : (f : Field) (before fs : List Field) → list_any (λ (g : Field). field_named g.name (before ++ f ∷ [])) fs ≡ (list_any (λ (g : Field). field_named g.name before) fs || field_named f.name fs)
any_after f before [] = refl
any_after f before (g ∷ gs) =
    ap (λ b. b || list_any (λ (x : Field). field_named x.name (before ++ f ∷ [])) gs) (named_after g f before ∙ ap (λ b. field_named g.name before || b) (same_test f.name g.name))
    ∙ ap (λ b. (field_named g.name before || bytes_eq g.name f.name) || b) (any_after f before gs)
    ∙ paired (field_named g.name before) (bytes_eq g.name f.name) (list_any (λ (x : Field). field_named x.name before) gs) (field_named f.name gs)

-- in one declaration
abbrev stands : List Field → List Field → Bool
stands before fs = has_repeated fs || list_any (λ (f : Field). field_named f.name before) fs

stands_next : (f : Field) (before fs : List Field) → field_named f.name before ≡ false → stands (before ++ f ∷ []) fs ≡ stands before (f ∷ fs)
stands_next f before fs e =
    ap (λ b. has_repeated fs || b) (any_after f before fs)
    ∙ turned (field_named f.name fs) (has_repeated fs) (list_any (λ (g : Field). field_named g.name before) fs)
    ∙ ap (λ b. (field_named f.name fs || has_repeated fs) || (b || list_any (λ (g : Field). field_named g.name before) fs)) (sym e)

in_group : (fs : List Field) (n : ℕ) (before : List Field) (tail : List (List ℕ × ℕ))
    → first_twice (names_of before) (map (λ (f : Field). (f.name, n)) fs ++ tail) ≡ (if stands before fs then Some n else first_twice (names_of (before ++ fs)) tail)
in_group [] n before tail = ap (λ xs. first_twice (names_of xs) tail) (sym (append-nil before))
in_group (f ∷ fs) n before tail =
    ap (λ b. if b then Some n else first_twice (names_of before ++ f.name ∷ []) (map (λ (g : Field). (g.name, n)) fs ++ tail)) (in_names f.name before)
    ∙ by (in_group fs n (before ++ f ∷ []) tail) (field_named f.name before) refl
  where
    by : first_twice (names_of (before ++ f ∷ [])) (map (λ (g : Field). (g.name, n)) fs ++ tail)
        ≡ (if stands (before ++ f ∷ []) fs then Some n else first_twice (names_of ((before ++ f ∷ []) ++ fs)) tail)
        → (b : Bool) → field_named f.name before ≡ b
        → (if b then Some n else first_twice (names_of before ++ f.name ∷ []) (map (λ (g : Field). (g.name, n)) fs ++ tail))
        ≡ (if stands before (f ∷ fs) then Some n else first_twice (names_of (before ++ f ∷ fs)) tail)
    by later true e =
        sym (ap (λ c. if c then Some n else first_twice (names_of (before ++ f ∷ fs)) tail)
        (ap (λ b. (field_named f.name fs || has_repeated fs) || (b || list_any (λ (g : Field). field_named g.name before) fs)) e ∙ or_true (field_named f.name fs || has_repeated fs)))
    by later false e =
        ap (λ xs. first_twice xs (map (λ (g : Field). (g.name, n)) fs ++ tail)) (sym (map-append (λ (g : Field). g.name) before (f ∷ [])))
        ∙ later
        ∙ ap (λ c. if c then Some n else first_twice (names_of ((before ++ f ∷ []) ++ fs)) tail) (stands_next f before fs e)
        ∙ ap (λ xs. if stands before (f ∷ fs) then Some n else first_twice (names_of xs) tail) (append_assoc before (f ∷ []) fs)

-- its node is the first fault
abbrev pub Faulty : Option ℕ → List Fault → Type 0
Faulty None faults = faults ≡ []
Faulty (Some n) faults = (others : List Fault) × (faults ≡ rule 3 n ∷ others)

pub in_groups : (groups : List (List Field)) (ns : List ℕ) (before : List Field) → Faulty (first_twice (names_of before) (named_by groups ns)) (member_faults before groups ns)
in_groups [] ns before = refl
in_groups (fs ∷ rest) [] before = refl
in_groups (fs ∷ rest) (n ∷ ns) before =
    subst (λ o. Faulty o (member_faults before (fs ∷ rest) (n ∷ ns))) (sym (in_group fs n before (named_by rest ns))) (by (in_groups rest ns (before ++ fs)) (stands before fs))
  where
    by : Faulty (first_twice (names_of (before ++ fs)) (named_by rest ns)) (member_faults (before ++ fs) rest ns)
        → (b : Bool) → Faulty (if b then Some n else first_twice (names_of (before ++ fs)) (named_by rest ns)) (broken_if b 3 n ++ member_faults (before ++ fs) rest ns)
    by later true = (member_faults (before ++ fs) rest ns, refl)
    by later false = later

-- ---- name by name

module _ (members : List (List ℕ × TypeId)) (nodes : List ℕ) (k : ℕ) (m : List ℕ × TypeId) (long : length nodes ≡ length members) (within : k < length members) (is : m ≡ get_or members k m) where
  next_name : (seen : Texts) → first_twice seen (named_in (drop k members) (drop k nodes))
      ≡ (if list_any (bytes_eq m.0) seen then Some (get_or nodes k 0) else first_twice (seen ++ m.0 ∷ []) (named_in (drop (k + 1) members) (drop (k + 1) nodes)))
  next_name seen =
      let at_members : drop k members ≡ m ∷ drop (k + 1) members = drop-cons members k m within ∙ ap (λ (x : List ℕ × TypeId). x ∷ drop (suc k) members) (sym is) ∙ ap (λ j. m ∷ drop j members) (sym (add-one k)) in
      let at_nodes : drop k nodes ≡ get_or nodes k 0 ∷ drop (k + 1) nodes = drop-cons nodes k 0 (omega (arith, within, long)) ∙ ap (λ j. get_or nodes k 0 ∷ drop j nodes) (sym (add-one k)) in
      ap (λ ms. first_twice seen (named_in ms (drop k nodes))) at_members ∙ ap (λ ns. first_twice seen (named_in (m ∷ drop (k + 1) members) ns)) at_nodes

  module _ (name : List ℕ) (named : name ≡ m.0) (seen : Texts) (new : Bool) (tells : new ≡ not (list_any (bytes_eq name) seen))
      (so : first_twice seen (named_in (drop k members) (drop k nodes)) ≡ first_twice [] (named_in members nodes)) where
    test : (b : Bool) → new ≡ not b → list_any (bytes_eq m.0) seen ≡ b
    test b e = flip (list_any (bytes_eq m.0) seen) b (sym (ap (λ x. not (list_any (bytes_eq x) seen)) named) ∙ sym tells ∙ e)
      where
        flip : (x y : Bool) → not x ≡ not y → x ≡ y
        flip true true h = refl
        flip true false h = absurd (false≢true h)
        flip false true h = absurd (false≢true (sym h))
        flip false false h = refl

    pub found_twice : new ≡ false → first_twice [] (named_in members nodes) ≡ Some (get_or nodes k 0)
    found_twice e =
        sym so ∙ next_name seen
        ∙ ap (λ b. if b then Some (get_or nodes k 0) else first_twice (seen ++ m.0 ∷ []) (named_in (drop (k + 1) members) (drop (k + 1) nodes))) (test true e)

    pub found_once : (after : Texts) → new ≡ true → after ≡ seen ++ name ∷ [] → first_twice after (named_in (drop (k + 1) members) (drop (k + 1) nodes)) ≡ first_twice [] (named_in members nodes)
    found_once after e added =
        ap (λ xs. first_twice xs (named_in (drop (k + 1) members) (drop (k + 1) nodes))) (added ∙ ap (λ x. seen ++ x ∷ []) named)
        ∙ ap (λ b. if b then Some (get_or nodes k 0) else first_twice (seen ++ m.0 ∷ []) (named_in (drop (k + 1) members) (drop (k + 1) nodes))) (sym (test false e))
        ∙ sym (next_name seen) ∙ so

pub at_end : (members : List (List ℕ × TypeId)) (nodes : List ℕ) (k : ℕ) (seen : Texts) → drop k members ≡ []
    → first_twice seen (named_in (drop k members) (drop k nodes)) ≡ first_twice [] (named_in members nodes) → first_twice [] (named_in members nodes) ≡ None
at_end members nodes k seen e so = sym so ∙ ap (λ ms. first_twice seen (named_in ms (drop k nodes))) e

pub stood_twice : (pairs : List (List ℕ × ℕ)) (n : ℕ) → first_twice [] pairs ≡ Some n → (groups : List (List Field)) (ns : List ℕ) → pairs ≡ named_by groups ns
    → (others : List Fault) × (member_faults [] groups ns ≡ rule 3 n ∷ others)
stood_twice pairs n e groups ns is = subst (λ o. Faulty o (member_faults [] groups ns)) (sym (ap (first_twice []) is) ∙ e) (in_groups groups ns [])

pub stood_once : (pairs : List (List ℕ × ℕ)) → first_twice [] pairs ≡ None → (groups : List (List Field)) (ns : List ℕ) → pairs ≡ named_by groups ns → member_faults [] groups ns ≡ []
stood_once pairs e groups ns is = subst (λ o. Faulty o (member_faults [] groups ns)) (sym (ap (first_twice []) is) ∙ e) (in_groups groups ns [])

pub any_text : (x : List ℕ) (keys : List (Bor (List ℕ))) → list_any (λ (key : Bor (List ℕ)). bytes_eq x key.now) keys ≡ list_any (bytes_eq x) (map (λ (key : Bor (List ℕ)). key.now) keys)
any_text x [] = refl
any_text x (key ∷ keys) = ap (λ b. bytes_eq x key.now || b) (any_text x keys)

-- ---- sizes

pub size_fits : (size n : ℕ) → size ≤ MAX_SIZE → size_fault size n ≡ []
size_fits size n h = ap (λ b. if b then too_big n (min size (2 ^ 64 - 1)) ∷ [] else []) (le-ltb MAX_SIZE size h)

pub size_too_big : (size told n : ℕ) → (MAX_SIZE < size) × (told ≡ min size (2 ^ 64 - 1)) → size_fault size n ≡ too_big n (min told (2 ^ 64 - 1)) ∷ []
size_too_big size told n (big, e) =
    let same : min size (2 ^ 64 - 1) ≡ min told (2 ^ 64 - 1) = omega (arith, e) in
    ap (λ b. if b then too_big n (min size (2 ^ 64 - 1)) ∷ [] else []) (lt-ltb MAX_SIZE size big) ∙ ap (λ s. too_big n s ∷ []) same
