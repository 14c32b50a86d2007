-- What the calls do to users and uses, and that both stay tied.
use Rattle.std.proofs.Common.{◌≡◌, ◌≢◌, ◌==◌, ℕ, zero, suc, ◌+◌, ◌-◌, ◌<◌, ◌≤◌, List, [], ◌∷◌, ◌++◌, length, take, drop, map, get_or, set, refl, sym, ap, ◌∙◌, subst, arith, if◌then◌else◌, cond, inl, inr}
use Rattle.std.proofs.Math.Numerals.{suc-eq-add-one}
use Rattle.std.proofs.lemmas.Bool.{cases_eq, eq-eqb, ne_eqb}
use Rattle.std.proofs.lemmas.List.{length-set, length-map, same_lists, get_or-map, get_or_default, drop_all}
use Rattle.std.specs.List.{remove}
use Rattle.cp_obstack.specs.Lists.{list_of}
use Rattle.firm_uses.specs.Tables.{with_list}
use Rattle.firm_uses.specs.Counts.{times, renamed, renamed_rows, AreTied}
use Rattle.firm_uses.proofs.EditLaws.{row_now, other_row, holds}
use Rattle.firm_uses.proofs.CountLaws.{one, one_same, one_other, times_push, times-append, times-remove, times_front, times_found, times_take_le, times_rest, times_moved, none_renamed, times_renamed_old, times_renamed_to, times_renamed_other, renamed_twice}

-- ---- looking for a number from the end

no_less : (n : ℕ) → suc n - 1 ≡ n
no_less n = omega arith

pub look_back : (l : List ℕ) (value place : ℕ) → place < length l → 0 < times value (take (suc place) l) → get_or l place 0 ≢ value
    → (place - 1 < length l) × (0 < times value (take (suc (place - 1)) l))
look_back l value zero h some ne = absurd (omega (arith, some, times_front value l 0 0 h, one_other value (get_or l 0 0) ne))
look_back l value (suc n) h some ne =
    let kept : 0 < times value (take (suc n) l) = omega (arith, some, times_front value l (suc n) 0 h, one_other value (get_or l (suc n) 0) ne) in
    (omega arith, subst (λ m. 0 < times value (take (suc m) l)) (sym (no_less n)) kept)

-- ---- one user is taken out

pub cut_list : (rows now after : List (List ℕ)) (used last : ℕ) (list : List ℕ) → used < length rows → now ≡ with_list rows used list
    → after ≡ with_list now used (take last (list_of now used)) → list_of after used ≡ take last list
cut_list rows now after used last list there n a =
    let many : used < length now = omega (arith, there, ap length n, length-set rows used list) in
    holds now after used (take last (list_of now used)) many a ∙ ap (take last) (holds rows now used list there n)

pub forgotten : (l : List ℕ) (place last moved user x : ℕ) → place < length l → suc last ≡ length l → moved ≡ get_or l last 0 → get_or l place 0 ≡ user
    → times x (take last (set l place moved)) + (one x user + 0) ≡ times x l
forgotten l place last moved user x h e m is = omega (arith, times_moved x l place last moved h e m, ap (one x) is)

-- ---- a user is taken out of the users of several

abbrev pub given : ℕ → ℕ → ℕ → ℕ
given x user n = if x == user then n else 0

given_same : (user n : ℕ) → given user user n ≡ n
given_same user n = ap (λ b. cond b n 0) (eq-eqb user user refl)

given_other : (x user n : ℕ) → x ≢ user → given x user n ≡ 0
given_other x user n ne = ap (λ b. cond b n 0) (ne_eqb x user ne)

plus_none : (x user n : ℕ) → given x user (n + 0) ≡ given x user n
plus_none x user n = ap (given x user) (omega arith)

pub still_among : (all : List ℕ) (i user now first : ℕ) → i < length all → now + given user user (times (get_or all i 0) (take i all)) ≡ first
    → times (get_or all i 0) all ≤ first → 0 < now
still_among all i user now first h e le =
    let used = get_or all i 0 in
    omega (arith, given_same user (times used (take i all)), times_front used all i 0 h, one_same used, times_take_le used all (suc i), e, le)

pub forget_turn : (first now after : List (List ℕ)) (all : List ℕ) (i user x used : ℕ) → i < length all
    → ((y : ℕ) → times y (list_of after (get_or all i 0)) + (one y user + 0) ≡ times y (list_of now (get_or all i 0)))
    → ((other : ℕ) → other ≢ get_or all i 0 → list_of after other ≡ list_of now other)
    → times x (list_of now used) + given x user (times used (take i all)) ≡ times x (list_of first used)
    → times x (list_of after used) + given x user (times used (take (i + 1) all)) ≡ times x (list_of first used)
forget_turn first now after all i user x used h this others e =
    let more : times used (take (i + 1) all) ≡ times used (take i all) + one used (get_or all i 0) = ap (λ n. times used (take n all)) (sym (suc-eq-add-one i)) ∙ times_front used all i 0 h in
    elim (cases_eq used (get_or all i 0)) [
      | inl same ↦
          let taken = this x in
          let now_is = ap (λ u. times x (list_of now u)) same in
          let after_is = ap (λ u. times x (list_of after u)) same in
          let one_more = ap (one used) (sym same) ∙ one_same used in
          elim (cases_eq x user) [
            | inl mine ↦ omega (
              arith,
              taken,
              now_is,
              after_is,
              more,
              one_more,
              e,
              ap (λ y. given x y (times used (take i all))) (sym mine),
              given_same x (times used (take i all)),
              ap (λ y. given x y (times used (take (i + 1) all))) (sym mine),
              given_same x (times used (take (i + 1) all)),
              ap (one x) (sym mine),
              one_same x,
            )
            | inr ne ↦ omega (
              arith,
              taken,
              now_is,
              after_is,
              e,
              given_other x user (times used (take i all)) ne,
              given_other x user (times used (take (i + 1) all)) ne,
              one_other x user (λ s. ne (sym s)),
            )
          ]
      | inr ne ↦ omega (arith, ap (times x) (others used ne), ap (given x user) (more ∙ ap (λ n. times used (take i all) + n) (one_other used (get_or all i 0) (λ s. ne (sym s)))), plus_none x user (times used (take i all)), e)
    ]

-- ---- rows that are renamed

pub rename_turn_rows : (now after : List (List ℕ)) (list : List ℕ) (user first : ℕ) → after ≡ with_list now user list → length now ≡ first → length after ≡ first
rename_turn_rows now after list user first e n = ap length e ∙ length-set now user list ∙ n

pub rename_turn_same : (first now after : List (List ℕ)) (old to u user : ℕ) → to ≢ old → u < length now
    → after ≡ with_list now u (map (renamed old to) (list_of now u))
    → ((x : ℕ) → map (renamed old to) (list_of now x) ≡ map (renamed old to) (list_of first x))
    → map (renamed old to) (list_of after user) ≡ map (renamed old to) (list_of first user)
rename_turn_same first now after old to u user differs there e h = elim (cases_eq user u) [
  | inl same ↦ ap (λ x. map (renamed old to) (list_of after x)) same ∙ ap (map (renamed old to)) (holds now after u (map (renamed old to) (list_of now u)) there e)
      ∙ renamed_twice old to (list_of now u) differs ∙ h u ∙ ap (λ x. map (renamed old to) (list_of first x)) (sym same)
  | inr ne ↦ ap (map (renamed old to)) (ap (λ rs. list_of rs user) e ∙ other_row now u user (map (renamed old to) (list_of now u)) ne) ∙ h user
]

pub rename_turn_left : (now after : List (List ℕ)) (users : List ℕ) (old to i user : ℕ) → to ≢ old → i < length users → get_or users i 0 < length now
    → after ≡ with_list now (get_or users i 0) (map (renamed old to) (list_of now (get_or users i 0)))
    → ((x : ℕ) → 0 < times old (list_of now x) → 0 < times x (drop i users))
    → 0 < times old (list_of after user) → 0 < times user (drop (i + 1) users)
rename_turn_left now after users old to i user differs h there e left some =
    let u = get_or users i 0 in
    elim (cases_eq user u) [
      | inl same ↦ absurd (omega (
        arith,
        some,
        ap (λ x. times old (list_of after x)) same,
        ap (times old) (holds now after u (map (renamed old to) (list_of now u)) there e),
        times_renamed_old old to (list_of now u) differs,
      ))
      | inr ne ↦
          let kept : list_of after user ≡ list_of now user = ap (λ rs. list_of rs user) e ∙ other_row now u user (map (renamed old to) (list_of now u)) ne in
          let some_now : 0 < times old (list_of now user) = omega (arith, some, ap (times old) kept) in
          omega (arith, left user some_now, times_rest user users i 0 h, one_other user u (λ s. ne (sym s)), ap (λ n. times user (drop n users)) (suc-eq-add-one i))
    ]

zero_or : (n : ℕ) → (0 < n → 0 < 0) → n ≡ 0
zero_or zero h = refl
zero_or (suc n) h = absurd (omega (arith, h (omega arith)))

pub rename_done : (first now : List (List ℕ)) (users : List ℕ) (old to i : ℕ) → length users ≤ i → length now ≡ length first
    → ((x : ℕ) → map (renamed old to) (list_of now x) ≡ map (renamed old to) (list_of first x))
    → ((x : ℕ) → 0 < times old (list_of now x) → 0 < times x (drop i users))
    → now ≡ renamed_rows old to first
rename_done first now users old to i end many h left =
    let none = λ (x : ℕ). zero_or (times old (list_of now x)) (λ some. subst (λ l. 0 < times x l) (drop_all i users end) (left x some)) in
    same_lists now (renamed_rows old to first) (many ∙ sym (length-map first (map (renamed old to))))
    (λ k d lt. get_or_default now k d [] lt ∙ sym (none_renamed old to (list_of now k) (none k)) ∙ h k ∙ sym (get_or-map (map (renamed old to)) first k [] d (omega (arith, lt, many))))

-- ---- users and uses stay tied

-- one pair more
pub tied_push : (uses users : List (List ℕ)) (user used : ℕ) → AreTied uses users → user < length uses → used < length users
    → AreTied (with_list uses user (list_of uses user ++ used ∷ [])) (with_list users used (list_of users used ++ user ∷ []))
tied_push uses users user used h there among x t =
    let uses_now = with_list uses user (list_of uses user ++ used ∷ []) in
    let users_now = with_list users used (list_of users used ++ user ∷ []) in
    elim (cases_eq t used) [
      | inl same ↦
          let left = ap (λ n. times x (list_of users_now n)) same ∙ ap (times x) (row_now users used (list_of users used ++ user ∷ []) among) ∙ times_push x (list_of users used) user in
          let was = ap (λ n. times x (list_of users n)) (sym same) ∙ h x t in
          elim (cases_eq x user) [
            | inl mine ↦ omega (
              arith,
              left,
              was,
              ap (one x) (sym mine) ∙ one_same x,
              ap (λ n. times t (list_of uses_now n)) mine ∙ ap (times t) (row_now uses user (list_of uses user ++ used ∷ []) there) ∙ times_push t (list_of uses user) used,
              ap (λ n. times t (list_of uses n)) mine,
              ap (one t) (sym same) ∙ one_same t,
            )
            | inr ne ↦ omega (arith, left, was, one_other x user (λ s. ne (sym s)), ap (times t) (other_row uses user x (list_of uses user ++ used ∷ []) ne))
          ]
      | inr other ↦
          let left = ap (times x) (other_row users used t (list_of users used ++ user ∷ []) other) in
          elim (cases_eq x user) [
            | inl mine ↦ omega (
              arith,
              left,
              h x t,
              ap (λ n. times t (list_of uses_now n)) mine ∙ ap (times t) (row_now uses user (list_of uses user ++ used ∷ []) there)
                  ∙ times_push t (list_of uses user) used,
              ap (λ n. times t (list_of uses n)) mine,
              one_other t used (λ s. other (sym s)),
            )
            | inr ne ↦ omega (arith, left, h x t, ap (times t) (other_row uses user x (list_of uses user ++ used ∷ []) ne))
          ]
    ]

-- a used one has the users that use it
pub used_is_there : (uses users : List (List ℕ)) (user index : ℕ) → AreTied uses users → index < length (list_of uses user)
    → 0 < times user (list_of users (get_or (list_of uses user) index 0))
used_is_there uses users user index h within =
    omega (arith, h user (get_or (list_of uses user) index 0), times_found (get_or (list_of uses user) index 0) (list_of uses user) index 0 within refl)

-- one pair less
pub tied_remove : (uses users after : List (List ℕ)) (user index : ℕ) → AreTied uses users → user < length uses → index < length (list_of uses user)
    → ((y : ℕ) → times y (list_of after (get_or (list_of uses user) index 0)) + (one y user + 0) ≡ times y (list_of users (get_or (list_of uses user) index 0)))
    → ((other : ℕ) → other ≢ get_or (list_of uses user) index 0 → list_of after other ≡ list_of users other)
    → AreTied (with_list uses user (remove (list_of uses user) index)) after
tied_remove uses users after user index h there within this others x t =
    let list = list_of uses user in
    let used = get_or list index 0 in
    let uses_now = with_list uses user (remove list index) in
    elim (cases_eq t used) [
      | inl same ↦
          let left = ap (λ n. times x (list_of after n)) same in
          let was = ap (λ n. times x (list_of users n)) (sym same) ∙ h x t in
          elim (cases_eq x user) [
            | inl mine ↦ omega (
              arith,
              left,
              this x,
              was,
              ap (one x) (sym mine) ∙ one_same x,
              ap (λ n. times t (list_of uses_now n)) mine ∙ ap (times t) (row_now uses user (remove list index) there),
              times-remove t list index 0 within,
              ap (one t) (sym same) ∙ one_same t,
              ap (λ n. times t (list_of uses n)) mine,
            )
            | inr ne ↦ omega (arith, left, this x, was, one_other x user (λ s. ne (sym s)), ap (times t) (other_row uses user x (remove list index) ne))
          ]
      | inr other ↦
          let left = ap (times x) (others t other) in
          elim (cases_eq x user) [
            | inl mine ↦ omega (
              arith,
              left,
              h x t,
              ap (λ n. times t (list_of uses_now n)) mine ∙ ap (times t) (row_now uses user (remove list index) there),
              times-remove t list index 0 within,
              one_other t used (λ s. other (sym s)),
              ap (λ n. times t (list_of uses n)) mine,
            )
            | inr ne ↦ omega (arith, left, h x t, ap (times t) (other_row uses user x (remove list index) ne))
          ]
    ]

renamed_row : (old to : ℕ) (uses : List (List ℕ)) (x : ℕ) → list_of (renamed_rows old to uses) x ≡ map (renamed old to) (list_of uses x)
renamed_row old to [] x = refl
renamed_row old to (l ∷ uses) zero = refl
renamed_row old to (l ∷ uses) (suc x) = renamed_row old to uses x

-- all uses of one are uses of another
pub tied_replace : (uses users more after : List (List ℕ)) (old to : ℕ) → AreTied uses users → to ≢ old → old < length users → to < length users
    → more ≡ with_list users to (list_of users to ++ list_of users old) → after ≡ with_list more old []
    → AreTied (renamed_rows old to uses) after
tied_replace uses users more after old to h differs old_there to_there m a x t =
    let joined = list_of users to ++ list_of users old in
    let row : list_of (renamed_rows old to uses) x ≡ map (renamed old to) (list_of uses x) = renamed_row old to uses x in
    let more_there : old < length more = omega (arith, old_there, ap length m, length-set users to joined) in
    elim (cases_eq t old) [
      | inl same ↦ omega (
        arith,
        ap (λ n. times x (list_of after n)) same,
        ap (times x) (holds more after old [] more_there a),
        ap (times t) row,
        ap (λ n. times n (map (renamed old to) (list_of uses x))) same,
        times_renamed_old old to (list_of uses x) differs,
      )
      | inr other ↦
          let kept : list_of after t ≡ list_of more t = ap (λ rs. list_of rs t) a ∙ other_row more old t [] other in
          elim (cases_eq t to) [
            | inl same ↦ omega (
              arith,
              ap (times x) kept,
              ap (λ n. times x (list_of more n)) same,
              ap (times x) (holds users more to joined to_there m),
              times-append x (list_of users to) (list_of users old),
              h x to,
              h x old,
              ap (times t) row,
              ap (λ n. times n (map (renamed old to) (list_of uses x))) same,
              times_renamed_to old to (list_of uses x) differs,
            )
            | inr ne ↦ omega (
              arith,
              ap (times x) kept,
              ap (times x) (ap (λ rs. list_of rs t) m ∙ other_row users to t joined ne),
              h x t,
              ap (times t) row,
              times_renamed_other old to t (list_of uses x) other ne,
            )
          ]
    ]
