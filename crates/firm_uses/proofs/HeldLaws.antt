-- What a change of the lists and rows does to what is seen of them.
use Rattle.std.proofs.Common.{◌≡◌, ◌≢◌, ℕ, zero, suc, ◌+◌, ◌-◌, ◌<◌, ◌≤◌, List, [], ◌∷◌, ◌++◌, length, take, map, get_or, set, replicate, refl, sym, ap, ap₂, ◌∙◌, subst, arith, length-append, Result, IsOk, is_ok, if◌then◌else◌, inl, inr, Some}
use Rattle.std.proofs.lemmas.List.{length-set, length-map, get_or-set_same, get_or-set_other, get_or_append_left, get_or_at, get_or-map, take_more_set, map_push, take-take, set-get_or, take_at, get_or_default, length-take-le, take_all}
use Rattle.std.proofs.lemmas.Bool.{cases_eq}
use Rattle.std.proofs.lemmas.Option.{get_or_from_slice_get}
use Rattle.std.specs.List.{slice_get}
use Rattle.cp_obstack.specs.Lists.{list_of, with_number}
use Rattle.firm_uses.specs.declared.rows.Row.{Row}
use Rattle.firm_uses.specs.Held.{AreApart, seen, front, room, no_row, row_at, span_at}
use Rattle.firm_uses.specs.Tables.{with_list}

-- ---- rows that keep their lists

-- so many rows see the same lists
abbrev pub SameLists : List (List ℕ) → List (List ℕ) → List Row → Type 0
SameLists lists more rows = (j : ℕ) → j < length rows → list_of more (span_at rows j) ≡ list_of lists (span_at rows j)

seen_same : {A : Type 0} (f : List ℕ → ℕ → A) (lists more : List (List ℕ)) (rows : List Row) → SameLists lists more rows → map (seen f more) rows ≡ map (seen f lists) rows
seen_same f lists more [] h = refl
seen_same f lists more (r ∷ rows) h =
    ap₂ (λ a b. a ∷ b) (ap (λ l. f l r.len) (h 0 (omega arith))) (seen_same f lists more rows (λ j lt. h (suc j) (omega arith)))

-- one row changes, and the others see the same lists
pub seen_set : {A : Type 0} (f : List ℕ → ℕ → A) (lists more : List (List ℕ)) (rows : List Row) (k : ℕ) (row : Row)
    → ((j : ℕ) → j < length rows → j ≢ k → list_of more (span_at rows j) ≡ list_of lists (span_at rows j))
    → map (seen f more) (set rows k row) ≡ set (map (seen f lists) rows) k (seen f more row)
seen_set f lists more [] k row h = refl
seen_set f lists more (r ∷ rows) zero row h = ap (λ b. seen f more row ∷ b) (seen_same f lists more rows (λ j lt. h (suc j) (omega arith) (λ e. cc)))
seen_set f lists more (r ∷ rows) (suc k) row h =
    ap₂ (λ a b. a ∷ b) (ap (λ l. f l r.len) (h 0 (omega arith) (λ e. cc))) (seen_set f lists more rows k row (λ j lt ne. h (suc j) (omega arith) (λ e. ne (omega (arith, e)))))

pub seen_at : {A : Type 0} (f : List ℕ → ℕ → A) (lists : List (List ℕ)) (rows : List Row) (k : ℕ) (d : A) → k < length rows → get_or (map (seen f lists) rows) k d ≡ seen f lists (row_at rows k)
seen_at f lists rows k d h = get_or-map (seen f lists) rows k no_row d h

pub many_seen : {A : Type 0} (f : List ℕ → ℕ → A) (lists : List (List ℕ)) (rows : List Row) → length (map (seen f lists) rows) ≡ length rows
many_seen f lists rows = length-map rows (seen f lists)

-- ---- the row that an index gives

pub row_is : (rows : List Row) (k : ℕ) (row : Row) → k < length rows → row ≡ get_or rows k row → row ≡ row_at rows k
row_is rows k row h e = e ∙ get_or_default rows k row no_row h

-- ---- a list that is pushed

pub old_list : (lists : List (List ℕ)) (x : List ℕ) (k : ℕ) → k < length lists → list_of (lists ++ x ∷ []) k ≡ list_of lists k
old_list lists x k h = get_or_append_left lists (x ∷ []) [] k h

pub new_list : (lists : List (List ℕ)) (x : List ℕ) (k : ℕ) → k ≡ length lists → list_of (lists ++ x ∷ []) k ≡ x
new_list lists x k h = get_or_at lists x [] [] k (sym h)

-- ---- a number that is written

pub other_list : (lists : List (List ℕ)) (span index value k : ℕ) → k ≢ span → list_of (with_number lists span index value) k ≡ list_of lists k
other_list lists span index value k ne = get_or-set_other lists span k (set (list_of lists span) index value) [] ne

pub this_list : (lists : List (List ℕ)) (span index value : ℕ) → span < length lists → list_of (with_number lists span index value) span ≡ set (list_of lists span) index value
this_list lists span index value h = get_or-set_same lists span (set (list_of lists span) index value) [] h

-- the others, where no two rows have one list
pub others_keep : (lists : List (List ℕ)) (rows : List Row) (k : ℕ) (index value : ℕ) → AreApart lists rows → k < length rows
    → (j : ℕ) → j < length rows → j ≢ k → list_of (with_number lists (span_at rows k) index value) (span_at rows j) ≡ list_of lists (span_at rows j)
others_keep lists rows k index value h there j lt ne = other_list lists (span_at rows k) index value (span_at rows j) (λ e. ne (h.apart j k lt there e))

take-set_in : (n : ℕ) (xs : List ℕ) (i v : ℕ) → take n (set xs i v) ≡ set (take n xs) i v
take-set_in zero xs i v = refl
take-set_in (suc n) [] i v = refl
take-set_in (suc n) (x ∷ xs) zero v = refl
take-set_in (suc n) (x ∷ xs) (suc i) v = ap (λ l. x ∷ l) (take-set_in n xs i v)

set_same_row : (rows : List Row) (k : ℕ) → set rows k (row_at rows k) ≡ rows
set_same_row rows k = set-get_or rows k no_row

-- ---- the calls

-- a number is written behind the front of a row
pub put_rows : (lists : List (List ℕ)) (rows : List Row) (k value : ℕ) (row next : Row) → AreApart lists rows → k < length rows → row ≡ row_at rows k
    → next ≡ record { span = row.span; len = row.len + 1 } → row.len < length (list_of lists (span_at rows k))
    → map (seen front (with_number lists row.span.number row.len value)) (set rows k next)
    ≡ with_list (map (seen front lists) rows) k (list_of (map (seen front lists) rows) k ++ value ∷ [])
put_rows lists rows k value row next h there is n space =
    let more = with_number lists row.span.number row.len value in
    let span_is : row.span.number ≡ span_at rows k = ap (λ (r : Row). r.span.number) is in
    let same : with_number lists (span_at rows k) row.len value ≡ more = ap (λ s. with_number lists s row.len value) (sym span_is) in
    let others = λ (j : ℕ) (lt : j < length rows) (ne : j ≢ k).
    ap (λ ls. list_of ls (span_at rows j)) (sym same) ∙ others_keep lists rows k row.len value h there j lt ne in
    let there_span : row.span.number < length lists = omega (arith, span_is, h.there k there) in
    let gained : seen front more next ≡ list_of (map (seen front lists) rows) k ++ value ∷ [] =
    ap (seen front more) n ∙ ap (take (row.len + 1)) (this_list lists row.span.number row.len value there_span)
    ∙ take_more_set (list_of lists row.span.number) row.len value (omega (arith, space, ap (λ s. length (list_of lists s)) span_is))
    ∙ ap (λ (r : Row). take r.len (list_of lists r.span.number) ++ value ∷ []) is ∙ ap (λ l. l ++ value ∷ []) (sym (seen_at front lists rows k [] there)) in
    seen_set front lists more rows k next others ∙ ap (λ l. set (map (seen front lists) rows) k l) gained

-- a number of a row is changed
pub set_rows : (lists : List (List ℕ)) (rows : List Row) (k index value : ℕ) → AreApart lists rows → k < length rows
    → map (seen front (with_number lists (span_at rows k) index value)) rows
    ≡ with_list (map (seen front lists) rows) k (set (list_of (map (seen front lists) rows) k) index value)
set_rows lists rows k index value h there =
    let more = with_number lists (span_at rows k) index value in
    ap (map (seen front more)) (sym (set_same_row rows k)) ∙ seen_set front lists more rows k (row_at rows k) (others_keep lists rows k index value h there)
    ∙ ap (λ l. set (map (seen front lists) rows) k l)
    (ap (take (row_at rows k).len) (this_list lists (span_at rows k) index value (h.there k there))
    ∙ take-set_in (row_at rows k).len (list_of lists (span_at rows k)) index value
    ∙ ap (λ l. set l index value) (sym (seen_at front lists rows k [] there)))

pub set_room : (lists : List (List ℕ)) (rows : List Row) (k index value : ℕ) → AreApart lists rows → k < length rows
    → map (seen room (with_number lists (span_at rows k) index value)) rows ≡ map (seen room lists) rows
set_room lists rows k index value h there =
    let more = with_number lists (span_at rows k) index value in
    ap (map (seen room more)) (sym (set_same_row rows k)) ∙ seen_set room lists more rows k (row_at rows k) (others_keep lists rows k index value h there)
    ∙ ap (λ n. set (map (seen room lists) rows) k n)
    (ap (λ n. n - (row_at rows k).len) (ap length (this_list lists (span_at rows k) index value (h.there k there)) ∙ length-set (list_of lists (span_at rows k)) index value)
    ∙ sym (seen_at room lists rows k 0 there))
    ∙ set-get_or (map (seen room lists) rows) k 0

length_front_le : (n : ℕ) (xs : List ℕ) → length (take n xs) ≤ n
length_front_le zero xs = omega arith
length_front_le (suc n) [] = omega arith
length_front_le (suc n) (x ∷ xs) = omega (arith, length_front_le n xs)

-- a row is cut
pub cut_rows : (lists : List (List ℕ)) (rows : List Row) (k len : ℕ) (row next : Row) → k < length rows → row ≡ row_at rows k → next ≡ record { span = row.span; len = len }
    → len ≤ length (list_of (map (seen front lists) rows) k)
    → map (seen front lists) (set rows k next) ≡ with_list (map (seen front lists) rows) k (take len (list_of (map (seen front lists) rows) k))
cut_rows lists rows k len row next there is n within =
    let kept = seen_at front lists rows k [] there in
    let below : len ≤ (row_at rows k).len = omega (arith, within, ap length kept, length_front_le (row_at rows k).len (list_of lists (span_at rows k))) in
    seen_set front lists lists rows k next (λ j lt ne. refl)
    ∙ ap (λ l. set (map (seen front lists) rows) k l)
    (ap (seen front lists) n ∙ ap (λ (r : Row). take len (list_of lists r.span.number)) is
    ∙ sym (take-take len (row_at rows k).len (list_of lists (span_at rows k)) below) ∙ ap (take len) (sym kept))

-- a row moves to a list behind the others
pub moved_rows : (lists : List (List ℕ)) (rows : List Row) (k : ℕ) (list : List ℕ) (row next : Row) → AreApart lists rows → k < length rows
    → row ≡ row_at rows k → next.span.number ≡ length lists → next.len ≡ row.len → take row.len list ≡ take row.len (list_of lists row.span.number)
    → map (seen front (lists ++ list ∷ [])) (set rows k next) ≡ map (seen front lists) rows
moved_rows lists rows k list row next h there is span len same =
    seen_set front lists (lists ++ list ∷ []) rows k next (λ j lt ne. old_list lists list (span_at rows j) (h.there j lt))
    ∙ ap (λ l. set (map (seen front lists) rows) k l)
    (ap₂ take len (new_list lists list next.span.number span) ∙ same ∙ ap (λ (r : Row). take r.len (list_of lists r.span.number)) is
    ∙ sym (seen_at front lists rows k [] there))
    ∙ set-get_or (map (seen front lists) rows) k []

-- an empty row comes
pub added_rows : (lists : List (List ℕ)) (rows : List Row) (list : List ℕ) (next : Row) → AreApart lists rows → next.len ≡ 0
    → map (seen front (lists ++ list ∷ [])) (rows ++ next ∷ []) ≡ map (seen front lists) rows ++ [] ∷ []
added_rows lists rows list next h len =
    map_push (seen front (lists ++ list ∷ [])) rows next
    ∙ ap₂ (λ a b. a ++ b ∷ []) (seen_same front lists (lists ++ list ∷ []) rows (λ j lt. old_list lists list (span_at rows j) (h.there j lt)))
    (ap (λ n. take n (list_of (lists ++ list ∷ []) next.span.number)) len)

-- ---- the rows stay apart

at_row : (rows : List Row) (k : ℕ) (next : Row) → k < length rows → row_at (set rows k next) k ≡ next
at_row rows k next there = get_or-set_same rows k next no_row there

at_other : (rows : List Row) (k j : ℕ) (next : Row) → j ≢ k → row_at (set rows k next) j ≡ row_at rows j
at_other rows k j next ne = get_or-set_other rows k j next no_row ne

span_kept : (rows : List Row) (k j : ℕ) (next : Row) → k < length rows → next.span.number ≡ span_at rows k → span_at (set rows k next) j ≡ span_at rows j
span_kept rows k j next there e = elim (cases_eq j k) [
  | inl same ↦ ap (λ i. span_at (set rows k next) i) same ∙ ap (λ (r : Row). r.span.number) (at_row rows k next there) ∙ e ∙ ap (span_at rows) (sym same)
  | inr ne ↦ ap (λ (r : Row). r.span.number) (at_other rows k j next ne)
]

size_kept : (lists : List (List ℕ)) (rows : List Row) (k index value j : ℕ) → AreApart lists rows → k < length rows → j < length rows
    → length (list_of (with_number lists (span_at rows k) index value) (span_at rows j)) ≡ length (list_of lists (span_at rows j))
size_kept lists rows k index value j h there lt = elim (cases_eq j k) [
  | inl same ↦ ap (λ i. length (list_of (with_number lists (span_at rows k) index value) (span_at rows i))) same
      ∙ ap length (this_list lists (span_at rows k) index value (h.there k there)) ∙ length-set (list_of lists (span_at rows k)) index value
      ∙ ap (λ i. length (list_of lists (span_at rows i))) (sym same)
  | inr ne ↦ ap length (others_keep lists rows k index value h there j lt ne)
]

within_put : (lists : List (List ℕ)) (rows : List Row) (k j : ℕ) (next : Row) → k < length rows → j < length rows → AreApart lists rows
    → next.len ≤ length (list_of lists (span_at rows k)) → (row_at (set rows k next) j).len ≤ length (list_of lists (span_at rows j))
within_put lists rows k j next there lt h le = elim (cases_eq j k) [
  | inl same ↦ omega (arith, le, ap (λ i. (row_at (set rows k next) i).len) same, ap (λ (r : Row). r.len) (at_row rows k next there), ap (λ i. length (list_of lists (span_at rows i))) same)
  | inr ne ↦ omega (arith, ap (λ (r : Row). r.len) (at_other rows k j next ne), h.within j lt)
]

pub put_apart : (lists : List (List ℕ)) (rows : List Row) (k value : ℕ) (row next : Row) → AreApart lists rows → k < length rows → row ≡ row_at rows k
    → next ≡ record { span = row.span; len = row.len + 1 } → row.len < length (list_of lists (span_at rows k))
    → AreApart (with_number lists row.span.number row.len value) (set rows k next)
put_apart lists rows k value row next h there is n space =
    let span_is : row.span.number ≡ span_at rows k = ap (λ (r : Row). r.span.number) is in
    let next_span : next.span.number ≡ span_at rows k = ap (λ (r : Row). r.span.number) n ∙ span_is in
    let next_len : next.len ≡ row.len + 1 = ap (λ (r : Row). r.len) n in
    let many = length-set rows k next in
    let lists_are : with_number lists (span_at rows k) row.len value ≡ with_number lists row.span.number row.len value = ap (λ s. with_number lists s row.len value) (sym span_is) in
    subst (λ ls. AreApart ls (set rows k next)) lists_are
    (record {
      there = λ j lt. omega (arith, span_kept rows k j next there next_span, h.there j (omega (arith, lt, many)), length-set lists (span_at rows k) (set (list_of lists (span_at rows k)) row.len value));
      within = λ j lt. omega (
        arith,
        within_put lists rows k j next there (omega (arith, lt, many)) h (omega (arith, next_len, space)),
        size_kept lists rows k row.len value j h there (omega (arith, lt, many)),
        ap (λ s. length (list_of (with_number lists (span_at rows k) row.len value) s)) (span_kept rows k j next there next_span),
      );
      apart = λ i j li lj e. h.apart i j (omega (arith, li, many)) (omega (arith, lj, many)) (sym (span_kept rows k i next there next_span) ∙ e ∙ span_kept rows k j next there next_span);
    })

-- ---- the room of a row

room_at : (lists : List (List ℕ)) (rows : List Row) (k : ℕ) → k < length rows → get_or (map (seen room lists) rows) k 0 ≡ length (list_of lists (span_at rows k)) - (row_at rows k).len
room_at lists rows k there = seen_at room lists rows k 0 there

pub has_space : (lists : List (List ℕ)) (rows : List Row) (k : ℕ) → k < length rows → 0 < get_or (map (seen room lists) rows) k 0 → (row_at rows k).len < length (list_of lists (span_at rows k))
has_space lists rows k there some = omega (arith, room_at lists rows k there, some)

pub moved_room : (lists : List (List ℕ)) (rows : List Row) (k more size : ℕ) (list : List ℕ) (next : Row) → k < length rows
    → next.span.number ≡ length lists → size ≡ next.len + more → length list ≡ size
    → more ≤ get_or (map (seen room (lists ++ list ∷ [])) (set rows k next)) k 0
moved_room lists rows k more size list next there span size_is many =
    let now = room_at (lists ++ list ∷ []) (set rows k next) k (omega (arith, length-set rows k next)) in
    let row = at_row rows k next there in
    let held : list_of (lists ++ list ∷ []) (span_at (set rows k next) k) ≡ list = ap (λ (r : Row). list_of (lists ++ list ∷ []) r.span.number) row ∙ new_list lists list next.span.number span in
    omega (arith, now, ap length held, ap (λ (r : Row). r.len) row, size_is, many)

pub put_room : (lists : List (List ℕ)) (rows : List Row) (k value : ℕ) (row next : Row) → AreApart lists rows → k < length rows → row ≡ row_at rows k
    → next ≡ record { span = row.span; len = row.len + 1 }
    → get_or (map (seen room lists) rows) k 0 ≤ get_or (map (seen room (with_number lists row.span.number row.len value)) (set rows k next)) k 0 + 1
put_room lists rows k value row next h there is n =
    let more = with_number lists row.span.number row.len value in
    let was = room_at lists rows k there in
    let now = room_at more (set rows k next) k (omega (arith, length-set rows k next)) in
    let span_is : row.span.number ≡ span_at rows k = ap (λ (r : Row). r.span.number) is in
    let at = at_row rows k next there in
    let span_now : span_at (set rows k next) k ≡ span_at rows k = ap (λ (r : Row). r.span.number) at ∙ ap (λ (r : Row). r.span.number) n ∙ span_is in
    let size : length (list_of more (span_at (set rows k next) k)) ≡ length (list_of lists (span_at rows k)) =
    ap₂ (λ s t. length (list_of (with_number lists s row.len value) t)) span_is span_now ∙ size_kept lists rows k row.len value k h there there in
    omega (arith, was, now, size, ap (λ (r : Row). r.len) at, ap (λ (r : Row). r.len) n, ap (λ (r : Row). r.len) is)

-- what a vector holds after a call that succeeds
pub made : {A T E : Type 0} (r : Result T E) (x y z : A) → IsOk r → x ≡ (if is_ok r then y else z) → x ≡ y
made r x y z h e = e ∙ ap (λ b. if b then y else z) h

-- a list that is copied and then filled up begins as before
pub front_copied : (len size fill : ℕ) (list copied filled : List ℕ) → copied ≡ [] ++ take len list → filled ≡ take size copied ++ replicate fill 0
    → len ≤ size → len ≤ length list → take len filled ≡ take len list
front_copied len size fill list copied filled c f fits within =
    let size_is : length (take len list) ≡ len = length-take-le len list within in
    let copied_is : take size copied ≡ take len list = ap (take size) c ∙ take_all size (take len list) (omega (arith, size_is, fits)) in
    ap (take len) (f ∙ ap (λ l. l ++ replicate fill 0) copied_is) ∙ take_at (take len list) (replicate fill 0) len size_is

-- ---- a list that is read

pub room_read : (lists : List (List ℕ)) (rows : List Row) (k : ℕ) (row : Row) (list : List ℕ) → k < length rows → row ≡ row_at rows k
    → slice_get lists row.span.number ≡ Some list → get_or (map (seen room lists) rows) k 0 ≡ length list - row.len
room_read lists rows k row list there is read =
    let list_is : list_of lists row.span.number ≡ list = get_or_from_slice_get lists row.span.number list [] read in
    room_at lists rows k there ∙ ap (λ (r : Row). length (list_of lists r.span.number) - r.len) (sym is) ∙ ap (λ l. length l - row.len) list_is

pub within_row : (lists : List (List ℕ)) (rows : List Row) (k : ℕ) (row : Row) → AreApart lists rows → k < length rows → row ≡ row_at rows k
    → row.len ≤ length (list_of lists row.span.number)
within_row lists rows k row h there is = subst (λ (r : Row). r.len ≤ length (list_of lists r.span.number)) (sym is) (h.within k there)

pub within_read : (lists : List (List ℕ)) (rows : List Row) (k : ℕ) (row : Row) (list : List ℕ) → AreApart lists rows → k < length rows → row ≡ row_at rows k
    → slice_get lists row.span.number ≡ Some list → row.len ≤ length list
within_read lists rows k row list h there is read =
    subst (λ l. row.len ≤ length l) (get_or_from_slice_get lists row.span.number list [] read) (within_row lists rows k row h there is)

-- a row that moved to a list of its own
pub moved_apart : (lists : List (List ℕ)) (rows : List Row) (k : ℕ) (list : List ℕ) (next : Row) → AreApart lists rows → k < length rows
    → next.span.number ≡ length lists → next.len ≤ length list → AreApart (lists ++ list ∷ []) (set rows k next)
moved_apart lists rows k list next h there span fits =
    let many = length-set rows k next in
    let more : length (lists ++ list ∷ []) ≡ suc (length lists) = omega (arith, length-append lists (list ∷ [])) in
    let span_now : span_at (set rows k next) k ≡ length lists = ap (λ (r : Row). r.span.number) (at_row rows k next there) ∙ span in
    record {
      there = λ j lt. elim (cases_eq j k) [
        | inl same ↦ omega (arith, ap (span_at (set rows k next)) same, span_now, more)
        | inr ne ↦ omega (arith, ap (λ (r : Row). r.span.number) (at_other rows k j next ne), h.there j (omega (arith, lt, many)), more)
      ];
      within = λ j lt. elim (cases_eq j k) [
        | inl same ↦ omega (
          arith,
          ap (λ i. (row_at (set rows k next) i).len) same,
          ap (λ (r : Row). r.len) (at_row rows k next there),
          ap (λ i. length (list_of (lists ++ list ∷ []) (span_at (set rows k next) i))) same,
          ap length (new_list lists list (span_at (set rows k next) k) span_now),
          fits,
        )
        | inr ne ↦ omega (
          arith,
          ap (λ (r : Row). r.len) (at_other rows k j next ne),
          h.within j (omega (arith, lt, many)),
          ap (λ (r : Row). length (list_of (lists ++ list ∷ []) r.span.number)) (at_other rows k j next ne),
          ap length (old_list lists list (span_at rows j) (h.there j (omega (arith, lt, many)))),
        )
      ];
      apart = λ i j li lj e. elim (cases_eq i k) [
        | inl a ↦ elim (cases_eq j k) [
          | inl b ↦ a ∙ sym b
          | inr ne ↦ absurd (omega (arith, e, ap (span_at (set rows k next)) a, span_now, ap (λ (r : Row). r.span.number) (at_other rows k j next ne), h.there j (omega (arith, lj, many))))
        ]
        | inr ne ↦ elim (cases_eq j k) [
          | inl b ↦ absurd (omega (arith, e, ap (span_at (set rows k next)) b, span_now, ap (λ (r : Row). r.span.number) (at_other rows k i next ne), h.there i (omega (arith, li, many))))
          | inr nj ↦ h.apart i j (omega (arith, li, many)) (omega (arith, lj, many))
              (sym (ap (λ (r : Row). r.span.number) (at_other rows k i next ne)) ∙ e ∙ ap (λ (r : Row). r.span.number) (at_other rows k j next nj))
        ]
      ];
    }
