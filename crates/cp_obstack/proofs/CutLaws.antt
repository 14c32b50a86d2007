-- What the calls do to the vectors is what they do to the lists.
use Rattle.std.proofs.Common.{◌≡◌, ℕ, zero, suc, ◌+◌, ◌-◌, ◌<◌, ◌≤◌, List, [], ◌∷◌, ◌++◌, length, take, drop, get_or, set, refl, sym, ap, ap₂, ◌∙◌, arith, Some, length-append, append_assoc, suc-add, Result, IsOk, is_ok, if◌then◌else◌}
use Rattle.std.proofs.lemmas.List.{append-nil, length-set, take_at, drop_at, drop-drop, set-append_left, set-append_right, get_or_read}
use Rattle.std.proofs.lemmas.Option.{slice_get-get_or}
use Rattle.std.specs.List.{slice_get, concat}
use Rattle.cp_obstack.specs.Lists.{list_of, with_number}
use Rattle.cp_obstack.specs.Cuts.{cut, cut_from, starts_from, IsCut}

-- ---- the vectors give the lists back

front_of : (base : ℕ) (x y : List ℕ) → take (base + length x - base) (x ++ y) ≡ x
front_of base x y = take_at x y _ (omega arith)

rest_of : (base : ℕ) (x y : List ℕ) → drop (base + length x - base) (x ++ y) ≡ y
rest_of base x y = drop_at x y _ (omega arith)

cut_from-concat : (base : ℕ) (x : List ℕ) (lists : List (List ℕ)) → cut_from base (starts_from (base + length x) lists) (x ++ concat lists) ≡ x ∷ lists
cut_from-concat base x [] = ap (λ y. y ∷ []) (append-nil x)
cut_from-concat base x (y ∷ lists) =
    ap₂ (λ a b. a ∷ b) (front_of base x (y ++ concat lists))
    (ap (cut_from (base + length x) (starts_from (base + length x + length y) lists)) (rest_of base x (y ++ concat lists))
    ∙ cut_from-concat (base + length x) y lists)

cut-concat : (lists : List (List ℕ)) → cut (starts_from 0 lists) (concat lists) ≡ lists
cut-concat [] = refl
cut-concat (x ∷ lists) = cut_from-concat 0 x lists

pub cut_is : (lists : List (List ℕ)) (starts numbers : List ℕ) → starts ≡ starts_from 0 lists → numbers ≡ concat lists → cut starts numbers ≡ lists
cut_is lists starts numbers s n = ap₂ cut s n ∙ cut-concat lists

pub is_cut : (lists : List (List ℕ)) (starts numbers : List ℕ) → starts ≡ starts_from 0 lists → numbers ≡ concat lists → IsCut starts numbers
is_cut lists starts numbers s n =
    let back = sym (cut_is lists starts numbers s n) in
    record { numbers_are = n ∙ ap concat back; starts_are = s ∙ ap (starts_from 0) back }

-- ---- where a list starts

-- how many numbers stand before the list
abbrev pub before : ℕ → List (List ℕ) → ℕ
before number lists = length (concat (take number lists))

start_from : (base number : ℕ) (lists : List (List ℕ)) → get_or (starts_from base lists) number (base + length (concat lists)) ≡ base + before number lists
start_from base zero [] = refl
start_from base (suc number) [] = refl
start_from base zero (x ∷ lists) = omega arith
start_from base (suc number) (x ∷ lists) =
    ap (get_or (starts_from (base + length x) lists) number) (omega (arith, length-append x (concat lists)))
    ∙ start_from (base + length x) number lists ∙ omega (arith, length-append x (concat (take number lists)))

zero_more : (n : ℕ) → n ≡ 0 + n
zero_more n = omega arith

-- the start of the list, or the end of all
pub start_is : (starts numbers : List ℕ) (number : ℕ) → IsCut starts numbers → get_or starts number (length numbers) ≡ before number (cut starts numbers)
start_is starts numbers number h =
    let lists = cut starts numbers in
    ap₂ (λ s n. get_or s number (length n)) h.starts_are h.numbers_are
    ∙ ap (get_or (starts_from 0 lists) number) (zero_more (length (concat lists))) ∙ start_from 0 number lists ∙ sym (zero_more (before number lists))

-- what an index gives
pub start_at : (starts numbers : List ℕ) (number start : ℕ) → IsCut starts numbers → number < length starts → start ≡ get_or starts number start → start ≡ before number (cut starts numbers)
start_at starts numbers number start h there s = get_or_read starts number start there s (length numbers) ∙ start_is starts numbers number h

-- the same by the call, at the vectors as the call saw them
pub start_by : (starts numbers : List ℕ) (number start all : ℕ) (seen : List ℕ) → IsCut starts numbers → seen ≡ starts → all ≡ length numbers
    → start ≡ get_or seen number all → start ≡ before number (cut starts numbers)
start_by starts numbers number start all seen h same n s = s ∙ ap₂ (λ l m. get_or l number m) same n ∙ start_is starts numbers number h

pub length_starts : (base : ℕ) (lists : List (List ℕ)) → length (starts_from base lists) ≡ length lists
length_starts base [] = refl
length_starts base (x ∷ lists) = ap suc (length_starts (base + length x) lists)

pub many : (starts numbers : List ℕ) → IsCut starts numbers → length starts ≡ length (cut starts numbers)
many starts numbers h = ap length h.starts_are ∙ length_starts 0 (cut starts numbers)

-- ---- a list that is read

pub before_more : (number : ℕ) (lists : List (List ℕ)) → number < length lists → before (suc number) lists ≡ before number lists + length (list_of lists number)
before_more number [] h = absurd (omega arith)
before_more zero (x ∷ lists) h = ap length (append-nil x) ∙ zero_more (length x)
before_more (suc number) (x ∷ lists) h =
    omega (arith, length-append x (concat (take (suc number) lists)), length-append x (concat (take number lists)), before_more number lists (omega arith))

pub before_all : (number : ℕ) (lists : List (List ℕ)) → before number lists ≤ length (concat lists)
before_all zero lists = omega arith
before_all (suc number) [] = omega arith
before_all (suc number) (x ∷ lists) =
    omega (arith, length-append x (concat (take number lists)), length-append x (concat lists), before_all number lists)

pub length_numbers : (starts numbers : List ℕ) → IsCut starts numbers → length numbers ≡ length (concat (cut starts numbers))
length_numbers starts numbers h = ap length h.numbers_are

after : (number : ℕ) (lists : List (List ℕ)) → number < length lists → drop (before number lists) (concat lists) ≡ list_of lists number ++ concat (drop (suc number) lists)
after number [] h = absurd (omega arith)
after zero (x ∷ lists) h = refl
after (suc number) (x ∷ lists) h =
    ap (λ n. drop n (x ++ concat lists)) (length-append x (concat (take number lists)))
    ∙ sym (drop-drop (before number lists) (length x) (x ++ concat lists))
    ∙ ap (drop (before number lists)) (drop_at x (concat lists) (length x) refl)
    ∙ after number lists (omega arith)

read_at : (lists : List (List ℕ)) (number : ℕ) → number < length lists → slice_get lists number ≡ Some (list_of lists number)
read_at lists number h = slice_get-get_or lists number [] h

-- the numbers from the start of a list up to the next start
pub list_is : (starts numbers : List ℕ) (number start end : ℕ) → IsCut starts numbers → number < length (cut starts numbers)
    → start ≡ before number (cut starts numbers) → end ≡ before (suc number) (cut starts numbers)
    → slice_get (cut starts numbers) number ≡ Some (take (end - start) (drop start numbers))
list_is starts numbers number start end h there s e =
    let lists = cut starts numbers in
    let rest : drop start numbers ≡ list_of lists number ++ concat (drop (suc number) lists) = ap₂ drop s h.numbers_are ∙ after number lists there in
    let size : length (list_of lists number) ≡ end - start = omega (arith, before_more number lists there, s, e) in
    read_at lists number there ∙ ap (λ l. Some l) (sym (ap (take (end - start)) rest ∙ take_at _ _ (end - start) size))

-- ---- a number that is changed

changed_in : (lists : List (List ℕ)) (number index value : ℕ) → number < length lists → index < length (list_of lists number)
    → set (concat lists) (before number lists + index) value ≡ concat (with_number lists number index value)
changed_in [] number index value h i = absurd (omega arith)
changed_in (x ∷ lists) zero index value h i = ap (λ n. set (x ++ concat lists) n value) (omega arith) ∙ set-append_left x (concat lists) index value i
changed_in (x ∷ lists) (suc number) index value h i =
    let place = length-append x (concat (take number lists)) in
    let place_in : length (x ++ concat (take number lists)) + index - length x ≡ before number lists + index = omega (arith, place) in
    set-append_right x (concat lists) (length x) (length (x ++ concat (take number lists)) + index) value refl (omega (arith, place))
    ∙ ap (λ n. x ++ set (concat lists) n value) place_in ∙ ap (λ l. x ++ l) (changed_in lists number index value (omega arith) i)

same_starts : (base : ℕ) (lists : List (List ℕ)) (number : ℕ) (index value : ℕ) → starts_from base (with_number lists number index value) ≡ starts_from base lists
same_starts base [] number index value = refl
same_starts base (x ∷ lists) zero index value = ap (λ n. base ∷ starts_from (base + n) lists) (length-set x index value)
same_starts base (x ∷ lists) (suc number) index value = ap (λ s. base ∷ s) (same_starts (base + length x) lists number index value)

pub within_all : (starts numbers : List ℕ) (number index start : ℕ) → IsCut starts numbers → number < length (cut starts numbers)
    → index < length (list_of (cut starts numbers) number) → start ≡ before number (cut starts numbers) → start + index < length numbers
within_all starts numbers number index start h there i s =
    let lists = cut starts numbers in
    omega (arith, before_more number lists there, before_all (suc number) lists, ap length h.numbers_are, s, i)

pub changed_numbers : (starts numbers : List ℕ) (number index value start : ℕ) → IsCut starts numbers → number < length (cut starts numbers)
    → index < length (list_of (cut starts numbers) number) → start ≡ before number (cut starts numbers)
    → set numbers (start + index) value ≡ concat (with_number (cut starts numbers) number index value)
changed_numbers starts numbers number index value start h there i s =
    ap₂ (λ l n. set l (n + index) value) h.numbers_are s ∙ changed_in (cut starts numbers) number index value there i

pub kept_starts : (starts numbers : List ℕ) (number index value : ℕ) → IsCut starts numbers → starts ≡ starts_from 0 (with_number (cut starts numbers) number index value)
kept_starts starts numbers number index value h = h.starts_are ∙ sym (same_starts 0 (cut starts numbers) number index value)

-- ---- lists that are given back

take-append-add : (x y : List ℕ) (n : ℕ) → take (length x + n) (x ++ y) ≡ x ++ take n y
take-append-add [] y n = ap (λ m. take m y) (omega arith)
take-append-add (a ∷ x) y n = rw suc-add (ap (λ l. a ∷ l) (take-append-add x y n))

front_lists : (lists : List (List ℕ)) (number : ℕ) → take (before number lists) (concat lists) ≡ concat (take number lists)
front_lists lists zero = refl
front_lists [] (suc number) = refl
front_lists (x ∷ lists) (suc number) =
    ap (λ n. take n (x ++ concat lists)) (length-append x (concat (take number lists)))
    ∙ take-append-add x (concat lists) (before number lists) ∙ ap (λ l. x ++ l) (front_lists lists number)

front_starts : (base : ℕ) (lists : List (List ℕ)) (number : ℕ) → take number (starts_from base lists) ≡ starts_from base (take number lists)
front_starts base lists zero = refl
front_starts base [] (suc number) = refl
front_starts base (x ∷ lists) (suc number) = ap (λ s. base ∷ s) (front_starts (base + length x) lists number)

pub released_numbers : (starts numbers : List ℕ) (number end : ℕ) → IsCut starts numbers → end ≡ before number (cut starts numbers)
    → take end numbers ≡ concat (take number (cut starts numbers))
released_numbers starts numbers number end h e = ap₂ take e h.numbers_are ∙ front_lists (cut starts numbers) number

pub released_starts : (starts numbers : List ℕ) (number : ℕ) → IsCut starts numbers → take number starts ≡ starts_from 0 (take number (cut starts numbers))
released_starts starts numbers number h = ap (take number) h.starts_are ∙ front_starts 0 (cut starts numbers) number

-- ---- a list that is pushed

concat_push : (lists : List (List ℕ)) (x : List ℕ) → concat (lists ++ x ∷ []) ≡ concat lists ++ x
concat_push [] x = append-nil x
concat_push (y ∷ lists) x = ap (λ l. y ++ l) (concat_push lists x) ∙ sym (append_assoc y (concat lists) x)

starts_push : (base : ℕ) (lists : List (List ℕ)) (x : List ℕ) → starts_from base (lists ++ x ∷ []) ≡ starts_from base lists ++ (base + length (concat lists)) ∷ []
starts_push base [] x = ap (λ n. n ∷ []) (omega arith)
starts_push base (y ∷ lists) x =
    ap (λ s. base ∷ s) (starts_push (base + length y) lists x
    ∙ ap (λ n. starts_from (base + length y) lists ++ n ∷ []) (omega (arith, length-append y (concat lists))))

pub pushed_numbers : (starts numbers x : List ℕ) → IsCut starts numbers → numbers ++ x ≡ concat (cut starts numbers ++ x ∷ [])
pushed_numbers starts numbers x h = ap (λ l. l ++ x) h.numbers_are ∙ sym (concat_push (cut starts numbers) x)

pub pushed_starts : (starts numbers x : List ℕ) → IsCut starts numbers → starts ++ length numbers ∷ [] ≡ starts_from 0 (cut starts numbers ++ x ∷ [])
pushed_starts starts numbers x h =
    ap₂ (λ s n. s ++ n ∷ []) h.starts_are (ap length h.numbers_are ∙ omega arith) ∙ sym (starts_push 0 (cut starts numbers) x)

-- what a vector holds after a call that succeeds
pub made : {A T E : Type 0} (r : Result T E) (x y z : A) → IsOk r → x ≡ (if is_ok r then y else z) → x ≡ y
made r x y z h e = e ∙ ap (λ b. if b then y else z) h
