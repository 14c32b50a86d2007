-- The nodes that each block lists.
use Rattle.std.proofs.Common.{◌≡◌, ◌≢◌, ◌==◌, ℕ, zero, suc, ◌+◌, ◌<◌, ◌≤◌, Bool, true, false, ◌&&◌, List, [], ◌∷◌, ◌++◌, length, map, get_or, set, refl, sym, ap, ap₂, ◌∙◌, arith, if◌then◌else◌, cond, inl, inr, true≢false}
use Rattle.std.proofs.lemmas.Bool.{cases_eq, cases_lt, eq-eqb, ne_eqb}
use Rattle.std.proofs.lemmas.List.{get_or-set_same, get_or-set_other, get_or_at, length-map}
use Rattle.std.proofs.lemmas.List.Sums.{sum_by-cons}
use Rattle.std.proofs.lemmas.List.Sorted.{sum_by-IsPermutation, IsPermutation-map, IsPermutation-swap_remove}
use Rattle.std.specs.List.{remove, swap_remove, sum_by}
use Rattle.std.specs.List.Sorted.{IsPermutation}
use Rattle.cp_obstack.specs.Lists.{list_of}
use Rattle.firm_uses.specs.Counts.{times}
use Rattle.firm_uses.proofs.CountLaws.{one, one_same, one_other, times_push, times-remove}
use Rattle.firm_rules.specs.declared.node.NodeId.{NodeId}
use Rattle.firm_rules.specs.Graphs.{FirmNode}
use Rattle.firm_tables.specs.declared.nodes.Stored.{Stored}
use Rattle.firm_tables.specs.Nodes.{numbers, stands_in, node_of}
use Rattle.firm_tables.specs.Held.{nodes_from, no_row, is_in, AreMembers}
use Rattle.firm_tables.proofs.NodeLaws.{nodes_at, past_nodes}

-- 1 where the row's node is there in the block
abbrev pub count : Stored → ℕ → ℕ
count row b = if is_in row b then 1 else 0

and_false : (x : Bool) → (x && false) ≡ false
and_false true = refl
and_false false = refl

in_other : (row : Stored) (b : ℕ) → row.block ≢ b → count row b ≡ 0
in_other row b ne = ap (λ x. cond (row.there && x) 1 0) (ne_eqb row.block b ne) ∙ ap (λ x. cond x 1 0) (and_false row.there)

pub in_own : (row : Stored) (b : ℕ) → row.there ≡ true → row.block ≡ b → count row b ≡ 1
in_own row b there e = ap₂ (λ x y. cond (x && y) 1 0) there (eq-eqb row.block b e)

in_none : (row : Stored) (b : ℕ) → row.there ≡ false → count row b ≡ 0
in_none row b gone = ap (λ x. cond (x && (row.block == b)) 1 0) gone

pub past_rows : (rows : List Stored) (n : ℕ) → length rows ≤ n → get_or rows n no_row ≡ no_row
past_rows [] n h = refl
past_rows (r ∷ rows) zero h = absurd (omega arith)
past_rows (r ∷ rows) (suc n) h = past_rows rows n (omega arith)

-- a node that is there has a row
pub there_within : (rows : List Stored) (n : ℕ) → (get_or rows n no_row).there ≡ true → n < length rows
there_within [] n e = absurd (true≢false (sym e))
there_within (r ∷ rows) zero e = omega arith
there_within (r ∷ rows) (suc n) e = omega (arith, there_within rows n e)

-- what is read of a node tells of its row
pub there_row : (os cs : List (List ℕ)) (rows : List Stored) (n : ℕ) → (node_of (nodes_from 0 os cs rows) n).there ≡ (get_or rows n no_row).there
there_row os cs rows n = elim (cases_lt n (length rows)) [
  | inl lt ↦ ap (λ (node : FirmNode). node.there) (nodes_at os cs rows n lt)
  | inr le ↦ ap (λ (node : FirmNode). node.there) (past_nodes os cs rows n le) ∙ sym (ap (λ (r : Stored). r.there) (past_rows rows n le))
]

pub stands_row : (os cs : List (List ℕ)) (rows : List Stored) (n b : ℕ) → stands_in (node_of (nodes_from 0 os cs rows) n) b ≡ is_in (get_or rows n no_row) b
stands_row os cs rows n b = elim (cases_lt n (length rows)) [
  | inl lt ↦ ap (λ (node : FirmNode). stands_in node b) (nodes_at os cs rows n lt)
  | inr le ↦ ap (λ (node : FirmNode). stands_in node b) (past_nodes os cs rows n le) ∙ sym (ap (λ (r : Stored). is_in r b) (past_rows rows n le))
]

pub read_old : (rows : List Stored) (row : Stored) (n : ℕ) → n ≢ length rows → get_or (rows ++ row ∷ []) n no_row ≡ get_or rows n no_row
read_old [] row zero ne = absurd (ne refl)
read_old [] row (suc n) ne = refl
read_old (r ∷ rows) row zero ne = refl
read_old (r ∷ rows) row (suc n) ne = read_old rows row n (λ e. ne (ap suc e))

pub row_last : (rows : List Stored) (row : Stored) (n : ℕ) → n ≡ length rows → get_or (rows ++ row ∷ []) n no_row ≡ row
row_last rows row n new = get_or_at rows row [] no_row n (sym new)

-- ---- a node that comes

pub member_made : (rows : List Stored) (members after : List (List ℕ)) (row : Stored) → AreMembers rows members → row.there ≡ true
    → list_of after row.block ≡ list_of members row.block ++ length rows ∷ []
    → ((b : ℕ) → b ≢ row.block → list_of after b ≡ list_of members b) → AreMembers (rows ++ row ∷ []) after
member_made rows members after row a there own others b n = elim (cases_eq n (length rows)) [
  | inl new ↦
      let read : get_or (rows ++ row ∷ []) n no_row ≡ row = get_or_at rows row [] no_row n (sym new) in
      let was : count (get_or rows n no_row) b ≡ 0 = ap (λ r. count r b) (past_rows rows n (omega (arith, new))) in
      elim (cases_eq b row.block) [
        | inl here ↦ ap (λ c. times n (list_of after c)) here ∙ ap (times n) own ∙ times_push n (list_of members row.block) (length rows)
            ∙ omega (arith, a b n, was, ap (λ c. times n (list_of members c)) here, ap (one n) (sym new), one_same n)
            ∙ sym (in_own row b there (sym here)) ∙ sym (ap (λ r. count r b) read)
        | inr ne ↦ ap (times n) (others b ne) ∙ a b n ∙ was ∙ sym (in_other row b (λ e. ne (sym e))) ∙ sym (ap (λ r. count r b) read)
      ]
  | inr old ↦
      let read : count (get_or (rows ++ row ∷ []) n no_row) b ≡ count (get_or rows n no_row) b = ap (λ r. count r b) (read_old rows row n old) in
      elim (cases_eq b row.block) [
        | inl here ↦ ap (λ c. times n (list_of after c)) here ∙ ap (times n) own ∙ times_push n (list_of members row.block) (length rows)
            ∙ omega (arith, ap (λ c. times n (list_of members c)) here, one_other n (length rows) (λ e. old (sym e))) ∙ a b n ∙ sym read
        | inr ne ↦ ap (times n) (others b ne) ∙ a b n ∙ sym read
      ]
]

-- ---- a node that goes

pub has_member : (rows : List Stored) (members : List (List ℕ)) (n : ℕ) (row : Stored) → AreMembers rows members → row ≡ get_or rows n no_row → row.there ≡ true
    → 0 < times n (list_of members row.block)
has_member rows members n row a e there = omega (arith, a row.block n, ap (λ r. count r row.block) e, in_own row row.block there refl)

pub member_gone : (rows : List Stored) (members after : List (List ℕ)) (n : ℕ) (row was : Stored) → AreMembers rows members → was ≡ get_or rows n no_row
    → was.there ≡ true → row ≡ record was { there = false }
    → ((x : ℕ) → times x (list_of after was.block) + (one x n + 0) ≡ times x (list_of members was.block))
    → ((b : ℕ) → b ≢ was.block → list_of after b ≡ list_of members b) → AreMembers (set rows n row) after
member_gone rows members after n row was a w there r own others b x =
    let within : n < length rows = there_within rows n (ap (λ (s : Stored). s.there) (sym w) ∙ there) in
    elim (cases_eq x n) [
      | inl this ↦
          let read : count (get_or (set rows n row) x no_row) b ≡ 0 =
          ap (λ k. count (get_or (set rows n row) k no_row) b) this ∙ ap (λ s. count s b) (get_or-set_same rows n row no_row within)
          ∙ in_none row b (ap (λ (s : Stored). s.there) r) in
          let before : times x (list_of members b) ≡ count was b = a b x ∙ ap (λ k. count (get_or rows k no_row) b) this ∙ sym (ap (λ s. count s b) w) in
          elim (cases_eq b was.block) [
            | inl here ↦ omega (
              arith,
              own x,
              ap (one x) (sym this),
              one_same x,
              ap (λ c. times x (list_of after c)) here,
              ap (λ c. times x (list_of members c)) here,
              before,
              in_own was b there (sym here),
            ) ∙ sym read
            | inr ne ↦ ap (times x) (others b ne) ∙ before ∙ in_other was b (λ e. ne (sym e)) ∙ sym read
          ]
      | inr other ↦
          let read : count (get_or (set rows n row) x no_row) b ≡ count (get_or rows x no_row) b = ap (λ s. count s b) (get_or-set_other rows n x row no_row other) in
          elim (cases_eq b was.block) [
            | inl here ↦ omega (
              arith,
              own x,
              one_other x n (λ e. other (sym e)),
              ap (λ c. times x (list_of after c)) here,
              ap (λ c. times x (list_of members c)) here,
            ) ∙ a b x ∙ sym read
            | inr ne ↦ ap (times x) (others b ne) ∙ a b x ∙ sym read
          ]
    ]

-- ---- lists of nodes, by their numbers

pub numbers_removed : (list : List NodeId) (i : ℕ) → numbers (remove list i) ≡ remove (numbers list) i
numbers_removed [] zero = refl
numbers_removed [] (suc i) = refl
numbers_removed (x ∷ list) zero = refl
numbers_removed (x ∷ list) (suc i) = ap (λ l. x.number ∷ l) (numbers_removed list i)

pub number_at : (list : List NodeId) (i : ℕ) (d : NodeId) → i < length list → get_or (numbers list) i 0 ≡ (get_or list i d).number
number_at [] i d h = absurd (omega arith)
number_at (x ∷ list) zero d h = refl
number_at (x ∷ list) (suc i) d h = number_at list i d (omega arith)

pub numbers_long : (list : List NodeId) → length (numbers list) ≡ length list
numbers_long [] = refl
numbers_long (x ∷ list) = ap suc (numbers_long list)

-- ---- the list of a block

pub list_at : {V : Type 0} (f : V → List ℕ) (lists : List V) (b : ℕ) (d : V) → b < length lists → list_of (map f lists) b ≡ f (get_or lists b d)
list_at f [] b d h = absurd (omega arith)
list_at f (v ∷ lists) zero d h = refl
list_at f (v ∷ lists) (suc b) d h = list_at f lists b d (omega arith)

pub list_added : {V : Type 0} (f : V → List ℕ) (lists : List V) (v : V) (b : ℕ) → f v ≡ [] → list_of (map f (lists ++ v ∷ [])) b ≡ list_of (map f lists) b
list_added f [] v zero e = e
list_added f [] v (suc b) e = refl
list_added f (x ∷ lists) v zero e = refl
list_added f (x ∷ lists) v (suc b) e = list_added f lists v b e

pub list_changed : {V : Type 0} (f : V → List ℕ) (lists : List V) (b : ℕ) (v : V) → b < length lists → list_of (map f (set lists b v)) b ≡ f v
list_changed f [] b v h = absurd (omega arith)
list_changed f (x ∷ lists) zero v h = refl
list_changed f (x ∷ lists) (suc b) v h = list_changed f lists b v (omega arith)

pub list_kept : {V : Type 0} (f : V → List ℕ) (lists : List V) (b other : ℕ) (v : V) → other ≢ b → list_of (map f (set lists b v)) other ≡ list_of (map f lists) other
list_kept f [] b other v ne = refl
list_kept f (x ∷ lists) zero zero v ne = absurd (ne refl)
list_kept f (x ∷ lists) zero (suc other) v ne = refl
list_kept f (x ∷ lists) (suc b) zero v ne = refl
list_kept f (x ∷ lists) (suc b) (suc other) v ne = list_kept f lists b other v (λ e. ne (ap suc e))

pub list_written : {V : Type 0} (f : V → List ℕ) (lists : List V) (b : ℕ) (v : V) (rows : List (List ℕ)) → map f lists ≡ rows → b < length rows
    → list_of (map f (set lists b v)) b ≡ f v
list_written f lists b v rows e h = list_changed f lists b v (omega (arith, h, ap length e, length-map lists f))

pub list_read : {V : Type 0} (f : V → List ℕ) (lists : List V) (b : ℕ) (was : V) (rows : List (List ℕ)) → map f lists ≡ rows → b < length rows → was ≡ get_or lists b was
    → f was ≡ list_of rows b
list_read f lists b was rows e h w = ap f w ∙ sym (list_at f lists b was (omega (arith, h, ap length e, length-map lists f))) ∙ ap (λ rs. list_of rs b) e

pub numbers_pushed : (list : List NodeId) (x : NodeId) → numbers (list ++ x ∷ []) ≡ numbers list ++ x.number ∷ []
numbers_pushed [] x = refl
numbers_pushed (y ∷ list) x = ap (λ l. y.number ∷ l) (numbers_pushed list x)

pub removed_one : (list new : List NodeId) (place node x : ℕ) → place < length list → get_or (numbers list) place 0 ≡ node → new ≡ remove list place
    → times x (numbers new) + (one x node + 0) ≡ times x (numbers list)
removed_one list new place node x h n e =
    omega (
      arith,
      times-remove x (numbers list) place 0 (omega (arith, h, numbers_long list)),
      ap (one x) n,
      ap (times x) (ap numbers e ∙ numbers_removed list place),
    )

pub members_back : (members pushed back : List (List ℕ)) (block number : ℕ) → list_of pushed block ≡ list_of members block ++ number ∷ []
    → ((b : ℕ) → b ≢ block → list_of pushed b ≡ list_of members b)
    → ((x : ℕ) → times x (list_of back block) + (one x number + 0) ≡ times x (list_of pushed block)) → ((b : ℕ) → b ≢ block → list_of back b ≡ list_of pushed b)
    → (b n : ℕ) → times n (list_of back b) ≡ times n (list_of members b)
members_back members pushed back block number p po r ro b n = elim (cases_eq b block) [
  | inl here ↦ omega (
    arith,
    r n,
    ap (times n) p,
    times_push n (list_of members block) number,
    ap (λ c. times n (list_of back c)) here,
    ap (λ c. times n (list_of members c)) here,
  )
  | inr ne ↦ ap (times n) (ro b ne ∙ po b ne)
]

pub is_member : (members pushed : List (List ℕ)) (block number : ℕ) → list_of pushed block ≡ list_of members block ++ number ∷ [] → 0 < times number (list_of pushed block)
is_member members pushed block number p =
    omega (arith, ap (times number) p, times_push number (list_of members block) number, one_same number)

-- ---- the last node comes into the place of one that goes

times_sum : (x : ℕ) (list : List ℕ) → times x list ≡ sum_by (one x) list
times_sum x [] = refl
times_sum x (y ∷ list) = ap (λ k. one x y + k) (times_sum x list) ∙ sym (sum_by-cons (one x) y list)

times_permuted : (x : ℕ) (list after : List ℕ) → IsPermutation list after → times x after ≡ times x list
times_permuted x list after moved = times_sum x after ∙ sum_by-IsPermutation (one x) list after moved ∙ sym (times_sum x list)

pub swapped_one : (list after : List NodeId) (place node x : ℕ) (gone : NodeId) → place < length list → get_or (numbers list) place 0 ≡ node → gone ≡ get_or list place gone
    → after ≡ swap_remove list place gone → times x (numbers after) + (one x node + 0) ≡ times x (numbers list)
swapped_one list after place node x gone h is read e =
    let moved = IsPermutation-map (λ (id : NodeId). id.number) list (gone ∷ swap_remove list place gone) (IsPermutation-swap_remove list place gone h read) in
    let counted = times_permuted x (numbers list) (gone.number ∷ numbers (swap_remove list place gone)) moved in
    let its : gone.number ≡ node = ap (λ (id : NodeId). id.number) read ∙ sym (number_at list place gone h) ∙ is in
    omega (arith, counted, ap (λ l. times x (numbers l)) e, ap (one x) its)
