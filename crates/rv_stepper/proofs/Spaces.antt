-- A store among the bytes is a store in the memory of the machine.
use Rattle.std.proofs.Common.{◌≡◌, ◌≢◌, ℕ, zero, suc, ◌+◌, ◌-◌, ◌*◌, ◌/◌, ◌%◌, ◌<◌, ◌≤◌, ◌⊎◌, inl, inr, Bool, true, false, cond, Some, None, List, length, refl, sym, ap, ◌∙◌, subst, arith, get_or-set_other, get_or-set_same}
use Rattle.std.specs.Prelude.{slice_index, slice_set, ◌==◌, if◌then◌else◌}
use Rattle.std.proofs.lemmas.Bool.Decides.{nat_tests}
use Rattle.std.proofs.lemmas.Bool.{cases_lt}
use Rattle.std.proofs.lemmas.List.{length-set}
use Rattle.std.proofs.Math.Path.{fun_ext}
use Rattle.cp_base.specs.declared.layout.Layout.{Layout}
use Rattle.cp_base.specs.declared.op.Kind.{Kind}
use Rattle.rv_code.specs.Machine.{put_at, load_bytes, store_bytes}
use Rattle.rv_stepper.specs.Space.{Space, IsSpace, index_of, memory_of, may_access, place_of, bytes_at, with_bytes, width_of, extended, loaded_word}

-- `n` bytes from an address on are wholly inside the data, or wholly inside the stack
abbrev IsWithin : Layout → ℕ → ℕ → ℕ → Type 0
IsWithin layout size address n =
    ((layout.cdata ≤ address) × (address + n ≤ layout.cdata + size))
    ⊎ ((layout.top - layout.stack ≤ address) × (address + n ≤ layout.top - layout.stack + layout.stack))

within : (layout : Layout) (size address n : ℕ) → may_access layout size address n ≡ true → IsWithin layout size address n
within layout size address n e = grind (arith, nat_tests)

later : (layout : Layout) (size address n : ℕ) → IsWithin layout size address (suc n) → IsWithin layout size (address + 1) n
later layout size address n (inl h) = inl (omega (arith, h.0), omega (arith, h.1))
later layout size address n (inr h) = inr (omega (arith, h.0), omega (arith, h.1))

in_bytes : (layout : Layout) (size address n : ℕ) → IsWithin layout size address (suc n) → index_of layout size address < size + layout.stack
in_bytes layout size address n (inl (h, k)) = grind (arith, nat_tests)
in_bytes layout size address n (inr (h, k)) = grind (arith, nat_tests)

one_place : (layout : Layout) (size a x : ℕ) → index_of layout size a < size + layout.stack → index_of layout size x ≡ index_of layout size a → x ≡ a
one_place layout size a x lt e = grind (arith, nat_tests)

next_place : (layout : Layout) (size a n : ℕ) → IsSpace layout size → IsWithin layout size a (suc (suc n)) → index_of layout size a + 1 ≡ index_of layout size (a + 1)
next_place layout size a n s w = by w s.apart
  where
    by : IsWithin layout size a (suc (suc n)) → (size ≡ 0) ⊎ ((layout.stack ≡ 0) ⊎ ((layout.cdata + size ≤ layout.top - layout.stack) ⊎ (layout.top ≤ layout.cdata))) → index_of layout size a + 1 ≡ index_of layout size (a + 1)
    by (inl (h, k)) apart = grind (arith, nat_tests)
    by (inr (h, k)) (inl z) = grind (arith, nat_tests)
    by (inr (h, k)) (inr (inl z)) = absurd (omega (arith, h, k, z))
    by (inr (h, k)) (inr (inr (inl le))) = grind (arith, nat_tests)
    by (inr (h, k)) (inr (inr (inr le))) = let b = s.below in grind (arith, nat_tests)

abbrev space : Layout → ℕ → List ℕ → Space
space layout size bytes = record { layout = layout; size = size; bytes = bytes }

put_one : (layout : Layout) (size : ℕ) (bytes : List ℕ) (a v : ℕ) → length bytes ≡ size + layout.stack → index_of layout size a < size + layout.stack → memory_of (space layout size (slice_set bytes (index_of layout size a) v)) ≡ put_at (memory_of (space layout size bytes)) a v
put_one layout size bytes a v len lt = fun_ext (λ x. by x (cases_lt x a))
  where
    other : (x : ℕ) → x ≢ a → slice_index (slice_set bytes (index_of layout size a) v) (index_of layout size x) ≡ put_at (memory_of (space layout size bytes)) a v x
    other x ne =
        let apart : index_of layout size x ≢ index_of layout size a = λ e. ne (one_place layout size a x lt e) in
        let test : (x == a) ≡ false = grind (arith, nat_tests) in
        rw test (get_or-set_other bytes (index_of layout size a) (index_of layout size x) v 0 apart)

    by : (x : ℕ) → (x < a) ⊎ (a ≤ x) → slice_index (slice_set bytes (index_of layout size a) v) (index_of layout size x) ≡ put_at (memory_of (space layout size bytes)) a v x
    by x (inl h) = other x (omega arith)
    by x (inr h) = more (cases_lt a x)
      where
        more : (a < x) ⊎ (x ≤ a) → slice_index (slice_set bytes (index_of layout size a) v) (index_of layout size x) ≡ put_at (memory_of (space layout size bytes)) a v x
        more (inl k) = other x (omega arith)
        more (inr k) =
            let same : x ≡ a = omega arith in
            let test : (x == a) ≡ true = grind (arith, nat_tests) in
            let inside : index_of layout size a < length bytes = subst (λ m. index_of layout size a < m) (sym len) lt in
            rw test (ap (λ y. slice_index (slice_set bytes (index_of layout size a) v) (index_of layout size y)) same ∙ get_or-set_same bytes (index_of layout size a) v 0 inside)

stored_within : (layout : Layout) (size : ℕ) (bytes : List ℕ) (a n v : ℕ) → IsSpace layout size → length bytes ≡ size + layout.stack → IsWithin layout size a n → memory_of (space layout size (with_bytes bytes (index_of layout size a) n v)) ≡ store_bytes (memory_of (space layout size bytes)) a n v
stored_within layout size bytes a zero v s len w = refl
stored_within layout size bytes a (suc zero) v s len w = put_one layout size bytes a (v % 256) len (in_bytes layout size a zero w)
stored_within layout size bytes a (suc (suc n)) v s len w =
    let one = put_one layout size bytes a (v % 256) len (in_bytes layout size a (suc n) w) in
    let first = slice_set bytes (index_of layout size a) (v % 256) in
    let kept : length first ≡ size + layout.stack = length-set bytes (index_of layout size a) (v % 256) ∙ len in
    let rest = stored_within layout size first (a + 1) (suc n) (v / 256) s kept (later layout size a (suc n) w) in
    ap (λ i. memory_of (space layout size (with_bytes first i (suc n) (v / 256)))) (next_place layout size a n s w)
    ∙ rest ∙ ap (λ f. store_bytes f (a + 1) (suc n) (v / 256)) one

placed : (b : Bool) (i j : ℕ) → Some i ≡ (if b then Some j else None) → (b ≡ true) × (i ≡ j)
placed true i j e = (refl, cc)
placed false i j e = absurd (cc e)

stored_at : (s : Space) (a n v i : ℕ) (bytes : List ℕ) → IsSpace s.layout s.size → length s.bytes ≡ s.size + s.layout.stack → Some i ≡ place_of s a n → bytes ≡ with_bytes s.bytes i n v → memory_of (record s { bytes = bytes }) ≡ store_bytes (memory_of s) a n v
stored_at s a n v i bytes is len place e =
    let p = placed (may_access s.layout s.size a n) i (index_of s.layout s.size a) place in
    ap (λ b. memory_of (record s { bytes = b })) (e ∙ ap (λ j. with_bytes s.bytes j n v) p.1)
    ∙ stored_within s.layout s.size s.bytes a n v is len (within s.layout s.size a n p.0)

-- what a store leaves among the bytes
pub stored : (s now : Space) (a n m v i : ℕ) (bytes : List ℕ) → s ≡ now → IsSpace s.layout s.size → length s.bytes ≡ s.size + s.layout.stack → m ≡ n → Some i ≡ place_of now a m → bytes ≡ with_bytes s.bytes i n v → memory_of (record s { bytes = bytes }) ≡ store_bytes (memory_of now) a n v
stored s now a n m v i bytes same is len width place e =
    let at : Some i ≡ place_of s a n = place ∙ ap (λ w. place_of now a w) width ∙ ap (λ t. place_of t a n) (sym same) in
    stored_at s a n v i bytes is len at e ∙ ap (λ t. store_bytes (memory_of t) a n v) same

pub memory_with : (layout : Layout) (size : ℕ) (a b : List ℕ) → a ≡ b → memory_of (space layout size a) ≡ memory_of (space layout size b)
memory_with layout size a b e = ap (λ bytes. memory_of (space layout size bytes)) e

read_within : (s : Space) (a n : ℕ) → IsSpace s.layout s.size → IsWithin s.layout s.size a n → load_bytes (memory_of s) a n ≡ bytes_at s.bytes (index_of s.layout s.size a) n
read_within s a zero is w = refl
read_within s a (suc zero) is w = refl
read_within s a (suc (suc n)) is w =
    ap (λ x. memory_of s a + 256 * x) (read_within s (a + 1) (suc n) is (later s.layout s.size a (suc n) w) ∙ ap (λ i. bytes_at s.bytes i (suc n)) (sym (next_place s.layout s.size a n is w)))

loaded_at : (s : Space) (kind : Kind) (a i : ℕ) → IsSpace s.layout s.size → Some i ≡ place_of s a (width_of kind) → Some (extended kind (bytes_at s.bytes i (width_of kind))) ≡ loaded_word s kind a
loaded_at s kind a i is place =
    let p = placed (may_access s.layout s.size a (width_of kind)) i (index_of s.layout s.size a) place in
    let w = within s.layout s.size a (width_of kind) p.0 in
    ap (λ x. Some (extended kind x)) (ap (λ j. bytes_at s.bytes j (width_of kind)) p.1 ∙ sym (read_within s a (width_of kind) is w))
    ∙ ap (λ b. cond b (Some (extended kind (load_bytes (memory_of s) a (width_of kind)))) None) (sym p.0)

-- what a load gives
pub loaded : (s now : Space) (kind : Kind) (a m i word : ℕ) (bytes : List ℕ) → s ≡ now → IsSpace s.layout s.size → m ≡ width_of kind → Some i ≡ place_of now a m → bytes ≡ s.bytes → word ≡ extended kind (bytes_at bytes i (width_of kind)) → Some word ≡ loaded_word now kind a
loaded s now kind a m i word bytes same is width place from e =
    let at : Some i ≡ place_of s a (width_of kind) = place ∙ ap (λ w. place_of now a w) width ∙ ap (λ t. place_of t a (width_of kind)) (sym same) in
    ap Some (e ∙ ap (λ b. extended kind (bytes_at b i (width_of kind))) from) ∙ loaded_at s kind a i is at ∙ ap (λ t. loaded_word t kind a) same
