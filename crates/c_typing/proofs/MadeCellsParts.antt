-- The cells of an initializer stand apart within the object that it is for.
use Rattle.std.proofs.Common.{◌≡◌, ℕ, zero, suc, ◌+◌, ◌*◌, ◌<◌, ◌≤◌, Bool, true, false, List, [], ◌∷◌, length, map, Option, Some, None, refl, sym, ap, ◌∙◌, subst, arith, true≢false}
use Rattle.std.specs.Prelude.{if◌then◌else◌, flat_map, nat_lt}
use Rattle.std.specs.List.{range_with_len}
use Rattle.c_syntax.specs.declared.kind.SynKind.{SynKind}
use Rattle.c_syntax.specs.declared.kind.SynKind.TheVariants as kind
use Rattle.c_types.specs.declared.tree.Cell.{Cell}
use Rattle.c_typing.specs.Types as type
use Rattle.c_typing.specs.Types.{CType, void, integer, pointer, array, unsized, struct, function, Layout, size_of, is_array, is_struct, is_unsized, is_text_array, is_character}
use Rattle.c_typing.specs.Places.{Node, node_at, kind_at}
use Rattle.c_typing.specs.Names.{Places}
use Rattle.c_typing.specs.Judgements.{Typing, initial, Judgement, means, judgement_at, typing_at, layouts, before, all_of}
use Rattle.c_typing.specs.Rules.{bad_initializer}
use Rattle.c_typing.specs.Initializers.{text_cells, Part, part, value_part, braced_part, part_by, part_for, is_too_long, completed, given_by_braces, given_count}
use Rattle.c_typing.proofs.MadeTexts.{front_none, back_none}
use Rattle.c_typing.proofs.ProgressCompleted.{completed_other}
use Rattle.c_typing.proofs.MadeCells.{Stand, no_cells, stand_wider, stand_text, stand_value, Row}

-- ---- parts one behind the other, by their indices

taken_apart : {B : Type 0} (b : B) (o : Option (List B)) (bs : List B) → before b o ≡ Some bs → (rest : List B) × (o ≡ Some rest) × (bs ≡ b ∷ rest)
taken_apart {B} b None bs e = absurd (cc e)
taken_apart {B} b (Some rest) bs e = (rest, refl, cc e)

pub rows : (f : ℕ → Option Part) (low : ℕ → ℕ) (from n : ℕ) (parts : List Part)
    → ((i : ℕ) (q : Part) → from ≤ i → i < from + n → f i ≡ Some q → q.faults ≡ [] → Stand (low i) (low (suc i)) q.cells)
    → all_of (map f (range_with_len from n)) ≡ Some parts → flat_map (λ (q : Part). q.faults) parts ≡ [] → Row (low from) (low (from + n)) parts
rows f low from zero parts each e none =
    let same : [] ≡ parts = cc e in
    subst (λ qs. Row (low from) (low (from + 0)) qs) same (subst (λ k. low from ≤ low k) {x = from} (omega arith) (omega arith))
rows f low from (suc n) parts each e none = by (f from) refl e (λ qs h g. rows f low (from + 1) n qs (λ i r le lt. each i r (omega (arith, le)) (omega (arith, lt))) h g)
  where
    by : (o : Option Part) → f from ≡ o → all_of (o ∷ map f (range_with_len (from + 1) n)) ≡ Some parts
        → ((qs : List Part) → all_of (map f (range_with_len (from + 1) n)) ≡ Some qs → flat_map (λ (r : Part). r.faults) qs ≡ [] → Row (low (from + 1)) (low (from + 1 + n)) qs)
        → Row (low from) (low (from + suc n)) parts
    by None g h more = absurd (cc h)
    by (Some q) g h more =
        let split = taken_apart q (all_of (map f (range_with_len (from + 1) n))) parts h in
        let all : flat_map (λ (r : Part). r.faults) (q ∷ split.0) ≡ [] = subst (λ qs. flat_map (λ (r : Part). r.faults) qs ≡ []) split.2 none in
        let own = front_none q.faults (flat_map (λ (r : Part). r.faults) split.0) all in
        let others = back_none q.faults (flat_map (λ (r : Part). r.faults) split.0) all in
        let here = each from q (omega arith) (omega arith) g own in
        let rest = more split.0 split.1 others in
        subst (λ qs. Row (low from) (low (from + suc n)) qs) (sym split.2)
        (low (suc from), here, subst (λ k. Row (low (suc from)) (low k) split.0) {x = from + 1 + n} (omega arith) (subst (λ k. Row (low k) (low (from + 1 + n)) split.0) {x = from + 1} (omega arith) rest))

-- ---- what is completed

pub value_done : (ls : List Layout) (static : Bool) (t : CType) (n : ℕ) (o : Option Typing) (q : Part) (c : Option ℕ) → value_part ls static t n o ≡ Some q → Stand 0 (size_of ls (completed t c)) q.cells
value_done ls static t n o q c e = by (is_unsized t) refl
  where
    array_so : (u : CType) → is_unsized u ≡ true → is_array u ≡ true
    array_so (unsized u) h = refl
    array_so _ h = absurd (true≢false (sym h))

    unsized_cells : (x : Option Typing) → is_array t ≡ true → value_part ls static t n x ≡ Some q → q.cells ≡ []
    unsized_cells None a f = absurd (cc f)
    unsized_cells (Some x) a f =
        let is : value_part ls static t n (Some x) ≡ Some (part [] (bad_initializer true n)) = rw a refl in
        let same : part [] (bad_initializer true n) ≡ q = cc (sym is ∙ f) in
        sym (ap (λ (r : Part). r.cells) same)

    by : (b : Bool) → is_unsized t ≡ b → Stand 0 (size_of ls (completed t c)) q.cells
    by true h = subst (λ cs. Stand 0 (size_of ls (completed t c)) cs) (sym (unsized_cells o (array_so t h) e)) (no_cells 0 (size_of ls (completed t c)) (omega arith))
    by false h = subst (λ u. Stand 0 (size_of ls u) q.cells) (sym (completed_other t c h)) (stand_value ls static t n o q e)

-- ---- a text

text_size : (ls : List Layout) (w : CType) (n : ℕ) → is_character w ≡ true → size_of ls (array w n) ≡ n * 1
text_size ls (integer type.char) n e = refl
text_size ls (integer type.schar) n e = refl
text_size ls (integer type.uchar) n e = refl
text_size ls _ n e = absurd (true≢false (sym e))

not_less : (n k at : ℕ) → bad_initializer (nat_lt n k) at ≡ [] → k ≤ n
not_less n k at e = by (nat_lt n k) refl e
  where
    by : (b : Bool) → nat_lt n k ≡ b → bad_initializer b at ≡ [] → k ≤ n
    by true h g = absurd (cc g)
    by false h g = grind (arith, h)

text_done : (ls : List Layout) (t : CType) (bytes : List ℕ) (at : ℕ) → is_text_array t ≡ true → bad_initializer (is_too_long t (length bytes)) at ≡ [] → Stand 0 (size_of ls (completed t (Some (length bytes + 1)))) (text_cells 0 bytes)
text_done ls (array w n) bytes at e f =
    let low = not_less n (length bytes) at f in
    let size = text_size ls w n e in
    stand_wider 0 (0 + length bytes) 0 (size_of ls (array w n)) (text_cells 0 bytes) (omega arith) (omega (arith, low, size)) (stand_text 0 bytes)
text_done ls (unsized w) bytes at e f =
    let size = text_size ls w (length bytes + 1) e in
    stand_wider 0 (0 + length bytes) 0 (size_of ls (array w (length bytes + 1))) (text_cells 0 bytes) (omega arith) (omega (arith, size)) (stand_text 0 bytes)
text_done ls _ bytes at e f = absurd (true≢false (sym e))

-- ---- an initializer, where braces are so

module _ (p : Places) (js : List Judgement) where
  -- the cells that braces mean, for an object of this type
  abbrev pub BracesStand : CType → ℕ → Type 0
  BracesStand u n = (k : ℕ) (cs : List Cell) → judgement_at js n ≡ means (initial k cs) → Stand 0 (size_of (layouts js) (completed u (Some k))) cs

  braced_done : (u : CType) (n : ℕ) (again : Bool) (j : Judgement) (q : Part) → ((k : ℕ) (cs : List Cell) → j ≡ means (initial k cs) → Stand 0 (size_of (layouts js) (completed u (Some k))) cs)
      → braced_part n again j ≡ Some q → Stand 0 (size_of (layouts js) (completed u (given_by_braces j))) q.cells
  braced_done u n again (means (initial k cs)) q h e =
      let same : part cs (bad_initializer again n) ≡ q = cc e in
      subst (λ (r : Part). Stand 0 (size_of (layouts js) (completed u (Some k))) r.cells) same (h k cs refl)
  braced_done u n again _ q h e = absurd (cc e)

  text_or : (static : Bool) (u : CType) (m : Node) (b : Bool) (q : Part) → is_text_array u ≡ b
      → (if b then Some (part (text_cells 0 m.label.bytes) (bad_initializer (is_too_long u (length m.label.bytes)) m.id)) else value_part (layouts js) static u m.id (typing_at js m.id)) ≡ Some q
      → q.faults ≡ [] → Stand 0 (size_of (layouts js) (completed u (Some (length m.label.bytes + 1)))) q.cells
  text_or static u m true q is e none =
      let same : part (text_cells 0 m.label.bytes) (bad_initializer (is_too_long u (length m.label.bytes)) m.id) ≡ q = cc e in
      subst (λ (r : Part). Stand 0 (size_of (layouts js) (completed u (Some (length m.label.bytes + 1)))) r.cells) same
      (text_done (layouts js) u m.label.bytes m.id is (ap (λ (r : Part). r.faults) same ∙ none))
  text_or static u m false q is e none = value_done (layouts js) static u m.id (typing_at js m.id) q (Some (length m.label.bytes + 1)) e

  part_done : (static again : Bool) (u : CType) (m : Node) (k : SynKind) (q : Part) → (k ≡ kind.Braces → BracesStand u m.id) → part_by p js static again u m k ≡ Some q → q.faults ≡ []
      → Stand 0 (size_of (layouts js) (completed u (given_count p js m k))) q.cells
  part_done static again u m kind.Braces q h e none = braced_done u m.id again (judgement_at js m.id) q (h refl) e
  part_done static again u m kind.Str q h e none = text_or static u m (is_text_array u) q refl e none
  part_done static again u m _ q h e none = value_done (layouts js) static u m.id (typing_at js m.id) q None e

  pub stand_for : (static again : Bool) (u : CType) (n : ℕ) (q : Part) → (kind_at p.nodes n ≡ kind.Braces → BracesStand u (node_at p.nodes n).id) → part_for p js static again u n ≡ Some q → q.faults ≡ []
      → Stand 0 (size_of (layouts js) (completed u (given_count p js (node_at p.nodes n) (kind_at p.nodes n)))) q.cells
  stand_for static again u n q h e none = part_done static again u (node_at p.nodes n) (kind_at p.nodes n) q h e none
