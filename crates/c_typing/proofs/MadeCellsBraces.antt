-- The cells of braces stand apart within the object that they initialize.
use Rattle.std.proofs.Common.{◌≡◌, ◌⊎◌, inl, inr, ℕ, zero, suc, ◌+◌, ◌-◌, ◌*◌, ◌<◌, ◌≤◌, Bool, true, false, not, List, [], length, map, Option, Some, None, refl, sym, ap, ◌∙◌, subst, arith, true≢false, unwrap_or}
use Rattle.std.proofs.Math.Nat.{mul-le-mul_right}
use Rattle.std.specs.Prelude.{if◌then◌else◌, flat_map, nat_lt, slice_get, option_map, option_and_then, ◌&&◌, ◌==◌}
use Rattle.std.specs.List.{range_with_len}
use Rattle.c_syntax.specs.declared.kind.SynKind.{SynKind}
use Rattle.c_syntax.specs.declared.kind.SynKind.TheVariants as kind
use Rattle.std.specs.Option.{is_some}
use Rattle.c_typing.specs.Types.{CType, void, integer, pointer, array, unsized, struct, function, Field, Layout, layout_of, no_measure, size_of, is_scalar, is_text_array}
use Rattle.c_typing.specs.Places.{Node, node_at, kind_at, kid, is_string}
use Rattle.c_typing.specs.Names.{Places}
use Rattle.c_typing.specs.Judgements.{Judgement, layouts, all_of}
use Rattle.c_typing.specs.Rules.{bad_initializer}
use Rattle.c_typing.specs.Initializers.{is_text_alone, part_type, part_offset, part_of, moved, Part, part, part_for, kid_part, too_many, count_in, completed, given_count}
use Rattle.c_typing.proofs.MadeAround.{both_true, equal_so}
use Rattle.c_typing.proofs.ProgressCompleted.{completed_other}
use Rattle.c_typing.proofs.MadeCells.{Stand, no_cells, stand_wider, stand_moved, stand_row}
use Rattle.c_typing.proofs.MadeCellsParts.{rows, BracesStand, stand_for}
use Rattle.c_typing.proofs.MadeCellsTypes.{AllLaid, MayHold, start, start_below, field_stands, none_start, array_size, sized_length, part_sized}

no : {A : Type 0} → false ≡ true → A
no e = absurd (true≢false (sym e))

module _ (p : Places) (js : List Judgement) (node : Node) (static : Bool) where
  -- braces among the kids, for the parts of an object of this type
  abbrev pub KidsStand : CType → Type 0
  KidsStand t = (i : ℕ) (u : CType) → i < length node.kids → part_of p (layouts js) node i t ≡ Some u → kind_at p.nodes (kid node i) ≡ kind.Braces → BracesStand p js u (node_at p.nodes (kid node i)).id

  -- how many elements the kid of this index gives
  abbrev gives : ℕ → Option ℕ
  gives i = given_count p js (node_at p.nodes (kid node i)) (kind_at p.nodes (kid node i))

  kid_none : (t : CType) (i : ℕ) (q : Part) → part_of p (layouts js) node i t ≡ None → kid_part p js static t node i ≡ Some q → q.cells ≡ []
  kid_none t i q g e =
      let is : kid_part p js static t node i ≡ Some (part [] []) = rw g refl in
      let same : part [] [] ≡ q = cc (sym is ∙ e) in
      sym (ap (λ (r : Part). r.cells) same)

  shifted : (by size : ℕ) (o : Option Part) (q : Part) → ((r : Part) → o ≡ Some r → r.faults ≡ [] → Stand 0 size r.cells) → option_map (λ (r : Part). record r { cells = map (moved by) r.cells }) o ≡ Some q → q.faults ≡ []
      → Stand (by + 0) (by + size) q.cells
  shifted by size None q h e none = absurd (cc e)
  shifted by size (Some r) q h e none =
      let same : record r { cells = map (moved by) r.cells } ≡ q = cc e in
      subst (λ (x : Part). Stand (by + 0) (by + size) x.cells) same (stand_moved by 0 size r.cells (h r refl (ap (λ (x : Part). x.faults) same ∙ none)))

  kid_some : (t : CType) (i : ℕ) (u : CType) (q : Part) → i < length node.kids → KidsStand t → part_of p (layouts js) node i t ≡ Some u → kid_part p js static t node i ≡ Some q → q.faults ≡ []
      → Stand (part_offset (layouts js) t i) (part_offset (layouts js) t i + size_of (layouts js) (completed u (gives i))) q.cells
  kid_some t i u q lt kids g e none =
      let by = part_offset (layouts js) t i in
      let is : kid_part p js static t node i ≡ option_map (λ (r : Part). record r { cells = map (moved (part_offset (layouts js) t i)) r.cells }) (part_for p js static (is_scalar t) u (kid node i)) = rw g refl in
      let s = shifted (part_offset (layouts js) t i) (size_of (layouts js) (completed u (gives i))) (part_for p js static (is_scalar t) u (kid node i)) q
      (λ r h f. stand_for p js static (is_scalar t) u (kid node i) r (λ k. kids i u lt g k) h f) (sym is ∙ e) none in
      subst (λ n. Stand n (part_offset (layouts js) t i + size_of (layouts js) (completed u (gives i))) q.cells) {x = part_offset (layouts js) t i + 0} (omega arith) s

  -- all of them, from a row of places
  abbrev Parts : CType → List Part → Type 0
  Parts t parts = (all_of (map (kid_part p js static t node) (range_with_len 0 (length node.kids))) ≡ Some parts) × (flat_map (λ (q : Part). q.faults) parts ≡ [])

  by_places : (t : CType) (low : ℕ → ℕ) (size : ℕ) (parts : List Part) → Parts t parts
      → ((i : ℕ) (q : Part) → i < length node.kids → kid_part p js static t node i ≡ Some q → q.faults ≡ [] → Stand (low i) (low (suc i)) q.cells)
      → low (length node.kids) ≤ size → Stand 0 size (flat_map (λ (q : Part). q.cells) parts)
  by_places t low size parts h each le =
      let r = rows (kid_part p js static t node) low 0 (length node.kids) parts (λ i q from lt. each i q (omega (arith, lt))) h.0 h.1 in
      let k : low (0 + length node.kids) ≤ size = subst (λ n. low n ≤ size) {x = length node.kids} (omega arith) le in
      stand_wider (low 0) (low (0 + length node.kids)) 0 size (flat_map (λ (q : Part). q.cells) parts) (omega arith) k (stand_row (low 0) (low (0 + length node.kids)) parts r)

  -- ---- one part only

  abbrev one_place : ℕ → ℕ → ℕ
  one_place size zero = 0
  one_place size (suc i) = size

  one_below : (size n : ℕ) → one_place size n ≤ size
  one_below size zero = omega arith
  one_below size (suc n) = omega arith

  only : (t : CType) (size : ℕ) (parts : List Part) → Parts t parts → length node.kids ≤ 1
      → ((q : Part) → 0 < length node.kids → kid_part p js static t node 0 ≡ Some q → q.faults ≡ [] → Stand 0 size q.cells) → Stand 0 size (flat_map (λ (q : Part). q.cells) parts)
  only t size parts h le one = by_places t (one_place size) size parts h each (one_below size (length node.kids))
    where
      each : (i : ℕ) (q : Part) → i < length node.kids → kid_part p js static t node i ≡ Some q → q.faults ≡ [] → Stand (one_place size i) (one_place size (suc i)) q.cells
      each zero q lt e none = one q lt e none
      each (suc i) q lt e none = absurd (omega (arith, lt, le))

  -- ---- a text in braces

  no_offset : (ls : List Layout) (t : CType) → is_text_array t ≡ true → part_offset ls t 0 ≡ 0
  no_offset ls (array w n) e = grind arith
  no_offset ls (unsized w) e = grind arith
  no_offset ls _ e = no e

  string_gives : (m : Node) (k : SynKind) → is_string k ≡ true → given_count p js m k ≡ Some (length m.label.bytes + 1)
  string_gives m kind.Str e = refl
  string_gives m _ e = no e

  text_braces : (t : CType) (parts : List Part) → Parts t parts → KidsStand t → is_text_alone p t node ≡ true → Stand 0 (size_of (layouts js) (completed t (Some (count_in p t node)))) (flat_map (λ (q : Part). q.cells) parts)
  text_braces t parts h kids alone = only t (size_of (layouts js) (completed t (Some (count_in p t node)))) parts h (omega (arith, long)) one
    where
      outer : (is_text_array t && length node.kids == 1 ≡ true) × (is_string (kind_at p.nodes (kid node 0)) ≡ true)
      outer = split3 (is_text_array t) (length node.kids == 1) (is_string (kind_at p.nodes (kid node 0))) alone
        where
          split3 : (a b c : Bool) → (a && b && c) ≡ true → (a && b ≡ true) × (c ≡ true)
          split3 true true true e = (refl, refl)
          split3 true true false e = no e
          split3 true false c e = no e
          split3 false b c e = no e

      text : is_text_array t ≡ true
      text = (both_true (is_text_array t) (length node.kids == 1) outer.0).0

      long : length node.kids ≡ 1
      long = equal_so (length node.kids) 1 (both_true (is_text_array t) (length node.kids == 1) outer.0).1

      whole : part_of p (layouts js) node 0 t ≡ Some t
      whole = ap (λ b. if b then Some t else part_type (layouts js) t 0) alone

      counted : gives 0 ≡ Some (count_in p t node)
      counted = string_gives (node_at p.nodes (kid node 0)) (kind_at p.nodes (kid node 0)) outer.1 ∙ ap (λ b. Some (if b then length (node_at p.nodes (kid node 0)).label.bytes + 1 else length node.kids)) (sym alone)

      one : (q : Part) → 0 < length node.kids → kid_part p js static t node 0 ≡ Some q → q.faults ≡ [] → Stand 0 (size_of (layouts js) (completed t (Some (count_in p t node)))) q.cells
      one q lt e none =
          let s = kid_some t 0 t q lt kids whole e none in
          let zero_at = no_offset (layouts js) t text in
          let at : Stand 0 (0 + size_of (layouts js) (completed t (gives 0))) q.cells = subst (λ n. Stand n (n + size_of (layouts js) (completed t (gives 0))) q.cells) zero_at s in
          stand_wider 0 (0 + size_of (layouts js) (completed t (gives 0))) 0 (size_of (layouts js) (completed t (Some (count_in p t node)))) q.cells (omega arith)
          (subst (λ c. 0 + size_of (layouts js) (completed t (gives 0)) ≤ size_of (layouts js) (completed t c)) counted (omega arith)) at

  -- ---- parts by their indices

  module _ (laid : AllLaid (layouts js)) where
    -- a part of an object, with its size
    kid_sized : (t : CType) (i : ℕ) (u : CType) (q : Part) → MayHold (layouts js) t → is_text_alone p t node ≡ false → i < length node.kids → KidsStand t → part_type (layouts js) t i ≡ Some u
        → kid_part p js static t node i ≡ Some q → q.faults ≡ [] → Stand (part_offset (layouts js) t i) (part_offset (layouts js) t i + size_of (layouts js) u) q.cells
    kid_sized t i u q may plain lt kids g e none =
        let at : part_of p (layouts js) node i t ≡ Some u = ap (λ b. if b then Some t else part_type (layouts js) t i) plain ∙ g in
        let length_there = sized_length (layouts js) u (part_sized (layouts js) t i u laid may g) in
        subst (λ w. Stand (part_offset (layouts js) t i) (part_offset (layouts js) t i + size_of (layouts js) w) q.cells) (completed_other u (gives i) length_there) (kid_some t i u q lt kids at e none)

    next : (i s : ℕ) → i * s + s ≡ suc i * s
    next i s = grind arith

    -- at most n elements of one size
    abbrev element_place : ℕ → ℕ → ℕ → ℕ
    element_place n s i = (if nat_lt i n then i else n) * s

    place_at : (i n s : ℕ) → i < n → element_place n s i ≡ i * s
    place_at i n s lt = ap (λ b. (if b then i else n) * s) (less i n lt)
      where
        less : (a b : ℕ) → a < b → nat_lt a b ≡ true
        less a b h = grind arith

    place_past : (i n s : ℕ) → n ≤ i → element_place n s i ≡ n * s
    place_past i n s le = ap (λ b. (if b then i else n) * s) (past i n le)
      where
        past : (a b : ℕ) → b ≤ a → nat_lt a b ≡ false
        past a b h = grind arith

    place_next : (i n s : ℕ) → i < n → element_place n s (suc i) ≡ suc i * s
    place_next i n s lt = by (at_end i n lt)
      where
        at_end : (a b : ℕ) → a < b → (suc a < b) ⊎ (b ≡ suc a)
        at_end a b h = grind arith

        by : (suc i < n) ⊎ (n ≡ suc i) → element_place n s (suc i) ≡ suc i * s
        by (inl h) = place_at (suc i) n s h
        by (inr h) = place_past (suc i) n s (omega (arith, h)) ∙ ap (λ m. m * s) h

    place_within : (i n s : ℕ) → element_place n s i ≤ n * s
    place_within i n s = by (in_or_past i n)
      where
        in_or_past : (a b : ℕ) → (a < b) ⊎ (b ≤ a)
        in_or_past a b = grind arith

        by : (i < n) ⊎ (n ≤ i) → element_place n s i ≤ n * s
        by (inl h) = subst (λ m. m ≤ n * s) (sym (place_at i n s h)) (mul-le-mul_right {m = i} {n = n} s (omega (arith, h)))
        by (inr h) = subst (λ m. m ≤ n * s) (sym (place_past i n s h)) (omega arith)

    array_braces : (w : CType) (n : ℕ) (parts : List Part) → MayHold (layouts js) (array w n) → is_text_alone p (array w n) node ≡ false → Parts (array w n) parts → KidsStand (array w n) → Stand 0 (size_of (layouts js) (array w n)) (flat_map (λ (q : Part). q.cells) parts)
    array_braces w n parts may plain h kids =
        by_places (array w n) (element_place n (size_of (layouts js) w)) (size_of (layouts js) (array w n)) parts h each
        (subst (λ m. element_place n (size_of (layouts js) w) (length node.kids) ≤ m) (sym (array_size (layouts js) w n)) (place_within (length node.kids) n (size_of (layouts js) w)))
      where
        test : (a b : ℕ) → (nat_lt a b ≡ true) × (a < b) ⊎ ((nat_lt a b ≡ false) × (b ≤ a))
        test a b = by (nat_lt a b) refl
          where
            by : (c : Bool) → nat_lt a b ≡ c → (nat_lt a b ≡ true) × (a < b) ⊎ ((nat_lt a b ≡ false) × (b ≤ a))
            by true f = inl (f, grind (arith, f))
            by false f = inr (f, grind (arith, f))

        each : (i : ℕ) (q : Part) → i < length node.kids → kid_part p js static (array w n) node i ≡ Some q → q.faults ≡ [] → Stand (element_place n (size_of (layouts js) w) i) (element_place n (size_of (layouts js) w) (suc i)) q.cells
        each i q lt e none = by (test i n)
          where
            by : (nat_lt i n ≡ true) × (i < n) ⊎ ((nat_lt i n ≡ false) × (n ≤ i)) → Stand (element_place n (size_of (layouts js) w) i) (element_place n (size_of (layouts js) w) (suc i)) q.cells
            by (inl f) =
                let k = kid_sized (array w n) i w q may plain lt kids (ap (λ b. if b then Some w else None) f.0) e none in
                let from : i * size_of (layouts js) w ≡ element_place n (size_of (layouts js) w) i = sym (place_at i n (size_of (layouts js) w) f.1) in
                let to : i * size_of (layouts js) w + size_of (layouts js) w ≡ element_place n (size_of (layouts js) w) (suc i) = next i (size_of (layouts js) w) ∙ sym (place_next i n (size_of (layouts js) w) f.1) in
                subst (λ m. Stand m (element_place n (size_of (layouts js) w) (suc i)) q.cells) from (subst (λ m. Stand (i * size_of (layouts js) w) m q.cells) to k)
            by (inr f) =
                let behind : part_of p (layouts js) node i (array w n) ≡ None = ap (λ b. if b then Some (array w n) else part_type (layouts js) (array w n) i) plain ∙ ap (λ b. if b then Some w else None) f.0 in
                let here = place_past i n (size_of (layouts js) w) f.1 in
                let there = place_past (suc i) n (size_of (layouts js) w) (let low = f.1 in omega (arith, low)) in
                subst (λ cs. Stand (element_place n (size_of (layouts js) w) i) (element_place n (size_of (layouts js) w) (suc i)) cs) (sym (kid_none (array w n) i q behind e))
                (no_cells (element_place n (size_of (layouts js) w) i) (element_place n (size_of (layouts js) w) (suc i)) (omega (arith, here, there)))

    unsized_braces : (w : CType) (parts : List Part) → MayHold (layouts js) (unsized w) → is_text_alone p (unsized w) node ≡ false → Parts (unsized w) parts → KidsStand (unsized w) → Stand 0 (size_of (layouts js) (array w (length node.kids))) (flat_map (λ (q : Part). q.cells) parts)
    unsized_braces w parts may plain h kids =
        by_places (unsized w) (λ i. i * size_of (layouts js) w) (size_of (layouts js) (array w (length node.kids))) parts h
        (λ i q lt e none. subst (λ m. Stand (i * size_of (layouts js) w) m q.cells) (next i (size_of (layouts js) w)) (kid_sized (unsized w) i w q may plain lt kids refl e none))
        (subst (λ m. length node.kids * size_of (layouts js) w ≤ m) (sym (array_size (layouts js) w (length node.kids))) (omega arith))

    -- ---- members

    in_layout : (k : ℕ) (l : Layout) (parts : List Part) → layout_of (layouts js) k ≡ Some l → MayHold (layouts js) (struct k) → is_text_alone p (struct k) node ≡ false → Parts (struct k) parts → KidsStand (struct k) → Stand 0 (size_of (layouts js) (struct k)) (flat_map (λ (q : Part). q.cells) parts)
    in_layout k l parts g may plain h kids =
        by_places (struct k) (λ i. start l.fields i l.measure.size) (size_of (layouts js) (struct k)) parts h (λ i q lt e none. each i q lt e none (slice_get l.fields i) refl)
        (subst (λ m. start l.fields (length node.kids) l.measure.size ≤ m) (sym size) (start_below (layouts js) 0 l.fields l.measure.size (length node.kids) (laid k l g)).1)
      where
        size : size_of (layouts js) (struct k) ≡ l.measure.size
        size = ap (λ o. (unwrap_or (option_map (λ (x : Layout). x.measure) o) no_measure).size) g

        each : (i : ℕ) (q : Part) → i < length node.kids → kid_part p js static (struct k) node i ≡ Some q → q.faults ≡ [] → (o : Option Field) → slice_get l.fields i ≡ o
            → Stand (start l.fields i l.measure.size) (start l.fields (suc i) l.measure.size) q.cells
        each i q lt e none None f =
            let of_layout : part_type (layouts js) (struct k) i ≡ None = ap (λ o. option_and_then (λ (x : Layout). option_map (λ (y : Field). y.type) (slice_get x.fields i)) o) g ∙ ap (λ o. option_map (λ (y : Field). y.type) o) f in
            let behind : part_of p (layouts js) node i (struct k) ≡ None = ap (λ b. if b then Some (struct k) else part_type (layouts js) (struct k) i) plain ∙ of_layout in
            let ends = none_start l.fields l.measure.size i f in
            let a = ends.0 in
            let b = ends.1 in
            subst (λ cs. Stand (start l.fields i l.measure.size) (start l.fields (suc i) l.measure.size) cs) (sym (kid_none (struct k) i q behind e))
            (no_cells (start l.fields i l.measure.size) (start l.fields (suc i) l.measure.size) (omega (arith, a, b)))
        each i q lt e none (Some x) f =
            let of_layout : part_type (layouts js) (struct k) i ≡ Some x.type = ap (λ o. option_and_then (λ (z : Layout). option_map (λ (y : Field). y.type) (slice_get z.fields i)) o) g ∙ ap (λ o. option_map (λ (y : Field). y.type) o) f in
            let at : part_offset (layouts js) (struct k) i ≡ x.offset = ap (λ o. unwrap_or (option_and_then (λ (z : Layout). option_map (λ (y : Field). y.offset) (slice_get z.fields i)) o) 0) g ∙ ap (λ o. unwrap_or (option_map (λ (y : Field). y.offset) o) 0) f in
            let own = field_stands (layouts js) 0 l.fields l.measure.size i x (laid k l g) f in
            let from = own.begins in
            let to = own.ends in
            let s = subst (λ n. Stand n (n + size_of (layouts js) x.type) q.cells) at (kid_sized (struct k) i x.type q may plain lt kids of_layout e none) in
            stand_wider x.offset (x.offset + size_of (layouts js) x.type) (start l.fields i l.measure.size) (start l.fields (suc i) l.measure.size) q.cells (omega (arith, from)) to s

    struct_braces : (k : ℕ) (parts : List Part) → MayHold (layouts js) (struct k) → is_text_alone p (struct k) node ≡ false → Parts (struct k) parts → KidsStand (struct k) → Stand 0 (size_of (layouts js) (struct k)) (flat_map (λ (q : Part). q.cells) parts)
    struct_braces k parts may plain h kids = by (layout_of (layouts js) k) refl may
      where
        by : (o : Option Layout) → layout_of (layouts js) k ≡ o → MayHold (layouts js) (struct k) → Stand 0 (size_of (layouts js) (struct k)) (flat_map (λ (q : Part). q.cells) parts)
        by (Some l) g m = in_layout k l parts g may plain h kids
        by None g (inl m) = no (sym (ap (λ o. is_some (option_map (λ (x : Layout). x.measure) o)) g) ∙ m)
        by None g (inr m) = no m.0

    -- ---- scalars

    few : (at : ℕ) → bad_initializer (not (length node.kids - 1 == 0)) at ≡ [] → length node.kids ≤ 1
    few at e = by (length node.kids - 1 == 0) refl e
      where
        by : (b : Bool) → (length node.kids - 1 == 0) ≡ b → bad_initializer (not b) at ≡ [] → length node.kids ≤ 1
        by true f g = let low = equal_so (length node.kids - 1) 0 f in omega (arith, low)
        by false f g = absurd (cc g)

    scalar_braces : (t : CType) (parts : List Part) → MayHold (layouts js) t → is_text_alone p t node ≡ false → Parts t parts → KidsStand t → part_type (layouts js) t 0 ≡ Some t → part_offset (layouts js) t 0 ≡ 0 → length node.kids ≤ 1
        → Stand 0 (size_of (layouts js) t) (flat_map (λ (q : Part). q.cells) parts)
    scalar_braces t parts may plain h kids whole at le = only t (size_of (layouts js) t) parts h le
        (λ q lt e none. let s = subst (λ n. Stand n (n + size_of (layouts js) t) q.cells) at (kid_sized t 0 t q may plain lt kids whole e none) in
        subst (λ n. Stand 0 n q.cells) {x = 0 + size_of (layouts js) t} (omega arith) s)

    -- ---- of any type

    by_type : (t : CType) (parts : List Part) → MayHold (layouts js) t → is_text_alone p t node ≡ false → too_many p (layouts js) t node ≡ [] → Parts t parts → KidsStand t
        → Stand 0 (size_of (layouts js) (completed t (Some (length node.kids)))) (flat_map (λ (q : Part). q.cells) parts)
    by_type (array w n) parts may plain few_parts h kids = array_braces w n parts may plain h kids
    by_type (unsized w) parts may plain few_parts h kids = unsized_braces w parts may plain h kids
    by_type (struct k) parts may plain few_parts h kids = struct_braces k parts may plain h kids
    by_type (integer k) parts may plain few_parts h kids = scalar_braces (integer k) parts may plain h kids refl refl (few node.id few_parts)
    by_type (pointer w) parts may plain few_parts h kids = scalar_braces (pointer w) parts may plain h kids refl refl (few node.id few_parts)
    by_type void parts (inl m) plain few_parts h kids = no m
    by_type void parts (inr m) plain few_parts h kids = no m.0
    by_type (function r ps) parts (inl m) plain few_parts h kids = no m
    by_type (function r ps) parts (inr m) plain few_parts h kids = no m.0

    pub stand_braces : (t : CType) (parts : List Part) → MayHold (layouts js) t → too_many p (layouts js) t node ≡ [] → all_of (map (kid_part p js static t node) (range_with_len 0 (length node.kids))) ≡ Some parts → flat_map (λ (q : Part). q.faults) parts ≡ []
        → KidsStand t → Stand 0 (size_of (layouts js) (completed t (Some (count_in p t node)))) (flat_map (λ (q : Part). q.cells) parts)
    stand_braces t parts may few_parts there none kids = by (is_text_alone p t node) refl
      where
        by : (b : Bool) → is_text_alone p t node ≡ b → Stand 0 (size_of (layouts js) (completed t (Some (count_in p t node)))) (flat_map (λ (q : Part). q.cells) parts)
        by true g = text_braces t parts (there, none) kids g
        by false g =
            let counted : length node.kids ≡ count_in p t node = ap (λ b. if b then length (node_at p.nodes (kid node 0)).label.bytes + 1 else length node.kids) (sym g) in
            subst (λ n. Stand 0 (size_of (layouts js) (completed t (Some n))) (flat_map (λ (q : Part). q.cells) parts)) counted (by_type t parts may g few_parts (there, none) kids)
