-- The cells of the parts of an initializer: each address in them has four bytes, and is that of an object.
use Rattle.std.proofs.Common.{◌≡◌, ℕ, ◌+◌, Bool, true, false, ◌||◌, not, List, [], ◌∷◌, ◌++◌, length, map, Option, Some, None, refl, sym, ◌∙◌, subst, true≢false}
use Rattle.std.specs.Prelude.{if◌then◌else◌, option_map, flat_map}
use Rattle.std.specs.List.{AllByRecursion}
use Rattle.c_syntax.specs.declared.kind.SynKind.{SynKind}
use Rattle.c_syntax.specs.declared.kind.SynKind.TheVariants as kind
use Rattle.c_syntax.specs.Trees.{Tree}
use Rattle.c_types.specs.declared.tree.Cell.{Cell}
use Rattle.c_types.specs.WellMade.{AddressFits}
use Rattle.c_typing.specs.Types.{CType, void, integer, pointer, array, unsized, struct, function, IntegerType, Layout, size_of, is_array, is_struct, is_scalar, is_text_array}
use Rattle.c_typing.specs.Places.{Node, nodes, node_at, kind_at, kid}
use Rattle.c_typing.specs.Names.{places}
use Rattle.c_typing.specs.Judgements.{Constant, number, address_of, Typing, initial, Judgement, means, judgement_at, typing_at, layouts}
use Rattle.c_typing.specs.Conversions.{value_of}
use Rattle.c_typing.specs.Rules.{bad_conversion, not_constant_for, is_constant_for, out_of_range, broken_if, bad_initializer}
use Rattle.c_typing.specs.Initializers.{constant_cell, text_cells, moved, Part, part, scalar_part, value_part, braced_part, part_by, part_for, part_of, part_offset, kid_part, is_too_long}
use Rattle.c_typing.specs.Typing.{judgements_at, data_of, unit_in}
use Rattle.c_typing.proofs.MadeTexts.{front_none, back_none}
use Rattle.c_typing.proofs.MadeCells.{all_joint}
use Rattle.c_typing.proofs.MadeConstants.{Fits}

pointer_size : (ls : List Layout) (u : CType) (o a : ℕ) → is_constant_for u (address_of o a) ≡ true → size_of ls u ≡ 4
pointer_size ls (pointer w) o a e = refl
pointer_size ls void o a e = absurd (true≢false (sym e))
pointer_size ls (array u n) o a e = absurd (true≢false (sym e))
pointer_size ls (unsized u) o a e = absurd (true≢false (sym e))
pointer_size ls (struct k) o a e = absurd (true≢false (sym e))
pointer_size ls (function r ps) o a e = absurd (true≢false (sym e))
pointer_size ls (integer IntegerType.bool) o a e = absurd (true≢false (sym e))
pointer_size ls (integer IntegerType.char) o a e = absurd (true≢false (sym e))
pointer_size ls (integer IntegerType.schar) o a e = absurd (true≢false (sym e))
pointer_size ls (integer IntegerType.uchar) o a e = absurd (true≢false (sym e))
pointer_size ls (integer IntegerType.short) o a e = absurd (true≢false (sym e))
pointer_size ls (integer IntegerType.ushort) o a e = absurd (true≢false (sym e))
pointer_size ls (integer IntegerType.int) o a e = absurd (true≢false (sym e))
pointer_size ls (integer IntegerType.uint) o a e = absurd (true≢false (sym e))
pointer_size ls (integer IntegerType.long) o a e = absurd (true≢false (sym e))
pointer_size ls (integer IntegerType.ulong) o a e = absurd (true≢false (sym e))

allowed : (u : CType) (c : Constant) (n : ℕ) → not_constant_for u c n ≡ [] → is_constant_for u c ≡ true
allowed u c n e = by (is_constant_for u c) e
  where
    by : (b : Bool) → broken_if (not b) 8 n ≡ [] → b ≡ true
    by true g = refl
    by false g = absurd (cc g)

module _ (t : Tree) where
  -- a constant is that of an object that is there, or no address
  abbrev pub Okay : Constant → Type 0
  Okay c = Fits (length (data_of (places t) (judgements_at (places t)))) c

  abbrev pub CellFits : Cell → Type 0
  CellFits c = AddressFits (unit_in (places t) (judgements_at (places t))) c.width c.value

  pub text_good : (at : ℕ) (bytes : List ℕ) → AllByRecursion CellFits (text_cells at bytes)
  text_good at [] = tt
  text_good at (b ∷ bs) = (tt, text_good (at + 1) bs)

  moved_good : (by : ℕ) (cs : List Cell) → AllByRecursion CellFits cs → AllByRecursion CellFits (map (moved by) cs)
  moved_good by [] h = tt
  moved_good by (c ∷ cs) h = (h.0, moved_good by cs h.1)

  -- a part's cells fit, where it has no faults
  abbrev pub PartGood : Part → Type 0
  PartGood q = q.faults ≡ [] → AllByRecursion CellFits q.cells

  constant_good : (ls : List Layout) (u : CType) (at : ℕ) (c : Constant) → Okay c → is_constant_for u c ≡ true → AllByRecursion CellFits (constant_cell u at (size_of ls u) c)
  constant_good ls u at (address_of o a) h e = ((pointer_size ls u o a e, h), tt)
  constant_good ls u at (number w) h e = (tt, tt)
  constant_good ls u at _ h e = (tt, tt)

  scalar_good : (ls : List Layout) (static : Bool) (u : CType) (v : Typing) (n : ℕ) → Okay v.constant → PartGood (scalar_part ls static u v n)
  scalar_good ls false u v n h e = tt
  scalar_good ls true u v n h e = constant_good ls u 0 v.constant h (allowed u v.constant n (front_none (not_constant_for u v.constant n) (out_of_range v.constant) (back_none (bad_conversion u v n) (not_constant_for u v.constant n ++ out_of_range v.constant) e)))

  if_part : (b : Bool) (p q r : Part) → PartGood p → PartGood q → (if b then Some p else Some q) ≡ Some r → PartGood r
  if_part true p q r h g e = let same : p ≡ r = cc e in subst PartGood same h
  if_part false p q r h g e = let same : q ≡ r = cc e in subst PartGood same g

  value_good : (ls : List Layout) (static : Bool) (u : CType) (n : ℕ) (o : Option Typing) (q : Part) → ((x : Typing) → o ≡ Some x → Okay (value_of x).constant) → value_part ls static u n o ≡ Some q → PartGood q
  value_good ls static u n None q h e = absurd (cc e)
  value_good ls static u n (Some x) q h e = if_part (is_array u || is_struct u) (part [] (bad_initializer true n)) (scalar_part ls static u (value_of x) n) q (λ g. tt) (scalar_good ls static u (value_of x) n (h x refl)) e

  braced_good : (n : ℕ) (again : Bool) (j : Judgement) (q : Part) → ((k : ℕ) (cs : List Cell) → j ≡ means (initial k cs) → AllByRecursion CellFits cs) → braced_part n again j ≡ Some q → PartGood q
  braced_good n again (means (initial k cs)) q h e = let same : part cs (bad_initializer again n) ≡ q = cc e in subst PartGood same (λ g. h k cs refl)
  braced_good n again _ q h e = absurd (cc e)

  shifted : (by : ℕ) (o : Option Part) (q : Part) → ((r : Part) → o ≡ Some r → PartGood r) → option_map (λ (r : Part). record r { cells = map (moved by) r.cells }) o ≡ Some q → PartGood q
  shifted by None q h e = absurd (cc e)
  shifted by (Some r) q h e = let same : record r { cells = map (moved by) r.cells } ≡ q = cc e in subst PartGood same (λ g. moved_good by r.cells (h r refl g))

  -- of parts without faults
  pub all_cells : (parts : List Part) → AllByRecursion PartGood parts → flat_map (λ (q : Part). q.faults) parts ≡ [] → AllByRecursion CellFits (flat_map (λ (q : Part). q.cells) parts)
  all_cells [] h e = tt
  all_cells (q ∷ parts) h e = all_joint CellFits q.cells (flat_map (λ (r : Part). r.cells) parts) (h.0 (front_none q.faults (flat_map (λ (r : Part). r.faults) parts) e)) (all_cells parts h.1 (back_none q.faults (flat_map (λ (r : Part). r.faults) parts) e))

  -- where values fit, and the cells of braces
  module _ (js : List Judgement) (value_at : (k : ℕ) (x : Typing) → typing_at js k ≡ Some x → Okay (value_of x).constant) (cells_at : (n k : ℕ) (cs : List Cell) → judgement_at js n ≡ means (initial k cs) → AllByRecursion CellFits cs) where
    text_part : (static again : Bool) (u : CType) (m : Node) (b : Bool) (q : Part) → (if b then Some (part (text_cells 0 m.label.bytes) (bad_initializer (is_too_long u (length m.label.bytes)) m.id)) else value_part (layouts js) static u m.id (typing_at js m.id)) ≡ Some q → PartGood q
    text_part static again u m true q e = let same : part (text_cells 0 m.label.bytes) (bad_initializer (is_too_long u (length m.label.bytes)) m.id) ≡ q = cc e in subst PartGood same (λ g. text_good 0 m.label.bytes)
    text_part static again u m false q e = value_good (layouts js) static u m.id (typing_at js m.id) q (λ x h. value_at m.id x h) e

    by_good : (static again : Bool) (u : CType) (m : Node) (k : SynKind) (q : Part) → part_by (places t) js static again u m k ≡ Some q → PartGood q
    by_good static again u m kind.Braces q e = braced_good m.id again (judgement_at js m.id) q (λ k cs h. cells_at m.id k cs h) e
    by_good static again u m kind.Str q e = text_part static again u m (is_text_array u) q e
    by_good static again u m _ q e = value_good (layouts js) static u m.id (typing_at js m.id) q (λ x h. value_at m.id x h) e

    pub for_good : (static again : Bool) (u : CType) (n : ℕ) (q : Part) → part_for (places t) js static again u n ≡ Some q → PartGood q
    for_good static again u n q e = by_good static again u (node_at (nodes t) n) (kind_at (nodes t) n) q e

    pub kid_good : (node : Node) (static : Bool) (u : CType) (i : ℕ) (q : Part) → kid_part (places t) js static u node i ≡ Some q → PartGood q
    kid_good node static u i q e = by (part_of (places t) (layouts js) node i u) refl
      where
        by : (o : Option CType) → part_of (places t) (layouts js) node i u ≡ o → PartGood q
        by None g =
            let is : kid_part (places t) js static u node i ≡ Some (part [] []) = rw g refl in
            let same : part [] [] ≡ q = cc (sym is ∙ e) in subst PartGood same (λ f. tt)
        by (Some w) g =
            let is : kid_part (places t) js static u node i ≡ option_map (λ (r : Part). record r { cells = map (moved (part_offset (layouts js) u i)) r.cells }) (part_for (places t) js static (is_scalar u) w (kid node i)) = rw g refl in
            shifted (part_offset (layouts js) u i) (part_for (places t) js static (is_scalar u) w (kid node i)) q (λ r h. for_good static (is_scalar u) w (kid node i) r h) (sym is ∙ e)
