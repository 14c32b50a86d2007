-- The types of parameters, members and specs of a derived tree have their lengths, and the part inside of an array next to a name
-- has no steps (C99 6.7.5.2).
use Rattle.std.proofs.Common.{◌≡◌, ◌<◌, ℕ, zero, suc, false, List, [], ◌∷◌, Option, Some, None, length, refl, sym, arith, true≢false}
use Rattle.std.specs.Prelude.{IfSome, slice_get, unwrap_or}
use Rattle.c_syntax.specs.declared.kind.SynKind.TheVariants as kind
use Rattle.c_syntax.specs.declared.syntax.SynNode.{SynNode}
use Rattle.c_typing.specs.Types.{CType, pointer, unsized}
use Rattle.c_typing.specs.Places.{other_kids}
use Rattle.c_typing.specs.Judgements.{judgement_at, steps_of, type_at, type_of}
use Rattle.c_typing.specs.Typing.{judgements_at}
use Rattle.c_nodes.specs.Parents.{nodes_in, tree_in}
use Rattle.c_names.specs.Denoted.{IsDerived, places_in}
use Rattle.c_meanings.specs.Meanings.{judged_to, kid_in, node_in}
use Rattle.c_meanings.proofs.KidLaws.{node_there}
use Rattle.c_lengths.specs.Lengths as deep
use Rattle.c_lengths.proofs.Lengths.{members_fine, parameters_fine, specs_fine}
use Rattle.c_lengths.proofs.Firsts.{array_first}
use Rattle.c_lengths.proofs.Prefixes.{seen_before, type_before}
use Rattle.c_declarator_rows.specs.Arrays.{BeginsAtName}
use Rattle.c_declarator_rows.specs.Lengths.{HasLengthAt, KidsHaveLengths, lacks_length}
use Rattle.c_declarator_rows.proofs.MemberRowLaws.{by_index}

outermost : (t : CType) → deep.lacks_length t ≡ false → lacks_length t ≡ false
outermost (unsized t) e = absurd (true≢false e)
outermost (pointer (unsized t)) e = absurd (true≢false e)
outermost _ e = refl

there : (ns : List ℕ) (i : ℕ) → i < length ns → slice_get ns i ≡ Some (unwrap_or (slice_get ns i) 0)
there [] i less = absurd (omega (arith, less))
there (n ∷ ns) zero less = refl
there (n ∷ ns) (suc i) less = there ns i (omega (arith, less))

its_length : (table : List SynNode) (n k : ℕ) → ((u : CType) → type_of (judgement_at (judgements_at (places_in table)) k) ≡ Some u → deep.lacks_length u ≡ false) → HasLengthAt (judged_to table n) k
unfolding judged_to places_in nodes_in
its_length table n k h = by (type_at (judged_to table n) k) (λ u e. outermost u (h u (type_before (places_in table) n (nodes_in table) k u e)))
  where
    by : (o : Option CType) → ((u : CType) → o ≡ Some u → lacks_length u ≡ false) → IfSome o (λ t. lacks_length t ≡ false)
    by None h = tt
    by (Some u) h = h u refl

module _ (table : List SynNode) (n : ℕ) (d : IsDerived table) (within : n < length (nodes_in table)) where
  pub parameter_lengths : (node_in table n).label.kind ≡ kind.Takes → KidsHaveLengths (judged_to table n) (other_kids (node_in table n))
  unfolding places_in nodes_in
  parameter_lengths is =
      let ks = other_kids (node_in table n) in
      by_index (HasLengthAt (judged_to table n)) ks (λ i less. its_length table n (unwrap_or (slice_get ks i) 0)
      (λ u typed. parameters_fine d.tokens (tree_in table) d.derived n (node_in table n) (node_there table n d within) is i (unwrap_or (slice_get ks i) 0) (there ks i less) u typed))

  pub member_lengths : (node_in table n).label.kind ≡ kind.Member → KidsHaveLengths (judged_to table n) (other_kids (node_in table n))
  unfolding places_in nodes_in
  member_lengths is =
      let ks = other_kids (node_in table n) in
      by_index (HasLengthAt (judged_to table n)) ks (λ i less. its_length table n (unwrap_or (slice_get ks i) 0)
      (λ u typed. members_fine d.tokens (tree_in table) d.derived n (node_in table n) (node_there table n d within) is i (unwrap_or (slice_get ks i) 0) (there ks i less) u typed))

  pub begins_at_name : (node_in table n).label.kind ≡ kind.ArrayOf → BeginsAtName table n
  unfolding judged_to places_in nodes_in
  begins_at_name is = λ next ss typed.
      array_first d.tokens (tree_in table) d.derived n (node_in table n) (node_there table n d within) is next ss (seen_before (places_in table) steps_of refl n (nodes_in table) (kid_in table n 0) ss typed)

-- the type of specs has its length, wherever they stand
pub specs_length : (table : List SynNode) (n s : ℕ) → IsDerived table → s < length (nodes_in table) → (node_in table s).label.kind ≡ kind.Specs → HasLengthAt (judged_to table n) s
unfolding places_in nodes_in
specs_length table n s d within is =
    its_length table n s (λ u typed. specs_fine d.tokens (tree_in table) d.derived s (node_in table s) (node_there table s d within) is u typed)
