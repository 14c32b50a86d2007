-- What parts of declarators mean.
use Rattle.std.proofs.Common.{◌≡◌, ◌⊎◌, inl, inr, ℕ, false, List, [], Some, None, ap, ◌∙◌}
use Rattle.std.specs.Prelude.{Bool, if◌then◌else◌}
use Rattle.c_syntax.specs.declared.syntax.SynNode.{SynNode}
use Rattle.c_syntax.specs.declared.kind.SynKind.TheVariants as kind
use Rattle.c_typing.specs.Places.{is_whole, parent_of, specs_of}
use Rattle.c_typing.specs.Judgements.{Judgement, PlacedStep, given, layouts, means, steps, steps_at, to_pointer, type_at, typing_at}
use Rattle.c_typing.specs.Declarators.{build, declarator, pointer_declarator, whole_type, with_step}
use Rattle.c_typing.specs.Typing.{in_parentheses, judged_by}
use Rattle.c_nodes.specs.Parents.{nodes_in}
use Rattle.c_names.specs.Denoted.{places_in}
use Rattle.c_meanings.specs.Meanings.{judged_at, judged_to, kid_in, node_in}

module _ (table : List SynNode) (n : ℕ) where
  -- a declarator, by whether it is a whole one
  abbrev declarator_by : List PlacedStep → Bool → Judgement
  declarator_by ss b =
      let owner = parent_of (nodes_in table) (node_in table n).id in
      if b then given (type_at (judged_to table n) (specs_of (nodes_in table) owner).id) (λ base. whole_type (places_in table) (judged_to table n) (node_in table n) owner (build (layouts (judged_to table n)) base ss))
      else means (steps ss)

  pub part_is : (ss : List PlacedStep) → is_whole (nodes_in table) (node_in table n) ≡ false → declarator (places_in table) (judged_to table n) (node_in table n) ss ≡ means (steps ss)
  unfolding declarator places_in nodes_in
  part_is ss part = ap (declarator_by ss) part

  pub name_is : ((node_in table n).label.kind ≡ kind.Ident) ⊎ ((node_in table n).label.kind ≡ kind.NoName) → is_whole (nodes_in table) (node_in table n) ≡ false → judged_at table n ≡ means (steps [])
  unfolding judged_at judged_by
  name_is (inl is) part = ap (judged_by (places_in table) (judged_to table n) (node_in table n)) is ∙ part_is [] part
  name_is (inr is) part = ap (judged_by (places_in table) (judged_to table n) (node_in table n)) is ∙ part_is [] part

  pointer_is : (node_in table n).label.kind ≡ kind.Pointer
      → judged_at table n ≡ given (steps_at (judged_to table n) (kid_in table n 0)) (λ ss. declarator (places_in table) (judged_to table n) (node_in table n) (with_step ss (node_in table n) to_pointer))
  unfolding judged_at judged_by pointer_declarator
  pointer_is is = ap (judged_by (places_in table) (judged_to table n) (node_in table n)) is

  pub pointer_waits : (node_in table n).label.kind ≡ kind.Pointer → steps_at (judged_to table n) (kid_in table n 0) ≡ None → judged_at table n ≡ Judgement.waits
  pointer_waits is none = pointer_is is ∙ ap (λ o. given o (λ ss. declarator (places_in table) (judged_to table n) (node_in table n) (with_step ss (node_in table n) to_pointer))) none

  pub pointer_part : (node_in table n).label.kind ≡ kind.Pointer → is_whole (nodes_in table) (node_in table n) ≡ false → (ss : List PlacedStep) → steps_at (judged_to table n) (kid_in table n 0) ≡ Some ss
      → judged_at table n ≡ means (steps (with_step ss (node_in table n) to_pointer))
  pointer_part is part ss there =
      pointer_is is ∙ ap (λ o. given o (λ ss. declarator (places_in table) (judged_to table n) (node_in table n) (with_step ss (node_in table n) to_pointer))) there
      ∙ part_is (with_step ss (node_in table n) to_pointer) part

  parentheses_are : (node_in table n).label.kind ≡ kind.Paren → typing_at (judged_to table n) (kid_in table n 0) ≡ None
      → judged_at table n ≡ given (steps_at (judged_to table n) (kid_in table n 0)) (declarator (places_in table) (judged_to table n) (node_in table n))
  unfolding judged_at judged_by
  parentheses_are is none = ap (judged_by (places_in table) (judged_to table n) (node_in table n)) is ∙ ap (in_parentheses (places_in table) (judged_to table n) (node_in table n)) none

  pub parentheses_wait : (node_in table n).label.kind ≡ kind.Paren → typing_at (judged_to table n) (kid_in table n 0) ≡ None → steps_at (judged_to table n) (kid_in table n 0) ≡ None → judged_at table n ≡ Judgement.waits
  parentheses_wait is none absent = parentheses_are is none ∙ ap (λ o. given o (declarator (places_in table) (judged_to table n) (node_in table n))) absent

  pub parentheses_part : (node_in table n).label.kind ≡ kind.Paren → typing_at (judged_to table n) (kid_in table n 0) ≡ None → is_whole (nodes_in table) (node_in table n) ≡ false → (ss : List PlacedStep)
      → steps_at (judged_to table n) (kid_in table n 0) ≡ Some ss → judged_at table n ≡ means (steps ss)
  parentheses_part is none part ss there = parentheses_are is none ∙ ap (λ o. given o (declarator (places_in table) (judged_to table n) (node_in table n))) there ∙ part_is ss part
