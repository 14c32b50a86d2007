-- Elements of arrays.
use Rattle.std.proofs.Common.{◌≡◌, ℕ, true, false, List, [], Option, None, Some, refl, sym, ap, ap₂, ◌∙◌, subst}
use Rattle.std.specs.Prelude.{Result, Err, unwrap_or}
use Rattle.std.specs.Option.{is_some}
use Rattle.c_types.specs.declared.tree.COp.TheVariants as op
use Rattle.c_types.specs.Forms.{binary, const}
use Rattle.c_typing.specs.Types.{CType, void, integer, pointer, array, unsized, struct, function, is_pointer, Layout, size_of}
use Rattle.c_typing.specs.Places.{Node}
use Rattle.c_typing.specs.Judgements as rules
use Rattle.c_typing.specs.Judgements.{Judgement, means, verdict, layouts, in_memory, Constant}
use Rattle.c_typing.specs.Rules.{bad_operand}
use Rattle.c_typing.specs.Conversions.{value_of}
use Rattle.c_typing.specs.Constants.{element_at}
use Rattle.c_typing.specs.Expressions.{expression, element_type, element_typing, subscript_constant, subscript}
use Rattle.c_type_ids.specs.Ids.{Known, Names}
use Rattle.c_constants.specs.Constants.{constant_of}
use Rattle.c_values.specs.declared.typings.Typing.{Typing}
use Rattle.c_answers.specs.declared.refusal.Refusal.{Refusal}
use Rattle.c_answers.specs.declared.refusal.Refusal.TheVariants as refusal
use Rattle.c_places.specs.declared.elements.Element.{Element}
use Rattle.c_places.specs.declared.elements.Indexed.{Indexed}
use Rattle.c_places.specs.Places.{IsAnswer, IsElement, IsIndexed, placed}
use Rattle.c_places.proofs.GrowLaws.{refuses, made, same_parts}

-- the judgement by the type of elements, the values of both operands, and what they are as constants
abbrev judged : List Layout → ℕ → rules.Typing → rules.Typing → rules.Typing → rules.Typing → Option CType → Judgement
judged ls n a b c d o = verdict (bad_operand (is_some o) n)
    (expression (element_typing ls (unwrap_or o a.type) b.type a b (subscript_constant (size_of ls (unwrap_or o a.type)) b.type c d)))

subscript_is : (js : List Judgement) (n : Node) (x y : rules.Typing)
    → subscript js n x y ≡ judged (layouts js) n.id (value_of x) (value_of y) (placed x) (placed y) (element_type (layouts js) (value_of x).type (value_of y).type)
unfolding subscript
subscript_is js n x y = refl

-- with a pointer on the right, or with none
with_pointer : (k : Known) (r : Result Typing Refusal) (ls : List Layout) (t u : CType) (a b c d : rules.Typing) → is_pointer u ≡ true
    → IsAnswer k r (means (expression (made t in_memory (binary op.AddU (binary op.MulU a.code (const (size_of ls t))) b.code) (element_at (size_of ls t) d.constant c.constant))))
    → IsAnswer k r (means (expression (element_typing ls t u a b (subscript_constant (size_of ls t) u c d))))
with_pointer k r ls t (pointer u) a b c d e h = h
with_pointer k r ls t void a b c d e h = absurd (cc e)
with_pointer k r ls t (integer i) a b c d e h = absurd (cc e)
with_pointer k r ls t (array u m) a b c d e h = absurd (cc e)
with_pointer k r ls t (unsized u) a b c d e h = absurd (cc e)
with_pointer k r ls t (struct m) a b c d e h = absurd (cc e)
with_pointer k r ls t (function u us) a b c d e h = absurd (cc e)

without_pointer : (k : Known) (r : Result Typing Refusal) (ls : List Layout) (t u : CType) (a b c d : rules.Typing) → is_pointer u ≡ false
    → IsAnswer k r (means (expression (made t in_memory (binary op.AddU a.code (binary op.MulU b.code (const (size_of ls t)))) (element_at (size_of ls t) c.constant d.constant))))
    → IsAnswer k r (means (expression (element_typing ls t u a b (subscript_constant (size_of ls t) u c d))))
without_pointer k r ls t (pointer u) a b c d e h = absurd (cc e)
without_pointer k r ls t void a b c d e h = h
without_pointer k r ls t (integer i) a b c d e h = h
without_pointer k r ls t (array u m) a b c d e h = h
without_pointer k r ls t (unsized u) a b c d e h = h
without_pointer k r ls t (struct m) a b c d e h = h
without_pointer k r ls t (function u us) a b c d e h = h

module _ (k : Known) (js : List Judgement) (n : Node) (x y : rules.Typing) where
  abbrev type : Option CType
  type = element_type (layouts js) (value_of x).type (value_of y).type

  abbrev whole : Option CType → Judgement
  whole o = judged (layouts js) n.id (value_of x) (value_of y) (placed x) (placed y) o

  pub no_element : (node : ℕ) → n.id ≡ node → IsElement k (layouts js) None (element_type (layouts js) (value_of x).type (value_of y).type)
      → IsAnswer k (Err (refusal.Broken 13 node)) (subscript js n x y)
  no_element node same h = subst (IsAnswer k (Err (refusal.Broken 13 node))) (sym (subscript_is js n x y)) (by type h)
    where
      by : (o : Option CType) → IsElement k (layouts js) None o → IsAnswer k (Err (refusal.Broken 13 node)) (whole o)
      by None h = refuses k 13 n.id node [] same
      by (Some t) h = absurd h

  module _ (r : Result Typing Refusal) (element : Element) (left right : Indexed) (h : IsIndexed k left x) (i : IsIndexed k right y)
      (is : IsElement k (layouts js) (Some element) (element_type (layouts js) (value_of x).type (value_of y).type)) where
    pub index_then_pointer : is_pointer (value_of y).type ≡ true
        → ((t : CType) → Names k element.id t → IsAnswer k r (means (expression (made t in_memory (binary op.AddU (binary op.MulU left.value.code (const element.size)) right.value.code) (element_at element.size (constant_of right.constant) (constant_of left.constant))))))
        → IsAnswer k r (subscript js n x y)
    index_then_pointer e made_so = subst (IsAnswer k r) (sym (subscript_is js n x y)) (by type is)
      where
        by : (o : Option CType) → IsElement k (layouts js) (Some element) o → IsAnswer k r (whole o)
        by None w = absurd w
        by (Some t) (named, size) =
            with_pointer k r (layouts js) t (value_of y).type (value_of x) (value_of y) (placed x) (placed y) e
            (same_parts k r t in_memory in_memory
            (binary op.AddU (binary op.MulU left.value.code (const element.size)) right.value.code)
            (binary op.AddU (binary op.MulU (value_of x).code (const (size_of (layouts js) t))) (value_of y).code)
            (element_at element.size (constant_of right.constant) (constant_of left.constant))
            (element_at (size_of (layouts js) t) (placed y).constant (placed x).constant)
            refl
            (ap₂ (λ a b. binary op.AddU (binary op.MulU a (const element.size)) b) h.value.code i.value.code ∙ ap (λ s. binary op.AddU (binary op.MulU (value_of x).code (const s)) (value_of y).code) size)
            (ap₂ (λ a b. element_at element.size a b) i.constant h.constant ∙ ap (λ s. element_at s (placed y).constant (placed x).constant) size)
            (made_so t named))

    pub pointer_then_index : is_pointer (value_of y).type ≡ false
        → ((t : CType) → Names k element.id t → IsAnswer k r (means (expression (made t in_memory (binary op.AddU left.value.code (binary op.MulU right.value.code (const element.size))) (element_at element.size (constant_of left.constant) (constant_of right.constant))))))
        → IsAnswer k r (subscript js n x y)
    pointer_then_index e made_so = subst (IsAnswer k r) (sym (subscript_is js n x y)) (by type is)
      where
        by : (o : Option CType) → IsElement k (layouts js) (Some element) o → IsAnswer k r (whole o)
        by None w = absurd w
        by (Some t) (named, size) =
            without_pointer k r (layouts js) t (value_of y).type (value_of x) (value_of y) (placed x) (placed y) e
            (same_parts k r t in_memory in_memory
            (binary op.AddU left.value.code (binary op.MulU right.value.code (const element.size)))
            (binary op.AddU (value_of x).code (binary op.MulU (value_of y).code (const (size_of (layouts js) t))))
            (element_at element.size (constant_of left.constant) (constant_of right.constant))
            (element_at (size_of (layouts js) t) (placed x).constant (placed y).constant)
            refl
            (ap₂ (λ a b. binary op.AddU a (binary op.MulU b (const element.size))) h.value.code i.value.code ∙ ap (λ s. binary op.AddU (value_of x).code (binary op.MulU (value_of y).code (const s))) size)
            (ap₂ (λ a b. element_at element.size a b) h.constant i.constant ∙ ap (λ s. element_at s (placed x).constant (placed y).constant) size)
            (made_so t named))
