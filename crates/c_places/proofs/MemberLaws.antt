-- Members of structs.
use Rattle.std.proofs.Common.{◌≡◌, ℕ, List, [], ◌++◌, Option, None, Some, refl, sym, ap, ◌∙◌, subst}
use Rattle.std.specs.Prelude.{Result, Err, unwrap_or, option_and_then, find}
use Rattle.std.specs.Str.{bytes_eq}
use Rattle.c_types.specs.declared.kind.TypeId.{TypeId}
use Rattle.c_types.specs.declared.tree.COp.TheVariants as op
use Rattle.c_types.specs.declared.tree.Expr.{Expr}
use Rattle.c_types.specs.Forms.{binary, const}
use Rattle.c_typing.specs.Types.{CType, void, integer, pointer, array, unsized, struct, function, Field, Layout, layout_of, target_of}
use Rattle.c_typing.specs.Places.{Node}
use Rattle.c_typing.specs.Judgements as rules
use Rattle.c_typing.specs.Judgements.{Fault, Judgement, means, verdict, layouts, in_memory, no_constant, Form, Constant}
use Rattle.c_typing.specs.Rules.{no_such_member}
use Rattle.c_typing.specs.Conversions.{value_of}
use Rattle.c_typing.specs.Constants.{part_at}
use Rattle.c_typing.specs.Expressions.{expression, field_of, no_field, member_form, member_typing, dereferenced_struct, dot, arrow}
use Rattle.c_type_ids.specs.Ids.{Known, Names, IsField}
use Rattle.c_values.specs.declared.typings.Typing.{Typing}
use Rattle.c_answers.specs.declared.refusal.Refusal.{Refusal}
use Rattle.c_answers.specs.declared.refusal.Refusal.TheVariants as refusal
use Rattle.c_places.specs.Places.{IsAnswer}
use Rattle.c_places.proofs.GrowLaws.{refuses, made, same_parts}

-- what is made of an offset and a type
abbrev pub Parts : Known → Result Typing Refusal → TypeId → Form → Expr → ℕ → Constant → Type 0
Parts k r id f base offset c = (t : CType) → Names k id t → IsAnswer k r (means (expression (made t f (binary op.AddU base (const offset)) c)))

module _ (k : Known) (node : ℕ) (js : List Judgement) (n : Node) (x : rules.Typing) where
  pub no_member : n.id ≡ node → IsField k None (field_of (layouts js) x.type n.label.text) → IsAnswer k (Err (refusal.Broken 6 node)) (dot js n x)
  unfolding dot
  no_member same h = by (field_of (layouts js) x.type n.label.text) h
    where
      by : (o : Option Field) → IsField k None o
          → IsAnswer k (Err (refusal.Broken 6 node))
          (verdict (no_such_member o n.id) (expression (member_typing (member_form x.form) x.code (unwrap_or o no_field) (part_at (unwrap_or o no_field).offset x.constant))))
      by None h = refuses k 6 n.id node [] same
      by (Some f) h = absurd h

  pub a_member : (r : Result Typing Refusal) (offset : ℕ) (id : TypeId) (f : Form) (base : Expr) (c : Constant)
      → f ≡ member_form x.form → base ≡ x.code → c ≡ part_at offset x.constant
      → IsField k (Some (offset, id)) (field_of (layouts js) x.type n.label.text) → Parts k r id f base offset c → IsAnswer k r (dot js n x)
  unfolding dot
  a_member r offset id f base c p q s h part = by (field_of (layouts js) x.type n.label.text) h
    where
      by : (o : Option Field) → IsField k (Some (offset, id)) o
          → IsAnswer k r (verdict (no_such_member o n.id) (expression (member_typing (member_form x.form) x.code (unwrap_or o no_field) (part_at (unwrap_or o no_field).offset x.constant))))
      by None h = absurd h
      by (Some field) (at, named) =
          same_parts k r field.type f (member_form x.form) (binary op.AddU base (const offset)) (binary op.AddU x.code (const field.offset)) c (part_at field.offset x.constant)
          p (ap (λ z. binary op.AddU z (const offset)) q ∙ ap (λ z. binary op.AddU x.code (const z)) at) (s ∙ ap (λ z. part_at z x.constant) at) (part field.type named)

  pub no_pointed_member : n.id ≡ node → IsField k None (field_of (layouts js) (target_of (value_of x).type) n.label.text) → IsAnswer k (Err (refusal.Broken 6 node)) (arrow js n x)
  unfolding arrow
  no_pointed_member same h = by (field_of (layouts js) (target_of (value_of x).type) n.label.text) h
    where
      by : (o : Option Field) → IsField k None o
          → IsAnswer k (Err (refusal.Broken 6 node))
          (verdict (no_such_member o n.id ++ dereferenced_struct (layouts js) (value_of x).type n.id) (expression (member_typing in_memory (value_of x).code (unwrap_or o no_field) no_constant)))
      by None h = refuses k 6 n.id node (dereferenced_struct (layouts js) (value_of x).type n.id) same
      by (Some f) h = absurd h

-- a struct that has a member is complete
complete_struct : (ls : List Layout) (t : CType) (text : List ℕ) (f : Field) (n : ℕ) → field_of ls (target_of t) text ≡ Some f → dereferenced_struct ls t n ≡ []
complete_struct ls (pointer (struct m)) text f n e = by (layout_of ls m) refl e
  where
    by : (o : Option Layout) → layout_of ls m ≡ o → option_and_then (λ (l : Layout). find (λ (field : Field). bytes_eq field.name text) l.fields) o ≡ Some f → dereferenced_struct ls (pointer (struct m)) n ≡ []
    by None same e = absurd (cc e)
    by (Some l) same e = rw same refl
complete_struct ls void text f n e = refl
complete_struct ls (integer i) text f n e = refl
complete_struct ls (array t m) text f n e = refl
complete_struct ls (unsized t) text f n e = refl
complete_struct ls (struct m) text f n e = refl
complete_struct ls (function t ts) text f n e = refl
complete_struct ls (pointer void) text f n e = refl
complete_struct ls (pointer (integer i)) text f n e = refl
complete_struct ls (pointer (pointer t)) text f n e = refl
complete_struct ls (pointer (array t m)) text f n e = refl
complete_struct ls (pointer (unsized t)) text f n e = refl
complete_struct ls (pointer (function t ts)) text f n e = refl

pub a_pointed_member : (k : Known) (js : List Judgement) (n : Node) (x : rules.Typing) (r : Result Typing Refusal) (offset : ℕ) (id : TypeId) (base : Expr)
    → base ≡ (value_of x).code → IsField k (Some (offset, id)) (field_of (layouts js) (target_of (value_of x).type) n.label.text)
    → Parts k r id in_memory base offset no_constant → IsAnswer k r (arrow js n x)
unfolding arrow
a_pointed_member k js n x r offset id base q h part = by (field_of (layouts js) (target_of (value_of x).type) n.label.text) refl h
  where
    by : (o : Option Field) → field_of (layouts js) (target_of (value_of x).type) n.label.text ≡ o → IsField k (Some (offset, id)) o
        → IsAnswer k r (verdict (no_such_member o n.id ++ dereferenced_struct (layouts js) (value_of x).type n.id) (expression (member_typing in_memory (value_of x).code (unwrap_or o no_field) no_constant)))
    by None e h = absurd h
    by (Some field) e (at, named) =
        subst (λ (fs : List Fault). IsAnswer k r (verdict fs (expression (member_typing in_memory (value_of x).code field no_constant))))
        (sym (complete_struct (layouts js) (value_of x).type n.label.text field n.id e))
        (same_parts k r field.type in_memory in_memory (binary op.AddU base (const offset)) (binary op.AddU (value_of x).code (const field.offset)) no_constant no_constant
        refl (ap (λ z. binary op.AddU z (const offset)) q ∙ ap (λ z. binary op.AddU (value_of x).code (const z)) at) refl (part field.type named))
