-- Expressions of each kind, where they are reached.
use Rattle.std.proofs.Common.{◌≡◌, ℕ, ◌+◌, true, false, List, [], ◌∷◌, map, Option, None, refl, sym, ap, ◌∙◌, subst, true≢false, ◌⊎◌, inl, inr}
use Rattle.std.specs.Prelude.{get_or}
use Rattle.c_syntax.specs.declared.kind.SynKind.{SynKind}
use Rattle.c_syntax.specs.declared.kind.SynKind.TheVariants as kind
use Rattle.c_typing.specs.Types.{is_scalar}
use Rattle.c_typing.specs.Rules.{bad_operand}
use Rattle.c_typing.specs.Places.{Node, kind_at, kid}
use Rattle.c_typing.specs.Names.{Places, denoted}
use Rattle.c_typing.specs.Judgements.{Judgement, Typing, judgement_at, typing_at}
use Rattle.c_typing.specs.Conversions.{value_of}
use Rattle.c_typing.specs.Typing.{judged_by, in_parentheses}
use Rattle.c_typing.specs.Shapes as category
use Rattle.c_typing.specs.Shapes.{Category, no_category, category_by, in_parentheses as in_brackets, kids_fit, text_fits, is_member, is_enumerator, is_parameter, declarator_over}
use Rattle.c_typing.proofs.ProgressBase.{Settles, given_settles, besides_settles}
use Rattle.c_typing.proofs.ProgressForms as form
use Rattle.c_typing.proofs.ProgressForms.{fits, holds_initial, is_some_expression, HasTyping, Has, is_code, has_type, is_part, is_specifier, is_item}
use Rattle.c_typing.proofs.ProgressKinds as of
use Rattle.c_typing.proofs.ProgressKinds.{Operand, Code, rest, is_for_part, is_for_first, part_over}
use Rattle.c_typing.proofs.ProgressOperators.{of_binary_operator, of_assignment}
use Rattle.c_typing.proofs.ProgressExpressions as expr
use Rattle.c_typing.proofs.ProgressDeclarators as decl
use Rattle.c_typing.proofs.ProgressNames as name
use Rattle.c_typing.proofs.ProgressStep as at
use Rattle.c_typing.proofs.ProgressStep.{KidHas, Ready}

no : {A : Type 0} → false ≡ true → A
no e = absurd (true≢false (sym e))

module _ (cat : ℕ → Category) (p : Places) (js : List Judgement) (n : ℕ) (outer : SynKind) (m : Node) (r : Ready cat p js n outer m) where
  -- it has a meaning of its form, where it breaks no rule
  abbrev Settled : SynKind → Type 0
  Settled k = Settles (fits outer k (category_by k m.label.text (map cat m.kids))) (judged_by p js m k)

  abbrev Shape : SynKind → Type 0
  Shape k = (m.label.kind ≡ k) × (kids_fit k m.label.text (map cat m.kids) ≡ true) × (cat n ≡ category_by k m.label.text (map cat m.kids))

  operand : (k : SynKind) → m.label.kind ≡ k → holds_initial k ≡ false → (i : ℕ) → Operand (map cat m.kids) i → HasTyping (judgement_at js (kid m i))
  operand k same h i e = at.operand cat p js n outer m r k same h i e

  value : (k : SynKind) → m.label.kind ≡ k → holds_initial k ≡ false → (i : ℕ) → Operand (map cat m.kids) i → Has (typing_at js (kid m i))
  value k same h i e = at.value cat p js n outer m r k same h i e

  pub on_unary : Shape kind.Unary → Settled kind.Unary
  unfolding judged_by category_by
  on_unary s =
      let x = operand kind.Unary s.0 refl 0 (of.of_unary _ _ s.1) in
      given_settles _ _ x.typing _ x.is (expr.unary_settles outer kind.Unary 2 p js m x.typing x.callable)

  pub on_post : Shape kind.Post → Settled kind.Post
  unfolding judged_by category_by
  on_post s =
      let x = operand kind.Post s.0 refl 0 (of.of_post _ _ s.1) in
      given_settles _ _ x.typing _ x.is (expr.postfix_settles outer kind.Post 1 p js m x.typing)

  pub on_binary : Shape kind.Binary → text_fits kind.Binary m.label.text ≡ true → Settled kind.Binary
  unfolding judged_by category_by text_fits
  on_binary s e =
      let es = of.of_binary _ _ s.1 in
      let x = value kind.Binary s.0 refl 0 es.0 in
      let y = value kind.Binary s.0 refl 1 es.1 in
      let o = of_binary_operator m.label.text e in
      given_settles _ _ x.value _ x.is (given_settles _ _ y.value _ y.is (expr.binary_settles outer kind.Binary (category.cast_level + category.binary_level m.label.text) js m (value_of x.value) (value_of y.value) o.value o.is))

  pub on_assign : Shape kind.Assign → text_fits kind.Assign m.label.text ≡ true → Settled kind.Assign
  unfolding judged_by category_by text_fits
  on_assign s e =
      let es = of.of_assign _ _ s.1 in
      let x = value kind.Assign s.0 refl 0 es.0 in
      let y = value kind.Assign s.0 refl 1 es.1 in
      given_settles _ _ x.value _ x.is (given_settles _ _ y.value _ y.is (expr.assign_settles outer kind.Assign 15 p js m x.value (value_of y.value) (of_assignment m.label.text e)))

  pub on_cond : Shape kind.Cond → Settled kind.Cond
  unfolding judged_by category_by
  on_cond s =
      let es = of.of_cond _ _ s.1 in
      let c = value kind.Cond s.0 refl 0 es.0 in
      let x = value kind.Cond s.0 refl 1 es.1 in
      let y = value kind.Cond s.0 refl 2 es.2 in
      given_settles _ _ c.value _ c.is (besides_settles _ (bad_operand (is_scalar (value_of c.value).type) m.id) _ (λ none.
      given_settles _ _ x.value _ x.is (given_settles _ _ y.value _ y.is (expr.conditional_settles outer kind.Cond 14 js m (value_of c.value) (value_of x.value) (value_of y.value)))))

  pub on_comma : Shape kind.Comma → Settled kind.Comma
  unfolding judged_by category_by
  on_comma s =
      let es = of.of_comma _ _ s.1 in
      let x = value kind.Comma s.0 refl 0 es.0 in
      let y = value kind.Comma s.0 refl 1 es.1 in
      given_settles _ _ x.value _ x.is (given_settles _ _ y.value _ y.is (expr.comma_settles outer kind.Comma 16 (value_of x.value) (value_of y.value)))

  pub on_index : Shape kind.Index → Settled kind.Index
  unfolding judged_by category_by
  on_index s =
      let es = of.of_index _ _ s.1 in
      let x = value kind.Index s.0 refl 0 es.0 in
      let y = value kind.Index s.0 refl 1 es.1 in
      given_settles _ _ x.value _ x.is (given_settles _ _ y.value _ y.is (expr.subscript_settles outer kind.Index 1 js m x.value y.value))

  pub on_call : Shape kind.Call → Settled kind.Call
  unfolding judged_by category_by
  on_call s =
      let es = of.of_call _ _ s.1 in
      let f = operand kind.Call s.0 refl 0 es.0 in
      let xs = at.others cat p js n outer m r kind.Call s.0 is_some_expression (typing_at js)
      (λ j t a. let x = form.typed kind.Call (kind_at p.nodes j) (cat j) (judgement_at js j) t refl a.form in record { value = x.typing; is = x.is }) es.1 in
      given_settles _ _ f.typing _ f.is (expr.call_settles outer kind.Call 1 js m f.typing f.callable xs)

  pub on_dot : Shape kind.Dot → Settled kind.Dot
  unfolding judged_by category_by
  on_dot s = let x = value kind.Dot s.0 refl 0 (of.of_dot _ _ s.1) in given_settles _ _ x.value _ x.is (expr.dot_settles outer kind.Dot 1 js m x.value)

  pub on_arrow : Shape kind.Arrow → Settled kind.Arrow
  unfolding judged_by category_by
  on_arrow s = let x = value kind.Arrow s.0 refl 0 (of.of_arrow _ _ s.1) in given_settles _ _ x.value _ x.is (expr.arrow_settles outer kind.Arrow 1 js m x.value)

  pub on_cast : Shape kind.Cast → Settled kind.Cast
  unfolding judged_by category_by
  on_cast s =
      let es = of.of_cast _ _ s.1 in
      let t = at.type cat p js n outer m r kind.Cast s.0 0 refl (ap (λ c. has_type kind.Cast c) es.0) in
      let x = value kind.Cast s.0 refl 1 es.1 in
      given_settles _ _ t.value _ t.is (given_settles _ _ x.value _ x.is (expr.cast_settles outer kind.Cast 3 m t.value (value_of x.value)))

  pub on_size_expression : Shape kind.SizeExpr → Settled kind.SizeExpr
  unfolding judged_by category_by
  on_size_expression s =
      let x = value kind.SizeExpr s.0 refl 0 (of.of_size_expression _ _ s.1) in
      given_settles _ _ x.value _ x.is (expr.size_settles outer kind.SizeExpr 2 js x.value.type (kid m 0))

  pub on_size_type : Shape kind.SizeType → Settled kind.SizeType
  unfolding judged_by category_by
  on_size_type s =
      let t = at.type cat p js n outer m r kind.SizeType s.0 0 refl (ap (λ c. has_type kind.SizeType c) (of.of_size_type _ _ s.1)) in
      given_settles _ _ t.value _ t.is (expr.size_settles outer kind.SizeType 2 js t.value (kid m 0))

  pub on_var : Shape kind.Var → Settled kind.Var
  unfolding judged_by category_by
  on_var s = name.variable_settles outer kind.Var 0 p js m (denoted p.names m.id m.label.text) (r.special.known s.0)

  pub on_string : Shape kind.Str → Settled kind.Str
  unfolding judged_by category_by
  on_string s = name.string_settles outer 0 p js m (r.special.filled s.0)

  -- parentheses around an expression
  around_expression : m.label.kind ≡ kind.Paren → (cs : List Category) → Operand (map cat m.kids) 0 → (c : Category) → is_some_expression c ≡ true
      → Settles (fits outer kind.Paren (in_brackets (c ∷ []))) (in_parentheses p js m (typing_at js (kid m 0)))
  around_expression same cs e (category.expression l) f =
      let x = operand kind.Paren same refl 0 e in
      subst (λ (o : Option Typing). Settles (fits outer kind.Paren (category.expression 0)) (in_parentheses p js m o)) (sym x.is)
      (expr.expressed outer kind.Paren 0 [] x.typing 0 x.callable)
  around_expression same cs e _ f = no f

  -- parentheses around a part of a declarator
  around_part : m.label.kind ≡ kind.Paren → is_part (get_or (map cat m.kids) 0 no_category) ≡ true → is_part (cat n) ≡ true
      → Settles (fits outer kind.Paren (cat n)) (in_parentheses p js m (typing_at js (kid m 0)))
  around_part same e f =
      let none = at.at_kid cat p js n outer m r kind.Paren same (λ j. typing_at js j ≡ None) is_part 0 refl (λ j t a. form.untyped kind.Paren (kind_at p.nodes j) (cat j) (judgement_at js j) t a.form) e in
      subst (λ (o : Option Typing). Settles (fits outer kind.Paren (cat n)) (in_parentheses p js m o)) (sym none)
      (decl.parentheses_settle outer kind.Paren (cat n) f p js m r.above (r.special.specified f) (at.inner_steps cat p js n outer m r kind.Paren same refl e))

  pub on_parentheses : Shape kind.Paren → Settled kind.Paren
  unfolding judged_by category_by
  on_parentheses s =
      let i = of.of_parentheses _ _ s.1 in
      by i.inner i.only (of.parted i.inner i.fits)
    where
      by : (c : Category) → map cat m.kids ≡ c ∷ [] → (is_some_expression c ≡ true) ⊎ (is_part c ≡ true)
          → Settles (fits outer kind.Paren (in_brackets (map cat m.kids))) (in_parentheses p js m (typing_at js (kid m 0)))
      by c only (inl e) =
          subst (λ (cs : List Category). Settles (fits outer kind.Paren (in_brackets cs)) (in_parentheses p js m (typing_at js (kid m 0)))) (sym only)
          (around_expression s.0 [] (ap (λ cs. is_some_expression (get_or cs 0 no_category)) only ∙ e) c e)
      by c only (inr e) =
          let first = ap (λ cs. is_part (get_or cs 0 no_category)) only ∙ e in
          let here : is_part (cat n) ≡ true = ap is_part (s.2 ∙ ap in_brackets only) ∙ of.part_brackets c e in
          subst (λ c. Settles (fits outer kind.Paren c) (in_parentheses p js m (typing_at js (kid m 0)))) s.2 (around_part s.0 first here)
