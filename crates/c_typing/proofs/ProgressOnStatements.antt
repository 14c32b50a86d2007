-- Statements, declarations and their parts of each kind, where they are reached.
use Rattle.std.proofs.Common.{◌≡◌, ℕ, true, false, List, [], ◌∷◌, map, Some, None, refl, sym, ap, ◌∙◌, true≢false}
use Rattle.std.specs.Prelude.{slice_get, option_map}
use Rattle.std.specs.List.{list_all}
use Rattle.std.specs.Option.{is_some}
use Rattle.c_syntax.specs.declared.kind.SynKind.{SynKind}
use Rattle.c_syntax.specs.declared.kind.SynKind.TheVariants as kind
use Rattle.c_types.specs.Forms.{drop_expr}
use Rattle.c_typing.specs.Places.{Node, kind_at, kid}
use Rattle.c_typing.specs.Names.{Places}
use Rattle.c_typing.specs.Judgements.{Judgement, judgement_at, typing_at, code_at}
use Rattle.c_typing.specs.Conversions.{value_of}
use Rattle.c_typing.specs.Statements.{as_one, empty_statement, item_at, for_part, part_by, first_by}
use Rattle.c_typing.specs.Typing.{judged_by}
use Rattle.c_typing.specs.Shapes as category
use Rattle.c_typing.specs.Shapes.{Category, no_category, category_by, kids_fit, text_fits, is_member, is_enumerator, is_parameter, declarator_over}
use Rattle.c_typing.proofs.ProgressBase.{Settles}
use Rattle.c_typing.proofs.ProgressForms as form
use Rattle.c_typing.proofs.ProgressForms.{fits, holds_initial, is_some_expression, HasTyping, Has, is_code, has_type, is_part, is_specifier, is_item}
use Rattle.c_typing.proofs.ProgressKinds as of
use Rattle.c_typing.proofs.ProgressKinds.{Operand, Code, rest, is_for_part, is_for_first, part_over}
use Rattle.c_typing.proofs.ProgressStatements as stmt
use Rattle.c_typing.proofs.ProgressStep as at
use Rattle.c_typing.proofs.ProgressStep.{KidHas, Ready}

no : {A : Type 0} → false ≡ true → A
no e = absurd (true≢false (sym e))

module _ (cat : ℕ → Category) (p : Places) (js : List Judgement) (n : ℕ) (outer : SynKind) (m : Node) (r : Ready cat p js n outer m) where
  -- it has a meaning of its form, where it breaks no rule
  abbrev Settled : SynKind → Type 0
  Settled k = Settles (fits outer k (category_by k m.label.text (map cat m.kids))) (judged_by p js m k)

  abbrev Shape : SynKind → Type 0
  Shape k = (m.label.kind ≡ k) × (kids_fit k m.label.text (map cat m.kids) ≡ true) × (cat n ≡ category_by k m.label.text (map cat m.kids))

  operand : (k : SynKind) → m.label.kind ≡ k → holds_initial k ≡ false → (i : ℕ) → Operand (map cat m.kids) i → HasTyping (judgement_at js (kid m i))
  operand k same h i e = at.operand cat p js n outer m r k same h i e

  value : (k : SynKind) → m.label.kind ≡ k → holds_initial k ≡ false → (i : ℕ) → Operand (map cat m.kids) i → Has (typing_at js (kid m i))
  value k same h i e = at.value cat p js n outer m r k same h i e

  code : (k : SynKind) → m.label.kind ≡ k → (i : ℕ) → Code (map cat m.kids) i → Has (code_at js (kid m i))
  code k same i e = at.code cat p js n outer m r k same i e

  pub on_block : Shape kind.Block → Settled kind.Block
  unfolding judged_by category_by
  on_block s =
      stmt.block_settles outer kind.Block category.block refl js m (at.all_of_them cat p js n outer m r kind.Block s.0 is_code (code_at js)
      (λ j t a. form.performed kind.Block (kind_at p.nodes j) (cat j) (judgement_at js j) t a.form) (of.of_block _ _ s.1))

  pub on_expression : Shape kind.ExprStmt → Settled kind.ExprStmt
  unfolding judged_by category_by
  on_expression s = stmt.expression_settles outer kind.ExprStmt category.statement refl js m (value kind.ExprStmt s.0 refl 0 (of.of_expression_statement _ _ s.1))

  pub on_empty : Settled kind.Empty
  unfolding judged_by category_by
  on_empty = stmt.empty_settles outer kind.Empty category.empty refl

  pub on_if : Shape kind.If → Settled kind.If
  unfolding judged_by category_by
  on_if s =
      let es = of.of_if _ _ s.1 in
      stmt.if_settles outer kind.If category.statement refl js m (value kind.If s.0 refl 0 es.0) (code kind.If s.0 1 es.1) (λ h. code kind.If s.0 2 (third m.kids es.2 h))
    where
      third : (ks : List ℕ) → list_all is_code (rest (rest (map cat ks))) ≡ true → is_some (slice_get ks 2) ≡ true → Code (map cat ks) 2
      third (a ∷ b ∷ c ∷ ks) e h = (of.apart e).0
      third [] e h = no h
      third (a ∷ []) e h = no h
      third (a ∷ b ∷ []) e h = no h

  pub on_while : Shape kind.While → Settled kind.While
  unfolding judged_by category_by
  on_while s = let es = of.of_while _ _ s.1 in stmt.while_settles outer kind.While category.statement refl js m (value kind.While s.0 refl 0 es.0) (code kind.While s.0 1 es.1)

  pub on_do : Shape kind.Do → Settled kind.Do
  unfolding judged_by category_by
  on_do s = let es = of.of_do _ _ s.1 in stmt.do_settles outer kind.Do category.statement refl js m (value kind.Do s.0 refl 1 es.1) (code kind.Do s.0 0 es.0)

  -- a part of `for`
  part : (j : ℕ) → is_for_part (cat j) ≡ true → KidHas cat p js kind.For j → Has (for_part p js j)
  unfolding category_by
  part j t a = by (kind_at p.nodes j) a.form a.is
    where
      typed : (own : SynKind) → fits kind.For own (cat j) (judgement_at js j) ≡ true → cat j ≡ category_by own a.text a.below → of.is_plain own ≡ true → Has (option_map (λ x. Some (value_of x)) (typing_at js j))
      typed own f e plain =
          let other = ap (λ c. of.is_other c) e ∙ of.other_kind own a.text a.below plain in
          let x = form.typed kind.For own (cat j) (judgement_at js j) (of.part_expression (cat j) t other) refl f in
          record { value = Some (value_of x.typing); is = ap (λ o. option_map (λ x. Some (value_of x)) o) x.is }

      by : (own : SynKind) → fits kind.For own (cat j) (judgement_at js j) ≡ true → cat j ≡ category_by own a.text a.below → Has (part_by js j own)
      by kind.Empty f e = record { value = None; is = refl }
      by kind.Declaration f e = no (sym (ap is_for_part e) ∙ t)
      by _ f e = typed _ f e refl

  first_part : (j : ℕ) → is_for_first (cat j) ≡ true → KidHas cat p js kind.For j → Has (first_by js j (kind_at p.nodes j))
  unfolding category_by
  first_part j t a = by (kind_at p.nodes j) a.form a.is
    where
      typed : (own : SynKind) → fits kind.For own (cat j) (judgement_at js j) ≡ true → cat j ≡ category_by own a.text a.below → of.is_plain own ≡ true → Has (option_map (λ x. drop_expr (value_of x).code) (typing_at js j))
      typed own f e plain =
          let other = ap (λ c. of.is_other c) e ∙ of.other_kind own a.text a.below plain in
          let x = form.typed kind.For own (cat j) (judgement_at js j) (of.first_expression (cat j) t other) refl f in
          record { value = drop_expr (value_of x.typing).code; is = ap (λ o. option_map (λ x. drop_expr (value_of x).code) o) x.is }

      by : (own : SynKind) → fits kind.For own (cat j) (judgement_at js j) ≡ true → cat j ≡ category_by own a.text a.below → Has (first_by js j own)
      by kind.Empty f e = record { value = empty_statement; is = refl }
      by kind.Declaration f e =
          let c = form.performed kind.For kind.Declaration (cat j) (judgement_at js j) (ap is_code e) f in
          record { value = as_one c.value; is = ap (λ o. option_map as_one o) c.is }
      by _ f e = typed _ f e refl

  pub on_for : Shape kind.For → Settled kind.For
  unfolding judged_by category_by
  on_for s =
      let es = of.of_for _ _ s.1 in
      let first = at.at_kid cat p js n outer m r kind.For s.0 (λ j. Has (first_by js j (kind_at p.nodes j))) is_for_first 0 refl first_part es.0 in
      let test = at.at_kid cat p js n outer m r kind.For s.0 (λ j. Has (for_part p js j)) is_for_part 1 refl part es.1 in
      let step = at.at_kid cat p js n outer m r kind.For s.0 (λ j. Has (for_part p js j)) is_for_part 2 refl part es.2 in
      stmt.for_settles outer kind.For category.statement refl p js m test first step (code kind.For s.0 3 es.3)

  pub on_break : Settled kind.Break
  unfolding judged_by category_by
  on_break = stmt.break_settles outer kind.Break category.statement refl p m

  pub on_continue : Settled kind.Continue
  unfolding judged_by category_by
  on_continue = stmt.continue_settles outer kind.Continue category.statement refl p m

  pub on_return : Shape kind.Return → Settled kind.Return
  unfolding judged_by category_by
  on_return s =
      stmt.return_settles outer kind.Return category.statement refl p js m (r.special.returns s.0)
      (λ h. value kind.Return s.0 refl 0 (first m.kids (of.of_return _ _ s.1) h))
    where
      first : (ks : List ℕ) → list_all is_some_expression (map cat ks) ≡ true → is_some (slice_get ks 0) ≡ true → Operand (map cat ks) 0
      first (a ∷ ks) e h = (of.apart e).0
      first [] e h = no h

  pub on_switch : Shape kind.Switch → Settled kind.Switch
  unfolding judged_by category_by
  on_switch s =
      let es = of.of_switch _ _ s.1 in
      stmt.switch_settles outer kind.Switch category.statement refl js m (value kind.Switch s.0 refl 0 es.0) (at.others cat p js n outer m r kind.Switch s.0 is_item (item_at js)
      (λ j t a. form.has_item kind.Switch (kind_at p.nodes j) (cat j) (judgement_at js j) t a.form) es.1)

  pub on_case : Shape kind.Case → Settled kind.Case
  unfolding judged_by category_by
  on_case s = stmt.case_settles outer kind.Case p js m (value kind.Case s.0 refl 0 (of.of_case _ _ s.1))

  pub on_default : Settled kind.Default
  unfolding judged_by category_by
  on_default = stmt.default_settles outer kind.Default p js m
