-- Declarations, specs and declarators of each kind, where they are reached.
use Rattle.std.proofs.Common.{◌≡◌, ℕ, true, false, List, [], ◌∷◌, map, refl, sym, ap, ◌∙◌, subst, true≢false}
use Rattle.std.specs.Prelude.{slice_get, get_or, option_map}
use Rattle.std.specs.List.{list_all}
use Rattle.std.specs.Option.{is_some}
use Rattle.c_syntax.specs.declared.kind.SynKind.{SynKind}
use Rattle.c_syntax.specs.declared.kind.SynKind.TheVariants as kind
use Rattle.c_typing.specs.Places.{text_at, Node, node_at, kind_at, kid}
use Rattle.c_typing.specs.Names.{Places}
use Rattle.c_typing.specs.Judgements.{Judgement, judgement_at, typing_at, type_at}
use Rattle.c_typing.specs.Expressions.{word_of_enumerator}
use Rattle.c_typing.specs.Declarators.{spec_meaning, members_of, member_at}
use Rattle.c_typing.specs.Statements.{declarator_code}
use Rattle.c_typing.specs.Typing.{judged_by}
use Rattle.c_typing.specs.Shapes as category
use Rattle.c_typing.specs.Shapes.{Category, no_category, category_by, kids_fit, text_fits, is_declarator as is_whole_declarator, is_init_declarator, is_member, is_enumerator, is_parameter, declarator_over}
use Rattle.c_typing.proofs.ProgressBase.{Settles}
use Rattle.c_typing.proofs.ProgressForms as form
use Rattle.c_typing.proofs.ProgressForms.{fits, holds_initial, is_some_expression, HasTyping, Has, is_code, has_type, is_part, is_specifier, is_item}
use Rattle.c_typing.proofs.ProgressKinds as of
use Rattle.c_typing.proofs.ProgressKinds.{Operand, Code, rest, is_for_part, is_for_first, part_over}
use Rattle.c_typing.proofs.ProgressStatements as stmt
use Rattle.c_typing.proofs.ProgressDeclarators as decl
use Rattle.c_typing.proofs.ProgressNames as name
use Rattle.c_typing.proofs.ProgressStep as at
use Rattle.c_typing.proofs.ProgressStep.{KidHas, Ready}

no : {A : Type 0} → false ≡ true → A
no e = absurd (true≢false (sym e))

module _ (cat : ℕ → Category) (p : Places) (js : List Judgement) (n : ℕ) (outer : SynKind) (m : Node) (r : Ready cat p js n outer m) where
  -- it has a meaning of its form, where it breaks no rule
  abbrev Settled : SynKind → Type 0
  Settled k = Settles (fits outer k (category_by k m.label.text (map cat m.kids))) (judged_by p js m k)

  abbrev Shape : SynKind → Type 0
  Shape k = (m.label.kind ≡ k) × (kids_fit k m.label.text (map cat m.kids) ≡ true) × (cat n ≡ category_by k m.label.text (map cat m.kids))

  operand : (k : SynKind) → m.label.kind ≡ k → holds_initial k ≡ false → (i : ℕ) → Operand (map cat m.kids) i → HasTyping (judgement_at js (kid m i))
  operand k same h i e = at.operand cat p js n outer m r k same h i e

  value : (k : SynKind) → m.label.kind ≡ k → holds_initial k ≡ false → (i : ℕ) → Operand (map cat m.kids) i → Has (typing_at js (kid m i))
  value k same h i e = at.value cat p js n outer m r k same h i e

  has_own_type : (k : SynKind) → m.label.kind ≡ k → (i : ℕ) → has_type k no_category ≡ false → has_type k (get_or (map cat m.kids) i no_category) ≡ true → Has (type_at js (kid m i))
  has_own_type k same i e h = at.type cat p js n outer m r k same i e h

  pub on_unit : Settled kind.Unit
  unfolding judged_by category_by
  on_unit = decl.unit_settles outer kind.Unit p m

  pub on_function : Shape kind.Function → Settled kind.Function
  unfolding judged_by category_by
  on_function s =
      let es = of.of_function _ _ s.1 in
      decl.function_settles_whole outer kind.Function p js m
      (has_own_type kind.Function s.0 0 refl (ap (λ c. has_type kind.Function c) es.0))
      (has_own_type kind.Function s.0 1 refl (ap (λ c. has_type kind.Function c) es.1))
      (at.code cat p js n outer m r kind.Function s.0 2 (ap is_code es.2))

  pub on_declaration : Shape kind.Declaration → Settled kind.Declaration
  unfolding judged_by category_by
  on_declaration s =
      let es = of.of_declaration _ _ s.1 in
      let e = ap (λ c. has_type kind.Declaration c) es.0 in
      let t = has_own_type kind.Declaration s.0 0 refl e in
      let same = at.kid_numbered cat p js n outer m r kind.Declaration s.0 (λ c. has_type kind.Declaration c) 0 refl e in
      stmt.declaration_settles outer kind.Declaration category.declaration refl p js m (subst (λ j. Has (type_at js j)) (sym same) t)
      (at.others cat p js n outer m r kind.Declaration s.0 is_init_declarator (λ j. declarator_code (judgement_at js j)) declared es.1)
    where
      declared : (j : ℕ) → is_init_declarator (cat j) ≡ true → KidHas cat p js kind.Declaration j → Has (declarator_code (judgement_at js j))
      declared j t a =
          form.has_declared kind.Declaration (kind_at p.nodes j) (judgement_at js j)
          (subst (λ c. fits kind.Declaration (kind_at p.nodes j) c (judgement_at js j) ≡ true) (of.only_init_declarator (cat j) t) a.form)

  pub on_init_declarator : Shape kind.InitDecl → Settled kind.InitDecl
  unfolding judged_by category_by
  on_init_declarator s = name.initializer_settles outer kind.InitDecl p js m (r.special.initial s.0)

  pub on_braces : Shape kind.Braces → Settled kind.Braces
  unfolding judged_by category_by
  on_braces s = name.braces_settle outer kind.Braces p js m (r.special.braced s.0)

  pub on_specs : Shape kind.Specs → Settled kind.Specs
  unfolding judged_by category_by
  on_specs s =
      decl.specs_settle outer kind.Specs p js m (at.all_of_them cat p js n outer m r kind.Specs s.0 is_specifier (λ j. spec_meaning (judgement_at js j))
      (λ j t a. form.has_specifier kind.Specs (kind_at p.nodes j) (cat j) (judgement_at js j) t a.form) (of.of_specs _ _ s.1))

  pub on_word : Shape kind.Word → Settled kind.Word
  unfolding judged_by category_by
  on_word s = decl.word_settles outer kind.Word p js m r.special.named

  pub on_struct : Shape kind.StructSpec → Settled kind.StructSpec
  unfolding judged_by category_by
  on_struct s =
      decl.struct_settles outer kind.StructSpec p js m (at.all_of_them cat p js n outer m r kind.StructSpec s.0 is_member (λ j. members_of (judgement_at js j)) inner (of.of_struct _ _ s.1))
    where
      inner : (j : ℕ) → is_member (cat j) ≡ true → KidHas cat p js kind.StructSpec j → Has (members_of (judgement_at js j))
      inner j t a =
          form.has_members kind.StructSpec (kind_at p.nodes j) (judgement_at js j)
          (subst (λ c. fits kind.StructSpec (kind_at p.nodes j) c (judgement_at js j) ≡ true) (of.only_member (cat j) t) a.form)

  pub on_enum : Shape kind.EnumSpec → Settled kind.EnumSpec
  unfolding judged_by category_by
  on_enum s =
      decl.enum_settles outer kind.EnumSpec p js m (at.all_of_them cat p js n outer m r kind.EnumSpec s.0 is_enumerator (λ j. word_of_enumerator (judgement_at js j)) inner (of.of_enum _ _ s.1))
    where
      inner : (j : ℕ) → is_enumerator (cat j) ≡ true → KidHas cat p js kind.EnumSpec j → Has (word_of_enumerator (judgement_at js j))
      inner j t a =
          form.has_word kind.EnumSpec (kind_at p.nodes j) (judgement_at js j)
          (subst (λ c. fits kind.EnumSpec (kind_at p.nodes j) c (judgement_at js j) ≡ true) (of.only_enumerator (cat j) t) a.form)

  first : (ks : List ℕ) → list_all is_some_expression (map cat ks) ≡ true → is_some (slice_get ks 0) ≡ true → Operand (map cat ks) 0
  first (a ∷ ks) e h = (of.apart e).0
  first [] e h = no h

  second : (ks : List ℕ) → list_all is_some_expression (rest (map cat ks)) ≡ true → is_some (slice_get ks 1) ≡ true → Operand (map cat ks) 1
  second (a ∷ b ∷ ks) e h = (of.apart e).0
  second (a ∷ []) e h = no h
  second [] e h = no h

  pub on_enumerator : Shape kind.Enumer → Settled kind.Enumer
  unfolding judged_by category_by
  on_enumerator s = decl.enumerator_settles outer kind.Enumer p js m (λ h. value kind.Enumer s.0 refl 0 (first m.kids (of.of_enumerator _ _ s.1) h)) (r.special.before s.0)

  pub on_member : Shape kind.Member → Settled kind.Member
  unfolding judged_by category_by
  on_member s =
      decl.member_settles outer kind.Member p js m (at.others cat p js n outer m r kind.Member s.0 (λ c. has_type kind.Member c) (member_at p js) inner (of.each is_whole_declarator (λ c. has_type kind.Member c) of.whole_has_type (rest (map cat m.kids)) (of.of_member _ _ s.1)))
    where
      inner : (j : ℕ) → has_type kind.Member (cat j) ≡ true → KidHas cat p js kind.Member j → Has (member_at p js j)
      inner j t a =
          let x = form.has_its_type kind.Member (kind_at p.nodes j) (cat j) (judgement_at js j) t a.form in
          record { value = _; is = ap (λ o. option_map (λ t. record { name = text_at p.nodes (node_at p.nodes j).first; type = t; offset = 0 }) o) x.is }

  pub on_parameter : Shape kind.Param → Settled kind.Param
  unfolding judged_by category_by
  on_parameter s = decl.parameter_settles outer kind.Param js m (has_own_type kind.Param s.0 1 refl (of.part_has_type kind.Param _ refl (of.of_parameter _ _ s.1)))

  pub on_type_name : Shape kind.TypeName → Settled kind.TypeName
  unfolding judged_by category_by
  on_type_name s = decl.type_name_settles outer kind.TypeName js m (has_own_type kind.TypeName s.0 1 refl (of.part_has_type kind.TypeName _ refl (of.of_type_name _ _ s.1)))

  -- ---- declarators

  pub on_name : Shape kind.Ident → Settled kind.Ident
  unfolding judged_by category_by
  on_name s = decl.declarator_settles outer kind.Ident category.declarator refl p js m [] r.above (r.special.specified (ap is_part s.2))

  pub on_no_name : Shape kind.NoName → Settled kind.NoName
  unfolding judged_by category_by
  on_no_name s = decl.declarator_settles outer kind.NoName category.no_name refl p js m [] r.above (r.special.specified (ap is_part s.2))

  pub on_pointer : Shape kind.Pointer → Settled kind.Pointer
  unfolding judged_by category_by
  on_pointer s =
      let e = of.of_pointer _ _ s.1 in
      let over = part_over (map cat m.kids) e in
      decl.pointer_settles outer kind.Pointer _ over p js m r.above (r.special.specified (ap is_part s.2 ∙ over)) (at.inner_steps cat p js n outer m r kind.Pointer s.0 refl e)

  pub on_array : Shape kind.ArrayOf → Settled kind.ArrayOf
  unfolding judged_by category_by
  on_array s =
      let es = of.of_array _ _ s.1 in
      let over = part_over (map cat m.kids) es.0 in
      decl.array_settles outer kind.ArrayOf _ over p js m r.above (r.special.specified (ap is_part s.2 ∙ over)) (at.inner_steps cat p js n outer m r kind.ArrayOf s.0 refl es.0)
      (λ h. value kind.ArrayOf s.0 refl 1 (second m.kids es.1 h))

  pub on_takes : Shape kind.Takes → Settled kind.Takes
  unfolding judged_by category_by
  on_takes s =
      let es = of.of_takes _ _ s.1 in
      decl.function_settles outer kind.Takes category.declarator refl p js m r.above (r.special.specified (ap is_part s.2)) (at.inner_steps cat p js n outer m r kind.Takes s.0 refl es.0)
      (at.others cat p js n outer m r kind.Takes s.0 (λ c. has_type kind.Takes c) (type_at js)
      (λ j t a. form.has_its_type kind.Takes (kind_at p.nodes j) (cat j) (judgement_at js j) t a.form) (of.each is_parameter (λ c. has_type kind.Takes c) of.parameter_has_type (rest (map cat m.kids)) es.1))
