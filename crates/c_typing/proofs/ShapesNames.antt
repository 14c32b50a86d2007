-- The lowest node of a declarator is its name, or the place of the absent name; that of no other tree is one.
use Rattle.std.proofs.Common.{◌≡◌, ℕ, Bool, true, false, ◌||◌, not, List, [], ◌∷◌, refl, sym, ◌∙◌, true≢false}
use Rattle.std.specs.Prelude.{if◌then◌else◌}
use Rattle.std.specs.List.{list_all}
use Rattle.c_syntax.specs.declared.kind.SynKind.{SynKind}
use Rattle.c_syntax.specs.declared.kind.SynKind.TheVariants as kind
use Rattle.c_syntax.specs.Trees.{Tree, Forest, none, tree, one}
use Rattle.c_grammar.specs.Vocabulary.{is_type_word, is_storage_word}
use Rattle.c_typing.specs.Shapes as category
use Rattle.c_typing.specs.Shapes.{Category, category_by, category_of, categories, word_category, declarator_over, in_parentheses, is_within, is_left_operand, is_binary_expression, is_conditional_expression, is_assignment_expression, is_expression, is_postfix_expression, is_unary_expression, is_cast_expression, is_first_clause, is_external, is_initializer, is_member, is_enumerator, is_statement, is_block_item, are_specifiers, kids_fit, has_shape, are_shaped, lowest_kind, is_name, is_absent_name, begins_with}
use Rattle.c_typing.proofs.ShapesTable.{parts, apart}
use Rattle.c_typing.proofs.ShapesParents.{closed, pass, implied, split, operand_is_cast}

-- it begins with no name
abbrev is_nameless : Category → Bool
is_nameless category.declarator = false
is_nameless category.init_declarator = false
is_nameless category.abstract_declarator = false
is_nameless category.no_name = false
is_nameless c = true

nameless : (class : Category → Bool) → list_all (λ c. is_nameless c || not (class c)) closed ≡ true
    → ((level : ℕ) → is_nameless (category.expression level) || not (class (category.expression level)) ≡ true)
    → (c : Category) → class c ≡ true → is_nameless c ≡ true
nameless class e f c h = implied (class c) (is_nameless c) (pass (λ c. is_nameless c || not (class c)) e f c) h

-- what begins with a nameless tree, and is nameless itself
same : (c d : Category) (lowest : SynKind) → is_nameless c ≡ true → is_nameless d ≡ true → begins_with c lowest ≡ true → begins_with d lowest ≡ true
unfolding begins_with
same c d lowest e f h = sym (of d f) ∙ (of c e ∙ h)
  where
    of : (c : Category) → is_nameless c ≡ true → not (is_name lowest || is_absent_name lowest) ≡ begins_with c lowest
    of category.declarator e = absurd (true≢false (sym e))
    of category.init_declarator e = absurd (true≢false (sym e))
    of category.abstract_declarator e = absurd (true≢false (sym e))
    of category.no_name e = absurd (true≢false (sym e))
    of _ e = refl

-- ---- the first kid

-- parts of declarators begin with declarators
abbrev holds_declarator_first : SynKind → Bool
holds_declarator_first kind.InitDecl = true
holds_declarator_first kind.Pointer = true
holds_declarator_first kind.ArrayOf = true
holds_declarator_first kind.Takes = true
holds_declarator_first kind.Paren = true
holds_declarator_first k = false

first_nameless : (k : SynKind) (text : List ℕ) (c : Category) (more : List Category) → holds_declarator_first k ≡ false → kids_fit k text (c ∷ more) ≡ true → is_nameless c ≡ true
unfolding closed is_within are_specifiers kids_fit
first_nameless kind.InitDecl text c more f e = absurd (true≢false f)
first_nameless kind.Pointer text c more f e = absurd (true≢false f)
first_nameless kind.ArrayOf text c more f e = absurd (true≢false f)
first_nameless kind.Takes text c more f e = absurd (true≢false f)
first_nameless kind.Paren text c more f e = absurd (true≢false f)
first_nameless kind.Unit text c more f e = nameless is_external refl (λ l. refl) c (split {p = is_external c} e).0
first_nameless kind.Function text category.specifiers (category.declarator ∷ category.block ∷ []) f e = refl
first_nameless kind.Declaration text category.specifiers more f e = refl
first_nameless kind.Member text category.specifiers more f e = refl
first_nameless kind.Param text category.specifiers more f e = refl
first_nameless kind.TypeName text category.specifiers more f e = refl
first_nameless kind.Cast text category.type_name more f e = refl
first_nameless kind.SizeType text category.type_name more f e = refl
first_nameless kind.Braces text c more f e = nameless is_initializer refl (λ l. refl) c (split {p = is_initializer c} e).0
first_nameless kind.StructSpec text c more f e = nameless is_member refl (λ l. refl) c (split {p = is_member c} e).0
first_nameless kind.EnumSpec text c more f e = nameless is_enumerator refl (λ l. refl) c (split {p = is_enumerator c} e).0
first_nameless kind.Block text c more f e = nameless is_block_item refl (λ l. refl) c (split {p = is_block_item c} e).0
first_nameless kind.Enumer text c [] f e = nameless is_conditional_expression refl (λ l. refl) c e
first_nameless kind.Return text c [] f e = nameless is_expression refl (λ l. refl) c e
first_nameless kind.Specs text category.storage_word more f e = refl
first_nameless kind.Specs text category.type_specifier more f e = refl
first_nameless kind.Specs text category.typedef_name more f e = refl
first_nameless kind.ExprStmt text c [] f e = nameless is_expression refl (λ l. refl) c e
first_nameless kind.Case text c [] f e = nameless is_conditional_expression refl (λ l. refl) c e
first_nameless kind.If text c (first ∷ []) f e = nameless is_expression refl (λ l. refl) c (split {p = is_expression c} e).0
first_nameless kind.If text c (first ∷ second ∷ []) f e = nameless is_expression refl (λ l. refl) c (split {p = is_expression c} e).0
first_nameless kind.While text c (body ∷ []) f e = nameless is_expression refl (λ l. refl) c (split {p = is_expression c} e).0
first_nameless kind.Do text c (condition ∷ []) f e = nameless is_statement refl (λ l. refl) c (split {p = is_statement c} e).0
first_nameless kind.For text c (condition ∷ step ∷ body ∷ []) f e = nameless is_first_clause refl (λ l. refl) c (split {p = is_first_clause c} e).0
first_nameless kind.Switch text c more f e = nameless is_expression refl (λ l. refl) c (split {p = is_expression c} e).0
first_nameless kind.Unary text c [] f e = nameless is_cast_expression refl (λ l. refl) c (operand_is_cast text c e)
first_nameless kind.Post text c [] f e = nameless is_postfix_expression refl (λ l. refl) c e
first_nameless kind.Binary text c (right ∷ []) f e = nameless (is_left_operand text) refl (λ l. refl) c (split {p = (is_left_operand text) c} e).0
first_nameless kind.Assign text c (value ∷ []) f e = nameless is_unary_expression refl (λ l. refl) c (split {p = is_unary_expression c} e).0
first_nameless kind.Cond text c (first ∷ second ∷ []) f e = nameless is_binary_expression refl (λ l. refl) c (split {p = is_binary_expression c} e).0
first_nameless kind.Comma text c (right ∷ []) f e = nameless is_expression refl (λ l. refl) c (split {p = is_expression c} e).0
first_nameless kind.Index text c (index ∷ []) f e = nameless is_postfix_expression refl (λ l. refl) c (split {p = is_postfix_expression c} e).0
first_nameless kind.Call text c arguments f e = nameless is_postfix_expression refl (λ l. refl) c (split {p = is_postfix_expression c} e).0
first_nameless kind.Dot text c [] f e = nameless is_postfix_expression refl (λ l. refl) c e
first_nameless kind.Arrow text c [] f e = nameless is_postfix_expression refl (λ l. refl) c e
first_nameless kind.SizeExpr text c [] f e = nameless is_unary_expression refl (λ l. refl) c e
first_nameless k text c more f e = absurd (true≢false (sym e))

-- ---- declarators

module _ (text : List ℕ) (lowest : SynKind) where
  pointer : (c : Category) (more : List Category) → kids_fit kind.Pointer text (c ∷ more) ≡ true → begins_with c lowest ≡ true → begins_with (declarator_over (c ∷ more)) lowest ≡ true
  unfolding kids_fit begins_with
  pointer category.declarator more e h = h
  pointer category.abstract_declarator more e h = h
  pointer category.no_name more e h = h
  pointer _ [] e h = absurd (true≢false (sym e))
  pointer _ (d ∷ more) e h = absurd (true≢false (sym e))

  array : (c : Category) (more : List Category) → kids_fit kind.ArrayOf text (c ∷ more) ≡ true → begins_with c lowest ≡ true → begins_with (declarator_over (c ∷ more)) lowest ≡ true
  unfolding kids_fit begins_with
  array category.declarator more e h = h
  array category.abstract_declarator more e h = h
  array category.no_name more e h = h
  array _ more e h = absurd (true≢false (sym e))

  parenthesized : (c : Category) (more : List Category) → kids_fit kind.Paren text (c ∷ more) ≡ true → begins_with c lowest ≡ true → begins_with (in_parentheses (c ∷ more)) lowest ≡ true
  unfolding kids_fit begins_with is_within
  parenthesized category.declarator more e h = h
  parenthesized category.abstract_declarator more e h = h
  parenthesized (category.expression level) more e h = h
  parenthesized _ [] e h = absurd (true≢false (sym e))
  parenthesized _ (d ∷ more) e h = absurd (true≢false (sym e))

  taken : (c : Category) (more : List Category) → kids_fit kind.Takes text (c ∷ more) ≡ true → begins_with c lowest ≡ true → begins_with category.declarator lowest ≡ true
  unfolding kids_fit begins_with
  taken category.declarator more e h = h
  taken _ more e h = absurd (true≢false (sym e))

  initialized : (c : Category) (more : List Category) → kids_fit kind.InitDecl text (c ∷ more) ≡ true → begins_with c lowest ≡ true → begins_with category.init_declarator lowest ≡ true
  unfolding kids_fit begins_with
  initialized category.declarator more e h = h
  initialized _ more e h = absurd (true≢false (sym e))

word : (text : List ℕ) → begins_with (word_category text) kind.Word ≡ true
unfolding begins_with
word text = by (is_storage_word text) (is_type_word text)
  where
    by : (storage type : Bool) → begins_with (if storage then category.storage_word else if type then category.type_specifier else category.typedef_name) kind.Word ≡ true
    by true type = refl
    by false true = refl
    by false false = refl

-- ---- all trees

-- what holds of the first kid
FirstBegins : Forest → Type 0
FirstBegins none = Unit {0}
FirstBegins (tree label kids rest) = begins_with (category_by label.kind label.text (categories kids)) (lowest_kind label.kind kids) ≡ true

leaf : (k : SynKind) (text : List ℕ) → kids_fit k text [] ≡ true → begins_with (category_by k text []) k ≡ true
unfolding kids_fit category_by begins_with
leaf kind.Word text e = word text
leaf kind.Pointer text e = absurd (true≢false (sym e))
leaf kind.ArrayOf text e = absurd (true≢false (sym e))
leaf kind.Paren text e = absurd (true≢false (sym e))
leaf kind.Takes text e = absurd (true≢false (sym e))
leaf kind.InitDecl text e = absurd (true≢false (sym e))
leaf _ text e = refl

root : (k : SynKind) (text : List ℕ) (c : Category) (more : List Category) (lowest : SynKind) → kids_fit k text (c ∷ more) ≡ true → begins_with c lowest ≡ true
    → begins_with (category_by k text (c ∷ more)) lowest ≡ true
unfolding kids_fit category_by
root kind.Ident text c more lowest e h = absurd (true≢false (sym e))
root kind.NoName text c more lowest e h = absurd (true≢false (sym e))
root kind.Word text c more lowest e h = absurd (true≢false (sym e))
root kind.Pointer text c more lowest e h = pointer text lowest c more e h
root kind.ArrayOf text c more lowest e h = array text lowest c more e h
root kind.Paren text c more lowest e h = parenthesized text lowest c more e h
root kind.Takes text c more lowest e h = taken text lowest c more e h
root kind.InitDecl text c more lowest e h = initialized text lowest c more e h
root k text c more lowest e h = same c (category_by k text (c ∷ more)) lowest (first_nameless k text c more refl e) refl h

first_begins : (f : Forest) → are_shaped f ≡ true → FirstBegins f
unfolding FirstBegins
first_begins none e = tt
first_begins (tree label none rest) e = leaf label.kind label.text (parts label none (apart label none rest e).0).fit
first_begins (tree label (tree l ks more) rest) e =
    let oks = apart label (tree l ks more) rest e in
    root label.kind label.text (category_by l.kind l.text (categories ks)) (categories more) (lowest_kind l.kind ks) (parts label (tree l ks more) oks.0).fit
    (first_begins (tree l ks more) oks.1)

pub begins_with_name : (t : Tree) → are_shaped (one t) ≡ true → begins_with (category_of t) (lowest_kind t.label.kind t.kids) ≡ true
unfolding FirstBegins
begins_with_name t e = first_begins (one t) e
