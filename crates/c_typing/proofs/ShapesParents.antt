-- Which nodes the kids of a node may be kids of: what `stands_in` says follows from `kids_fit`.
use Rattle.std.proofs.Common.{◌≡◌, ℕ, zero, suc, Bool, true, false, ◌&&◌, ◌||◌, not, List, [], ◌∷◌, map, refl, sym, arith, true≢false}
use Rattle.std.specs.Prelude.{get_or, if◌then◌else◌}
use Rattle.std.specs.List.{list_all}
use Rattle.c_syntax.specs.declared.kind.SynKind.{SynKind}
use Rattle.c_syntax.specs.declared.kind.SynKind.TheVariants as kind
use Rattle.c_grammar.specs.Derivation.{Standing, at_first, behind_label, behind_statement, is_labelled}
use Rattle.c_typing.specs.Shapes as category
use Rattle.c_typing.specs.Shapes.{Category, is_within, is_right_operand, is_left_operand, is_operand, is_binary_expression, is_conditional_expression, is_assignment_expression, is_expression, is_postfix_expression, is_unary_expression, is_cast_expression, is_optional_expression, is_first_clause, is_external, is_init_declarator, is_initializer, is_member, is_enumerator, is_declarator, is_parameter, is_abstract, is_any_declarator, is_in_parentheses, is_statement, is_block_item, is_increment, are_specifiers, are_groups, at_most_one, one_or_more, kids_fit, stands_in}
use Rattle.c_typing.proofs.ShapesBase.{both, all_of, within_more}

-- ---- what holds of each category

-- all but expressions
unfoldable pub closed : List Category
closed = category.unit ∷ category.function ∷ category.declaration ∷ category.init_declarator ∷ category.braces ∷ category.specifiers ∷ category.storage_word ∷ category.typedef_name ∷ category.type_specifier ∷ category.member ∷ category.enumerator ∷ category.declarator ∷ category.abstract_declarator ∷ category.no_name ∷ category.parameter ∷ category.type_name ∷ category.block ∷ category.empty ∷ category.statement ∷ category.switch_label ∷ category.no_category ∷ []

pass_at : (test : Category → Bool) (cs : List Category) (n : ℕ) → list_all test cs ≡ true → get_or (map test cs) n true ≡ true
pass_at test [] n e = refl
pass_at test (c ∷ cs) n e = by n (test c) (list_all test cs) e (λ m f. pass_at test cs m f)
  where
    by : (n : ℕ) (first later : Bool) → first && later ≡ true → ((m : ℕ) → later ≡ true → get_or (map test cs) m true ≡ true) → get_or (first ∷ map test cs) n true ≡ true
    by n false later e f = absurd (true≢false (sym e))
    by zero true later e f = refl
    by (suc n) true later e f = f n e

pub pass : (test : Category → Bool) → list_all test closed ≡ true → ((level : ℕ) → test (category.expression level) ≡ true) → (c : Category) → test c ≡ true
unfolding closed
pass test e f (category.expression level) = f level
pass test e f category.unit = pass_at test closed 0 e
pass test e f category.function = pass_at test closed 1 e
pass test e f category.declaration = pass_at test closed 2 e
pass test e f category.init_declarator = pass_at test closed 3 e
pass test e f category.braces = pass_at test closed 4 e
pass test e f category.specifiers = pass_at test closed 5 e
pass test e f category.storage_word = pass_at test closed 6 e
pass test e f category.typedef_name = pass_at test closed 7 e
pass test e f category.type_specifier = pass_at test closed 8 e
pass test e f category.member = pass_at test closed 9 e
pass test e f category.enumerator = pass_at test closed 10 e
pass test e f category.declarator = pass_at test closed 11 e
pass test e f category.abstract_declarator = pass_at test closed 12 e
pass test e f category.no_name = pass_at test closed 13 e
pass test e f category.parameter = pass_at test closed 14 e
pass test e f category.type_name = pass_at test closed 15 e
pass test e f category.block = pass_at test closed 16 e
pass test e f category.empty = pass_at test closed 17 e
pass test e f category.statement = pass_at test closed 18 e
pass test e f category.switch_label = pass_at test closed 19 e
pass test e f category.no_category = pass_at test closed 20 e

pub implied : (p q : Bool) → q || not p ≡ true → p ≡ true → q ≡ true
implied p true e f = refl
implied true false e f = e
implied false false e f = f

-- what is in a class may stand there
stands : (class : Category → Bool) (k : SynKind) → list_all (λ c. stands_in c k || not (class c)) closed ≡ true
    → ((level : ℕ) → stands_in (category.expression level) k || not (class (category.expression level)) ≡ true)
    → (c : Category) → class c ≡ true → stands_in c k ≡ true
stands class k e f c h = implied (class c) (stands_in c k) (pass (λ c. stands_in c k || not (class c)) e f c) h

-- ---- rows

pub split : {p q : Bool} → p && q ≡ true → (p ≡ true) × (q ≡ true)
split {p = true} e = (refl, e)
split {p = false} e = absurd (true≢false (sym e))

each : (p q : Category → Bool) → ((c : Category) → p c ≡ true → q c ≡ true) → (cs : List Category) → list_all p cs ≡ true → list_all q cs ≡ true
each p q f [] e = refl
each p q f (c ∷ cs) e = let parts = split {p = p c} {q = list_all p cs} e in both (f c parts.0) (each p q f cs parts.1)

some : (p q : Category → Bool) → ((c : Category) → p c ≡ true → q c ≡ true) → (cs : List Category) → one_or_more p cs ≡ true → list_all q cs ≡ true
some p q f cs e = each p q f cs (all_of p cs e)

optional : (p q : Category → Bool) → ((c : Category) → p c ≡ true → q c ≡ true) → (cs : List Category) → at_most_one p cs ≡ true → list_all q cs ≡ true
optional p q f [] e = refl
optional p q f (c ∷ []) e = both (f c e) refl
optional p q f (c ∷ d ∷ cs) e = absurd (true≢false (sym e))

abbrev within : SynKind → Category → Bool
within k c = stands_in c k

groups : (standing : Standing) (cs : List Category) → are_groups standing cs ≡ true → list_all (within kind.Switch) cs ≡ true
unfolding are_groups stands_in
groups standing [] e = refl
groups standing (category.switch_label ∷ more) e = groups behind_label more e
groups standing (category.block ∷ more) e = groups behind_statement more (split {p = is_labelled standing} e).1
groups standing (category.empty ∷ more) e = groups behind_statement more (split {p = is_labelled standing} e).1
groups standing (category.statement ∷ more) e = groups behind_statement more (split {p = is_labelled standing} e).1
groups standing (_ ∷ more) e = absurd (true≢false (sym (split {p = is_labelled standing} e).1))

specifiers : (typed : Bool) (cs : List Category) → are_specifiers typed cs ≡ true → list_all (within kind.Specs) cs ≡ true
unfolding are_specifiers stands_in
specifiers typed [] e = refl
specifiers typed (category.storage_word ∷ more) e = specifiers typed more e
specifiers typed (category.type_specifier ∷ more) e = specifiers true more e
specifiers false (category.typedef_name ∷ more) e = specifiers true more e
specifiers typed (_ ∷ more) e = absurd (true≢false (sym e))

-- the operand of a unary operator
pub operand_is_cast : (text : List ℕ) (c : Category) → is_operand text c ≡ true → is_cast_expression c ≡ true
operand_is_cast text c e = by (is_increment text) e
  where
    by : (increment : Bool) → (if increment then is_unary_expression c else is_cast_expression c) ≡ true → is_cast_expression c ≡ true
    by true e = within_more 2 3 c (omega arith) e
    by false e = e

-- ---- the kids of each kind

pub kids_stand : (k : SynKind) (text : List ℕ) (cs : List Category) → kids_fit k text cs ≡ true → list_all (within k) cs ≡ true
unfolding closed is_within kids_fit stands_in
kids_stand kind.Unit text externals e = some is_external (within kind.Unit) (stands is_external kind.Unit refl (λ l. refl)) externals e
kids_stand kind.Function text (category.specifiers ∷ category.declarator ∷ category.block ∷ []) e = refl
kids_stand kind.Declaration text (category.specifiers ∷ declared) e = each is_init_declarator (within kind.Declaration) (stands is_init_declarator kind.Declaration refl (λ l. refl)) declared e
kids_stand kind.InitDecl text (category.declarator ∷ initial) e = optional is_initializer (within kind.InitDecl) (stands is_initializer kind.InitDecl refl (λ l. refl)) initial e
kids_stand kind.Braces text values e = some is_initializer (within kind.Braces) (stands is_initializer kind.Braces refl (λ l. refl)) values e
kids_stand kind.Specs text (c ∷ more) e = specifiers false (c ∷ more) e
kids_stand kind.StructSpec text members e = each is_member (within kind.StructSpec) (stands is_member kind.StructSpec refl (λ l. refl)) members e
kids_stand kind.Member text (category.specifiers ∷ declarators) e = some is_declarator (within kind.Member) (stands is_declarator kind.Member refl (λ l. refl)) declarators e
kids_stand kind.EnumSpec text enumerators e = each is_enumerator (within kind.EnumSpec) (stands is_enumerator kind.EnumSpec refl (λ l. refl)) enumerators e
kids_stand kind.Enumer text value e = optional is_conditional_expression (within kind.Enumer) (stands is_conditional_expression kind.Enumer refl (λ l. refl)) value e
kids_stand kind.Word text [] e = refl
kids_stand kind.Ident text [] e = refl
kids_stand kind.NoName text [] e = refl
kids_stand kind.Empty text [] e = refl
kids_stand kind.Break text [] e = refl
kids_stand kind.Continue text [] e = refl
kids_stand kind.Default text [] e = refl
kids_stand kind.Char text [] e = refl
kids_stand kind.Str text [] e = refl
kids_stand kind.Var text [] e = refl
kids_stand (kind.Int type) text [] e = refl
kids_stand kind.Pointer text (inner ∷ []) e = both ((stands is_any_declarator kind.Pointer refl (λ l. refl)) inner e) refl
kids_stand kind.ArrayOf text (inner ∷ size) e = let p = split {p = is_any_declarator inner} e in both ((stands is_any_declarator kind.ArrayOf refl (λ l. refl)) inner p.0) (optional is_conditional_expression (within kind.ArrayOf) (stands is_conditional_expression kind.ArrayOf refl (λ l. refl)) size p.1)
kids_stand kind.Takes text (category.declarator ∷ parameters) e = each is_parameter (within kind.Takes) (stands is_parameter kind.Takes refl (λ l. refl)) parameters e
kids_stand kind.Param text (category.specifiers ∷ declared ∷ []) e = both ((stands is_any_declarator kind.Param refl (λ l. refl)) declared e) refl
kids_stand kind.TypeName text (category.specifiers ∷ derived ∷ []) e = both ((stands is_abstract kind.TypeName refl (λ l. refl)) derived e) refl
kids_stand kind.Block text items e = each is_block_item (within kind.Block) (stands is_block_item kind.Block refl (λ l. refl)) items e
kids_stand kind.ExprStmt text (value ∷ []) e = both ((stands is_expression kind.ExprStmt refl (λ l. refl)) value e) refl
kids_stand kind.If text (condition ∷ first ∷ []) e = let p0 = split {p = is_expression condition} e in both ((stands is_expression kind.If refl (λ l. refl)) condition p0.0) (both ((stands is_statement kind.If refl (λ l. refl)) first p0.1) refl)
kids_stand kind.If text (condition ∷ first ∷ second ∷ []) e = let p0 = split {p = is_expression condition} e in both ((stands is_expression kind.If refl (λ l. refl)) condition p0.0) (let p1 = split {p = is_statement first} p0.1 in both ((stands is_statement kind.If refl (λ l. refl)) first p1.0) (both ((stands is_statement kind.If refl (λ l. refl)) second p1.1) refl))
kids_stand kind.While text (condition ∷ body ∷ []) e = let p0 = split {p = is_expression condition} e in both ((stands is_expression kind.While refl (λ l. refl)) condition p0.0) (both ((stands is_statement kind.While refl (λ l. refl)) body p0.1) refl)
kids_stand kind.Do text (body ∷ condition ∷ []) e = let p0 = split {p = is_statement body} e in both ((stands is_statement kind.Do refl (λ l. refl)) body p0.0) (both ((stands is_expression kind.Do refl (λ l. refl)) condition p0.1) refl)
kids_stand kind.For text (first ∷ condition ∷ step ∷ body ∷ []) e = let p0 = split {p = is_first_clause first} e in both ((stands is_first_clause kind.For refl (λ l. refl)) first p0.0) (let p1 = split {p = is_optional_expression condition} p0.1 in both ((stands is_optional_expression kind.For refl (λ l. refl)) condition p1.0) (let p2 = split {p = is_optional_expression step} p1.1 in both ((stands is_optional_expression kind.For refl (λ l. refl)) step p2.0) (both ((stands is_statement kind.For refl (λ l. refl)) body p2.1) refl)))
kids_stand kind.Return text value e = optional is_expression (within kind.Return) (stands is_expression kind.Return refl (λ l. refl)) value e
kids_stand kind.Switch text (value ∷ rest) e = let p = split {p = is_expression value} e in both ((stands is_expression kind.Switch refl (λ l. refl)) value p.0) (groups at_first rest p.1)
kids_stand kind.Case text (constant ∷ []) e = both ((stands is_conditional_expression kind.Case refl (λ l. refl)) constant e) refl
kids_stand kind.Paren text (inner ∷ []) e = both ((stands is_in_parentheses kind.Paren refl (λ l. refl)) inner e) refl
kids_stand kind.Unary text (operand ∷ []) e = both ((stands is_cast_expression kind.Unary refl (λ l. refl)) operand (operand_is_cast text operand e)) refl
kids_stand kind.Post text (operand ∷ []) e = both ((stands is_postfix_expression kind.Post refl (λ l. refl)) operand e) refl
kids_stand kind.Binary text (left ∷ right ∷ []) e = let p0 = split {p = (is_left_operand text) left} e in both ((stands (is_left_operand text) kind.Binary refl (λ l. refl)) left p0.0) (both ((stands (is_right_operand text) kind.Binary refl (λ l. refl)) right p0.1) refl)
kids_stand kind.Assign text (place ∷ value ∷ []) e = let p0 = split {p = is_unary_expression place} e in both ((stands is_unary_expression kind.Assign refl (λ l. refl)) place p0.0) (both ((stands is_assignment_expression kind.Assign refl (λ l. refl)) value p0.1) refl)
kids_stand kind.Cond text (condition ∷ first ∷ second ∷ []) e = let p0 = split {p = is_binary_expression condition} e in both ((stands is_binary_expression kind.Cond refl (λ l. refl)) condition p0.0) (let p1 = split {p = is_expression first} p0.1 in both ((stands is_expression kind.Cond refl (λ l. refl)) first p1.0) (both ((stands is_conditional_expression kind.Cond refl (λ l. refl)) second p1.1) refl))
kids_stand kind.Comma text (left ∷ right ∷ []) e = let p0 = split {p = is_expression left} e in both ((stands is_expression kind.Comma refl (λ l. refl)) left p0.0) (both ((stands is_assignment_expression kind.Comma refl (λ l. refl)) right p0.1) refl)
kids_stand kind.Index text (array ∷ index ∷ []) e = let p0 = split {p = is_postfix_expression array} e in both ((stands is_postfix_expression kind.Index refl (λ l. refl)) array p0.0) (both ((stands is_expression kind.Index refl (λ l. refl)) index p0.1) refl)
kids_stand kind.Call text (callee ∷ arguments) e = let p = split {p = is_postfix_expression callee} e in both ((stands is_postfix_expression kind.Call refl (λ l. refl)) callee p.0) (each is_assignment_expression (within kind.Call) (stands is_assignment_expression kind.Call refl (λ l. refl)) arguments p.1)
kids_stand kind.Dot text (operand ∷ []) e = both ((stands is_postfix_expression kind.Dot refl (λ l. refl)) operand e) refl
kids_stand kind.Arrow text (operand ∷ []) e = both ((stands is_postfix_expression kind.Arrow refl (λ l. refl)) operand e) refl
kids_stand kind.Cast text (category.type_name ∷ operand ∷ []) e = both ((stands is_cast_expression kind.Cast refl (λ l. refl)) operand e) refl
kids_stand kind.SizeExpr text (operand ∷ []) e = both ((stands is_unary_expression kind.SizeExpr refl (λ l. refl)) operand e) refl
kids_stand kind.SizeType text (category.type_name ∷ []) e = refl
kids_stand k text others e = absurd (true≢false (sym e))
