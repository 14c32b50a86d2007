-- In a tree that is derived each node has its shape: by induction on the derivation, a case for each rule.
use Rattle.std.proofs.Common.{◌≡◌, ℕ, suc, ◌+◌, Bool, true, false, ◌||◌, List, [], ◌∷◌, refl, ap, ◌∙◌, arith}
use Rattle.std.specs.Prelude.{if◌then◌else◌}
use Rattle.std.specs.List.{list_all}
use Rattle.c_lexer.specs.declared.token.Token.{Token}
use Rattle.c_lexer.specs.Marks.{mark_text}
use Rattle.c_syntax.specs.declared.kind.SynKind.TheVariants as kind
use Rattle.c_syntax.specs.Trees.{Tree, Forest, none, ◌then◌, one, two, three, plain_node}
use Rattle.c_grammar.specs.Scopes.{Names, says_type}
use Rattle.c_grammar.specs.Derivation as rule
use Rattle.c_grammar.specs.Derivation.{Part, Row, Derives, Lists, Standing, may_end, is_labelled, is_lone_void, ends_open, IsTreeOf}
use Rattle.c_typing.specs.Shapes as category
use Rattle.c_typing.specs.Shapes.{Category, binary_level, is_within, is_binary_expression, is_conditional_expression, is_assignment_expression, is_expression, is_postfix_expression, is_unary_expression, is_cast_expression, is_optional_expression, is_first_clause, is_external, is_init_declarator, is_initializer, is_member, is_enumerator, is_declarator, is_parameter, is_statement, is_block_item, are_specifiers, are_groups, at_most_one, one_or_more, category_by, category_of, categories, text_fits, bytes_fit, value_fits, kids_fit, are_apart, has_shape, are_shaped, word_category, primary_level, cast_level}
use Rattle.c_typing.proofs.ShapesBase.{both, level_of_mark, unary_mark, no_increment, assignment_mark, within_more, chain_within, left_operand, right_operand, optional_of, first_of, initializer_of, item_of, within_parentheses, parenthesized, all_of, one_more, labelled, keyword_stands, name_stands, specifier_text, name_text, type_stands, some_level, before, over}

-- ---- what the tree of each part is

abbrev Fits : Part → Tree → Type 0
Fits rule.unit t = category_of t ≡ category.unit
Fits rule.external t = is_external (category_of t) ≡ true
Fits rule.declaration t = category_of t ≡ category.declaration
Fits (rule.init_declarator is_typedef) t = is_init_declarator (category_of t) ≡ true
Fits rule.initializer t = is_initializer (category_of t) ≡ true
Fits rule.specifiers t = category_of t ≡ category.specifiers
Fits (rule.specifier typed) t = (more : List Category) → are_specifiers typed (category_of t ∷ more) ≡ are_specifiers (typed || says_type t) more
Fits rule.struct_specifier t = (category_of t ≡ category.type_specifier) × (says_type t ≡ true)
Fits rule.member t = is_member (category_of t) ≡ true
Fits rule.enum_specifier t = (category_of t ≡ category.type_specifier) × (says_type t ≡ true)
Fits rule.enumerator t = is_enumerator (category_of t) ≡ true
Fits rule.declarator t = category_of t ≡ category.declarator
Fits rule.direct_declarator t = category_of t ≡ category.declarator
Fits rule.parameter t = is_parameter (category_of t) ≡ true
Fits rule.type_name t = category_of t ≡ category.type_name
Fits rule.abstract_declarator t = category_of t ≡ category.abstract_declarator
Fits rule.direct_abstract t = category_of t ≡ category.abstract_declarator
Fits rule.block t = category_of t ≡ category.block
Fits rule.statement t = is_statement (category_of t) ≡ true
Fits rule.switch_label t = category_of t ≡ category.switch_label
Fits rule.optional_expression t = is_optional_expression (category_of t) ≡ true
Fits rule.expression t = is_expression (category_of t) ≡ true
Fits rule.assignment t = is_assignment_expression (category_of t) ≡ true
Fits rule.conditional t = is_conditional_expression (category_of t) ≡ true
Fits (rule.binary n) t = is_within (cast_level + n) (category_of t) ≡ true
Fits rule.cast t = is_cast_expression (category_of t) ≡ true
Fits rule.unary t = is_unary_expression (category_of t) ≡ true
Fits rule.postfix t = is_postfix_expression (category_of t) ≡ true
Fits rule.primary t = is_within primary_level (category_of t) ≡ true

pub record Shaped (part : Part) (t : Tree) : Type 0 where
  fits : Fits part t
  all : are_shaped (one t) ≡ true

abbrev FitRow : Row → Forest → Type 0
FitRow rule.externals ts = one_or_more is_external (categories ts) ≡ true
FitRow (rule.init_declarators is_typedef) ts = one_or_more is_init_declarator (categories ts) ≡ true
FitRow rule.initializers ts = one_or_more is_initializer (categories ts) ≡ true
FitRow (rule.specifier_list typed) ts = (are_specifiers typed (categories ts) ≡ true) × (kids_fit kind.Specs [] (categories ts) ≡ are_specifiers false (categories ts))
FitRow rule.members ts = one_or_more is_member (categories ts) ≡ true
FitRow rule.declarators ts = one_or_more is_declarator (categories ts) ≡ true
FitRow rule.enumerators ts = one_or_more is_enumerator (categories ts) ≡ true
FitRow rule.parameters ts = one_or_more is_parameter (categories ts) ≡ true
FitRow rule.block_items ts = list_all is_block_item (categories ts) ≡ true
FitRow (rule.groups standing) ts = are_groups standing (categories ts) ≡ true
FitRow rule.arguments ts = list_all is_assignment_expression (categories ts) ≡ true
FitRow rule.argument_list ts = list_all is_assignment_expression (categories ts) ≡ true
FitRow rule.optional_length ts = at_most_one is_conditional_expression (categories ts) ≡ true

pub record ShapedRow (row : Row) (ts : Forest) : Type 0 where
  fits : FitRow row ts
  all : are_shaped ts ≡ true

-- a node over shaped kids
node : {part : Part} (t : Tree) → Fits part t → has_shape t ≡ true → are_shaped t.kids ≡ true → Shaped part t
node t f e g = record { fits = f; all = over t e g }

-- a part that is another
as_part : {inner part : Part} {t : Tree} → Shaped inner t → (Fits inner t → Fits part t) → Shaped part t
as_part s f = record { fits = f s.fits; all = s.all }

-- an expression that is one of a higher level
raised : {inner part : Part} {t : Tree} → Shaped inner t → Fits part t → Shaped part t
raised s f = record { fits = f; all = s.all }

-- its category, and those of trees in a row
abbrev kid : {part : Part} {t : Tree} → Shaped part t → Category
kid {t = t} s = category_of t

abbrev kids : {row : Row} {ts : Forest} → ShapedRow row ts → List Category
kids {ts = ts} s = categories ts

abbrev says : {part : Part} {t : Tree} → Shaped part t → Bool
says {t = t} s = says_type t

no_trees : are_shaped none ≡ true
unfolding are_shaped
no_trees = refl

-- the kids
kids_two : {p q : Part} {x y : Tree} → Shaped p x → Shaped q y → are_shaped (two x y) ≡ true
kids_two {x = x} {y = y} s t = before x (one y) s.all t.all

kids_three : {p q r : Part} {x y z : Tree} → Shaped p x → Shaped q y → Shaped r z → are_shaped (three x y z) ≡ true
kids_three {x = x} {y = y} {z = z} s t u = before x (two y z) s.all (kids_two t u)

kids_then : {p : Part} {x : Tree} {row : Row} {ts : Forest} → Shaped p x → ShapedRow row ts → are_shaped (x then ts) ≡ true
kids_then {x = x} {ts = ts} s t = before x ts s.all t.all

-- the rows
last : {p : Part} {row : Row} {t : Tree} → Shaped p t → FitRow row (one t) → ShapedRow row (one t)
last s f = record { fits = f; all = s.all }

more : {p : Part} {row rest : Row} {t : Tree} {ts : Forest} → Shaped p t → ShapedRow rest ts → FitRow row (t then ts) → ShapedRow row (t then ts)
more s r f = record { fits = f; all = kids_then s r }

-- the place of an absent name
no_name_shaped : (at : ℕ) → are_shaped (one (plain_node kind.NoName at none)) ≡ true
unfolding text_fits bytes_fit value_fits kids_fit are_apart has_shape
no_name_shaped at = over (plain_node kind.NoName at none) refl no_trees

mutual
  unfolding category_by is_within text_fits bytes_fit value_fits kids_fit are_apart has_shape are_groups are_specifiers

  shaped : {names : Names} {part : Part} {a b : List Token} {t : Tree} → Derives names part a b t → Shaped part t
  -- units and declarations
  shaped (rule.unit_of ts) = let r = shaped_row ts in node _ refl r.fits r.all
  shaped (rule.function s d items) =
      let p = shaped s in
      let q = shaped d in
      let r = shaped_row items in
      let body : Shaped rule.block (plain_node kind.Block _ _) = node _ refl r.fits r.all in
      node _ refl (rw (p.fits, q.fits) refl) (kids_three p q body)
  shaped (rule.declared t) = let p = shaped t in raised p (rw p.fits refl)
  shaped (rule.bare_declaration s) = let p = shaped s in node _ refl (rw p.fits refl) p.all
  shaped (rule.full_declaration s ds) = let p = shaped s in let r = shaped_row ds in node _ refl (rw p.fits (all_of is_init_declarator (kids r) r.fits)) (kids_then p r)
  shaped (rule.uninitialized d) = let p = shaped d in node _ refl (rw p.fits refl) p.all
  shaped (rule.initialized d i) = let p = shaped d in let q = shaped i in node _ refl (rw p.fits q.fits) (kids_two p q)
  shaped (rule.initial_value t) = let p = shaped t in raised p (initializer_of (kid p) p.fits)
  shaped (rule.braces ts) = let r = shaped_row ts in node _ refl r.fits r.all
  -- specifiers
  shaped (rule.specs ts) = let r = shaped_row ts in node _ refl (r.fits.1 ∙ r.fits.0) r.all
  shaped (rule.specifier_word {text = text} {typed = typed} e) = node _ (λ more. keyword_stands typed text more e) (both (specifier_text text e) refl) no_trees
  shaped (rule.typedef_name {text = text} e f) = node _ (λ more. name_stands text more) (both (name_text text e) refl) no_trees
  shaped (rule.struct_of {typed = typed} t) = let p = shaped t in raised p (λ more. type_stands typed more (kid p) (says p) p.fits.0 p.fits.1)
  shaped (rule.enum_of {typed = typed} t) = let p = shaped t in raised p (λ more. type_stands typed more (kid p) (says p) p.fits.0 p.fits.1)
  shaped (rule.struct_without_tag ms) = let r = shaped_row ms in node _ (refl, refl) (all_of is_member (kids r) r.fits) r.all
  shaped (rule.struct_with_tag e ms) = let r = shaped_row ms in node _ (refl, refl) (both e (all_of is_member (kids r) r.fits)) r.all
  shaped (rule.struct_tag e) = node _ (refl, refl) (both e refl) no_trees
  shaped (rule.member_of s ds) = let p = shaped s in let r = shaped_row ds in node _ refl (rw p.fits r.fits) (kids_then p r)
  shaped (rule.enum_without_tag es) = let r = shaped_row es in node _ (refl, refl) (all_of is_enumerator (kids r) r.fits) r.all
  shaped (rule.enum_with_tag e es) = let r = shaped_row es in node _ (refl, refl) (both e (all_of is_enumerator (kids r) r.fits)) r.all
  shaped (rule.enum_tag e) = node _ (refl, refl) (both e refl) no_trees
  shaped (rule.enumerator_name e) = node _ refl (both e refl) no_trees
  shaped (rule.enumerator_value e v) = let p = shaped v in node _ refl (both e p.fits) p.all
  -- declarators
  shaped (rule.pointer q d) = let p = shaped d in node _ (rw p.fits refl) (rw p.fits refl) p.all
  shaped (rule.direct d) = let p = shaped d in raised p p.fits
  shaped (rule.declared_name e) = node _ refl (both e refl) no_trees
  shaped (rule.declarator_in_parentheses d) = let p = shaped d in node _ (rw p.fits refl) (rw p.fits refl) p.all
  shaped (rule.array_of d n) = let p = shaped d in let r = shaped_row n in node _ (rw p.fits refl) (rw p.fits r.fits) (kids_then p r)
  shaped (rule.takes_anything d) = let p = shaped d in node _ refl (rw p.fits refl) p.all
  shaped (rule.takes_void d) = let p = shaped d in node _ refl (rw p.fits refl) p.all
  shaped (rule.takes d ps e) = let p = shaped d in let r = shaped_row ps in node _ refl (rw (p.fits, e) (all_of is_parameter (kids r) r.fits)) (kids_then p r)
  -- parameters and type names
  shaped (rule.named_parameter s d) = let p = shaped s in let q = shaped d in node _ refl (rw (p.fits, q.fits) refl) (kids_two p q)
  shaped (rule.abstract_parameter s d) = let p = shaped s in let q = shaped d in node _ refl (rw (p.fits, q.fits) refl) (kids_two p q)
  shaped (rule.bare_parameter s) = let p = shaped s in node _ refl (rw p.fits refl) (before _ _ p.all (no_name_shaped _))
  shaped (rule.derived_type s d) = let p = shaped s in let q = shaped d in node _ refl (rw (p.fits, q.fits) refl) (kids_two p q)
  shaped (rule.bare_type s) = let p = shaped s in node _ refl (rw p.fits refl) (before _ _ p.all (no_name_shaped _))
  shaped (rule.abstract_pointer q d) = let p = shaped d in node _ (rw p.fits refl) (rw p.fits refl) p.all
  shaped (rule.bare_pointer q) = node _ refl refl (no_name_shaped _)
  shaped (rule.direct_of d) = let p = shaped d in raised p p.fits
  shaped (rule.abstract_in_parentheses d) = let p = shaped d in node _ (rw p.fits refl) (rw p.fits refl) p.all
  shaped (rule.bare_array n) = let r = shaped_row n in node _ refl r.fits (before _ _ (no_name_shaped _) r.all)
  shaped (rule.abstract_array d n) = let p = shaped d in let r = shaped_row n in node _ (rw p.fits refl) (rw p.fits r.fits) (kids_then p r)
  -- statements
  shaped (rule.block_of ts) = let r = shaped_row ts in node _ refl r.fits r.all
  shaped (rule.block_statement t) = let p = shaped t in raised p (rw p.fits refl)
  shaped rule.empty_statement = node _ refl refl no_trees
  shaped (rule.expression_statement x) = let p = shaped x in node _ refl p.fits p.all
  shaped (rule.if_then x s) = let p = shaped x in let q = shaped s in node _ refl (both p.fits q.fits) (kids_two p q)
  shaped (rule.if_else x s e t) =
      let p = shaped x in
      let q = shaped s in
      let r = shaped t in
      node _ refl (rw e (both p.fits (both q.fits r.fits))) (kids_three p q r)
  shaped (rule.while_do x s) = let p = shaped x in let q = shaped s in node _ refl (both p.fits q.fits) (kids_two p q)
  shaped (rule.do_while s x) = let p = shaped s in let q = shaped x in node _ refl (both p.fits q.fits) (kids_two p q)
  shaped (rule.for_declaration f x y s) =
      let i = shaped f in
      let p = shaped x in
      let q = shaped y in
      let r = shaped s in
      node _ refl (rw i.fits (both p.fits (both q.fits r.fits))) (before _ _ i.all (kids_three p q r))
  shaped (rule.for_expression f x y s) =
      let i = shaped f in
      let p = shaped x in
      let q = shaped y in
      let r = shaped s in
      node _ refl (both (first_of (kid i) i.fits) (both p.fits (both q.fits r.fits))) (before _ _ i.all (kids_three p q r))
  shaped rule.break_of = node _ refl refl no_trees
  shaped rule.continue_of = node _ refl refl no_trees
  shaped rule.return_nothing = node _ refl refl no_trees
  shaped (rule.return_value x) = let p = shaped x in node _ refl p.fits p.all
  shaped (rule.switch_of x ts) = let p = shaped x in let r = shaped_row ts in node _ refl (both p.fits r.fits) (kids_then p r)
  shaped (rule.case_label x) = let p = shaped x in node _ refl p.fits p.all
  shaped rule.default_label = node _ refl refl no_trees
  -- expressions
  shaped rule.absent = node _ refl refl no_trees
  shaped (rule.present x) = let p = shaped x in raised p (optional_of (kid p) p.fits)
  shaped (rule.single_expression x) = let p = shaped x in raised p (within_more 15 16 (kid p) (omega arith) p.fits)
  shaped (rule.comma l r) = let p = shaped l in let q = shaped r in node _ refl (both p.fits q.fits) (kids_two p q)
  shaped (rule.assigned {op = op} l e r) = let p = shaped l in let q = shaped r in node _ refl (both (assignment_mark op e) (both p.fits q.fits)) (kids_two p q)
  shaped (rule.unassigned x) = let p = shaped x in raised p (within_more 14 15 (kid p) (omega arith) p.fits)
  shaped (rule.unconditional x) = let p = shaped x in raised p (within_more 13 14 (kid p) (omega arith) p.fits)
  shaped (rule.choice x y z) =
      let p = shaped x in
      let q = shaped y in
      let r = shaped z in
      node _ refl (both p.fits (both q.fits r.fits)) (kids_three p q r)
  shaped (rule.chain {n = n} {op = op} l e r) =
      let p = shaped l in
      let q = shaped r in
      let level = level_of_mark op ∙ e in
      node _ (chain_within n (mark_text op) level)
      (both (some_level n (mark_text op) level) (both (left_operand n (mark_text op) (kid p) level p.fits) (right_operand n (mark_text op) (kid q) level q.fits)))
      (kids_two p q)
  shaped (rule.tighter {n = n} x) = let p = shaped x in raised p (within_more (cast_level + n) (cast_level + suc n) (kid p) (omega arith) p.fits)
  shaped (rule.tightest x) = let p = shaped x in raised p p.fits
  shaped (rule.cast_to t x) = let p = shaped t in let q = shaped x in node _ refl (rw p.fits q.fits) (kids_two p q)
  shaped (rule.uncast x) = let p = shaped x in raised p (within_more 2 3 (kid p) (omega arith) p.fits)
  shaped (rule.increment x) = let p = shaped x in node _ refl p.fits p.all
  shaped (rule.decrement x) = let p = shaped x in node _ refl p.fits p.all
  shaped (rule.operator {op = op} e x) = let p = shaped x in node _ refl (both (unary_mark op e) (rw (no_increment op e) p.fits)) p.all
  shaped (rule.size_of_expression x) = let p = shaped x in node _ refl p.fits p.all
  shaped (rule.size_of_type t) = let p = shaped t in node _ refl (rw p.fits refl) p.all
  shaped (rule.plain x) = let p = shaped x in raised p (within_more 1 2 (kid p) (omega arith) p.fits)
  shaped (rule.primary_of x) = let p = shaped x in raised p (within_more 0 1 (kid p) (omega arith) p.fits)
  shaped (rule.index x y) = let p = shaped x in let q = shaped y in node _ refl (both p.fits q.fits) (kids_two p q)
  shaped (rule.call x ts) = let p = shaped x in let r = shaped_row ts in node _ refl (both p.fits r.fits) (kids_then p r)
  shaped (rule.dot x e) = let p = shaped x in node _ refl (both e p.fits) p.all
  shaped (rule.arrow x e) = let p = shaped x in node _ refl (both e p.fits) p.all
  shaped (rule.post_increment x) = let p = shaped x in node _ refl p.fits p.all
  shaped (rule.post_decrement x) = let p = shaped x in node _ refl p.fits p.all
  shaped (rule.variable e f) = node _ refl (both e refl) no_trees
  shaped rule.integer_constant = node _ refl refl no_trees
  shaped rule.character_constant = node _ refl refl no_trees
  shaped (rule.string_literal l) = node _ refl refl no_trees
  shaped (rule.in_parentheses x) =
      let p = shaped x in
      node _ (ap (is_within 0) (parenthesized (kid p) p.fits)) (within_parentheses (kid p) p.fits) p.all

  shaped_row : {names : Names} {row : Row} {a b : List Token} {ts : Forest} → Lists names row a b ts → ShapedRow row ts
  shaped_row (rule.last_external t) = let p = shaped t in last p (both p.fits refl)
  shaped_row (rule.more_externals t ts) = let p = shaped t in let r = shaped_row ts in more p r (one_more is_external (kid p) (kids r) p.fits r.fits)
  shaped_row (rule.last_init_declarator t) = let p = shaped t in last p (both p.fits refl)
  shaped_row (rule.more_init_declarators t ts) = let p = shaped t in let r = shaped_row ts in more p r (one_more is_init_declarator (kid p) (kids r) p.fits r.fits)
  shaped_row (rule.last_initializer t) = let p = shaped t in last p (both p.fits refl)
  shaped_row (rule.last_initializer_with_comma t) = let p = shaped t in last p (both p.fits refl)
  shaped_row (rule.more_initializers t ts) = let p = shaped t in let r = shaped_row ts in more p r (one_more is_initializer (kid p) (kids r) p.fits r.fits)
  shaped_row (rule.last_specifier t e) = let p = shaped t in last p (p.fits [], refl)
  shaped_row (rule.more_specifiers t ts) = let p = shaped t in let r = shaped_row ts in more p r (p.fits (kids r) ∙ r.fits.0, refl)
  shaped_row (rule.last_member t) = let p = shaped t in last p (both p.fits refl)
  shaped_row (rule.more_members t ts) = let p = shaped t in let r = shaped_row ts in more p r (one_more is_member (kid p) (kids r) p.fits r.fits)
  shaped_row (rule.last_declarator t) = let p = shaped t in last p (rw p.fits refl)
  shaped_row (rule.more_declarators t ts) = let p = shaped t in let r = shaped_row ts in more p r (one_more is_declarator (kid p) (kids r) (ap is_declarator p.fits) r.fits)
  shaped_row (rule.last_enumerator t) = let p = shaped t in last p (both p.fits refl)
  shaped_row (rule.last_enumerator_with_comma t) = let p = shaped t in last p (both p.fits refl)
  shaped_row (rule.more_enumerators t ts) = let p = shaped t in let r = shaped_row ts in more p r (one_more is_enumerator (kid p) (kids r) p.fits r.fits)
  shaped_row (rule.last_parameter t) = let p = shaped t in last p (both p.fits refl)
  shaped_row (rule.more_parameters t ts) = let p = shaped t in let r = shaped_row ts in more p r (one_more is_parameter (kid p) (kids r) p.fits r.fits)
  shaped_row rule.no_length = record { fits = refl; all = no_trees }
  shaped_row (rule.a_length t) = let p = shaped t in last p p.fits
  shaped_row rule.no_items = record { fits = refl; all = no_trees }
  shaped_row (rule.declaration_first t ts) = let p = shaped t in let r = shaped_row ts in more p r (rw p.fits r.fits)
  shaped_row (rule.statement_first t ts) = let p = shaped t in let r = shaped_row ts in more p r (both (item_of (kid p) p.fits) r.fits)
  shaped_row (rule.no_more_groups e) = record { fits = e; all = no_trees }
  shaped_row (rule.label_first t ts) = let p = shaped t in let r = shaped_row ts in more p r (rw p.fits r.fits)
  shaped_row (rule.labelled_statement {standing = standing} e t ts) = let p = shaped t in let r = shaped_row ts in more p r (labelled standing (kid p) (kids r) e p.fits r.fits)
  shaped_row rule.no_arguments = record { fits = refl; all = no_trees }
  shaped_row (rule.some_arguments ts) = let r = shaped_row ts in record { fits = r.fits; all = r.all }
  shaped_row (rule.last_argument t) = let p = shaped t in last p (both p.fits refl)
  shaped_row (rule.more_arguments t ts) = let p = shaped t in let r = shaped_row ts in more p r (both p.fits r.fits)

pub all_shaped : (tokens : List Token) (t : Tree) → IsTreeOf tokens t → are_shaped (one t) ≡ true
all_shaped tokens t derived = (shaped derived).all

pub root_is_unit : (tokens : List Token) (t : Tree) → IsTreeOf tokens t → category_of t ≡ category.unit
root_is_unit tokens t derived = (shaped derived).fits
