-- The identifiers of a derived tree are read by the names before them: by induction on the derivation, a case for each rule.
use Rattle.std.proofs.Common.{◌≡◌, Bool, true, false, not, ◌&&◌, ◌||◌, List, [], ◌∷◌, refl, sym, ap, subst, append-nil, true≢false}
use Rattle.c_lexer.specs.declared.token.Token.{Token}
use Rattle.c_syntax.specs.Trees.{Tree, Forest, none, ◌then◌, one}
use Rattle.c_grammar.specs.Vocabulary.{is_type_word, is_storage_word}
use Rattle.c_grammar.specs.Scopes.{Names, add, is_typedef_name}
use Rattle.c_grammar.specs.Derivation as rule
use Rattle.c_grammar.specs.Derivation.{Part, Row, Derives, Lists, IsTreeOf}
use Rattle.c_typing.specs.Shapes as role
use Rattle.c_typing.specs.Shapes.{Role, first_role, next_role, names_inside, names_behind, is_read_by, are_read_by, IsReadByNames}
use Rattle.c_typing.proofs.ShapesBase.{both}

-- a tree with this role, and trees in a row
pub record Read (role : Role) (names : Names) (t : Tree) : Type 0 where
  ok : are_read_by role names (one t) ≡ true

pub record ReadAll (role : Role) (names : Names) (ts : Forest) : Type 0 where
  ok : are_read_by role names ts ≡ true

abbrev role_of : Part → Role
role_of (rule.init_declarator is_typedef) = role.declared is_typedef
role_of part = role.in_row

abbrev row_role : Row → Role
row_role (rule.init_declarators is_typedef) = role.declared is_typedef
row_role rule.parameters = role.taken
row_role row = role.in_row

nothing : {role : Role} {names : Names} → ReadAll role names none
unfolding are_read_by
nothing = record { ok = refl }

-- a node over kids
node : {role : Role} {names : Names} (t : Tree) → is_read_by names t.label.kind t.label.text ≡ true
    → ReadAll (first_role role t.label.kind) (names_inside role t.label.kind names) t.kids → Read role names t
unfolding are_read_by
node t e ts = record { ok = both e (both ts.ok refl) }

split_three : (p q r : Bool) → p && (q && true) ≡ true → r ≡ true → p && (q && r) ≡ true
split_three true true r e f = f
split_three true false r e f = absurd (true≢false (sym e))
split_three false q r e f = absurd (true≢false (sym e))

-- the role makes no difference to what stands inside
abbrev is_plain : Role → Bool
is_plain role.function_body = false
is_plain (role.declared is_typedef) = false
is_plain other = true

behind : (own : Role) {names : Names} {t : Tree} {rest : Forest} → is_plain own ≡ true → Read role.in_row names t
    → ReadAll (next_role own t) (names_behind own names t) rest → ReadAll own names (t then rest)
unfolding are_read_by
behind role.in_row e p ts = record { ok = split_three _ _ _ p.ok ts.ok }
behind role.function_specifiers e p ts = record { ok = split_three _ _ _ p.ok ts.ok }
behind role.function_declarator e p ts = record { ok = split_three _ _ _ p.ok ts.ok }
behind role.declaration_specifiers e p ts = record { ok = split_three _ _ _ p.ok ts.ok }
behind (role.declared_name is_typedef) e p ts = record { ok = split_three _ _ _ p.ok ts.ok }
behind role.taking e p ts = record { ok = split_three _ _ _ p.ok ts.ok }
behind role.taken e p ts = record { ok = split_three _ _ _ p.ok ts.ok }
behind role.switched e p ts = record { ok = split_three _ _ _ p.ok ts.ok }
behind _ e p ts = absurd (true≢false (sym e))

-- one declarator behind another
declared_behind : {is_typedef : Bool} {names : Names} {t : Tree} {rest : Forest} → Read (role.declared is_typedef) names t
    → ReadAll (role.declared is_typedef) (names_behind (role.declared is_typedef) names t) rest → ReadAll (role.declared is_typedef) names (t then rest)
unfolding are_read_by
declared_behind p ts = record { ok = split_three _ _ _ p.ok ts.ok }

alone : {role : Role} {names : Names} {t : Tree} → Read role names t → ReadAll role names (one t)
alone p = record { ok = p.ok }

in_order : {names : Names} {t : Tree} {rest : Forest} → Read role.in_row names t → ReadAll role.in_row (names_behind role.in_row names t) rest → ReadAll role.in_row names (t then rest)
in_order p ts = behind role.in_row refl p ts

word_read : (type storage named : Bool) → type || storage ≡ true → type || storage || named ≡ true
word_read true storage named e = refl
word_read false true named e = refl
word_read false false named e = absurd (true≢false (sym e))

name_read : (type storage named : Bool) → named ≡ true → type || storage || named ≡ true
name_read true storage named e = refl
name_read false true named e = refl
name_read false false named e = e

add_nothing : (names : Names) → add names [] ≡ names
add_nothing [] = refl
add_nothing (scope ∷ outer) = ap (λ own. own ∷ outer) (append-nil scope)

mutual
  read : {names : Names} {part : Part} {a b : List Token} {t : Tree} → Derives names part a b t → Read (role_of part) names t
  read (rule.unit_of ts) = node _ refl (read_all ts)
  read (rule.function s d items) = node _ refl (behind role.function_specifiers refl (read s) (behind role.function_declarator refl (read d) (alone (node _ refl (read_all items)))))
  read (rule.declared t) = read t
  read (rule.bare_declaration s) = node _ refl (behind role.declaration_specifiers refl (read s) nothing)
  read (rule.full_declaration s ds) = node _ refl (behind role.declaration_specifiers refl (read s) (read_all ds))
  read (rule.uninitialized {is_typedef = is_typedef} d) = node _ refl (behind (role.declared_name is_typedef) refl (read d) nothing)
  read (rule.initialized {is_typedef = is_typedef} d i) = node _ refl (behind (role.declared_name is_typedef) refl (read d) (alone (read i)))
  read (rule.initial_value t) = read t
  read (rule.braces ts) = node _ refl (read_all ts)
  read (rule.specs ts) = node _ refl (read_all ts)
  read (rule.specifier_word {text = text} {names = names} e) = node _ (word_read (is_type_word text) (is_storage_word text) (is_typedef_name names text) e) nothing
  read (rule.typedef_name {text = text} {names = names} e f) = node _ (name_read (is_type_word text) (is_storage_word text) (is_typedef_name names text) f) nothing
  read (rule.struct_of t) = read t
  read (rule.enum_of t) = read t
  read (rule.struct_without_tag ms) = node _ refl (read_all ms)
  read (rule.struct_with_tag e ms) = node _ refl (read_all ms)
  read (rule.struct_tag e) = node _ refl nothing
  read (rule.member_of s ds) = node _ refl (in_order (read s) (read_all ds))
  read (rule.enum_without_tag ms) = node _ refl (read_all ms)
  read (rule.enum_with_tag e ms) = node _ refl (read_all ms)
  read (rule.enum_tag e) = node _ refl nothing
  read (rule.enumerator_name e) = node _ refl nothing
  read (rule.enumerator_value e v) = node _ refl (alone (read v))
  read (rule.pointer q d) = node _ refl (alone (read d))
  read (rule.direct d) = read d
  read (rule.declared_name e) = node _ refl nothing
  read (rule.declarator_in_parentheses d) = node _ refl (alone (read d))
  read (rule.array_of d n) = node _ refl (in_order (read d) (read_all n))
  read (rule.takes_anything d) = node _ refl (behind role.taking refl (read d) nothing)
  read (rule.takes_void d) = node _ refl (behind role.taking refl (read d) nothing)
  read (rule.takes d ps e) = node _ refl (behind role.taking refl (read d) (read_all ps))
  read (rule.named_parameter x y) = node _ refl (in_order (read x) (alone (read y)))
  read (rule.abstract_parameter x y) = node _ refl (in_order (read x) (alone (read y)))
  read (rule.derived_type x y) = node _ refl (in_order (read x) (alone (read y)))
  read (rule.bare_parameter x) = node _ refl (in_order (read x) (alone (node _ refl nothing)))
  read (rule.bare_type x) = node _ refl (in_order (read x) (alone (node _ refl nothing)))
  read (rule.abstract_pointer q d) = node _ refl (alone (read d))
  read (rule.bare_pointer q) = node _ refl (alone (node _ refl nothing))
  read (rule.direct_of d) = read d
  read (rule.abstract_in_parentheses d) = node _ refl (alone (read d))
  read (rule.bare_array {names = names} {n = n} ns) = node _ refl (in_order (node _ refl nothing) (subst (λ before. ReadAll role.in_row before n) (sym (add_nothing names)) (read_all ns)))
  read (rule.abstract_array d n) = node _ refl (in_order (read d) (read_all n))
  read (rule.block_of ts) = node _ refl (read_all ts)
  read (rule.block_statement t) = read t
  read rule.empty_statement = node _ refl nothing
  read (rule.expression_statement x) = node _ refl (alone (read x))
  read (rule.if_then x y) = node _ refl (in_order (read x) (alone (read y)))
  read (rule.if_else x y e z) = node _ refl (in_order (read x) (in_order (read y) (alone (read z))))
  read (rule.while_do x y) = node _ refl (in_order (read x) (alone (read y)))
  read (rule.do_while x y) = node _ refl (in_order (read x) (alone (read y)))
  read (rule.for_declaration f x y s) = node _ refl (in_order (read f) (in_order (read x) (in_order (read y) (alone (read s)))))
  read (rule.for_expression f x y s) = node _ refl (in_order (read f) (in_order (read x) (in_order (read y) (alone (read s)))))
  read rule.break_of = node _ refl nothing
  read rule.continue_of = node _ refl nothing
  read rule.return_nothing = node _ refl nothing
  read (rule.return_value x) = node _ refl (alone (read x))
  read (rule.switch_of x ts) = node _ refl (behind role.switched refl (read x) (read_all ts))
  read (rule.case_label x) = node _ refl (alone (read x))
  read rule.default_label = node _ refl nothing
  read rule.absent = node _ refl nothing
  read (rule.present x) = read x
  read (rule.single_expression x) = read x
  read (rule.unassigned x) = read x
  read (rule.unconditional x) = read x
  read (rule.tighter x) = read x
  read (rule.tightest x) = read x
  read (rule.uncast x) = read x
  read (rule.plain x) = read x
  read (rule.primary_of x) = read x
  read (rule.comma x y) = node _ refl (in_order (read x) (alone (read y)))
  read (rule.assigned x e y) = node _ refl (in_order (read x) (alone (read y)))
  read (rule.choice x y z) = node _ refl (in_order (read x) (in_order (read y) (alone (read z))))
  read (rule.chain x e y) = node _ refl (in_order (read x) (alone (read y)))
  read (rule.cast_to x y) = node _ refl (in_order (read x) (alone (read y)))
  read (rule.increment x) = node _ refl (alone (read x))
  read (rule.decrement x) = node _ refl (alone (read x))
  read (rule.size_of_expression x) = node _ refl (alone (read x))
  read (rule.size_of_type x) = node _ refl (alone (read x))
  read (rule.post_increment x) = node _ refl (alone (read x))
  read (rule.post_decrement x) = node _ refl (alone (read x))
  read (rule.in_parentheses x) = node _ refl (alone (read x))
  read (rule.operator e x) = node _ refl (alone (read x))
  read (rule.index x y) = node _ refl (in_order (read x) (alone (read y)))
  read (rule.call x ts) = node _ refl (in_order (read x) (read_all ts))
  read (rule.dot x e) = node _ refl (alone (read x))
  read (rule.arrow x e) = node _ refl (alone (read x))
  read (rule.variable e f) = node _ (ap not f) nothing
  read rule.integer_constant = node _ refl nothing
  read rule.character_constant = node _ refl nothing
  read (rule.string_literal l) = node _ refl nothing

  read_all : {names : Names} {row : Row} {a b : List Token} {ts : Forest} → Lists names row a b ts → ReadAll (row_role row) names ts
  read_all (rule.last_external t) = alone (read t)
  read_all (rule.last_initializer t) = alone (read t)
  read_all (rule.last_initializer_with_comma t) = alone (read t)
  read_all (rule.last_member t) = alone (read t)
  read_all (rule.last_declarator t) = alone (read t)
  read_all (rule.last_enumerator t) = alone (read t)
  read_all (rule.last_enumerator_with_comma t) = alone (read t)
  read_all (rule.last_argument t) = alone (read t)
  read_all (rule.last_init_declarator t) = alone (read t)
  read_all (rule.last_specifier t e) = alone (read t)
  read_all (rule.last_parameter t) = behind role.taken refl (read t) nothing
  read_all (rule.more_externals t ts) = in_order (read t) (read_all ts)
  read_all (rule.more_initializers t ts) = in_order (read t) (read_all ts)
  read_all (rule.more_specifiers t ts) = in_order (read t) (read_all ts)
  read_all (rule.more_members t ts) = in_order (read t) (read_all ts)
  read_all (rule.more_declarators t ts) = in_order (read t) (read_all ts)
  read_all (rule.more_enumerators t ts) = in_order (read t) (read_all ts)
  read_all (rule.more_arguments t ts) = in_order (read t) (read_all ts)
  read_all (rule.more_init_declarators t ts) = declared_behind (read t) (read_all ts)
  read_all (rule.more_parameters t ts) = behind role.taken refl (read t) (read_all ts)
  read_all rule.no_length = nothing
  read_all (rule.a_length t) = alone (read t)
  read_all rule.no_items = nothing
  read_all (rule.declaration_first t ts) = in_order (read t) (read_all ts)
  read_all (rule.statement_first t ts) = in_order (read t) (read_all ts)
  read_all (rule.label_first t ts) = in_order (read t) (read_all ts)
  read_all (rule.no_more_groups e) = nothing
  read_all (rule.labelled_statement e t ts) = in_order (read t) (read_all ts)
  read_all rule.no_arguments = nothing
  read_all (rule.some_arguments ts) = read_all ts

pub all_read : (tokens : List Token) (t : Tree) → IsTreeOf tokens t → IsReadByNames t
all_read tokens t derived = (read derived).ok
