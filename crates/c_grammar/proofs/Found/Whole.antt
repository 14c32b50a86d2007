-- Every derivation is read: the cases put together.
use Rattle.std.proofs.Common.{List}
use Rattle.c_lexer.specs.declared.token.Token.{Token}
use Rattle.c_syntax.specs.Trees.{Tree, Forest}
use Rattle.c_grammar.specs.Scopes.{Names}
use Rattle.c_grammar.specs.Derivation as rule
use Rattle.c_grammar.specs.Derivation.{Part, Row, Derives, Lists}
use Rattle.c_grammar.proofs.Found.Claims.{Complete, CompleteRow}
use Rattle.c_grammar.proofs.Found.TypeRows.{c_specs, c_member_of, c_enumerator_name, c_enumerator_value, c_last_specifier, c_more_specifiers, c_last_member, c_more_members, c_last_declarator, c_more_declarators, c_last_enumerator, c_last_enumerator_with_comma, c_more_enumerators, c_last_parameter, c_more_parameters, c_no_length, c_a_length}
use Rattle.c_grammar.proofs.Found.Specs.{c_specifier_word, c_typedef_name, c_struct_of, c_enum_of, c_struct_without_tag, c_struct_with_tag, c_struct_tag, c_enum_without_tag, c_enum_with_tag, c_enum_tag}
use Rattle.c_grammar.proofs.Found.DeclaratorCases.{c_pointer, c_direct, c_declared_name, c_declarator_in_parentheses, c_array_of, c_takes_anything, c_takes_void, c_takes, c_abstract_pointer, c_bare_pointer, c_direct_of, c_abstract_in_parentheses, c_bare_array, c_abstract_array}
use Rattle.c_grammar.proofs.Found.Parameters.{c_named_parameter, c_abstract_parameter, c_bare_parameter, c_derived_type, c_bare_type}
use Rattle.c_grammar.proofs.Found.Expressions.{c_variable, c_integer_constant, c_character_constant, c_string_literal, c_in_parentheses, c_primary_of, c_index, c_call, c_dot, c_arrow, c_post_increment, c_post_decrement}
use Rattle.c_grammar.proofs.Found.Operators.{c_plain, c_increment, c_decrement, c_operator, c_size_of_expression, c_size_of_type, c_cast_to, c_uncast, c_tightest, c_tighter, c_chain, c_unconditional, c_choice, c_assigned, c_unassigned, c_single_expression, c_comma}
use Rattle.c_grammar.proofs.Found.Statements as s
use Rattle.c_grammar.proofs.Found.ForStatements as f
use Rattle.c_grammar.proofs.Found.StatementRows as r
use Rattle.c_grammar.proofs.Found.Declarations as d
use Rattle.c_grammar.proofs.Found.Externals as e

mutual
  pub complete : {names : Names} {part : Part} {a b : List Token} {t : Tree} → Derives names part a b t → Complete names part a b t
  complete (rule.unit_of ts) = tt
  complete (rule.function d x items) = e.c_function _ _ _ _ _ _ x (complete d) (complete x) (complete_row items)
  complete (rule.declared (rule.bare_declaration s)) = e.c_declared_bare _ _ _ _ _ (complete s)
  complete (rule.declared (rule.full_declaration s (rule.last_init_declarator (rule.uninitialized x)))) = e.c_declared_last _ _ _ x (complete s) (complete x)
  complete (rule.declared (rule.full_declaration s (rule.last_init_declarator (rule.initialized x i)))) = e.c_declared_last_value _ _ _ x (complete s) (complete x) (complete i)
  complete (rule.declared (rule.full_declaration s (rule.more_init_declarators (rule.uninitialized x) ds))) = e.c_declared_more _ _ _ x (complete s) (complete x) (complete_row ds)
  complete (rule.declared (rule.full_declaration s (rule.more_init_declarators (rule.initialized x i) ds))) = e.c_declared_more_value _ _ _ x (complete s) (complete x) (complete i) (complete_row ds)
  complete (rule.bare_declaration s) = d.c_bare_declaration _ _ _ _ _ (complete s)
  complete (rule.full_declaration s ds) = d.c_full_declaration _ _ _ ds (complete s) (complete_row ds)
  complete (rule.uninitialized x) = d.c_uninitialized _ _ _ _ _ (complete x)
  complete (rule.initialized x i) = d.c_initialized _ _ _ _ _ _ _ _ (complete x) (complete i)
  complete (rule.initial_value x) = d.c_initial_value x (complete x)
  complete (rule.braces ts) = d.c_braces _ ts (complete_row ts)
  complete (rule.block_of ts) = s.c_block_of _ _ _ _ _ _ (complete_row ts)
  complete (rule.block_statement x) = s.c_block_statement x (complete x)
  complete rule.empty_statement = s.c_empty_statement _ _ _
  complete (rule.expression_statement x) = s.c_expression_statement x (complete x)
  complete (rule.if_then x t) = s.c_if_then _ _ _ _ _ _ _ _ _ (complete x) (complete t)
  complete (rule.if_else x t h u) = s.c_if_else _ _ _ _ _ _ _ _ _ _ _ _ (complete x) (complete t) h (complete u)
  complete (rule.while_do x t) = s.c_while_do _ _ _ _ _ _ _ _ _ (complete x) (complete t)
  complete (rule.do_while t x) = s.c_do_while _ _ _ _ _ _ _ _ _ _ _ (complete t) (complete x)
  complete (rule.for_declaration g x y t) = f.c_for_declaration _ _ _ _ _ _ _ _ _ _ g (complete g) (complete x) (complete y) (complete t)
  complete (rule.for_expression g x y t) = f.c_for_expression _ _ _ _ _ _ _ _ _ _ g (complete g) (complete x) (complete y) (complete t)
  complete (rule.switch_of x ts) = s.c_switch_of _ _ _ _ _ _ _ _ _ _ _ (complete x) (complete_row ts)
  complete (rule.case_label x) = s.c_case_label _ _ _ _ _ _ (complete x)
  complete rule.default_label = s.c_default_label _ _ _ _
  complete rule.break_of = s.c_break_of _ _ _ _
  complete rule.continue_of = s.c_continue_of _ _ _ _
  complete rule.return_nothing = s.c_return_nothing _ _ _ _
  complete (rule.return_value x) = s.c_return_value _ x (complete x)
  complete rule.absent = f.c_absent _ _
  complete (rule.present x) = f.c_present x (complete x)
  complete (rule.specs {names = names} {a = a} {b = b} {ts = ts} x0) = c_specs names a b ts x0 (complete_row x0)
  complete (rule.specifier_word {text = text} {names = names} {typed = typed} {at = at} {b = b} x0) = c_specifier_word text names typed at b x0
  complete (rule.typedef_name {text = text} {names = names} {at = at} {b = b} x0 x1) = c_typedef_name text names at b x0 x1
  complete (rule.struct_of {names = names} {a = a} {b = b} {t = t} {typed = typed} x0) = c_struct_of names a b t typed (complete x0)
  complete (rule.enum_of {names = names} {a = a} {b = b} {t = t} {typed = typed} x0) = c_enum_of names a b t typed (complete x0)
  complete (rule.struct_without_tag {names = names} {a = a} {b = b} {at3 = at3} {at = at} {at2 = at2} {ms = ms} x0) = c_struct_without_tag names a b at3 at at2 ms x0 (complete_row x0)
  complete (rule.struct_with_tag {text = text} {names = names} {a = a} {b = b} {at4 = at4} {at = at} {at2 = at2} {at3 = at3} {ms = ms} x0 x1) = c_struct_with_tag text names a b at4 at at2 at3 ms x0 x1 (complete_row x1)
  complete (rule.struct_tag {text = text} {names = names} {at = at} {at2 = at2} {b = b} x0) = c_struct_tag text names at at2 b x0
  complete (rule.member_of {names = names} {a = a} {b = b} {c = c} {s = s} {at = at} {ds = ds} x0 x1) = c_member_of names a b c s at ds (complete x0) x1 (complete_row x1)
  complete (rule.enum_without_tag {names = names} {a = a} {b = b} {at3 = at3} {at = at} {at2 = at2} {es = es} x0) = c_enum_without_tag names a b at3 at at2 es x0 (complete_row x0)
  complete (rule.enum_with_tag {text = text} {names = names} {a = a} {b = b} {at4 = at4} {at = at} {at2 = at2} {at3 = at3} {es = es} x0 x1) = c_enum_with_tag text names a b at4 at at2 at3 es x0 x1 (complete_row x1)
  complete (rule.enum_tag {text = text} {names = names} {at = at} {at2 = at2} {b = b} x0) = c_enum_tag text names at at2 b x0
  complete (rule.enumerator_name {text = text} {names = names} {at = at} {b = b} x0) = c_enumerator_name text names at b x0
  complete (rule.enumerator_value {text = text} {names = names} {a = a} {b = b} {v = v} {at = at} {at2 = at2} x0 x1) = c_enumerator_value text names a b v at at2 x0 (complete x1)
  complete (rule.pointer {a = a} {b = b} {c = c} {names = names} {d = y} {at = at} x0 x1) = c_pointer a b c names y at x0 x1 (complete x1)
  complete (rule.direct {names = names} {a = a} {b = b} {d = y} x0) = c_direct names a b y (complete x0)
  complete (rule.declared_name {text = text} {names = names} {at = at} {b = b} x0) = c_declared_name text names at b x0
  complete (rule.declarator_in_parentheses {names = names} {a = a} {b = b} {at2 = at2} {at = at} {d = y} x0) = c_declarator_in_parentheses names a b at2 at y (complete x0)
  complete (rule.array_of {names = names} {a = a} {b = b} {c = c} {at = at} {at2 = at2} {d = y} {n = n} x0 x1) = c_array_of names a b c at at2 y n (complete x0) (complete_row x1)
  complete (rule.takes_anything {names = names} {a = a} {b = b} {at = at} {at2 = at2} {d = y} x0) = c_takes_anything names a b at at2 y (complete x0)
  complete (rule.takes_void {names = names} {a = a} {b = b} {at = at} {at2 = at2} {at3 = at3} {d = y} x0) = c_takes_void names a b at at2 at3 y (complete x0)
  complete (rule.takes {names = names} {a = a} {b = b} {c = c} {at = at} {at2 = at2} {d = y} {ps = ps} x0 x1 x2) = c_takes names a b c at at2 y ps (complete x0) x1 (complete_row x1) x2
  complete (rule.named_parameter {names = names} {a = a} {b = b} {c = c} {s = s} {d = y} x0 x1) = c_named_parameter names a b c s y (complete x0) x1 (complete x1)
  complete (rule.abstract_parameter {names = names} {a = a} {b = b} {c = c} {s = s} {d = y} x0 x1) = c_abstract_parameter names a b c s y (complete x0) x1 (complete x1)
  complete (rule.bare_parameter {names = names} {a = a} {b = b} {s = s} x0) = c_bare_parameter names a b s (complete x0)
  complete (rule.derived_type {names = names} {a = a} {b = b} {c = c} {s = s} {d = y} x0 x1) = c_derived_type names a b c s y (complete x0) x1 (complete x1)
  complete (rule.bare_type {names = names} {a = a} {b = b} {s = s} x0) = c_bare_type names a b s (complete x0)
  complete (rule.abstract_pointer {a = a} {b = b} {c = c} {names = names} {d = y} {at = at} x0 x1) = c_abstract_pointer a b c names y at x0 x1 (complete x1)
  complete (rule.bare_pointer {a = a} {b = b} {names = names} {at = at} x0) = c_bare_pointer a b names at x0
  complete (rule.direct_of {names = names} {a = a} {b = b} {d = y} x0) = c_direct_of names a b y (complete x0)
  complete (rule.abstract_in_parentheses {names = names} {a = a} {b = b} {at2 = at2} {at = at} {d = y} x0) = c_abstract_in_parentheses names a b at2 at y (complete x0)
  complete (rule.bare_array {names = names} {a = a} {b = b} {at2 = at2} {at = at} {n = n} x0) = c_bare_array names a b at2 at n (complete_row x0)
  complete (rule.abstract_array {names = names} {a = a} {b = b} {c = c} {at = at} {at2 = at2} {d = y} {n = n} x0 x1) = c_abstract_array names a b c at at2 y n (complete x0) (complete_row x1)
  complete (rule.single_expression {names = names} {a = a} {b = b} {x = x} p) = c_single_expression names a b x (complete p)
  complete (rule.comma {names = names} {a = a} {b = b} {c = c} {at = at} {l = l} {r = r} p q) = c_comma names a b c at l r (complete p) (complete q)
  complete (rule.assigned {names = names} {a = a} {b = b} {c = c} {op = op} {at = at} {l = l} {r = r} p e q) = c_assigned names a b c op at l r p (complete p) e (complete q)
  complete (rule.unassigned {names = names} {a = a} {b = b} {x = x} p) = c_unassigned names a b x (complete p)
  complete (rule.unconditional {names = names} {a = a} {b = b} {x = x} p) = c_unconditional names a b x (complete p)
  complete (rule.choice {names = names} {a = a} {b = b} {c = c} {d = d} {at = at} {at2 = at2} {x = x} {y = y} {z = z} p q s) = c_choice names a b c d at at2 x y z (complete p) (complete q) (complete s)
  complete (rule.chain {names = names} {n = n} {a = a} {b = b} {c = c} {op = op} {at = at} {l = l} {r = r} p e q) = c_chain names n a b c op at l r (complete p) e (complete q)
  complete (rule.tighter {names = names} {n = n} {a = a} {b = b} {x = x} p) = c_tighter names n a b x (complete p)
  complete (rule.tightest {names = names} {a = a} {b = b} {x = x} p) = c_tightest names a b x (complete p)
  complete (rule.cast_to {names = names} {a = a} {b = b} {c = c} {at2 = at2} {at = at} {t = t} {x = x} p q) = c_cast_to names a b c at2 at t x p (complete p) (complete q)
  complete (rule.uncast {names = names} {a = a} {b = b} {x = x} p) = c_uncast names a b x (complete p)
  complete (rule.increment {names = names} {a = a} {b = b} {x = x} {at = at} p) = c_increment {names = names} {a = a} {b = b} {x = x} {at = at} (complete p)
  complete (rule.decrement {names = names} {a = a} {b = b} {x = x} {at = at} p) = c_decrement {names = names} {a = a} {b = b} {x = x} {at = at} (complete p)
  complete (rule.operator {op = op} {names = names} {a = a} {b = b} {x = x} {at = at} e p) = c_operator {op = op} {names = names} {a = a} {b = b} {x = x} {at = at} e (complete p)
  complete (rule.size_of_expression {names = names} {a = a} {b = b} {x = x} {at = at} p) = c_size_of_expression {names = names} {a = a} {b = b} {x = x} {at = at} (complete p)
  complete (rule.size_of_type {names = names} {a = a} {b = b} {at3 = at3} {at = at} {at2 = at2} {t = t} p) = c_size_of_type {names = names} {a = a} {b = b} {at3 = at3} {at = at} {at2 = at2} {t = t} p (complete p)
  complete (rule.plain {names = names} {a = a} {b = b} {x = x} p) = c_plain {names = names} {a = a} {b = b} {x = x} (complete p)
  complete (rule.primary_of {names = names} {a = a} {b = b} {x = x} p) = c_primary_of {names = names} {a = a} {b = b} {x = x} (complete p)
  complete (rule.index {names = names} {a = a} {b = b} {c = c} {at = at} {at2 = at2} {x = x} {y = y} p q) = c_index {names = names} {a = a} {b = b} {c = c} {at = at} {at2 = at2} {x = x} {y = y} (complete p) (complete q)
  complete (rule.call {names = names} {a = a} {b = b} {c = c} {at = at} {at2 = at2} {x = x} {ts = ts} p q) = c_call {names = names} {a = a} {b = b} {c = c} {at = at} {at2 = at2} {x = x} {ts = ts} (complete p) (complete_row q)
  complete (rule.dot {names = names} {a = a} {b = b} {at = at} {at2 = at2} {text = text} {x = x} p e) = c_dot {names = names} {a = a} {b = b} {at = at} {at2 = at2} {text = text} {x = x} (complete p) e
  complete (rule.arrow {names = names} {a = a} {b = b} {at = at} {at2 = at2} {text = text} {x = x} p e) = c_arrow {names = names} {a = a} {b = b} {at = at} {at2 = at2} {text = text} {x = x} (complete p) e
  complete (rule.post_increment {names = names} {a = a} {b = b} {at = at} {x = x} p) = c_post_increment {names = names} {a = a} {b = b} {at = at} {x = x} (complete p)
  complete (rule.post_decrement {names = names} {a = a} {b = b} {at = at} {x = x} p) = c_post_decrement {names = names} {a = a} {b = b} {at = at} {x = x} (complete p)
  complete (rule.variable {text = text} {names = names} {at = at} {b = b} e f) = c_variable {text = text} {names = names} {at = at} {b = b} e f
  complete (rule.integer_constant {names = names} {value = value} {type = type} {at = at} {b = b}) = c_integer_constant {names = names} {value = value} {type = type} {at = at} {b = b}
  complete (rule.character_constant {names = names} {value = value} {at = at} {b = b}) = c_character_constant {names = names} {value = value} {at = at} {b = b}
  complete (rule.string_literal {bytes = bytes} {joined = joined} {at = at} {a = a} {b = b} {names = names} l) = c_string_literal {names = names} {bytes = bytes} {joined = joined} {at = at} {a = a} {b = b} l
  complete (rule.in_parentheses {names = names} {a = a} {b = b} {at2 = at2} {at = at} {x = x} p) = c_in_parentheses {names = names} {a = a} {b = b} {at2 = at2} {at = at} {x = x} p (complete p)

  pub complete_row : {names : Names} {row : Row} {a b : List Token} {ts : Forest} → Lists names row a b ts → CompleteRow names row a b ts
  complete_row (rule.last_external t) = r.c_last_external _ _ _ _ (complete t)
  complete_row (rule.more_externals t ts) = r.c_more_externals t ts (complete t) (complete_row ts)
  complete_row (rule.last_init_declarator t) = r.c_last_init_declarator _ _ _ _ _ (complete t)
  complete_row (rule.more_init_declarators t ts) = r.c_more_init_declarators _ _ t (complete t) (complete_row ts)
  complete_row (rule.last_initializer t) = r.c_last_initializer _ _ _ _ (complete t)
  complete_row (rule.last_initializer_with_comma t) = r.c_last_initializer_with_comma _ _ _ _ _ (complete t)
  complete_row (rule.more_initializers t ts) = r.c_more_initializers t ts (complete t) (complete_row ts)
  complete_row rule.no_items = r.c_no_items _ _
  complete_row (rule.declaration_first t ts) = r.c_declaration_first _ _ t (complete t) (complete_row ts)
  complete_row (rule.statement_first t ts) = r.c_statement_first t ts (complete t) (complete_row ts)
  complete_row (rule.no_more_groups h) = r.c_no_more_groups _ _ _ h
  complete_row (rule.label_first t ts) = r.c_label_first _ _ _ t (complete t) (complete_row ts)
  complete_row (rule.labelled_statement h t ts) = r.c_labelled_statement _ h t ts (complete t) (complete_row ts)
  complete_row rule.no_arguments = r.c_no_arguments _ _
  complete_row (rule.some_arguments ts) = r.c_some_arguments ts (complete_row ts)
  complete_row (rule.last_argument t) = r.c_last_argument _ _ _ _ (complete t)
  complete_row (rule.more_arguments t ts) = r.c_more_arguments _ _ t (complete t) (complete_row ts)
  complete_row (rule.last_specifier {names = names} {typed = typed} {a = a} {b = b} {t = t} x0 x1) = c_last_specifier names typed a b t (complete x0) x1
  complete_row (rule.more_specifiers {names = names} {typed = typed} {a = a} {b = b} {c = c} {t = t} {ts = ts} x0 x1) = c_more_specifiers names typed a b c t ts x0 (complete x0) x1 (complete_row x1)
  complete_row (rule.last_member {names = names} {a = a} {b = b} {t = t} x0) = c_last_member names a b t (complete x0)
  complete_row (rule.more_members {names = names} {a = a} {b = b} {c = c} {t = t} {ts = ts} x0 x1) = c_more_members names a b c t ts x0 (complete x0) x1 (complete_row x1)
  complete_row (rule.last_declarator {names = names} {a = a} {b = b} {t = t} x0) = c_last_declarator names a b t (complete x0)
  complete_row (rule.more_declarators {names = names} {a = a} {b = b} {c = c} {at = at} {t = t} {ts = ts} x0 x1) = c_more_declarators names a b c at t ts x0 (complete x0) (complete_row x1)
  complete_row (rule.last_enumerator {names = names} {a = a} {b = b} {t = t} x0) = c_last_enumerator names a b t (complete x0)
  complete_row (rule.last_enumerator_with_comma {names = names} {a = a} {b = b} {at = at} {t = t} x0) = c_last_enumerator_with_comma names a b at t (complete x0)
  complete_row (rule.more_enumerators {names = names} {a = a} {b = b} {c = c} {at = at} {t = t} {ts = ts} x0 x1) = c_more_enumerators names a b c at t ts x0 (complete x0) x1 (complete_row x1)
  complete_row (rule.last_parameter {names = names} {a = a} {b = b} {t = t} x0) = c_last_parameter names a b t (complete x0)
  complete_row (rule.more_parameters {names = names} {a = a} {b = b} {c = c} {at = at} {t = t} {ts = ts} x0 x1) = c_more_parameters names a b c at t ts x0 (complete x0) (complete_row x1)
  complete_row (rule.no_length {names = names} {b = b}) = c_no_length names b
  complete_row (rule.a_length {names = names} {a = a} {b = b} {t = t} x0) = c_a_length names a b t x0 (complete x0)
