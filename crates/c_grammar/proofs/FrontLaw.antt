-- Of the tokens behind it, a derivation depends on the first alone.
use Rattle.std.proofs.Common.{ℕ, ◌||◌, not, List, ◌∷◌, ap, ◌∙◌, subst}
use Rattle.c_lexer.specs.declared.token.Token.{Token}
use Rattle.c_lexer.specs.declared.token.Punct.TheVariants.{Star}
use Rattle.c_syntax.specs.declared.kind.SynKind.TheVariants as kind
use Rattle.c_syntax.specs.Trees.{Tree, Forest, none, one, two, plain_node, string_node}
use Rattle.c_grammar.specs.Vocabulary.{Place, mark, string}
use Rattle.c_grammar.specs.Scopes.{Names, says_type, after}
use Rattle.c_grammar.specs.Fronts.{IsFront}
use Rattle.c_grammar.specs.Derivation as rule
use Rattle.c_grammar.specs.Derivation.{Derives, Lists, Qualifiers, Literals, Part, Row, start}
use Rattle.c_grammar.proofs.FrontSteps.{front_here, front_first, front_map, front_token, front_end, front_then, front_pair, front_start, same_start, same_begin}

pub qualifiers_front : {a b : List Token} → Qualifiers a b → IsFront Qualifiers a b
qualifiers_front rule.no_qualifier = front_here (λ c e. rule.no_qualifier)
qualifiers_front (rule.qualifier q) = front_token (front_map (qualifiers_front q) (λ x y. rule.qualifier))

pub literals_front : {a b : List Token} {joined : List ℕ} → Literals a b joined → IsFront (λ x y. Literals x y joined) a b
literals_front rule.last_literal = front_token (front_here (λ c e. rule.last_literal))
literals_front (rule.more_literals l e) = front_token (front_map (literals_front l) (λ x y q. rule.more_literals q e))

-- literals as a primary
string_front : {names : Names} {bytes joined : List ℕ} {at : Place} {a b : List Token}
    → Literals (string bytes at ∷ a) b joined
    → IsFront (λ x y. Derives names rule.primary x y (string_node joined at.start)) (string bytes at ∷ a) b
string_front rule.last_literal = front_token (front_here (λ c e. rule.string_literal rule.last_literal))
string_front (rule.more_literals l e) = front_token (front_map (literals_front l) (λ x y q. rule.string_literal (rule.more_literals q e)))

-- the tree of an absent name, with this start
abbrev absent_name : ℕ → Tree
absent_name n = plain_node kind.NoName n none

mutual
  pub front_of : {names : Names} {part : Part} {a b : List Token} {t : Tree}
      → Derives names part a b t
      → IsFront (λ x y. Derives names part x y t) a b
  -- units and declarations
  front_of (rule.unit_of ts) = front_map (fronts_of ts) (λ x y. rule.unit_of)
  front_of (rule.function s d items) =
      front_then (front_of s) (front_pair (front_end (front_of d)) (front_end (fronts_of items))) (λ x y z p q. rule.function p q.1 q.2)
  front_of (rule.declared t) = front_map (front_of t) (λ x y. rule.declared)
  front_of (rule.bare_declaration s) = front_map (front_end (front_of s)) (λ x y. rule.bare_declaration)
  front_of (rule.full_declaration s ds) = front_then (front_of s) (front_end (fronts_of ds)) (λ x y z. rule.full_declaration)
  front_of (rule.uninitialized d) = front_map (front_of d) (λ x y. rule.uninitialized)
  front_of (rule.initialized d i) = front_then (front_end (front_of d)) (front_of i) (λ x y z. rule.initialized)
  front_of (rule.initial_value t) = front_map (front_of t) (λ x y. rule.initial_value)
  front_of (rule.braces ts) = front_token (front_map (front_end (fronts_of ts)) (λ x y. rule.braces))
  -- specifiers
  front_of (rule.specs ts) = front_map (fronts_of ts) (λ x y. rule.specs)
  front_of (rule.specifier_word h) = front_token (front_here (λ c e. rule.specifier_word h))
  front_of (rule.typedef_name h i) = front_token (front_here (λ c e. rule.typedef_name h i))
  front_of (rule.struct_of t) = front_map (front_of t) (λ x y. rule.struct_of)
  front_of (rule.enum_of t) = front_map (front_of t) (λ x y. rule.enum_of)
  front_of (rule.struct_without_tag ms) = front_token (front_token (front_map (front_end (fronts_of ms)) (λ x y. rule.struct_without_tag)))
  front_of (rule.struct_with_tag h ms) = front_token (front_token (front_token (front_map (front_end (fronts_of ms)) (λ x y. rule.struct_with_tag h))))
  front_of (rule.struct_tag h) = front_token (front_token (front_here (λ c e. rule.struct_tag h)))
  front_of (rule.member_of s ds) = front_then (front_of s) (front_end (fronts_of ds)) (λ x y z. rule.member_of)
  front_of (rule.enum_without_tag es) = front_token (front_token (front_map (front_end (fronts_of es)) (λ x y. rule.enum_without_tag)))
  front_of (rule.enum_with_tag h es) = front_token (front_token (front_token (front_map (front_end (fronts_of es)) (λ x y. rule.enum_with_tag h))))
  front_of (rule.enum_tag h) = front_token (front_token (front_here (λ c e. rule.enum_tag h)))
  front_of (rule.enumerator_name h) = front_token (front_here (λ c e. rule.enumerator_name h))
  front_of (rule.enumerator_value h v) = front_token (front_token (front_map (front_of v) (λ x y. rule.enumerator_value h)))
  -- declarators
  front_of (rule.pointer q d) = front_token (front_then (qualifiers_front q) (front_of d) (λ x y z. rule.pointer))
  front_of (rule.direct d) = front_map (front_of d) (λ x y. rule.direct)
  front_of (rule.declared_name h) = front_token (front_here (λ c e. rule.declared_name h))
  front_of (rule.declarator_in_parentheses d) = front_token (front_map (front_end (front_of d)) (λ x y. rule.declarator_in_parentheses))
  front_of (rule.array_of d n) = front_then (front_end (front_of d)) (front_end (fronts_of n)) (λ x y z. rule.array_of)
  front_of (rule.takes_anything d) = front_map (front_end (front_end (front_of d))) (λ x y. rule.takes_anything)
  front_of (rule.takes_void d) = front_map (front_end (front_end (front_end (front_of d)))) (λ x y. rule.takes_void)
  front_of (rule.takes d ps h) = front_then (front_end (front_of d)) (front_end (fronts_of ps)) (λ x y z p q. rule.takes p q h)
  -- parameters and type names
  front_of (rule.named_parameter s d) = front_then (front_of s) (front_of d) (λ x y z. rule.named_parameter)
  front_of (rule.abstract_parameter s d) = front_then (front_of s) (front_of d) (λ x y z. rule.abstract_parameter)
  front_of {names = names} (rule.bare_parameter {s = s} d) =
      let tree : ℕ → Tree = λ n. plain_node kind.Param (start s) (two s (absent_name n)) in
      front_start (λ n x y. Derives names rule.parameter x y (tree n)) (front_of d) (λ x y. rule.bare_parameter)
  front_of (rule.derived_type s d) = front_then (front_of s) (front_of d) (λ x y z. rule.derived_type)
  front_of {names = names} (rule.bare_type {s = s} d) =
      let tree : ℕ → Tree = λ n. plain_node kind.TypeName (start s) (two s (absent_name n)) in
      front_start (λ n x y. Derives names rule.type_name x y (tree n)) (front_of d) (λ x y. rule.bare_type)
  front_of (rule.abstract_pointer q d) = front_token (front_then (qualifiers_front q) (front_of d) (λ x y z. rule.abstract_pointer))
  front_of {names = names} (rule.bare_pointer {at = at} q) =
      let tree : ℕ → Tree = λ n. plain_node kind.Pointer at.start (one (absent_name n)) in
      front_token (front_start (λ n x y. Derives names rule.abstract_declarator (mark Star at ∷ x) y (tree n)) (qualifiers_front q) (λ x y. rule.bare_pointer))
  front_of (rule.direct_of d) = front_map (front_of d) (λ x y. rule.direct_of)
  front_of (rule.abstract_in_parentheses d) = front_token (front_map (front_end (front_of d)) (λ x y. rule.abstract_in_parentheses))
  front_of (rule.bare_array n) = front_token (front_map (front_end (fronts_of n)) (λ x y. rule.bare_array))
  front_of (rule.abstract_array d n) = front_then (front_end (front_of d)) (front_end (fronts_of n)) (λ x y z. rule.abstract_array)
  -- statements
  front_of (rule.block_of ts) = front_token (front_map (front_end (fronts_of ts)) (λ x y. rule.block_of))
  front_of (rule.block_statement t) = front_map (front_of t) (λ x y. rule.block_statement)
  front_of rule.empty_statement = front_token (front_here (λ c e. rule.empty_statement))
  front_of (rule.expression_statement x) = front_map (front_end (front_of x)) (λ x y. rule.expression_statement)
  front_of (rule.if_then x s) = front_token (front_token (front_then (front_end (front_of x)) (front_of s) (λ x y z. rule.if_then)))
  front_of (rule.if_else x s h t) =
      let branches = front_pair (front_end (front_of s)) (front_of t) in
      front_token (front_token (front_then (front_end (front_of x)) branches (λ x y z p q. rule.if_else p q.1 h q.2)))
  front_of (rule.while_do x s) = front_token (front_token (front_then (front_end (front_of x)) (front_of s) (λ x y z. rule.while_do)))
  front_of (rule.do_while s x) = front_token (front_then (front_end (front_end (front_of s))) (front_end (front_end (front_of x))) (λ x y z. rule.do_while))
  front_of (rule.for_declaration f x y s) =
      let rest = front_pair (front_end (front_of x)) (front_pair (front_end (front_of y)) (front_of s)) in
      front_token (front_token (front_then (front_of f) rest (λ x y z p q. rule.for_declaration p q.1 q.2.1 q.2.2)))
  front_of (rule.for_expression f x y s) =
      let rest = front_pair (front_end (front_of x)) (front_pair (front_end (front_of y)) (front_of s)) in
      front_token (front_token (front_then (front_end (front_of f)) rest (λ x y z p q. rule.for_expression p q.1 q.2.1 q.2.2)))
  front_of rule.break_of = front_token (front_token (front_here (λ c e. rule.break_of)))
  front_of rule.continue_of = front_token (front_token (front_here (λ c e. rule.continue_of)))
  front_of rule.return_nothing = front_token (front_token (front_here (λ c e. rule.return_nothing)))
  front_of (rule.return_value x) = front_token (front_map (front_end (front_of x)) (λ x y. rule.return_value))
  front_of (rule.switch_of x ts) =
      front_token (front_token (front_then (front_end (front_end (front_of x))) (front_end (fronts_of ts)) (λ x y z. rule.switch_of)))
  front_of (rule.case_label x) = front_token (front_map (front_end (front_of x)) (λ x y. rule.case_label))
  front_of rule.default_label = front_token (front_token (front_here (λ c e. rule.default_label)))
  -- expressions
  front_of {names = names} {b = b} rule.absent =
      let tree : ℕ → Tree = λ n. plain_node kind.Empty n none in
      front_here (λ c e. subst (λ n. Derives names rule.optional_expression c c (tree n)) (same_start c b e) rule.absent)
  front_of (rule.present x) = front_map (front_of x) (λ x y. rule.present)
  front_of (rule.single_expression x) = front_map (front_of x) (λ x y. rule.single_expression)
  front_of (rule.comma l r) = front_then (front_end (front_of l)) (front_of r) (λ x y z. rule.comma)
  front_of (rule.assigned l h r) = front_then (front_end (front_of l)) (front_of r) (λ x y z p. rule.assigned p h)
  front_of (rule.unassigned x) = front_map (front_of x) (λ x y. rule.unassigned)
  front_of (rule.unconditional x) = front_map (front_of x) (λ x y. rule.unconditional)
  front_of (rule.choice x y z) =
      front_then (front_end (front_of x)) (front_pair (front_end (front_of y)) (front_of z)) (λ x y z p q. rule.choice p q.1 q.2)
  front_of (rule.chain l h r) = front_then (front_end (front_of l)) (front_of r) (λ x y z p. rule.chain p h)
  front_of (rule.tighter x) = front_map (front_of x) (λ x y. rule.tighter)
  front_of (rule.tightest x) = front_map (front_of x) (λ x y. rule.tightest)
  front_of (rule.cast_to t x) = front_token (front_then (front_end (front_of t)) (front_of x) (λ x y z. rule.cast_to))
  front_of (rule.uncast x) = front_map (front_of x) (λ x y. rule.uncast)
  front_of (rule.increment x) = front_token (front_map (front_of x) (λ x y. rule.increment))
  front_of (rule.decrement x) = front_token (front_map (front_of x) (λ x y. rule.decrement))
  front_of (rule.operator h x) = front_token (front_map (front_of x) (λ x y. rule.operator h))
  front_of (rule.size_of_expression x) = front_token (front_map (front_of x) (λ x y. rule.size_of_expression))
  front_of (rule.size_of_type t) = front_token (front_token (front_map (front_end (front_of t)) (λ x y. rule.size_of_type)))
  front_of (rule.plain x) = front_map (front_of x) (λ x y. rule.plain)
  front_of (rule.primary_of x) = front_map (front_of x) (λ x y. rule.primary_of)
  front_of (rule.index x y) = front_then (front_end (front_of x)) (front_end (front_of y)) (λ x y z. rule.index)
  front_of (rule.call x ts) = front_then (front_end (front_of x)) (front_end (fronts_of ts)) (λ x y z. rule.call)
  front_of (rule.dot x h) = front_map (front_end (front_end (front_of x))) (λ x y p. rule.dot p h)
  front_of (rule.arrow x h) = front_map (front_end (front_end (front_of x))) (λ x y p. rule.arrow p h)
  front_of (rule.post_increment x) = front_map (front_end (front_of x)) (λ x y. rule.post_increment)
  front_of (rule.post_decrement x) = front_map (front_end (front_of x)) (λ x y. rule.post_decrement)
  front_of (rule.variable h i) = front_token (front_here (λ c e. rule.variable h i))
  front_of rule.integer_constant = front_token (front_here (λ c e. rule.integer_constant))
  front_of rule.character_constant = front_token (front_here (λ c e. rule.character_constant))
  front_of (rule.string_literal l) = string_front l
  front_of (rule.in_parentheses x) = front_token (front_map (front_end (front_of x)) (λ x y. rule.in_parentheses))

  pub fronts_of : {names : Names} {row : Row} {a b : List Token} {ts : Forest}
      → Lists names row a b ts
      → IsFront (λ x y. Lists names row x y ts) a b
  fronts_of (rule.last_external t) = front_map (front_of t) (λ x y. rule.last_external)
  fronts_of (rule.more_externals t ts) = front_then (front_of t) (fronts_of ts) (λ x y z. rule.more_externals)
  fronts_of (rule.last_init_declarator t) = front_map (front_of t) (λ x y. rule.last_init_declarator)
  fronts_of (rule.more_init_declarators t ts) = front_then (front_end (front_of t)) (fronts_of ts) (λ x y z. rule.more_init_declarators)
  fronts_of (rule.last_initializer t) = front_map (front_of t) (λ x y. rule.last_initializer)
  fronts_of (rule.last_initializer_with_comma t) = front_map (front_end (front_of t)) (λ x y. rule.last_initializer_with_comma)
  fronts_of (rule.more_initializers t ts) = front_then (front_end (front_of t)) (fronts_of ts) (λ x y z. rule.more_initializers)
  fronts_of {names = names} {b = b} (rule.last_specifier {typed = typed} {t = t} s h) =
      front_first (front_of s) (λ x y e p. rule.last_specifier p (ap (λ u. typed || says_type t || not u) (same_begin (after names t) y b e) ∙ h))
  fronts_of (rule.more_specifiers t ts) = front_then (front_of t) (fronts_of ts) (λ x y z. rule.more_specifiers)
  fronts_of (rule.last_member t) = front_map (front_of t) (λ x y. rule.last_member)
  fronts_of (rule.more_members t ts) = front_then (front_of t) (fronts_of ts) (λ x y z. rule.more_members)
  fronts_of (rule.last_declarator t) = front_map (front_of t) (λ x y. rule.last_declarator)
  fronts_of (rule.more_declarators t ts) = front_then (front_end (front_of t)) (fronts_of ts) (λ x y z. rule.more_declarators)
  fronts_of (rule.last_enumerator t) = front_map (front_of t) (λ x y. rule.last_enumerator)
  fronts_of (rule.last_enumerator_with_comma t) = front_map (front_end (front_of t)) (λ x y. rule.last_enumerator_with_comma)
  fronts_of (rule.more_enumerators t ts) = front_then (front_end (front_of t)) (fronts_of ts) (λ x y z. rule.more_enumerators)
  fronts_of (rule.last_parameter t) = front_map (front_of t) (λ x y. rule.last_parameter)
  fronts_of (rule.more_parameters t ts) = front_then (front_end (front_of t)) (fronts_of ts) (λ x y z. rule.more_parameters)
  fronts_of rule.no_length = front_here (λ c e. rule.no_length)
  fronts_of (rule.a_length t) = front_map (front_of t) (λ x y. rule.a_length)
  fronts_of rule.no_items = front_here (λ c e. rule.no_items)
  fronts_of (rule.declaration_first t ts) = front_then (front_of t) (fronts_of ts) (λ x y z. rule.declaration_first)
  fronts_of (rule.statement_first t ts) = front_then (front_of t) (fronts_of ts) (λ x y z. rule.statement_first)
  fronts_of (rule.no_more_groups h) = front_here (λ c e. rule.no_more_groups h)
  fronts_of (rule.label_first t ts) = front_then (front_of t) (fronts_of ts) (λ x y z. rule.label_first)
  fronts_of (rule.labelled_statement h t ts) = front_then (front_of t) (fronts_of ts) (λ x y z. rule.labelled_statement h)
  fronts_of rule.no_arguments = front_here (λ c e. rule.no_arguments)
  fronts_of (rule.some_arguments ts) = front_map (fronts_of ts) (λ x y. rule.some_arguments)
  fronts_of (rule.last_argument t) = front_map (front_of t) (λ x y. rule.last_argument)
  fronts_of (rule.more_arguments t ts) = front_then (front_end (front_of t)) (fronts_of ts) (λ x y z. rule.more_arguments)
