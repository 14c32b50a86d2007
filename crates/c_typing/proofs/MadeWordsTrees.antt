-- Where all words among tokens are spelled as words, so are the declared names of their tree: by induction on the derivation,
-- a case for each rule.
use Rattle.std.proofs.Common.{◌≡◌, ℕ, true, List, ◌∷◌}
use Rattle.c_lexer.specs.declared.token.Token.{Token}
use Rattle.c_lexer.specs.Spellings.{is_word}
use Rattle.c_syntax.specs.declared.kind.SynKind.{SynKind}
use Rattle.c_syntax.specs.declared.kind.SynKind.TheVariants as kind
use Rattle.c_syntax.specs.Trees.{Tree, Forest, none, tree, ◌then◌, one}
use Rattle.c_grammar.specs.Scopes.{Names}
use Rattle.c_grammar.specs.Derivation as rule
use Rattle.c_grammar.specs.Derivation.{Part, Row, Qualifiers, Literals, Derives, Lists, IsTreeOf}
use Rattle.c_typing.proofs.MadeWords.{AreSpelled}

-- ---- names

abbrev pub IsNamed : SynKind → List ℕ → Type 0
IsNamed kind.Ident text = is_word text ≡ true
IsNamed other text = Unit {0}

unfoldable pub AreNamed : Forest → Type 0
AreNamed none = Unit {0}
AreNamed (tree label kids rest) = IsNamed label.kind label.text × AreNamed kids × AreNamed rest

-- a tree, trees in a row, and the tokens behind them
pub record Named (b : List Token) (t : Tree) : Type 0 where
  pub all : AreNamed (one t)
  pub behind : AreSpelled b

pub record AllNamed (b : List Token) (ts : Forest) : Type 0 where
  pub all : AreNamed ts
  pub behind : AreSpelled b

-- no trees
nothing : {b : List Token} → AreSpelled b → AllNamed b none
unfolding AreNamed
nothing h = record { all = tt; behind = h }

-- a node over kids
node : {b : List Token} (t : Tree) → IsNamed t.label.kind t.label.text → AllNamed b t.kids → Named b t
unfolding AreNamed
node t e ts = record { all = (e, ts.all, tt); behind = ts.behind }

-- one tree, and one before others
alone : {b : List Token} {t : Tree} → Named b t → AllNamed b (one t)
alone p = record { all = p.all; behind = p.behind }

in_order : {b c : List Token} {t : Tree} {rest : Forest} → Named b t → (AreSpelled b → AllNamed c rest) → AllNamed c (t then rest)
unfolding AreNamed
in_order p more = let ts = more p.behind in record { all = (p.all.0, p.all.1, ts.all); behind = ts.behind }

-- a token behind a tree or trees
past : {k : Token} {b : List Token} {t : Tree} → Named (k ∷ b) t → Named b t
past p = record { all = p.all; behind = p.behind.1 }

past_all : {k : Token} {b : List Token} {ts : Forest} → AllNamed (k ∷ b) ts → AllNamed b ts
past_all p = record { all = p.all; behind = p.behind.1 }

-- ---- tokens that make no tree of their own

qualified : {a b : List Token} → Qualifiers a b → AreSpelled a → AreSpelled b
qualified rule.no_qualifier h = h
qualified (rule.qualifier q) h = qualified q h.1

literal : {a b : List Token} {joined : List ℕ} → Literals a b joined → AreSpelled a → AreSpelled b
literal rule.last_literal h = h.1
literal (rule.more_literals l e) h = literal l h.1

-- ---- the rules

mutual
  named : {names : Names} {part : Part} {a b : List Token} {t : Tree} → Derives names part a b t → AreSpelled a → Named b t
  named (rule.unit_of ts) h = node _ tt (all_named ts h)
  named (rule.function s d items) h = node _ tt (in_order (named s h) (λ i. in_order (past (named d i)) (λ j. alone (node _ tt (past_all (all_named items j))))))
  named (rule.declared t) h = named t h
  named (rule.bare_declaration s) h = node _ tt (alone (past (named s h)))
  named (rule.full_declaration s ds) h = node _ tt (in_order (named s h) (λ i. past_all (all_named ds i)))
  named (rule.uninitialized d) h = node _ tt (alone (named d h))
  named (rule.initialized d x) h = node _ tt (in_order (past (named d h)) (λ i. alone (named x i)))
  named (rule.initial_value t) h = named t h
  named (rule.braces ts) h = node _ tt (past_all (all_named ts h.1))
  named (rule.specs ts) h = node _ tt (all_named ts h)
  named (rule.specifier_word e) h = node _ tt (nothing h.1)
  named (rule.typedef_name e f) h = node _ tt (nothing h.1)
  named (rule.struct_of t) h = named t h
  named (rule.enum_of t) h = named t h
  named (rule.struct_without_tag ms) h = node _ tt (past_all (all_named ms h.1.1))
  named (rule.struct_with_tag e ms) h = node _ tt (past_all (all_named ms h.1.1.1))
  named (rule.struct_tag e) h = node _ tt (nothing h.1.1)
  named (rule.member_of s ds) h = node _ tt (in_order (named s h) (λ i. past_all (all_named ds i)))
  named (rule.enum_without_tag es) h = node _ tt (past_all (all_named es h.1.1))
  named (rule.enum_with_tag e es) h = node _ tt (past_all (all_named es h.1.1.1))
  named (rule.enum_tag e) h = node _ tt (nothing h.1.1)
  named (rule.enumerator_name e) h = node _ tt (nothing h.1)
  named (rule.enumerator_value e v) h = node _ tt (alone (named v h.1.1))
  named (rule.pointer q d) h = node _ tt (alone (named d (qualified q h.1)))
  named (rule.direct d) h = named d h
  named (rule.declared_name e) h = node _ h.0 (nothing h.1)
  named (rule.declarator_in_parentheses d) h = node _ tt (alone (past (named d h.1)))
  named (rule.array_of d n) h = node _ tt (in_order (past (named d h)) (λ i. past_all (all_named n i)))
  named (rule.takes_anything d) h = node _ tt (alone (past (past (named d h))))
  named (rule.takes_void d) h = node _ tt (alone (past (past (past (named d h)))))
  named (rule.takes d ps e) h = node _ tt (in_order (past (named d h)) (λ i. past_all (all_named ps i)))
  named (rule.named_parameter s d) h = node _ tt (in_order (named s h) (λ i. alone (named d i)))
  named (rule.abstract_parameter s d) h = node _ tt (in_order (named s h) (λ i. alone (named d i)))
  named (rule.bare_parameter s) h = node _ tt (in_order (named s h) (λ i. alone (node _ tt (nothing i))))
  named (rule.derived_type s d) h = node _ tt (in_order (named s h) (λ i. alone (named d i)))
  named (rule.bare_type s) h = node _ tt (in_order (named s h) (λ i. alone (node _ tt (nothing i))))
  named (rule.abstract_pointer q d) h = node _ tt (alone (named d (qualified q h.1)))
  named (rule.bare_pointer q) h = node _ tt (alone (node _ tt (nothing (qualified q h.1))))
  named (rule.direct_of d) h = named d h
  named (rule.abstract_in_parentheses d) h = node _ tt (alone (past (named d h.1)))
  named (rule.bare_array n) h = node _ tt (in_order (node _ tt (nothing h.1)) (λ i. past_all (all_named n i)))
  named (rule.abstract_array d n) h = node _ tt (in_order (past (named d h)) (λ i. past_all (all_named n i)))
  named (rule.block_of ts) h = node _ tt (past_all (all_named ts h.1))
  named (rule.block_statement t) h = named t h
  named rule.empty_statement h = node _ tt (nothing h.1)
  named (rule.expression_statement x) h = node _ tt (alone (past (named x h)))
  named (rule.if_then x s) h = node _ tt (in_order (past (named x h.1.1)) (λ i. alone (named s i)))
  named (rule.if_else x s e t) h = node _ tt (in_order (past (named x h.1.1)) (λ i. in_order (past (named s i)) (λ j. alone (named t j))))
  named (rule.while_do x s) h = node _ tt (in_order (past (named x h.1.1)) (λ i. alone (named s i)))
  named (rule.do_while s x) h = node _ tt (in_order (past (past (named s h.1))) (λ i. alone (past (past (named x i)))))
  named (rule.for_declaration f x y s) h =
      node _ tt (in_order (named f h.1.1) (λ i. in_order (past (named x i)) (λ j. in_order (past (named y j)) (λ k. alone (named s k)))))
  named (rule.for_expression f x y s) h =
      node _ tt (in_order (past (named f h.1.1)) (λ i. in_order (past (named x i)) (λ j. in_order (past (named y j)) (λ k. alone (named s k)))))
  named rule.break_of h = node _ tt (nothing h.1.1)
  named rule.continue_of h = node _ tt (nothing h.1.1)
  named rule.return_nothing h = node _ tt (nothing h.1.1)
  named (rule.return_value x) h = node _ tt (alone (past (named x h.1)))
  named (rule.switch_of x ts) h = node _ tt (in_order (past (past (named x h.1.1))) (λ i. past_all (all_named ts i)))
  named (rule.case_label x) h = node _ tt (alone (past (named x h.1)))
  named rule.default_label h = node _ tt (nothing h.1.1)
  named rule.absent h = node _ tt (nothing h)
  named (rule.present x) h = named x h
  named (rule.single_expression x) h = named x h
  named (rule.comma x y) h = node _ tt (in_order (past (named x h)) (λ i. alone (named y i)))
  named (rule.assigned x e y) h = node _ tt (in_order (past (named x h)) (λ i. alone (named y i)))
  named (rule.unassigned x) h = named x h
  named (rule.unconditional x) h = named x h
  named (rule.choice x y z) h = node _ tt (in_order (past (named x h)) (λ i. in_order (past (named y i)) (λ j. alone (named z j))))
  named (rule.chain x e y) h = node _ tt (in_order (past (named x h)) (λ i. alone (named y i)))
  named (rule.tighter x) h = named x h
  named (rule.tightest x) h = named x h
  named (rule.cast_to t x) h = node _ tt (in_order (past (named t h.1)) (λ i. alone (named x i)))
  named (rule.uncast x) h = named x h
  named (rule.increment x) h = node _ tt (alone (named x h.1))
  named (rule.decrement x) h = node _ tt (alone (named x h.1))
  named (rule.operator e x) h = node _ tt (alone (named x h.1))
  named (rule.size_of_expression x) h = node _ tt (alone (named x h.1))
  named (rule.size_of_type t) h = node _ tt (alone (past (named t h.1.1)))
  named (rule.plain x) h = named x h
  named (rule.primary_of x) h = named x h
  named (rule.index x y) h = node _ tt (in_order (past (named x h)) (λ i. alone (past (named y i))))
  named (rule.call x ts) h = node _ tt (in_order (past (named x h)) (λ i. past_all (all_named ts i)))
  named (rule.dot x e) h = node _ tt (alone (past (past (named x h))))
  named (rule.arrow x e) h = node _ tt (alone (past (past (named x h))))
  named (rule.post_increment x) h = node _ tt (alone (past (named x h)))
  named (rule.post_decrement x) h = node _ tt (alone (past (named x h)))
  named (rule.variable e f) h = node _ tt (nothing h.1)
  named rule.integer_constant h = node _ tt (nothing h.1)
  named rule.character_constant h = node _ tt (nothing h.1)
  named (rule.string_literal l) h = node _ tt (nothing (literal l h))
  named (rule.in_parentheses x) h = node _ tt (alone (past (named x h.1)))

  all_named : {names : Names} {row : Row} {a b : List Token} {ts : Forest} → Lists names row a b ts → AreSpelled a → AllNamed b ts
  all_named (rule.last_external t) h = alone (named t h)
  all_named (rule.more_externals t ts) h = in_order (named t h) (λ i. all_named ts i)
  all_named (rule.last_init_declarator t) h = alone (named t h)
  all_named (rule.more_init_declarators t ts) h = in_order (past (named t h)) (λ i. all_named ts i)
  all_named (rule.last_initializer t) h = alone (named t h)
  all_named (rule.last_initializer_with_comma t) h = alone (past (named t h))
  all_named (rule.more_initializers t ts) h = in_order (past (named t h)) (λ i. all_named ts i)
  all_named (rule.last_specifier t e) h = alone (named t h)
  all_named (rule.more_specifiers t ts) h = in_order (named t h) (λ i. all_named ts i)
  all_named (rule.last_member t) h = alone (named t h)
  all_named (rule.more_members t ts) h = in_order (named t h) (λ i. all_named ts i)
  all_named (rule.last_declarator t) h = alone (named t h)
  all_named (rule.more_declarators t ts) h = in_order (past (named t h)) (λ i. all_named ts i)
  all_named (rule.last_enumerator t) h = alone (named t h)
  all_named (rule.last_enumerator_with_comma t) h = alone (past (named t h))
  all_named (rule.more_enumerators t ts) h = in_order (past (named t h)) (λ i. all_named ts i)
  all_named (rule.last_parameter t) h = alone (named t h)
  all_named (rule.more_parameters t ts) h = in_order (past (named t h)) (λ i. all_named ts i)
  all_named rule.no_length h = nothing h
  all_named (rule.a_length t) h = alone (named t h)
  all_named rule.no_items h = nothing h
  all_named (rule.declaration_first t ts) h = in_order (named t h) (λ i. all_named ts i)
  all_named (rule.statement_first t ts) h = in_order (named t h) (λ i. all_named ts i)
  all_named (rule.no_more_groups e) h = nothing h
  all_named (rule.label_first t ts) h = in_order (named t h) (λ i. all_named ts i)
  all_named (rule.labelled_statement e t ts) h = in_order (named t h) (λ i. all_named ts i)
  all_named rule.no_arguments h = nothing h
  all_named (rule.some_arguments ts) h = all_named ts h
  all_named (rule.last_argument t) h = alone (named t h)
  all_named (rule.more_arguments t ts) h = in_order (past (named t h)) (λ i. all_named ts i)

pub tree_named : (tokens : List Token) (t : Tree) → IsTreeOf tokens t → AreSpelled tokens → AreNamed (one t)
tree_named tokens t derived h = (named derived h).all
