-- A part has no more tokens behind it than before it, and declarations, statements, labels and externals have fewer.
use Rattle.std.proofs.Common.{◌≤◌, ◌<◌, List, length, length-append, ap, arith}
use Rattle.c_lexer.specs.declared.token.Token.{Token}
use Rattle.c_syntax.specs.Trees.{Tree, Forest}
use Rattle.c_grammar.specs.Scopes.{Names}
use Rattle.c_grammar.specs.Derivation as grammar
use Rattle.c_grammar.specs.Derivation.{Part, Row, Derives, Lists}
use Rattle.c_grammar.proofs.FrontLaw.{front_of, fronts_of}

pub part_length : {names : Names} {part : Part} {a b : List Token} {t : Tree} → Derives names part a b t → length b ≤ length a
part_length {a = a} {b = b} d = let f = front_of d in omega (arith, ap length f.split, length-append f.front b)

pub row_length : {names : Names} {row : Row} {a b : List Token} {ts : Forest} → Lists names row a b ts → length b ≤ length a
row_length {a = a} {b = b} d = let f = fronts_of d in omega (arith, ap length f.split, length-append f.front b)

pub declaration_length : {names : Names} {a b : List Token} {t : Tree} → Derives names grammar.declaration a b t → length b < length a
declaration_length (grammar.bare_declaration s) = part_length s
declaration_length (grammar.full_declaration s ds) = omega (arith, part_length s, row_length ds)

pub external_length : {names : Names} {a b : List Token} {t : Tree} → Derives names grammar.external a b t → length b < length a
external_length (grammar.function s d items) = omega (arith, part_length s, part_length d, row_length items)
external_length (grammar.declared d) = declaration_length d

block_length : {names : Names} {a b : List Token} {t : Tree} → Derives names grammar.block a b t → length b < length a
block_length (grammar.block_of ts) = omega (arith, row_length ts)

pub statement_length : {names : Names} {a b : List Token} {t : Tree} → Derives names grammar.statement a b t → length b < length a
statement_length (grammar.block_statement d) = block_length d
statement_length grammar.empty_statement = omega arith
statement_length (grammar.expression_statement x) = part_length x
statement_length (grammar.if_then x s) = omega (arith, part_length x, part_length s)
statement_length (grammar.if_else x s e t) = omega (arith, part_length x, part_length s, part_length t)
statement_length (grammar.while_do x s) = omega (arith, part_length x, part_length s)
statement_length (grammar.do_while s x) = omega (arith, part_length s, part_length x)
statement_length (grammar.for_declaration f x y s) = omega (arith, part_length f, part_length x, part_length y, part_length s)
statement_length (grammar.for_expression f x y s) = omega (arith, part_length f, part_length x, part_length y, part_length s)
statement_length (grammar.switch_of x ts) = omega (arith, part_length x, row_length ts)
statement_length grammar.break_of = omega arith
statement_length grammar.continue_of = omega arith
statement_length grammar.return_nothing = omega arith
statement_length (grammar.return_value x) = omega (arith, part_length x)

pub label_length : {names : Names} {a b : List Token} {t : Tree} → Derives names grammar.switch_label a b t → length b < length a
label_length (grammar.case_label x) = omega (arith, part_length x)
label_length grammar.default_label = omega arith
