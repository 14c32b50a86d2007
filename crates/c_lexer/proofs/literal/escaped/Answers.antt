use Rattle.std.proofs.Common.{rules, arith, sym, subst, ◌∷◌}
use Rattle.std.proofs.lemmas.List.Sums.{prefix_len-le-length}
use Rattle.c_lexer.specs.Characters.{is_hexadecimal}
use Rattle.c_lexer.specs.Readings.{Begins}
use Rattle.c_lexer.proofs.Characters.{begins_simple, hexadecimal_found, hexadecimal_none, octal_found, octal_none, if_some, if_none}
use Rattle.c_lexer.proofs.literal.escaped.Goals as goal

pub digits-requires : goal.digits-requires
digits-requires c = let size = c.hexadecimal_size.ensures in let within = prefix_len-le-length is_hexadecimal c.in_ok-first.rest.now in (omega arith, omega (arith, size, within))

pub returns-then-first-eq120-clause-found : goal.returns-then-first-eq120-clause-found
returns-then-first-eq120-clause-found c = if_some c.digits.result _ _ (λ d h. hexadecimal_found c.args.text.now c.in_ok-first.rest.now c.in_ok-first.first.now c.hexadecimal_size.result c.in_ok-first.ensures.cases.0 d.0 d.1.now (search rules) c.hexadecimal_size.ensures h.0 h.1 h.2 h.3) c.digits.ensures.found

pub returns-then-first-eq120-clause-none : goal.returns-then-first-eq120-clause-none
returns-then-first-eq120-clause-none c = if_none c.digits.result _ _ (λ h. hexadecimal_none c.args.text.now c.in_ok-first.rest.now c.in_ok-first.first.now c.hexadecimal_size.result c.in_ok-first.ensures.cases.0 (search rules) c.hexadecimal_size.ensures h) c.digits.ensures.none

pub returns-in-Some-clause-found : goal.returns-in-Some-clause-found
returns-in-Some-clause-found c = subst (λ t. Begins (92 ∷ t) c.in-Some.value c.in_ok-first.rest.now) (sym c.in_ok-first.ensures.cases.0) (begins_simple c.in_ok-first.first.now c.in-Some.value c.in_ok-first.rest.now (sym c.in-Some.ensures))

pub returns-in-None-clause-found : goal.returns-in-None-clause-found
returns-in-None-clause-found c = if_some c.digits-in-None.result _ _ (λ d h. octal_found c.args.text.now c.in_ok-first.rest.now c.in_ok-first.first.now c.octal_size.result c.in_ok-first.ensures.cases.0 d.0 d.1.now c.octal_size.ensures h.0 h.1 h.2 h.3) c.digits-in-None.ensures.found

pub returns-in-None-clause-none : goal.returns-in-None-clause-none
returns-in-None-clause-none c = if_none c.digits-in-None.result _ _ (λ h. octal_none c.args.text.now c.in_ok-first.rest.now c.in_ok-first.first.now c.octal_size.result c.in_ok-first.ensures.cases.0 c.if-first-eq120.false (sym c.in-None.ensures) c.octal_size.ensures h) c.digits-in-None.ensures.none
