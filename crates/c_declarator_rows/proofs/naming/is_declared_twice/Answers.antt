use Rattle.std.proofs.Common.{◌≡◌, None, ap, refl, subst, sym, ◌∙◌}
use Rattle.std.specs.Prelude.{option_and_then}
use Rattle.std.specs.List.{last_or}
use Rattle.c_typing.specs.Names.{Name, earlier}
use Rattle.c_typing.specs.Expressions.{type_of_name}
use Rattle.c_typing.specs.Rules.{broken_if, declared_twice}
use Rattle.c_typing.specs.Declarators.{type_before}
use Rattle.c_names.specs.Denoted.{places_in}
use Rattle.c_declarator_rows.specs.Found.{IsName}
use Rattle.c_declarator_rows.proofs.AgainLaws.{last_is}
use Rattle.c_declarator_rows.proofs.EnumeratorLaws.{its_name, name_here, sums_here}
use Rattle.c_declarator_rows.proofs.RowLaws.{numbered_here}
use Rattle.c_declarator_rows.proofs.naming.is_declared_twice.Goals as goal

pub is_refused-requires-clause-before : goal.is_refused-requires-clause-before
is_refused-requires-clause-before c =
    let table = c.args.nodes.now in
    let n = c.args.node in
    let own = numbered_here table n c.requires.derived c.requires.long c.requires.within in
    let x = c.in-Some.name in
    let e = its_name table n own x in
    let here = name_here table n own x c.args.names.now c.name_at.result c.requires.names c.requires.within c.name_at.ensures c.in-Some.is in
    let sums = sums_here table n own x c.args.earlier.now c.earlier_at-before.result c.requires.earlier c.requires.within c.earlier_at-before.ensures here in
    let last = last_or None (earlier (places_in table) e) in
    let before = subst (IsName table last) (sym c.name_of-last.ensures) (last_is table c.requires.derived e c.args.names.now c.earlier_at-before.result c.requires.long c.requires.names sums) in
    (option_and_then (type_of_name c.requires.judged.0) last, c.type_before-type_before.ensures table c.requires.judged.0 last c.requires.judged.1 before)

pub returns : goal.returns
returns c = λ js e t k judged named is.
    let table = c.args.nodes.now in
    let n = c.args.node in
    let own = numbered_here table n c.requires.derived c.requires.long c.requires.within in
    let x = c.in-Some.name in
    let its = its_name table n own x in
    let here = name_here table n own x c.args.names.now c.name_at.result c.requires.names c.requires.within c.name_at.ensures c.in-Some.is in
    let sums = sums_here table n own x c.args.earlier.now c.earlier_at-before.result c.requires.earlier c.requires.within c.earlier_at-before.ensures here in
    let last = last_or None (earlier (places_in table) its) in
    let before = subst (IsName table last) (sym c.name_of-last.ensures) (last_is table c.requires.derived its c.args.names.now c.earlier_at-before.result c.requires.long c.requires.names sums) in
    let found = c.type_before-type_before.ensures table js last judged before in
    let told = c.is_refused.ensures its t (type_before (places_in table) js its) last refl before is found sums.initialized in
    let same : its ≡ e = cc (sym here ∙ named) in
    subst (λ (y : Name). declared_twice (places_in table) y t (type_before (places_in table) js y) k ≡ broken_if c.is_refused.result 3 k) same (ap (λ b. broken_if b 3 k) (sym told))
