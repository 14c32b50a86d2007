use Rattle.std.proofs.Common.{[], None, ap, false, refl, subst, sym, ◌∙◌}
use Rattle.std.specs.List.{last_or}
use Rattle.c_syntax.specs.declared.syntax.SynNode.{SynNode}
use Rattle.c_typing.specs.Types.{int, integer}
use Rattle.c_typing.specs.Names.{earlier}
use Rattle.c_typing.specs.Rules.{bad_library_name, broken_if}
use Rattle.c_names.specs.Denoted.{places_in}
use Rattle.c_type_ids.proofs.TableLaws.{grows_on}
use Rattle.c_declarator_rows.specs.Found.{IsName}
use Rattle.c_declarator_rows.proofs.AgainLaws.{last_is}
use Rattle.c_declarator_rows.proofs.EnumeratorLaws.{declared_twice, its_name, library_name, name_here, sums_here, unnamed}
use Rattle.c_declarator_rows.proofs.RowLaws.{numbered_here}
use Rattle.c_declarator_rows.proofs.enumerators.check.Goals as goal

pub returns-in_default-clause-is : goal.returns-in_default-clause-is
returns-in_default-clause-is c =
    let own = numbered_here c.args.nodes.now c.args.node c.requires.derived c.requires.long c.requires.within in
    (unnamed c.args.nodes.now c.args.node own c.args.names.now c.name_at.result c.requires.names c.requires.within c.name_at.ensures c.in_default.not-Some, tt)

pub is_refused-requires-clause-kind : goal.is_refused-requires-clause-kind
is_refused-requires-clause-kind c = (integer int, c.in_ok-integer.ensures.ok)

pub returns-then-is_refused-clause-is : goal.returns-then-is_refused-clause-is
returns-then-is_refused-clause-is c =
    let table = c.args.nodes.now in
    let n = c.args.node in
    let own = numbered_here table n c.requires.derived c.requires.long c.requires.within in
    let x = c.in-Some.name in
    let e = its_name table n own x in
    let here = name_here table n own x c.args.names.now c.name_at.result c.requires.names c.requires.within c.name_at.ensures c.in-Some.is in
    let sums = sums_here table n own x c.args.earlier.now c.earlier_at-before.result c.requires.earlier c.requires.within c.earlier_at-before.ensures here in
    let last = last_or None (earlier (places_in table) e) in
    let before = subst (IsName table last) (sym c.name_of-last.ensures) (last_is table c.requires.derived e c.args.names.now c.earlier_at-before.result c.requires.long c.requires.names sums) in
    let told = c.is_refused.ensures e (integer int) None last refl before c.in_ok-integer.ensures.ok refl sums.initialized in
    declared_twice table n own x here c.is_refused.result told c.if-is_refused.true

pub returns-in_err-is_bad_library_name-clause-grows :
    goal.returns-in_err-is_bad_library_name-clause-grows
returns-in_err-is_bad_library_name-clause-grows c = grows_on c.args.table.now c.integer.new.self c.is_bad_library_name.new.table c.integer.ensures.grows c.is_bad_library_name.ensures.grows

pub returns-then-branch-clause-is : goal.returns-then-branch-clause-is
returns-then-branch-clause-is c =
    let table = c.args.nodes.now in
    let n = c.args.node in
    let own = numbered_here table n c.requires.derived c.requires.long c.requires.within in
    let x = c.in-Some.name in
    let e = its_name table n own x in
    let here = name_here table n own x c.args.names.now c.name_at.result c.requires.names c.requires.within c.name_at.ensures c.in-Some.is in
    let sums = sums_here table n own x c.args.earlier.now c.earlier_at-before.result c.requires.earlier c.requires.within c.earlier_at-before.ensures here in
    let last = last_or None (earlier (places_in table) e) in
    let before = subst (IsName table last) (sym c.name_of-last.ensures) (last_is table c.requires.derived e c.args.names.now c.earlier_at-before.result c.requires.long c.requires.names sums) in
    let told = c.is_refused.ensures e (integer int) None last refl before c.in_ok-integer.ensures.ok refl sums.initialized in
    let text = c.as_slice-text.ensures ∙ ap (λ (y : SynNode). y.text) c.node.ensures.is in
    let bad = c.in_ok-is_bad_library_name.field-0 in
    let library = library_name table n own x here c.is_refused.result told bad c.if-is_refused.false (ap (λ t. bad_library_name t false (integer int) n) (sym text) ∙ c.in_ok-is_bad_library_name.ensures.is (integer int) n c.in_ok-integer.ensures.ok) in
    ([], library ∙ ap (λ b. broken_if b 23 n) c.if-branch.true)

pub returns-then-branch-clause-grows : goal.returns-then-branch-clause-grows
returns-then-branch-clause-grows c = grows_on c.args.table.now c.integer.new.self c.is_bad_library_name.new.table c.integer.ensures.grows c.is_bad_library_name.ensures.grows

pub returns-clause-is : goal.returns-clause-is
returns-clause-is c =
    let table = c.args.nodes.now in
    let n = c.args.node in
    let own = numbered_here table n c.requires.derived c.requires.long c.requires.within in
    let x = c.in-Some.name in
    let e = its_name table n own x in
    let here = name_here table n own x c.args.names.now c.name_at.result c.requires.names c.requires.within c.name_at.ensures c.in-Some.is in
    let sums = sums_here table n own x c.args.earlier.now c.earlier_at-before.result c.requires.earlier c.requires.within c.earlier_at-before.ensures here in
    let last = last_or None (earlier (places_in table) e) in
    let before = subst (IsName table last) (sym c.name_of-last.ensures) (last_is table c.requires.derived e c.args.names.now c.earlier_at-before.result c.requires.long c.requires.names sums) in
    let told = c.is_refused.ensures e (integer int) None last refl before c.in_ok-integer.ensures.ok refl sums.initialized in
    let text = c.as_slice-text.ensures ∙ ap (λ (y : SynNode). y.text) c.node.ensures.is in
    let bad = c.in_ok-is_bad_library_name.field-0 in
    let library = library_name table n own x here c.is_refused.result told bad c.if-is_refused.false (ap (λ t. bad_library_name t false (integer int) n) (sym text) ∙ c.in_ok-is_bad_library_name.ensures.is (integer int) n c.in_ok-integer.ensures.ok) in
    (library ∙ ap (λ b. broken_if b 23 n) c.if-branch.false, tt)

pub returns-clause-grows : goal.returns-clause-grows
returns-clause-grows c = grows_on c.args.table.now c.integer.new.self c.is_bad_library_name.new.table c.integer.ensures.grows c.is_bad_library_name.ensures.grows
