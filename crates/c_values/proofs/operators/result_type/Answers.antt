use Rattle.std.proofs.Common.{sym, subst}
use Rattle.c_typing.specs.Conversions as rules
use Rattle.c_values.specs.declared.operators.Class.{Class}
use Rattle.c_values.specs.Operators.{ResultIs, class_of}
use Rattle.c_values.proofs.operators.result_type.Goals as goal

pub returns-in-Multiplicative : goal.returns-in-Multiplicative
returns-in-Multiplicative c = λ x y a b ls laid.
    subst (λ (q : Class). ResultIs c.common_type.result (rules.result_type ls (class_of q) x y) x.type y.type) (sym c.in-Multiplicative.is)
    (c.common_type.ensures c.args.table.now x.type y.type (c.kind_of-left_kind.ensures x.type a.type) (c.kind_of-right_kind.ensures y.type b.type) ls)

pub returns-in-Bitwise : goal.returns-in-Bitwise
returns-in-Bitwise c = λ x y a b ls laid.
    subst (λ (q : Class). ResultIs c.common_type-in-Bitwise.result (rules.result_type ls (class_of q) x y) x.type y.type) (sym c.in-Bitwise.is)
    (c.common_type-in-Bitwise.ensures c.args.table.now x.type y.type (c.kind_of-left_kind.ensures x.type a.type) (c.kind_of-right_kind.ensures y.type b.type) ls)

pub returns-in-Shift : goal.returns-in-Shift
returns-in-Shift c = λ x y a b ls laid.
    subst (λ (q : Class). ResultIs c.shift_type.result (rules.result_type ls (class_of q) x y) x.type y.type) (sym c.in-Shift.is)
    (c.shift_type.ensures c.args.table.now x.type y.type (c.kind_of-left_kind.ensures x.type a.type) (c.kind_of-right_kind.ensures y.type b.type) ls)

pub returns-in-Relational : goal.returns-in-Relational
returns-in-Relational c = λ x y a b ls laid.
    subst (λ (q : Class). ResultIs c.truth.result (rules.result_type ls (class_of q) x y) x.type y.type) (sym c.in-Relational.is)
    (subst (λ p. ResultIs c.truth.result (rules.truth ls p) x.type y.type) (c.are_ordered.ensures x y a b) (c.truth.ensures x.type y.type ls))

pub returns-in-Equality : goal.returns-in-Equality
returns-in-Equality c = λ x y a b ls laid.
    subst (λ (q : Class). ResultIs c.truth-in-Equality.result (rules.result_type ls (class_of q) x y) x.type y.type) (sym c.in-Equality.is)
    (subst (λ p. ResultIs c.truth-in-Equality.result (rules.truth ls p) x.type y.type) (c.are_equated.ensures x y a b) (c.truth-in-Equality.ensures x.type y.type ls))

pub returns-in-AndThen : goal.returns-in-AndThen
returns-in-AndThen c = λ x y a b ls laid.
    subst (λ (q : Class). ResultIs c.truth-in-AndThen.result (rules.result_type ls (class_of q) x y) x.type y.type) (sym c.in-AndThen.is)
    (subst (λ p. ResultIs c.truth-in-AndThen.result (rules.truth ls p) x.type y.type)
    (c.are_scalar.ensures c.args.table.now x.type y.type (c.kind_of-left_kind.ensures x.type a.type) (c.kind_of-right_kind.ensures y.type b.type)) (c.truth-in-AndThen.ensures x.type y.type ls))

pub returns-in-OrElse : goal.returns-in-OrElse
returns-in-OrElse c = λ x y a b ls laid.
    subst (λ (q : Class). ResultIs c.truth-in-OrElse.result (rules.result_type ls (class_of q) x y) x.type y.type) (sym c.in-OrElse.is)
    (subst (λ p. ResultIs c.truth-in-OrElse.result (rules.truth ls p) x.type y.type)
    (c.are_scalar-in-OrElse.ensures c.args.table.now x.type y.type (c.kind_of-left_kind.ensures x.type a.type) (c.kind_of-right_kind.ensures y.type b.type)) (c.truth-in-OrElse.ensures x.type y.type ls))
