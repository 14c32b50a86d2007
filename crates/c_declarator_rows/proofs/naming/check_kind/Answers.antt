use Rattle.std.proofs.Common.{◌++◌, ap, ◌∙◌}
use Rattle.c_typing.specs.Rules.{broken_if, local_array_or_struct}
use Rattle.c_names.specs.Names.{entity_of}
use Rattle.c_declarator_rows.specs.Naming.{kind_faults}
use Rattle.c_declarator_rows.proofs.naming.check_kind.Goals as goal

pub returns-then-is_incomplete_object : goal.returns-then-is_incomplete_object
returns-then-is_incomplete_object c = λ ls t laid is.
    let n = c.args.node in
    let local = local_array_or_struct t n in (
      local,
      ap (λ x. kind_faults ls t n (entity_of x)) c.in-Automatic.is
          ∙ ap (λ fs. fs ++ local) (c.is_incomplete_object-in-Automatic.ensures ls t n laid is ∙ ap (λ b. broken_if b 5 n) c.if-is_incomplete_object.true),
    )
