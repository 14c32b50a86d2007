use Rattle.std.proofs.Common.{◌∙◌, subst}
use Rattle.c_types.specs.Tables.{IsOpened, KeepsSizes}
use Rattle.c_types.specs.Kept.{table_of}
use Rattle.c_types.proofs.KeptLaws.{is_opened, opened_keeps, opened_kept}
use Rattle.c_types.proofs.types.Types.open_struct.Goals as goal

pub invariant_of-self-2 : goal.invariant_of-self-2
invariant_of-self-2 c = rw c.in_ok-push.ensures.items (opened_kept c.self.inside.kinds.entries c.self.inside.structs.items c.self.invariant)

pub returns-clause-sizes : goal.returns-clause-sizes
returns-clause-sizes c =
    subst (λ t. KeepsSizes t (table_of c.self.inside.kinds.entries c.push.new.self.items)) c.self.view_is
    (opened_keeps c.self.inside.kinds.entries c.self.inside.structs.items c.push.new.self.items c.in_ok-push.ensures.items)

pub returns-clause-opened : goal.returns-clause-opened
returns-clause-opened c =
    subst (λ t. IsOpened t (record { number = c.len-number.result }) (table_of c.self.inside.kinds.entries c.push.new.self.items)) c.self.view_is
    (is_opened c.self.inside.kinds.entries c.self.inside.structs.items c.push.new.self.items c.len-number.result c.in_ok-push.ensures.items (c.len-number.ensures ∙ c.self.inside.structs.ok.0))
