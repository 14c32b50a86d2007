use Rattle.std.proofs.Common.{◌≡◌, ◌↔◌, ℕ, Some, None, subst}
use Rattle.c_types.specs.Sizes.{HasSize, IsIncomplete}
use Rattle.c_type_ids.specs.Ids.{Known}
use Rattle.c_type_ids.proofs.MeasureLaws.{size_told}
use Rattle.c_type_ids.proofs.table.TypeTable.size.Goals as goal

pub returns-clause-is : goal.returns-clause-is
returns-clause-is c = λ t layouts n laid.
    size_told c.args.self.now layouts laid c.args.id t c.size.result n
    (subst (λ (k : Known). (size : ℕ) → (c.size.result ≡ Some size) ↔ HasSize k.table c.args.id size) c.self.view_is c.size.ensures.some)
    (subst (λ (k : Known). (c.size.result ≡ None) ↔ IsIncomplete k.table c.args.id) c.self.view_is c.size.ensures.none)
