use Rattle.std.proofs.Common.{◌≡◌, List, ℕ, ap, subst, length, arith, get_or}
use Rattle.cp_obstack.specs.Lists.{list_of}
use Rattle.firm_uses.specs.Counts.{times}
use Rattle.firm_tables.specs.declared.nodes.Stored.{Stored}
use Rattle.firm_tables.specs.Nodes.{numbers}
use Rattle.firm_tables.specs.Held.{no_row, lost_times}
use Rattle.firm_tables.proofs.MemberLaws.{numbers_long}
use Rattle.firm_tables.proofs.LossLaws.{listed_within, lost_seen}
use Rattle.firm_tables.proofs.nodes.Nodes.lose_operands.Goals as goal

pub lose_at-requires-clause-there : goal.lose_at-requires-clause-there
lose_at-requires-clause-there c = λ index h.
    omega (
      arith,
      listed_within c.self.inside.rows.items c.self.inside.members c.args.block (numbers c.list.result.now) c.self.invariant.1.0 c.list.ensures index
          (omega (arith, h, numbers_long c.list.result.now)),
      ap length c.deref.ensures.value,
    )

pub returns : goal.returns
returns c =
    lost_seen c.args.block c.args.place c.self.inside.operands.uses c.self.inside.currents.uses c.lose_at.new.operands.uses c.self.inside.members c.self.inside.rows.items c.args.self.now
    (numbers c.list.result.now) c.self.view_is c.self.invariant.1.0 c.list.ensures
    (subst (λ (rows : List Stored). (n : ℕ) → list_of c.lose_at.new.operands.uses n ≡ lost_times (times n (numbers c.list.result.now)) (get_or rows n no_row).op c.args.place (list_of c.self.inside.operands.uses n))
    c.deref.ensures.value c.lose_at.ensures.lists)
