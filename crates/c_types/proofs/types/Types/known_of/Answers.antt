use Rattle.std.proofs.Common.{sym, subst}
use Rattle.c_types.specs.Kept.{IsKnown}
use Rattle.c_types.proofs.ReadLaws.{basic_known}
use Rattle.c_types.proofs.types.Types.known_of.Goals as goal

pub returns-in_default : goal.returns-in_default
returns-in_default c = record {
  known = subst (IsKnown c.args.self.now c.args.kind.now) (sym c.basic_measure.ensures) (basic_known c.args.self.now c.args.kind.now c.in_default.not-Array);
  too_big = λ size e. cc;
  memory = λ e. cc;
}
