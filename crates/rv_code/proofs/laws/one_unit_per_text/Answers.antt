use Rattle.rv_code.proofs.UnitTexts.{one_unit}
use Rattle.rv_code.proofs.laws.one_unit_per_text.Goals as goal

pub returns : goal.returns
returns c = one_unit
