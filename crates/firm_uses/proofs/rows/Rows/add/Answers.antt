use Rattle.std.proofs.Common.{◌≡◌, ◌∷◌, [], ◌++◌, ◌∙◌, ap, ap₂, map, refl, arith}
use Rattle.firm_uses.specs.Tables.{Table}
use Rattle.firm_uses.specs.declared.rows.Row.{Row}
use Rattle.firm_uses.specs.Held.{seen, front}
use Rattle.firm_uses.proofs.HeldLaws.{made, added_rows}
use Rattle.firm_uses.proofs.rows.Rows.add.Goals as goal

pub returns-clause-ok : goal.returns-clause-ok
returns-clause-ok c =
    let rows = c.self.inside.rows.items in
    let next : Row = record { span = c.in_ok-span.span; len = 0 } in
    let pushed : c.push.new.self.items ≡ rows ++ next ∷ [] =
    made c.push.result _ _ _ (c.push.ensures.succeeds (omega (arith, c.in_ok-reserve.ensures.ok))) c.push.ensures.items ∙ ap (λ l. l ++ next ∷ []) c.reserve.ensures.items in
    ap₂ (λ ls rs. map (seen front ls) rs) c.in_ok-span.ensures.pushed pushed ∙ added_rows c.self.inside.numbers.lists rows [] next c.self.invariant refl
    ∙ ap (λ (t : Table). t.rows ++ [] ∷ []) c.self.view_is
