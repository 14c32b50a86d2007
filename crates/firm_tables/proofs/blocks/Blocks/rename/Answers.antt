use Rattle.std.proofs.Common.{◌≡◌, ◌∙◌, ap, sym, subst, map, length, arith}
use Rattle.std.proofs.lemmas.List.{with_items_is, length-map}
use Rattle.firm_tables.specs.Held.{blocks_from, renamed_row, AreListed}
use Rattle.firm_tables.specs.Blocks.{renamed_block}
use Rattle.firm_tables.specs.Named.{may_name}
use Rattle.firm_tables.proofs.NamedLaws.{named_unused, named_renamed}
use Rattle.firm_tables.proofs.BlockLaws.{ends_renamed}
use Rattle.firm_tables.proofs.blocks.Blocks.rename.Goals as goal

pub returns-then-not-has : goal.returns-then-not-has
returns-then-not-has c =
    let rows = c.self.inside.rows.items in
    let none : map (renamed_row c.args.old c.args.to) rows ≡ rows = named_unused rows (may_name c.self.inside.named) c.args.old c.args.to c.self.invariant.1 (sym c.has.ensures ∙ c.if-not-has.true) in
    sym c.self.view_is ∙ ap (blocks_from 0 c.self.inside.preds.rows) (sym none) ∙ ends_renamed 0 c.args.old c.args.to c.self.inside.preds.rows rows
    ∙ ap (map (renamed_block c.args.old c.args.to)) c.self.view_is

pub returns : goal.returns
returns c =
    let rows = c.self.inside.rows.items in
    let renamed : c.rename_ends.new.rows ≡ map (renamed_row c.args.old c.args.to) rows = c.rename_ends.ensures ∙ ap (map (renamed_row c.args.old c.args.to)) c.deref_mut.ensures.value in
    ap (blocks_from 0 c.self.inside.preds.rows) (with_items_is c.self.inside.rows c.rename_ends.new.rows (omega (arith, ap length renamed, length-map rows (renamed_row c.args.old c.args.to))))
    ∙ ap (blocks_from 0 c.self.inside.preds.rows) renamed ∙ ends_renamed 0 c.args.old c.args.to c.self.inside.preds.rows rows ∙ ap (map (renamed_block c.args.old c.args.to)) c.self.view_is

pub invariant_of-self : goal.invariant_of-self
invariant_of-self c =
    let rows = c.self.inside.rows.items in
    let renamed : c.rename_ends.new.rows ≡ map (renamed_row c.args.old c.args.to) rows = c.rename_ends.ensures ∙ ap (map (renamed_row c.args.old c.args.to)) c.deref_mut.ensures.value in
    let all = with_items_is c.self.inside.rows c.rename_ends.new.rows (omega (arith, ap length renamed, length-map rows (renamed_row c.args.old c.args.to))) ∙ renamed in (
      subst (λ n. AreListed n c.self.inside.preds.rows) (sym (ap length all ∙ length-map rows (renamed_row c.args.old c.args.to))) c.self.invariant.0,
      named_renamed rows _ (may_name c.self.inside.named) (may_name c.add.new.self) c.args.old c.args.to all c.self.invariant.1 c.add.ensures.others c.add.ensures.here,
    )
