use Rattle.std.proofs.Common.{sym, ap, ◌∙◌, subst}
use Rattle.cp_driver.specs.declared.job.Stage.TheVariants.{Tree}
use Rattle.cp_driver.specs.declared.job.Task.TheVariants.{Dump}
use Rattle.cp_driver.specs.Causes.{MakeCause, fault_of_parser}
use Rattle.cp_driver.specs.Messages.{HasPlace}
use Rattle.cp_driver.proofs.TreeMakings.{tree_shown, tree_cause, tree_place}
use Rattle.cp_driver.proofs.make.dump_tree.Goals as goal

pub returns-in-Ok-clause-ok : goal.returns-in-Ok-clause-ok
returns-in-Ok-clause-ok c = tree_shown _ _ c.in_ok-tokens.ensures.found _ _ c.in-Ok.ensures.tree c.in_ok-text-in-Ok.ensures

pub returns-clause-cause : goal.returns-clause-cause
returns-clause-cause c =
    let same = c.fault_of_parser.ensures ∙ ap (λ ts. fault_of_parser c.args.bytes.now ts c.in-Err.fault) c.as_slice.ensures in
    subst (λ f. MakeCause f (Dump Tree) c.args.bytes.now) (sym same) (tree_cause _ _ c.in_ok-tokens.ensures.found c.in-Err.fault c.in-Err.ensures.syntax c.in-Err.ensures.too_deep)

pub returns-clause-place : goal.returns-clause-place
returns-clause-place c =
    let same = c.fault_of_parser.ensures ∙ ap (λ ts. fault_of_parser c.args.bytes.now ts c.in-Err.fault) c.as_slice.ensures in
    subst (HasPlace c.args.bytes.now) (sym same) (tree_place _ _ c.in_ok-tokens.ensures.found c.in-Err.fault)
