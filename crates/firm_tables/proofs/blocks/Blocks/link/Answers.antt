use Rattle.std.proofs.Common.{ap, length}
use Rattle.cp_obstack.specs.Lists.{list_of}
use Rattle.firm_uses.specs.Tables.{Table}
use Rattle.std.proofs.Common.{◌++◌, ◌∷◌, []}
use Rattle.firm_tables.proofs.BlockLaws.{block_there, list_there, jump_there, first_there, second_there, link_jump, link_both, listed_set, listed_both, listed_ok, then_ok, then_err}
use Rattle.firm_tables.proofs.blocks.Blocks.link.Goals as goal

pub push-requires : goal.push-requires
push-requires c =
    list_there c.self.inside.preds.rows c.self.inside.rows.items c.args.self.now c.in-Jump.to.number c.self.view_is c.self.invariant.0
    (jump_there c.args.end c.in-Jump.to (length c.args.self.now) c.in-Jump.is c.requires)

pub invariant_of-self : goal.invariant_of-self
invariant_of-self c =
    let preds = c.self.inside.preds.rows in
    let rows = c.self.inside.rows.items in
    let to = c.in-Jump.to.number in
    let there = block_there preds rows c.args.self.now to c.self.view_is (jump_there c.args.end c.in-Jump.to (length c.args.self.now) c.in-Jump.is c.requires) in (
      listed_ok c.push.result (length rows) preds c.push.new.self.rows c.self.invariant.0
          (then_ok c.push.result c.push.ensures.ok (λ e. listed_set (length rows) to (list_of preds to ++ c.args.from ∷ []) preds c.push.new.self.rows c.self.invariant.0 there e))
          (then_err c.push.result c.push.ensures.err (λ e. ap (λ (t : Table). t.rows) e)),
      c.self.invariant.1,
    )

pub push_both-requires-clause-first : goal.push_both-requires-clause-first
push_both-requires-clause-first c =
    list_there c.self.inside.preds.rows c.self.inside.rows.items c.args.self.now c.in-Branch.first.number c.self.view_is c.self.invariant.0
    (first_there c.args.end c.in-Branch.field-0 c.in-Branch.first c.in-Branch.second (length c.args.self.now) c.in-Branch.is c.requires)

pub push_both-requires-clause-second : goal.push_both-requires-clause-second
push_both-requires-clause-second c =
    list_there c.self.inside.preds.rows c.self.inside.rows.items c.args.self.now c.in-Branch.second.number c.self.view_is c.self.invariant.0
    (second_there c.args.end c.in-Branch.field-0 c.in-Branch.first c.in-Branch.second (length c.args.self.now) c.in-Branch.is c.requires)

pub invariant_of-self-in-Branch : goal.invariant_of-self-in-Branch
invariant_of-self-in-Branch c =
    let preds = c.self.inside.preds.rows in
    let rows = c.self.inside.rows.items in
    let first = first_there c.args.end c.in-Branch.field-0 c.in-Branch.first c.in-Branch.second (length c.args.self.now) c.in-Branch.is c.requires in
    let second = second_there c.args.end c.in-Branch.field-0 c.in-Branch.first c.in-Branch.second (length c.args.self.now) c.in-Branch.is c.requires in (
      listed_ok c.push_both.result (length rows) preds c.push_both.new.preds.rows c.self.invariant.0
          (then_ok c.push_both.result c.push_both.ensures.ok
          (λ e. listed_both (length rows) c.args.from c.in-Branch.first.number c.in-Branch.second.number preds c.push_both.new.preds.rows c.self.invariant.0
          (block_there preds rows c.args.self.now c.in-Branch.first.number c.self.view_is first)
          (block_there preds rows c.args.self.now c.in-Branch.second.number c.self.view_is second) e))
          c.push_both.ensures.err,
      c.self.invariant.1,
    )

pub returns-in-Jump-clause-ok : goal.returns-in-Jump-clause-ok
returns-in-Jump-clause-ok c =
    then_ok c.push.result c.push.ensures.ok
    (λ e. link_jump c.self.inside.preds.rows c.push.new.self.rows c.self.inside.rows.items c.args.self.now c.args.from c.args.end c.in-Jump.to c.self.view_is c.self.invariant.0
    (jump_there c.args.end c.in-Jump.to (length c.args.self.now) c.in-Jump.is c.requires) c.in-Jump.is e)

pub returns-in-Branch-clause-ok : goal.returns-in-Branch-clause-ok
returns-in-Branch-clause-ok c =
    then_ok c.push_both.result c.push_both.ensures.ok
    (λ e. link_both c.self.inside.preds.rows c.push_both.new.preds.rows c.self.inside.rows.items c.args.self.now c.args.from c.args.end c.in-Branch.field-0 c.in-Branch.first c.in-Branch.second
    c.self.view_is c.self.invariant.0
    (first_there c.args.end c.in-Branch.field-0 c.in-Branch.first c.in-Branch.second (length c.args.self.now) c.in-Branch.is c.requires)
    (second_there c.args.end c.in-Branch.field-0 c.in-Branch.first c.in-Branch.second (length c.args.self.now) c.in-Branch.is c.requires) c.in-Branch.is e)
